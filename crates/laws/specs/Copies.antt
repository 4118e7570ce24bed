-- A copy, element by element: what is written so far is a paste, and at the end the front of the buffer is what was copied.
use Rattle.std.specs.Prelude.{ℕ, ◌+◌, ◌≤◌, ◌<◌, ◌≡◌, List, ◌++◌, length, get_or, set, take, drop}
use Rattle.std.proofs.Common.{sym, ap, ◌∙◌, arith, zero-add, add-one, length-take-le}
use Rattle.std.proofs.Math.Seq.{paste, paste-suc}
use Rattle.definitions.specs.Reply.Outcome.{written}

pub copy_next : (d s x : List ℕ) (i : ℕ) → i < length d → i < length s → x ≡ paste d 0 s i → set x i (get_or s i 0) ≡ paste d 0 s (i + 1)
copy_next d s x i h k e =
    let z : 0 + i ≡ i = zero-add i in
    rw (e, add-one) (ap (λ (n : ℕ). set (paste d 0 s i) n (get_or s i 0)) (sym z) ∙ paste-suc d 0 s i 0 (omega arith) k)

pub copy_end : (d s x : List ℕ) (k : ℕ) → k ≤ length s → x ≡ paste d 0 s k → x ≡ written (take k s) d
unfolding written
copy_end d s x k h e = e ∙ ap (λ (n : ℕ). take k s ++ drop n d) (zero-add k ∙ sym (length-take-le k s h))
