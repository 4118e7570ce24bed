-- Answers: a refusal is no acceptance, and what an accepted answer tells of its parts.
use Rattle.std.specs.Prelude.{ℕ, ◌≡◌, refl, Bool, true, false}
use Rattle.std.proofs.Common.{ap, subst}
use Rattle.std.proofs.Math.Option.{Option, none, some}
use Rattle.definitions.specs.Refusal.{Result, refused, accepted, ◌>>=◌, refuse_if, given}
use Rattle.definitions.specs.Reply.Demand.{is_accepted}
use Rattle.laws.specs.Booleans.{T_of}

pub refused_accepted : {A : Type 0} {k place : ℕ} {a : A} → refused k place ≡ accepted a → ⊥
refused_accepted {A} e = subst (λ (r : Result A). elim r as (λ _. Type 0) [ refused k place ↦ Unit {0} | accepted a ↦ ⊥ ]) e tt

pub refused_number : {A : Type 0} (j k at place : ℕ) → ◌≡◌ {A = Result A} (refused j at) (refused k place) → j ≡ k
refused_number j k at place e = cc

pub accepted_eq : {A : Type 0} (a b : A) → accepted a ≡ accepted b → a ≡ b
accepted_eq {A} a b e = ap (λ (r : Result A). elim r as (λ _. A) [ refused k place ↦ a | accepted x ↦ x ]) e

pub is_accepted_lem : {A : Type 0} (r : Result A) (a : A) → r ≡ accepted a → is_accepted r ≡ true
unfolding is_accepted
is_accepted_lem r a e = ap is_accepted e

pub accepted_is : {A : Type 0} (r : Result A) → is_accepted r ≡ true → (a : A) × (r ≡ accepted a)
unfolding is_accepted
accepted_is (refused k place) e = absurd (T_of e)
accepted_is (accepted a) e = (a, refl)

-- the parts of an accepted answer were accepted
pub bind_parts : {A B : Type 0} (m : Result A) (f : A → Result B) (b : B) → (m >>= f) ≡ accepted b → (a : A) × (m ≡ accepted a) × (f a ≡ accepted b)
unfolding ◌>>=◌
bind_parts (refused k place) f b e = absurd (refused_accepted e)
bind_parts (accepted a) f b e = (a, refl, e)

pub not_refused : (b : Bool) (k at : ℕ) (u : Unit {0}) → refuse_if b k at ≡ accepted u → b ≡ false
unfolding refuse_if
not_refused true k at u e = absurd (refused_accepted e)
not_refused false k at u e = refl

pub given_some : {A : Type 0} (o : Option A) (k at : ℕ) (a : A) → given o k at ≡ accepted a → o ≡ some a
unfolding given
given_some none k at a e = absurd (refused_accepted e)
given_some (some b) k at a e = ap some (accepted_eq b a e)
