-- A call of a closure that one, two or three `&mut` slices are lent to: that it may be made, and what it returns and leaves.
use Rattle.std.specs.Prelude.{◌≡◌}
use Rattle.std.specs.Fn.{Once}
use denote.Ref.{MutBor}

module _ {F A R : Type 0} where
  -- f may be called at a `&mut` to x
  abbrev pub TakesOne : Once F (MutBor A × Unit {0}) R → F → A → Type 0
  TakesOne g f x = (p : MutBor A) → p.now ≡ x → g.pre f (p, tt)

  -- there it may give r, and leave x'
  pub record ReturnsOne (g : Once F (MutBor A × Unit {0}) (R × (MutBor A × Unit {0}))) (f : F) (x : A) (r : R) (x' : A) : Type 0 where
    pub lent : MutBor A
    pub shows : lent.now ≡ x
    pub back : MutBor A
    pub met : g.post f (lent, tt) (r, (back, tt))
    pub leaves : back.now ≡ x'

module _ {F A B R : Type 0} where
  abbrev pub TakesTwo : Once F (MutBor A × (MutBor B × Unit {0})) R → F → A → B → Type 0
  TakesTwo g f x y = (p : MutBor A) → p.now ≡ x → (q : MutBor B) → q.now ≡ y → g.pre f (p, (q, tt))

  pub record ReturnsTwo (g : Once F (MutBor A × (MutBor B × Unit {0})) (R × (MutBor A × (MutBor B × Unit {0})))) (f : F) (x : A) (y : B) (r : R) (x' : A) (y' : B) : Type 0 where
    pub lent : MutBor A
    pub lent_2 : MutBor B
    pub shows : (lent.now ≡ x) × (lent_2.now ≡ y)
    pub back : MutBor A
    pub back_2 : MutBor B
    pub met : g.post f (lent, (lent_2, tt)) (r, (back, (back_2, tt)))
    pub leaves : (back.now ≡ x') × (back_2.now ≡ y')

module _ {F A B C R : Type 0} where
  abbrev pub TakesThree : Once F (MutBor A × (MutBor B × (MutBor C × Unit {0}))) R → F → A → B → C → Type 0
  TakesThree g f x y z = (p : MutBor A) → p.now ≡ x → (q : MutBor B) → q.now ≡ y → (s : MutBor C) → s.now ≡ z → g.pre f (p, (q, (s, tt)))

  pub record ReturnsThree (g : Once F (MutBor A × (MutBor B × (MutBor C × Unit {0}))) (R × (MutBor A × (MutBor B × (MutBor C × Unit {0}))))) (f : F) (x : A) (y : B) (z : C) (r : R) (x' : A) (y' : B) (z' : C) : Type 0 where
    pub lent : MutBor A
    pub lent_2 : MutBor B
    pub lent_3 : MutBor C
    pub shows : (lent.now ≡ x) × (lent_2.now ≡ y) × (lent_3.now ≡ z)
    pub back : MutBor A
    pub back_2 : MutBor B
    pub back_3 : MutBor C
    pub met : g.post f (lent, (lent_2, (lent_3, tt))) (r, (back, (back_2, (back_3, tt))))
    pub leaves : (back.now ≡ x') × (back_2.now ≡ y') × (back_3.now ≡ z')
