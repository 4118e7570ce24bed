-- What a result of code says in the definitions' words.
use Rattle.std.specs.Prelude.{Ok, Err}
use Rattle.std.specs.Prelude as P
use Rattle.definitions.specs.Refusal.{Result, refused, accepted}
use Rattle.refusal.specs.declared.Refusal.{Refusal}
use Rattle.refusal.specs.Numbers.{number_of}

abbrev pub told : {A B : Type 0} → (B → A) → P.Result B Refusal → Result A
told f (Ok x) = accepted (f x)
told f (Err e) = refused (number_of e.cause) e.place
