-- Both cases of a test, and both of a declared answer, each with what it says. Assumes nothing.
use Prim.Native.Nat.{ℕ}
use mathlib.Core.Path.{◌≡◌, refl}
use mathlib.Core.Bool.{Bool, true, false}
use Rattle.reference.specs.Refusals.{Told}
use Rattle.std.specs.Prelude.{Ok, Err}
use Rattle.reference.specs.declared.Refusal.{Refusal}

pub by_test : {P : Type 0} (b : Bool) → (b ≡ true → P) → (b ≡ false → P) → P
by_test true f g = f refl
by_test false f g = g refl

pub by_answer : {P : Type 0} (x : Told) → ((n : ℕ) → x ≡ Ok n → P) → ((y : Refusal) → x ≡ Err y → P) → P
by_answer (Ok n) f g = f n refl
by_answer (Err y) f g = g y refl
