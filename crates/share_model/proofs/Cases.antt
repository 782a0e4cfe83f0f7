-- A truth value is one of two.
use Rattle.std.proofs.Common.{◌≡◌, Bool, true, false, refl}

pub by_bool : {P : Type 0} (b : Bool) → (b ≡ true → P) → (b ≡ false → P) → P
by_bool true f g = f refl
by_bool false f g = g refl
