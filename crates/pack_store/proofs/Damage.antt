-- What is read at a row's place, and what is said where it has another ref.
use Rattle.std.proofs.Common.{◌≡◌, ℕ, List, Bool, true, false, not, Option, None, Some, Result, Ok, Err, IsErrAnd, refl, sym, subst, ◌∙◌, ap, nat_eq}
use Rattle.std.specs.Cmp.Lexicographic.{pointwise, nat_list_eq_equiv}
use Rattle.edge_base.specs.declared.answers.GetFault.{GetFault}
use Rattle.edge_base.specs.declared.answers.GetFault.TheVariants as faults
use Rattle.pack_disk.specs.Packs.{Packs}
use Rattle.pack_store.specs.Reading.{IsDamage}

pub none_told : (o : Option Packs) → ((held : Packs) → o ≡ Some held → ⊥) → o ≡ None
none_told None never = refl
none_told (Some held) never = absurd (never held refl)

-- refs of which the test says that they differ
pub unequal : (is r : List ℕ) (differs : Bool) → differs ≡ not (pointwise nat_eq is r) → differs ≡ true → is ≡ r → ⊥
unequal is r differs e set same = let bad : true ≡ false = sym set ∙ e ∙ ap not (ap (λ x. pointwise nat_eq x r) same ∙ nat_list_eq_equiv.refl r) in cc bad

damage_at : (T U : Type 0) (asked : Option (List ℕ × ℕ)) (told : Option Packs) (fault : GetFault) → IsDamage {T = T} asked told (Err fault) → IsDamage {T = U} asked told (Err fault)
damage_at T U asked told (faults.Damaged want is) damage = damage
damage_at T U asked told faults.Disk damage = tt
damage_at T U asked told faults.NoMemory damage = tt

-- an error that is passed on
pub damage_passed : (T U : Type 0) (asked : Option (List ℕ × ℕ)) (told : Option Packs) (result : Result U GetFault) (fault : GetFault) → IsErrAnd result (λ e. e ≡ fault) → IsDamage {T = T} asked told (Err fault) → IsDamage asked told result
damage_passed T U asked told (Ok x) fault is damage = absurd is
damage_passed T U asked told (Err e) fault is damage = subst (λ f. IsDamage {T = U} asked told (Err f)) (sym is) (damage_at T U asked told fault damage)
