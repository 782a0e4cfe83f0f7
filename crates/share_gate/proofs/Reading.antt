-- What calls leave of a shelf that is only read, and why they stop.
use Rattle.std.proofs.Common.{◌≡◌, ℕ, true, List, [], ◌++◌, Option, Err, refl, sym, ap, ◌∙◌, arith}
use Rattle.std.specs.List.{list_any}
use Rattle.std.specs.Str.{bytes_eq}
use Rattle.edge_base.specs.Shelf.{Blob, Blobs, GetCause}
use Rattle.edge_base.specs.declared.answers.GetFault.{GetFault}
use Rattle.edge_base.specs.declared.answers.GetFault.TheVariants as getting
use Rattle.edge_base.specs.declared.shelf.Shelf.{Ghosts}
use Rattle.share_gate.specs.Building.{BuildFault, IsOnlyRead}

module _ {B : Type 0} (g : Ghosts B) where
  pub read_nothing : ((a : B) → g.puts a [] a) → (a : B) → IsOnlyRead g a a
  read_nothing nothing a = record { told = refl; later = omega arith; nothing = nothing a }

  -- runs that follow one another are a run
  abbrev pub PutsThen : Type 0
  PutsThen =
      (a b c : B) (first second : List Blob) → g.puts a first b → g.puts b second c → g.puts a (first ++ second) c

  pub read_then : PutsThen → (a b c : B) → IsOnlyRead g a b → IsOnlyRead g b c → IsOnlyRead g a c
  read_then then a b c first second = record {
    told = second.told ∙ first.told;
    later = omega (arith, first.later, second.later);
    nothing = then a b c [] [] first.nothing second.nothing;
  }

  -- a fault of a call that was made after others
  pub fault_since : (a b c : B) (refs : List (List ℕ)) (fault : GetFault) → IsOnlyRead g a b
      → BuildFault (g.content b) (g.faults b) (g.faults c) refs fault
      → BuildFault (g.content a) (g.faults a) (g.faults c) refs fault
  fault_since a b c refs getting.Disk read rose = omega (arith, read.later, rose)
  fault_since a b c refs (getting.Damaged want is) read (among, other, none) = (among, other, sym read.told ∙ none)
  fault_since a b c refs getting.NoMemory read none = tt

-- a fault of one of the refs
pub fault_of : (T : Type 0) (told : Option Blobs) (before now : ℕ) (r : List ℕ) (refs : List (List ℕ))
    (fault : GetFault) → list_any (bytes_eq r) refs ≡ true → GetCause {T = T} told before now r (Err fault)
    → BuildFault told before now refs fault
fault_of T told before now r refs getting.Disk among cause = cause
fault_of T told before now r refs (getting.Damaged want is) among (same, other, none) =
    (ap (λ x. list_any (bytes_eq x) refs) same ∙ among, (λ e. other (e ∙ same)), none)
fault_of T told before now r refs getting.NoMemory among cause = tt
