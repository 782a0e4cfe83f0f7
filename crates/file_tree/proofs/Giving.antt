-- What a sink took, and why a file isn't read to its end.
use Rattle.std.proofs.Common.{◌≡◌, ◌≤◌, ℕ, List, [], ◌++◌, Option, None, Some, Result, Ok, Err, refl, sym, ap, ◌∙◌, append_assoc, append-nil, arith}
use Rattle.edge_base.specs.Edge.{SinkTook, SinkTookFront, FaultsRose}
use Rattle.edge_base.specs.Shelf.{Blob as PutBlob, Blobs}
use Rattle.edge_base.specs.declared.shelf.Shelf.{Ghosts as ShelfGhosts}
use Rattle.edge_base.proofs.Moves.{SinkTook-chain}
use Rattle.edge_base.specs.declared.answers.GetFault.{GetFault}
use Rattle.edge_base.specs.declared.answers.GetFault.TheVariants as get_fault
use Rattle.file_tree.specs.declared.fault.FileFault.{FileFault}
use Rattle.file_tree.specs.declared.fault.FileFault.TheVariants.{Absent, NotAFile, Short, Deep, WriteFault, Get, NoMemory}
use Rattle.file_tree.specs.Reading.{GetFaultCause, FaultCause, ReadCause, Rests}

pub SinkTookFront-more : (a b : Option (List ℕ)) (xs more : List ℕ) → SinkTookFront a b xs → SinkTookFront a b (xs ++ more)
SinkTookFront-more a b xs more h = (h.0, h.1 ++ more, ap (λ (l : List ℕ). l ++ more) h.2 ∙ append_assoc h.0 h.1 more, h.3)

pub SinkTookFront-after : (a b c : Option (List ℕ)) (so_far xs : List ℕ) → SinkTook a b so_far → SinkTookFront b c xs → SinkTookFront a c (so_far ++ xs)
SinkTookFront-after a b c so_far xs took h = (so_far ++ h.0, h.1, ap (λ (l : List ℕ). so_far ++ l) h.2 ∙ sym (append_assoc so_far h.0 h.1), SinkTook-chain a b c so_far h.0 took h.3)

pub SinkTook-none : (a : Option (List ℕ)) → SinkTook a a []
SinkTook-none None = refl
SinkTook-none (Some held) = ap Some (sym (append-nil held))

-- ---- causes

FaultsRose-after : (a b c : ℕ) → a ≤ b → FaultsRose b c → FaultsRose a c
FaultsRose-after a b c le rose = omega (arith, le, rose)

get_cause_after : (told held : Option Blobs) (a b c : ℕ) (fault : GetFault) → held ≡ told → a ≤ b → GetFaultCause held b c fault → GetFaultCause told a c fault
get_cause_after told held a b c get_fault.Disk is le h = FaultsRose-after a b c le h
get_cause_after told held a b c (get_fault.Damaged want other) is le h = (h.0, sym is ∙ h.1)
get_cause_after told held a b c get_fault.NoMemory is le h = h

cause_after : (told held : Option Blobs) (a b c k l m : ℕ) (fault : FileFault) → held ≡ told → a ≤ b → k ≤ l → FaultCause held b c l m fault → FaultCause told a c k m fault
cause_after told held a b c k l m (Absent r) is le sink h = tt
cause_after told held a b c k l m (NotAFile r) is le sink h = tt
cause_after told held a b c k l m (Short r has wants) is le sink h = tt
cause_after told held a b c k l m (Deep r) is le sink h = tt
cause_after told held a b c k l m WriteFault is le sink h = FaultsRose-after k l m sink h
cause_after told held a b c k l m (Get fault) is le sink h = get_cause_after told held a b c fault is le h
cause_after told held a b c k l m NoMemory is le sink h = tt

pub read_cause_after : {T : Type 0} (told held : Option Blobs) (a b c k l m : ℕ) (result : Result T FileFault) → held ≡ told → a ≤ b → k ≤ l → ReadCause held b c l m result → ReadCause told a c k m result
read_cause_after told held a b c k l m (Ok x) is le sink h = tt
read_cause_after told held a b c k l m (Err fault) is le sink h = cause_after told held a b c k l m fault is le sink h

pub rests_then : {B : Type 0} (g : ShelfGhosts B) → ((a b c : B) (first second : List PutBlob) → g.puts a first b → g.puts b second c → g.puts a (first ++ second) c)
    → (a b c : B) → Rests g a b → Rests g b c → Rests g a c
rests_then g then a b c first second = record {
  told = second.told ∙ first.told;
  later = omega (arith, first.later, second.later);
  nothing = then a b c [] [] first.nothing second.nothing;
}

pub rests_here : {B : Type 0} (g : ShelfGhosts B) → ((a : B) → g.puts a [] a) → (a : B) → Rests g a a
rests_here g nothing a = record { told = refl; later = omega arith; nothing = nothing a }
