-- What `salvage` means: what is told of the packs of a disk (docs/commands.md).
use Rattle.std.specs.Prelude.{◌≡◌, ℕ, true, false, List, [], ◌++◌, Option, None, Some}
use Rattle.std.specs.Option.{ForSome}
use Rattle.std.specs.FinMap.{entries, get}
use Rattle.edge_base.specs.Edge.{SinkTook, SinkTookFront}
use Rattle.pack_disk.specs.Packs.{Packs}
use Rattle.pack_store.specs.Walk.{below, from_on}
use Rattle.perkeep_lines.specs.Outputs.{pack_report, report}
use Rattle.top_frame.specs.declared.status.InputFault.TheVariants.{TooBig}
use Rattle.top_frame.specs.declared.status.Status.{Status}
use Rattle.top_frame.specs.declared.status.Status.TheVariants as status
use Rattle.top_frame.specs.Frame.{Meaning, only_looks, reads_nothing, no_peer}

-- the text tells of all packs
abbrev pub IsReport : Option Packs → List ℕ → Type 0
IsReport told text = ForSome told (λ held. text ≡ report (entries held))

-- it is a front of such a text
abbrev pub IsReportFront : Option Packs → List ℕ → Type 0
IsReportFront told text = (rest : List ℕ) × IsReport told (text ++ rest)

-- it writes as it goes, and the disk or memory may fail in the midst of it
abbrev pub salvage_meaning : Meaning
salvage_meaning = record {
  disk = only_looks;
  input = reads_nothing;
  draws_time = false;
  draws_random = false;
  exchange = no_peer;
  bad = None;
  too_long = TooBig;
  wrong = λ input. None;
  blobs = λ given. [];
  IsOutput = λ given told bytes. IsReport told bytes;
  streams = true;
  IsPart = λ given told bytes. IsReportFront told bytes;
  Refuses = λ given told bytes gone answer. ⊥;
}

-- ---- its steps

-- the text tells of one pack
abbrev pub IsPackReport : ℕ → Option Packs → List ℕ → Type 0
IsPackReport n told text = ForSome told (λ held. (pack : List ℕ) → get held n ≡ Some pack → text ≡ pack_report (n, pack))

-- the sink took such a text, and nothing else
abbrev pub Writes : (List ℕ → Type 0) → Option (List ℕ) → Option (List ℕ) → Type 0
Writes IsText written written_now = (text : List ℕ) × IsText text × SinkTook written written_now text

-- the sink took a front of such a text
abbrev pub WritesFront : (List ℕ → Type 0) → Option (List ℕ) → Option (List ℕ) → Type 0
WritesFront IsText written written_now = (text : List ℕ) × IsText text × SinkTookFront written written_now text

-- when it stops: the last two say that the count of faults of the sink or the disk rose
abbrev pub ComesWhileTelling : Type 0 → Type 0 → Status → Type 0
ComesWhileTelling sink disk status.NoMemory = Unit {0}
ComesWhileTelling sink disk status.WriteFault = sink
ComesWhileTelling sink disk status.Disk = disk
ComesWhileTelling sink disk _ = ⊥

-- the text tells of the packs below a number
abbrev pub IsReportBelow : ℕ → Option Packs → List ℕ → Type 0
IsReportBelow next told text = ForSome told (λ held. text ≡ report (below next held))

-- the packs below a number, and the others
abbrev pub IsCutAt : ℕ → Option Packs → Type 0
IsCutAt next told = ForSome told (λ held. entries held ≡ below next held ++ from_on next held)
