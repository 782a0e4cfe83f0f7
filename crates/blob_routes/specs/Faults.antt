-- Why requests are refused.
use Rattle.std.specs.Prelude.{◌≡◌, Result, Err, ⊤}
use Rattle.answer_text.specs.declared.refusal.Refusal.{Refusal}
use Rattle.blob_routes.specs.declared.faults.AskFault.{AskFault}
use Rattle.blob_routes.specs.declared.faults.AskFault.TheVariants.{Refused, NoMemory}

-- a refusal is the one that is defined; want of memory tells nothing
abbrev pub Refuses : {A : Type 0} → Result A Refusal → AskFault → Type 0
Refuses asked (Refused refusal) = asked ≡ Err refusal
Refuses asked NoMemory = ⊤
