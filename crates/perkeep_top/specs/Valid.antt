-- A run whose words ask for a valid command ends with all done, or for want of memory (docs/commands.md).
use Rattle.std.specs.Prelude.{◌≡◌, ℕ, List, Some, Ok}
use Rattle.pack_disk.specs.Packs.{Packs}
use Rattle.perkeep_words.specs.Reading.{command_of}
use Rattle.perkeep_words.specs.declared.reading.Command.{Command}
use Rattle.top_notes.specs.Meanings.{Keys}
use Rattle.perkeep_top.specs.Run.{meaning_of, Runs}
use Rattle.perkeep_top.specs.SearchWords.{search_words_of}
use Rattle.top_frame.specs.declared.status.Status.{Status}
use Rattle.top_frame.specs.Complete.{IsCalm, IsValid, EndsWell}
use Rattle.top_frame.specs.Outside.{Outside, World}

abbrev pub ValidRunsEndWell : {D P S K C R : Type 0} → Outside D P S K C R → Keys → Type 0
ValidRunsEndWell {D} {P} {S} {K} {C} {R} o keys = (words : List (List ℕ)) (asked : Command)
    (old new : World D P S K C R) (held : Packs) (answer : Status)
    → command_of words ≡ Some (Ok asked) → IsValid o old new (meaning_of o.disk old.disk keys asked) held
    → IsCalm o old new → Runs o keys (search_words_of words) (command_of words) old new answer
    → EndsWell answer
