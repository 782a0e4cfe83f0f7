-- What a run does, by its words (docs/commands.md).
use Rattle.std.specs.Prelude.{◌≡◌, ◌⊎◌, ℕ, false, List, Option, None, Some, Result, Ok, Err, unwrap_or}
use Rattle.perkeep_words.specs.Reading.{LineSeen, command_at}
use Rattle.perkeep_words.specs.Table.{writes_of}
use Rattle.perkeep_words.specs.declared.kinds.TextFault.{TextFault}
use Rattle.perkeep_words.specs.declared.kinds.TextFault.TheVariants as text
use Rattle.pack_disk.specs.declared.disk.Disk.{Ghosts as DiskGhosts}
use Rattle.schema_fact.specs.declared.kinds.What.TheVariants.{Delete}
use Rattle.perkeep_words.specs.declared.reading.Command.{Command}
use Rattle.perkeep_words.specs.declared.reading.Command.TheVariants as command
use Rattle.top_frame.specs.declared.status.Status.{Status}
use Rattle.top_frame.specs.declared.status.Status.TheVariants.{BadWords, BadInput, NoMemory}
use Rattle.top_frame.specs.declared.status.InputFault.{InputFault}
use Rattle.top_frame.specs.declared.status.InputFault.TheVariants.{BadRef, BadDate, BadNumber, BadName}
use Rattle.top_frame.specs.Frame.{Meaning, IsQuiet, Ends}
use Rattle.perkeep_top.specs.Get.{get_meaning}
use Rattle.perkeep_top.specs.GetFile.{get_file_meaning}
use Rattle.top_notes.specs.Meanings.{Keys, permanode_meaning, claim_meaning, what_of}
use Rattle.top_notes.specs.Multi.{multi_meaning}
use Rattle.perkeep_top.specs.ListRefs.{list_meaning}
use Rattle.perkeep_top.specs.Load.{load_meaning}
use Rattle.top_frame.specs.Outside.{Outside, World}
use Rattle.perkeep_top.specs.Put.{put_meaning}
use Rattle.perkeep_top.specs.Query.{query_meaning}
use Rattle.perkeep_top.specs.PutFile.{put_file_meaning}
use Rattle.perkeep_top.specs.Salvaged.{salvage_meaning}
use Rattle.perkeep_top.specs.Search.{search_meaning, search_pack_meaning}
use Rattle.perkeep_top.specs.SearchWords.{bad_words, words_meaning}
use Rattle.perkeep_top.specs.Stat.{stat_meaning}
use Rattle.top_sync.specs.Meanings.{push_meaning, pull_meaning}

-- what each command means on this disk, under the keys that accept these signatures
abbrev pub meaning_of : {D : Type 0} → DiskGhosts D → D → Keys → Command → Meaning
meaning_of g disk keys (command.Put dir) = put_meaning
meaning_of g disk keys (command.Get dir r) = get_meaning g disk r
meaning_of g disk keys (command.Stat dir r) = stat_meaning g disk r
meaning_of g disk keys (command.List dir after limit) = list_meaning g disk after limit
meaning_of g disk keys (command.Search dir attr value at) = search_meaning keys.accepts attr value at
meaning_of g disk keys (command.Words dir line at) = words_meaning keys.accepts line at
meaning_of g disk keys (command.Salvage dir) = salvage_meaning
meaning_of g disk keys (command.Permanode dir name) = permanode_meaning keys name
meaning_of g disk keys (command.Claim dir kind r attr value name) = claim_meaning keys name (what_of kind r attr value)
meaning_of g disk keys (command.Multi dir name) = multi_meaning keys name
meaning_of g disk keys (command.Delete dir r name) = claim_meaning keys name (Delete r)
meaning_of g disk keys (command.PutFile dir name) = put_file_meaning name
meaning_of g disk keys (command.GetFile dir r) = get_file_meaning g disk r
meaning_of g disk keys (command.Push dir addr) = push_meaning
meaning_of g disk keys (command.Pull dir addr) = pull_meaning
meaning_of g disk keys (command.Query dir) = query_meaning keys.accepts
meaning_of g disk keys (command.SearchPack attr value) = search_pack_meaning keys.accepts attr value
meaning_of g disk keys (command.Load count start) = load_meaning keys.accepts count start

-- what is wrong with a text, as a fault of the input
abbrev pub input_fault : TextFault → InputFault
input_fault text.BadRef = BadRef
input_fault text.BadDate = BadDate
input_fault text.BadNumber = BadNumber
input_fault text.BadName = BadName

-- How a run ends at a text that is wrong, by the search words that stand before it: where these are wrong too, that is
-- told. They are read for it, for which memory may lack.
abbrev pub IsRefusal : Option (List ℕ) → TextFault → Status → Type 0
IsRefusal None fault answer = answer ≡ BadInput (input_fault fault)
IsRefusal (Some line) fault answer =
    (answer ≡ BadInput (unwrap_or (bad_words line) (input_fault fault))) ⊎ (answer ≡ NoMemory)

-- how a run ends, by its search words and what it asks for: at words that are no line, at a text that is wrong, and
-- else by the command's meaning
abbrev pub Runs : {D P S K C R : Type 0} → Outside D P S K C R → Keys → Option (List ℕ)
    → Option (Result Command TextFault) → World D P S K C R → World D P S K C R → Status → Type 0
Runs o keys searched None old new answer = (answer ≡ BadWords) × (new ≡ old)
Runs o keys searched (Some (Err fault)) old new answer = IsRefusal searched fault answer × (new ≡ old)
Runs o keys searched (Some (Ok asked)) old new answer =
    Ends o (meaning_of o.disk old.disk keys asked) old new answer

-- a command whose line is said not to write puts nothing
abbrev pub ReadersPutNothing : {D : Type 0} → DiskGhosts D → Type 0
ReadersPutNothing {D} g = (disk : D) (keys : Keys) (line : LineSeen) → writes_of line.0 ≡ false
    → IsQuiet (meaning_of g disk keys (command_at line.0 line.1))
