-- The commands, and the form of each one's lines: a row for each command (docs/commands.md).
use Rattle.std.specs.Prelude.{ℕ, Bool, true, false, if◌then◌else◌, List, [], ◌∷◌, Option, Some, None, bytes_eq, codes}
use Rattle.perkeep_words.specs.Forms.{OptionForm, Form, begins_at_dir, goes_on_with_addr}
use Rattle.perkeep_words.specs.declared.kinds.TextKind.{TextKind}
use Rattle.perkeep_words.specs.declared.kinds.TextKind.TheVariants.{Dir, Addr, Any, Blobref, Date, Name, Key, Change, Number}
use Rattle.perkeep_words.specs.declared.table.CommandName.{CommandName}
use Rattle.perkeep_words.specs.declared.table.CommandName.TheVariants.{Put, Get, Stat, List as ListBlobs, Search, Words, Query, Salvage, SearchPack, Permanode, Claim, Multi, Delete, PutFile, GetFile, Push, Pull, Load}

-- its name, whether it may change the store, its positions, how many are needed, behind which word the others are optional, its options
abbrev pub row : List ℕ → Bool → List TextKind → ℕ → Option (ℕ × List ℕ) → List OptionForm → Form
row name writes positions needed optional_after options = record {
  name = name;
  writes = writes;
  positions = positions;
  needed = needed;
  optional_after = optional_after;
  options = options;
}

abbrev pub may : List ℕ → TextKind → OptionForm
may name kind = record { name = name; kind = kind; needed = false }

abbrev pub must : List ℕ → TextKind → OptionForm
must name kind = record { name = name; kind = kind; needed = true }

-- the greatest number of refs that a line of `list` asks for
abbrev pub limit_max : ℕ
limit_max = 4194304

-- the greatest number of blobs that a line of `load` asks for, and the greatest start
abbrev pub count_max : ℕ
count_max = 100000

abbrev pub start_max : ℕ
start_max = 18446744073709551615

abbrev pub form_of : CommandName → Form
form_of Put = row (codes "put") true (Dir ∷ []) 1 None []
form_of Get = row (codes "get") false (Dir ∷ Blobref ∷ []) 2 None []
form_of Stat = row (codes "stat") false (Dir ∷ Blobref ∷ []) 2 None []
form_of ListBlobs = row (codes "list") false (Dir ∷ []) 1 None
    (may (codes "after") Blobref ∷ may (codes "limit") (Number 1 limit_max) ∷ [])
form_of Search = row (codes "search") false (Dir ∷ []) 1 None
    (must (codes "attr") Name ∷ must (codes "value") Any ∷ may (codes "at") Date ∷ [])
form_of Words = row (codes "words") false (Dir ∷ Any ∷ []) 2 None (may (codes "at") Date ∷ [])
form_of Query = row (codes "query") false (Dir ∷ []) 1 None []
form_of Salvage = row (codes "salvage") false (Dir ∷ []) 1 None []
form_of SearchPack = row (codes "search-pack") false (Name ∷ Any ∷ []) 2 None []
form_of Permanode = row (codes "permanode") true (Dir ∷ []) 1 None (must (codes "key") Key ∷ [])
form_of Claim = row (codes "claim") true (Dir ∷ Change ∷ Blobref ∷ Name ∷ Any ∷ []) 4 (Some (1, codes "del"))
    (must (codes "key") Key ∷ [])
form_of Multi = row (codes "multi") true (Dir ∷ []) 1 None (must (codes "key") Key ∷ [])
form_of Delete = row (codes "delete") true (Dir ∷ Blobref ∷ []) 2 None (must (codes "key") Key ∷ [])
form_of PutFile = row (codes "put-file") true (Dir ∷ Any ∷ []) 2 None []
form_of GetFile = row (codes "get-file") false (Dir ∷ Blobref ∷ []) 2 None []
form_of Push = row (codes "push") false (Dir ∷ Addr ∷ []) 2 None []
form_of Pull = row (codes "pull") true (Dir ∷ Addr ∷ []) 2 None []
form_of Load = row (codes "load") false (Number 1 count_max ∷ Number 0 start_max ∷ []) 2 None []

abbrev pub commands : List CommandName
commands = Put ∷ Get ∷ Stat ∷ ListBlobs ∷ Search ∷ Words ∷ Query ∷ Salvage ∷ SearchPack ∷ Permanode ∷ Claim
    ∷ Multi ∷ Delete ∷ PutFile ∷ GetFile ∷ Push ∷ Pull ∷ Load ∷ []

-- the first of these that a word names
abbrev pub named_in : List CommandName → List ℕ → Option CommandName
named_in [] word = None
named_in (name ∷ names) word = if bytes_eq (form_of name).name word then Some name else named_in names word

-- the command that a word names
abbrev pub name_of : List ℕ → Option CommandName
name_of word = named_in commands word

-- whether the command may change the store
abbrev pub writes_of : CommandName → Bool
writes_of name = (form_of name).writes

-- whether the command's lines have DIR
abbrev pub has_dir : CommandName → Bool
has_dir name = begins_at_dir (form_of name)

-- whether the command's lines have ADDR
abbrev pub has_addr : CommandName → Bool
has_addr name = goes_on_with_addr (form_of name)
