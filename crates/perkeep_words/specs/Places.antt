-- Where the words of a line name the folder of the store, and the address of a peer (docs/commands.md).
use Rattle.std.specs.Prelude.{◌≡◌, ◌+◌, ◌||◌, ℕ, zero, suc, Bool, true, false, not, if◌then◌else◌, List, [], ◌∷◌, ◌++◌, map, Option, Some, None, unwrap_or, is_some, length, drop, flat_map}
use Rattle.std.specs.List.{list_all}
use Rattle.perkeep_words.specs.Words.{begins_with_dash, Item, words_of, is_item, ending}
use Rattle.perkeep_words.specs.Parts.{Part, position, part_of, State, Step, start, step, parts_from}
use Rattle.perkeep_words.specs.Forms.{count_at, position_at}
use Rattle.perkeep_words.specs.Table.{has_dir, has_addr}
use Rattle.perkeep_words.specs.Reading.{LineSeen, line_of}
use Rattle.perkeep_words.specs.Serving.{serve_of}
use Rattle.perkeep_words.specs.Sharing.{share_of}
use Rattle.perkeep_words.specs.Mirroring.{mirror_of}
use Rattle.perkeep_words.specs.declared.serving.ServePlan.{ServePlan}
use Rattle.perkeep_words.specs.declared.sharing.SharePlan.{SharePlan}

-- the words are a line that has DIR, of a command, of a server, one of shares too, or of `mirror`, and this is what it
-- says of DIR
pub data SaysDir (words : List (List ℕ)) (dir : List ℕ) : Type 0 where
  OfCommand : (line : LineSeen) → line_of words ≡ Some line → has_dir line.0 ≡ true → dir ≡ position_at 0 line.1
      → SaysDir words dir
  OfServer : (plan : ServePlan) → serve_of words ≡ Some plan → dir ≡ position_at 0 (parts_from start (drop 1 words))
      → SaysDir words dir
  OfShares : (plan : SharePlan) → share_of words ≡ Some plan → dir ≡ position_at 0 (parts_from start (drop 1 words))
      → SaysDir words dir
  OfMirror : (addresses : List (List ℕ)) → mirror_of words ≡ Some addresses
      → dir ≡ position_at 0 (parts_from start (drop 1 words)) → SaysDir words dir

-- the words are a line that has ADDR, of a command or of `mirror`, and this is what it says of it, or of the first one
pub data SaysAddr (words : List (List ℕ)) (addr : List ℕ) : Type 0 where
  ToOne : (line : LineSeen) → line_of words ≡ Some line → has_addr line.0 ≡ true → addr ≡ position_at 1 line.1
      → SaysAddr words addr
  ToFirst : (addresses : List (List ℕ)) → mirror_of words ≡ Some addresses
      → addr ≡ position_at 1 (parts_from start (drop 1 words)) → SaysAddr words addr

-- A word of which the line says this, and before which so many positions stand, stands at this place in the words of
-- the line: before it stand the command's name, options and positions, and `--` with more positions if the line has it
-- so far. If it hasn't, the word begins with no dash; so one place fits at most.
pub record StandsBehind (Says : List ℕ → Type 0) (count : ℕ) (words : List (List ℕ)) (place : ℕ) : Type 0 where
  pub name : List ℕ
  pub items : List Item
  pub are_items : list_all is_item items ≡ true
  pub last : Option (List (List ℕ))
  pub word : List ℕ
  pub says : Says word
  pub closes : (is_some last || not (begins_with_dash word)) ≡ true
  pub behind : List (List ℕ)
  pub spelled : words ≡ name ∷ (flat_map words_of items ++ ending last ++ word ∷ behind)
  pub before : count_at None (map part_of items ++ map position (unwrap_or last [])) ≡ count
  pub counted : place ≡ 1 + length (flat_map words_of items ++ ending last)

-- the place is that of the word, or none where the line says it of no word
abbrev pub IsPlaceBehind : (List ℕ → Type 0) → ℕ → List (List ℕ) → Option ℕ → Type 0
IsPlaceBehind says count words None = (word : List ℕ) → says word → ⊥
IsPlaceBehind says count words (Some place) = StandsBehind says count words place

-- the place is that of DIR, the first position, or none where the words are no line that has it
abbrev pub IsDirPlace : List (List ℕ) → Option ℕ → Type 0
IsDirPlace words place = IsPlaceBehind (SaysDir words) 0 words place

-- the place is that of ADDR, the second position, or none where the words are no line that has it
abbrev pub IsAddrPlace : List (List ℕ) → Option ℕ → Type 0
IsAddrPlace words place = IsPlaceBehind (SaysAddr words) 1 words place

-- words have one place of DIR, or none, and one place of ADDR, or none
pub record OnePlaceEach : Type 0 where
  pub dir : (words : List (List ℕ)) (a b : Option ℕ) → IsDirPlace words a → IsDirPlace words b → a ≡ b
  pub addr : (words : List (List ℕ)) (a b : Option ℕ) → IsAddrPlace words a → IsAddrPlace words b → a ≡ b

abbrev pub is_position : Option Part → Bool
is_position None = false
is_position (Some part) = not (is_some part.0)

-- at a position so many positions before the one that is looked for: its place if there is none, and else what the rest
-- gives with one less
abbrev pub place_or : ℕ → ℕ → (ℕ → Option ℕ) → Option ℕ
place_or zero place rest = Some place
place_or (suc left) place rest = rest left

abbrev pub position_or : ℕ → Option Step → ℕ → (ℕ → State → Option ℕ) → Option ℕ
position_or left None place rest = None
position_or left (Some next) place rest =
    if is_position next.1 then place_or left place (λ fewer. rest fewer next.0) else rest left next.0

-- the place of the position before which so many others stand, among the words, read on from a state, the first of
-- which has this place
abbrev pub nth_position : ℕ → State → ℕ → List (List ℕ) → Option ℕ
nth_position left state place [] = None
nth_position left state place (word ∷ words) =
    position_or left (step state word) place (λ fewer next. nth_position fewer next (place + 1) words)

abbrev pub line_has_dir : Option LineSeen → Bool
line_has_dir None = false
line_has_dir (Some line) = has_dir line.0

abbrev pub line_has_addr : Option LineSeen → Bool
line_has_addr None = false
line_has_addr (Some line) = has_addr line.0

-- whether the words are a line that has DIR
abbrev pub says_dir : List (List ℕ) → Bool
says_dir words = is_some (serve_of words) || is_some (share_of words) || is_some (mirror_of words)
    || line_has_dir (line_of words)

-- whether the words are a line that has ADDR
abbrev pub says_addr : List (List ℕ) → Bool
says_addr words = is_some (mirror_of words) || line_has_addr (line_of words)

-- the place of the position before which so many others stand, if the words are a line that has it
abbrev pub place_if : Bool → ℕ → List (List ℕ) → Option ℕ
place_if has count words = if has then nth_position count start 1 (drop 1 words) else None
