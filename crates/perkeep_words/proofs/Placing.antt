-- The place that is found of a position is its place: of DIR, the first one, and of ADDR, the second one.
use Rattle.std.proofs.Common.{◌≡◌, ◌⊎◌, inl, inr, ◌+◌, ◌&&◌, ◌||◌, ℕ, zero, suc, Bool, true, false, if◌then◌else◌, List, [], ◌∷◌, ◌++◌, map, Option, Some, None, unwrap_or, is_some, not, bytes_eq, codes, flat_map, length, drop, nat_le, ◌<◌, nat_lt, arith, refl, ap, sym, subst, ◌∙◌}
use Rattle.std.specs.List.{list_all, slice_get}
use Rattle.std.proofs.lemmas.Bool.{and_parts, and_from, both_ways, cases_Bool, leb-true, not-true, not_from_false}
use Rattle.std.proofs.lemmas.List.{append_assoc, length-append}
use Rattle.perkeep_words.specs.Words.{begins_with_dash, is_option_name, Item, Apart, Joined, Position, words_of, is_item, ending}
use Rattle.perkeep_words.specs.Parts.{Part, position, part_of, State, start, Step, value_step, item_step, step, are_parts, parts_from}
use Rattle.perkeep_words.specs.Forms.{Form, texts_at, text_if, count_at, are_of, has_form, first_fault, position_at, is_dir, is_addr}
use Rattle.perkeep_words.specs.Table.{form_of, has_dir, has_addr}
use Rattle.perkeep_words.specs.Reading.{LineSeen, IsLineOf, line_of}
use Rattle.perkeep_words.specs.Serving.{serve_form, plan_in, is_serve_line, serve_of}
use Rattle.perkeep_words.specs.Sharing.{share_form, share_plan_in, is_share_line, share_of}
use Rattle.perkeep_words.specs.Mirroring.{mirror_form, is_mirror_line, addresses_in, mirror_of}
use Rattle.perkeep_words.specs.Places.{SaysDir, OfCommand, OfServer, OfShares, OfMirror, SaysAddr, ToOne, ToFirst, IsPlaceBehind, IsDirPlace, IsAddrPlace, is_position, place_or, position_or, nth_position, line_has_dir, line_has_addr, says_dir, says_addr, place_if}
use Rattle.perkeep_words.specs.declared.serving.ServePlan.{ServePlan}
use Rattle.perkeep_words.specs.declared.sharing.SharePlan.{SharePlan}
use Rattle.perkeep_words.proofs.PartReadings.{ItemCase, Closes, Waits, Whole, Refused, item_case, goes, gives, stops, value_plain, parts_agree}
use Rattle.perkeep_words.proofs.LineReadings.{readings_agree, are_read}
use Rattle.perkeep_words.proofs.Fitting.{position_given, there}

-- what is found behind a word
abbrev pub behind_step : ℕ → ℕ → List (List ℕ) → Step → Option ℕ
behind_step left place words next =
    if is_position next.1 then place_or left place (λ fewer. nth_position fewer next.0 (place + 1) words)
    else nth_position left next.0 (place + 1) words

-- one step of the search
pub onward : (left : ℕ) (state : State) (place : ℕ) (word : List ℕ) (words : List (List ℕ)) (next : Step)
    → step state word ≡ Some next
    → nth_position left state place (word ∷ words) ≡ behind_step left place words next
onward left state place word words next e =
    ap (λ o. position_or left o place (λ fewer after. nth_position fewer after (place + 1) words)) e

-- the word is found so far behind a place, with so many positions before it, with options, and perhaps `--`
record FoundAt (count : ℕ) (words : List (List ℕ)) (found : Option ℕ) (place : ℕ) (word : List ℕ) : Type 0 where
  items : List Item
  are_items : list_all is_item items ≡ true
  last : Option (List (List ℕ))
  closes : (is_some last || not (begins_with_dash word)) ≡ true
  behind : List (List ℕ)
  spelled : words ≡ flat_map words_of items ++ ending last ++ word ∷ behind
  before : count_at None (map part_of items ++ map position (unwrap_or last [])) ≡ count
  counted : found ≡ Some (place + length (flat_map words_of items ++ ending last))

-- one item more in front
in_front : (item : Item) (more count : ℕ) (words : List (List ℕ)) (found : Option ℕ) (place after : ℕ) (word : List ℕ)
    → is_item item ≡ true → place + length (words_of item) ≡ after → length (text_if None (part_of item)) + more ≡ count
    → FoundAt more words found after word → FoundAt count (words_of item ++ words) found place word
in_front item more count words found place after word valid on counts h = record {
  items = item ∷ h.items;
  are_items = and_from _ _ valid h.are_items;
  last = h.last;
  closes = h.closes;
  behind = h.behind;
  spelled = ap (λ (ws : List (List ℕ)). words_of item ++ ws) h.spelled
      ∙ regroup (words_of item) (flat_map words_of h.items) (ending h.last) (word ∷ h.behind);
  before = length-append (text_if None (part_of item))
      (texts_at None (map part_of h.items ++ map position (unwrap_or h.last [])))
      ∙ ap (λ n. length (text_if None (part_of item)) + n) h.before ∙ counts;
  counted = h.counted ∙ ap (λ n. Some n) (longer (flat_map words_of h.items) (ending h.last));
}
  where
    regroup : (a b c d : List (List ℕ)) → a ++ (b ++ c ++ d) ≡ a ++ b ++ c ++ d
    regroup a b c d = simp append_assoc

    longer : (b c : List (List ℕ)) → after + length (b ++ c) ≡ place + length (words_of item ++ b ++ c)
    longer b c =
        rw (length-append (words_of item ++ b) c, length-append (words_of item) b, length-append b c)
        (omega (arith, on))

-- what is found among words behind `--`
record FoundLast (count : ℕ) (words : List (List ℕ)) (place : ℕ) (word : List ℕ) : Type 0 where
  first : List (List ℕ)
  behind : List (List ℕ)
  spelled : words ≡ first ++ word ∷ behind
  before : count_at None (map position first) ≡ count
  counted : nth_position count (None, true) place words ≡ Some (place + length first)

-- what is found, read on from a state
FoundFrom : ℕ → Option (List ℕ) → Bool → List (List ℕ) → ℕ → List ℕ → Type 0
FoundFrom count (Some name) closed words place word =
    is_option_name name ≡ true → (before : ℕ) → before + 1 ≡ place
    → FoundAt count ((codes "--" ++ name) ∷ words) (nth_position count (Some name, closed) place words) before word
FoundFrom count None true words place word = FoundLast count words place word
FoundFrom count None false words place word = FoundAt count words (nth_position count start place words) place word

same_text : (a b : List ℕ) → Some a ≡ Some b → a ≡ b
same_text a b e = cc

-- a position among the parts
abbrev nth_text : ℕ → List Part → Option (List ℕ)
nth_text count parts = slice_get (texts_at None parts) count

-- the word of a position is found at once
here : (word : List ℕ) (words : List (List ℕ)) (found : Option ℕ) (place : ℕ) → begins_with_dash word ≡ false
    → found ≡ Some place
    → FoundAt 0 (word ∷ words) found place word
here word words found place plain e = record {
  items = [];
  are_items = refl;
  last = None;
  closes = not_from_false _ plain;
  behind = words;
  spelled = refl;
  before = refl;
  counted = e ∙ ap (λ n. Some n) (let z : place ≡ place + 0 = omega arith in z);
}

behind_dashes : (count : ℕ) (words : List (List ℕ)) (found : Option ℕ) (place : ℕ) (word : List ℕ)
    → found ≡ nth_position count (None, true) (place + 1) words → FoundLast count words (place + 1) word
    → FoundAt count (codes "--" ∷ words) found place word
behind_dashes count words found place word e h = record {
  items = [];
  are_items = refl;
  last = Some h.first;
  closes = refl;
  behind = h.behind;
  spelled = ap (λ (ws : List (List ℕ)). codes "--" ∷ ws) h.spelled;
  before = h.before;
  counted = e ∙ h.counted ∙ ap (λ n. Some n)
      (let z : place + 1 + length h.first ≡ place + length (codes "--" ∷ h.first) = omega arith in z);
}

found_value : (count : ℕ) (name word : List ℕ) (closed : Bool) (words : List (List ℕ)) (place : ℕ) (text : List ℕ)
    → (begins_with_dash word ≡ true) ⊎ (begins_with_dash word ≡ false)
    → are_parts (Some name, closed) (word ∷ words) ≡ true
    → nth_text count (parts_from (Some name, closed) (word ∷ words)) ≡ Some text
    → (are_parts start words ≡ true → nth_text count (parts_from start words) ≡ Some text
    → FoundAt count words (nth_position count start (place + 1) words) (place + 1) text)
    → FoundFrom count (Some name) closed (word ∷ words) place text
unfolding FoundFrom
found_value count name word closed words place text (inl dash) h is more =
    let steps : value_step name word ≡ None = rw dash refl in
    absurd (both_ways (are_parts (Some name, closed) (word ∷ words)) (stops (Some name, closed) word words steps) h)
found_value count name word closed words place text (inr plain) h is more = λ named before next.
    let steps = value_plain name word plain in
    let are = sym (goes (Some name, closed) word words _ steps) ∙ h in
    let rest = sym (ap (nth_text count) (gives (Some name, closed) word words _ steps)) ∙ is in
    let valid : is_item (Apart name word) ≡ true = and_from _ _ named (not_from_false _ plain) in
    subst (λ f. FoundAt count ((codes "--" ++ name) ∷ word ∷ words) f before text)
    (sym (onward count (Some name, closed) place word words _ steps))
    (in_front (Apart name word) count count words (nth_position count start (place + 1) words) before (place + 1) text
    valid (omega (arith, next)) (let z : 0 + count ≡ count = omega arith in z) (more are rest))

found_position : (count : ℕ) (text word : List ℕ) (words : List (List ℕ)) (place : ℕ) (wanted : List ℕ)
    → is_item (Position text) ≡ true → word ≡ text → item_step word ≡ Some (start, Some (position text))
    → nth_text count (parts_from start (word ∷ words)) ≡ Some wanted
    → ((fewer : ℕ) → nth_text fewer (parts_from start words) ≡ Some wanted
    → FoundAt fewer words (nth_position fewer start (place + 1) words) (place + 1) wanted)
    → FoundAt count (word ∷ words) (nth_position count start place (word ∷ words)) place wanted
found_position zero text word words place wanted valid own steps is more =
    let same : text ≡ wanted = same_text text wanted (sym (ap (nth_text 0) (gives start word words _ steps)) ∙ is) in
    let plain : begins_with_dash word ≡ false = ap begins_with_dash own ∙ not-true (begins_with_dash text) valid in
    let found =
    here word words (nth_position 0 start place (word ∷ words)) place plain
    (onward 0 start place word words _ steps) in
    subst (λ (d : List ℕ). FoundAt 0 (word ∷ words) (nth_position 0 start place (word ∷ words)) place d)
    (own ∙ same) found
found_position (suc fewer) text word words place wanted valid own steps is more =
    let rest : nth_text fewer (parts_from start words) ≡ Some wanted =
    sym (ap (nth_text (suc fewer)) (gives start word words _ steps)) ∙ is in
    subst (λ f. FoundAt (suc fewer) (word ∷ words) f place wanted)
    (sym (onward (suc fewer) start place word words _ steps))
    (subst (λ (w : List ℕ). FoundAt (suc fewer) (w ∷ words) (nth_position fewer start (place + 1) words) place wanted)
    (sym own)
    (in_front (Position text) fewer (suc fewer) words (nth_position fewer start (place + 1) words) place (place + 1)
    wanted valid refl (omega arith) (more fewer rest)))

found_whole : (count : ℕ) (item : Item) (word : List ℕ) (words : List (List ℕ)) (place : ℕ) (wanted : List ℕ)
    → is_item item ≡ true → word ∷ [] ≡ words_of item → item_step word ≡ Some (start, Some (part_of item))
    → nth_text count (parts_from start (word ∷ words)) ≡ Some wanted
    → ((fewer : ℕ) → nth_text fewer (parts_from start words) ≡ Some wanted
    → FoundAt fewer words (nth_position fewer start (place + 1) words) (place + 1) wanted)
    → FoundAt count (word ∷ words) (nth_position count start place (word ∷ words)) place wanted
found_whole count (Apart name value) word words place wanted valid spelled steps is more = absurd (cc)
found_whole count (Joined name value) word words place wanted valid spelled steps is more =
    let rest = sym (ap (nth_text count) (gives start word words _ steps)) ∙ is in
    subst (λ f. FoundAt count (word ∷ words) f place wanted) (sym (onward count start place word words _ steps))
    (subst (λ (ws : List (List ℕ)). FoundAt count (ws ++ words) (nth_position count start (place + 1) words) place
    wanted) (sym spelled)
    (in_front (Joined name value) count count words (nth_position count start (place + 1) words) place (place + 1)
    wanted valid refl (let z : 0 + count ≡ count = omega arith in z) (more count rest)))
found_whole count (Position text) word words place wanted valid spelled steps is more =
    let own : word ≡ text = cc in
    found_position count text word words place wanted valid own steps is more

found_item : (count : ℕ) (word : List ℕ) (words : List (List ℕ)) (place : ℕ) (wanted : List ℕ) → ItemCase word
    → are_parts start (word ∷ words) ≡ true → nth_text count (parts_from start (word ∷ words)) ≡ Some wanted
    → ((fewer : ℕ) (waiting : Option (List ℕ)) (closed : Bool) → are_parts (waiting, closed) words ≡ true
    → nth_text fewer (parts_from (waiting, closed) words) ≡ Some wanted
    → FoundFrom fewer waiting closed words (place + 1) wanted)
    → FoundAt count (word ∷ words) (nth_position count start place (word ∷ words)) place wanted
unfolding FoundFrom
found_item count word words place wanted (Closes spelled steps) h is more =
    let are = sym (goes start word words _ steps) ∙ h in
    let rest = sym (ap (nth_text count) (gives start word words _ steps)) ∙ is in
    subst (λ (w : List ℕ). FoundAt count (w ∷ words) (nth_position count start place (word ∷ words)) place wanted)
    (sym spelled)
    (behind_dashes count words (nth_position count start place (word ∷ words)) place wanted
    (onward count start place word words _ steps) (more count None true are rest))
found_item count word words place wanted (Waits name named spelled steps) h is more =
    let are = sym (goes start word words _ steps) ∙ h in
    let rest = sym (ap (nth_text count) (gives start word words _ steps)) ∙ is in
    subst (λ f. FoundAt count (word ∷ words) f place wanted) (sym (onward count start place word words _ steps))
    (subst (λ (w : List ℕ). FoundAt count (w ∷ words) (nth_position count (Some name, false) (place + 1) words) place
    wanted) (sym spelled) (more count (Some name) false are rest named place refl))
found_item count word words place wanted (Whole item valid spelled steps) h is more =
    let are = sym (goes start word words _ steps) ∙ h in
    found_whole count item word words place wanted valid spelled steps is (λ fewer. more fewer None false are)
found_item count word words place wanted (Refused steps) h is more =
    absurd (both_ways (are_parts start (word ∷ words)) (stops start word words steps) h)

-- behind `--` each word is a position
found_last : (count : ℕ) (word : List ℕ) (words : List (List ℕ)) (place : ℕ) (wanted : List ℕ)
    → nth_text count (parts_from (None, true) (word ∷ words)) ≡ Some wanted
    → ((fewer : ℕ) → nth_text fewer (parts_from (None, true) words) ≡ Some wanted
    → FoundLast fewer words (place + 1) wanted)
    → FoundLast count (word ∷ words) place wanted
found_last zero word words place wanted is more = record {
  first = [];
  behind = words;
  spelled = ap (λ (w : List ℕ). w ∷ words) (same_text word wanted is);
  before = refl;
  counted = ap (λ n. Some n) (let z : place ≡ place + 0 = omega arith in z);
}
found_last (suc fewer) word words place wanted is more =
    let h = more fewer is in
    record {
      first = word ∷ h.first;
      behind = h.behind;
      spelled = ap (λ (ws : List (List ℕ)). word ∷ ws) h.spelled;
      before = ap (λ n. suc n) h.before;
      counted = h.counted
          ∙ ap (λ n. Some n) (let z : place + 1 + length h.first ≡ place + length (word ∷ h.first) = omega arith in z);
    }

found_from : (words : List (List ℕ)) (count : ℕ) (waiting : Option (List ℕ)) (closed : Bool) (place : ℕ)
    (wanted : List ℕ)
    → are_parts (waiting, closed) words ≡ true → nth_text count (parts_from (waiting, closed) words) ≡ Some wanted
    → FoundFrom count waiting closed words place wanted
unfolding FoundFrom
found_from [] count waiting closed place wanted h is = absurd (cc)
found_from (word ∷ words) count (Some name) closed place wanted h is =
    found_value count name word closed words place wanted (cases_Bool (begins_with_dash word)) h is
    (found_from words count None false (place + 1) wanted)
found_from (word ∷ words) count None true place wanted h is =
    found_last count word words place wanted is
    (λ fewer rest. found_from words fewer None true (place + 1) wanted h rest)
found_from (word ∷ words) count None false place wanted h is =
    found_item count word words place wanted (item_case word) h is
    (λ fewer waiting closed. found_from words fewer waiting closed (place + 1) wanted)

-- where the parts have a form that needs the position it is found
found_in : (form : Form) (count : ℕ) (behind : List (List ℕ)) → nat_lt count form.needed ≡ true
    → are_parts start behind ≡ true
    → has_form form (parts_from start behind) ≡ true
    → FoundAt count behind (nth_position count start 1 behind) 1 (position_at count (parts_from start behind))
unfolding FoundFrom
found_in form count behind needed are is =
    found_from behind count None false 1 (position_at count (parts_from start behind)) are
    (position_given form (parts_from start behind) count is needed)

-- what is said of a position is found
record Said (count : ℕ) (words : List (List ℕ)) (word : List ℕ) : Type 0 where
  name : List ℕ
  behind : List (List ℕ)
  spelled : words ≡ name ∷ behind
  found : FoundAt count behind (nth_position count start 1 behind) 1 word

command_said : (count : ℕ) (words : List (List ℕ)) (line : LineSeen) → line_of words ≡ Some line
    → nat_lt count (form_of line.0).needed ≡ true → Said count words (position_at count line.1)
command_said count words line is needed =
    let seen : IsLineOf words line = (readings_agree words line).1 is in
    let read = are_read seen.behind line.1 (are_parts start seen.behind) refl
    ((parts_agree seen.behind line.1).0 seen.parts) in
    let form = form_of line.0 in
    record {
      name = form.name;
      behind = seen.behind;
      spelled = seen.spelled;
      found = subst
          (λ (ps : List Part). FoundAt count seen.behind (nth_position count start 1 seen.behind) 1
          (position_at count ps)) read.1 (found_in form count seen.behind needed read.0 (rw read.1 seen.form));
    }

some_if : {A : Type 0} (b : Bool) (o : Option A) (found : A) → (if b then o else None) ≡ Some found → b ≡ true
some_if true o found is = refl
some_if false o found is = absurd (cc is)

server_said : (words : List (List ℕ)) (plan : ServePlan) → serve_of words ≡ Some plan
    → Said 0 words (position_at 0 (parts_from start (drop 1 words)))
server_said [] plan is = absurd (cc is)
server_said (word ∷ behind) plan is =
    let are = are_parts start behind in
    let form = has_form serve_form (parts_from start behind) in
    let right = not (is_some (first_fault serve_form (parts_from start behind))) in
    let both = and_parts (bytes_eq word (codes "serve")) (is_serve_line behind)
    (some_if (bytes_eq word (codes "serve") && is_serve_line behind) (plan_in (parts_from start behind)) plan is) in
    let all = and_parts (are && form) right both.1 in
    let parts = and_parts are form all.0 in
    record {
      name = word;
      behind = behind;
      spelled = refl;
      found = found_in serve_form 0 behind refl parts.0 parts.1;
    }

shares_said : (words : List (List ℕ)) (plan : SharePlan) → share_of words ≡ Some plan
    → Said 0 words (position_at 0 (parts_from start (drop 1 words)))
shares_said [] plan is = absurd (cc is)
shares_said (word ∷ behind) plan is =
    let are = are_parts start behind in
    let form = has_form share_form (parts_from start behind) in
    let right = not (is_some (first_fault share_form (parts_from start behind))) in
    let both = and_parts (bytes_eq word (codes "serve-shares")) (is_share_line behind)
    (some_if (bytes_eq word (codes "serve-shares") && is_share_line behind) (share_plan_in (parts_from start behind)) plan
    is) in
    let all = and_parts (are && form) right both.1 in
    let parts = and_parts are form all.0 in
    record {
      name = word;
      behind = behind;
      spelled = refl;
      found = found_in share_form 0 behind refl parts.0 parts.1;
    }

-- the first two positions of a line of `mirror`
mirror_said : (count : ℕ) → count < 2 → (words : List (List ℕ)) (addresses : List (List ℕ))
    → mirror_of words ≡ Some addresses → Said count words (position_at count (parts_from start (drop 1 words)))
unfolding FoundFrom
mirror_said count few [] addresses is = absurd (cc is)
mirror_said count few (word ∷ behind) addresses is =
    let parts = parts_from start behind in
    let are = are_parts start behind in
    let of = are_of mirror_form 0 parts in
    let two = nat_le 2 (count_at None parts) in
    let both = and_parts (bytes_eq word (codes "mirror")) (is_mirror_line behind)
    (some_if (bytes_eq word (codes "mirror") && is_mirror_line behind) (Some (addresses_in parts)) addresses is) in
    let all = and_parts (are && of) two both.1 in
    let read = and_parts are of all.0 in
    record {
      name = word;
      behind = behind;
      spelled = refl;
      found = found_from behind count None false 1 (position_at count parts) read.0
          (there (texts_at None parts) count (omega (arith, few, leb-true 2 (count_at None parts) all.1)));
    }

said_dir : (words : List (List ℕ)) (dir : List ℕ) → SaysDir words dir → Said 0 words dir
said_dir words dir (OfCommand line is has same) =
    let needed =
    (and_parts (nat_lt 0 (form_of line.0).needed) (is_dir (slice_get (form_of line.0).positions 0)) has).0 in
    subst (λ (d : List ℕ). Said 0 words d) (sym same) (command_said 0 words line is needed)
said_dir words dir (OfServer plan is same) =
    subst (λ (d : List ℕ). Said 0 words d) (sym same) (server_said words plan is)
said_dir words dir (OfShares plan is same) =
    subst (λ (d : List ℕ). Said 0 words d) (sym same) (shares_said words plan is)
said_dir words dir (OfMirror addresses is same) =
    subst (λ (d : List ℕ). Said 0 words d) (sym same) (mirror_said 0 (omega arith) words addresses is)

said_addr : (words : List (List ℕ)) (addr : List ℕ) → SaysAddr words addr → Said 1 words addr
said_addr words addr (ToOne line is has same) =
    let needed =
    (and_parts (nat_lt 1 (form_of line.0).needed) (is_addr (slice_get (form_of line.0).positions 1)) has).0 in
    subst (λ (d : List ℕ). Said 1 words d) (sym same) (command_said 1 words line is needed)
said_addr words addr (ToFirst addresses is same) =
    subst (λ (d : List ℕ). Said 1 words d) (sym same) (mirror_said 1 (omega arith) words addresses is)

-- the place that is told stands
stands : (says : List ℕ → Type 0) (count : ℕ) (words : List (List ℕ)) (word : List ℕ) (has : Bool) → says word
    → Said count words word
    → has ≡ true → IsPlaceBehind says count words (place_if has count words)
stands says count words word has is here true_is =
    let found = here.found in
    let told : place_if has count words ≡ Some (1 + length (flat_map words_of found.items ++ ending found.last)) =
    rw true_is (ap (λ (ws : List (List ℕ)). nth_position count start 1 (drop 1 ws)) here.spelled ∙ found.counted) in
    subst (λ p. IsPlaceBehind says count words p) (sym told) (record {
      name = here.name;
      items = found.items;
      are_items = found.are_items;
      last = found.last;
      word = word;
      says = is;
      closes = found.closes;
      behind = found.behind;
      spelled = here.spelled ∙ ap (λ (ws : List (List ℕ)). here.name ∷ ws) found.spelled;
      before = found.before;
      counted = refl;
    })

-- no place is told where the line says it of no word
nowhere : (says : List ℕ → Type 0) (count : ℕ) (words : List (List ℕ)) (has : Bool) → has ≡ false
    → ((word : List ℕ) → says word → ⊥)
    → IsPlaceBehind says count words (place_if has count words)
nowhere says count words has lacks none =
    let told : place_if has count words ≡ None = rw lacks refl in
    subst (λ p. IsPlaceBehind says count words p) (sym told) none

pub dir_placed : (words : List (List ℕ)) → IsDirPlace words (place_if (says_dir words) 0 words)
dir_placed words = by_server (serve_of words) refl
  where
    -- a line of no kind has none
    none : serve_of words ≡ None → share_of words ≡ None → mirror_of words ≡ None
        → line_has_dir (line_of words) ≡ false → IsDirPlace words (place_if (says_dir words) 0 words)
    none no_server no_shares no_mirror no_command =
        nowhere (SaysDir words) 0 words (says_dir words) (rw (no_server, no_shares, no_mirror, no_command) refl) refuted
      where
        refuted : (dir : List ℕ) → SaysDir words dir → ⊥
        refuted dir (OfCommand line is has same) =
            both_ways (has_dir line.0) (sym (ap line_has_dir is) ∙ no_command) has
        refuted dir (OfServer plan is same) = let e : None ≡ Some plan = sym no_server ∙ is in absurd (cc e)
        refuted dir (OfShares plan is same) = let e : None ≡ Some plan = sym no_shares ∙ is in absurd (cc e)
        refuted dir (OfMirror addresses is same) = let e : None ≡ Some addresses = sym no_mirror ∙ is in absurd (cc e)

    at : (dir : List ℕ) → SaysDir words dir → says_dir words ≡ true
        → IsDirPlace words (place_if (says_dir words) 0 words)
    at dir says is = stands (SaysDir words) 0 words dir (says_dir words) says (said_dir words dir says) is

    command : (line : LineSeen) (b : Bool) → serve_of words ≡ None → share_of words ≡ None → mirror_of words ≡ None
        → line_of words ≡ Some line → has_dir line.0 ≡ b → IsDirPlace words (place_if (says_dir words) 0 words)
    command line true no_server no_shares no_mirror is has =
        at (position_at 0 line.1) (OfCommand line is has refl) (rw (no_server, no_shares, no_mirror, is, has) refl)
    command line false no_server no_shares no_mirror is has = none no_server no_shares no_mirror (rw (is, has) refl)

    by_command : (found : Option LineSeen) → line_of words ≡ found → serve_of words ≡ None → share_of words ≡ None
        → mirror_of words ≡ None → IsDirPlace words (place_if (says_dir words) 0 words)
    by_command None is no_server no_shares no_mirror = none no_server no_shares no_mirror (rw is refl)
    by_command (Some line) is no_server no_shares no_mirror =
        command line (has_dir line.0) no_server no_shares no_mirror is refl

    by_mirror : (found : Option (List (List ℕ))) → mirror_of words ≡ found → serve_of words ≡ None
        → share_of words ≡ None → IsDirPlace words (place_if (says_dir words) 0 words)
    by_mirror None is no_server no_shares = by_command (line_of words) refl no_server no_shares is
    by_mirror (Some addresses) is no_server no_shares =
        at (position_at 0 (parts_from start (drop 1 words))) (OfMirror addresses is refl)
        (rw (no_server, no_shares, is) refl)

    by_shares : (found : Option SharePlan) → share_of words ≡ found → serve_of words ≡ None
        → IsDirPlace words (place_if (says_dir words) 0 words)
    by_shares None is no_server = by_mirror (mirror_of words) refl no_server is
    by_shares (Some plan) is no_server =
        at (position_at 0 (parts_from start (drop 1 words))) (OfShares plan is refl) (rw (no_server, is) refl)

    by_server : (found : Option ServePlan) → serve_of words ≡ found
        → IsDirPlace words (place_if (says_dir words) 0 words)
    by_server None is = by_shares (share_of words) refl is
    by_server (Some plan) is = at (position_at 0 (parts_from start (drop 1 words))) (OfServer plan is refl) (rw is refl)

pub addr_placed : (words : List (List ℕ)) → IsAddrPlace words (place_if (says_addr words) 1 words)
addr_placed words = by_mirror (mirror_of words) refl
  where
    none : mirror_of words ≡ None → line_has_addr (line_of words) ≡ false
        → IsAddrPlace words (place_if (says_addr words) 1 words)
    none no_mirror no_command =
        nowhere (SaysAddr words) 1 words (says_addr words) (rw (no_mirror, no_command) refl) refuted
      where
        refuted : (addr : List ℕ) → SaysAddr words addr → ⊥
        refuted addr (ToOne line is has same) = both_ways (has_addr line.0) (sym (ap line_has_addr is) ∙ no_command) has
        refuted addr (ToFirst addresses is same) = let e : None ≡ Some addresses = sym no_mirror ∙ is in absurd (cc e)

    at : (addr : List ℕ) → SaysAddr words addr → says_addr words ≡ true
        → IsAddrPlace words (place_if (says_addr words) 1 words)
    at addr says is = stands (SaysAddr words) 1 words addr (says_addr words) says (said_addr words addr says) is

    command : (line : LineSeen) (b : Bool) → mirror_of words ≡ None → line_of words ≡ Some line → has_addr line.0 ≡ b
        → IsAddrPlace words (place_if (says_addr words) 1 words)
    command line true no_mirror is has =
        at (position_at 1 line.1) (ToOne line is has refl) (rw (no_mirror, is, has) refl)
    command line false no_mirror is has = none no_mirror (rw (is, has) refl)

    by_command : (found : Option LineSeen) → line_of words ≡ found → mirror_of words ≡ None
        → IsAddrPlace words (place_if (says_addr words) 1 words)
    by_command None is no_mirror = none no_mirror (rw is refl)
    by_command (Some line) is no_mirror = command line (has_addr line.0) no_mirror is refl

    by_mirror : (found : Option (List (List ℕ))) → mirror_of words ≡ found
        → IsAddrPlace words (place_if (says_addr words) 1 words)
    by_mirror None is = by_command (line_of words) refl is
    by_mirror (Some addresses) is =
        at (position_at 1 (parts_from start (drop 1 words))) (ToFirst addresses is refl) (rw is refl)
