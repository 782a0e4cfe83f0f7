-- In a line in which nothing is wrong, each text is what it has to be: for any form.
use Rattle.std.proofs.Common.{◌≡◌, ◌≢◌, ◌&&◌, ◌||◌, ◌+◌, ◌<◌, ◌≤◌, ℕ, zero, suc, Bool, true, false, not, cond, List, [], ◌∷◌, ◌++◌, Option, Some, None, is_some, unwrap_or, option_to_list, length, nat_le, nat_lt, bytes_eq, arith, refl, ap, sym, subst, ◌∙◌}
use Rattle.std.specs.List.{slice_get}
use Rattle.std.proofs.lemmas.Bool.{and_parts, leb-true, ltb-true}
use Rattle.std.proofs.lemmas.Slice.Eq.{bytes_eq-Decides}
use Rattle.blobref.specs.Blobref.{is_blobref}
use Rattle.claim_verify.specs.KeyName.{is_key_name}
use Rattle.schema_date.specs.Dates.{are_digits, number}
use Rattle.perkeep_words.specs.Parts.{Part}
use Rattle.perkeep_words.specs.Kinds.{within, number_within, is_right, wrong, fault_of}
use Rattle.perkeep_words.specs.Forms.{OptionForm, Form, texts_at, count_at, position_at, text_of, kind_in, is_needed, kind_of, are_of, has_positions, is_optional, is_given, are_given, has_form, faults}
use Rattle.perkeep_words.specs.Table.{form_of}
use Rattle.perkeep_words.specs.Reading.{LineSeen, IsRight, NeedsAt, NeedsOption}
use Rattle.perkeep_words.specs.declared.kinds.TextKind.{TextKind}
use Rattle.perkeep_words.specs.declared.kinds.TextKind.TheVariants.{Blobref, Name, Key, Number}
use Rattle.perkeep_words.specs.declared.kinds.TextFault.{TextFault}

neither : (a : Option TextFault) (b : List TextFault) → option_to_list a ++ b ≡ [] → (a ≡ None) × (b ≡ [])
neither None b e = (refl, e)
neither (Some fault) b e = absurd (cc)

none_first : (all : List TextFault) → slice_get all 0 ≡ None → all ≡ []
none_first [] e = refl
none_first (fault ∷ all) e = absurd (cc)

same_text : (a b : List ℕ) → Some a ≡ Some b → a ≡ b
same_text a b e = cc

not_wrong : (good : Bool) (fault : TextFault) → cond good None (Some fault) ≡ None → good ≡ true
not_wrong true fault e = refl
not_wrong false fault e = absurd (cc)

fits : (kind : TextKind) (found : Option TextKind) (text : List ℕ) → found ≡ Some kind → fault_of found text ≡ None
    → is_right kind text ≡ true
fits kind found text is right = not_wrong (is_right kind text) (wrong kind) (ap (λ k. fault_of k text) (sym is) ∙ right)

-- the k-th position of parts before which some stand
position_fits : (form : Form) (kind : TextKind) (parts : List Part) (place k : ℕ) (text : List ℕ)
    → slice_get form.positions (place + k) ≡ Some kind → faults form place parts ≡ []
    → slice_get (texts_at None parts) k ≡ Some text → is_right kind text ≡ true
position_fits form kind [] place k text at right is = absurd (cc)
position_fits form kind ((None, word) ∷ parts) place zero text at right is =
    let here = (neither (fault_of (kind_of form place None) word) (faults form (place + 1) parts) right).0 in
    let none : place + 0 ≡ place = omega arith in
    rw (← same_text word text is)
    (fits kind (slice_get form.positions place) word (ap (slice_get form.positions) (sym none) ∙ at) here)
position_fits form kind ((None, word) ∷ parts) place (suc k) text at right is =
    let more = (neither (fault_of (kind_of form place None) word) (faults form (place + 1) parts) right).1 in
    let shift : place + suc k ≡ place + 1 + k = omega arith in
    position_fits form kind parts (place + 1) k text (ap (slice_get form.positions) (sym shift) ∙ at) more is
position_fits form kind ((Some option, value) ∷ parts) place k text at right is =
    let more = (neither (fault_of (kind_of form place (Some option)) value) (faults form place parts) right).1 in
    position_fits form kind parts place k text at more is

-- the first value of an option
option_fits : (form : Form) (kind : TextKind) (option : List ℕ) (parts : List Part) (place : ℕ) (text : List ℕ)
    → kind_in form.options option ≡ Some kind → faults form place parts ≡ []
    → slice_get (texts_at (Some option) parts) 0 ≡ Some text → is_right kind text ≡ true
option_fits form kind option [] place text at right is = absurd (cc is)
option_fits form kind option ((None, word) ∷ parts) place text at right is =
    let more = (neither (fault_of (kind_of form place None) word) (faults form (place + 1) parts) right).1 in
    option_fits form kind option parts (place + 1) text at more is
option_fits form kind option ((Some other, value) ∷ parts) place text at right is =
    let both = neither (fault_of (kind_of form place (Some other)) value) (faults form place parts) right in
    go (bytes_eq other option) refl both.0 (λ later. option_fits form kind option parts place text at both.1 later) is
  where
    go : (b : Bool) → bytes_eq other option ≡ b → fault_of (kind_in form.options other) value ≡ None
        → (slice_get (texts_at (Some option) parts) 0 ≡ Some text → is_right kind text ≡ true)
        → slice_get (cond b (value ∷ []) [] ++ texts_at (Some option) parts) 0 ≡ Some text → is_right kind text ≡ true
    go true same here more first =
        let found = ap (kind_in form.options) ((bytes_eq-Decides other option).0 same) ∙ at in
        rw (← same_text value text first) (fits kind (kind_in form.options other) value found here)
    go false apart here more later = more later

pub there : (texts : List (List ℕ)) (k : ℕ) → k < length texts
    → slice_get texts k ≡ Some (unwrap_or (slice_get texts k) [])
there [] k small = absurd (omega (arith, small))
there (text ∷ texts) zero small = refl
there (text ∷ texts) (suc k) small = there texts k (omega (arith, small))

given_when : (options : List OptionForm) (option : List ℕ) (parts : List Part) → are_given options parts ≡ true
    → is_needed options option ≡ true → 0 < length (texts_at (Some option) parts)
given_when [] option parts given needed = absurd (cc needed)
given_when (o ∷ options) option parts given needed =
    let both = and_parts (is_given parts o) (are_given options parts) given in
    go (bytes_eq o.name option) refl both.0 (λ more. given_when options option parts both.1 more) needed
  where
    one : (a n : Bool) → (a && (not true || n)) ≡ true → n ≡ true
    one true true e = refl
    one true false e = absurd (cc e)
    one false n e = absurd (cc e)

    go : (b : Bool) → bytes_eq o.name option ≡ b → is_given parts o ≡ true
        → (is_needed options option ≡ true → 0 < length (texts_at (Some option) parts))
        → cond b o.needed (is_needed options option) ≡ true → 0 < length (texts_at (Some option) parts)
    go true same once more must =
        let count : ℕ = length (texts_at (Some o.name) parts) in
        let always = ap (λ n. nat_le count 1 && (not n || nat_le 1 count)) (sym must) ∙ once in
        let some = leb-true 1 count (one (nat_le count 1) (nat_le 1 count) always) in
        subst (λ name. 0 < length (texts_at (Some name) parts)) ((bytes_eq-Decides o.name option).0 same)
        (omega (arith, some))
    go false apart once more must = more must

-- as many positions are given as are needed, and each option that has to be given is
record Given (form : Form) (parts : List Part) : Type 0 where
  positions : form.needed ≤ count_at None parts
  options : are_given form.options parts ≡ true

given_of : (form : Form) (parts : List Part) → has_form form parts ≡ true → Given form parts
given_of form parts is =
    let outer = and_parts (are_of form 0 parts && has_positions form parts) (are_given form.options parts) is in
    let inner = and_parts (are_of form 0 parts) (has_positions form parts) outer.0 in
    let enough : Bool = nat_le (length form.positions) (count_at None parts) || is_optional form.optional_after parts in
    let count = and_parts (nat_le form.needed (count_at None parts)) enough inner.1 in
    record { positions = leb-true form.needed (count_at None parts) count.0; options = outer.1 }

-- the first positions of a line, as many as are needed, are there
pub position_given : (form : Form) (parts : List Part) (place : ℕ) → has_form form parts ≡ true
    → nat_lt place form.needed ≡ true
    → slice_get (texts_at None parts) place ≡ Some (position_at place parts)
position_given form parts place is needed =
    let given = given_of form parts is in
    there (texts_at None parts) place (omega (arith, given.positions, ltb-true place form.needed needed))

right_position : (line : LineSeen) (place : ℕ) (kind : TextKind) → IsRight line → NeedsAt line place kind
    → is_right kind (position_at place line.1) ≡ true
right_position line place kind right needs =
    let form = form_of line.0 in
    let none : 0 + place ≡ place = omega arith in
    position_fits form kind line.1 0 place (position_at place line.1) (ap (slice_get form.positions) none ∙ needs.1)
    (none_first (faults form 0 line.1) right.1) (position_given form line.1 place right.0 needs.0)

right_option : (line : LineSeen) (option : List ℕ) (kind : TextKind) → IsRight line → NeedsOption line option kind
    → is_right kind (text_of option line.1) ≡ true
right_option line option kind right needs =
    let form = form_of line.0 in
    let given = given_of form line.1 right.0 in
    option_fits form kind option line.1 0 (text_of option line.1) needs.1 (none_first (faults form 0 line.1) right.1)
    (there (texts_at (Some option) line.1) 0 (given_when form.options option line.1 given.options needs.0))

filled : (text : List ℕ) → nat_le 1 (length text) ≡ true → text ≢ []
filled [] some e = absurd (cc some)
filled (c ∷ text) some e = absurd (cc e)

pub blobref_there : (line : LineSeen) (place : ℕ) → IsRight line → NeedsAt line place Blobref
    → is_blobref (position_at place line.1) ≡ true
blobref_there line place right needs = right_position line place Blobref right needs

pub position_filled : (line : LineSeen) (place : ℕ) → IsRight line → NeedsAt line place Name
    → position_at place line.1 ≢ []
position_filled line place right needs = filled (position_at place line.1) (right_position line place Name right needs)

pub option_filled : (line : LineSeen) (option : List ℕ) → IsRight line → NeedsOption line option Name
    → text_of option line.1 ≢ []
option_filled line option right needs = filled (text_of option line.1) (right_option line option Name right needs)

pub option_is_key : (line : LineSeen) (option : List ℕ) → IsRight line → NeedsOption line option Key
    → is_key_name (text_of option line.1) ≡ true
option_is_key line option right needs = right_option line option Key right needs

pub number_there : (line : LineSeen) (place least most : ℕ) → IsRight line → NeedsAt line place (Number least most)
    → is_some (number_within least most (position_at place line.1)) ≡ true
number_there line place least most right needs = right_position line place (Number least most) right needs

-- a number that is read within bounds
pub number_found : (least most : ℕ) (text : List ℕ) (n : ℕ) → Some n ≡ number_within least most text
    → (n ≡ number text) × (n ≤ most)
number_found least most text n e = by (are_digits text && nat_le 1 (length text)) e
  where
    inner : (b : Bool) → (nat_le least (number text) && nat_le (number text) most) ≡ b
        → Some n ≡ cond b (Some (number text)) None → (n ≡ number text) × (n ≤ most)
    inner true fits is =
        let same : n ≡ number text = cc is in (
          same,
          subst (λ k. k ≤ most) (sym same)
              (leb-true (number text) most (and_parts (nat_le least (number text)) (nat_le (number text) most) fits).1),
        )
    inner false fits is = absurd (cc is)

    by : (b : Bool) → Some n ≡ cond b (within least most (number text)) None → (n ≡ number text) × (n ≤ most)
    by true is = inner (nat_le least (number text) && nat_le (number text) most) refl is
    by false is = absurd (cc is)
