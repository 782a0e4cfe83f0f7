-- What is read where each answer is what one map of blobs has.
use Rattle.std.proofs.Common.{◌≡◌, ◌+◌, ◌-◌, ℕ, zero, suc, true, false, List, [], ◌∷◌, ◌++◌, take, drop, replicate, All, Option, None, Some, Result, Ok, Err, refl, sym, ap, subst, ◌∙◌, append_assoc, append-nil}
use Rattle.std.proofs.lemmas.Bool.{false≢true}
use Rattle.std.proofs.lemmas.List.Elements.{All-nil, All-cons, All-head, All-tail}
use Rattle.std.specs.FinMap.{get}
use Rattle.edge_base.specs.Shelf.{Blobs}
use Rattle.edge_base.specs.declared.answers.GetFault.TheVariants as get_fault
use Rattle.schema_fact.specs.Limits.{total_size}
use Rattle.schema_fact.specs.declared.parts.Part.{Part}
use Rattle.schema_fact.specs.declared.parts.Origin.{Origin}
use Rattle.schema_fact.specs.declared.parts.Origin.TheVariants.{Zeros, Blob, Tree}
use Rattle.file_tree.specs.declared.fault.FileFault.{FileFault}
use Rattle.file_tree.specs.declared.fault.FileFault.TheVariants.{Absent, NotAFile, Short, Deep, WriteFault, Get, NoMemory}
use Rattle.file_tree.specs.Walk.{Read, all_of, stops, joined, and_then, once, opened_blob, opened_tree, opened_file, if_asked, asked, walk_parts, read_by, part_read, deepest, walk}
use Rattle.file_tree.specs.Fetching.{Answer, Fetch, is_of_run, Only, Writes, Then, Opens, opened_by, IfAsked, PartsRead, ReadBy, PartRead, FileRead, is_of_walk, BeginsAs, IsAnswerOf, all, cut, ends, goes_on, opened, refused, unopened}

-- it is the read
itself : (read whole : Read) → read ≡ whole → BeginsAs read whole
itself read whole e = record { same = λ _. e; front = ([], ap (λ (r : Read). r.bytes) (sym e) ∙ sym (append-nil read.bytes)) }

-- it ended by itself before anything was read
nothing_yet : (read whole : Read) (fault : FileFault) → read ≡ stops fault → is_of_walk (Some fault) ≡ false → BeginsAs read whole
nothing_yet read whole fault e is = record {
  same = λ h. absurd (false≢true (sym is ∙ ap (λ (r : Read). is_of_walk r.stop) (sym e) ∙ h));
  front = (whole.bytes, ap (λ (r : Read). r.bytes ++ whole.bytes) (sym e));
}

cut_alone : (fault : FileFault) → is_of_run fault ≡ true → is_of_walk (Some fault) ≡ false
cut_alone (Absent r) h = absurd (false≢true h)
cut_alone (NotAFile r) h = absurd (false≢true h)
cut_alone (Short r has wants) h = absurd (false≢true h)
cut_alone (Deep r) h = absurd (false≢true h)
cut_alone WriteFault h = refl
cut_alone (Get fault) h = absurd (false≢true h)
cut_alone NoMemory h = refl

writes_as : (bytes : List ℕ) (fetches : List Fetch) (read : Read) → Writes bytes fetches read → BeginsAs read (all_of bytes)
writes_as bytes fetches read (all none e) = itself read (all_of bytes) e
writes_as bytes fetches read (cut fault rest run none stop e) = record {
  same = λ h. absurd (false≢true (sym (cut_alone fault run) ∙ ap is_of_walk (sym stop) ∙ h));
  front = (rest, e);
}

both_parts : {X : Type 0} (P : X → Type 0) (xs ys : List X) → All P (xs ++ ys) → All P xs × All P ys
both_parts P [] ys each = (All-nil P, each)
both_parts P (x ∷ xs) ys each =
    let rest = both_parts P xs ys (All-tail P x (xs ++ ys) each) in
    (All-cons P x xs (All-head P x (xs ++ ys) each) rest.0, rest.1)

-- of two reads the first is stopped
first_only : (first more : Read) (fault : FileFault) → first.stop ≡ Some fault → and_then first more ≡ first
first_only first more fault stop =
    subst (λ (s : Option FileFault). joined first.bytes s more ≡ record { bytes = first.bytes; stop = s }) (sym stop) refl

joined_front : (bytes : List ℕ) (stop : Option FileFault) (more : Read) → (rest : List ℕ) × ((joined bytes stop more).bytes ≡ bytes ++ rest)
joined_front bytes None more = (more.bytes, refl)
joined_front bytes (Some fault) more = ([], sym (append-nil bytes))

begins_first : (read first more : Read) (fault : FileFault) → read.stop ≡ Some fault → BeginsAs read first → BeginsAs read (and_then first more)
begins_first read first more fault stop b =
    let rest = joined_front first.bytes first.stop more in
    record {
      same = λ h. let e = b.same h in e ∙ sym (first_only first more fault (ap (λ (r : Read). r.stop) (sym e) ∙ stop));
      front = (b.front.0 ++ rest.0, rest.1 ∙ ap (λ (l : List ℕ). l ++ rest.0) b.front.1 ∙ append_assoc read.bytes b.front.0 rest.0);
    }

begins_after : (bytes : List ℕ) (read first next more : Read) → read ≡ record { bytes = bytes ++ next.bytes; stop = next.stop } → BeginsAs (all_of bytes) first → BeginsAs next more → BeginsAs read (and_then first more)
begins_after bytes read first next more e b d =
    subst (λ (r : Read). BeginsAs r (and_then first more)) (sym e)
    (subst (λ (r : Read). BeginsAs (record { bytes = bytes ++ next.bytes; stop = next.stop }) (and_then r more)) (b.same refl) (record {
      same = λ h. ap (λ (r : Read). record { bytes = bytes ++ r.bytes; stop = r.stop }) (d.same h);
      front = (d.front.0, ap (λ (l : List ℕ). bytes ++ l) d.front.1 ∙ sym (append_assoc bytes next.bytes d.front.0));
    }))

-- whatever is read in the one way begins as the other, where these are the answers
abbrev pub Follow : Blobs → (List Fetch → Read → Type 0) → Read → Type 0
Follow held Reads whole = (fetches : List Fetch) (read : Read) → All (IsAnswerOf held) fetches → Reads fetches read → BeginsAs read whole

module _ (held : Blobs) where
  only_as : (this : Read) → Follow held (Only this) this
  only_as this fetches read agree e = itself read this e.1

  then_as : (First More : List Fetch → Read → Type 0) (first more : Read) → Follow held First first → Follow held More more → Follow held (Then First More) (and_then first more)
  then_as First More first more one other fetches read agree (ends fault stop h) = begins_first read first more fault stop (one fetches read agree h)
  then_as First More first more one other fetches read agree (goes_on before after bytes next h k split e) =
      let parts = both_parts (IsAnswerOf held) before after (subst (All (IsAnswerOf held)) split agree) in
      begins_after bytes read first next more e (one before (all_of bytes) parts.0 h) (other after next parts.1 k)

  asked_as : (n : ℕ) (Reads : ℕ → List Fetch → Read → Type 0) (reads : ℕ → Read) → ((k : ℕ) → Follow held (Reads k) (reads k)) → Follow held (IfAsked n Reads) (if_asked n reads)
  asked_as zero Reads reads each = only_as (all_of [])
  asked_as (suc n) Reads reads each = each (suc n)

  module _ {A : Type 0} (r : List ℕ) (wanted : Option (List ℕ) → Result A FileFault) (More : A → List Fetch → Read → Type 0) (more : A → Read) (each : (x : A) → Follow held (More x) (more x)) where
    abbrev whole : Read
    whole = once (wanted (get held r)) more

    -- what was found is what stands there
    found_as : (found : Option (List ℕ)) → found ≡ get held r → once (wanted found) more ≡ whole
    found_as found is = ap (λ o. once (wanted o) more) is

    opened_as : (answer : Answer) (x : A) (after : List Fetch) (read : Read) → IsAnswerOf held (r, answer) → All (IsAnswerOf held) after → opened_by wanted answer ≡ Ok x → More x after read → BeginsAs read whole
    opened_as (Ok found) x after read agree rest is h =
        subst (BeginsAs read) (ap (λ e. once e more) (sym is) ∙ found_as found agree) (each x after read rest h)
    opened_as (Err get_fault.Disk) x after read agree rest is h = absurd (cc is)
    opened_as (Err (get_fault.Damaged want other)) x after read agree rest is h = absurd (cc is)
    opened_as (Err get_fault.NoMemory) x after read agree rest is h = absurd (cc is)

    same_fault : (x y : FileFault) → ◌≡◌ {A = Result A FileFault} (Err x) (Err y) → x ≡ y
    same_fault x y e = cc e

    refused_as : (answer : Answer) (fault : FileFault) (read : Read) → IsAnswerOf held (r, answer) → opened_by wanted answer ≡ Err fault → read ≡ stops fault → BeginsAs read whole
    refused_as (Ok found) fault read agree is e = itself read whole (e ∙ ap (λ e. once e more) (sym is) ∙ found_as found agree)
    refused_as (Err get_fault.Disk) fault read agree is e = nothing_yet read whole (Get get_fault.Disk) (e ∙ ap stops (same_fault fault (Get get_fault.Disk) (sym is))) refl
    refused_as (Err (get_fault.Damaged want other)) fault read agree is e =
        nothing_yet read whole (Get (get_fault.Damaged want other)) (e ∙ ap stops (same_fault fault (Get (get_fault.Damaged want other)) (sym is))) refl
    refused_as (Err get_fault.NoMemory) fault read agree is e = nothing_yet read whole NoMemory (e ∙ ap stops (same_fault fault NoMemory (sym is))) refl

    opens_as : Follow held (Opens r wanted More) whole
    opens_as fetches read agree (opened answer x after is by h) =
        let parts : All (IsAnswerOf held) ((r, answer) ∷ after) = subst (All (IsAnswerOf held)) is agree in
        opened_as answer x after read (All-head (IsAnswerOf held) (r, answer) after parts) (All-tail (IsAnswerOf held) (r, answer) after parts) by h
    opens_as fetches read agree (refused answer fault is by e) =
        refused_as answer fault read (All-head (IsAnswerOf held) (r, answer) [] (subst (All (IsAnswerOf held)) is agree)) by e
    opens_as fetches read agree (unopened bytes is e) = nothing_yet read whole NoMemory e refl

  parts_as : (F : Part → ℕ → ℕ → List Fetch → Read → Type 0) (f : Part → ℕ → ℕ → Read) → ((part : Part) (from count : ℕ) → Follow held (F part from count) (f part from count))
      → (parts : List Part) (from count : ℕ) → Follow held (PartsRead F parts from count) (walk_parts f parts from count)
  parts_as F f each [] from count = only_as (all_of [])
  parts_as F f each (part ∷ parts) from count =
      then_as (IfAsked (asked part from count) (F part from)) (PartsRead F parts (from - part.size) (count - asked part from count)) (if_asked (asked part from count) (f part from)) (walk_parts f parts (from - part.size) (count - asked part from count))
      (asked_as (asked part from count) (F part from) (f part from) (each part from))
      (parts_as F f each parts (from - part.size) (count - asked part from count))

  origin_as : (F : List ℕ → ℕ → ℕ → ℕ → List Fetch → Read → Type 0) (f : List ℕ → ℕ → ℕ → ℕ → Read) → ((r : List ℕ) (end at n : ℕ) → Follow held (F r end at n) (f r end at n))
      → (part : Part) (origin : Origin) (from count : ℕ) → Follow held (ReadBy F part origin from count) (read_by held f part origin from count)
  origin_as F f each part Zeros from count = λ fetches read agree. writes_as (replicate count 0) fetches read
  origin_as F f each part (Blob r) from count =
      opens_as r (λ found. opened_blob found r (part.offset + part.size)) (λ bytes. Writes (take count (drop (part.offset + from) bytes))) (λ bytes. all_of (take count (drop (part.offset + from) bytes)))
      (λ bytes fetches read agree. writes_as (take count (drop (part.offset + from) bytes)) fetches read)
  origin_as F f each part (Tree r) from count = each r (part.offset + part.size) (part.offset + from) count

  part_as : (n : ℕ) (part : Part) (from count : ℕ) → Follow held (PartRead n part from count) (part_read held n part from count)
  unfolding PartRead part_read
  part_as zero part from count = origin_as (λ r end at n. Only (stops (Deep r))) (λ r end at n. stops (Deep r)) (λ r end at n. only_as (stops (Deep r))) part part.origin from count
  part_as (suc depth) part from count =
      origin_as (λ r end at n. Opens r (λ found. opened_tree found r end) (λ parts. PartsRead (PartRead depth) parts at n)) (λ r end at n. once (opened_tree (get held r) r end) (λ parts. walk_parts (part_read held depth) parts at n))
      (λ r end at n. opens_as r (λ found. opened_tree found r end) (λ parts. PartsRead (PartRead depth) parts at n) (λ parts. walk_parts (part_read held depth) parts at n) (λ parts. parts_as (PartRead depth) (part_read held depth) (part_as depth) parts at n))
      part part.origin from count

  pub file_as : (r : List ℕ) → Follow held (FileRead r) (walk held r)
  file_as r =
      opens_as r (λ found. opened_file found r) (λ parts. PartsRead (PartRead deepest) parts 0 (total_size parts)) (λ parts. walk_parts (part_read held deepest) parts 0 (total_size parts))
      (λ parts. parts_as (PartRead deepest) (part_read held deepest) (part_as deepest) parts 0 (total_size parts))
