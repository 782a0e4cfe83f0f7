-- Each refusal, and each failure of the shelf, is what some fetch answered.
use Rattle.std.proofs.Common.{◌≡◌, ◌<◌, ◌+◌, ◌-◌, inl, inr, ℕ, zero, suc, Bool, true, false, cond, nat_lt, List, [], ◌∷◌, ◌++◌, length, take, drop, replicate, Contains, Option, None, Some, Result, Ok, Err, refl, sym, ap, subst, ◌∙◌, arith}
use Rattle.std.proofs.lemmas.Bool.Decides.{nat_tests}
use Rattle.std.proofs.lemmas.List.Elements.{Contains-append_right}
use Rattle.std.specs.Option.{ok_or}
use Rattle.edge_base.specs.declared.answers.GetFault.TheVariants as get_fault
use Rattle.schema_json.specs.Facts.{fact_of}
use Rattle.schema_fact.specs.Limits.{total_size}
use Rattle.schema_fact.specs.declared.kinds.Kind.{Kind}
use Rattle.schema_fact.specs.declared.parts.Part.{Part}
use Rattle.schema_fact.specs.declared.parts.Origin.{Origin}
use Rattle.schema_fact.specs.declared.parts.Origin.TheVariants.{Zeros, Blob, Tree}
use Rattle.claim_model.specs.Trees.{is_file, tree_parts}
use Rattle.file_tree.specs.declared.fault.FileFault.{FileFault}
use Rattle.file_tree.specs.declared.fault.FileFault.TheVariants.{Absent, NotAFile, Short, Deep, WriteFault, Get, NoMemory}
use Rattle.file_tree.specs.Walk.{Read, all_of, stops, opened_blob, long_tree, opened_tree, opened_file, file_parts, asked, deepest}
use Rattle.file_tree.specs.Fetching.{Fetch, is_of_run, Only, Writes, Then, Opens, IfAsked, PartsRead, ReadBy, PartRead, all, cut, ends, goes_on, opened, refused, unopened}
use Rattle.file_tree.specs.Laws.{IsAnswered, RefusalsAreAnswered}

-- among more fetches it is answered too
answered_in : (few many : List Fetch) → ((x : Fetch) → Contains few x → Contains many x) → (fault : FileFault) → IsAnswered few fault → IsAnswered many fault
answered_in few many all_in (Absent r) h = all_in (r, Ok None) h
answered_in few many all_in (NotAFile r) h = (h.0, all_in (r, Ok (Some h.0)) h.1, h.2)
answered_in few many all_in (Short r has wants) h = (h.0, all_in (r, Ok (Some h.0)) h.1, h.2, h.3)
answered_in few many all_in (Deep r) h = tt
answered_in few many all_in WriteFault h = tt
answered_in few many all_in (Get fault) h = (h.0, all_in (h.0, Err fault) h.1)
answered_in few many all_in NoMemory h = tt

by_run : (fetches : List Fetch) (fault : FileFault) → is_of_run fault ≡ true → IsAnswered fetches fault
by_run fetches (Absent r) h = absurd (cc h)
by_run fetches (NotAFile r) h = absurd (cc h)
by_run fetches (Short r has wants) h = absurd (cc h)
by_run fetches (Deep r) h = tt
by_run fetches WriteFault h = tt
by_run fetches (Get fault) h = absurd (cc h)
by_run fetches NoMemory h = tt

the_same : (x y : FileFault) → Some x ≡ Some y → x ≡ y
the_same x y e = cc e

-- each fault that ends a read of this kind is answered
abbrev Answers : (List Fetch → Read → Type 0) → Type 0
Answers Reads = (fetches : List Fetch) (read : Read) → Reads fetches read → (fault : FileFault) → read.stop ≡ Some fault → IsAnswered fetches fault

-- a read that is all of some bytes has none
all_answers : (bytes : List ℕ) (fetches : List Fetch) (read : Read) → read ≡ all_of bytes → (fault : FileFault) → read.stop ≡ Some fault → IsAnswered fetches fault
all_answers bytes fetches read is fault stop = absurd (cc (sym (ap (λ (r : Read). r.stop) is) ∙ stop))

-- one that stops at once has this
stops_answers : (this : FileFault) (fetches : List Fetch) (read : Read) → read ≡ stops this → IsAnswered fetches this → (fault : FileFault) → read.stop ≡ Some fault → IsAnswered fetches fault
stops_answers this fetches read is h fault stop = subst (IsAnswered fetches) (the_same this fault (sym (ap (λ (r : Read). r.stop) is) ∙ stop)) h

writes_answers : (bytes : List ℕ) → Answers (Writes bytes)
writes_answers bytes fetches read (all none is) fault stop = all_answers bytes fetches read is fault stop
writes_answers bytes fetches read (cut why rest run none so e) fault stop = subst (IsAnswered fetches) (the_same why fault (sym so ∙ stop)) (by_run fetches why run)

then_answers : (First More : List Fetch → Read → Type 0) → Answers First → Answers More → Answers (Then First More)
then_answers First More one other fetches read (ends why so h) fault stop = one fetches read h fault stop
then_answers First More one other fetches read (goes_on before after bytes more h k split is) fault stop =
    subst (λ (l : List Fetch). IsAnswered l fault) (sym split)
    (answered_in after (before ++ after) (Contains-append_right before after) fault (other after more k fault (sym (ap (λ (r : Read). r.stop) is) ∙ stop)))

asked_answers : (n : ℕ) (Reads : ℕ → List Fetch → Read → Type 0) → ((k : ℕ) → Answers (Reads k)) → Answers (IfAsked n Reads)
asked_answers zero Reads each = λ fetches read h. all_answers [] fetches read h.1
asked_answers (suc n) Reads each = each (suc n)

first_in : (x : Fetch) (xs : List Fetch) → Contains (x ∷ xs) x
first_in x xs = (0, omega arith, refl)

module _ {A : Type 0} (r : List ℕ) (wanted : Option (List ℕ) → Result A FileFault) (More : A → List Fetch → Read → Type 0)
    (by : (found : Option (List ℕ)) (fault : FileFault) → wanted found ≡ Err fault → IsAnswered ((r, Ok found) ∷ []) fault) (each : (x : A) → Answers (More x)) where
  same_fault : (x y : FileFault) → ◌≡◌ {A = Result A FileFault} (Err x) (Err y) → x ≡ y
  same_fault x y e = cc e

  opens_answers : Answers (Opens r wanted More)
  opens_answers fetches read (opened answer x after is so h) fault stop =
      subst (λ (l : List Fetch). IsAnswered l fault) (sym is)
      (answered_in after ((r, answer) ∷ after) (Contains-append_right ((r, answer) ∷ []) after) fault (each x after read h fault stop))
  opens_answers fetches read (refused (Ok found) this is so e) fault stop =
      stops_answers this fetches read e (subst (λ (l : List Fetch). IsAnswered l this) (sym is) (by found this so)) fault stop
  opens_answers fetches read (refused (Err get_fault.Disk) this is so e) fault stop =
      stops_answers (Get get_fault.Disk) fetches read (e ∙ ap stops (same_fault this (Get get_fault.Disk) (sym so)))
      (r, subst (λ (l : List Fetch). Contains l (r, Err get_fault.Disk)) (sym is) (first_in (r, Err get_fault.Disk) [])) fault stop
  opens_answers fetches read (refused (Err (get_fault.Damaged want other)) this is so e) fault stop =
      stops_answers (Get (get_fault.Damaged want other)) fetches read (e ∙ ap stops (same_fault this (Get (get_fault.Damaged want other)) (sym so)))
      (r, subst (λ (l : List Fetch). Contains l (r, Err (get_fault.Damaged want other))) (sym is) (first_in (r, Err (get_fault.Damaged want other)) [])) fault stop
  opens_answers fetches read (refused (Err get_fault.NoMemory) this is so e) fault stop =
      stops_answers NoMemory fetches read (e ∙ ap stops (same_fault this NoMemory (sym so))) tt fault stop
  opens_answers fetches read (unopened bytes is e) fault stop = stops_answers NoMemory fetches read e tt fault stop

-- ---- what is refused of a blob that was found, or wasn't

abbrev IsRefusal : List ℕ → Option (List ℕ) → FileFault → Type 0
IsRefusal r found fault = IsAnswered ((r, Ok found) ∷ []) fault

refusal : {A : Type 0} (r : List ℕ) (found : Option (List ℕ)) (this fault : FileFault) → ◌≡◌ {A = Result A FileFault} (Err this) (Err fault) → IsRefusal r found this → IsRefusal r found fault
refusal {A = A} r found this fault e h = subst (IsRefusal r found) (same this fault e) h
  where
    same : (x y : FileFault) → ◌≡◌ {A = Result A FileFault} (Err x) (Err y) → x ≡ y
    same x y e = cc e

is_short : (has end : ℕ) → nat_lt has end ≡ true → has < end
is_short has end h = grind (arith, nat_tests, h)

blob_refused : (r : List ℕ) (end : ℕ) (found : Option (List ℕ)) (fault : FileFault) → opened_blob found r end ≡ Err fault → IsRefusal r found fault
blob_refused r end None fault e = refusal {A = List ℕ} r None (Absent r) fault e (first_in (r, Ok None) [])
blob_refused r end (Some bytes) fault e = go (nat_lt (length bytes) end) refl e
  where
    go : (b : Bool) → nat_lt (length bytes) end ≡ b → cond b (Err (Short r (length bytes) end)) (Ok bytes) ≡ Err fault → IsRefusal r (Some bytes) fault
    go true is e = refusal {A = List ℕ} r (Some bytes) (Short r (length bytes) end) fault e (bytes, first_in (r, Ok (Some bytes)) [], inl refl, is_short (length bytes) end is)
    go false is e = absurd (cc e)

no_file : (kind : Kind) → tree_parts kind ≡ None → file_parts kind ≡ None
no_file kind none = go (is_file kind)
  where
    go : (b : Bool) → cond b (tree_parts kind) None ≡ None
    go true = none
    go false = refl

tree_refused : (r : List ℕ) (end : ℕ) (found : Option (List ℕ)) (fault : FileFault) → opened_tree found r end ≡ Err fault → IsRefusal r found fault
tree_refused r end None fault e = refusal {A = List Part} r None (Absent r) fault e (first_in (r, Ok None) [])
tree_refused r end (Some bytes) fault e = at (tree_parts (fact_of bytes).kind) refl e
  where
    go : (parts : List Part) → tree_parts (fact_of bytes).kind ≡ Some parts → (b : Bool) → nat_lt (total_size parts) end ≡ b
        → cond b (Err (Short r (total_size parts) end)) (Ok parts) ≡ Err fault → IsRefusal r (Some bytes) fault
    go parts are true is e =
        refusal {A = List Part} r (Some bytes) (Short r (total_size parts) end) fault e (bytes, first_in (r, Ok (Some bytes)) [], inr (parts, are, refl), is_short (total_size parts) end is)
    go parts are false is e = absurd (cc e)

    at : (o : Option (List Part)) → tree_parts (fact_of bytes).kind ≡ o → long_tree r end o ≡ Err fault → IsRefusal r (Some bytes) fault
    at None none e = refusal {A = List Part} r (Some bytes) (NotAFile r) fault e (bytes, first_in (r, Ok (Some bytes)) [], no_file (fact_of bytes).kind none)
    at (Some parts) are e = go parts are (nat_lt (total_size parts) end) refl e

file_refused : (r : List ℕ) (found : Option (List ℕ)) (fault : FileFault) → opened_file found r ≡ Err fault → IsRefusal r found fault
file_refused r None fault e = refusal {A = List Part} r None (Absent r) fault e (first_in (r, Ok None) [])
file_refused r (Some bytes) fault e = at (file_parts (fact_of bytes).kind) refl e
  where
    at : (o : Option (List Part)) → file_parts (fact_of bytes).kind ≡ o → ok_or o (NotAFile r) ≡ Err fault → IsRefusal r (Some bytes) fault
    at None none e = refusal {A = List Part} r (Some bytes) (NotAFile r) fault e (bytes, first_in (r, Ok (Some bytes)) [], none)
    at (Some parts) are e = absurd (cc e)

-- ---- parts

parts_answers : (F : Part → ℕ → ℕ → List Fetch → Read → Type 0) → ((part : Part) (from count : ℕ) → Answers (F part from count)) → (parts : List Part) (from count : ℕ) → Answers (PartsRead F parts from count)
parts_answers F each [] from count = λ fetches read h. all_answers [] fetches read h.1
parts_answers F each (part ∷ parts) from count =
    then_answers (IfAsked (asked part from count) (F part from)) (PartsRead F parts (from - part.size) (count - asked part from count))
    (asked_answers (asked part from count) (F part from) (each part from)) (parts_answers F each parts (from - part.size) (count - asked part from count))

origin_answers : (F : List ℕ → ℕ → ℕ → ℕ → List Fetch → Read → Type 0) → ((r : List ℕ) (end at n : ℕ) → Answers (F r end at n)) → (part : Part) (origin : Origin) (from count : ℕ) → Answers (ReadBy F part origin from count)
origin_answers F each part Zeros from count = writes_answers (replicate count 0)
origin_answers F each part (Blob r) from count =
    opens_answers r (λ found. opened_blob found r (part.offset + part.size)) (λ bytes. Writes (take count (drop (part.offset + from) bytes)))
    (blob_refused r (part.offset + part.size)) (λ bytes. writes_answers (take count (drop (part.offset + from) bytes)))
origin_answers F each part (Tree r) from count = each r (part.offset + part.size) (part.offset + from) count

part_answers : (n : ℕ) (part : Part) (from count : ℕ) → Answers (PartRead n part from count)
unfolding PartRead
part_answers zero part from count =
    origin_answers (λ r end at n. Only (stops (Deep r))) (λ r end at n fetches read h. stops_answers (Deep r) fetches read h.1 tt) part part.origin from count
part_answers (suc depth) part from count =
    origin_answers (λ r end at n. Opens r (λ found. opened_tree found r end) (λ parts. PartsRead (PartRead depth) parts at n))
    (λ r end at n. opens_answers r (λ found. opened_tree found r end) (λ parts. PartsRead (PartRead depth) parts at n) (tree_refused r end) (λ parts. parts_answers (PartRead depth) (part_answers depth) parts at n))
    part part.origin from count

pub refusals_are_answered : RefusalsAreAnswered
refusals_are_answered r fetches read fault h stop =
    opens_answers r (λ found. opened_file found r) (λ parts. PartsRead (PartRead deepest) parts 0 (total_size parts)) (file_refused r) (λ parts. parts_answers (PartRead deepest) (part_answers deepest) parts 0 (total_size parts))
    fetches read h fault stop
