-- How many bytes are read where nothing is refused.
use Rattle.std.proofs.Common.{◌≡◌, ◌≤◌, ◌<◌, ◌+◌, ◌-◌, ℕ, zero, suc, min, Bool, true, false, cond, nat_lt, List, [], ◌∷◌, length, take, drop, Option, None, Some, Result, Ok, Err, refl, sym, ap, subst, ◌∙◌, arith, length-append}
use Rattle.std.proofs.lemmas.Bool.Decides.{nat_tests}
use Rattle.std.proofs.lemmas.List.{length-replicate}
use Rattle.std.proofs.lemmas.List.Sums.{sum_by-cons}
use Rattle.edge_base.specs.declared.answers.GetFault.TheVariants as get_fault
use Rattle.schema_json.specs.Facts.{fact_of}
use Rattle.schema_fact.specs.Limits.{total_size}
use Rattle.schema_fact.specs.declared.parts.Part.{Part}
use Rattle.schema_fact.specs.declared.parts.Origin.{Origin}
use Rattle.schema_fact.specs.declared.parts.Origin.TheVariants.{Zeros, Blob, Tree}
use Rattle.claim_model.specs.Trees.{tree_parts}
use Rattle.file_tree.specs.declared.fault.FileFault.{FileFault}
use Rattle.file_tree.specs.declared.fault.FileFault.TheVariants.{Short, Deep, NoMemory}
use Rattle.file_tree.specs.Walk.{Read, all_of, stops, opened_blob, long_tree, opened_tree, asked}
use Rattle.file_tree.specs.Fetching.{Fetch, Only, Writes, Then, Opens, IfAsked, PartsRead, ReadBy, PartRead, all, cut, ends, goes_on, opened, refused, unopened}
use Rattle.file_tree.proofs.Windows.{length-window, zero_byte}

-- a read that isn't ended has so many bytes
abbrev HasLength : (List Fetch → Read → Type 0) → ℕ → Type 0
HasLength Reads n = (fetches : List Fetch) (read : Read) → Reads fetches read → read.stop ≡ None → length read.bytes ≡ n

ended : {P : Type 0} (read : Read) (fault : FileFault) → read.stop ≡ Some fault → read.stop ≡ None → P
ended read fault stop e = absurd (cc (sym stop ∙ e))

stopped : {P : Type 0} (read : Read) (fault : FileFault) → read ≡ stops fault → read.stop ≡ None → P
stopped read fault is e = ended read fault (ap (λ (r : Read). r.stop) is) e

nothing_length : HasLength (Only (all_of [])) 0
nothing_length fetches read h e = ap (λ (r : Read). length r.bytes) h.1

writes_length : (bytes : List ℕ) (n : ℕ) → length bytes ≡ n → HasLength (Writes bytes) n
writes_length bytes n long fetches read (all none is) e = ap (λ (r : Read). length r.bytes) is ∙ long
writes_length bytes n long fetches read (cut fault rest run none stop is) e = ended read fault stop e

then_length : (First More : List Fetch → Read → Type 0) (n m : ℕ) → HasLength First n → HasLength More m → HasLength (Then First More) (n + m)
then_length First More n m h k fetches read (ends fault stop first) e = ended read fault stop e
then_length First More n m h k fetches read (goes_on before after bytes more first next split is) e =
    ap (λ (r : Read). length r.bytes) is ∙ length-append bytes more.bytes
    ∙ (λ i. h before (all_of bytes) first refl i + k after more next (sym (ap (λ (r : Read). r.stop) is) ∙ e) i)

asked_length : (Reads : ℕ → List Fetch → Read → Type 0) (n : ℕ) → ((k : ℕ) → 0 < k → k ≤ n → HasLength (Reads k) k) → HasLength (IfAsked n Reads) n
asked_length Reads zero h = nothing_length
asked_length Reads (suc n) h = h (suc n) (omega arith) (omega arith)

-- the answers that open something open what has so many bytes
opens_length : {A : Type 0} (r : List ℕ) (wanted : Option (List ℕ) → Result A FileFault) (More : A → List Fetch → Read → Type 0) (n : ℕ)
    → ((found : Option (List ℕ)) (x : A) → wanted found ≡ Ok x → HasLength (More x) n) → HasLength (Opens r wanted More) n
opens_length r wanted More n each fetches read (opened (Ok found) x after is by h) e = each found x by after read h e
opens_length r wanted More n each fetches read (opened (Err get_fault.Disk) x after is by h) e = absurd (cc by)
opens_length r wanted More n each fetches read (opened (Err (get_fault.Damaged want other)) x after is by h) e = absurd (cc by)
opens_length r wanted More n each fetches read (opened (Err get_fault.NoMemory) x after is by h) e = absurd (cc by)
opens_length r wanted More n each fetches read (refused answer fault is by stop) e = stopped read fault stop e
opens_length r wanted More n each fetches read (unopened bytes is stop) e = stopped read NoMemory stop e

abbrev IsExact : (Part → ℕ → ℕ → List Fetch → Read → Type 0) → Type 0
IsExact F = (part : Part) (from count : ℕ) → from + count ≤ part.size → HasLength (F part from count) count

within_part : (size from count n : ℕ) → 0 < count → count ≤ min n (size - from) → from + count ≤ size
within_part size from count n some le = omega (arith, some, le)

rest_within : (size from count others : ℕ) → from + count ≤ size + others → (from - size) + (count - min count (size - from)) ≤ others
rest_within size from count others le = omega (arith, le)

rest_sum : (size from count : ℕ) → min count (size - from) + (count - min count (size - from)) ≡ count
rest_sum size from count = omega arith

none_left : (from count : ℕ) → from + count ≤ 0 → 0 ≡ count
none_left from count le = omega (arith, le)

pub parts_length : (F : Part → ℕ → ℕ → List Fetch → Read → Type 0) → IsExact F → (parts : List Part) (from count : ℕ) → from + count ≤ total_size parts → HasLength (PartsRead F parts from count) count
parts_length F exact [] from count le = λ fetches read h e. nothing_length fetches read h e ∙ none_left from count le
parts_length F exact (part ∷ parts) from count le =
    let here = asked part from count in
    let first : HasLength (IfAsked here (F part from)) here = asked_length (F part from) here (λ k some small. exact part from k (within_part part.size from k count some small)) in
    let sum = sum_by-cons (λ (p : Part). p.size) part parts in
    let fits : from + count ≤ part.size + total_size parts = subst (λ (k : ℕ). from + count ≤ k) sum le in
    let rest : HasLength (PartsRead F parts (from - part.size) (count - here)) (count - here) = parts_length F exact parts (from - part.size) (count - here) (rest_within part.size from count (total_size parts) fits) in
    λ fetches read h e. then_length (IfAsked here (F part from)) (PartsRead F parts (from - part.size) (count - here)) here (count - here) first rest fetches read h e ∙ rest_sum part.size from count

not_short : (has end : ℕ) → nat_lt has end ≡ false → end ≤ has
not_short has end h = grind (arith, nat_tests, h)

window : (offset size from count len : ℕ) → from + count ≤ size → offset + size ≤ len → (offset + from) + count ≤ len
window offset size from count len le fits = omega (arith, le, fits)

-- what is opened is as long as it should be
blob_fits : (found : Option (List ℕ)) (r : List ℕ) (end : ℕ) (bytes : List ℕ) → opened_blob found r end ≡ Ok bytes → end ≤ length bytes
blob_fits None r end bytes e = absurd (cc e)
blob_fits (Some held) r end bytes e = go (nat_lt (length held) end) refl e
  where
    go : (b : Bool) → nat_lt (length held) end ≡ b → cond b (Err (Short r (length held) end)) (Ok held) ≡ Ok bytes → end ≤ length bytes
    go true is e = absurd (cc e)
    go false is e = let same : held ≡ bytes = cc e in subst (λ (l : List ℕ). end ≤ length l) same (not_short (length held) end is)

tree_fits : (found : Option (List ℕ)) (r : List ℕ) (end : ℕ) (parts : List Part) → opened_tree found r end ≡ Ok parts → end ≤ total_size parts
tree_fits None r end parts e = absurd (cc e)
tree_fits (Some held) r end parts e = at (tree_parts (fact_of held).kind) e
  where
    go : (there : List Part) (b : Bool) → nat_lt (total_size there) end ≡ b → cond b (Err (Short r (total_size there) end)) (Ok there) ≡ Ok parts → end ≤ total_size parts
    go there true is e = absurd (cc e)
    go there false is e = let same : there ≡ parts = cc e in subst (λ (ps : List Part). end ≤ total_size ps) same (not_short (total_size there) end is)

    at : (o : Option (List Part)) → long_tree r end o ≡ Ok parts → end ≤ total_size parts
    at None e = absurd (cc e)
    at (Some there) e = go there (nat_lt (total_size there) end) refl e

origin_length : (F : List ℕ → ℕ → ℕ → ℕ → List Fetch → Read → Type 0) (part : Part) (from count : ℕ) → from + count ≤ part.size → ((r : List ℕ) → HasLength (F r (part.offset + part.size) (part.offset + from) count) count)
    → (origin : Origin) → HasLength (ReadBy F part origin from count) count
origin_length F part from count le h Zeros = writes_length _ count (length-replicate count zero_byte)
origin_length F part from count le h (Blob r) =
    opens_length r (λ found. opened_blob found r (part.offset + part.size)) (λ bytes. Writes (take count (drop (part.offset + from) bytes))) count
    (λ found bytes is. writes_length (take count (drop (part.offset + from) bytes)) count (length-window bytes (part.offset + from) count (window part.offset part.size from count (length bytes) le (blob_fits found r (part.offset + part.size) bytes is))))
origin_length F part from count le h (Tree r) = h r

pub part_length : (n : ℕ) → IsExact (PartRead n)
unfolding PartRead
part_length zero part from count le =
    origin_length (λ r end at n. Only (stops (Deep r))) part from count le (λ r fetches read h e. stopped read (Deep r) h.1 e) part.origin
part_length (suc depth) part from count le =
    origin_length (λ r end at n. Opens r (λ found. opened_tree found r end) (λ parts. PartsRead (PartRead depth) parts at n)) part from count le
    (λ r. opens_length r (λ found. opened_tree found r (part.offset + part.size)) (λ parts. PartsRead (PartRead depth) parts (part.offset + from) count) count
    (λ found parts is. parts_length (PartRead depth) (part_length depth) parts (part.offset + from) count (window part.offset part.size from count (total_size parts) le (tree_fits found r (part.offset + part.size) parts is))))
    part.origin
