-- Records that are looked at together.
use Rattle.std.proofs.Common.{◌≡◌, ℕ, ◌+◌, ◌-◌, ◌<◌, ◌≤◌, Bool, true, false, List, [], ◌++◌, codes, length, map, take, drop, nat_eq, nat_le, nat_lt, slice_index, slice_index_or, slice_set, if◌then◌else◌, refl, sym, ap, subst, ◌∙◌, arith, inl, inr, length-drop}
use Rattle.std.proofs.lemmas.List.{get_or-map, get_or-set_other, get_or-set_same, get_or-take, get_or_append_left, length-map, length-take-le, map-set, take-map, take_rest, drop-drop}
use Rattle.std.proofs.lemmas.Bool.{cases_eq, cond-false, le-leb, le-ltb}
use Rattle.std.proofs.lemmas.Bool.Decides.{Decides-eqb}
use Rattle.std.proofs.lemmas.Slice.Eq.{starts_is}
use Rattle.std.specs.Borrow.{Bor}
use Rattle.std.specs.Cmp.Lexicographic.{pointwise}
use Rattle.std.specs.List.{starts_with}
use Rattle.sha2.specs.Sha256.{sha224}
use Rattle.blobref.specs.Blobref.{ref_like, sha1_name, sha224_name, spelled}
use Rattle.pack_format.specs.declared.header.HeaderAt.TheVariants.{Blob}
use Rattle.pack_format.specs.Header.{header, size_field}
use Rattle.pack_format.specs.Reading.{header_at}
use Rattle.pack_format.proofs.Headers.{header_at-blob}
use Rattle.sha_lanes.specs.Message.{message_at, texts}
use Rattle.sha_lanes.proofs.Turns.{length-texts}
use Rattle.salvage_scan.specs.declared.ahead.Ahead.{Ahead}
use Rattle.salvage_scan.specs.declared.scanning.FrontAt.TheVariants as shows
use Rattle.salvage_scan.specs.Salvage.{Kept, Junk, front}
use Rattle.salvage_scan.specs.Scan.{shown}
use Rattle.salvage_scan.specs.Pieces.{is_open, wanted, seen}
use Rattle.salvage_scan.specs.Ahead.{IsKnown, AreKnown, front_known, piece}

-- a header at a place, and the bytes behind it
pub record IsRead (x : List ℕ) (bytes : List ℕ) (len size : ℕ) (said : List ℕ) : Type 0 where
  pub header : header_at x ≡ Blob said size len
  pub newer : starts_with nat_eq said sha1_name ≡ false
  pub fits : len + size ≤ length x
  pub bytes_are : bytes ≡ piece x len size

abbrev pub AreRead : List ℕ → List (List ℕ) → List ℕ → List ℕ → List ℕ → List (List ℕ) → ℕ → Type 0
AreRead x ts places lens sizes said n = (k : ℕ) → k < n
    → IsRead (drop (slice_index places k) x) (message_at ts k) (slice_index lens k) (slice_index sizes k) (slice_index_or said k [])

-- one more
pub read_more : (x : List ℕ) (ts : List (List ℕ)) (places lens sizes : List ℕ) (said : List (List ℕ)) (i : ℕ) (t : List ℕ) (place len size : ℕ) (r : List ℕ)
    → length ts ≡ 64 → length places ≡ 64 → length lens ≡ 64 → length sizes ≡ 64 → length said ≡ 64 → i < 64
    → IsRead (drop place x) t len size r → AreRead x ts places lens sizes said i
    → AreRead x (slice_set ts i t) (slice_set places i place) (slice_set lens i len) (slice_set sizes i size) (slice_set said i r) (i + 1)
read_more x ts places lens sizes said i t place len size r lt lp ll lz ls below is before k less = elim (cases_eq k i) [
  | inl e ↦
      let a : slice_index_or (slice_set ts i t) k [] ≡ t = rw e (get_or-set_same ts i t [] (omega arith)) in
      let p : slice_index (slice_set places i place) k ≡ place = rw e (get_or-set_same places i place 0 (omega arith)) in
      let l : slice_index (slice_set lens i len) k ≡ len = rw e (get_or-set_same lens i len 0 (omega arith)) in
      let z : slice_index (slice_set sizes i size) k ≡ size = rw e (get_or-set_same sizes i size 0 (omega arith)) in
      let s : slice_index_or (slice_set said i r) k [] ≡ r = rw e (get_or-set_same said i r [] (omega arith)) in
      rw (a, p, l, z, s) is
  | inr ne ↦
      let a : slice_index_or (slice_set ts i t) k [] ≡ slice_index_or ts k [] = get_or-set_other ts i k t [] ne in
      let p : slice_index (slice_set places i place) k ≡ slice_index places k = get_or-set_other places i k place 0 ne in
      let l : slice_index (slice_set lens i len) k ≡ slice_index lens k = get_or-set_other lens i k len 0 ne in
      let z : slice_index (slice_set sizes i size) k ≡ slice_index sizes k = get_or-set_other sizes i k size 0 ne in
      let s : slice_index_or (slice_set said i r) k [] ≡ slice_index_or said k [] = get_or-set_other said i k r [] ne in
      rw (a, p, l, z, s) (before k (omega arith))
]

-- the same of the code's list
pub read_one : (x : List ℕ) (blobs : List (Bor (List ℕ))) (b : Bor (List ℕ)) (places lens sizes : List ℕ) (said : List (List ℕ)) (i place len size : ℕ) (r : List ℕ)
    → length blobs ≡ 64 → length places ≡ 64 → length lens ≡ 64 → length sizes ≡ 64 → length said ≡ 64 → i < 64
    → IsRead (drop place x) b.now len size r → AreRead x (texts blobs) places lens sizes said i
    → AreRead x (texts (slice_set blobs i b)) (slice_set places i place) (slice_set lens i len) (slice_set sizes i size) (slice_set said i r) (i + 1)
read_one x blobs b places lens sizes said i place len size r lb lp ll lz ls below is before =
    subst (λ ts. AreRead x ts (slice_set places i place) (slice_set lens i len) (slice_set sizes i size) (slice_set said i r) (i + 1))
    (sym (map-set (λ m. m.now) blobs i b))
    (read_more x (texts blobs) places lens sizes said i b.now place len size r (length-texts blobs ∙ lb) lp ll lz ls below is before)

-- a header that begins so names no SHA-1
newer_name : (x said : List ℕ) (size len : ℕ) → starts_with nat_eq x (codes "[sha224-") ≡ true → header_at x ≡ Blob said size len → starts_with nat_eq said sha1_name ≡ false
unfolding header
newer_name x said size len begins is = go (starts_with nat_eq said sha1_name) refl
  where
    whole : x ≡ (codes "[" ++ said ++ size_field size) ++ drop len x
    whole = (header_at-blob x said size len is).2

    go : (older : Bool) → starts_with nat_eq said sha1_name ≡ older → older ≡ false
    go false e = refl
    go true e =
        let start : said ≡ sha1_name ++ drop 5 said = (starts_is Decides-eqb said sha1_name (starts_with nat_eq said sha1_name) refl).0 e in
        let here : starts_with nat_eq ((codes "[" ++ (sha1_name ++ drop 5 said) ++ size_field size) ++ drop len x) (codes "[sha224-") ≡ true =
        ap (λ l. starts_with nat_eq ((codes "[" ++ l ++ size_field size) ++ drop len x) (codes "[sha224-")) (sym start) ∙ sym (ap (λ l. starts_with nat_eq l (codes "[sha224-")) whole) ∙ begins in
        absurd (cc here)

-- what the code reads at a place
pub is_read : (x bytes : List ℕ) (place len size : ℕ) (r : List ℕ) → place ≤ length x → place + len + size ≤ length x
    → starts_with nat_eq (take (length x - place) (drop place x)) (codes "[sha224-") ≡ true → Blob r size len ≡ header_at (take (length x - place) (drop place x))
    → bytes ≡ take (place + len + size - (place + len)) (drop (place + len) x) → IsRead (drop place x) bytes len size r
is_read x bytes place len size r within fits begins header is =
    let wide : place + len + size - (place + len) ≡ size = omega arith in
    record {
      header = ap header_at (sym (take_rest x place)) ∙ sym header;
      newer = newer_name (drop place x) r size len (ap (λ l. starts_with nat_eq l (codes "[sha224-")) (sym (take_rest x place)) ∙ begins) (ap header_at (sym (take_rest x place)) ∙ sym header);
      fits = omega (arith, length-drop place x);
      bytes_are = is ∙ ap (λ n. take n (drop (place + len) x)) wide ∙ ap (take size) (sym (drop-drop len place x));
    }

-- their digests
pub digests_known : (x : List ℕ) (blobs : List (Bor (List ℕ))) (places lens sizes : List ℕ) (said : List (List ℕ)) (count : ℕ) (digests rest : List (List ℕ))
    → length blobs ≡ 64 → count ≤ 64 → digests ≡ map sha224 (texts (take count blobs)) → AreRead x (texts blobs) places lens sizes said count
    → (i : ℕ) → i < count
    → IsKnown (drop (slice_index places i) x) (slice_index_or said i []) (slice_index sizes i) (slice_index lens i) (slice_index_or (digests ++ rest) i [])
digests_known x blobs places lens sizes said count digests rest long most is are_read i lt =
    let ts : List (List ℕ) = texts (take count blobs) in
    let n : length ts ≡ count = length-texts (take count blobs) ∙ length-take-le count blobs (omega arith) in
    let l : length digests ≡ count = ap length is ∙ length-map ts sha224 ∙ n in
    let same : message_at ts i ≡ message_at (texts blobs) i =
    ap (λ l. message_at l i) (sym (take-map (λ m. m.now) count blobs)) ∙ get_or-take count (texts blobs) i [] lt in
    let one = are_read i lt in
    record {
      header = one.header;
      newer = one.newer;
      fits = one.fits;
      named = get_or_append_left digests rest [] i (omega arith) ∙ ap (λ l. slice_index_or l i []) is
          ∙ get_or-map sha224 ts i [] [] (omega arith) ∙ ap sha224 (same ∙ one.bytes_are);
    }

-- ---- what they tell

like_known : (x said : List ℕ) (size len : ℕ) (digest : List ℕ) → IsKnown x said size len digest → ref_like said (piece x len size) ≡ spelled sha224_name digest
unfolding ref_like
like_known x said size len digest known = rw known.newer (ap (spelled sha224_name) (sym known.named))

front_is : (x said : List ℕ) (size len : ℕ) (digest : List ℕ) → IsKnown x said size len digest
    → front x ≡ (if pointwise nat_eq (spelled sha224_name digest) said then Kept said len (piece x len size) else Junk)
unfolding front
front_is x said size len digest known =
    let fits : nat_le (len + size) (length x) ≡ true = le-leb _ _ known.fits in
    rw (known.header, fits, like_known x said size len digest known) refl

closed_known : (x said : List ℕ) (size len : ℕ) (digest : List ℕ) → IsKnown x said size len digest → is_open x ≡ false
unfolding is_open
closed_known x said size len digest known = ap (λ h. nat_lt (length x) (wanted h)) known.header ∙ le-ltb (length x) (len + size) known.fits

-- a record is found where its digest is the one that its header spells, and its first byte is junk where it isn't
pub seen_known : (last : Bool) (x said : List ℕ) (size len : ℕ) (digest : List ℕ) → IsKnown x said size len digest → front_known said size len digest ≡ seen last x
seen_known last x said size len digest known = go last
  where
    sized : length (piece x len size) ≡ size
    sized = length-take-le size (drop len x) (omega (arith, known.fits, length-drop len x))

    by : (own : Bool) → (if own then shows.Kept said len size else shows.Junk) ≡ shown (if own then Kept said len (piece x len size) else Junk)
    by true = ap (shows.Kept said len) (sym sized)
    by false = refl

    is_shown : front_known said size len digest ≡ shown (front x)
    is_shown = by (pointwise nat_eq (spelled sha224_name digest) said) ∙ sym (ap shown (front_is x said size len digest known))

    go : (b : Bool) → front_known said size len digest ≡ seen b x
    go true = is_shown
    go false = is_shown ∙ sym (cond-false _ _ _ (closed_known x said size len digest known))

-- the same of what the code reads
pub seen_there : (last : Bool) (x : List ℕ) (records : Ahead) (i at : ℕ) → AreKnown x records → i < records.count → slice_index records.places i ≡ at
    → front_known (slice_index_or records.said i []) (slice_index records.sizes i) (slice_index records.lens i) (slice_index_or records.digests i []) ≡ seen last (drop at x)
seen_there last x records i at known below here =
    seen_known last (drop (slice_index records.places i) x) _ _ _ _ (known.each i below) ∙ ap (λ k. seen last (drop k x)) here
