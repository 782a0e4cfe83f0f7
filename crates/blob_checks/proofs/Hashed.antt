-- Blobs that are hashed together.
use Rattle.std.proofs.Common.{◌≡◌, ℕ, ◌+◌, ◌≤◌, ◌<◌, Bool, true, false, not, nat_eq, List, [], ◌++◌, length, map, min, take, drop, slice_index_or, slice_set, sym, ap, subst, ◌∙◌, arith, inl, inr}
use Rattle.std.proofs.Math.Bool.{not-not}
use Rattle.std.proofs.lemmas.List.{get_or-map, get_or-set_other, get_or-set_same, get_or-take, get_or_append_left, length-map, length-take, length-take-le, map-set, take-map, take_min}
use Rattle.std.proofs.lemmas.List.Sums.{prefix_len-drop_all, prefix_len-drop_no, prefix_len-drop_yes, prefix_len-le-length, prefix_len_passes}
use Rattle.std.proofs.lemmas.Bool.{cases_eq}
use Rattle.std.specs.Borrow.{Bor}
use Rattle.std.specs.Cmp.Lexicographic.{pointwise, same_text}
use Rattle.std.specs.List.{All, prefix_len}
use Rattle.sha2.specs.Sha256.{sha224}
use Rattle.blobref.specs.Blobref.{ref_of, sha224_name, spelled}
use Rattle.edge_base.specs.Shelf.{Blob}
use Rattle.sha_lanes.specs.Message.{message_at, texts}
use Rattle.sha_lanes.proofs.Turns.{length-texts}
use Rattle.blob_checks.specs.Checks.{bytes_at, IsNamed, is_named}

-- the bytes of the blob at a place
pub bytes_there : (blobs : List Blob) (i : ℕ) (d : Blob) → i < length blobs → (slice_index_or blobs i d).1 ≡ bytes_at blobs i
bytes_there blobs i d less = sym (get_or-map (λ (x : Blob). x.1) blobs i d [] less)

-- the messages before a place are the bytes of the blobs
abbrev pub AreFilled : List Blob → List (List ℕ) → ℕ → Type 0
AreFilled blobs ts n = (k : ℕ) → k < n → message_at ts k ≡ bytes_at blobs k

filled_one : (blobs : List Blob) (ts : List (List ℕ)) (i : ℕ) (t : List ℕ) → length ts ≡ 64 → i < 64 → t ≡ bytes_at blobs i
    → AreFilled blobs ts i → AreFilled blobs (slice_set ts i t) (i + 1)
filled_one blobs ts i t long below is before k less = elim (cases_eq k i) [
  | inl e ↦
      let a : slice_index_or (slice_set ts i t) k [] ≡ t = rw e (get_or-set_same ts i t [] (omega (arith, long, below))) in
      a ∙ is ∙ ap (bytes_at blobs) (sym e)
  | inr ne ↦ get_or-set_other ts i k t [] ne ∙ before k (omega (arith, less, ne))
]

-- one more
pub filled_more : (blobs : List Blob) (messages : List (Bor (List ℕ))) (i : ℕ) (m : Bor (List ℕ)) → length messages ≡ 64 → i < 64 → m.now ≡ bytes_at blobs i
    → AreFilled blobs (texts messages) i → AreFilled blobs (texts (slice_set messages i m)) (i + 1)
filled_more blobs messages i m long below is before =
    let filled = filled_one blobs (texts messages) i m.now (length-texts messages ∙ long) below is before in
    λ k less. ap (λ ts. message_at ts k) (map-set (λ (b : Bor (List ℕ)). b.now) messages i m) ∙ filled k less

-- the digests of the first of these messages
pub digests_known : (blobs : List Blob) (messages : List (Bor (List ℕ))) (count : ℕ) (digests rest : List (List ℕ))
    → length messages ≡ 64 → count ≤ 64 → digests ≡ map sha224 (texts (take count messages)) → AreFilled blobs (texts messages) count
    → (i : ℕ) → i < count → slice_index_or (digests ++ rest) i [] ≡ sha224 (bytes_at blobs i)
digests_known blobs messages count digests rest long most is filled i less =
    let ts : List (List ℕ) = texts (take count messages) in
    let n : length ts ≡ count = length-texts (take count messages) ∙ length-take-le count messages (omega (arith, long, most)) in
    let l : length digests ≡ count = ap length is ∙ length-map ts sha224 ∙ n in
    let same : message_at ts i ≡ message_at (texts messages) i =
    ap (λ l. message_at l i) (sym (take-map (λ (b : Bor (List ℕ)). b.now) count messages)) ∙ get_or-take count (texts messages) i [] less in
    get_or_append_left digests rest [] i (omega (arith, l, less)) ∙ ap (λ l. slice_index_or l i []) is
    ∙ get_or-map sha224 ts i [] [] (omega (arith, n, less)) ∙ ap sha224 (same ∙ filled i less)

-- whether a blob's ref is its own, by a comparison with what its digest spells
pub is_told : (blobs : List Blob) (i : ℕ) (d : Blob) (digest r : List ℕ) (other : Bool) → i < length blobs → digest ≡ sha224 (bytes_at blobs i)
    → r ≡ spelled sha224_name digest → other ≡ not (pointwise nat_eq (slice_index_or blobs i d).0 r) → is_named (slice_index_or blobs i d) ≡ not other
is_told blobs i d digest r other less known spells test =
    let own : ref_of (slice_index_or blobs i d).1 ≡ r = ap ref_of (bytes_there blobs i d less) ∙ sym (spells ∙ ap (spelled sha224_name) known) in
    ap (pointwise nat_eq (slice_index_or blobs i d).0) own ∙ sym (not-not (pointwise nat_eq (slice_index_or blobs i d).0 r)) ∙ ap not (sym test)

-- no more than there are
pub capped : (most n : ℕ) (blobs : List Blob) → n ≡ min most (length blobs) → take n blobs ≡ take most blobs
capped most n blobs is = ap (λ (k : ℕ). take k blobs) is ∙ take_min most blobs

-- as many are left to count
abbrev pub AreCounted : List Blob → ℕ → Type 0
AreCounted blobs i = i + prefix_len is_named (drop i blobs) ≡ prefix_len is_named blobs

-- one more is its own
pub counted_more : (blobs : List Blob) (i : ℕ) (d : Blob) → i < length blobs → is_named (slice_index_or blobs i d) ≡ true → AreCounted blobs i → AreCounted blobs (i + 1)
counted_more blobs i d less is counted = omega (arith, counted, prefix_len-drop_yes is_named blobs i d less is)

-- one that isn't
pub counted_here : (blobs : List Blob) (i : ℕ) (d : Blob) → i < length blobs → is_named (slice_index_or blobs i d) ≡ false → AreCounted blobs i → i ≡ prefix_len is_named blobs
counted_here blobs i d less is counted = omega (arith, counted, prefix_len-drop_no is_named blobs i d less is)

-- all are
pub counted_all : (blobs : List Blob) (i : ℕ) → i ≡ length blobs → AreCounted blobs i → length blobs ≡ prefix_len is_named blobs
counted_all blobs i all counted = omega (arith, all, counted, prefix_len-drop_all is_named blobs i (omega (arith, all)))

-- the first of some blobs, up to the first that isn't
pub counted_named : (most n : ℕ) (blobs : List Blob) → n ≡ prefix_len is_named (take most blobs) → All IsNamed (take n blobs)
counted_named most n blobs is k d less =
    let front = take most blobs in
    let bound : n ≤ length front = omega (arith, is, prefix_len-le-length is_named front) in
    let below : k < n = omega (arith, less, length-take n blobs) in
    let passes : is_named (slice_index_or front k d) ≡ true = prefix_len_passes is_named front k d (omega (arith, below, is)) in
    let same : slice_index_or front k d ≡ slice_index_or (take n blobs) k d =
    get_or-take most blobs k d (omega (arith, below, bound, length-take most blobs)) ∙ sym (get_or-take n blobs k d below) in
    subst IsNamed same (same_text (slice_index_or front k d).0 (ref_of (slice_index_or front k d).1) (sym passes))
