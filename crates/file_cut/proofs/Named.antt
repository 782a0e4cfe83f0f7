-- The chunks of a piece are hashed together.
use Rattle.std.proofs.Common.{◌≡◌, ◌<◌, ◌+◌, ℕ, List, [], length, map, slice_index_or, slice_set, sym, ap, ◌∙◌, arith, inl, inr}
use Rattle.std.proofs.lemmas.Bool.{cases_eq}
use Rattle.std.proofs.lemmas.List.{get_or-map, get_or-set_other, get_or-set_same, length-map, map-set}
use Rattle.std.specs.Borrow.{Bor}
use Rattle.sha2.specs.Sha256.{sha224}
use Rattle.blobref.specs.Blobref.{ref_of, sha224_name, spelled}
use Rattle.sha_lanes.specs.Message.{message_at, texts}
use Rattle.file_cut.specs.Cutting.{chunk_at}

-- the messages before a place are the chunks
abbrev pub AreFilled : ℕ → List ℕ → List (List ℕ) → ℕ → Type 0
AreFilled size bytes ts n = (k : ℕ) → k < n → message_at ts k ≡ chunk_at size bytes k

filled_one : (size : ℕ) (bytes : List ℕ) (ts : List (List ℕ)) (i : ℕ) (t : List ℕ) → i < length ts → t ≡ chunk_at size bytes i
    → AreFilled size bytes ts i → AreFilled size bytes (slice_set ts i t) (i + 1)
filled_one size bytes ts i t below is before k less = elim (cases_eq k i) [
  | inl e ↦
      let a : slice_index_or (slice_set ts i t) k [] ≡ t = rw e (get_or-set_same ts i t [] below) in
      a ∙ is ∙ ap (chunk_at size bytes) (sym e)
  | inr ne ↦ get_or-set_other ts i k t [] ne ∙ before k (omega (arith, less, ne))
]

-- one more
pub filled_more : (size : ℕ) (bytes : List ℕ) (chunks : List (Bor (List ℕ))) (i : ℕ) (chunk : Bor (List ℕ)) → i < length chunks → chunk.now ≡ chunk_at size bytes i
    → AreFilled size bytes (texts chunks) i → AreFilled size bytes (texts (slice_set chunks i chunk)) (i + 1)
filled_more size bytes chunks i chunk below is before =
    let filled = filled_one size bytes (texts chunks) i chunk.now (omega (arith, below, length-map chunks (λ (b : Bor (List ℕ)). b.now))) is before in
    λ k less. ap (λ ts. message_at ts k) (map-set (λ (b : Bor (List ℕ)). b.now) chunks i chunk) ∙ filled k less

-- the digest of one of them
pub digest_known : (size : ℕ) (bytes : List ℕ) (chunks : List (Bor (List ℕ))) (digests : List (List ℕ)) → digests ≡ map sha224 (texts chunks)
    → (i : ℕ) → i < length chunks → message_at (texts chunks) i ≡ chunk_at size bytes i → slice_index_or digests i [] ≡ sha224 (chunk_at size bytes i)
digest_known size bytes chunks digests are i below here =
    ap (λ (l : List (List ℕ)). slice_index_or l i []) are
    ∙ get_or-map sha224 (texts chunks) i [] [] (omega (arith, below, length-map chunks (λ (b : Bor (List ℕ)). b.now)))
    ∙ ap sha224 here

-- what it spells is the ref of that chunk
pub named_by : (size : ℕ) (bytes digest chunk r : List ℕ) (i : ℕ) → digest ≡ sha224 (chunk_at size bytes i) → chunk ≡ chunk_at size bytes i → r ≡ spelled sha224_name digest → r ≡ ref_of chunk
named_by size bytes digest chunk r i known is spells = spells ∙ ap (spelled sha224_name) known ∙ ap ref_of (sym is)
