-- A file that was kept has the bytes of its source.
use Rattle.std.proofs.Common.{◌≡◌, ◌≤◌, ◌<◌, ◌+◌, ◌*◌, ◌⊎◌, inl, inr, ℕ, zero, suc, List, [], ◌∷◌, ◌++◌, drop, length, map, flat_map, Option, None, Some, option_map, refl, sym, ap, subst, ◌∙◌, arith, length-append}
use Rattle.std.specs.FinMap.{get, len, entries, get-entries, len-entries}
use Rattle.std.specs.FinMap.Entries.{find}
use Rattle.std.specs.Str.{IsUtf8}
use Rattle.std.proofs.lemmas.Bool.{cases_lt}
use Rattle.std.proofs.lemmas.List.{length-take}
use Rattle.std.proofs.lemmas.List.Concat.{flat_map-append}
use Rattle.blobref.specs.Blobref.{ref_of, ref_cmp}
use Rattle.blobref.proofs.Digests.{is_blobref-ref_of}
use Rattle.edge_base.specs.Edge.{SourceGaveAll}
use Rattle.edge_base.specs.Shelf.{Blobs, named, with_blobs}
use Rattle.edge_base.specs.declared.shelf.Shelf.{Ghosts as ShelfGhosts}
use Rattle.edge_base.specs.declared.edge.Source.{Ghosts as SourceGhosts}
use Rattle.schema_json.specs.Facts.{fact_of}
use Rattle.schema_fact.specs.declared.kinds.Fact.{Fact}
use Rattle.schema_fact.specs.declared.parts.Part.{Part}
use Rattle.schema_write.specs.Blobs.{bytes_blob, file_blob}
use Rattle.schema_write.specs.Laws.{HaveRefs}
use Rattle.schema_write.proofs.PartsRead.{tree_read, file_read}
use Rattle.schema_write.proofs.Lengths.{bytes_short, file_short}
use Rattle.schema_fact.specs.Limits.{greatest_length}
use Rattle.claim_model.specs.Trees.{tree_parts}
use Rattle.file_tree.specs.Bytes.{facts_in, bytes_of, bytes_within}
use Rattle.file_tree.proofs.Whole.{get-facts_in}
use Rattle.file_cut.specs.Cutting.{cut_within, cut, chunk_size, run_size, blob_part, run_blob, run_part, run_blobs, below_file, parts_of_file, own_from, blobs_from, file_blobs}
use Rattle.file_cut.specs.Drafts.{IsShortList}
use Rattle.file_cut.specs.Writing.{AreSizes, Written, longest_name, longest_file}
use Rattle.file_cut.specs.Source.{AreHeld, AreApart, WrittenIsSource, ReadsBack}
use Rattle.file_cut.proofs.Cuts.{flat-cut, below_many, below_few, parts_many, parts_few}
use Rattle.file_cut.proofs.Sizes.{flat, blob_sizes, run_sizes, short_list, runs_within, cut_few}
use Rattle.file_cut.proofs.Source.{IsListed, AreListed, held_front, kept_are_held, listed_is_source}

-- ---- what the blobs say

chunk_refs : (chunks : List (List ℕ)) → HaveRefs (map blob_part chunks)
chunk_refs [] = tt
chunk_refs (chunk ∷ chunks) = (is_blobref-ref_of chunk, chunk_refs chunks)

run_refs : (runs : List (List (List ℕ))) → HaveRefs (map run_part runs)
run_refs [] = tt
run_refs (run ∷ runs) = (is_blobref-ref_of (run_blob run), run_refs runs)

run_says : (parts : List Part) → HaveRefs parts → IsShortList parts → tree_parts (fact_of (bytes_blob parts)).kind ≡ Some parts
run_says parts refs short = ap (λ (fact : Fact). tree_parts fact.kind) (tree_read parts refs short.limits (bytes_short parts refs short.limits short.few))

own_says : (name : List ℕ) (parts : List Part) → IsUtf8 name → length name ≤ longest_name → HaveRefs parts → IsShortList parts
    → tree_parts (fact_of (file_blob name parts)).kind ≡ Some parts
own_says name parts utf8 fits refs short =
    ap (λ (fact : Fact). tree_parts fact.kind) (file_read name parts utf8 refs short.limits (file_short name parts refs short.limits fits short.few))

-- ---- runs of chunks

-- runs of at most so many
abbrev AreWithin : ℕ → List (List (List ℕ)) → Type 0
AreWithin full [] = Unit {0}
AreWithin full (run ∷ runs) = (length run ≤ full) × AreWithin full runs

cut_fits : (n full : ℕ) (chunks : List (List ℕ)) → AreWithin full (cut_within n full chunks)
cut_fits zero full chunks = tt
cut_fits (suc n) full [] = tt
cut_fits (suc n) full (chunk ∷ chunks) = (omega (arith, length-take full (chunk ∷ chunks)), cut_fits n full (drop full (chunk ∷ chunks)))

module _ (held : Blobs) where
  both_held : (xs ys : List (List ℕ)) → AreHeld held xs → AreHeld held ys → AreHeld held (xs ++ ys)
  both_held [] ys all more = more
  both_held (x ∷ xs) ys all more = (all.0, both_held xs ys all.1 more)

  chunks_held : (runs : List (List (List ℕ))) → AreHeld held (flat_map run_blobs runs) → AreHeld held (flat runs)
  chunks_held [] all = tt
  chunks_held (run ∷ runs) all =
      let parts = held_front held (run_blobs run) (flat_map run_blobs runs) all in
      both_held run (flat runs) (held_front held run (run_blob run ∷ []) parts.0).0 (chunks_held runs parts.1)

  runs_listed : (full : ℕ) → full ≤ 4096 → (runs : List (List (List ℕ))) → AreWithin full runs → length (flat (flat runs)) ≤ greatest_length
      → AreHeld held (flat_map run_blobs runs) → AreListed held runs
  runs_listed full few [] within le all = tt
  runs_listed full few (run ∷ runs) within le all =
      let parts = held_front held (run_blobs run) (flat_map run_blobs runs) all in
      let own = held_front held run (run_blob run ∷ []) parts.0 in
      let sum : length (flat (flat (run ∷ runs))) ≡ length (flat run) + length (flat (flat runs)) =
      ap (λ (l : List ℕ). length l) (flat_map-append (λ (chunk : List ℕ). chunk) run (flat runs)) ∙ length-append (flat run) (flat (flat runs)) in
      let short = short_list blob_part (λ chunk. refl) run (omega (arith, blob_sizes run, sum, le)) (omega (arith, within.0, few)) in (
        record { there = own.1.0; says = run_says (map blob_part run) (chunk_refs run) short },
        runs_listed full few runs within.1 (omega (arith, sum, le)) parts.1,
      )

  -- where a blob is held there is a fact
  some_fact : (r bytes : List ℕ) → get held r ≡ Some bytes → (n : ℕ) × (len (facts_in held) ≡ suc n)
  some_fact r bytes there = go (entries (facts_in held)) refl
    where
      found : get (facts_in held) r ≡ Some (fact_of bytes)
      found = get-facts_in held r ∙ ap (option_map fact_of) there

      go : (es : List (List ℕ × Fact)) → entries (facts_in held) ≡ es → (n : ℕ) × (len (facts_in held) ≡ suc n)
      go [] is = absurd (let bad : ◌≡◌ {A = Option Fact} None (Some (fact_of bytes)) = sym (get-entries (facts_in held) r ∙ ap (find ref_cmp r) is) ∙ found in cc bad)
      go (e ∷ es) is = (length es, omega (arith, len-entries (facts_in held), ap (λ (l : List (List ℕ × Fact)). length l) is))

-- ---- the bytes of a file

module _ (size full most k : ℕ) (k_is : k ≡ 4096) (some : 0 < size) (room : 0 < full) (few : full ≤ 4096) (limit : most ≤ greatest_length) (many : most ≤ k * full * size)
    (held : Blobs) (name bytes : List ℕ) (utf8 : IsUtf8 name) (named_short : length name ≤ longest_name) (fits : length bytes ≤ most) where
  abbrev chunks : List (List ℕ)
  chunks = cut size bytes

  abbrev runs : List (List (List ℕ))
  runs = cut full chunks

  abbrev own : List ℕ
  own = own_from full name chunks

  all_bytes : length (flat chunks) ≤ greatest_length
  all_bytes = omega (arith, ap (λ (l : List ℕ). length l) (flat-cut size some bytes), fits, limit)

  few_chunks : length chunks ≤ k * full
  few_chunks = cut_few size (k * full) some bytes (omega (arith, fits, many))

  few_runs : length runs ≤ k
  few_runs = runs_within full room (length chunks) k chunks few_chunks

  all_chunks : length (flat (flat runs)) ≤ greatest_length
  all_chunks = omega (arith, ap (λ (l : List (List ℕ)). length (flat l)) (flat-cut full room chunks), all_bytes)

  own_listed : (parts : List Part) → parts_of_file full chunks ≡ parts → HaveRefs parts → IsShortList parts → get held (ref_of own) ≡ Some own → IsListed held own (parts_of_file full chunks)
  own_listed parts is refs short there = record {
    there = there;
    says = own_says name (parts_of_file full chunks) utf8 named_short (subst HaveRefs (sym is) refs) (subst IsShortList (sym is) short);
  }

  -- the blobs of a file are held: then so are its chunks, and each blob of parts says them
  record IsKept : Type 0 where
    chunks_are : AreHeld held chunks
    runs_are : full < length chunks → AreListed held runs
    own_is : IsListed held own (parts_of_file full chunks)

  is_kept : AreHeld held (blobs_from full name chunks) → IsKept
  is_kept all =
      let parts = held_front held (below_file full chunks) (own ∷ []) all in
      go parts.0 parts.1.0 (cases_lt full (length chunks))
    where
      go : AreHeld held (below_file full chunks) → get held (ref_of own) ≡ Some own → (full < length chunks) ⊎ (length chunks ≤ full) → IsKept
      go below there (inl several) =
          let blobs : AreHeld held (flat_map run_blobs runs) = subst (AreHeld held) (below_many full chunks several) below in
          record {
            chunks_are = subst (AreHeld held) (flat-cut full room chunks) (chunks_held held runs blobs);
            runs_are = λ h. runs_listed held full few runs (cut_fits (length chunks) full chunks) all_chunks blobs;
            own_is = own_listed (map run_part runs) (parts_many full chunks several) (run_refs runs)
                (short_list run_part (λ run. refl) runs (omega (arith, run_sizes runs, all_chunks)) (omega (arith, few_runs, k_is))) there;
          }
      go below there (inr single) = record {
        chunks_are = subst (AreHeld held) (below_few full chunks single) below;
        runs_are = λ h. absurd (omega (arith, h, single));
        own_is = own_listed (map blob_part chunks) (parts_few full chunks single) (chunk_refs chunks)
            (short_list blob_part (λ chunk. refl) chunks (omega (arith, blob_sizes chunks, all_bytes)) (omega (arith, single, few))) there;
      }

  kept_bytes : AreHeld held (blobs_from full name chunks) → bytes_of held (ref_of own) ≡ bytes
  kept_bytes all =
      let kept = is_kept all in
      let n = some_fact held (ref_of own) own kept.own_is.there in
      ap (λ (d : ℕ). bytes_within held (suc d) (ref_of own)) n.1
      ∙ listed_is_source held full room chunks own kept.chunks_are kept.runs_are kept.own_is n.0
      ∙ flat-cut size some bytes

sizes_are : AreSizes chunk_size run_size longest_file
unfolding chunk_size run_size
sizes_are = record { some = omega arith; room = omega arith; fits = omega arith; few = omega arith; limit = omega arith; many = omega arith }

pub written_is_source : WrittenIsSource
written_is_source held name bytes utf8 short fits apart =
    kept_bytes chunk_size run_size longest_file 4096 refl sizes_are.some sizes_are.room sizes_are.few sizes_are.limit sizes_are.many
    (with_blobs held (named (file_blobs name bytes))) name bytes utf8 short fits (kept_are_held held (file_blobs name bytes) apart)

-- ---- a file that was written

module _ {S B : Type 0} (g : SourceGhosts S) (h : ShelfGhosts B) where
  same_left : (left now : Option (List ℕ)) (bytes given : List ℕ) → SourceGaveAll left now bytes → left ≡ Some given → bytes ≡ given
  same_left None now bytes given all is = absurd (cc is)
  same_left (Some l) now bytes given all is = sym all.1 ∙ (let e : l ≡ given = cc is in e)

  pub reads_back : (name : List ℕ) → IsUtf8 name → length name ≤ longest_name → (source source_now : S) (start now : B) (r : List ℕ)
      → Written g h name source source_now start now r → ReadsBack (g.left source) (h.content start) (h.content now) name r
  reads_back name utf8 short source source_now start now r (bytes, all, fits, puts, own) = λ given left held told apart.
      let same = same_left (g.left source) (g.left source_now) bytes given all left in
      let told_now : h.content now ≡ Some (with_blobs held (named (file_blobs name bytes))) = puts.told ∙ ap (option_map (λ (m : Blobs). with_blobs m (named (file_blobs name bytes)))) told in
      ap (option_map (λ (m : Blobs). bytes_of m r)) told_now
      ∙ ap (λ (q : List ℕ). Some (bytes_of (with_blobs held (named (file_blobs name bytes))) q)) own
      ∙ ap Some (written_is_source held name bytes utf8 short fits (subst (λ (b : List ℕ). AreApart held (file_blobs name b)) (sym same) apart))
      ∙ ap Some same
