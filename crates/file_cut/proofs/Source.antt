-- A file's bytes are its chunks in a row, where its blobs are held and say their parts.
use Rattle.std.proofs.Common.{◌≡◌, ◌≤◌, ◌<◌, ℕ, suc, Bool, true, false, cond, List, [], ◌∷◌, ◌++◌, take, length, map, flat_map, Option, None, Some, is_some, option_and_then, refl, sym, ap, subst, ◌∙◌, arith, ◌⊎◌, inl, inr}
use Rattle.std.specs.Prelude.{unwrap_or}
use Rattle.std.specs.Ordering.{eq_by_cmp}
use Rattle.std.specs.Cmp.Lexicographic.{nat_list_cmp_total, nat_list_eq_equiv, same_text, texts_ties}
use Rattle.std.specs.FinMap.{get, insert, get-insert}
use Rattle.std.proofs.lemmas.Bool.{cases_lt}
use Rattle.std.proofs.lemmas.List.{take_all}
use Rattle.std.proofs.lemmas.List.Concat.{flat_map-append}
use Rattle.blobref.specs.Blobref.{ref_of, ref_cmp}
use Rattle.edge_base.specs.Shelf.{Blobs, named, with_blob, with_blobs}
use Rattle.schema_json.specs.Facts.{fact_of}
use Rattle.schema_fact.specs.Limits.{total_size}
use Rattle.schema_fact.specs.declared.parts.Part.{Part}
use Rattle.claim_model.specs.Trees.{tree_parts}
use Rattle.file_cut.specs.Cutting.{cut, blob_part, run_blob, run_part, parts_of_file}
use Rattle.file_tree.specs.Bytes.{part_bytes, bytes_within}
use Rattle.file_cut.specs.Source.{AreHeld, IsFree, SharesNone, AreApart, KeptAreHeld}
use Rattle.file_cut.proofs.Cuts.{flat-cut, parts_many, parts_few}
use Rattle.file_cut.proofs.Sizes.{blob_sizes}

-- ---- what is kept is held

-- what is held once a blob is kept under the ref that the program gives it
abbrev with_named : Blobs → List ℕ → Blobs
with_named held blob = with_blob held (ref_of blob, blob)

-- what stood there stands there still, and else the blob
get-with_named : (held : Blobs) (blob r : List ℕ) → get (with_named held blob) r ≡ cond (is_some (get held (ref_of blob))) (get held r) (cond (eq_by_cmp ref_cmp r (ref_of blob)) (Some blob) (get held r))
get-with_named held blob r = by (is_some (get held (ref_of blob)))
  where
    by : (b : Bool) → get (cond b held (insert held (ref_of blob) blob)) r ≡ cond b (get held r) (cond (eq_by_cmp ref_cmp r (ref_of blob)) (Some blob) (get held r))
    by true = refl
    by false = get-insert nat_list_cmp_total held (ref_of blob) blob r

same_ref : (r q : List ℕ) → eq_by_cmp ref_cmp r q ≡ true → r ≡ q
same_ref r q h = same_text r q (sym (texts_ties r q ∙ h))

-- a blob that is held goes on being held
held_on : (held : Blobs) (blob r bytes : List ℕ) → get held r ≡ Some bytes → get (with_named held blob) r ≡ Some bytes
held_on held blob r bytes is = get-with_named held blob r ∙ go (is_some (get held (ref_of blob))) refl
  where
    at : (b : Bool) → eq_by_cmp ref_cmp r (ref_of blob) ≡ b → is_some (get held (ref_of blob)) ≡ false → cond b (Some blob) (get held r) ≡ Some bytes
    at true e none = absurd (let bad : true ≡ false = sym (ap (λ (o : Option (List ℕ)). is_some o) (ap (get held) (sym (same_ref r (ref_of blob) e)) ∙ is)) ∙ none in cc bad)
    at false e none = is

    go : (b : Bool) → is_some (get held (ref_of blob)) ≡ b → cond b (get held r) (cond (eq_by_cmp ref_cmp r (ref_of blob)) (Some blob) (get held r)) ≡ Some bytes
    go true e = is
    go false e = at (eq_by_cmp ref_cmp r (ref_of blob)) refl e

held_through : (blobs : List (List ℕ)) (held : Blobs) (r bytes : List ℕ) → get held r ≡ Some bytes → get (with_blobs held (named blobs)) r ≡ Some bytes
held_through [] held r bytes is = is
held_through (blob ∷ blobs) held r bytes is = held_through blobs (with_named held blob) r bytes (held_on held blob r bytes is)

-- the blob itself
itself : (r : List ℕ) → eq_by_cmp ref_cmp r r ≡ true
itself r = sym (texts_ties r r) ∙ nat_list_eq_equiv.refl r

kept_here : (held : Blobs) (blob : List ℕ) → IsFree (get held (ref_of blob)) blob → get (with_named held blob) (ref_of blob) ≡ Some blob
kept_here held blob free = get-with_named held blob (ref_of blob) ∙ go (get held (ref_of blob)) free
  where
    go : (o : Option (List ℕ)) → IsFree o blob → cond (is_some o) o (cond (eq_by_cmp ref_cmp (ref_of blob) (ref_of blob)) (Some blob) o) ≡ Some blob
    go None h = ap (λ (b : Bool). cond b (Some blob) None) (itself (ref_of blob))
    go (Some other) h = ap Some h

-- one that comes later is free still
free_on : (held : Blobs) (blob other : List ℕ) → (ref_of other ≡ ref_of blob → other ≡ blob) → IsFree (get held (ref_of other)) other → IsFree (get (with_named held blob) (ref_of other)) other
free_on held blob other apart free = subst (λ (o : Option (List ℕ)). IsFree o other) (sym (get-with_named held blob (ref_of other))) (go (is_some (get held (ref_of blob))) (eq_by_cmp ref_cmp (ref_of other) (ref_of blob)) refl)
  where
    go : (b t : Bool) → eq_by_cmp ref_cmp (ref_of other) (ref_of blob) ≡ t → IsFree (cond b (get held (ref_of other)) (cond t (Some blob) (get held (ref_of other)))) other
    go true t e = free
    go false true e = sym (apart (same_ref (ref_of other) (ref_of blob) e))
    go false false e = free

apart_on : (held : Blobs) (blob : List ℕ) (blobs : List (List ℕ)) → SharesNone blob blobs → AreApart held blobs → AreApart (with_named held blob) blobs
apart_on held blob [] shares apart = tt
apart_on held blob (other ∷ others) shares apart = (free_on held blob other shares.0 apart.0, apart.1, apart_on held blob others shares.1 apart.2)

pub kept_are_held : KeptAreHeld
kept_are_held held [] apart = tt
kept_are_held held (blob ∷ blobs) apart =
    (held_through blobs (with_named held blob) (ref_of blob) blob (kept_here held blob apart.0), kept_are_held (with_named held blob) blobs (apart_on held blob blobs apart.1 apart.2))

-- ---- the bytes of a file

-- a blob of parts is held, and says its parts
pub record IsListed (held : Blobs) (blob : List ℕ) (parts : List Part) : Type 0 where
  pub there : get held (ref_of blob) ≡ Some blob
  pub says : tree_parts (fact_of blob).kind ≡ Some parts

abbrev pub AreListed : Blobs → List (List (List ℕ)) → Type 0
AreListed held [] = Unit {0}
AreListed held (run ∷ runs) = IsListed held (run_blob run) (map blob_part run) × AreListed held runs

module _ (held : Blobs) where
  -- chunks as parts
  chunks_bytes : (tree : List ℕ → List ℕ) (chunks : List (List ℕ)) → AreHeld held chunks → flat_map (part_bytes held tree) (map blob_part chunks) ≡ flat_map (λ (chunk : List ℕ). chunk) chunks
  chunks_bytes tree [] all = refl
  chunks_bytes tree (chunk ∷ chunks) all =
      let here : part_bytes held tree (blob_part chunk) ≡ chunk = ap (λ (o : Option (List ℕ)). take (length chunk) (unwrap_or o [])) all.0 ∙ take_all (length chunk) chunk (omega arith) in
      λ i. here i ++ chunks_bytes tree chunks all.1 i

  listed_bytes : (n : ℕ) (blob : List ℕ) (parts : List Part) → IsListed held blob parts → bytes_within held (suc n) (ref_of blob) ≡ flat_map (part_bytes held (bytes_within held n)) parts
  unfolding bytes_within
  listed_bytes n blob parts listed =
      ap (λ (o : Option (List ℕ)). flat_map (part_bytes held (bytes_within held n)) (unwrap_or (option_and_then (λ bytes. tree_parts (fact_of bytes).kind) o) [])) listed.there
      ∙ ap (λ (o : Option (List Part)). flat_map (part_bytes held (bytes_within held n)) (unwrap_or o [])) listed.says

  pub held_front : (xs ys : List (List ℕ)) → AreHeld held (xs ++ ys) → AreHeld held xs × AreHeld held ys
  held_front [] ys all = (tt, all)
  held_front (x ∷ xs) ys all = let rest = held_front xs ys all.1 in ((all.0, rest.0), rest.1)

  runs_bytes : (n : ℕ) (runs : List (List (List ℕ))) → AreHeld held (flat_map (λ (r : List (List ℕ)). r) runs) → AreListed held runs
      → flat_map (part_bytes held (bytes_within held (suc n))) (map run_part runs) ≡ flat_map (λ (chunk : List ℕ). chunk) (flat_map (λ (r : List (List ℕ)). r) runs)
  runs_bytes n [] all listed = refl
  runs_bytes n (run ∷ runs) all listed =
      let both = held_front run (flat_map (λ (r : List (List ℕ)). r) runs) all in
      let whole : bytes_within held (suc n) (ref_of (run_blob run)) ≡ flat_map (λ (chunk : List ℕ). chunk) run = listed_bytes n (run_blob run) (map blob_part run) listed.0 ∙ chunks_bytes (bytes_within held n) run both.0 in
      let here : part_bytes held (bytes_within held (suc n)) (run_part run) ≡ flat_map (λ (chunk : List ℕ). chunk) run =
      ap (λ (l : List ℕ). take (total_size (map blob_part run)) l) whole
      ∙ ap (λ (k : ℕ). take k (flat_map (λ (chunk : List ℕ). chunk) run)) (blob_sizes run)
      ∙ take_all (length (flat_map (λ (chunk : List ℕ). chunk) run)) (flat_map (λ (chunk : List ℕ). chunk) run) (omega arith) in
      (λ i. here i ++ runs_bytes n runs both.1 listed.1 i) ∙ sym (flat_map-append (λ (chunk : List ℕ). chunk) run (flat_map (λ (r : List (List ℕ)). r) runs))

pub listed_is_source : (held : Blobs) (size : ℕ) → 0 < size → (chunks : List (List ℕ)) (own : List ℕ) → AreHeld held chunks → (size < length chunks → AreListed held (cut size chunks))
    → IsListed held own (parts_of_file size chunks) → (n : ℕ) → bytes_within held (suc (suc n)) (ref_of own) ≡ flat_map (λ (chunk : List ℕ). chunk) chunks
listed_is_source held size some chunks own all listed file n = go (cases_lt size (length chunks))
  where
    runs_held : AreHeld held (flat_map (λ (r : List (List ℕ)). r) (cut size chunks))
    runs_held = subst (AreHeld held) (sym (flat-cut size some chunks)) all

    go : (size < length chunks) ⊎ (length chunks ≤ size) → bytes_within held (suc (suc n)) (ref_of own) ≡ flat_map (λ (chunk : List ℕ). chunk) chunks
    go (inl many) =
        listed_bytes held (suc n) own (parts_of_file size chunks) file
        ∙ ap (flat_map (part_bytes held (bytes_within held (suc n)))) (parts_many size chunks many)
        ∙ runs_bytes held n (cut size chunks) runs_held (listed many)
        ∙ ap (flat_map (λ (chunk : List ℕ). chunk)) (flat-cut size some chunks)
    go (inr few) =
        listed_bytes held (suc n) own (parts_of_file size chunks) file
        ∙ ap (flat_map (part_bytes held (bytes_within held (suc n)))) (parts_few size chunks few)
        ∙ chunks_bytes held (bytes_within held (suc n)) chunks all
