-- The facts of an opened store are those of the blobs that it tells.
use Rattle.std.proofs.Common.{◌≡◌, ℕ, ◌||◌, Bool, true, false, cond, Some, None, Option, List, [], ◌∷◌, map, refl}
use Rattle.std.proofs.Common.{sym, ap, option_map, subst, ◌∙◌}
use Rattle.std.specs.Cmp.Lexicographic.{nat_list_cmp_total, texts_ties}
use Rattle.std.specs.FinMap.{find, from_entries, entries, get-from_entries}
use Rattle.std.specs.List.{list_any}
use Rattle.std.specs.Option.{ForSome, is_some}
use Rattle.std.specs.Ordering.{eq_by_cmp}
use Rattle.std.specs.Str.{bytes_eq}
use Rattle.blobref.specs.Blobref.{ref_cmp}
use Rattle.schema_json.specs.Facts.{fact_of}
use Rattle.claim_model.specs.Facts.{Entry, facts_of}
use Rattle.salvage_scan.specs.Arrivals.{arrivals}
use Rattle.pack_disk.specs.Packs.{Packs}
use Rattle.pack_store.specs.declared.rows.Row.{Row}
use Rattle.pack_store.specs.Rows.{arrivals_in}
use Rattle.pack_store.specs.StoreShelf.{map_of}
use Rattle.fact_lines.specs.Blobs.{Blob, entry_of}
use Rattle.fact_lines.proofs.Gathering.{facts_of_arrivals}
use Rattle.share_server.specs.Serving.{IsListing, refs_of}

-- a ref is among those of the facts exactly where a blob stands under it
refs_found : (r : List ℕ) (blobs : List Blob)
    → list_any (bytes_eq r) (refs_of (map entry_of blobs)) ≡ is_some (find ref_cmp r blobs)
refs_found r [] = refl
refs_found r (b ∷ blobs) =
    ap (λ (same : Bool). same || list_any (bytes_eq r) (refs_of (map entry_of blobs))) (texts_ties r b.0)
    ∙ go (eq_by_cmp ref_cmp r b.0) (refs_found r blobs)
  where
    go : (same : Bool) → list_any (bytes_eq r) (refs_of (map entry_of blobs)) ≡ is_some (find ref_cmp r blobs)
        → (same || list_any (bytes_eq r) (refs_of (map entry_of blobs)))
        ≡ is_some (cond same (Some b.1) (find ref_cmp r blobs))
    go true more = refl
    go false more = more

listing_of : (packs : Packs) (rows : List Row) (facts : List Entry) → arrivals_in packs rows ≡ arrivals (entries packs)
    → facts ≡ map entry_of (arrivals_in packs rows) → IsListing facts (map_of rows packs)
listing_of packs rows facts arrived are =
    let blobs : List Blob = arrivals_in packs rows in
    record {
      refs = λ r. ap (λ (es : List Entry). list_any (bytes_eq r) (refs_of es)) are ∙ refs_found r blobs
          ∙ ap is_some (sym (get-from_entries nat_list_cmp_total blobs r));
      facts = ap from_entries (are ∙ ap (map entry_of) arrived) ∙ facts_of_arrivals (entries packs)
          ∙ ap (λ (bs : List Blob). facts_of fact_of (from_entries {R = ref_cmp} bs)) (sym arrived);
    }

pub listing : (told : Option Packs) (rows : List Row) (facts : List Entry)
    → ForSome told (λ packs. arrivals_in packs rows ≡ arrivals (entries packs))
    → ForSome told (λ packs. facts ≡ map entry_of (arrivals_in packs rows))
    → ForSome (option_map (map_of rows) told) (IsListing facts)
listing None rows facts arrived are held is = absurd (cc is)
listing (Some packs) rows facts arrived are held is =
    subst (IsListing facts) (cc is) (listing_of packs rows facts (arrived packs refl) (are packs refl))
