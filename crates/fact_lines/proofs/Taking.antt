-- Facts that are gathered as a pack comes in pieces.
use Rattle.std.proofs.Common.{◌≡◌, ◌+◌, ◌≤◌, ◌<◌, ℕ, List, [], ◌∷◌, ◌++◌, length, take, map, refl, sym, ◌∙◌, ap, subst}
use Rattle.std.proofs.Common.{arith, length-append, append_assoc, Option, None, Some}
use Rattle.std.proofs.lemmas.List.{append-nil, map-append, length-take-le}
use Rattle.std.specs.BTreeSet.{BTreeSet}
use Rattle.std.specs.Prelude.{IfSome}
use Rattle.claim_model.specs.Facts.{Entry}
use Rattle.edge_base.specs.Edge.{SourceGave, SourceGaveFront}
use Rattle.edge_base.proofs.Moves.{SourceGave-chain, SourceGave-end, SourceGaveFront-more}
use Rattle.salvage_scan.specs.declared.found.Found.{Found}
use Rattle.salvage_scan.specs.Salvage.{Finding, salvage}
use Rattle.salvage_scan.specs.Scan.{place_of}
use Rattle.salvage_scan.specs.Arrivals.{blob_of}
use Rattle.salvage_scan.specs.Pieces.{Scanning, fresh, fed, kept_finding, still_found, Keeps, Tells}
use Rattle.salvage_scan.proofs.Cutting.{fed_kept, findings_told, findings_end}
use Rattle.fact_lines.specs.Blobs.{Blob, with_blob, with_blobs, HasRefsOf}
use Rattle.fact_lines.specs.Incoming.{kept_blob, IsTaken, Came, IsAllOf, GaveFacts}
use Rattle.fact_lines.proofs.Gathering.{gathered_facts}

with_blobs-append : (facts : List Entry) (xs ys : List Blob)
    → with_blobs facts (xs ++ ys) ≡ with_blobs (with_blobs facts xs) ys
with_blobs-append facts [] ys = refl
with_blobs-append facts (x ∷ xs) ys = with_blobs-append (with_blob facts x) xs ys

-- ---- a piece

kept_blobs : (scan : Scanning) (told : List Found) (found : List Finding) → map (kept_finding scan) told ≡ found
    → map (kept_blob scan) told ≡ map blob_of found
kept_blobs scan told found is = sym (map-map told) ∙ ap (map blob_of) is
  where
    map-map : (told : List Found) → map blob_of (map (kept_finding scan) told) ≡ map (kept_blob scan) told
    map-map [] = refl
    map-map (f ∷ fs) = ap (λ l. kept_blob scan f ∷ l) (map-map fs)

pub taken_more : (front : List ℕ) (scan : Scanning) (seen : BTreeSet (List ℕ)) (facts : List Entry) (piece : List ℕ)
    (told : List Found) (scan_now : Scanning) (seen_now : BTreeSet (List ℕ)) (facts_now : List Entry)
    → IsTaken front scan seen facts → Tells scan piece told scan_now → Keeps scan piece scan_now
    → HasRefsOf seen_now facts_now → facts_now ≡ with_blobs facts (map (kept_blob scan_now) told)
    → IsTaken (front ++ piece) scan_now seen_now facts_now
taken_more front scan seen facts piece told scan_now seen_now facts_now taken tells keeps refs facts_is =
    let blobs : map (kept_blob scan_now) told ≡ map blob_of tells.found = kept_blobs scan_now told tells.found
    (findings_told scan scan_now piece told tells keeps) in
    record {
      counts = omega (arith, fed_kept scan scan_now piece keeps, taken.counts, length-append front piece);
      refs = refs;
      says = λ more.
          ap (λ es. with_blobs es (map blob_of (still_found scan_now more))) (facts_is ∙ ap (with_blobs facts) blobs)
          ∙ sym (with_blobs-append facts (map blob_of tells.found) (map blob_of (still_found scan_now more)))
          ∙ ap (with_blobs facts) (sym (map-append blob_of tells.found (still_found scan_now more))
          ∙ ap (map blob_of) (sym (tells.finds more)))
          ∙ taken.says (piece ++ more) ∙ ap (λ l. with_blobs [] (map blob_of (salvage l)))
          (sym (append_assoc front piece more));
    }

-- ---- what a source gave

too_long : (a b c : Option (List ℕ)) (xs buf : List ℕ) (n limit : ℕ) → SourceGave a b xs → SourceGave b c (take n buf)
    → n ≤ length buf → limit < length xs + n → IfSome a (λ left. limit < length left)
too_long a b c xs buf n limit first then bound more = go a (SourceGave-chain a b c xs (take n buf) first then)
  where
    go : (a : Option (List ℕ)) → SourceGave a c (xs ++ take n buf) → IfSome a (λ left. limit < length left)
    go None gave = tt
    go (Some left) gave =
        omega (
          arith,
          ap length gave.2,
          length-append (xs ++ take n buf) gave.0,
          length-append xs (take n buf),
          length-take-le n buf bound,
          more,
        )

pub came_too_much : (a b c : Option (List ℕ)) (at limit n : ℕ) (buf : List ℕ) (scan : Scanning)
    (seen : BTreeSet (List ℕ)) (facts : List Entry) → Came a b at scan seen facts
    → SourceGave b c (take n buf) → n ≤ length buf → limit < at + n → IfSome a (λ left. limit < length left)
came_too_much a b c at limit n buf scan seen facts came gave bound more = too_long a b c came.front buf n limit
    came.gave gave bound (omega (arith, more, came.long))

pub came_one_past : (a b c : Option (List ℕ)) (at limit n : ℕ) (buf : List ℕ) (scan : Scanning)
    (seen : BTreeSet (List ℕ)) (facts : List Entry) → Came a b at scan seen facts
    → SourceGave b c (take n buf) → n ≤ length buf → at + n ≡ limit + 1 → SourceGaveFront a c (limit + 1)
came_one_past a b c at limit n buf scan seen facts came gave bound counted =
    let all : length came.front + n ≡ limit + 1 = omega (arith, counted, came.long) in
    subst (SourceGaveFront a c) all (SourceGaveFront-more a b c came.front buf n came.gave gave bound)

pub came_more : (a b c : Option (List ℕ)) (at n : ℕ) (buf : List ℕ) (scan scan_now : Scanning)
    (seen seen_now : BTreeSet (List ℕ)) (facts facts_now : List Entry) → Came a b at scan seen facts
    → SourceGave b c (take n buf) → n ≤ length buf
    → ((front : List ℕ) → IsTaken front scan seen facts → IsTaken (front ++ take n buf) scan_now seen_now facts_now)
    → Came a c (at + n) scan_now seen_now facts_now
came_more a b c at n buf scan scan_now seen seen_now facts facts_now came gave bound more = record {
  front = came.front ++ take n buf;
  long = omega (arith, length-append came.front (take n buf), length-take-le n buf bound, came.long);
  gave = SourceGave-chain a b c came.front (take n buf) came.gave gave;
  taken = more came.front came.taken;
}

-- ---- the ends

pub taken_none : (scan : Scanning) (seen : BTreeSet (List ℕ)) (facts : List Entry) → scan ≡ fresh → HasRefsOf seen facts
    → facts ≡ [] → IsTaken [] scan seen facts
taken_none scan seen facts scan_is refs facts_is = record {
  counts = ap fed scan_is;
  refs = refs;
  says = λ more. (λ i. with_blobs (facts_is i) (map blob_of (still_found (scan_is i) more)));
}

pub taken_all : (front : List ℕ) (scan scan_now : Scanning) (seen : BTreeSet (List ℕ)) (facts : List Entry)
    (told : List Found) (facts_now : List Entry)
    → IsTaken front scan seen facts → told ≡ map place_of (still_found scan []) → Keeps scan [] scan_now
    → facts_now ≡ with_blobs facts (map (kept_blob scan_now) told) → IsAllOf front facts_now
taken_all front scan scan_now seen facts told facts_now taken told_is keeps facts_is =
    facts_is ∙ ap (with_blobs facts)
    (kept_blobs scan_now told (still_found scan []) (findings_end scan scan_now told told_is keeps)) ∙ taken.says []
    ∙ ap (λ l. with_blobs [] (map blob_of (salvage l))) (append-nil front)

-- ---- what the facts of all are, once a source gave all that it had left

pub gave_facts : (most : ℕ) (a b c : Option (List ℕ)) (at : ℕ) (scan : Scanning) (seen : BTreeSet (List ℕ))
    (facts facts_now : List Entry) → Came a b at scan seen facts → at ≤ most
    → SourceGave b c [] → IfSome b (λ left. left ≡ [])
    → ((front : List ℕ) → IsTaken front scan seen facts → IsAllOf front facts_now) → GaveFacts most a c facts_now
gave_facts most a b c at scan seen facts facts_now came short gave none all = record {
  input = came.front;
  short = omega (arith, came.long, short);
  gave = SourceGave-end a b c came.front came.gave gave none;
  says = gathered_facts came.front facts_now (all came.front came.taken);
}
