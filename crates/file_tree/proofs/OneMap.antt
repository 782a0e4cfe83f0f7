-- The blobs that were fetched, as one map.
use Rattle.std.proofs.Common.{◌≡◌, ℕ, Bool, true, false, cond, List, [], ◌∷◌, All, Contains, get_or, Option, None, Some, Ok, Err, refl, sym, ap, subst, ◌∙◌, arith}
use Rattle.std.proofs.lemmas.List.Elements.{All-nil, All-cons, All-weaker, All-contains_itself, Contains-append_right}
use Rattle.std.specs.Cmp.{eq_by_cmp_equiv}
use Rattle.std.specs.Cmp.Lexicographic.{nat_list_cmp_total}
use Rattle.std.specs.FinMap.{empty, get, insert, get-empty, get-insert}
use Rattle.std.specs.Ordering.{is_eq}
use Rattle.std.specs.declared.cmp.Ordering.{Ordering}
use Rattle.std.specs.declared.cmp.Ordering.TheVariants.{Less, Equal, Greater}
use Rattle.blobref.specs.Blobref.{ref_cmp}
use Rattle.edge_base.specs.Shelf.{Blobs}
use Rattle.edge_base.proofs.Racks.{ref_cmp-IsAntisymmetric}
use Rattle.file_tree.specs.Fetching.{Answer, Fetch, IsAnswerOf}
use Rattle.file_tree.specs.Laws.{HaveOneAnswer, WereFetched, FetchedBlobsAreOneMap}
use Rattle.file_tree.proofs.Told.{file_as}

-- with the blob of one fetch
abbrev with_answer : List ℕ → Answer → Blobs → Blobs
with_answer r (Ok None) held = held
with_answer r (Ok (Some bytes)) held = insert held r bytes
with_answer r (Err fault) held = held

-- the blobs that were found
abbrev held_of : List Fetch → Blobs
held_of [] = empty
held_of (fetch ∷ more) = with_answer fetch.0 fetch.1 (held_of more)

some_same : (a b : List ℕ) → Some a ≡ Some b → a ≡ b
some_same a b e = cc e

further : (x : Fetch) (xs : List Fetch) (y : Fetch) → Contains xs y → Contains (x ∷ xs) y
further x xs = Contains-append_right (x ∷ []) xs

-- each of them was
one_more : (r : List ℕ) (answer : Answer) (more : List Fetch) (held : Blobs) → WereFetched more held → WereFetched ((r, answer) ∷ more) (with_answer r answer held)
one_more r (Ok None) more held were q bytes e = further (r, Ok None) more (q, Ok (Some bytes)) (were q bytes e)
one_more r (Err fault) more held were q bytes e = further (r, Err fault) more (q, Ok (Some bytes)) (were q bytes e)
one_more r (Ok (Some found)) more held were q bytes e = go (ref_cmp q r) refl (sym (get-insert nat_list_cmp_total held r found q) ∙ e)
  where
    older : get held q ≡ Some bytes → Contains ((r, Ok (Some found)) ∷ more) (q, Ok (Some bytes))
    older e = further (r, Ok (Some found)) more (q, Ok (Some bytes)) (were q bytes e)

    go : (o : Ordering) → ref_cmp q r ≡ o → cond (is_eq o) (Some found) (get held q) ≡ Some bytes → Contains ((r, Ok (Some found)) ∷ more) (q, Ok (Some bytes))
    go Less o e = older e
    go Equal o e =
        let x : Fetch = (r, Ok (Some found)) in
        subst (λ (y : Fetch). Contains (x ∷ more) y) (λ i. (sym (ref_cmp-IsAntisymmetric q r o) i, Ok (Some (some_same found bytes e i)))) (0, omega arith, refl)
    go Greater o e = older e

were_fetched : (fetches : List Fetch) → WereFetched fetches (held_of fetches)
were_fetched [] = λ q bytes e. none q bytes (sym (get-empty ref_cmp q) ∙ e)
  where
    none : (q bytes : List ℕ) → None ≡ Some bytes → Contains {X = Fetch} [] (q, Ok (Some bytes))
    none q bytes e = absurd (cc e)
were_fetched (fetch ∷ more) = one_more fetch.0 fetch.1 more (held_of more) (were_fetched more)

-- where it was found, something stands there
abbrev IsThere : Blobs → Fetch → Type 0
IsThere held fetch = (bytes : List ℕ) → fetch.1 ≡ Ok (Some bytes) → (other : List ℕ) × (get held fetch.0 ≡ Some other)

still_there : (r : List ℕ) (answer : Answer) (held : Blobs) (fetch : Fetch) → IsThere held fetch → IsThere (with_answer r answer held) fetch
still_there r (Ok None) held fetch there = there
still_there r (Err fault) held fetch there = there
still_there r (Ok (Some found)) held fetch there = λ bytes e. go (is_eq (ref_cmp fetch.0 r)) (get-insert nat_list_cmp_total held r found fetch.0) (there bytes e)
  where
    go : (b : Bool) → get (insert held r found) fetch.0 ≡ cond b (Some found) (get held fetch.0) → (other : List ℕ) × (get held fetch.0 ≡ Some other) → (other : List ℕ) × (get (insert held r found) fetch.0 ≡ Some other)
    go true is there = (found, is)
    go false is there = (there.0, is ∙ there.1)

here : (r : List ℕ) (answer : Answer) (held : Blobs) → IsThere (with_answer r answer held) (r, answer)
here r (Ok None) held = λ bytes e. absurd (cc e)
here r (Err fault) held = λ bytes e. absurd (cc e)
here r (Ok (Some found)) held = λ bytes e. (found, get-insert nat_list_cmp_total held r found r ∙ ap (λ b. cond b (Some found) (get held r)) ((eq_by_cmp_equiv nat_list_cmp_total).refl r))

are_there : (fetches : List Fetch) → All (IsThere (held_of fetches)) fetches
are_there [] = All-nil (IsThere (held_of []))
are_there (fetch ∷ more) =
    All-cons (IsThere (held_of (fetch ∷ more))) fetch more (here fetch.0 fetch.1 (held_of more))
    (All-weaker (IsThere (held_of more)) (IsThere (held_of (fetch ∷ more))) (still_there fetch.0 fetch.1 (held_of more)) more (are_there more))

-- with one answer for each ref, each is what stands there
is_answer : (fetches : List Fetch) → HaveOneAnswer fetches → (held : Blobs) → WereFetched fetches held → (r : List ℕ) (answer : Answer) → Contains fetches (r, answer) → IsThere held (r, answer) → IsAnswerOf held (r, answer)
is_answer fetches one held were r (Err fault) in_ there = tt
is_answer fetches one held were r (Ok None) in_ there = go (get held r) refl
  where
    go : (o : Option (List ℕ)) → get held r ≡ o → None ≡ get held r
    go None is = sym is
    go (Some bytes) is = absurd (cc (one r None (Some bytes) in_ (were r bytes is)))
is_answer fetches one held were r (Ok (Some bytes)) in_ there =
    let at = there bytes refl in
    one r (Some bytes) (Some at.0) in_ (were r at.0 at.1) ∙ sym at.1

pub fetched_blobs_are_one_map : FetchedBlobsAreOneMap
fetched_blobs_are_one_map r fetches read h one =
    let held = held_of fetches in
    let both : All (IsAnswerOf held) fetches = each held (were_fetched fetches) (are_there fetches) in
    (held, were_fetched fetches, file_as held r fetches read both h)
  where
    each : (held : Blobs) → WereFetched fetches held → All (IsThere held) fetches → All (IsAnswerOf held) fetches
    each held were there k d lt =
        let fetch = get_or fetches k d in
        is_answer fetches one held were fetch.0 fetch.1 (All-contains_itself fetches k d lt) (there k d lt)
