-- A search finds what its first turn shows.
use Rattle.std.proofs.Common.{◌≡◌, ◌<◌, ◌≤◌, inl, inr, ⊎_elim, ℕ, suc, Bool, List, [], ◌∷◌, length}
use Rattle.std.proofs.Common.{take, Some, Result, Ok, Err, Contains, slice_get, refl, sym, ap, subst}
use Rattle.std.proofs.Common.{◌∙◌, arith}
use Rattle.std.proofs.lemmas.List.{length-take-le}
use Rattle.std.proofs.lemmas.List.Elements.{Contains-push_cases, Contains-append_cases}
use Rattle.std.proofs.lemmas.Option.{slice_get_within}
use Rattle.claim_verify.specs.Verifier.{Accepts}
use Rattle.search_query.specs.declared.query.Query.{Query}
use Rattle.answer_text.specs.declared.refusal.Refusal.{Refusal}
use Rattle.histories.specs.declared.stamped.Stamped.{Stamped}
use Rattle.histories.specs.declared.events.StoreEvent.{StoreEvent}
use Rattle.histories.specs.declared.events.StoreEvent.TheVariants as store
use Rattle.histories.specs.History.{events, stamp, Later}
use Rattle.histories.specs.Stores.{Blob, puts, arrivals}
use Rattle.histories.specs.declared.events.Insertion.{Insertion}
use Rattle.histories.specs.Indexes.{HasAllBelow}
use Rattle.histories.proofs.Prefixes.{prefix_get}
use Rattle.histories.proofs.Standing.{arrivals_prefix}
use Rattle.http_wire.specs.declared.head.Framing.{Framing}
use Rattle.http_wire.specs.Speaking.{Request}
use Rattle.blob_routes.specs.declared.routes.Route.{Route}
use Rattle.blob_routes.specs.declared.routes.Route.TheVariants as route
use Rattle.blob_routes.specs.declared.pages.Page.{Page}
use Rattle.blob_routes.specs.Stats.{refs_of}
use Rattle.blob_routes.specs.Pages.{page_of}
use Rattle.blob_http.specs.declared.entries.Outcome.{Outcome}
use Rattle.blob_http.specs.declared.entries.Outcome.TheVariants.{Defined}
use Rattle.blob_http.specs.declared.operations.Operation.{Operation}
use Rattle.blob_http.specs.declared.operations.Operation.TheVariants as operation
use Rattle.http_exchange.specs.Asked.{Asked, Whole}
use Rattle.blob_http.specs.Operations.{IsAskedBy, IsAsked, IsSearch, first_of, stat_of, refs_asked}
use Rattle.http_exchange.specs.HeadPlaces.{piece}
use Rattle.blob_http.specs.Answers.{IsAnswer}
use Rattle.blob_http.specs.Serving.{IsShown, LooksAt, IsReply}
use Rattle.blob_http.specs.Finding.{IsPutAt, IsFound, FindsShown, SearchesFind}

-- ---- what is asked is a search

not_stat : (query : Query) (found : Result (List (List ℕ)) Refusal) → operation.Search query ≡ stat_of found → ⊥
not_stat query (Ok refs) e = absurd (cc e)
not_stat query (Err why) e = absurd (cc e)

not_page : (query : Query) (found : Result Page Refusal) → operation.Search query ≡ refs_asked found → ⊥
not_page query (Ok page) e = absurd (cc e)
not_page query (Err why) e = absurd (cc e)

search_asked : (query : Query) (body : List ℕ) (q : Operation) → IsSearch body (operation.Search query)
    → IsSearch body q
    → (other : Query) × (q ≡ operation.Search other)
search_asked query body (operation.Search other) e f = (other, refl)
search_asked query body (operation.Refused why allow) e f = absurd (cc (sym e ∙ f.0))
search_asked query body (operation.Blob r) e f = absurd f
search_asked query body (operation.Stat refs) e f = absurd f
search_asked query body (operation.Refs page) e f = absurd f

-- two questions of one request are both searches, where one is
both_search : (found : Result Route Operation) (framing : Framing) (query : Query) (text body : List ℕ) (q : Operation)
    → IsAskedBy found framing text body (operation.Search query) → IsAskedBy found framing text body q
    → (other : Query) × (q ≡ operation.Search other)
both_search (Ok (route.Blob r)) framing query text body q e f = absurd (cc e)
both_search (Ok (route.Stat posted)) framing query text body q e f = absurd
    (not_stat query (refs_of posted text body) e)
both_search (Ok route.Page) framing query text body q e f = absurd (not_page query (page_of text) e)
both_search (Ok route.Upload) framing query text body q e f = absurd e
both_search (Ok route.Search) framing query text body q e f = search_asked query body q e f
both_search (Err first) framing query text body q e f = (query, f.0 ∙ sym e.0)

not_upload : (found : Result Route Operation) (framing : Framing) (query : Query) (text body : List ℕ)
    → found ≡ Ok route.Upload → IsAskedBy found framing text body (operation.Search query) → ⊥
not_upload found framing query text body is e =
    subst (λ (z : Result Route Operation). IsAskedBy z framing text body (operation.Search query)) is e

-- ---- what was put has arrived

behind : (e : StoreEvent) (es : List StoreEvent) (n : ℕ) (blob : Blob) → slice_get (puts es) n ≡ Some blob
    → (m : ℕ) × (slice_get (puts (e ∷ es)) m ≡ Some blob)
behind (store.Put k r bytes) es n blob is = (suc n, is)
behind (store.Fault f) es n blob is = (n, is)
behind (store.Damage want other) es n blob is = (n, is)
behind (store.Full blobs pack) es n blob is = (n, is)

put_arrives : (h : List (Stamped StoreEvent)) (turn number : ℕ) (blob : Blob)
    → Contains h (stamp turn (store.Put number blob.0 blob.1)) → (n : ℕ) × (slice_get (arrivals h) n ≡ Some blob)
put_arrives [] turn number blob c = absurd (omega (arith, c.1))
put_arrives (s ∷ ss) turn number blob c =
    ⊎_elim (λ (here : Contains (s ∷ []) (stamp turn (store.Put number blob.0 blob.1))). at_head here)
    (λ (there : Contains ss (stamp turn (store.Put number blob.0 blob.1))).
    let found = put_arrives ss turn number blob there in behind s.entry (events ss) found.0 blob found.1)
    (Contains-append_cases (s ∷ []) ss (stamp turn (store.Put number blob.0 blob.1)) c)
  where
    at_head : Contains (s ∷ []) (stamp turn (store.Put number blob.0 blob.1))
        → (n : ℕ) × (slice_get (arrivals (s ∷ ss)) n ≡ Some blob)
    at_head here = ⊎_elim
        (λ (none : Contains [] (stamp turn (store.Put number blob.0 blob.1))). absurd (omega (arith, none.1)))
        (λ (same : s ≡ stamp turn (store.Put number blob.0 blob.1)).
        subst (λ (z : Stamped StoreEvent). (n : ℕ) × (slice_get (arrivals (z ∷ ss)) n ≡ Some blob)) (sym same)
        (0, refl)) (Contains-push_cases [] s (stamp turn (store.Put number blob.0 blob.1)) here)

later_not : (turn : ℕ) (rest : List (Stamped StoreEvent)) (t : ℕ) (e : StoreEvent) → Later turn rest
    → Contains rest (stamp t e) → turn < t
later_not turn [] t e later c = absurd (omega (arith, c.1))
later_not turn (s ∷ ss) t e later c =
    ⊎_elim (λ (here : Contains (s ∷ []) (stamp t e)). ⊎_elim
    (λ (none : Contains [] (stamp t e)). absurd (omega (arith, none.1)))
    (λ (same : s ≡ stamp t e). subst (λ (z : Stamped StoreEvent). turn < z.turn) same later.0)
    (Contains-push_cases [] s (stamp t e) here))
    (λ (there : Contains ss (stamp t e)). later_not turn ss t e later.1 there)
    (Contains-append_cases (s ∷ []) ss (stamp t e) c)

module _ (h : List (Stamped StoreEvent)) (g : List Insertion) (count : ℕ) (turns : List ℕ)
    (low : count ≤ length (arrivals h)) (shown : IsShown h (take count (arrivals h)) turns)
    (all : HasAllBelow (length (take count (arrivals h))) g) where
  found_seen : (turn : ℕ) (blob : Blob) → IsPutAt shown.seen turn blob → IsFound h g count blob
  found_seen turn blob put =
      let at = put_arrives shown.seen turn put.0 blob put.1 in
      let within = slice_get_within (arrivals shown.seen) at.0 blob at.1 in
      let size = length-take-le count (arrivals h) low in
      let same = ap length shown.arrived in
      record {
        number = at.0;
        within = omega (arith, within, size, same);
        arrived = prefix_get (arrivals shown.seen) (arrivals h) at.0 blob
            (arrivals_prefix shown.seen h shown.begins) at.1;
        inserted = all at.0 (omega (arith, within, same));
      }

  found_earlier : (turn : ℕ) (blob : Blob) → IsPutAt h turn blob → turn < shown.turn → IsFound h g count blob
  found_earlier turn blob put lt =
      let entry = stamp turn (store.Put put.0 blob.0 blob.1) in
      let joined = shown.joined turn lt in
      ⊎_elim (λ (here : Contains shown.seen entry). found_seen turn blob (put.0, here))
      (λ (there : Contains joined.0 entry).
      let late = later_not turn joined.0 turn (store.Put put.0 blob.0 blob.1) joined.2 there in
      absurd (omega (arith, late)))
      (Contains-append_cases shown.seen joined.0 entry
      (subst (λ (z : List (Stamped StoreEvent)). Contains z entry) (sym joined.1) put.1))

  finds : FindsShown h g count turns
  finds = record { shown = shown; seen = found_seen; earlier = found_earlier }

-- ---- the law

module _ (tells : Bool) (accepts : Accepts) (h : List (Stamped StoreEvent)) (g : List Insertion) (r : Request)
    (query : Query) (count kept : ℕ) (turns : List ℕ) (added : List (Stamped StoreEvent)) (text : List ℕ)
    (low : count ≤ length (arrivals h)) (asked : IsAsked r.head r.says r.body (operation.Search query)) where
  finds_by : IsReply tells accepts h (take count (arrivals h)) g (Whole r) kept turns added Defined text
      → FindsShown h g count turns
  finds_by (inl u) =
      absurd (not_upload (first_of r.head r.says) r.says.framing query (piece r.head r.says.query) r.body u.0.upload
      asked)
  finds_by (inr a) =
      let q = a.2 in
      let same = both_search (first_of r.head r.says) r.says.framing query (piece r.head r.says.query) r.body q.0
      asked q.1 in
      let answer = subst (λ (z : Operation). IsAnswer tells accepts (take count (arrivals h)) g r.says.closes z Defined
      text) same.1 q.2 in
      let looks = subst (λ (z : Operation). LooksAt h (take count (arrivals h)) z turns) same.1 q.3 in
      finds h g count turns low looks answer.0

pub searches_find : SearchesFind
searches_find tells accepts h g a r query holds whole asked defined =
    finds_by tells accepts h (take a.entry.index_count g) r query a.entry.store_count a.entry.kept a.turns a.added
    a.text holds.store_within asked
    (subst (λ (z : Asked). IsReply tells accepts h (take a.entry.store_count (arrivals h))
    (take a.entry.index_count g) z a.entry.kept a.turns a.added Defined a.text) whole
    (subst (λ (o : Outcome). IsReply tells accepts h (take a.entry.store_count (arrivals h))
    (take a.entry.index_count g) a.asked a.entry.kept a.turns a.added o a.text) defined holds.replied))
