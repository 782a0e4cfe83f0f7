-- Blobs and pages that are taken one after another.
use Rattle.std.proofs.Common.{◌≡◌, ℕ, ◌+◌, ◌-◌, ◌^◌, ◌≤◌, min, List, [], ◌∷◌, ◌++◌, length, Option, Some, Ok, refl, sym}
use Rattle.std.proofs.Common.{ap, subst, ◌∙◌, arith, append_assoc, length-append}
use Rattle.std.proofs.lemmas.List.{append-nil, length-map, map-append}
use Rattle.edge_base.specs.Shelf.{Blob}
use Rattle.peer_base.specs.Order.{refs_of}
use Rattle.peer_base.specs.declared.peer.Peer.{Ghosts}
use Rattle.listed_pages.specs.Pages.{Page}
use Rattle.sync_core.specs.declared.syncing.SyncFault.{SyncFault}
use Rattle.sync_core.specs.Turns.{Turn, refs_listed, blobs_gone, AreCounts, CopiesEach, TakesTurn, TakesTurns}
use Rattle.sync_core.specs.Turns.{StopsBlob, StopsCopying, ArePut}

-- ---- what was put

pub put_none : ArePut [] [] [] []
put_none = record { also = []; gone_are = refl; tried_is = refl }

pub put_more : (first gone next done tried : List Blob) → ArePut gone next done tried → ArePut (first ++ gone) next
    (first ++ done) tried
put_more first gone next done tried p = record {
  also = p.also;
  gone_are = ap (λ l. first ++ l) p.gone_are
      ∙ sym (append_assoc first done p.also);
  tried_is = p.tried_is;
}

-- nothing of the page at hand was
pub put_whole : (gone done : List Blob) → gone ≡ done → ArePut gone [] (done ++ []) []
put_whole gone done is = record {
  also = [];
  gone_are = is ∙ sym (append-nil done)
      ∙ sym (append-nil (done ++ []));
  tried_is = refl;
}

pub put_on : (all first gone next done tried : List Blob) → first ≡ all → ArePut gone next done tried
    → ArePut (first ++ gone) next (all ++ done) tried
put_on all first gone next done tried is p = subst (λ l. ArePut (first ++ gone) next (l ++ done) tried) is
    (put_more first gone next done tried p)

-- ---- the sums

pub gone_one : (turns : List Turn) (turn : Turn) → blobs_gone (turns ++ turn ∷ []) ≡ blobs_gone turns ++ turn.gone
gone_one [] turn = append-nil turn.gone
gone_one (x ∷ turns) turn = ap (λ l. x.gone ++ l) (gone_one turns turn)
    ∙ sym (append_assoc x.gone (blobs_gone turns) turn.gone)

listed_one : (turns : List Turn) (turn : Turn) → refs_listed (turns ++ turn ∷ []) ≡ refs_listed turns
    ++ refs_of turn.page
listed_one [] turn = append-nil (refs_of turn.page)
listed_one (x ∷ turns) turn = ap (λ l. refs_of x.page ++ l) (listed_one turns turn)
    ∙ sym (append_assoc (refs_of x.page) (refs_listed turns) (refs_of turn.page))

-- the counts, with how many can't be more than were listed
pub record AreCounted (listed : List (List ℕ)) (gone : List Blob) (copied already : ℕ) : Type 0 where
  pub counts : AreCounts listed gone copied already
  pub few : length gone ≤ length listed

pub counted_none : AreCounted [] [] 0 0
counted_none = record { counts = record { copied_is = omega arith; already_is = omega arith }; few = omega arith }

pub counted_more : (turns : List Turn) (page : Page) (beside : List Page) (gone more : List Blob)
    (copied already count copied_now already_now : ℕ) → AreCounted (refs_listed turns) gone copied already
    → count ≡ length more → count ≤ length page → copied_now ≡ min (copied + count) (2 ^ 64 - 1) → already_now
    ≡ min (already + (length page - count)) (2 ^ 64 - 1)
    → AreCounted (refs_listed (turns ++ (record { page = page; beside = beside; gone = more }) ∷ []))
    (gone ++ more) copied_now already_now
counted_more turns page beside gone more copied already count copied_now already_now was count_is within copied_is
    already_is =
    let len_gone : length (gone ++ more) ≡ length gone + length more = length-append gone more in
    let len_page : length (refs_of page) ≡ length page = length-map page (λ (e : List ℕ × ℕ). e.0) in
    let len_listed : length (refs_listed (turns ++ (record { page = page; beside = beside; gone = more }) ∷ []))
    ≡ length (refs_listed turns) + length (refs_of page)
    = ap (λ (l : List (List ℕ)). length l) (listed_one turns (record { page = page; beside = beside; gone = more }))
    ∙ length-append (refs_listed turns) (refs_of page) in
    record {
      counts = record {
        copied_is = omega (arith, was.counts.copied_is, count_is, copied_is, len_gone);
        already_is = omega (
          arith,
          was.counts.already_is,
          was.few,
          count_is,
          within,
          already_is,
          len_gone,
          len_page,
          len_listed,
        );
      };
      few = omega (arith, was.few, count_is, within, len_gone, len_page, len_listed);
    }

module _ {A B : Type 0} (g : Ghosts A) (h : Ghosts B) where
  -- ---- blobs

  pub each_then : (source between now : A) (a b c : B) (first second : List Blob)
      → CopiesEach g h source a first between b → CopiesEach g h between b second now c → CopiesEach g h source a
      (first ++ second) now c
  each_then source between now a b c [] second p q = subst (λ (s : A). CopiesEach g h s a second now c) p.0
      (subst (λ (t : B). CopiesEach g h between t second now c) p.1 q)
  each_then source between now a b c (x ∷ first) second p q =
      (p.0, p.1, p.2, each_then p.0 between now p.1 b c first second p.3 q)

  pub each_one : (source now : A) (a b : B) (r bytes : List ℕ) → g.fetches source r (Ok (Some bytes)) now
      → h.keeps a (r, bytes) (Ok tt) b → CopiesEach g h source a ((r, bytes) ∷ []) now b
  each_one source now a b r bytes fetched put = (now, b, record { fetched = fetched; put = put }, (refl, refl))

  pub stops_one : (source now : A) (a b : B) (r : List ℕ) (tried : List Blob) (e : SyncFault)
      → StopsBlob g h source now a b r tried e → StopsCopying g h source now a b (r ∷ []) [] tried e
  stops_one source now a b r tried e stops = record {
    before = source;
    between = a;
    r = r;
    rest = [];
    refs_are = refl;
    copies = (refl, refl);
    stops = stops;
  }

  pub stops_more : (source between now : A) (a b c : B) (gone done tried : List Blob) (second rest : List (List ℕ))
      (e : SyncFault) → CopiesEach g h source a gone between b
      → StopsCopying g h between now b c second done tried e → StopsCopying g h source now a c
      (refs_of gone ++ (second ++ rest)) (gone ++ done) tried e
  stops_more source between now a b c gone done tried second rest e each q = record {
    before = q.before;
    between = q.between;
    r = q.r;
    rest = q.rest ++ rest;
    refs_are =
        ap (λ l. refs_of gone ++ (l ++ rest)) q.refs_are ∙ ap (λ l. refs_of gone ++ l)
        (append_assoc (refs_of done) (q.r ∷ q.rest) rest)
        ∙ sym (append_assoc (refs_of gone) (refs_of done) (q.r ∷ (q.rest ++ rest)))
        ∙ ap (λ l. l ++ (q.r ∷ (q.rest ++ rest))) (sym (map-append (λ (e : Blob). e.0) gone done));
    copies = each_then source between q.before a b q.between gone done each q.copies;
    stops = q.stops;
  }

  -- ---- pages

  pub turns_one : (source between now : A) (a b c : B) (after end : Option (List ℕ)) (turns : List Turn) (turn : Turn)
      (last : List ℕ) → TakesTurns g h source a after turns between b end
      → TakesTurn g h between now b c end last turn → TakesTurns g h source a after (turns ++ turn ∷ []) now c
      (Some last)
  turns_one source between now a b c after end [] turn last p q = (
    now,
    c,
    last,
    subst (λ (s : A). TakesTurn g h s now a c after last turn) p.0
        (subst (λ (t : B). TakesTurn g h between now t c after last turn) p.1
        (subst (λ (o : Option (List ℕ)). TakesTurn g h between now b c o last turn) p.2 q)),
    (refl, refl, refl),
  )
  turns_one source between now a b c after end (x ∷ turns) turn last p q =
      (p.0, p.1, p.2, p.3, turns_one p.0 between now p.1 b c (Some p.2) end turns turn last p.4 q)
