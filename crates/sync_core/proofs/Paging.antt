-- A sync between two pages, and how it goes on and ends.
use Rattle.std.proofs.Common.{◌≡◌, Ok, Err, ℕ, zero, suc, ◌+◌, ◌-◌, ◌^◌, ◌≤◌, ◌<◌, min, Bool, cond, not, true, false}
use Rattle.std.proofs.Common.{Option, None, Some, List, [], ◌∷◌, ◌++◌, length, take, filter, refl, sym, ap, subst, ◌∙◌}
use Rattle.std.proofs.Common.{arith, length-append}
use Rattle.std.proofs.lemmas.List.{append-nil, length-map}
use Rattle.std.specs.List.{All}
use Rattle.std.specs.Option.{ForSome, option_map, is_some}
use Rattle.blobref.specs.Blobref.{is_after}
use Rattle.std.specs.FinMap.{entries, entries_sorted, get, contains_key}
use Rattle.edge_base.specs.Shelf.{Blob, Blobs, Keeps, with_blobs}
use Rattle.peer_base.specs.Blobs.{AreHeld, listed, IsPage}
use Rattle.peer_base.specs.Order.{refs_of, last_ref, last_of, beyond, up_to}
use Rattle.peer_base.proofs.Pages.{listed_refs, page_more, page_none, parted}
use Rattle.peer_base.specs.declared.peer.Peer.{Ghosts}
use Rattle.peer_base.specs.declared.peer.PeerFault.{PeerFault}
use Rattle.peer_base.specs.declared.peer.PeerFault.TheVariants as fault
use Rattle.sync_core.specs.declared.syncing.SyncFault.{SyncFault}
use Rattle.sync_core.specs.declared.syncing.SyncFault.TheVariants.{Source, Target}
use Rattle.sync_core.specs.declared.syncing.Synced.{Synced}
use Rattle.listed_pages.specs.Answers.{IsReached, SourceAnswered, TargetAnswered}
use Rattle.listed_pages.specs.Causes.{ListFault}
use Rattle.listed_pages.specs.Pages.{Page, refs_off, IsPartOf, ListsUpTo, StopsListing, AsksOnce}
use Rattle.listed_pages.proofs.Chains.{no_entries}
use Rattle.listed_pages.proofs.Runs.{Laws}
use Rattle.sync_core.specs.Causes.{SourceFault, TargetFault}
use Rattle.sync_core.specs.Copying.{lacking, StandIn, AreThere, Copies, PutsBut, CopiesRefs, CopiesFront, CopiesPage}
use Rattle.sync_core.specs.Copying.{CopiesSome, Stopped}
use Rattle.sync_core.specs.Turns.{Turn, refs_listed, blobs_gone, TakesTurns, StopsCopying, StopsAt, at_page, at_beside}
use Rattle.sync_core.specs.Turns.{at_blob, at_end}
use Rattle.sync_core.specs.Syncing.{ForBoth, IsSynced, IsStopped}
use Rattle.sync_core.proofs.Gone.{none_stand, given_same, copies_then, stopped_then}
use Rattle.sync_core.proofs.Taking.{put_none, put_whole, put_on, gone_one, AreCounted, counted_none, counted_more}
use Rattle.sync_core.proofs.Taking.{turns_one}
use Rattle.sync_core.proofs.Standing.{page_copied, front_copied, all_copied, some_copied, entries_stand, all_filter}
use Rattle.sync_core.proofs.Standing.{all_take}

-- the blobs up to a ref were copied, and are counted
pub record IsUpTo (after : Option (List ℕ)) (copied already : ℕ) (gone : List Blob) (from to : Blobs) : Type 0 where
  pub gone_is : gone ≡ filter (λ (e : Blob). not (contains_key to e.0)) (up_to after (entries from))
  pub copied_is : copied ≡ length gone
  pub all_are : copied + already ≡ length (up_to after (entries from))

module _ {A B : Type 0} (g : Ghosts A) (h : Ghosts B) where
  pub record IsFar (source before : A) (old now : B) (after : Option (List ℕ)) (copied already : ℕ) : Type 0 where
    pub gone : List Blob
    pub copies : Copies g h source old now gone
    pub turns : List Turn
    pub takes : TakesTurns g h source old None turns before now after
    pub gone_are : gone ≡ blobs_gone turns
    pub counted : AreCounted (refs_listed turns) gone copied already
    pub is : ForBoth g h source old (IsUpTo after copied already gone)

given_of : (before now : Option Blobs) (gone : List Blob) (to : Blobs) → Keeps before now gone → before ≡ Some to → now
    ≡ Some (with_blobs to gone)
given_of before now gone to given is = given ∙ ap (option_map (λ held. with_blobs held gone)) is

-- sums below the last value of a u64
exact : (a b n : ℕ) → n ≡ a + b → n < 2 ^ 64 → min (a + b) (2 ^ 64 - 1) ≡ a + b
exact a b n is low = omega (arith, is, low)

module _ {A B : Type 0} (g : Ghosts A) (h : Ghosts B) where
  -- the target didn't list
  unlisted_stop : (source : A) (old now : B) (f : PeerFault) → h.content now ≡ h.content old → h.puts old [] now
      → ListFault (h.content old) (h.faults old) (h.faults now) f → TargetAnswered h old now f
      → Stopped g h source source old now [] [] (Target f)
  unlisted_stop source old now f same nothing why answered =
      record {
        stand = none_stand (g.content source);
        given = given_same (h.content old) (h.content now) same;
        put = but
            f;
        why = (on f why, answered);
      }
    where
      but : (f : PeerFault) → PutsBut g h old now [] (Target f)
      but fault.Failed = tt
      but fault.BadReply = nothing
      but (fault.Refused status) = nothing
      but (fault.Damaged want is) = nothing
      but (fault.Full blobs pack) = nothing
      but fault.NoMemory = nothing

      on : (f : PeerFault) → ListFault (h.content old) (h.faults old) (h.faults now) f → TargetFault (h.content old)
          (h.fills now) (h.faults old) (h.faults now) [] f
      on fault.Failed w = w
      on fault.BadReply w = w
      on (fault.Refused status) w = w
      on (fault.Damaged want is) w = w
      on (fault.Full blobs pack) w = absurd w
      on fault.NoMemory w = w

module _ {A B : Type 0} (g : Ghosts A) (h : Ghosts B) (la : Laws g) (lb : Laws h)
    (source : A) (old : B) (few : ForSome (g.content source) AreHeld) where
  -- one page more
  pub far_more : (before between source_next : A) (now next : B) (after : Option (List ℕ)) (page : List (List ℕ × ℕ))
      (last : List ℕ) (copied already count copied_now already_now : ℕ)
      → g.lists before after 1000 (Ok page) between → g.content between ≡ g.content source → IsPage after 1000 page
      → ForSome (g.content source) (λ from. page ≡ listed after 1000 from) → last_ref page ≡ Some last
      → IsFar g h source before old now after copied already → CopiesPage g h between source_next now next after last
      page count
      → copied_now ≡ min (copied + count) (2 ^ 64 - 1) → already_now ≡ min (already + (length page - count))
      (2 ^ 64 - 1) → count ≤ length page
      → IsFar g h source source_next old next (Some last) copied_now already_now
  far_more before between source_next now next after page last copied already count copied_now already_now call same
      shape page_is is_last far more copied_is already_is within = record {
        gone = far.gone ++ more.gone;
        copies = copies_then g h la lb source between old now next far.gone more.gone same far.copies more.copies;
        turns = far.turns ++ (record { page = page; beside = more.beside; gone = more.gone }) ∷ [];
        takes = turns_one g h source before source_next old now next None after far.turns
            (record { page = page; beside = more.beside; gone = more.gone }) last far.takes
            (record { listed = between; call = call; last_is = is_last; takes = more.takes });
        gone_are = ap (λ l. l ++ more.gone) far.gone_are
            ∙ sym (gone_one far.turns (record { page = page; beside = more.beside; gone = more.gone }));
        counted = counted_more far.turns page more.beside far.gone more.gone copied already count copied_now already_now
            far.counted more.count_is within copied_is already_is;
        is = λ from told to held.
            let was = far.is from told to held in
            let es = entries from in
            let refs = more.are (with_blobs to far.gone) (given_of (h.content old) (h.content now) far.gone to
            far.copies.given held) in
            let listed_is = page_is from told in
            let gone_now = page_copied from to after 1000 page far.gone shape listed_is was.gone_is more.gone last
            (more.copies.stand from (same ∙ told)) refs is_last in
            let up = page_more after 1000 es last (entries_sorted from)
            (ap last_of (sym (listed_refs after 1000 from) ∙ ap refs_of (sym listed_is)) ∙ is_last) in
            let len_up : length (up_to (Some last) es) ≡ length (up_to after es) + length (take 1000 (beyond after es)) =
            ap (λ (l : List Blob). length l) up ∙ length-append (up_to after es) (take 1000 (beyond after es)) in
            let len_page : length page ≡ length (take 1000 (beyond after es)) =
            sym (length-map page (λ (e : List ℕ × ℕ). e.0)) ∙ ap (λ (l : List (List ℕ)). length l) (ap refs_of listed_is
            ∙ listed_refs after 1000 from) ∙ length-map (take 1000 (beyond after es)) (λ (e : Blob). e.0) in
            let len_all : length es ≡ length (up_to (Some last) es) + length (beyond (Some last) es) =
            ap (λ (l : List Blob). length l) (parted (Some last) es (entries_sorted from))
            ∙ length-append (up_to (Some last) es) (beyond (Some last) es) in
            let low = (few from told).few in
            let len_gone : length (far.gone ++ more.gone) ≡ length far.gone + length more.gone =
            length-append far.gone more.gone in
            record {
              gone_is = gone_now;
              copied_is = omega (
                arith,
                copied_is,
                was.copied_is,
                more.count_is,
                len_gone,
                was.all_are,
                within,
                len_up,
                len_page,
                len_all,
                low,
              );
              all_are = omega (arith, copied_is, already_is, was.all_are, within, len_up, len_page, len_all, low);
            };
      }

  -- nothing follows, and the target was asked for its refs if it wasn't before
  pub far_end : (before source_now : A) (now next : B) (after : Option (List ℕ)) (page : List (List ℕ × ℕ))
      (done : Synced)
      → g.lists before after 1000 (Ok page) source_now → IsPage after 1000 page → ForSome (g.content source)
      (λ from. page ≡ listed after 1000 from) → None ≡ last_ref page
      → h.content next ≡ h.content now → h.puts now [] next → AsksOnce h (is_some after) now next
      → IsFar g h source before old now after done.copied done.already → IsReached h old next
      → IsSynced g h source source_now old next done
  far_end before source_now now next after page done call shape page_is none same put_nothing asks far reached =
      record {
        gone = far.gone;
        copies = copies_now;
        did = record {
          turns = far.turns;
          takes = record {
            before = before;
            between = now;
            end = after;
            takes = far.takes;
            nothing_follows = subst (λ (p : Page). g.lists before after 1000 (Ok p) source_now) (no_entries page none) call;
            asks = asks;
          };
          gone_are = far.gone_are;
          counts = far.counted.counts;
        };
        all = λ from told to held. whole from told to held;
        union = λ from told to held. given_of (h.content old) (h.content next) far.gone to copies_now.given held
            ∙ ap (λ l. Some (with_blobs to l)) (whole from told to held);
        copied_is = λ from told to held. (far.is from told to held).copied_is ∙ ap (λ (l : List Blob). length l)
            (whole from told to held);
        already_is = λ from told to held.
            (far.is from told to held).all_are ∙ ap (λ (l : List Blob). length l) (page_none after 1000 (entries from)
            (omega arith) (empty from (page_is from told)));
        reached = reached;
      }
    where
      copies_now : Copies g h source old next far.gone
      copies_now = record {
        stand = far.copies.stand;
        given = same ∙ far.copies.given;
        put = subst (λ l. h.puts old l next) (append-nil far.gone) (lb.puts_then old now next far.gone [] far.copies.put
            put_nothing);
      }

      whole : (from : Blobs) → g.content source ≡ Some from → (to : Blobs) → h.content old ≡ Some to → far.gone
          ≡ lacking from to
      whole from told to held = all_copied from to after 1000 page far.gone shape (page_is from told)
          (far.is from told to held).gone_is (omega arith) none

      no_last : (l : List (List ℕ)) → None ≡ last_of l → l ≡ []
      no_last [] e = refl
      no_last (x ∷ []) e = absurd (cc e)
      no_last (x ∷ y ∷ ys) e = absurd (nothing (no_last (y ∷ ys) e))
        where
          nothing : y ∷ ys ≡ [] → ⊥
          nothing e = absurd (cc e)

      none_left : (l : List Blob) → refs_of l ≡ [] → l ≡ []
      none_left [] e = refl
      none_left (y ∷ ys) e = absurd (cc e)

      empty : (from : Blobs) → page ≡ listed after 1000 from → take 1000 (beyond after (entries from)) ≡ []
      empty from is = none_left (take 1000 (beyond after (entries from)))
          (no_last (refs_of (take 1000 (beyond after (entries from))))
          (none ∙ ap last_of (ap refs_of is ∙ listed_refs after 1000 from)))

  -- the page wasn't copied whole
  pub far_stopped : (before between source_now : A) (now next : B) (after : Option (List ℕ)) (page : List (List ℕ × ℕ))
      (last : List ℕ) (copied already : ℕ) (e : SyncFault) → g.lists before after 1000 (Ok page) between
      → g.content between ≡ g.content source → g.faults source ≤ g.faults between → h.faults old ≤ h.faults now
      → g.puts source [] between → IsPage after 1000 page
      → ForSome (g.content source) (λ from. page ≡ listed after 1000 from) → IsFar g h source before old now after
      copied already → CopiesSome g h between source_now now next after last page e
      → IsStopped g h source source_now old next e
  far_stopped before between source_now now next after page last copied already e call same le lower nothing shape
      page_is far some = record {
        gone = far.gone ++ some.gone;
        next = some.next;
        stopped = stopped_then g h la lb source between source_now old now next far.gone some.gone some.next e same le lower
            nothing far.copies some.stopped;
        did = record {
          turns = far.turns;
          before = before;
          between = now;
          end = after;
          takes = far.takes;
          done = some.done;
          tried = some.tried;
          stops = some.stops before call;
          put = put_on (blobs_gone far.turns) far.gone some.gone some.next some.done some.tried far.gone_are some.put;
        };
        front = λ from told to held.
            let are = some.are (with_blobs to far.gone) (given_of (h.content old) (h.content now) far.gone to
            far.copies.given held) in
            front_copied from to after 1000 page far.gone shape (page_is from told) (far.is from told to held).gone_is
            some.gone some.next are.0 (some.stopped.stand from (same ∙ told)) are.1;
      }

  -- no page is at hand: nothing more was copied
  far_alone : (before source_now : A) (now next : B) (after : Option (List ℕ)) (copied already : ℕ) (e : SyncFault)
      → (far : IsFar g h source before old now after copied already)
      → Stopped g h source source_now old next far.gone [] e → StopsAt g h before source_now now next after e [] []
      → IsStopped g h source source_now old next e
  far_alone before source_now now next after copied already e far stopped stops = record {
    gone = far.gone;
    next = [];
    stopped = stopped;
    did = record {
      turns = far.turns;
      before = before;
      between = now;
      end = after;
      takes = far.takes;
      done = [];
      tried = [];
      stops = stops;
      put = put_whole far.gone (blobs_gone far.turns) far.gone_are;
    };
    front = λ from told to held. some_copied from to after far.gone (far.is from told to held).gone_is;
  }

  -- the next page wasn't listed
  pub far_unlisted : (before source_now : A) (now : B) (after : Option (List ℕ)) (copied already : ℕ) (f : PeerFault)
      → SourceFault (g.content source) (g.faults source) (g.faults source_now) f → SourceAnswered g source source_now f
      → g.lists before after 1000 (Err f) source_now → IsFar g h source before old now after copied already
      → IsStopped g h source source_now old now (Source f)
  far_unlisted before source_now now after copied already f why answered call far =
      far_alone before source_now now now after copied already (Source f) far (record {
        stand = subst (StandIn (g.content source)) (sym (append-nil far.gone)) far.copies.stand;
        given = far.copies.given;
        put = far.copies.put;
        why = (why, answered);
      }) (at_page f call refl)

  -- nothing follows, and the target, which wasn't asked before, didn't list its refs
  pub far_unasked : (before source_now : A) (now next : B) (after : Option (List ℕ)) (page : List (List ℕ × ℕ))
      (copied already : ℕ) (f : PeerFault) → g.lists before after 1000 (Ok page) source_now → None ≡ last_ref page
      → g.content source_now ≡ g.content source → g.faults source ≤ g.faults source_now → h.faults old ≤ h.faults now
      → g.puts source [] source_now
      → is_some after ≡ false → h.lists now None 1000 (Err f) next → h.content next ≡ h.content now → h.puts now [] next
      → ListFault (h.content now) (h.faults now) (h.faults next) f → TargetAnswered h now next f
      → IsFar g h source before old now after copied already → IsStopped g h source source_now old next (Target f)
  far_unasked before source_now now next after page copied already f call none same le lower nothing first asked
      told_same put_nothing why answered far =
      far_alone before source_now now next after copied already (Target f) far
      (subst (λ l. Stopped g h source source_now old next l [] (Target f)) (append-nil far.gone)
      (stopped_then g h la lb source source_now source_now old now next far.gone [] [] (Target f) same le lower
      nothing far.copies
      (unlisted_stop g h source_now now next f told_same put_nothing why answered)))
      (at_end f (no_after after first) (subst (λ (p : Page). g.lists before after 1000 (Ok p) source_now)
      (no_entries page none) call) asked)
    where
      no_after : (o : Option (List ℕ)) → is_some o ≡ false → o ≡ None
      no_after None is = refl
      no_after (Some r) is = absurd (cc is)

-- ---- one page

filter_all : (P : List ℕ → Type 0) (test : List ℕ → Bool) (refs : List (List ℕ)) → All P refs → All P (filter test refs)
filter_all P test [] all = all
filter_all P test (x ∷ xs) all = elim (test x) as (λ b. All P (cond b (x ∷ filter test xs) (filter test xs))) [
  | true ↦ more (filter_all P test xs (λ k d lt. all (suc k) d (omega (arith, lt))))
  | false ↦ filter_all P test xs (λ k d lt. all (suc k) d (omega (arith, lt)))
]
  where
    more : All P (filter test xs) → All P (x ∷ filter test xs)
    more rest zero d lt = all 0 x (omega arith)
    more rest (suc k) d lt = rest k d (omega (arith, lt))

pub there_part : (from : Option Blobs) (all some : List (List ℕ)) → AreThere from all → IsPartOf all some
    → AreThere from some
there_part from all some there part held told = subst (All (λ (r : List ℕ). contains_key held r ≡ true)) (sym part.1)
    (filter_all (λ (r : List ℕ). contains_key held r ≡ true) part.0 all (there held told))

fewer : (test : List ℕ → Bool) (refs : List (List ℕ)) → length (filter test refs) ≤ length refs
fewer test [] = omega arith
fewer test (x ∷ xs) = elim (test x) as (λ b. length (cond b (x ∷ filter test xs) (filter test xs)) ≤ suc (length xs)) [
  | true ↦ omega (arith, fewer test xs)
  | false ↦ omega (arith, fewer test xs)
]

pub part_few : (page : List (List ℕ × ℕ)) (some : List (List ℕ)) → IsPartOf (refs_of page) some
    → length some ≤ length page
part_few page some part =
    let is : length some ≡ length (filter part.0 (refs_of page)) = ap (λ (l : List (List ℕ)). length l) part.1 in
    let same : length (refs_of page) ≡ length page = length-map page (λ (e : List ℕ × ℕ). e.0) in
    omega (arith, is, same, fewer part.0 (refs_of page))

-- the refs of a page of a map are there
pub page_there : (from : Option Blobs) (after : Option (List ℕ)) (page : List (List ℕ × ℕ))
    → ForSome from (λ held. page ≡ listed after 1000 held) → AreThere from (refs_of page)
page_there from after page is held told =
    subst (All (λ (r : List ℕ). contains_key held r ≡ true))
    (sym (ap refs_of (is held told) ∙ listed_refs after 1000 held))
    (keys_there (take 1000 (beyond after (entries held))) (all_take (λ (e : Blob). get held e.0 ≡ Some e.1) 1000 _
    (all_filter (λ (e : Blob). get held e.0 ≡ Some e.1) (λ (e : Blob). is_after after e.0) _ (entries_stand held))))
  where
    keys_there : (es : List Blob) → All (λ (e : Blob). get held e.0 ≡ Some e.1) es
        → All (λ (r : List ℕ). contains_key held r ≡ true) (refs_of es)
    keys_there [] all k d lt = absurd (omega (arith, lt))
    keys_there (x ∷ xs) all zero d lt = ap is_some (all 0 x (omega arith))
    keys_there (x ∷ xs) all (suc k) d lt = keys_there xs (λ j e l. all (suc j) e (omega (arith, l))) k d
        (omega (arith, lt))

module _ {A B : Type 0} (g : Ghosts A) (h : Ghosts B) where
  -- what the target lacks wasn't found
  pub unlisted : (source : A) (old now : B) (after : Option (List ℕ)) (last : List ℕ) (page : List (List ℕ × ℕ))
      (f : PeerFault) → last_ref page ≡ Some last → h.content now ≡ h.content old → h.puts old [] now
      → ListFault (h.content old) (h.faults old) (h.faults now) f → TargetAnswered h old now f
      → StopsListing h old after now f → CopiesSome g h source source old now after last page (Target f)
  unlisted source old now after last page f is_last same nothing why answered stops = record {
    gone = [];
    next = [];
    stopped = unlisted_stop g h source old now f same nothing why answered;
    are = λ held told. (filter (λ r. not (contains_key held r)) (refs_of page), refl);
    done = [];
    tried = [];
    put = put_none;
    stops = λ before call. at_beside f page last call is_last stops;
  }

module _ {A B : Type 0} (g : Ghosts A) (h : Ghosts B) (la : Laws g) (lb : Laws h) where
  -- the listing of the target changes nothing
  listed_only : (source : A) (old now : B) → h.content now ≡ h.content old → h.puts old [] now
      → Copies g h source old now []
  listed_only source old now same nothing = record {
    stand = none_stand (g.content source);
    given = given_same
        (h.content old) (h.content now) same;
    put = nothing;
  }

  pub page_done : (source source_now : A) (old now next : B) (after : Option (List ℕ)) (last : List ℕ) (page : Page)
      (beside : List Page) (refs : List (List ℕ)) (count : ℕ) → h.content now ≡ h.content old → h.puts old [] now
      → ForSome (h.content old) (λ held. refs ≡ filter (λ r. not (contains_key held r)) (refs_of page))
      → ListsUpTo h old after last beside now → refs ≡ refs_off beside page → count ≡ length refs
      → CopiesRefs g h source source_now now next refs → CopiesPage g h source source_now old next after last page count
  page_done source source_now old now next after last page beside refs count same nothing lacking_is lists off count_is
      p = record {
        gone = p.0;
        copies = copies_then g h la lb source source old now next [] p.0 refl (listed_only source old now same nothing) p.2;
        count_is = count_is ∙ ap (λ (l : List (List ℕ)). length l) (sym p.1) ∙ length-map p.0 (λ (e : Blob). e.0);
        are = λ held told. p.1 ∙ lacking_is held told;
        beside = beside;
        takes = record { asked = now; beside = lists; lacking = p.1 ∙ off; copies = p.3 };
      }

  pub page_stopped : (source source_now : A) (old now next : B) (after : Option (List ℕ)) (last : List ℕ) (page : Page)
      (beside : List Page) (refs : List (List ℕ)) (e : SyncFault) → last_ref page ≡ Some last
      → h.content now ≡ h.content old → h.faults old ≤ h.faults now → h.puts old [] now
      → ForSome (h.content old) (λ held. refs ≡ filter (λ r. not (contains_key held r)) (refs_of page))
      → ListsUpTo h old after last beside now → refs ≡ refs_off beside page
      → CopiesFront g h source source_now now next refs e → CopiesSome g h source source_now old next after last page e
  page_stopped source source_now old now next after last page beside refs e is_last same lower nothing lacking_is lists
      off q = record {
        gone = q.gone;
        next = q.next;
        stopped = stopped_then g h la lb source source source_now old now next [] q.gone q.next e refl (omega arith) lower
            (la.puts_nothing source) (listed_only source old now same nothing) q.stopped;
        are = λ held told. (q.rest, sym (lacking_is held told) ∙ q.front);
        done = q.done;
        tried = q.tried;
        put = q.put;
        stops = λ before call. at_blob e page beside last source now q.done q.tried call is_last lists
            (subst (λ l. StopsCopying g h source source_now now next l q.done q.tried e) off q.stops);
      }

-- ---- the start

module _ {A B : Type 0} (g : Ghosts A) (h : Ghosts B) (la : Laws g) (lb : Laws h) where
  pub far_start : (source : A) (target : B) → IsFar g h source source target target None 0 0
  far_start source target = record {
    gone = [];
    copies = record {
      stand = none_stand (g.content source);
      given = given_same (h.content target) (h.content target)
          refl;
      put = lb.puts_nothing target;
    };
    turns = [];
    takes = (refl, refl, refl);
    gone_are = refl;
    counted = counted_none;
    is = λ from told to held.
        let none : up_to None (entries from) ≡ [] = up_to_none (entries from) in
        record {
          gone_is = ap (filter (λ (e : Blob). not (contains_key to e.0))) (sym none);
          copied_is = refl;
          all_are = ap (λ (l : List Blob). length l) (sym none);
        };
  }
    where
      up_to_none : (es : List Blob) → up_to None es ≡ []
      up_to_none [] = refl
      up_to_none (x ∷ xs) = up_to_none xs
