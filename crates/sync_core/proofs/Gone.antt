-- Blobs that are copied one after another.
use Rattle.std.proofs.Common.{◌≡◌, inl, inr, Ok, Err, ℕ, zero, suc, ◌≤◌, true, Option, None, Some, List, [], ◌∷◌, ◌++◌}
use Rattle.std.proofs.Common.{refl, sym, ap, subst, ◌∙◌, arith, append_assoc}
use Rattle.std.proofs.lemmas.List.{map-append}
use Rattle.std.specs.List.{All}
use Rattle.std.specs.Option.{ForSome, is_some}
use Rattle.std.specs.FinMap.{get, contains_key}
use Rattle.edge_base.specs.Edge.{FaultsRose}
use Rattle.edge_base.specs.Shelf.{Blob, Blobs, Keeps}
use Rattle.edge_base.specs.ShelfLaws.{Keeps-then}
use Rattle.peer_base.specs.Causes.{FetchCause, PutLeaves, MayKeep}
use Rattle.peer_base.specs.Order.{refs_of}
use Rattle.peer_base.specs.declared.peer.Peer.{Ghosts}
use Rattle.peer_base.specs.declared.peer.PeerFault.{PeerFault}
use Rattle.peer_base.specs.declared.peer.PeerFault.TheVariants as fault
use Rattle.sync_core.specs.declared.syncing.SyncFault.{SyncFault}
use Rattle.sync_core.specs.declared.syncing.SyncFault.TheVariants.{Source, Target, Gone}
use Rattle.listed_pages.specs.Answers.{Fetched, SourceAnswered, TargetAnswered}
use Rattle.listed_pages.specs.Causes.{ListFault}
use Rattle.listed_pages.proofs.Runs.{Laws, source_answered_on, target_answered_on, fetched_on}
use Rattle.sync_core.specs.Causes.{SourceFault, TargetFault}
use Rattle.sync_core.specs.Copying.{StandIn, AreThere, Copies, PutsBut, StopCause, Stopped, CopiesRefs, CopiesFront}
use Rattle.sync_core.specs.Turns.{StopsCopying}
use Rattle.sync_core.proofs.Taking.{put_none, put_more, each_then, each_one, stops_one, stops_more}

-- ---- causes

rose_on : (a b c : ℕ) → a ≤ b → FaultsRose b c → FaultsRose a c
rose_on a b c le rose = omega (arith, le, rose)

pub listing_fault : (told : Option Blobs) (before now : ℕ) (e : PeerFault) → ListFault told before now e
    → SourceFault told before now e
listing_fault told before now fault.Failed w = w
listing_fault told before now fault.BadReply w = w
listing_fault told before now (fault.Refused status) w = w
listing_fault told before now (fault.Damaged want is) w = absurd w
listing_fault told before now (fault.Full blobs pack) w = absurd w
listing_fault told before now fault.NoMemory w = w

pub fetch_fault : (told : Option Blobs) (before now : ℕ) (r : List ℕ) (T : Type 0) (e : PeerFault)
    → FetchCause {T = T} told before now r (Err e) → SourceFault told before now e
fetch_fault told before now r T fault.Failed w = w
fetch_fault told before now r T fault.BadReply w = w
fetch_fault told before now r T (fault.Refused status) w = w
fetch_fault told before now r T (fault.Damaged want is) w = ((λ e. w.1 (e ∙ w.0)), w.2)
fetch_fault told before now r T (fault.Full blobs pack) w = absurd w
fetch_fault told before now r T fault.NoMemory w = w

pub source_later : (told first : Option Blobs) (a b c : ℕ) (e : PeerFault) → told ≡ first → a ≤ b
    → SourceFault told b c e → SourceFault first a c e
source_later told first a b c fault.Failed same le w = rose_on a b c le w
source_later told first a b c fault.BadReply same le w = sym same ∙ w
source_later told first a b c (fault.Refused status) same le w = sym same ∙ w
source_later told first a b c (fault.Damaged want is) same le w = (w.0, sym same ∙ w.1)
source_later told first a b c (fault.Full blobs pack) same le w = absurd w
source_later told first a b c fault.NoMemory same le w = tt

none_before : (before now : Option Blobs) (gone : List Blob) → Keeps before now gone → now ≡ None → before ≡ None
none_before None now gone g e = refl
none_before (Some held) now gone g e = absurd (cc (g, e))

pub target_later : (first told : Option Blobs) (gone : List Blob) (fills : Blob → ℕ → ℕ → Type 0) (a b c : ℕ)
    (rest : List Blob) (e : PeerFault) → Keeps first told gone → a ≤ b
    → TargetFault told fills b c rest e → TargetFault first fills a c rest e
target_later first told gone fills a b c rest fault.Failed g le w = rose_on a b c le w
target_later first told gone fills a b c rest fault.BadReply g le w = none_before first told gone g w
target_later first told gone fills a b c rest (fault.Refused status) g le w = none_before first told gone g w
target_later first told gone fills a b c rest (fault.Damaged want is) g le w = absurd w
target_later first told gone fills a b c rest (fault.Full blobs pack) g le w = w
target_later first told gone fills a b c rest fault.NoMemory g le w = tt

-- ---- lists

pub none_stand : (from : Option Blobs) → StandIn from []
none_stand from held e k d lt = absurd (omega (arith, lt))

all_append : (P : Blob → Type 0) (xs ys : List Blob) → All P xs → All P ys → All P (xs ++ ys)
all_append P [] ys p q = q
all_append P (x ∷ xs) ys p q = more (all_append P xs ys (λ k d lt. p (suc k) d (omega (arith, lt))) q)
  where
    more : All P (xs ++ ys) → All P (x ∷ (xs ++ ys))
    more all zero d lt = p 0 d (omega arith)
    more all (suc k) d lt = all k d (omega (arith, lt))

pub stand_append : (from : Option Blobs) (xs ys : List Blob) → StandIn from xs → StandIn from ys
    → StandIn from (xs ++ ys)
stand_append from xs ys p q held e = all_append (λ (e : Blob). get held e.0 ≡ Some e.1) xs ys (p held e) (q held e)

pub stand_one : (from : Option Blobs) (r bytes : List ℕ) → ForSome from (λ held. Some bytes ≡ get held r)
    → StandIn from ((r, bytes) ∷ [])
stand_one from r bytes is held e zero d lt = sym (is held e)
stand_one from r bytes is held e (suc k) d lt = absurd (omega (arith, lt))

pub given_none : (told : Option Blobs) → Keeps told told []
given_none None = refl
given_none (Some held) = refl

pub given_same : (told now : Option Blobs) → now ≡ told → Keeps told now []
given_same told now same = same ∙ given_none told

-- ---- copies

module _ {A B : Type 0} (g : Ghosts A) (h : Ghosts B) (la : Laws g) (lb : Laws h) where
  pub copies_none : (source : A) (target : B) → Copies g h source target target []
  copies_none source target = record {
    stand = none_stand (g.content source);
    given = given_none (h.content target);
    put = lb.puts_nothing target;
  }

  pub copies_then : (source between : A) (a b c : B) (xs ys : List Blob) → g.content between ≡ g.content source
      → Copies g h source a b xs → Copies g h between b c ys → Copies g h source a c (xs ++ ys)
  copies_then source between a b c xs ys same p q = record {
    stand = stand_append (g.content source) xs ys p.stand (subst (λ told. StandIn told ys) same q.stand);
    given = Keeps-then (h.content a) (h.content b) (h.content c) xs ys p.given q.given;
    put = lb.puts_then a b c xs ys p.put q.put;
  }

  pub puts_but : (a b c : B) (xs ys : List Blob) (e : SyncFault) → h.puts a xs b → PutsBut g h b c ys e
      → PutsBut g h a c (xs ++ ys) e
  puts_but a b c xs ys (Source f) p q = lb.puts_then a b c xs ys p q
  puts_but a b c xs ys (Target fault.Failed) p q = tt
  puts_but a b c xs ys (Target fault.BadReply) p q = lb.puts_then a b c xs ys p q
  puts_but a b c xs ys (Target (fault.Refused status)) p q = lb.puts_then a b c xs ys p q
  puts_but a b c xs ys (Target (fault.Damaged want is)) p q = lb.puts_then a b c xs ys p q
  puts_but a b c xs ys (Target (fault.Full blobs pack)) p q = lb.puts_then a b c xs ys p q
  puts_but a b c xs ys (Target fault.NoMemory) p q = lb.puts_then a b c xs ys p q
  puts_but a b c xs ys (Gone r) p q = lb.puts_then a b c xs ys p q

  pub stops_on : (source between now : A) (a b c : B) (xs next : List Blob) (e : SyncFault) → g.content between
      ≡ g.content source → g.faults source ≤ g.faults between → h.faults a ≤ h.faults b
      → g.puts source [] between → Keeps (h.content a) (h.content b) xs → h.puts a xs b
      → StopCause g h between now b c next e → StopCause g h source now a c next e
  stops_on source between now a b c xs next (Source f) same le lower nothing given put w = (
    source_later (g.content between) (g.content source) (g.faults source) (g.faults between) (g.faults now) f same le
        w.0,
    source_answered_on g la source between now f (la.puts_follows source between [] nothing) w.1,
  )
  stops_on source between now a b c xs next (Target f) same le lower nothing given put w = (
    target_later (h.content a) (h.content b) xs (h.fills c) (h.faults a) (h.faults b) (h.faults c) next f given lower
        w.0,
    target_answered_on h lb a b c f (lb.puts_follows a b xs put) w.1,
  )
  stops_on source between now a b c xs next (Gone r) same le lower nothing given put w =
      (sym same ∙ w.0, fetched_on g la source between now r (Ok None) (la.puts_follows source between [] nothing) w.1)

  pub stopped_then : (source between now : A) (a b c : B) (xs ys next : List Blob) (e : SyncFault) → g.content between
      ≡ g.content source → g.faults source ≤ g.faults between → h.faults a ≤ h.faults b
      → g.puts source [] between → Copies g h source a b xs → Stopped g h between now b c ys next e
      → Stopped g h source now a c (xs ++ ys) next e
  stopped_then source between now a b c xs ys next e same le lower nothing p q = record {
    stand = subst (λ l. StandIn (g.content source) l) (sym (append_assoc xs ys next))
        (stand_append (g.content source) xs (ys ++ next) p.stand
        (subst (λ told. StandIn told (ys ++ next)) same q.stand));
    given = Keeps-then (h.content a) (h.content b) (h.content c) xs ys p.given q.given;
    put = puts_but a b c xs ys e p.put q.put;
    why = stops_on source between now a b c xs next e same le lower nothing p.given p.put q.why;
  }

  -- ---- one blob

  pub gone_away : (source now : A) (target : B) (r : List ℕ) → Fetched g source now r (Ok None) → g.fetches source r
      (Ok None) now → AreThere (g.content source) (r ∷ []) → ForSome (g.content source) (λ held. None ≡ get held r)
      → CopiesFront g h source now target target (r ∷ []) (Gone r)
  gone_away source now target r answered call there none = record {
    gone = [];
    next = [];
    rest = r ∷ [];
    front = refl;
    stopped = record {
      stand = none_stand (g.content source);
      given = given_none (h.content target);
      put = lb.puts_nothing target;
      why = (untold (g.content source) there none, answered);
    };
    done = [];
    tried = [];
    put = put_none;
    stops = stops_one g h source now target target r [] (Gone r) (call, refl, refl, refl);
  }
    where
      untold : (told : Option Blobs) → AreThere told (r ∷ []) → ForSome told (λ held. None ≡ get held r) → told ≡ None
      untold None there none = refl
      untold (Some held) there none = absurd (no_ref (there held refl 0 r (omega arith)) (none held refl))
        where
          no_ref : contains_key held r ≡ true → None ≡ get held r → ⊥
          no_ref e n = absurd (cc (e, ap is_some n))

  pub not_fetched : (source now : A) (target : B) (r : List ℕ) (f : PeerFault) → SourceFault (g.content source)
      (g.faults source) (g.faults now) f → SourceAnswered g source now f → g.fetches source r (Err f) now
      → CopiesFront g h source now target target (r ∷ []) (Source f)
  not_fetched source now target r f w answered call = record {
    gone = [];
    next = [];
    rest = r ∷ [];
    front = refl;
    stopped = record {
      stand = none_stand (g.content source);
      given = given_none (h.content target);
      put = lb.puts_nothing target;
      why = (w, answered);
    };
    done = [];
    tried = [];
    put = put_none;
    stops = stops_one g h source now target target r [] (Source f) (call, refl, refl);
  }

  pub one_copied : (source now : A) (a b : B) (r bytes : List ℕ) → ForSome (g.content source) (λ held. Some bytes
      ≡ get held r) → Keeps (h.content a) (h.content b) ((r, bytes) ∷ [])
      → h.puts a ((r, bytes) ∷ []) b → g.fetches source r (Ok (Some bytes)) now → h.keeps a (r, bytes) (Ok tt) b
      → CopiesRefs g h source now a b (r ∷ [])
  one_copied source now a b r bytes found kept put fetched keeps = (
    (r, bytes) ∷ [],
    refl,
    record { stand = stand_one (g.content source) r bytes found; given = kept; put = put },
    each_one g h source now a b r bytes fetched keeps,
  )

  module _ (source now : A) (a b : B) (r bytes : List ℕ) (found : ForSome (g.content source) (λ held. Some bytes
      ≡ get held r)) (fetched : g.fetches source r (Ok (Some bytes)) now) where
    -- nothing was put, and the blob is the next one
    tried : (f : PeerFault) → h.content b ≡ h.content a → PutsBut g h a b [] (Target f) → TargetFault (h.content a)
        (h.fills b) (h.faults a) (h.faults b) ((r, bytes) ∷ []) f → TargetAnswered h a b f
        → h.keeps a (r, bytes) (Err f) b → CopiesFront g h source now a b (r ∷ []) (Target f)
    tried f same put w answered call = record {
      gone = [];
      next = (r, bytes) ∷ [];
      rest = [];
      front = refl;
      stopped = record {
        stand = stand_one (g.content source) r bytes found;
        given = given_same (h.content a)
            (h.content b) same;
        put = put;
        why = (w, answered);
      };
      done = [];
      tried = (r, bytes) ∷ [];
      put = record { also = []; gone_are = refl; tried_is = refl };
      stops = stops_one g h source now a b r ((r, bytes) ∷ []) (Target f) (bytes, fetched, call, refl);
    }

    -- it was put all the same
    done : (f : PeerFault) → Keeps (h.content a) (h.content b) ((r, bytes) ∷ []) → PutsBut g h a b ((r, bytes) ∷ [])
        (Target f)
        → TargetFault (h.content a) (h.fills b) (h.faults a) (h.faults b) [] f → TargetAnswered h a b f
        → h.keeps a (r, bytes) (Err f) b → CopiesFront g h source now a b (r ∷ []) (Target f)
    done f kept put w answered call = record {
      gone = (r, bytes) ∷ [];
      next = [];
      rest = [];
      front = refl;
      stopped = record {
        stand = stand_one (g.content source) r bytes found;
        given = kept;
        put = put;
        why = (w, answered);
      };
      done = [];
      tried = (r, bytes) ∷ [];
      put = record { also = (r, bytes) ∷ []; gone_are = refl; tried_is = refl };
      stops = stops_one g h source now a b r ((r, bytes) ∷ []) (Target f) (bytes, fetched, call, refl);
    }

    pub not_put : (f : PeerFault) → MayKeep (h.content a) (h.content b) (r, bytes)
        → PutLeaves {T = Unit {0}} (λ blobs. h.puts a blobs b) (h.fills b (r, bytes)) (h.content a) (h.content b)
        (h.faults a) (h.faults b) (r, bytes) (Err f) → TargetAnswered h a b f
        → h.keeps a (r, bytes) (Err f) b → CopiesFront g h source now a b (r ∷ []) (Target f)
    not_put fault.Failed (inl same) w answered call = tried fault.Failed same tt w answered call
    not_put fault.Failed (inr kept) w answered call = done fault.Failed kept tt w answered call
    not_put fault.BadReply may (none, inl w) answered call = tried fault.BadReply w.1 w.0 none answered call
    not_put fault.BadReply may (none, inr w) answered call = done fault.BadReply w.1 w.0 none answered call
    not_put (fault.Refused status) may (none, inl w) answered call = tried (fault.Refused status) w.1 w.0 none answered
        call
    not_put (fault.Refused status) may (none, inr w) answered call = done (fault.Refused status) w.1 w.0 none answered
        call
    not_put (fault.Damaged want is) may w answered call = absurd w
    not_put (fault.Full blobs pack) may w answered call = tried (fault.Full blobs pack) w.1 w.0 w.2 answered call
    not_put fault.NoMemory may (inl w) answered call = tried fault.NoMemory w.1 w.0 tt answered call
    not_put fault.NoMemory may (inr w) answered call = done fault.NoMemory w.1 w.0 tt answered call

  -- ---- the blobs of some refs

  pub refs_none : (source : A) (target : B) → CopiesRefs g h source source target target []
  refs_none source target = ([], refl, copies_none source target, (refl, refl))

  pub refs_more : (source between now : A) (a b c : B) (first second : List (List ℕ)) → g.content between
      ≡ g.content source → CopiesRefs g h source between a b first → CopiesRefs g h between now b c second
      → CopiesRefs g h source now a c (first ++ second)
  refs_more source between now a b c first second same p q = (
    p.0 ++ q.0,
    map-append (λ (e : Blob). e.0) p.0 q.0 ∙ (λ i. p.1 i ++ q.1 i),
    copies_then source between a b c p.0 q.0 same p.2 q.2,
    each_then g h source between now a b c p.0 q.0 p.3 q.3,
  )

  pub front_more : (source between now : A) (a b c : B) (first second rest : List (List ℕ)) (e : SyncFault)
      → g.content between ≡ g.content source → g.faults source ≤ g.faults between
      → h.faults a ≤ h.faults b → g.puts source [] between → CopiesRefs g h source between a b first
      → CopiesFront g h between now b c second e → CopiesFront g h source now a c (first ++ (second ++ rest)) e
  front_more source between now a b c first second rest e same le lower nothing p q = record {
    gone = p.0 ++ q.gone;
    next = q.next;
    rest = q.rest ++ rest;
    front =
        ap (λ l. l ++ (second ++ rest)) (sym p.1) ∙ ap (λ l. refs_of p.0 ++ (l ++ rest)) q.front
        ∙ ap (λ l. refs_of p.0 ++ l) (append_assoc (refs_of (q.gone ++ q.next)) q.rest rest)
        ∙ sym (append_assoc (refs_of p.0) (refs_of (q.gone ++ q.next)) (q.rest ++ rest))
        ∙ ap (λ l. l ++ (q.rest ++ rest)) (sym (map-append (λ (e : Blob). e.0) p.0 (q.gone ++ q.next))
        ∙ ap refs_of (sym (append_assoc p.0 q.gone q.next)));
    stopped = stopped_then source between now a b c p.0 q.gone q.next e same le lower nothing p.2 q.stopped;
    done = p.0 ++ q.done;
    tried = q.tried;
    put = put_more p.0 q.gone q.next q.done q.tried q.put;
    stops = subst (λ l. StopsCopying g h source now a c (l ++ (second ++ rest)) (p.0 ++ q.done) q.tried e) p.1
        (stops_more g h source between now a b c p.0 q.done q.tried second rest e p.3 q.stops);
  }
