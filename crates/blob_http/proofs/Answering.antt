-- What a call of the home answered is the answer over what the pass has then seen.
use Rattle.std.proofs.Common.{◌≡◌, ℕ, ◌+◌, ◌≤◌, ⊎_elim, List, [], ◌∷◌, ◌++◌, length, take, Bool, true}
use Rattle.std.proofs.Common.{All, Contains, refl, ap, sym, subst, ◌∙◌, arith, append_assoc, Option, Some, None}
use Rattle.std.proofs.Common.{Result, Ok, Err, IsErr, inl, inr}
use Rattle.std.specs.List.{filter_map}
use Rattle.std.proofs.lemmas.List.{append-nil, take_all, take-take, length-take-le}
use Rattle.std.proofs.lemmas.List.Elements.{Contains-append_right, All-nil, All-weaker}
use mathlib.Core.List.{IsPrefix}
use Rattle.blobref.specs.declared.memory.NoMemory.{NoMemory}
use Rattle.edge_base.specs.declared.answers.GetFault.{GetFault}
use Rattle.edge_base.specs.declared.answers.GetFault.TheVariants as unread
use Rattle.search_query.specs.declared.query.Query.{Query}
use Rattle.claim_verify.specs.Verifier.{Accepts}
use Rattle.answer_text.specs.declared.refusal.Refusal.{Refusal}
use Rattle.answer_text.specs.declared.refusal.Refusal.TheVariants.{Absent}
use Rattle.answer_text.specs.Listings.{stat_text, page_text}
use Rattle.answer_text.specs.Search.{search_text}
use Rattle.histories.specs.declared.stamped.Stamped.{Stamped}
use Rattle.histories.specs.declared.events.StoreEvent.{StoreEvent}
use Rattle.histories.specs.declared.events.StoreEvent.TheVariants as store
use Rattle.histories.specs.History.{stamp, stamped, has, own, Before, Ahead, AheadOf}
use Rattle.histories.specs.Stores.{Blob, arrivals, bytes_of}
use Rattle.histories.specs.declared.events.Insertion.{Insertion}
use Rattle.histories.specs.Indexes.{HasAllBelow, inserts}
use Rattle.histories.specs.StoreCalls.{IsQuiet, GetSpec, GetFails, StatSpec, ListSpec, page, sized, each_once}
use Rattle.histories.proofs.Prefixes.{prefix_trans, prefix_length}
use Rattle.histories.proofs.Growing.{has_rest, each_stamped, placed_stamped}
use Rattle.histories.proofs.Rising.{before_within, later_stamped, ahead_none, ahead_less}
use Rattle.histories.proofs.Standing.{arrivals_append, arrivals_prefix, has_all_longer, take_stays}
use Rattle.home_places.specs.Passes.{Sight, IsSight, StoreCall, StoreTurned, Spends, Settles, Searches, Counts, Caused}
use Rattle.home_places.specs.Passes.{IsTrouble}
use Rattle.home_places.specs.Seats.{StoreSight}
use Rattle.home_places.specs.Searches.{SearchSpec}
use Rattle.blob_routes.specs.declared.routes.Allowed.{Allowed}
use Rattle.blob_routes.specs.declared.pages.Page.{Page}
use Rattle.blob_http.specs.declared.entries.Outcome.{Outcome}
use Rattle.blob_http.specs.declared.entries.Outcome.TheVariants.{Defined, Memory, Disk, Full, Damaged}
use Rattle.blob_http.specs.declared.operations.Operation.{Operation}
use Rattle.blob_http.specs.declared.operations.Operation.TheVariants as operation
use Rattle.blob_http.specs.declared.replies.ReplyText.{ReplyText}
use Rattle.blob_http.specs.declared.replies.ReplyText.TheVariants as reply_text
use Rattle.http_exchange.specs.Replies.{json_reply, bytes_reply, refused_reply}
use Rattle.http_exchange.specs.Written.{reply_bytes}
use Rattle.blob_http.specs.Answers.{IsAnswer, IsBlobReply, IsDefined, reads_blobs, allow_text, outcome_of, IsTold}
use Rattle.blob_http.specs.Answers.{IsMemory, FaultMade, BlobMade, TextMade, page_answer, cut_page, more_after}
use Rattle.blob_http.specs.Serving.{HasCauseIn, LooksAt, Longer, PutsNothing, IsShown}
use Rattle.blob_http.specs.Handling.{IsMade, Looked, Looks, Answers, entry_of}
use Rattle.blob_http.proofs.Staying.{has_one, longer_none, longer_chain, owns_none, owns_chain}

-- a turn that put nothing leaves the arrivals
quiet_stays : (before : List (Stamped StoreEvent)) (n : ℕ) (e : Option StoreEvent) → IsQuiet e
    → arrivals (before ++ stamped n e) ≡ arrivals before
quiet_stays before n None q = ap arrivals (append-nil before)
quiet_stays before n (Some (store.Put k r b)) q = absurd q
quiet_stays before n (Some (store.Fault f)) q =
    arrivals_append before (stamp n (store.Fault f) ∷ []) ∙ append-nil (arrivals before)
quiet_stays before n (Some (store.Damage want is)) q = absurd q
quiet_stays before n (Some (store.Full b p)) q = absurd q

-- a turn that added nothing put nothing
none_quiet : (e : Option StoreEvent) → e ≡ None → IsQuiet e
none_quiet e none = subst IsQuiet (sym none) tt

-- a turn that showed why a blob couldn't be read, or added nothing, leaves the arrivals
trouble_stays : (before : List (Stamped StoreEvent)) (n : ℕ) (o : Option StoreEvent)
    → ((e : StoreEvent) → o ≡ Some e → IsTrouble e) → arrivals (before ++ stamped n o) ≡ arrivals before
trouble_stays before n None f = ap arrivals (append-nil before)
trouble_stays before n (Some (store.Put k r b)) f = absurd (f (store.Put k r b) refl)
trouble_stays before n (Some (store.Fault g)) f =
    arrivals_append before (stamp n (store.Fault g) ∷ []) ∙ append-nil (arrivals before)
trouble_stays before n (Some (store.Damage want is)) f =
    arrivals_append before (stamp n (store.Damage want is) ∷ []) ∙ append-nil (arrivals before)
trouble_stays before n (Some (store.Full b p)) f = absurd (f (store.Full b p) refl)

-- ---- what a call added

none_placed : All (λ (s : Stamped StoreEvent). has [] s.turn ≡ true) []
none_placed = All-nil (λ (s : Stamped StoreEvent). has [] s.turn ≡ true)

none_put : PutsNothing []
none_put = All-nil (λ (s : Stamped StoreEvent). IsTrouble s.entry)

quiet_trouble : (e : StoreEvent) → IsQuiet (Some e) → IsTrouble e
quiet_trouble (store.Put n r bytes) q = absurd q
quiet_trouble (store.Fault f) q = tt
quiet_trouble (store.Damage want is) q = absurd q
quiet_trouble (store.Full blobs pack) q = absurd q

fails_trouble : (tells : Bool) (asked : Option (List ℕ)) (f : GetFault) (e : StoreEvent)
    → GetFails tells asked f (Some e) → IsTrouble e
fails_trouble tells asked unread.Disk e c =
    let is : e ≡ store.Fault c.0 = cc c.1 in subst IsTrouble (sym is) tt
fails_trouble tells asked (unread.Damaged a b) e c =
    let is : e ≡ store.Damage a b = cc c.2 in subst IsTrouble (sym is) tt
fails_trouble tells asked unread.NoMemory e c = quiet_trouble e c

get_troubles : (tells : Bool) (r : List ℕ) (result : Result (Option (List ℕ)) GetFault) (before : List Blob)
    (e : StoreEvent) → GetSpec tells r before result (Some e) → IsTrouble e
get_troubles tells r (Ok None) before e said = quiet_trouble e said.1
get_troubles tells r (Ok (Some bytes)) before e said = quiet_trouble e said.1
get_troubles tells r (Err f) before e said = fails_trouble tells _ f e said

pub stat_none : (refs : List (List ℕ)) (result : Result (List (List ℕ × ℕ)) NoMemory) (before : List Blob)
    (e : Option StoreEvent) → StatSpec refs before result e → e ≡ None
stat_none refs (Ok found) before e said = said.1
stat_none refs (Err f) before e said = said

-- a turn of the store says what follows of what it says
pub turned_so : (says other : List Blob → Option StoreEvent → Type 0) (v w : Sight)
    → ((before : List Blob) (e : Option StoreEvent) → says before e → other before e)
    → StoreTurned says v w → StoreTurned other v w
turned_so says other v w so turned =
    let ran = turned.turn.ran in
    record {
      turn = record {
        ran = record {
          before = ran.before;
          ticket = ran.ticket;
          entry = ran.entry;
          longer = ran.longer;
          said = so (arrivals ran.before) ran.entry ran.said;
          added = ran.added;
          drawn = ran.drawn;
          within = ran.within;
          others = ran.others;
          owned = ran.owned;
          later = ran.later;
          rising = ran.rising;
        };
        limits = turned.turn.limits;
      };
      index = turned.index;
      spent = turned.spent;
    }

-- a look at the store, by a call that adds nothing
pub looked_by : (found : Result (List (List ℕ × ℕ)) NoMemory) (refused : Type 0)
    (says : List Blob → Option StoreEvent → Type 0) (v w : Sight) → (IsErr found → refused)
    → StoreCall (IsErr found) says v w → ((before : List Blob) (e : Option StoreEvent) → says before e → e ≡ None)
    → StoreCall refused (λ before e. e ≡ None) v w
looked_by found refused says v w so (inl turned) none = inl (turned_so says (λ before e. e ≡ None) v w none turned)
looked_by found refused says v w so (inr spent) none = inr (so spent.0, spent.1)

pub not_err : (found : Result (List (List ℕ × ℕ)) NoMemory) (entries : List (List ℕ × ℕ)) → found ≡ Ok entries
    → IsErr found → ⊥
not_err (Ok other) entries is none = cc none
not_err (Err e) entries is none = absurd (cc is)

list_none : (after : Option (List ℕ)) (limit : ℕ) (result : Result (List (List ℕ × ℕ)) NoMemory)
    (before : List Blob) (e : Option StoreEvent) → ListSpec after limit before result e → e ≡ None
list_none after limit (Ok found) before e said = said.1
list_none after limit (Err f) before e said = said

-- nothing was added
none_trouble : (e : StoreEvent) → Some e ≡ None → IsTrouble e
none_trouble e none = absurd (cc none)

stands : (h : List (Stamped StoreEvent)) (t : ℕ) (e : Option StoreEvent) (x : StoreEvent) → e ≡ Some x
    → Contains (h ++ stamped t e) (stamp t x)
stands h t e x is = subst (λ (z : Option StoreEvent). Contains (h ++ stamped t z) (stamp t x)) (sym is)
    (Contains-append_right h (stamp t x ∷ []) (stamp t x) (0, omega arith, refl))

same_prefix : {A : Type 0} (xs ys : List A) → ys ≡ xs → IsPrefix xs ys
same_prefix xs ys e = ([], append-nil xs ∙ sym e)

-- nothing was called
pub refused_answers : (tells closes : Bool) (why : Refusal) (allow : Option Allowed) (m : ReplyText) (v : Sight)
    (counts : ℕ × ℕ)
    → IsTold Defined (refused_reply closes (allow_text allow) why) m → Counts v counts
    → Answers tells closes (operation.Refused why allow) v v (entry_of counts.0 counts.1 0 m) m
refused_answers tells closes why allow m v counts is count = record {
  turns = [];
  drawn = sym (append-nil v.store.turns);
  added = [];
  owned = owns_none v;
  placed = none_placed;
  nothing = none_put;
  store_within = let p = count.puts in omega arith;
  index_within = let p = count.inserts in omega arith;
  reply = refused_made m is (take counts.0 (arrivals v.store.history)) (take counts.1 v.index.shown);
  outcome = refl;
  kept = refl;
  cause = refused_cause m is;
  store_low = let p = count.puts in omega arith;
  index_low = let p = count.inserts in omega arith;
  longer = longer_none v;
  looked = refused_looked m;
}
  where
    refused_looked : (m : ReplyText)
        → Looked v.store.history (take counts.0 (arrivals v.store.history)) (operation.Refused why allow) m []
    refused_looked reply_text.Memory = tt
    refused_looked (reply_text.Told o reply) = tt

    refused_made : (m : ReplyText) → IsTold Defined (refused_reply closes (allow_text allow) why) m
        → (blobs : List Blob) (g : List Insertion)
        → IsMade tells v.index.accepts blobs g closes (operation.Refused why allow) m
    refused_made reply_text.Memory is blobs g = tt
    refused_made (reply_text.Told o reply) is blobs g =
        subst (λ (z : Outcome). IsAnswer tells v.index.accepts blobs g closes (operation.Refused why allow) z
        (reply_bytes reply)) (sym is.0) is.1

    refused_cause : (m : ReplyText) → IsTold Defined (refused_reply closes (allow_text allow) why) m
        → HasCauseIn [] v.store.history (outcome_of m)
    refused_cause reply_text.Memory is = tt
    refused_cause (reply_text.Told o reply) is = subst (HasCauseIn [] v.store.history) (sym is.0) tt

-- there was no memory to find out what is asked
pub memory_answers : (tells closes : Bool) (q : Operation) (v : Sight) (counts : ℕ × ℕ) → Counts v counts
    → Answers tells closes q v v (entry_of counts.0 counts.1 0 reply_text.Memory) reply_text.Memory
memory_answers tells closes q v counts count = record {
  turns = [];
  drawn = sym (append-nil v.store.turns);
  added = [];
  owned = owns_none v;
  placed = none_placed;
  nothing = none_put;
  store_within = let p = count.puts in omega arith;
  index_within = let p = count.inserts in omega arith;
  reply = tt;
  outcome = refl;
  kept = refl;
  cause = tt;
  store_low = let p = count.puts in omega arith;
  index_low = let p = count.inserts in omega arith;
  longer = longer_none v;
  looked = tt;
}

memory_made : (tells : Bool) (accepts : Accepts) (blobs : List Blob) (g : List Insertion) (closes : Bool)
    (q : Operation) (m : ReplyText)
    → IsMemory m → IsMade tells accepts blobs g closes q m
memory_made tells accepts blobs g closes q reply_text.Memory is = tt
memory_made tells accepts blobs g closes q (reply_text.Told o reply) is = absurd is

memory_cause : (turns : List ℕ) (h : List (Stamped StoreEvent)) (m : ReplyText) → IsMemory m
    → HasCauseIn turns h (outcome_of m)
memory_cause turns h reply_text.Memory is = tt
memory_cause turns h (reply_text.Told o reply) is = absurd is

memory_looked : (h : List (Stamped StoreEvent)) (blobs : List Blob) (q : Operation) (turns : List ℕ) (m : ReplyText)
    → IsMemory m → Looked h blobs q m turns
memory_looked h blobs q turns reply_text.Memory is = tt
memory_looked h blobs q turns (reply_text.Told o reply) is = absurd is

looks_at : (h : List (Stamped StoreEvent)) (blobs : List Blob) (q : Operation) (turns : List ℕ)
    → IsShown h blobs turns → LooksAt h blobs q turns
looks_at h blobs (operation.Refused why allow) turns is = tt
looks_at h blobs (operation.Blob r) turns is = is
looks_at h blobs (operation.Stat refs) turns is = is
looks_at h blobs (operation.Refs p) turns is = is
looks_at h blobs (operation.Search query) turns is = is

looked_at : (h : List (Stamped StoreEvent)) (blobs : List Blob) (q : Operation) (m : ReplyText) (turns : List ℕ)
    → IsShown h blobs turns → Looked h blobs q m turns
looked_at h blobs q reply_text.Memory turns is = tt
looked_at h blobs q (reply_text.Told o reply) turns is = looks_at h blobs q turns is

-- what a look has shown is what is counted before anything else is done
shown_by : (o v w : Sight) (n : ℕ) (further : List ℕ) (look : Looks o v) → n ≡ length (arrivals v.store.history)
    → IsPrefix v.store.history w.store.history → AheadOf v.store.turns v.store.history w.store.history
    → IsShown w.store.history (take n (arrivals w.store.history)) (look.turn ∷ further)
shown_by o v w n further look count longer later = record {
  turn = look.turn;
  further = further;
  first = refl;
  seen = v.store.history;
  begins = longer;
  before = look.before;
  joined = λ m lt. ahead_less m look.turn v.store.history w.store.history (omega (arith, lt))
      (later look.turn (subst (λ (ts : List ℕ). has ts look.turn ≡ true) (sym look.drawn)
      (has_rest o.store.turns (look.turn ∷ []) look.turn (has_one look.turn))));
  arrived = take_stays (arrivals v.store.history) (arrivals w.store.history) n
      (arrivals_prefix v.store.history w.store.history longer) (omega (arith, count))
      ∙ take_all n (arrivals v.store.history) (omega (arith, count));
}

module _ (tells closes : Bool) (q : Operation) (m : ReplyText) where
  spent_answers : (v w : Sight) (counts : ℕ × ℕ) → IsMemory m → Spends v w → Counts w counts
      → Answers tells closes q v w (entry_of counts.0 counts.1 0 m) m
  spent_answers v w counts is spent count =
      let blobs : arrivals w.store.history ≡ arrivals v.store.history = ap (λ s. arrivals s.history) spent.store in
      let rows : w.index.shown ≡ v.index.shown = ap (λ s. s.shown) spent.index in
      record {
        turns = [];
        drawn = ap (λ s. s.turns) spent.store ∙ sym (append-nil v.store.turns);
        added = [];
        owned = ap (λ s. own s.turns s.history) spent.store ∙ owns_none v;
        placed = none_placed;
        nothing = none_put;
        store_within = let p = count.puts in omega arith;
        index_within = let p = count.inserts in omega arith;
        reply = memory_made tells w.index.accepts (take counts.0 (arrivals w.store.history))
            (take counts.1 w.index.shown) closes q m is;
        outcome = refl;
        kept = refl;
        cause = memory_cause [] w.store.history m is;
        store_low = let p = count.puts in let e = ap length blobs in omega arith;
        index_low = let p = count.inserts in let e = ap length rows in omega arith;
        longer = record {
          store = same_prefix v.store.history w.store.history (ap (λ s. s.history) spent.store);
          turns = same_prefix v.store.turns w.store.turns (ap (λ s. s.turns) spent.store);
          later = λ n e. subst (λ (s : StoreSight). Ahead n v.store.history s.history) (sym spent.store)
              (ahead_none n v.store.history);
          index = same_prefix v.index.history w.index.history (ap (λ s. s.history) spent.index);
          shown = same_prefix v.index.shown w.index.shown rows;
          limits = ap (λ s. s.limits) spent.store;
          accepts = ap (λ s. s.accepts) spent.index;
        };
        looked = memory_looked w.store.history (take counts.0 (arrivals w.store.history)) q [] m is;
      }

  module _ (says : List Blob → Option StoreEvent → Type 0)
      (replied : (accepts : Accepts) (before blobs : List Blob) (g : List Insertion) (e : Option StoreEvent)
      → (IsQuiet e → blobs ≡ before) → says before e → IsMade tells accepts blobs g closes q m)
      (caused : (before : List Blob) (h : List (Stamped StoreEvent)) (t : ℕ) (e : Option StoreEvent)
      → says before e → HasCauseIn (t ∷ []) (h ++ stamped t e) (outcome_of m))
      (troubles : (before : List Blob) (e : StoreEvent) → says before (Some e) → IsTrouble e) where
    turned_answers : (v w : Sight) (counts : ℕ × ℕ) → StoreTurned says v w → Counts w counts
        → Answers tells closes q v w (entry_of counts.0 counts.1 0 m) m
    turned_answers v w counts turned count =
        let ran = turned.turn.ran in
        let t = ran.ticket + 1 in
        let grown : IsPrefix v.store.history w.store.history =
        prefix_trans v.store.history ran.before w.store.history ran.longer (stamped t ran.entry, sym ran.added) in
        let all : take counts.0 (arrivals w.store.history) ≡ arrivals w.store.history =
        take_all counts.0 (arrivals w.store.history) (let p = count.puts in omega arith) in
        let kept : IsQuiet ran.entry → take counts.0 (arrivals w.store.history) ≡ arrivals ran.before =
        λ quiet. all ∙ (ap arrivals ran.added ∙ quiet_stays ran.before t ran.entry quiet) in
        let blobs = prefix_length (arrivals v.store.history) (arrivals w.store.history)
        (arrivals_prefix v.store.history w.store.history grown) in
        let rows : w.index.shown ≡ v.index.shown = ap (λ s. s.shown) turned.index in
        record {
          turns = t ∷ [];
          drawn = ran.drawn;
          added = stamped t ran.entry;
          owned = ran.owned;
          placed = placed_stamped t ran.entry;
          nothing = each_stamped IsTrouble t ran.entry
              (λ e is. troubles (arrivals ran.before) e (subst (says (arrivals ran.before)) is ran.said));
          store_within = let p = count.puts in omega arith;
          index_within = let p = count.inserts in omega arith;
          reply = replied w.index.accepts (arrivals ran.before) (take counts.0 (arrivals w.store.history))
              (take counts.1 w.index.shown) ran.entry kept ran.said;
          outcome = refl;
          kept = refl;
          cause = subst (λ (h : List (Stamped StoreEvent)). HasCauseIn (t ∷ []) h (outcome_of m)) (sym ran.added)
              (caused (arrivals ran.before) ran.before t ran.entry ran.said);
          store_low = let p = count.puts in omega arith;
          index_low = let p = count.inserts in let e = ap length rows in omega arith;
          longer = record {
            store = grown;
            turns = (t ∷ [], sym ran.drawn);
            later = ran.later;
            index = same_prefix v.index.history w.index.history (ap (λ s. s.history) turned.index);
            shown = same_prefix v.index.shown w.index.shown rows;
            limits = turned.turn.limits;
            accepts = ap (λ s. s.accepts) turned.index;
          };
          looked = looked_at w.store.history (take counts.0 (arrivals w.store.history)) q m (t ∷ []) (record {
            turn = t;
            further = [];
            first = refl;
            seen = ran.before;
            begins = (stamped t ran.entry, sym ran.added);
            before = before_within ran.ticket ran.before ran.within.0;
            joined = λ n lt. (stamped t ran.entry, sym ran.added, later_stamped n t ran.entry lt);
            arrived = all ∙ ap arrivals ran.added ∙ trouble_stays ran.before t ran.entry
                (λ e is. troubles (arrivals ran.before) e (subst (says (arrivals ran.before)) is ran.said));
          });
        }

    pub call_answers : (refused : Type 0) (v w : Sight) (counts : ℕ × ℕ) → (refused → IsMemory m)
        → StoreCall refused says v w → Counts w counts → Answers tells closes q v w (entry_of counts.0 counts.1 0 m) m
    call_answers refused v w counts none call count =
        ⊎_elim (λ (a : StoreTurned says v w). turned_answers v w counts a count)
        (λ (b : refused × Spends v w). spent_answers v w counts (none b.0) b.1 count) call

-- ---- a blob

fault_made : (tells : Bool) (accepts : Accepts) (blobs : List Blob) (g : List Insertion) (closes : Bool)
    (q : Operation) (f : GetFault) (m : ReplyText)
    → reads_blobs q ≡ true → FaultMade closes f m → IsMade tells accepts blobs g closes q m
fault_made tells accepts blobs g closes q f reply_text.Memory reads is = tt
fault_made tells accepts blobs g closes q unread.Disk (reply_text.Told o reply) reads is =
    subst (λ (z : Outcome). IsAnswer tells accepts blobs g closes q z (reply_bytes reply)) (sym is.0) (reads, is.1)
fault_made tells accepts blobs g closes q (unread.Damaged want was) (reply_text.Told o reply) reads is =
    subst (λ (z : Outcome). IsAnswer tells accepts blobs g closes q z (reply_bytes reply)) (sym is.0) (reads, is.1)
fault_made tells accepts blobs g closes q unread.NoMemory (reply_text.Told o reply) reads is = absurd is

told_cause : (turns : List ℕ) (h : List (Stamped StoreEvent)) (closes : Bool) (f : GetFault) (m : ReplyText)
    → FaultMade closes f m
    → Caused f turns h → HasCauseIn turns h (outcome_of m)
told_cause turns h closes f reply_text.Memory is c = tt
told_cause turns h closes unread.Disk (reply_text.Told o reply) is c = subst (HasCauseIn turns h) (sym is.0) c
told_cause turns h closes (unread.Damaged a b) (reply_text.Told o reply) is c = subst (HasCauseIn turns h) (sym is.0) c
told_cause turns h closes unread.NoMemory (reply_text.Told o reply) is c = absurd is

fails_caused : (tells : Bool) (asked : Option (List ℕ)) (f : GetFault) (h : List (Stamped StoreEvent)) (t : ℕ)
    (e : Option StoreEvent)
    → GetFails tells asked f e → Caused f (t ∷ []) (h ++ stamped t e)
fails_caused tells asked unread.Disk h t e c = (t, c.0, has_one t, stands h t e (store.Fault c.0) c.1)
fails_caused tells asked (unread.Damaged a b) h t e c = (t, has_one t, stands h t e (store.Damage a b) c.2)
fails_caused tells asked unread.NoMemory h t e c = tt

defined_cause : (turns : List ℕ) (h : List (Stamped StoreEvent)) (text : List ℕ) (m : ReplyText) → IsTold Defined text m
    → HasCauseIn turns h (outcome_of m)
defined_cause turns h text reply_text.Memory is = tt
defined_cause turns h text (reply_text.Told o reply) is = subst (HasCauseIn turns h) (sym is.0) tt

defined_made : (tells : Bool) (accepts : Accepts) (blobs : List Blob) (g : List Insertion) (closes : Bool)
    (q : Operation) (text : List ℕ) (m : ReplyText)
    → IsTold Defined text m → IsDefined tells accepts blobs g closes q text → IsMade tells accepts blobs g closes q m
defined_made tells accepts blobs g closes q text reply_text.Memory is d = tt
defined_made tells accepts blobs g closes q text (reply_text.Told o reply) is d =
    subst (λ (z : Outcome). IsAnswer tells accepts blobs g closes q z (reply_bytes reply)) (sym is.0)
    (subst (λ (t : List ℕ). IsDefined tells accepts blobs g closes q t) (sym is.1) d)

module _ (tells closes : Bool) (r : List ℕ) where
  blob_made : (result : Result (Option (List ℕ)) GetFault) (m : ReplyText) → BlobMade closes r result m
      → (accepts : Accepts) (before blobs : List Blob) (g : List Insertion) (e : Option StoreEvent)
      → (IsQuiet e → blobs ≡ before)
      → GetSpec tells r before result e → IsMade tells accepts blobs g closes (operation.Blob r) m
  blob_made (Ok None) m is accepts before blobs g e same says =
      let here : bytes_of r blobs ≡ None = ap (bytes_of r) (same says.1) ∙ says.0 in
      defined_made tells accepts blobs g closes (operation.Blob r) (refused_reply closes [] (Absent r)) m is
      (subst (λ (z : Option (List ℕ)). IsBlobReply tells r closes z (refused_reply closes [] (Absent r)))
      (sym here) refl)
  blob_made (Ok (Some bytes)) m is accepts before blobs g e same says =
      let here : bytes_of r blobs ≡ Some says.0.0 = ap (bytes_of r) (same says.1) ∙ says.0.1 in
      defined_made tells accepts blobs g closes (operation.Blob r) (bytes_reply closes bytes) m is
      (subst (λ (z : Option (List ℕ)). IsBlobReply tells r closes z (bytes_reply closes bytes)) (sym here)
      (bytes, says.0.2, refl))
  blob_made (Err f) m is accepts before blobs g e same says = fault_made tells accepts blobs g closes
      (operation.Blob r) f m refl is

  blob_cause : (result : Result (Option (List ℕ)) GetFault) (m : ReplyText) → BlobMade closes r result m
      → (before : List Blob) (h : List (Stamped StoreEvent)) (t : ℕ) (e : Option StoreEvent)
      → GetSpec tells r before result e → HasCauseIn (t ∷ []) (h ++ stamped t e) (outcome_of m)
  blob_cause (Ok None) m is before h t e says = defined_cause (t ∷ []) (h ++ stamped t e) _ m is
  blob_cause (Ok (Some bytes)) m is before h t e says = defined_cause (t ∷ []) (h ++ stamped t e) _ m is
  blob_cause (Err f) m is before h t e says = told_cause (t ∷ []) (h ++ stamped t e) closes f m is
      (fails_caused tells _ f h t e says)

  blob_memory : (result : Result (Option (List ℕ)) GetFault) (m : ReplyText) → BlobMade closes r result m
      → result ≡ Err unread.NoMemory → IsMemory m
  blob_memory result m is e = subst (λ (z : Result (Option (List ℕ)) GetFault). BlobMade closes r z m) e is

  pub blob_answers : (result : Result (Option (List ℕ)) GetFault) (m : ReplyText) (v w : Sight) (counts : ℕ × ℕ)
      → BlobMade closes r result m
      → StoreCall (result ≡ Err unread.NoMemory) (λ before e. GetSpec tells r before result e) v w → Counts w counts
      → Answers tells closes (operation.Blob r) v w (entry_of counts.0 counts.1 0 m) m
  blob_answers result m v w counts is call count =
      call_answers tells closes (operation.Blob r) m (λ before e. GetSpec tells r before result e)
      (blob_made result m is) (blob_cause result m is) (get_troubles tells r result)
      (result ≡ Err unread.NoMemory) v w counts (blob_memory result m is) call count

-- ---- stats and pages

text_cause : {A : Type 0} (closes : Bool) (text : A → List ℕ) (found : Result A NoMemory) (m : ReplyText)
    (turns : List ℕ)
    (h : List (Stamped StoreEvent))
    → TextMade closes text found m → HasCauseIn turns h (outcome_of m)
text_cause closes text (Ok found) m turns h is = defined_cause turns h _ m is
text_cause closes text (Err e) m turns h is = memory_cause turns h m is

text_memory : {A : Type 0} (closes : Bool) (text : A → List ℕ) (found : Result A NoMemory) (m : ReplyText)
    → TextMade closes text found m → IsErr found → IsMemory m
text_memory closes text (Ok found) m is none = absurd (cc none)
text_memory closes text (Err e) m is none = is

module _ (tells closes : Bool) where
  stat_made : (refs : List (List ℕ)) (result : Result (List (List ℕ × ℕ)) NoMemory) (m : ReplyText)
      → TextMade closes stat_text result m
      → (accepts : Accepts) (before blobs : List Blob) (g : List Insertion) (e : Option StoreEvent)
      → (IsQuiet e → blobs ≡ before)
      → StatSpec refs before result e → IsMade tells accepts blobs g closes (operation.Stat refs) m
  stat_made refs (Ok found) m is accepts before blobs g e same says =
      defined_made tells accepts blobs g closes (operation.Stat refs) _ m is
      (ap (λ (z : List (List ℕ × ℕ)). json_reply closes (stat_text z))
      (says.0 ∙ ap (λ (z : List Blob). filter_map (sized z) (each_once [] refs)) (sym (same (none_quiet e says.1)))))
  stat_made refs (Err f) m is accepts before blobs g e same says = memory_made tells accepts blobs g closes
      (operation.Stat refs) m is

  pub stat_answers : (refs : List (List ℕ)) (result : Result (List (List ℕ × ℕ)) NoMemory) (m : ReplyText) (v w : Sight)
      (counts : ℕ × ℕ)
      → TextMade closes stat_text result m → StoreCall (IsErr result) (λ before e. StatSpec refs before result e) v w
      → Counts w counts
      → Answers tells closes (operation.Stat refs) v w (entry_of counts.0 counts.1 0 m) m
  stat_answers refs result m v w counts is call count =
      call_answers tells closes (operation.Stat refs) m (λ before e. StatSpec refs before result e)
      (stat_made refs result m is)
      (λ before h t e says. text_cause closes stat_text result m (t ∷ []) (h ++ stamped t e) is)
      (λ before e says. none_trouble e (stat_none refs result before (Some e) says))
      (IsErr result) v w counts (text_memory closes stat_text result m is) call count

  -- a page is a front of one that is longer by one
  cut_is : (after : Option (List ℕ)) (limit : ℕ) (blobs : List Blob)
      → cut_page limit (page after (limit + 1) blobs) ≡ page_answer after limit blobs
  cut_is after limit blobs =
      ap (λ (z : List (List ℕ × ℕ)). page_text z (more_after z (page after (limit + 1) blobs)))
      (take-take limit (limit + 1) _ (omega arith))

  page_made : (p : Page) (result : Result (List (List ℕ × ℕ)) NoMemory) (m : ReplyText)
      → TextMade closes (cut_page p.limit) result m
      → (accepts : Accepts) (before blobs : List Blob) (g : List Insertion) (e : Option StoreEvent)
      → (IsQuiet e → blobs ≡ before)
      → ListSpec p.after (p.limit + 1) before result e → IsMade tells accepts blobs g closes (operation.Refs p) m
  page_made p (Ok found) m is accepts before blobs g e same says =
      defined_made tells accepts blobs g closes (operation.Refs p) _ m is
      (ap (json_reply closes)
      (ap (cut_page p.limit) (says.0 ∙ ap (page p.after (p.limit + 1)) (sym (same (none_quiet e says.1))))
      ∙ cut_is p.after p.limit blobs))
  page_made p (Err f) m is accepts before blobs g e same says = memory_made tells accepts blobs g closes
      (operation.Refs p) m is

  pub page_answers : (p : Page) (result : Result (List (List ℕ × ℕ)) NoMemory) (m : ReplyText) (v w : Sight)
      (counts : ℕ × ℕ)
      → TextMade closes (cut_page p.limit) result m
      → StoreCall (IsErr result) (λ before e. ListSpec p.after (p.limit + 1) before result e) v w → Counts w counts
      → Answers tells closes (operation.Refs p) v w (entry_of counts.0 counts.1 0 m) m
  page_answers p result m v w counts is call count =
      call_answers tells closes (operation.Refs p) m (λ before e. ListSpec p.after (p.limit + 1) before result e)
      (page_made p result m is)
      (λ before h t e says. text_cause closes (cut_page p.limit) result m (t ∷ []) (h ++ stamped t e) is)
      (λ before e says. none_trouble e (list_none p.after (p.limit + 1) result before (Some e) says))
      (IsErr result) v w counts (text_memory closes (cut_page p.limit) result m is) call count

  -- ---- a search

  -- a stat of nothing shows what had arrived
  looks_turned : (v w : Sight) (says : List Blob → Option StoreEvent → Type 0) → StoreTurned says v w
      → ((before : List Blob) (e : Option StoreEvent) → says before e → e ≡ None) → Looks v w
  looks_turned v w says turned none =
      let ran = turned.turn.ran in
      let t = ran.ticket + 1 in
      record {
        turn = t;
        drawn = ran.drawn;
        owned = ran.owned ∙ ap (λ (e : Option StoreEvent). own v.store.turns v.store.history ++ stamped t e)
            (none (arrivals ran.before) ran.entry ran.said);
        before = subst (Before t) (sym (ran.added
            ∙ ap (λ (e : Option StoreEvent). ran.before ++ stamped t e) (none (arrivals ran.before) ran.entry ran.said)
            ∙ append-nil ran.before)) (before_within ran.ticket ran.before ran.within.0);
        longer = record {
          store = prefix_trans v.store.history ran.before w.store.history ran.longer
              (stamped t ran.entry, sym ran.added);
          turns = (t ∷ [], sym ran.drawn);
          later = ran.later;
          index = same_prefix v.index.history w.index.history (ap (λ s. s.history) turned.index);
          shown = same_prefix v.index.shown w.index.shown (ap (λ s. s.shown) turned.index);
          limits = turned.turn.limits;
          accepts = ap (λ s. s.accepts) turned.index;
        };
      }

  pub looks : (result : Result (Unit {0}) NoMemory) (v w : Sight) → result ≡ Ok tt
      → StoreCall (IsErr result) (λ before e. e ≡ None) v w → Looks v w
  looks result v w is call =
      ⊎_elim (λ (a : StoreTurned (λ before e. e ≡ None) v w). looks_turned v w (λ before e. e ≡ None) a
      (λ before e h. h))
      (λ (b : IsErr result × Spends v w). not_both result is b.0) call
    where
      not_both : (r : Result (Unit {0}) NoMemory) → r ≡ Ok tt → IsErr r → Looks v w
      not_both (Ok found) is none = absurd (cc none)
      not_both (Err e) is none = absurd (cc is)

  -- it wasn't shown
  pub not_looked : (query : Query) (refused : Type 0) (v w : Sight) (counts : ℕ × ℕ)
      → StoreCall refused (λ before e. e ≡ None) v w → Counts w counts
      → Answers tells closes (operation.Search query) v w (entry_of counts.0 counts.1 0 reply_text.Memory)
      reply_text.Memory
  not_looked query refused v w counts call count =
      call_answers tells closes (operation.Search query) reply_text.Memory (λ before e. e ≡ None)
      (λ accepts before blobs g e same said. tt)
      (λ before h t e said. tt) (λ before e said. none_trouble e said) refused v w counts
      (λ _. tt) call count

  cause_behind : (t : ℕ) (turns : List ℕ) (h : List (Stamped StoreEvent)) (o : Outcome) → HasCauseIn turns h o
      → HasCauseIn (t ∷ turns) h o
  cause_behind t turns h Defined c = tt
  cause_behind t turns h Memory c = tt
  cause_behind t turns h Disk c = (c.0, c.1, has_rest (t ∷ []) turns c.0 c.2, c.3)
  cause_behind t turns h (Full blobs pack) c = (c.0, has_rest (t ∷ []) turns c.0 c.1, c.2)
  cause_behind t turns h (Damaged want is) c = (c.0, has_rest (t ∷ []) turns c.0 c.1, c.2)

  drawn_behind : (ts us vs further : List ℕ) (t : ℕ) → us ≡ ts ++ t ∷ [] → vs ≡ us ++ further → vs ≡ ts ++ t ∷ further
  drawn_behind ts us vs further t first then =
      then ∙ ap (λ (z : List ℕ). z ++ further) first ∙ append_assoc ts (t ∷ []) further

  placed_behind : (t : ℕ) (turns : List ℕ) (added : List (Stamped StoreEvent))
      → All (λ (s : Stamped StoreEvent). has turns s.turn ≡ true) added
      → All (λ (s : Stamped StoreEvent). has (t ∷ turns) s.turn ≡ true) added
  placed_behind t turns added all = All-weaker (λ (s : Stamped StoreEvent). has turns s.turn ≡ true)
      (λ (s : Stamped StoreEvent). has (t ∷ turns) s.turn ≡ true) (λ s e. has_rest (t ∷ []) turns s.turn e) added all

  arrived_before : (o v : Sight) → Longer o v → length (arrivals o.store.history) ≤ length (arrivals v.store.history)
  arrived_before o v longer = prefix_length (arrivals o.store.history) (arrivals v.store.history)
      (arrivals_prefix o.store.history v.store.history longer.store)

  pub search_failed : (query : Query) (f : GetFault) (m : ReplyText) (o v w : Sight) (before after : ℕ × ℕ)
      → Looks o v → Settles (Err f) v w → FaultMade closes f m → Counts v before → Counts w after
      → Answers tells closes (operation.Search query) o w (entry_of before.0 after.1 0 m) m
  search_failed query f m o v w before after look s is first last =
      let blobs = prefix_length (arrivals v.store.history) (arrivals w.store.history)
      (arrivals_prefix v.store.history w.store.history s.store.longer) in
      let rows = prefix_length v.index.shown w.index.shown s.shown in
      let arrived = arrived_before o v look.longer in
      let shown = prefix_length o.index.shown v.index.shown look.longer.shown in
      record {
        turns = look.turn ∷ s.store.further;
        drawn = drawn_behind o.store.turns v.store.turns w.store.turns s.store.further look.turn look.drawn
            s.store.drawn;
        added = s.store.added;
        owned = owns_chain o v w [] s.store.added look.owned s.store.owned;
        placed = placed_behind look.turn s.store.further s.store.added s.store.placed;
        nothing = s.store.each_is;
        store_within = let p = first.puts in omega arith;
        index_within = let p = last.inserts in omega arith;
        reply = fault_made tells w.index.accepts (take before.0 (arrivals w.store.history))
            (take after.1 w.index.shown) closes (operation.Search query) f m refl is;
        outcome = refl;
        kept = refl;
        cause = cause_behind look.turn s.store.further w.store.history (outcome_of m)
            (told_cause s.store.further w.store.history closes f m is s.cause);
        store_low = let p = first.puts in omega arith;
        index_low = let p = last.inserts in omega arith;
        longer = longer_chain o v w look.longer (record {
          store = s.store.longer;
          turns = (s.store.further, sym s.store.drawn);
          later = s.store.later;
          index = s.index.longer;
          shown = s.shown;
          limits = s.limits;
          accepts = s.accepts;
        });
        looked = looked_at w.store.history (take before.0 (arrivals w.store.history)) (operation.Search query) m
            (look.turn ∷ s.store.further)
            (shown_by o v w before.0 s.store.further look first.puts s.store.longer s.store.later);
      }

  search_made : (query : Query) (found : Result (List (List ℕ)) NoMemory) (m : ReplyText)
      → TextMade closes search_text found m
      → (accepts : Accepts) (blobs : List Blob) (g : List Insertion) → SearchSpec accepts query g found
      → HasAllBelow (length blobs) g
      → IsMade tells accepts blobs g closes (operation.Search query) m
  search_made query (Ok refs) m is accepts blobs g says all =
      defined_made tells accepts blobs g closes (operation.Search query) _ m is
      (all, ap (λ (z : List (List ℕ)). json_reply closes (search_text z)) says)
  search_made query (Err e) m is accepts blobs g says all = memory_made tells accepts blobs g closes
      (operation.Search query) m is

  -- a search behind its look and its settling: what was inserted is shown
  pub search_answers : (u : Unit {0}) (query : Query) (found : Result (List (List ℕ)) NoMemory) (m : ReplyText)
      (o v x w : Sight) (before after : ℕ × ℕ)
      → Looks o v → Settles (Ok u) v x → IsSight x → Searches query found x w → TextMade closes search_text found m
      → Counts v before → Counts w after
      → Answers tells closes (operation.Search query) o w (entry_of before.0 after.1 0 m) m
  search_answers u query found m o v x w before after look s legal a is first last =
      let grown : IsPrefix v.store.history w.store.history =
      prefix_trans v.store.history x.store.history w.store.history s.store.longer
      (same_prefix x.store.history w.store.history (ap (λ y. y.history) a.store)) in
      let later : AheadOf v.store.turns v.store.history w.store.history =
      subst (λ (y : StoreSight). AheadOf v.store.turns v.store.history y.history) (sym a.store) s.store.later in
      let shown : IsPrefix v.index.shown w.index.shown = prefix_trans v.index.shown x.index.shown w.index.shown
      s.shown a.search.shown in
      let arrived : IsPrefix (arrivals v.store.history)
      (arrivals w.store.history) = arrivals_prefix v.store.history w.store.history grown in
      let blobs = prefix_length (arrivals v.store.history) (arrivals w.store.history) arrived in
      let rows = prefix_length v.index.shown w.index.shown shown in
      let blobs_before = arrived_before o v look.longer in
      let rows_before = prefix_length o.index.shown v.index.shown look.longer.shown in
      let all : take after.1 w.index.shown ≡ w.index.shown = take_all after.1 w.index.shown
      (let p = last.inserts in omega arith) in
      let inserted : IsPrefix (inserts x.index.history) w.index.shown =
      prefix_trans (inserts x.index.history) x.index.shown w.index.shown legal.index.shown a.search.shown in
      let below : HasAllBelow (length (arrivals v.store.history)) w.index.shown =
      has_all_longer (length (arrivals v.store.history)) (inserts x.index.history) w.index.shown inserted s.all in
      let count : length (take before.0 (arrivals w.store.history)) ≡ length (arrivals v.store.history) =
      length-take-le before.0 (arrivals w.store.history) (let p = first.puts in omega arith) ∙ first.puts in
      record {
        turns = look.turn ∷ s.store.further;
        drawn = drawn_behind o.store.turns v.store.turns w.store.turns s.store.further look.turn look.drawn
            (ap (λ y. y.turns) a.store ∙ s.store.drawn);
        added = s.store.added;
        owned = ap (λ y. own y.turns y.history) a.store ∙ owns_chain o v x [] s.store.added look.owned s.store.owned;
        placed = placed_behind look.turn s.store.further s.store.added s.store.placed;
        nothing = s.store.each_is;
        store_within = let p = first.puts in omega arith;
        index_within = let p = last.inserts in omega arith;
        reply = search_made query found m is w.index.accepts (take before.0 (arrivals w.store.history))
            (take after.1 w.index.shown)
            (subst (λ (z : List Insertion). SearchSpec w.index.accepts query z found) (sym all) a.search.answer)
            (subst (λ (n : ℕ). HasAllBelow n (take after.1 w.index.shown)) (sym count)
            (subst (HasAllBelow (length (arrivals v.store.history))) (sym all) below));
        outcome = refl;
        kept = refl;
        cause = text_cause closes search_text found m (look.turn ∷ s.store.further) w.store.history is;
        store_low = let p = first.puts in omega arith;
        index_low = let p = last.inserts in omega arith;
        longer = longer_chain o v w look.longer (record {
          store = grown;
          turns = (s.store.further, sym (ap (λ y. y.turns) a.store ∙ s.store.drawn));
          later = later;
          index = subst (IsPrefix v.index.history) (sym a.search.history) s.index.longer;
          shown = shown;
          limits = ap (λ y. y.limits) a.store ∙ s.limits;
          accepts = a.search.accepts ∙ s.accepts;
        });
        looked = looked_at w.store.history (take before.0 (arrivals w.store.history)) (operation.Search query) m
            (look.turn ∷ s.store.further) (shown_by o v w before.0 s.store.further look first.puts grown later);
      }
