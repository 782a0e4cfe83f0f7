-- What an upload has added.
use Rattle.std.proofs.Common.{◌≡◌, ◌⊎◌, inl, inr, ℕ, ◌+◌, ◌≤◌, Bool, true, false, not, nat_eq, nat_lt, List, [], ◌∷◌}
use Rattle.std.proofs.Common.{◌++◌, length, Contains, refl, sym, ap, subst, ◌∙◌, arith, length-append, Option, Some}
use Rattle.std.proofs.Common.{None, Result, Ok, Err}
use Rattle.std.proofs.lemmas.Bool.{eq-eqb, ltb-true}
use Rattle.std.proofs.lemmas.List.Elements.{All-weaker, Contains-append_right}
use mathlib.Core.List.{IsPrefix}
use Rattle.blobref.specs.Blobref.{is_own_ref}
use Rattle.edge_base.specs.declared.answers.Put.{Put}
use Rattle.edge_base.specs.declared.answers.Put.TheVariants.{Stored, Already}
use Rattle.edge_base.specs.declared.answers.PutFault.{PutFault}
use Rattle.edge_base.specs.declared.answers.PutFault.TheVariants as put
use Rattle.pack_format.specs.Header.{max_size}
use Rattle.http_wire.specs.declared.ends.WireEnd.{WireEnd}
use Rattle.http_wire.specs.declared.ends.WireEnd.TheVariants as ends
use Rattle.http_wire.specs.Wires.{WireView, to_come}
use Rattle.histories.specs.declared.stamped.Stamped.{Stamped}
use Rattle.histories.specs.declared.events.StoreEvent.{StoreEvent}
use Rattle.histories.specs.declared.events.StoreEvent.TheVariants as store
use Rattle.histories.specs.History.{stamp, stamped, has}
use Rattle.histories.specs.Stores.{Blob, StoreLimits, arrivals, number_of}
use Rattle.histories.specs.StoreCalls.{PutSpec, PutAnswers, put_settled}
use Rattle.histories.proofs.Prefixes.{prefix_trans}
use Rattle.histories.proofs.Growing.{grew_chain, ran_grew, has_rest}
use Rattle.multipart_read.specs.declared.events.PartFault.{PartFault}
use Rattle.multipart_read.specs.declared.events.PartFault.TheVariants as part_faults
use Rattle.multipart_read.specs.PartLists.{Part}
use Rattle.multipart_read.specs.Tokens.{Token}
use Rattle.home_places.specs.Seats.{StoreGrew}
use Rattle.home_places.specs.Passes.{Sight, StoreTurned, Spends}
use Rattle.answer_text.specs.declared.refusal.Refusal.TheVariants.{BadRef, TooLong}
use Rattle.blob_upload.specs.declared.upload_end.UploadEnd.{UploadEnd}
use Rattle.blob_upload.specs.declared.upload_end.UploadEnd.TheVariants.{Whole, Refused, Full, Disk, Memory}
use Rattle.multipart_read.specs.Limits.{most_bytes}
use Rattle.blob_upload.specs.Faults.{end_of_part, end_of_wire, end_of_put}
use Rattle.blob_upload.specs.Puts.{IsArrivalOf, Puts, EndsBy, LastPut}
use Rattle.blob_upload.specs.Ends.{StopsAt, Told, StopsIn, Ends}
use Rattle.blob_upload.specs.Adds.{IsAddedBy, Turns, ShowsWhy, IsNext, Adds, UploadsAdd}
use Rattle.blob_upload.proofs.Fitting.{contents_fit}
use Rattle.blob_upload.proofs.Putting.{stands, stands_longer, settled_by}

-- ---- an upload that ends without a further put

-- no turn more is drawn, and no entry shows why
abbrev Quiet : UploadEnd → Type 0
Quiet end = ((n : ℕ) → Turns end n n) × ((turns : List ℕ) (h : List (Stamped StoreEvent)) → ShowsWhy end turns h)

quiet_part : (fault : PartFault) → Quiet (end_of_part fault)
quiet_part part_faults.BadBoundary = (λ n. refl, λ turns h. tt)
quiet_part (part_faults.Bad at) = (λ n. refl, λ turns h. tt)
quiet_part (part_faults.TooLong limit) = (λ n. refl, λ turns h. tt)
quiet_part part_faults.NoMemory = (λ n. inl refl, λ turns h. tt)

quiet_wire : (end : WireEnd) → Quiet (end_of_wire end)
quiet_wire ends.Closed = (λ n. refl, λ turns h. tt)
quiet_wire (ends.Cut at) = (λ n. refl, λ turns h. tt)
quiet_wire (ends.BadHead at) = (λ n. refl, λ turns h. tt)
quiet_wire (ends.BadLength at) = (λ n. refl, λ turns h. tt)
quiet_wire (ends.TooLong limit) = (λ n. refl, λ turns h. tt)
quiet_wire ends.ReadFault = (λ n. refl, λ turns h. tt)

-- what was put, said of how the upload ended
abbrev wider : (parts : List Part) (next : Part → Type 0) (end : UploadEnd) (v w : Sight)
    → StoreGrew (IsArrivalOf parts) v.store w.store → StoreGrew (IsAddedBy parts next end) v.store w.store
wider parts next end v w g = record {
  longer = g.longer;
  further = g.further;
  drawn = g.drawn;
  added = g.added;
  owned = g.owned;
  each_is = All-weaker (λ (s : Stamped StoreEvent). IsArrivalOf parts s.entry)
      (λ (s : Stamped StoreEvent). IsAddedBy parts next end s.entry) (λ s is. arrived s.entry is) g.added g.each_is;
  placed = g.placed;
  later = g.later;
}
  where
    arrived : (e : StoreEvent) → IsArrivalOf parts e → IsAddedBy parts next end e
    arrived (store.Put n r bytes) is = inl is
    arrived (store.Fault f) is = absurd is
    arrived (store.Damage want other) is = absurd is
    arrived (store.Full blobs pack) is = absurd is

module _ (parts : List Part) (next : Part → Type 0) (v m w : Sight) (puts : Puts parts v m) where
  adds_same : (end : UploadEnd) → Quiet end → Adds parts next end v m
  adds_same end quiet = record {
    grew = wider parts next end v m puts.grew;
    turns = subst (λ n. Turns end (length parts) n) (sym puts.turns) (quiet.0 (length parts));
    why = quiet.1 puts.grew.further m.store.history;
    stand = puts.stand;
    index = puts.index;
    limits = puts.limits;
    spent = inl puts.spent;
  }

  adds_quiet : (end is : UploadEnd) → Quiet is → end ≡ is → w ≡ m → Adds parts next end v w
  adds_quiet end is quiet ends same =
      subst (λ x. Adds parts next end v x) (sym same)
      (subst (λ c. Adds parts next c v m) (sym ends) (adds_same is quiet))

-- ---- an upload that ends with a put

has_one : (t : ℕ) → has (t ∷ []) t ≡ true
has_one t = let e : nat_eq t t ≡ true = eq-eqb t t refl in rw e refl

stamped_stands : (h : List (Stamped StoreEvent)) (t : ℕ) (entry : Option StoreEvent) (e : StoreEvent) → entry ≡ Some e
    → Contains (h ++ stamped t entry) (stamp t e)
stamped_stands h t entry e is =
    subst (λ (o : Option StoreEvent). Contains (h ++ stamped t o) (stamp t e)) (sym is)
    (Contains-append_right h (stamp t e ∷ []) (stamp t e) (0, omega arith, refl))

-- the entry that a put adds
put_adds : (limits : StoreLimits) (parts : List Part) (next : Part → Type 0) (part : Part) (before : List Blob)
    (o : Option (Result Put PutFault)) (answer : Result Put PutFault) (end : UploadEnd) (e : StoreEvent) → next part
    → EndsBy answer end → PutAnswers limits part.0 part.1 before o answer (Some e) → IsAddedBy parts next end e
put_adds limits parts next part before (Some settled) answer end e told ends said = absurd (cc (said.1))
put_adds limits parts next part before None (Ok (Stored n)) end e told ends said =
    let is : e ≡ store.Put n part.0 part.1 = cc (said.2) in subst (IsAddedBy parts next end) (sym is) (inr (ends, told))
put_adds limits parts next part before None (Ok (Already n)) end e told ends said = absurd said
put_adds limits parts next part before None (Err (put.TooBig size)) end e told ends said = absurd said
put_adds limits parts next part before None (Err (put.BadDigest a b)) end e told ends said = absurd said
put_adds limits parts next part before None (Err (put.Full blobs pack)) end e told ends said =
    let is : e ≡ store.Full blobs pack = cc (said.1) in subst (IsAddedBy parts next end) (sym is) ends
put_adds limits parts next part before None (Err put.Disk) end e told ends said =
    let is : e ≡ store.Fault (said.1.0) = cc (said.1.1) in subst (IsAddedBy parts next end) (sym is) ends
put_adds limits parts next part before None (Err put.NoMemory) end e told ends said = absurd (cc (said.1))

-- a part that is told of a body isn't too big
big_by : (limits : StoreLimits) (part : Part) (before : List Blob) (long other : Bool) (place : Option ℕ) (size : ℕ)
    (entry : Option StoreEvent)
    → PutAnswers limits part.0 part.1 before (settled_by part before long other place) (Err (put.TooBig size)) entry
    → long ≡ true
big_by limits part before true other place size entry said = refl
big_by limits part before false true place size entry said = absurd (cc (said.0))
big_by limits part before false false None size entry said = absurd said
big_by limits part before false false (Some n) size entry said = absurd (cc (said.0))

pub never_big : (limits : StoreLimits) (part : Part) (before : List Blob) (size : ℕ) (entry : Option StoreEvent)
    → length part.1 ≤ max_size → PutSpec limits part.0 part.1 before (Err (put.TooBig size)) entry → ⊥
never_big limits part before size entry few said =
    let long : nat_lt max_size (length part.1) ≡ true =
    big_by limits part before (nat_lt max_size (length part.1)) (not (is_own_ref part.0 part.1))
    (number_of part.0 before) size entry said in
    let many = ltb-true max_size (length part.1) long in
    absurd (omega (arith, few, many))

turned : (limits : StoreLimits) (part : Part) (before : List Blob) (answer : Result Put PutFault)
    (entry : Option StoreEvent) (end : UploadEnd) (n : ℕ)
    → length part.1 ≤ max_size → PutSpec limits part.0 part.1 before answer entry → EndsBy answer end
    → Turns end n (n + 1)
turned limits part before answer entry end n few said ends = by answer ends said
  where
    at : (is : UploadEnd) → Turns is n (n + 1) → end ≡ is → Turns end n (n + 1)
    at is turns same = subst (λ c. Turns c n (n + 1)) (sym same) turns

    by : (answer : Result Put PutFault) → EndsBy answer end → PutSpec limits part.0 part.1 before answer entry
        → Turns end n (n + 1)
    by (Ok stored) ends said = at Memory (inr refl) ends
    by (Err (put.TooBig size)) ends said = absurd (never_big limits part before size entry few said)
    by (Err (put.BadDigest a b)) ends said = at (end_of_put (put.BadDigest a b)) refl ends
    by (Err (put.Full blobs pack)) ends said = at (Full blobs pack) refl ends
    by (Err put.Disk) ends said = at Disk refl ends
    by (Err put.NoMemory) ends said = at Memory (inr refl) ends

full_by : (limits : StoreLimits) (part : Part) (before : List Blob) (long other : Bool) (place : Option ℕ)
    (blobs pack : ℕ) (entry : Option StoreEvent)
    → PutAnswers limits part.0 part.1 before (settled_by part before long other place) (Err (put.Full blobs pack)) entry
    → entry ≡ Some (store.Full blobs pack)
full_by limits part before true other place blobs pack entry said = absurd (cc (said.0))
full_by limits part before false true place blobs pack entry said = absurd (cc (said.0))
full_by limits part before false false None blobs pack entry said = said.1
full_by limits part before false false (Some n) blobs pack entry said = absurd (cc (said.0))

disk_by : (limits : StoreLimits) (part : Part) (before : List Blob) (long other : Bool) (place : Option ℕ)
    (entry : Option StoreEvent)
    → PutAnswers limits part.0 part.1 before (settled_by part before long other place) (Err put.Disk) entry
    → (f : ℕ) × (entry ≡ Some (store.Fault f))
disk_by limits part before true other place entry said = absurd (cc (said.0))
disk_by limits part before false true place entry said = absurd (cc (said.0))
disk_by limits part before false false None entry said = said.1
disk_by limits part before false false (Some n) entry said = absurd (cc (said.0))

shows_why : (limits : StoreLimits) (part : Part) (answer : Result Put PutFault) (end : UploadEnd)
    (h : List (Stamped StoreEvent)) (turns : List ℕ) (t : ℕ) (entry : Option StoreEvent) → EndsBy answer end
    → PutSpec limits part.0 part.1 (arrivals h) answer entry → ShowsWhy end (turns ++ t ∷ []) (h ++ stamped t entry)
shows_why limits part answer end h turns t entry ends said = by answer ends said
  where
    at : (is : UploadEnd) → ShowsWhy is (turns ++ t ∷ []) (h ++ stamped t entry) → end ≡ is
        → ShowsWhy end (turns ++ t ∷ []) (h ++ stamped t entry)
    at is shows same = subst (λ c. ShowsWhy c (turns ++ t ∷ []) (h ++ stamped t entry)) (sym same) shows

    by : (answer : Result Put PutFault) → EndsBy answer end → PutSpec limits part.0 part.1 (arrivals h) answer entry
        → ShowsWhy end (turns ++ t ∷ []) (h ++ stamped t entry)
    by (Ok stored) ends said = at Memory tt ends
    by (Err (put.TooBig size)) ends said = at (end_of_put (put.TooBig size)) tt ends
    by (Err (put.BadDigest a b)) ends said = at (end_of_put (put.BadDigest a b)) tt ends
    by (Err (put.Full blobs pack)) ends said =
        let is = full_by limits part (arrivals h) (nat_lt max_size (length part.1)) (not (is_own_ref part.0 part.1))
        (number_of part.0 (arrivals h)) blobs pack entry said in
        let stands = stamped_stands h t entry (store.Full blobs pack) is in
        at (Full blobs pack) (t, has_rest turns (t ∷ []) t (has_one t), stands) ends
    by (Err put.Disk) ends said =
        let is = disk_by limits part (arrivals h) (nat_lt max_size (length part.1)) (not (is_own_ref part.0 part.1))
        (number_of part.0 (arrivals h)) entry said in
        let stands = stamped_stands h t entry (store.Fault (is.0)) (is.1) in
        at Disk (t, is.0, has_rest turns (t ∷ []) t (has_one t), stands) ends
    by (Err put.NoMemory) ends said = at Memory tt ends

module _ (parts : List Part) (next : Part → Type 0) (part : Part) (end : UploadEnd) (v m w : Sight)
    (puts : Puts parts v m)
    (told : next part) (few : length part.1 ≤ max_size) where
  adds_turned : (answer : Result Put PutFault) → EndsBy answer end
      → StoreTurned (λ before entry. PutSpec m.store.limits part.0 part.1 before answer entry) m w
      → Adds parts next end v w
  adds_turned answer ends t =
      let r = t.turn.ran in
      let longer : IsPrefix m.store.history w.store.history =
      prefix_trans m.store.history r.before w.store.history r.longer (stamped (r.ticket + 1) r.entry, sym r.added) in
      let count : length (puts.grew.further ++ (r.ticket + 1) ∷ []) ≡ length parts + 1 =
      length-append puts.grew.further ((r.ticket + 1) ∷ []) ∙ ap (λ n. n + 1) puts.turns in
      record {
        grew = grew_chain (IsAddedBy parts next end) v.store.history m.store.history w.store.history v.store.turns
            m.store.turns
            w.store.turns (wider parts next end v m puts.grew)
            (ran_grew (λ before turn entry. PutSpec m.store.limits part.0 part.1 (arrivals before) answer entry)
            (IsAddedBy parts next end)
            m.store.history w.store.history m.store.turns w.store.turns
            (λ h n e said.
            put_adds m.store.limits parts next part (arrivals h) (put_settled part.0 part.1 (arrivals h)) answer end e
            told
            ends said) r);
        turns = subst (λ n. Turns end (length parts) n) (sym count)
            (turned m.store.limits part (arrivals r.before) answer r.entry end (length parts) few r.said ends);
        why = subst (λ h. ShowsWhy end (puts.grew.further ++ (r.ticket + 1) ∷ []) h) (sym r.added)
            (shows_why m.store.limits part answer end r.before puts.grew.further (r.ticket + 1) r.entry ends r.said);
        stand = All-weaker (stands m) (stands w) (λ other stood. stands_longer m w other longer stood) parts puts.stand;
        index = t.index ∙ puts.index;
        limits = t.turn.limits ∙ puts.limits;
        spent = inl (t.spent ∙ puts.spent);
      }

  adds_spent : end ≡ Memory → Spends m w → Adds parts next end v w
  adds_spent ends s =
      let left : Sight = record { store = m.store; index = m.index; spent = true } in
      let same : w ≡ left = λ i. record { store = s.store i; index = s.index i; spent = s.spent i } in
      let adds : Adds parts next Memory v left = record {
        grew = wider parts next Memory v m puts.grew;
        turns = inl puts.turns;
        why = tt;
        stand = puts.stand;
        index = puts.index;
        limits = puts.limits;
        spent = inr (refl, refl);
      } in
      subst (λ x. Adds parts next end v x) (sym same) (subst (λ c. Adds parts next c v left) (sym ends) adds)

  adds_last : LastPut part end m w → Adds parts next end v w
  adds_last last = by last.call
    where
      memory : (answer : Result Put PutFault) → answer ≡ Err put.NoMemory → EndsBy answer end → end ≡ Memory
      memory answer is ends = subst (λ a. EndsBy a end) is ends

      by : StoreTurned (λ before entry. PutSpec m.store.limits part.0 part.1 before last.answer entry) m w
          ⊎ ((last.answer ≡ Err put.NoMemory) × Spends m w) → Adds parts next end v w
      by (inl turn) = adds_turned last.answer last.ends turn
      by (inr spent) = adds_spent (memory last.answer (spent.0) last.ends) (spent.1)

module _ (parts : List Part) (end : UploadEnd) (v m w : Sight) (puts : Puts parts v m) where
  adds_at : (boundary given : List ℕ) (after : List Token) → Told boundary given parts after → StopsAt after end m w
      → Adds parts (IsNext boundary given parts) end v w
  adds_at boundary given after front (StopsAt.AtName name later told bad ends same) =
      adds_quiet parts (IsNext boundary given parts) v m w puts end (Refused BadRef) (λ n. refl, λ turns h. tt) ends
      same
  adds_at boundary given after front (StopsAt.AtPart part later told good last) =
      let whole = subst (λ ts. Told boundary given parts ts) told front in
      adds_last parts (IsNext boundary given parts) part end v m w puts (later, whole)
      (contents_fit boundary given parts part later whole) last
  adds_at boundary given after front (StopsAt.ForMemory ends same) =
      adds_quiet parts (IsNext boundary given parts) v m w puts end Memory (λ n. inl refl, λ turns h. tt) ends same

  adds_in : (boundary given : List ℕ) → StopsIn boundary given parts end m w
      → Adds parts (IsNext boundary given parts) end v w
  adds_in boundary given (StopsIn.AtToken after told stops) = adds_at boundary given after told stops
  adds_in boundary given (StopsIn.AtFault fault faulty ends same) =
      adds_quiet parts (IsNext boundary given parts) v m w puts end (end_of_part fault) (quiet_part fault) ends same
  adds_in boundary given (StopsIn.AtLimit front rest whole full some reads ends same) =
      adds_quiet parts (IsNext boundary given parts) v m w puts end (Refused (TooLong most_bytes))
      (λ n. refl, λ turns h. tt) ends same

  adds_ends : (boundary given : List ℕ) (wire : WireView) (x : Option (List ℕ))
      → Ends boundary given parts wire x end m w
      → Adds parts (IsNext boundary given parts) end v w
  adds_ends boundary given wire x (Ends.Inside front piece whole few over stops) = adds_in boundary given stops
  adds_ends boundary given wire x (Ends.AtClose done short is ends same) =
      adds_quiet parts (IsNext boundary given parts) v m w puts end Whole (λ n. refl, λ turns h. tt) ends same
  adds_ends boundary given wire x (Ends.AtEnd fault done all ends same) =
      adds_quiet parts (IsNext boundary given parts) v m w puts end (end_of_part fault) (quiet_part fault) ends same
  adds_ends boundary given wire x (Ends.AtBreak stop reads says short ends same) =
      adds_quiet parts (IsNext boundary given parts) v m w puts end (end_of_wire stop) (quiet_wire stop) ends same

pub uploads_add : UploadsAdd
uploads_add boundary left left' wire wire' v w kept kept' end u =
    adds_ends u.parts end v u.middle w u.keeps.puts boundary u.given wire' (to_come wire' left') u.ends
