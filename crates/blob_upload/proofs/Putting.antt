-- Parts that are put one after the other.
use Rattle.std.proofs.Common.{◌≡◌, ℕ, ◌+◌, Bool, true, false, cond, not, ◌||◌, List, [], ◌∷◌, ◌++◌, length, refl, sym}
use Rattle.std.proofs.Common.{ap, subst, ◌∙◌, append_assoc, length-append, Option, Some, None, Result, Ok, Err, nat_lt}
use Rattle.std.proofs.Common.{if◌then◌else◌}
use Rattle.std.specs.Cmp.Lexicographic.{nat_list_eq_equiv}
use Rattle.std.specs.Option.{option_map}
use Rattle.std.specs.List.{list_any, position_from}
use Rattle.std.proofs.lemmas.List.{append-nil}
use Rattle.std.proofs.lemmas.List.Elements.{All-nil, All-push, All-weaker, Contains-push, Contains-append_left}
use mathlib.Core.List.{IsPrefix, map-append}
use Rattle.blobref.specs.Blobref.{is_blobref, is_own_ref, ref_like}
use Rattle.edge_base.specs.declared.answers.Put.{Put}
use Rattle.edge_base.specs.declared.answers.Put.TheVariants.{Stored, Already}
use Rattle.edge_base.specs.declared.answers.PutFault.{PutFault}
use Rattle.edge_base.specs.declared.answers.PutFault.TheVariants as fault
use Rattle.pack_format.specs.Header.{max_size}
use Rattle.histories.specs.declared.stamped.Stamped.{Stamped}
use Rattle.histories.specs.declared.events.StoreEvent.{StoreEvent}
use Rattle.histories.specs.declared.events.StoreEvent.TheVariants as store
use Rattle.histories.specs.History.{stamped}
use Rattle.histories.specs.Stores.{Blob, StoreLimits, arrivals, is_ref, has_ref, number_of}
use Rattle.histories.specs.StoreCalls.{PutSpec, PutAnswers, put_settled, sizes}
use Rattle.histories.proofs.Growing.{grew_none, grew_chain, ran_grew}
use Rattle.histories.proofs.Prefixes.{prefix_trans}
use Rattle.histories.proofs.Standing.{arrivals_append, arrivals_prefix}
use Rattle.home_places.specs.Seats.{StoreGrew}
use Rattle.home_places.specs.Passes.{Sight, StoreTurned}
use Rattle.answer_text.specs.declared.refusal.Refusal.{Refusal}
use Rattle.answer_text.specs.declared.refusal.Refusal.TheVariants.{BadDigest, BadRef}
use Rattle.multipart_read.specs.PartLists.{Part}
use Rattle.blob_upload.specs.Faults.{part_fault}
use Rattle.blob_upload.specs.Puts.{IsArrivalOf, Puts, Keeps}

abbrev pub stands : Sight → Part → Type 0
stands w part = has_ref part.0 (arrivals w.store.history) ≡ true

-- ---- a blob that was put stands

any_more : {A : Type 0} (p : A → Bool) (xs ys : List A) → list_any p xs ≡ true → list_any p (xs ++ ys) ≡ true
any_more p [] ys e = absurd cc
any_more p (x ∷ xs) ys e = by (p x) (list_any p xs) (list_any p (xs ++ ys)) (any_more p xs ys) e
  where
    by : (a b c : Bool) → (b ≡ true → c ≡ true) → (a || b) ≡ true → (a || c) ≡ true
    by true b c f e = refl
    by false b c f e = f e

any_last : {A : Type 0} (p : A → Bool) (xs : List A) (x : A) → p x ≡ true → list_any p (xs ++ x ∷ []) ≡ true
any_last p [] x e = ap (λ b. b || false) e
any_last p (y ∷ xs) x e = by (p y) (list_any p (xs ++ x ∷ [])) (any_last p xs x e)
  where
    by : (a b : Bool) → b ≡ true → (a || b) ≡ true
    by true b e = refl
    by false b e = e

any_placed : {A : Type 0} (p : A → Bool) (k n : ℕ) (xs : List A) → position_from p k xs ≡ Some n → list_any p xs ≡ true
any_placed p k n [] e = absurd cc
any_placed p k n (x ∷ xs) e = by (p x) (position_from p (k + 1) xs) (list_any p xs) (any_placed p (k + 1) n xs) e
  where
    by : (a : Bool) (o : Option ℕ) (b : Bool) → (o ≡ Some n → b ≡ true) → cond a (Some k) o ≡ Some n → (a || b) ≡ true
    by true o b f e = refl
    by false o b f e = f e

-- what stood stands in every longer history
pub stands_longer : (v w : Sight) (part : Part) → IsPrefix v.store.history w.store.history → stands v part
    → stands w part
stands_longer v w part longer stood =
    let further = arrivals_prefix v.store.history w.store.history longer in
    subst (λ blobs. has_ref part.0 blobs ≡ true) further.1
    (any_more (λ (b : Blob). is_ref part.0 b.0) (arrivals v.store.history) further.0 stood)

-- ---- what the answer to a put says

module _ (part : Part) (before : List Blob) where
  -- the answer that comes before anything is done, by its two tests
  abbrev pub settled_by : (long other : Bool) (place : Option ℕ) → Option (Result Put PutFault)
  settled_by long other place =
      if long then Some (Err (fault.TooBig (length part.1)))
      else if other then Some (Err (fault.BadDigest part.0 (ref_like part.0 part.1)))
      else option_map (λ (n : ℕ). Ok (Already n)) place

  abbrev fault_by : (unnamed other : Bool) → Option Refusal
  fault_by unnamed other =
      if unnamed then Some BadRef
      else if other then Some (BadDigest part.0 (ref_like part.0 part.1))
      else None

module _ (limits : StoreLimits) (part : Part) (before : List Blob) where
  sound_by : (long other : Bool) (place : Option ℕ) (put : Put) (entry : Option StoreEvent)
      → PutAnswers limits part.0 part.1 before (settled_by part before long other place) (Ok put) entry
      → fault_by part before false other ≡ None
  sound_by true other place put entry said = absurd (cc (said.0))
  sound_by false true place put entry said = absurd (cc (said.0))
  sound_by false false place put entry said = refl

  -- a part that was put has no fault
  pub put_sound : (put : Put) (entry : Option StoreEvent) → PutSpec limits part.0 part.1 before (Ok put) entry
      → is_blobref part.0 ≡ true → part_fault part ≡ None
  put_sound put entry said named =
      ap (λ b. fault_by part before (not b) (not (is_own_ref part.0 part.1))) named
      ∙ sound_by (nat_lt max_size (length part.1)) (not (is_own_ref part.0 part.1))
      (number_of part.0 before) put entry said

  -- what it adds is its arrival
  put_adds : (answer : Option (Result Put PutFault)) (put : Put) (parts : List Part) (e : StoreEvent)
      → PutAnswers limits part.0 part.1 before answer (Ok put) (Some e) → IsArrivalOf (parts ++ part ∷ []) e
  put_adds (Some answer) put parts e said = absurd (cc (said.1))
  put_adds None (Stored n) parts e said =
      let is : e ≡ store.Put n part.0 part.1 = cc (said.2) in
      subst (IsArrivalOf (parts ++ part ∷ [])) (sym is) (Contains-push parts part)
  put_adds None (Already n) parts e said = absurd said

  placed_by : (long other : Bool) (place : Option ℕ) (n : ℕ) (entry : Option StoreEvent)
      → PutAnswers limits part.0 part.1 before (settled_by part before long other place) (Ok (Already n)) entry
      → place ≡ Some n
  placed_by true other place n entry said = absurd (cc (said.0))
  placed_by false true place n entry said = absurd (cc (said.0))
  placed_by false false None n entry said = absurd said
  placed_by false false (Some m) n entry said = cc (said.0)

  stored_by : (long other : Bool) (place : Option ℕ) (n : ℕ) (entry : Option StoreEvent)
      → PutAnswers limits part.0 part.1 before (settled_by part before long other place) (Ok (Stored n)) entry
      → entry ≡ Some (store.Put n part.0 part.1)
  stored_by true other place n entry said = absurd (cc (said.0))
  stored_by false true place n entry said = absurd (cc (said.0))
  stored_by false false None n entry said = said.2
  stored_by false false (Some m) n entry said = absurd (cc (said.0))

  -- behind the put its blob stands
  put_has : (put : Put) (entry : Option StoreEvent) (h : List (Stamped StoreEvent)) (t : ℕ) → arrivals h ≡ before
      → PutSpec limits part.0 part.1 before (Ok put) entry → has_ref part.0 (arrivals (h ++ stamped t entry)) ≡ true
  put_has (Stored n) entry h t is said =
      let added : entry ≡ Some (store.Put n part.0 part.1) =
      stored_by (nat_lt max_size (length part.1)) (not (is_own_ref part.0 part.1))
      (number_of part.0 before) n entry said in
      subst (λ o. has_ref part.0 (arrivals (h ++ stamped t o)) ≡ true) (sym added)
      (subst (λ blobs. has_ref part.0 blobs ≡ true)
      (sym (arrivals_append h (stamped t (Some (store.Put n part.0 part.1)))))
      (any_last (λ (b : Blob). is_ref part.0 b.0) (arrivals h) part (nat_list_eq_equiv.refl part.0)))
  put_has (Already n) entry h t is said =
      let placed : number_of part.0 before ≡ Some n =
      placed_by (nat_lt max_size (length part.1)) (not (is_own_ref part.0 part.1))
      (number_of part.0 before) n entry said in
      let stood : has_ref part.0 (arrivals h) ≡ true =
      subst (λ blobs. has_ref part.0 blobs ≡ true) (sym is)
      (any_placed (λ (b : Blob). is_ref part.0 b.0) 0 n before placed) in
      subst (λ blobs. has_ref part.0 blobs ≡ true) (sym (arrivals_append h (stamped t entry)))
      (any_more (λ (b : Blob). is_ref part.0 b.0) (arrivals h) (arrivals (stamped t entry)) stood)

-- ---- parts one after the other

-- the parts were put: also parts of more
abbrev of_more : (parts : List Part) (part : Part) (v w : Sight) → StoreGrew (IsArrivalOf parts) v.store w.store
    → StoreGrew (IsArrivalOf (parts ++ part ∷ [])) v.store w.store
of_more parts part v w g = record {
  longer = g.longer;
  further = g.further;
  drawn = g.drawn;
  added = g.added;
  owned = g.owned;
  each_is = All-weaker (λ (s : Stamped StoreEvent). IsArrivalOf parts s.entry)
      (λ (s : Stamped StoreEvent). IsArrivalOf (parts ++ part ∷ []) s.entry)
      (λ s is. wider s.entry is) g.added g.each_is;
  placed = g.placed;
  later = g.later;
}
  where
    wider : (e : StoreEvent) → IsArrivalOf parts e → IsArrivalOf (parts ++ part ∷ []) e
    wider (store.Put n r bytes) is = Contains-append_left parts (part ∷ []) (r, bytes) is
    wider (store.Fault f) is = is
    wider (store.Damage want other) is = is
    wider (store.Full blobs pack) is = is

pub puts_none : (v : Sight) → Puts [] v v
puts_none v = record {
  grew = grew_none (IsArrivalOf []) v.store.history v.store.turns;
  turns = refl;
  stand = All-nil (stands v);
  index = refl;
  limits = refl;
  spent = refl;
}

puts_more : (parts : List Part) (part : Part) (put : Put) (u v w : Sight) → Puts parts u v
    → StoreTurned (λ before entry. PutSpec v.store.limits part.0 part.1 before (Ok put) entry) v w
    → Puts (parts ++ part ∷ []) u w
puts_more parts part put u v w p t =
    let r = t.turn.ran in
    let longer : IsPrefix v.store.history w.store.history =
    prefix_trans v.store.history r.before w.store.history r.longer (stamped (r.ticket + 1) r.entry, sym r.added) in
    let here : stands w part =
    subst (λ h. has_ref part.0 (arrivals h) ≡ true) (sym r.added)
    (put_has v.store.limits part (arrivals r.before) put r.entry r.before (r.ticket + 1) refl r.said) in
    record {
      grew = grew_chain (IsArrivalOf (parts ++ part ∷ [])) u.store.history v.store.history w.store.history u.store.turns
          v.store.turns w.store.turns (of_more parts part u v p.grew)
          (ran_grew (λ before turn entry. PutSpec v.store.limits part.0 part.1 (arrivals before) (Ok put) entry)
          (IsArrivalOf (parts ++ part ∷ [])) v.store.history w.store.history v.store.turns w.store.turns
          (λ h n e said. put_adds v.store.limits part (arrivals h) (put_settled part.0 part.1 (arrivals h)) put parts e
          said) r);
      turns = length-append p.grew.further ((r.ticket + 1) ∷ []) ∙ ap (λ n. n + 1) p.turns
          ∙ sym (length-append parts (part ∷ []));
      stand = All-push (stands w) parts part
          (All-weaker (stands v) (stands w) (λ other stood. stands_longer v w other longer stood) parts p.stand) here;
      index = t.index ∙ p.index;
      limits = t.turn.limits ∙ p.limits;
      spent = t.spent ∙ p.spent;
    }

-- nothing was put
pub keeps_none : (kept : List (List ℕ × ℕ)) (v : Sight) → Keeps [] kept kept v v
keeps_none kept v = record {
  sound = All-nil (λ (part : Part). part_fault part ≡ None);
  listed = sym (append-nil kept);
  puts = puts_none v;
}

-- a part more was put and listed
pub keeps_more : (parts : List Part) (part : Part) (put : Put) (first kept kept' : List (List ℕ × ℕ)) (u v w : Sight)
    → Keeps parts first kept u v → is_blobref part.0 ≡ true → kept' ≡ kept ++ (part.0, length part.1) ∷ []
    → StoreTurned (λ before entry. PutSpec v.store.limits part.0 part.1 before (Ok put) entry) v w
    → Keeps (parts ++ part ∷ []) first kept' u w
keeps_more parts part put first kept kept' u v w k named listed t =
    let r = t.turn.ran in
    let sound : part_fault part ≡ None =
    put_sound v.store.limits part (arrivals r.before) put r.entry r.said named in
    record {
      sound = All-push (λ (p : Part). part_fault p ≡ None) parts part k.sound sound;
      listed = listed ∙ ap (λ l. l ++ (part.0, length part.1) ∷ []) k.listed
          ∙ append_assoc first (sizes parts) ((part.0, length part.1) ∷ [])
          ∙ ap (λ l. first ++ l) (sym (map-append (λ (b : Blob). (b.0, length b.1)) parts (part ∷ [])));
      puts = puts_more parts part put u v w k.puts t;
    }
