-- A store represents a history with one entry more.
use Rattle.std.proofs.Common.{◌≡◌, ℕ, ◌+◌, suc, ◌-◌, ◌^◌, ◌≤◌, ◌<◌, List, [], ◌∷◌, ◌++◌, Bool, true, false, cond}
use Rattle.std.proofs.Common.{nat_le, nat_lt, Option, Some, None, refl, sym, ap, subst, ◌∙◌, arith, min}
use Rattle.std.specs.List.{list_all}
use Rattle.std.specs.Option.{ForSome, is_some}
use Rattle.std.proofs.lemmas.List.{append-nil}
use Rattle.std.proofs.lemmas.List.Folds.{list_all-append}
use Rattle.std.proofs.lemmas.Bool.{and_parts, and_from, le-leb, leb-true, lt-leb}
use Rattle.pack_disk.specs.Packs.{Packs}
use Rattle.pack_disk.specs.Disk.{Tells}
use Rattle.pack_disk.specs.declared.disk.Disk.{Ghosts}
use Rattle.edge_base.specs.Edge.{one_more, FaultsRose}
use Rattle.pack_store.specs.Archive.{Archive, greatest}
use Rattle.pack_store.specs.Rows.{arrivals_in, sizes_in}
use Rattle.histories.specs.declared.stamped.Stamped.{Stamped}
use Rattle.histories.specs.declared.events.StoreEvent.{StoreEvent}
use Rattle.histories.specs.declared.events.StoreEvent.TheVariants.{Put, Fault, Damage, Full}
use Rattle.histories.specs.History.{events, stamp, is_legal_after}
use Rattle.histories.specs.Stores.{puts, arrivals, last_faults, may_join_store, is_legal_store, StoreLimits}
use Rattle.histories.specs.StoreCalls.{sizes, IsQuiet}
use Rattle.histories.proofs.Rising.{events_more}
use Rattle.histories.proofs.Legality.{legal_more}
use Rattle.histories.proofs.Standing.{puts_append}
use Rattle.store_history.specs.Represents.{limits_of, is_told, may_stand, is_pack_within, fault_entry, StoreRepresents}

pub last_more : (f : ℕ) (es : List StoreEvent) (e : StoreEvent) → last_faults f (es ++ e ∷ [])
    ≡ last_faults (last_faults f es) (e ∷ [])
last_more f [] e = refl
last_more f (Put n r bytes ∷ es) e = last_more f es e
last_more f (Fault g ∷ es) e = last_more g es e
last_more f (Damage want is ∷ es) e = last_more f es e
last_more f (Full blobs pack ∷ es) e = last_more f es e

capped : (most a b : ℕ) → a ≤ b → min (a + 1) most ≤ min (b + 1) most
capped most a b le = omega arith

-- a count of faults that rose above a count is above what was at most that count
pub rose_above : (last before now : ℕ) → last ≤ before → FaultsRose before now → one_more last ≤ now
rose_above last before now le rose = let step = capped (2 ^ 64 - 1) last before le in omega (arith, step, rose)

-- a count that is greater has risen
pub more_rose : (before now : ℕ) → before < now → FaultsRose before now
more_rose before now more = omega (arith, more)

-- a count that isn't adds no fault
pub no_fault : (before now : ℕ) → now ≤ before → fault_entry before now ≡ None
no_fault before now le = ap (λ b. cond b (Some (Fault now)) None) (lt-leb (suc before) now (omega (arith, le)))

pub is_quiet : (before now : ℕ) → IsQuiet (fault_entry before now)
is_quiet before now = go (nat_lt before now)
  where
    go : (b : Bool) → IsQuiet (cond b (Some (Fault now)) None)
    go true = tt
    go false = tt

-- what holds of the packs before and after
pub told_after : (a b : Option Packs) (P : Packs → Packs → Type 0) → Tells a b P → (Q R : Packs → Type 0) → ForSome a Q
    → ((x y : Packs) → P x y → Q x → R y) → ForSome b R
told_after None None P t Q R q f y is = absurd (cc is)
told_after None (Some z) P t Q R q f y is = absurd t
told_after (Some x) None P t Q R q f y is = absurd t
told_after (Some x) (Some z) P t Q R q f y is = subst R (cc is) (f x z t (q x refl))

pub told_same : (a b : Option Packs) (P : Packs → Packs → Type 0) → Tells a b P → is_some b ≡ is_some a
told_same None None P t = refl
told_same None (Some z) P t = absurd t
told_same (Some x) None P t = absurd t
told_same (Some x) (Some z) P t = refl

-- what no call takes back: whether the disk tells, its count of faults, and the greatest number of a pack
pub record Onward {D : Type 0} (g : Ghosts D) (old new : Archive D) : Type 0 where
  pub limits : limits_of new ≡ limits_of old
  pub told : is_told g new ≡ is_told g old
  pub later : g.faults old.disk ≤ g.faults new.disk
  pub packs : greatest old ≤ greatest new

-- the next number where a pack was asked for, or wasn't
pub next_later : (needs : Bool) (next : ℕ) → next - 1 ≤ cond needs (suc next) next - 1
next_later true next = omega arith
next_later false next = omega arith

pub packs_more : (a b : ℕ) → a ≤ b → (es : List StoreEvent) → list_all (is_pack_within a) es ≡ true →
    list_all (is_pack_within b) es ≡ true
packs_more a b le [] all = refl
packs_more a b le (Put n r bytes ∷ es) all = packs_more a b le es all
packs_more a b le (Fault f ∷ es) all = packs_more a b le es all
packs_more a b le (Damage want is ∷ es) all = packs_more a b le es all
packs_more a b le (Full blobs pack ∷ es) all =
    let p = and_parts (nat_le pack a) (list_all (is_pack_within a) es) all in
    let within = leb-true pack a p.0 in
    and_from _ _ (le-leb pack b (omega (arith, within, le))) (packs_more a b le es p.1)

all_more : (p : StoreEvent → Bool) (es : List StoreEvent) (e : StoreEvent) → list_all p es ≡ true → p e ≡ true →
    list_all p (es ++ e ∷ []) ≡ true
all_more p es e all one = list_all-append p es (e ∷ []) ∙ and_from _ _ all (and_from _ true one refl)

module _ {D : Type 0} (g : Ghosts D) (made : ℕ) (old new : Archive D) (h : List (Stamped StoreEvent)) (turn : ℕ)
    (represents : StoreRepresents g made old h) (onward : Onward g old new) where
  later_now : made ≤ g.faults new.disk
  later_now = let was = represents.later in let later = onward.later in omega (arith, was, later)

  stands_now : list_all (may_stand made (is_told g new)) (events h) ≡ true
  stands_now = ap (λ b. list_all (may_stand made b) (events h)) onward.told ∙ represents.stands

  packs_now : list_all (is_pack_within (greatest new)) (events h) ≡ true
  packs_now = packs_more (greatest old) (greatest new) onward.packs (events h) represents.packs

  -- with no entry more
  pub represents_same : sizes_in new.rows ≡ sizes_in old.rows → ForSome (g.packs new.disk)
      (λ held. arrivals_in held new.rows ≡ arrivals h)
      → StoreRepresents g made new (h ++ [])
  represents_same rows told = subst (StoreRepresents g made new) (sym (append-nil h)) (record {
    legal = ap (λ (l : StoreLimits). is_legal_store l h) onward.limits ∙ represents.legal;
    rows = rows ∙ represents.rows;
    told = told;
    later = later_now;
    faults = let was = represents.faults in let later = onward.later in omega (arith, was, later);
    stands = stands_now;
    packs = packs_now;
  })

  -- with one that may join
  pub represents_more : (e : StoreEvent) → may_join_store (limits_of old) (events h) e ≡ true → sizes_in new.rows
      ≡ sizes (arrivals h ++ puts (e ∷ []))
      → ForSome (g.packs new.disk) (λ held. arrivals_in held new.rows ≡ arrivals h ++ puts (e ∷ []))
      → last_faults (last_faults 0 (events h)) (e ∷ []) ≤ g.faults new.disk → may_stand made (is_told g old) e ≡ true →
      is_pack_within (greatest new) e ≡ true
      → StoreRepresents g made new (h ++ stamp turn e ∷ [])
  represents_more e joins rows told faults stands within =
      let events_are : events (h ++ stamp turn e ∷ []) ≡ events h ++ e ∷ [] = events_more turn h (Some e) in
      let arrivals_are : arrivals (h ++ stamp turn e ∷ []) ≡ arrivals h ++ puts (e ∷ []) = ap puts events_are
      ∙ puts_append (events h) (e ∷ []) in
      record {
        legal = ap (λ (l : StoreLimits). is_legal_store l (h ++ stamp turn e ∷ [])) onward.limits
            ∙ subst (λ es. is_legal_after (may_join_store (limits_of old)) [] es ≡ true) (sym events_are)
            (legal_more (may_join_store (limits_of old)) [] (events h) e represents.legal joins);
        rows = rows ∙ ap sizes (sym arrivals_are);
        told = λ held is. told held is ∙ sym arrivals_are;
        later = later_now;
        faults = subst (λ n. n ≤ g.faults new.disk) (sym (ap (last_faults 0) events_are ∙ last_more 0 (events h) e))
            faults;
        stands = ap (list_all (may_stand made (is_told g new))) events_are
            ∙ all_more (may_stand made (is_told g new)) (events h) e stands_now
            (ap (λ b. may_stand made b e) onward.told ∙ stands);
        packs = ap (list_all (is_pack_within (greatest new))) events_are ∙ all_more (is_pack_within (greatest new))
            (events h) e packs_now within;
      }

-- a turn in which nothing is added
pub represents_end : {D : Type 0} (g : Ghosts D) (made : ℕ) (s : Archive D) (h : List (Stamped StoreEvent)) →
    StoreRepresents g made s h → StoreRepresents g made s (h ++ [])
represents_end g made s h represents = subst (StoreRepresents g made s) (sym (append-nil h)) represents
