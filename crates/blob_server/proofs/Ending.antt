-- What serving leaves, from what it leaves of each desk.
use Rattle.std.proofs.Common.{◌≡◌, ℕ, ◌+◌, ◌<◌, ◌≤◌, ◌⊎◌, inl, inr, ⊎_elim, Bool, true, false, ◌||◌, ◌&&◌, not, cond}
use Rattle.std.proofs.Common.{nat_eq, List, []}
use Rattle.std.proofs.Common.{◌∷◌, map, All, refl, ap, sym, subst, ◌∙◌, arith, Option, Some, None, Ok, Err}
use Rattle.std.specs.List.{list_any, AllZip}
use Rattle.std.proofs.lemmas.Bool.{eq-eqb}
use Rattle.std.proofs.lemmas.List.Elements.{All-nil, All-cons}
use Rattle.std.proofs.lemmas.List.Sums.{sum_by-cons}
use Rattle.edge_base.specs.declared.answers.GetFault.{GetFault}
use Rattle.edge_base.specs.declared.answers.GetFault.TheVariants as unread
use Rattle.home_places.specs.Passes.{Sight}
use Rattle.top_frame.specs.Faults.{get_status}
use Rattle.top_frame.specs.declared.status.Status.{Status}
use Rattle.top_frame.specs.declared.status.Status.TheVariants as status
use Rattle.blob_server.specs.declared.desk_list.Desk.{Desk}
use Rattle.blob_server.specs.Counting.{Attended}
use Rattle.blob_server.specs.Stands.{Counts, Stand, GivesBy, Attends, stand_of, last_count, lost}
use Rattle.blob_server.specs.Ends.{Counted, Tended, accepted_of, accepted_in, is_worker, has_worker, has_failed}
use Rattle.blob_server.specs.Ends.{failed_in}
use Rattle.blob_server.specs.Ends.{is_steady, has_steady, is_at_last, FirstSettled, AreServed, AllAccepted, OthersGoOn}
use Rattle.blob_server.specs.Ends.{SettlesFirst, Serves, Ends, settled}

-- ---- one desk

counted : (a b : Option Counts) (failed : Bool) (t s : ℕ) → GivesBy a b failed t s → Counted a b failed
counted None None failed t s g = g.0
counted None (Some b) failed t s g = absurd g
counted (Some a) None failed t s g = absurd g
counted (Some a) (Some b) failed t s g = (g.later, g.fails)

gives_most : (a b : Option Counts) (failed : Bool) (t s : ℕ) → GivesBy a b failed t s
    → accepted_of b ≤ accepted_of a + t
gives_most None None failed t s g = omega arith
gives_most None (Some b) failed t s g = absurd g
gives_most (Some a) None failed t s g = absurd g
gives_most (Some a) (Some b) failed t s g = g.most

none_lost : (failed : Bool) → failed ≡ false → lost failed ≡ 0
none_lost failed none = ap lost none

gives_all : (a b : Option Counts) (failed : Bool) (t s : ℕ) → GivesBy a b failed t s
    → (accepted_of b + lost failed ≡ accepted_of a + t) ⊎ (nat_eq (accepted_of b) last_count ≡ true)
gives_all None None failed t s g = inl (let p = g.1 in let q = none_lost failed g.0 in omega (arith, p, q))
gives_all None (Some b) failed t s g = absurd g
gives_all (Some a) None failed t s g = absurd g
gives_all (Some a) (Some b) failed t s g =
    let taken = g.all.1 in
    ⊎_elim (λ p. inl (omega (arith, p, taken))) (λ p. inr (eq-eqb b.accepted last_count p)) g.all.2

gives_dry : (a b : Option Counts) (failed : Bool) (t s : ℕ) → failed ≡ false → is_worker a ≡ true
    → GivesBy a b failed t s → 0 < s
gives_dry None b failed t s none worker g = absurd (cc worker)
gives_dry (Some a) None failed t s none worker g = absurd g
gives_dry (Some a) (Some b) failed t s none worker g = g.done none

gives_steady : (a b : Option Counts) (failed : Bool) (t s : ℕ) → (is_worker b && not failed) ≡ true
    → GivesBy a b failed t s → 0 < s
gives_steady a None failed t s steady g = absurd (cc steady)
gives_steady None (Some b) failed t s steady g = absurd g
gives_steady (Some a) (Some b) true t s steady g = absurd (cc steady)
gives_steady (Some a) (Some b) false t s steady g = g.done refl

-- ---- all desks

pub record Gathered (before after : List Stand) (taken dry : ℕ) : Type 0 where
  pub tended : AllZip Tended before after
  pub most : accepted_in after ≤ accepted_in before + taken
  pub all : (accepted_in after + failed_in after ≡ accepted_in before + taken) ⊎ (is_at_last after ≡ true)
  pub none : has_failed after ≡ false → failed_in after ≡ 0
  pub dried : has_failed after ≡ false → has_worker before ≡ true → 0 < dry
  pub steady : has_steady after ≡ true → 0 < dry

or_none : (a b : Bool) → (a || b) ≡ false → (a ≡ false) × (b ≡ false)
or_none true b e = absurd (cc e)
or_none false b e = (refl, e)

or_left : (a b : Bool) → a ≡ true → (a || b) ≡ true
or_left true b e = refl
or_left false b e = absurd (cc e)

or_right : (a b : Bool) → b ≡ true → (a || b) ≡ true
or_right true b e = refl
or_right false b e = e

or_either : (a b : Bool) → (a || b) ≡ true → (a ≡ true) ⊎ (b ≡ true)
or_either true b e = inl refl
or_either false b e = inr e

count : Stand → ℕ
count s = accepted_of s.counts

all_given : (a b k t c d m u x y n taken : ℕ) (here rest : Bool) → x ≡ a + c → y ≡ b + d → n ≡ k + m → taken ≡ t + u
    → (b + k ≡ a + t) ⊎ (here ≡ true) → (d + m ≡ c + u) ⊎ (rest ≡ true) → (y + n ≡ x + taken) ⊎ ((here || rest) ≡ true)
all_given a b k t c d m u x y n taken here rest xs ys ns ts (inl p) (inl q) = inl (omega (arith, xs, ys, ns, ts, p, q))
all_given a b k t c d m u x y n taken here rest xs ys ns ts (inr p) q = inr (or_left here rest p)
all_given a b k t c d m u x y n taken here rest xs ys ns ts (inl p) (inr q) = inr (or_right here rest q)

pub gathered : (before after : List Stand) (taken dry : ℕ) → Attended Attends before after taken dry
    → Gathered before after taken dry
gathered [] [] taken dry a = record {
  tended = tt;
  most = omega arith;
  all = inl (let p = a.0 in omega (arith, p));
  none = λ e. refl;
  dried = λ e f. absurd (cc f);
  steady = λ e. absurd (cc e);
}
gathered [] (w ∷ ws) taken dry a = absurd a
gathered (v ∷ vs) [] taken dry a = absurd a
gathered (v ∷ vs) (w ∷ ws) taken dry a =
    let one = a.4 in
    let rest = gathered vs ws a.2 a.3 a.5 in
    let before : accepted_in (v ∷ vs) ≡ accepted_of v.counts + accepted_in vs = sum_by-cons
    (λ (s : Stand). accepted_of s.counts) v vs in
    let after : accepted_in (w ∷ ws) ≡ accepted_of w.counts + accepted_in ws = sum_by-cons
    (λ (s : Stand). accepted_of s.counts) w ws in
    let fails : failed_in (w ∷ ws) ≡ lost w.failed + failed_in ws = sum_by-cons (λ (s : Stand). lost s.failed) w ws in
    record {
      tended = (
        record { longer = one.longer; counted = counted v.counts w.counts w.failed a.0 a.1 one.gives },
        rest.tended,
      );
      most = let p = gives_most v.counts w.counts w.failed a.0 a.1 one.gives in let q = rest.most in let r = a.6 in
          omega (arith, p, q, r, before, after);
      all = all_given (accepted_of v.counts) (accepted_of w.counts) (lost w.failed) a.0 (accepted_in vs)
          (accepted_in ws)
          (failed_in ws) a.2 (accepted_in (v ∷ vs)) (accepted_in (w ∷ ws)) (failed_in (w ∷ ws)) taken
          (nat_eq (accepted_of w.counts) last_count) (is_at_last ws) before after fails a.6
          (gives_all v.counts w.counts w.failed a.0 a.1 one.gives) rest.all;
      none = λ none. let e = or_none w.failed (has_failed ws) none in
          let here = none_lost w.failed e.0 in let there = rest.none e.1 in omega (arith, fails, here, there);
      steady = λ steady. let r = a.7 in
          ⊎_elim (λ here. let p = gives_steady v.counts w.counts w.failed a.0 a.1 here one.gives in omega (arith, p, r))
          (λ there. let p = rest.steady there in omega (arith, p, r)) (or_either (is_steady w) (has_steady ws) steady);
      dried = λ none worker. let e = or_none w.failed (has_failed ws) none in let r = a.7 in
          ⊎_elim (λ here. let p = gives_dry v.counts w.counts w.failed a.0 a.1 e.0 here one.gives in omega
          (arith, p, r)) (λ there. let p = rest.dried e.1 there in omega (arith, p, r))
          (or_either (is_worker v.counts) (has_worker vs) worker);
    }

-- ---- settled first

first_settled : (before begun : List Stand) → SettlesFirst (Ok tt) before begun → FirstSettled before begun
first_settled [] begun s = absurd (cc s.before_is)
first_settled (v ∷ vs) begun s = s

module _ (connections : ℕ) (before mid after : List Stand) (result : Status) where
  ends_by : (failed : Bool) → has_failed after ≡ failed → AreServed connections before after
      → (has_failed after ≡ false → AllAccepted connections before after) → OthersGoOn connections before after
      → Ends connections before after (cond failed status.ListenerFault status.Done)
  ends_by true is served all others = (served, is, others)
  ends_by false is served all others = (served, is, all is)

  -- the whole call, where the first pass was settled
  pub ends_served : SettlesFirst (Ok tt) before mid → Serves connections mid after result
      → Ends connections before after result
  ends_served f s =
      let first = f.first in
      let rest = f.rest in
      let v' : Stand = settled first f.now in
      let tended : Gathered mid after s.taken s.dry = gathered mid after s.taken s.dry s.attended in
      let g : Gathered (v' ∷ rest) after s.taken s.dry = subst (λ (zs : List Stand). Gathered zs after s.taken s.dry)
      f.after_is tended in
      let before_sum : accepted_in (first ∷ rest) ≡ accepted_of first.counts + accepted_in rest = sum_by-cons
      (λ (x : Stand). accepted_of x.counts) first rest in
      let mid_sum : accepted_in (v' ∷ rest) ≡ accepted_of first.counts + accepted_in rest = sum_by-cons
      (λ (x : Stand). accepted_of x.counts) v' rest in
      let same : accepted_in before ≡ accepted_in (v' ∷ rest) = ap accepted_in f.before_is
      ∙ (before_sum ∙ sym mid_sum) in
      let most = g.most in
      let limit = s.most in
      let are : AreServed connections before after = record {
        begun = mid;
        settled = first_settled before mid f;
        tended = tended.tended;
        most = omega (arith, same, most, limit);
      } in
      let all : has_failed after ≡ false → AllAccepted connections before after = λ none worker.
      let dried = g.dried none (subst (λ (zs : List Stand). has_worker zs ≡ true) f.before_is worker) in
      let whole = s.all dried in
      let fails = g.none none in
      ⊎_elim (λ p. inl (omega (arith, same, p, whole, fails))) (λ p. inr p) g.all in
      let others : OthersGoOn connections before after = λ steady.
      let whole = s.all (g.steady steady) in
      ⊎_elim (λ p. inl (omega (arith, same, p, whole))) (λ p. inr p) g.all in
      subst (Ends connections before after) (sym s.answer) (ends_by (has_failed after) refl are all others)

-- or refused
pub ends_unsettled : (connections : ℕ) (before after : List Stand) (fault : GetFault)
    → SettlesFirst (Err fault) before after → Ends connections before after (get_status fault)
ends_unsettled connections before after unread.Disk f = f
ends_unsettled connections before after (unread.Damaged want is) f = f
ends_unsettled connections before after unread.NoMemory f = f

-- without desks nothing is done
pub ends_none : (connections : ℕ) (before after : List Stand) → before ≡ [] → after ≡ []
    → Ends connections before after status.Done
ends_none connections before after is is' = rw (is, is') (
  record
      { begun = []; settled = refl; tended = tt; most = omega arith },
  refl,
  λ none. absurd (cc none),
)

-- ---- from desks to what they are seen as

module _ {P L : Type 0} (sight : P → Sight) (accepted faults : L → ℕ) (belongs : P → Type 0) where
  abbrev pub DoesAt : Desk P L → Desk P L → ℕ → ℕ → Type 0
  DoesAt d e taken dry = belongs e.pass × Attends (stand_of sight accepted faults d)
      (stand_of sight accepted faults e) taken dry

  pub attended_own : (ds es : List (Desk P L)) (t s : ℕ) → Attended DoesAt ds es t s
      → All (λ (d : Desk P L). belongs d.pass) es
  attended_own [] [] t s a = All-nil (λ (d : Desk P L). belongs d.pass)
  attended_own [] (e ∷ es) t s a = absurd a
  attended_own (d ∷ ds) [] t s a = absurd a
  attended_own (d ∷ ds) (e ∷ es) t s a = All-cons (λ (x : Desk P L). belongs x.pass) e es a.4.0
      (attended_own ds es a.2 a.3 a.5)

  pub attended_seen : (ds es : List (Desk P L)) (t s : ℕ) → Attended DoesAt ds es t s
      → Attended Attends (map (stand_of sight accepted faults) ds) (map (stand_of sight accepted faults) es) t s
  attended_seen [] [] t s a = a
  attended_seen [] (e ∷ es) t s a = absurd a
  attended_seen (d ∷ ds) [] t s a = absurd a
  attended_seen (d ∷ ds) (e ∷ es) t s a = (a.0, a.1, a.2, a.3, a.4.1, attended_seen ds es a.2 a.3 a.5, a.6, a.7)

  pub failed_seen : (ds : List (Desk P L)) → list_any (λ (d : Desk P L). d.failed) ds ≡ has_failed
      (map (stand_of sight accepted faults) ds)
  failed_seen [] = refl
  failed_seen (d ∷ ds) = ap (λ (b : Bool). d.failed || b) (failed_seen ds)

-- ---- what a hand with every part knows

serves_as : (failed : Bool) (after : List Stand) → has_failed after ≡ failed
    → cond failed status.ListenerFault status.Done ≡ cond (has_failed after) status.ListenerFault status.Done
serves_as failed after is = rw is refl

pub serves_from : (connections all taken dry t s t0 s0 : ℕ) (before after : List Stand) (failed : Bool)
    → connections ≡ all → t0 ≡ 0 → s0 ≡ 0 → taken ≡ t0 + t → dry ≡ s0 + s
    → taken ≤ all → (0 < dry → taken ≡ all) → has_failed after ≡ failed → Attended Attends before after t s
    → Serves connections before after (cond failed status.ListenerFault status.Done)
serves_from connections all taken dry t s t0 s0 before after failed is t0s s0s ts ds most whole fails attended =
    record {
      taken = t;
      dry = s;
      attended = attended;
      most = omega (arith, is, t0s, ts, most);
      all = λ pos. let w = whole (omega (arith, s0s, ds, pos)) in omega (arith, is, t0s, ts, w);
      answer = serves_as failed after fails;
    }
