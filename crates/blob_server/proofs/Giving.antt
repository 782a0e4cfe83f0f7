-- What a worker leaves, connection by connection.
use Rattle.std.proofs.Common.{◌≡◌, ℕ, ◌+◌, ◌≤◌, ◌⊎◌, inl, inr, ⊎_elim, true, false, refl, sym, subst, ◌∙◌, arith}
use Rattle.std.proofs.Common.{Option, Some, None}
use Rattle.std.specs.Option.{option_map}
use Rattle.edge_base.specs.Edge.{FaultsRose, one_more}
use Rattle.home_places.specs.Passes.{Sight}
use Rattle.blob_http.specs.Serving.{Longer}
use Rattle.index_worker.specs.Works.{Works}
use Rattle.blob_server.specs.Stands.{Counts, Gives, GivesBy, IsGiven, last_count}

-- while a worker goes on: so many connections were taken and accepted
pub record Goes (before now : Counts) (taken : ℕ) : Type 0 where
  pub later : before.faults ≤ now.faults
  pub most : now.accepted ≤ before.accepted + taken
  pub given : IsGiven before.accepted now.accepted taken

pub goes_none : (c : Counts) → Goes c c 0
goes_none c = record { later = omega arith; most = omega arith; given = inl (omega arith) }

one_more_is : (b : ℕ) → (one_more b ≡ b + 1) ⊎ (one_more b ≡ last_count)
one_more_is b = grind arith

given_more : (a b c k : ℕ) → c ≡ one_more b → IsGiven a b k → IsGiven a c (k + 1)
given_more a b c k is (inl p) = ⊎_elim (λ (e : one_more b ≡ b + 1). inl (omega (arith, is, p, e)))
    (λ (e : one_more b ≡ last_count). inr (is ∙ e)) (one_more_is b)
given_more a b c k is (inr p) = inr (omega (arith, is, p))

-- one connection more was taken and accepted
pub goes_more : (a b c : Counts) (k : ℕ) → b.faults ≤ c.faults → c.accepted ≡ one_more b.accepted → Goes a b k
    → Goes a c (k + 1)
goes_more a b c k later is g = record {
  later = omega (arith, later, g.later);
  most = let m = g.most in omega (arith, is, m);
  given = given_more a.accepted b.accepted c.accepted k is g.given;
}

-- none was left to take
pub goes_dry : (a b : Counts) (k : ℕ) → Goes a b k → Gives a b false k 1
goes_dry a b k g = record {
  later = g.later;
  most = g.most;
  all = (k, (let zero : k ≡ k + 0 = omega arith in zero), g.given);
  done = λ e. omega arith;
  fails = λ e. absurd (cc e);
}

-- an accept failed
pub goes_fails : (a b c : Counts) (k : ℕ) → b.faults ≤ c.faults → c.accepted ≡ b.accepted
    → FaultsRose b.faults c.faults → Goes a b k → Gives a c true (k + 1) 0
goes_fails a b c k later same rose g = record {
  later = omega (arith, later, g.later);
  most = let m = g.most in omega (arith, same, m);
  all = (k, refl, subst (λ (n : ℕ). IsGiven a.accepted n k) (sym same) g.given);
  done = λ e. absurd (cc e);
  fails = λ e. let l = g.later in omega (arith, rose, l);
}

-- what a worker of the index adds
pub works_longer : (n i : ℕ) (v w : Sight) → Works n i v w → Longer v w
works_longer n i v w works = record {
  store = works.store.longer;
  turns = (works.store.further, sym works.store.drawn);
  later = works.store.later;
  index = works.index.longer;
  shown = works.shown;
  limits = works.limits;
  accepts = works.accepts;
}

-- an indexer
pub gives_none : {L : Type 0} (counts : L → Counts) (listener : Option L) → listener ≡ None
    → GivesBy (option_map counts listener) (option_map counts listener) false 0 0
gives_none counts None is = (refl, refl, refl)
gives_none counts (Some l) is = absurd (cc is)
