-- What a listener's calls leave.
use Rattle.std.specs.Prelude.{◌≡◌, ◌↔◌, ◌⊎◌, ℕ, List, [], ◌∷◌, IsTrue, Result, Ok, Err, IsErr, OnErr, IfOk}
use Rattle.edge_base.specs.Edge.{one_more}
use Rattle.edge_base.specs.Calls.{Calls, fails_next, after_done, after_failed}

-- a connection is one more, and a failure none
abbrev pub Accepts : {T E : Type 0} → ℕ → ℕ → Result T E → Type 0
Accepts before now (Ok connection) = now ≡ one_more before
Accepts before now (Err error) = now ≡ before

-- a listener in memory: the connections that wait, how many were given, and its calls
pub record Queue (C : Type 0) : Type 0 where
  pub waiting : List C
  pub accepted : ℕ
  pub calls : Calls

-- the first connection that waits was given; the call failed exactly if it was to fail or none waited
pub record AcceptsNext {C E : Type 0} (before now : Queue C) (result : Result C E) : Type 0 where
  pub planned : IsErr result ↔ (IsTrue (fails_next before.calls) ⊎ (before.waiting ≡ []))
  pub ok : IfOk result (λ c. (before.waiting ≡ c ∷ now.waiting) × (now.calls ≡ after_done before.calls))
  pub err : OnErr result ((now.waiting ≡ before.waiting) × (now.calls ≡ after_failed before.calls))
