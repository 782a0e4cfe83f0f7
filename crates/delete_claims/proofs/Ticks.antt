-- The steps of counts that change from target to target.
use Rattle.std.proofs.Common.{◌≡◌, ◌≤◌, ◌<◌, ◌+◌, ◌*◌, ℕ, zero, suc, Bool, true, false, not, cond, List, [], ◌∷◌, ◌++◌, length, Option, None, Some, ℤ, refl, sym, ap, ◌∙◌, arith, append_assoc}
use Rattle.std.proofs.lemmas.Bool.{false≢true}
use Rattle.std.specs.FinMap.{len, get, insert}
use Rattle.claim_model.specs.Facts.{Facts}
use Rattle.claim_model.specs.Ready.{round, is_ready}
use Rattle.schema_fact.specs.declared.kinds.Fact.{Fact}
use Rattle.schema_fact.specs.declared.kinds.What.{What}
use Rattle.schema_fact.specs.declared.kinds.What.TheVariants.{Set, Add, Del, Delete, Multi}
use Rattle.schema_fact.specs.declared.kinds.Kind.{Kind}
use Rattle.schema_fact.specs.declared.kinds.Kind.TheVariants.{Plain, Key, File, Bytes, Directory, StaticSet, Permanode, Claim, Unread}
use Rattle.index_rows.specs.Deletes.{Deletes, target_in, fact_target, kind_target, what_target, row_stands}
use Rattle.index_rows.specs.Touched.{chain_within, targets_from}
use Rattle.index_rows.proofs.Counting.{bit}
use Rattle.delete_claims.specs.Flipping.{IsFront}
use Rattle.delete_claims.specs.Entered.{what_delete, kind_delete, fact_delete, delete_in, put_row, entered_targets}
use Rattle.delete_claims.proofs.Rounds.{late}

-- from the first target to this one four steps for each, where what is left is looked at deep enough
pub record HasTicked (facts : Facts) (counts : List ℕ → Bool) (start : List ℕ) (first : ℕ) (changed : List (List ℕ)) (at : List ℕ) (now : ℕ) : Type 0 where
  pub depth : ℕ
  pub enough : late facts (len facts) at ≤ depth
  -- those that were turned are all before it
  pub walked : changed ++ chain_within facts counts depth at ≡ targets_from facts counts start
  pub ticks : now + 4 * length (chain_within facts counts depth at) ≤ first + 4 * length (targets_from facts counts start)

-- what is ready is late by one round at least
late_some : (facts : Facts) (y : List ℕ) (n : ℕ) → round facts n y ≡ true → 1 ≤ late facts n y
late_some facts y zero h = absurd (false≢true h)
late_some facts y (suc n) h = by (round facts n y) refl (late_some facts y n)
  where
    by : (b : Bool) → round facts n y ≡ b → (round facts n y ≡ true → 1 ≤ late facts n y) → 1 ≤ bit (not b) + late facts n y
    by true e more = let m = more e in omega (arith, m)
    by false e more = omega arith

late_at_most : (facts : Facts) (y : List ℕ) (n : ℕ) → late facts n y ≤ n
late_at_most facts y zero = omega arith
late_at_most facts y (suc n) = let m = late_at_most facts y n in let b = one (round facts n y) in omega (arith, m, b)
  where
    one : (b : Bool) → bit (not b) ≤ 1
    one true = omega arith
    one false = omega arith

pub first_ticks : (facts : Facts) (counts : List ℕ → Bool) (start : List ℕ) (first : ℕ) (changed : List (List ℕ)) → changed ≡ [] → HasTicked facts counts start first changed start first
first_ticks facts counts start first changed none = record {
  depth = len facts;
  enough = late_at_most facts start (len facts);
  walked = ap (λ c. c ++ targets_from facts counts start) none;
  ticks = omega arith;
}

module _ (facts : Facts) (counts : List ℕ → Bool) (start : List ℕ) (first : ℕ) (changed : List (List ℕ)) (at : List ℕ) (now : ℕ) (is : HasTicked facts counts start first changed at now) where
  pub front_here : IsFront changed (targets_from facts counts start)
  front_here = (chain_within facts counts is.depth at, is.walked)

  -- the list with this one more
  module _ (n : ℕ) (changed' : List (List ℕ)) (more : changed' ≡ changed ++ at ∷ []) where
    on : changed ++ chain_within facts counts (suc n) at ≡ targets_from facts counts start
        → changed' ++ cond (counts at) (chain_within facts counts n (target_in facts at)) [] ≡ targets_from facts counts start
    on h = ap (λ c. c ++ cond (counts at) (chain_within facts counts n (target_in facts at)) []) more
        ∙ append_assoc changed (at ∷ []) (cond (counts at) (chain_within facts counts n (target_in facts at)) []) ∙ h

  pub front_more : is_ready facts at ≡ true → (changed' : List (List ℕ)) → changed' ≡ changed ++ at ∷ [] → IsFront changed' (targets_from facts counts start)
  front_more ready changed' more = by is.depth is.enough is.walked
    where
      by : (n : ℕ) → late facts (len facts) at ≤ n → changed ++ chain_within facts counts n at ≡ targets_from facts counts start → IsFront changed' (targets_from facts counts start)
      by zero few t = let some = late_some facts at (len facts) ready in absurd (omega (arith, few, some))
      by (suc n) few t = (cond (counts at) (chain_within facts counts n (target_in facts at)) [], on n changed' more t)

  -- the last turn takes four steps at most
  pub last_ticks : is_ready facts at ≡ true → (last : ℕ) → last ≤ now + 4 → last ≤ first + 4 * length (targets_from facts counts start)
  last_ticks ready last le = by is.depth is.enough is.ticks
    where
      by : (n : ℕ) → late facts (len facts) at ≤ n → now + 4 * length (chain_within facts counts n at) ≤ first + 4 * length (targets_from facts counts start)
          → last ≤ first + 4 * length (targets_from facts counts start)
      by zero few t = let some = late_some facts at (len facts) ready in absurd (omega (arith, few, some))
      by (suc n) few t = omega (arith, le, t)

  -- and so does each turn that goes on
  pub next_ticks : counts at ≡ true → (target : List ℕ) → target ≡ target_in facts at → late facts (len facts) target < late facts (len facts) at
      → (next : ℕ) → next ≤ now + 4 → (changed' : List (List ℕ)) → changed' ≡ changed ++ at ∷ [] → HasTicked facts counts start first changed' target next
  next_ticks stands target is_target falls next le changed' more = by is.depth is.enough is.walked is.ticks
    where
      by : (n : ℕ) → late facts (len facts) at ≤ n → changed ++ chain_within facts counts n at ≡ targets_from facts counts start
          → now + 4 * length (chain_within facts counts n at) ≤ first + 4 * length (targets_from facts counts start)
          → HasTicked facts counts start first changed' target next
      by zero few w t = absurd (omega (arith, few, falls))
      by (suc n) few w t = record {
        depth = n;
        enough = omega (arith, few, falls);
        walked = ap (λ z. changed' ++ chain_within facts counts n z) is_target
            ∙ ap (λ b. changed' ++ cond b (chain_within facts counts n (target_in facts at)) []) (sym stands) ∙ on n changed' more w;
        ticks =
            let same : length (cond (counts at) (chain_within facts counts n (target_in facts at)) []) ≡ length (chain_within facts counts n target)
            = ap (λ b. length (cond b (chain_within facts counts n (target_in facts at)) [])) stands ∙ ap (λ z. length (chain_within facts counts n z)) (sym is_target) in
            omega (arith, le, t, same);
      }

-- ---- the targets of a claim whose row was put

module _ (d target : List ℕ) (date : ℤ) where
  of_what : (at : ℤ) (what : What) → Some (target, date) ≡ what_delete at what → target ≡ what_target d what
  of_what at (Set on attr value) h = absurd (let e : Some (target, date) ≡ None = h in cc e)
  of_what at (Add on attr value) h = absurd (let e : Some (target, date) ≡ None = h in cc e)
  of_what at (Del on attr value) h = absurd (let e : Some (target, date) ≡ None = h in cc e)
  of_what at (Delete other) h = ap first h
    where
      first : Option (List ℕ × ℤ) → List ℕ
      first None = target
      first (Some x) = x.0
  of_what at (Multi changes) h = absurd (let e : Some (target, date) ≡ None = h in cc e)

  of_kind : (kind : Kind) → Some (target, date) ≡ kind_delete kind → target ≡ kind_target d kind
  of_kind Plain h = absurd (let e : Some (target, date) ≡ None = h in cc e)
  of_kind (Key name) h = absurd (let e : Some (target, date) ≡ None = h in cc e)
  of_kind (File name parts) h = absurd (let e : Some (target, date) ≡ None = h in cc e)
  of_kind (Bytes parts) h = absurd (let e : Some (target, date) ≡ None = h in cc e)
  of_kind (Directory name entries) h = absurd (let e : Some (target, date) ≡ None = h in cc e)
  of_kind (StaticSet members) h = absurd (let e : Some (target, date) ≡ None = h in cc e)
  of_kind (Permanode signed) h = absurd (let e : Some (target, date) ≡ None = h in cc e)
  of_kind (Claim signed at what) h = of_what at what h
  of_kind (Unread name) h = absurd (let e : Some (target, date) ≡ None = h in cc e)

  of_fact : (o : Option Fact) → Some (target, date) ≡ fact_delete o → target ≡ fact_target d o
  of_fact None h = absurd (let e : Some (target, date) ≡ None = h in cc e)
  of_fact (Some fact) h = of_kind fact.kind h

  pub entered_is : (facts : Facts) (deletes put : Deletes) → Some (target, date) ≡ delete_in facts d → put ≡ insert deletes (target, d) date
      → targets_from facts (row_stands facts put) target ≡ entered_targets facts deletes d
  entered_is facts deletes put found is = λ i. targets_from facts (row_stands facts ((is ∙ ap (put_row deletes d) found) i)) (of_fact (get facts d) found i)
