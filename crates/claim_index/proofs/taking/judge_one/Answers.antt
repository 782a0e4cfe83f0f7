use Rattle.std.proofs.Common.{◌∷◌, [], ◌++◌, ℕ, List, sym, ap, subst, ◌∙◌, inl, inr, arith}
use Rattle.std.specs.FinMap.{contains_key}
use Rattle.claim_model.specs.Facts.{Facts}
use Rattle.std.proofs.lemmas.Result.{on_ok_weaker}
use Rattle.claim_index.proofs.AddTicks.{adds_nothing, adds_delete, adds_concerned, judged_signed}
use Rattle.index_meaning.specs.Touching.{concerned_by}
use Rattle.claim_index.specs.Halfway.{taken, IsHalfway, CanBeJudged}
use Rattle.claim_index.proofs.OneJudged.{can_judge, can_go_on, nothing_more, concerns_more, delete_more, judged_is}
use Rattle.claim_index.proofs.OneJudged.{others_are_no_delete, ok_then}
use Rattle.claim_index.specs.Costs.{AreTaken}
use Rattle.claim_index.proofs.OneFollowed.{judged_claim, half_taken, can_still, are_numbered, adds_taken, few_still}
use Rattle.claim_index.proofs.Marking.{keys_stay}
use Rattle.claim_index.proofs.Refolds.{IsSameBeside}
use Rattle.claim_index.proofs.LoneTicks.{judge_few, no_delete, no_permanode, free}
use Rattle.claim_index.specs.Additions.{IsAddedAlone}
use Rattle.claim_index.proofs.taking.judge_one.Goals as goal
use Rattle.index_rows.proofs.LooseFacts.{in_order}

pub returns-in-Nothing-clause-halfway : goal.returns-in-Nothing-clause-halfway
returns-in-Nothing-clause-halfway g c = λ left h can.
    let a = g.V.Verifier.accepts c.args.keys.now in
    let old = c.args.rows.now in
    let new = c.judge.new.rows in
    let e = c.in_ok-judge.ensures in
    let x = c.args.x.now in
    let work = c.args.work.now in
    let able = can_judge a old x left work.deletes work.concerned h can in
    subst (IsHalfway a left work.deletes work.concerned) (judged_is old new e.facts e.waiters e.deletes e.holders)
    (nothing_more a old x left work.deletes work.concerned h can new.state new.changes new.removals e.state e.changes
    (e.removals h.removals) (e.judged (taken old) left able h.judged) (e.changed (taken old) left able h.changed)
    (sym e.answer ∙ c.in-Nothing.is))

pub returns-in-Nothing-clause-reached : goal.returns-in-Nothing-clause-reached
returns-in-Nothing-clause-reached g c = λ left h can.
    let a = g.V.Verifier.accepts c.args.keys.now in
    let old = c.args.rows.now in
    let new = c.judge.new.rows in
    let e = c.in_ok-judge.ensures in
    let x = c.args.x.now in
    let work = c.args.work.now in
    let able = can_judge a old x left work.deletes work.concerned h can in
    subst (CanBeJudged left) (judged_is old new e.facts e.waiters e.deletes e.holders)
    (can_go_on a old x left work.deletes work.concerned h can new.state new.changes new.removals e.state e.changes
    (e.removals h.removals) (e.judged (taken old) left able h.judged) (e.changed (taken old) left able h.changed))

pub returns-in-Delete-clause-halfway : goal.returns-in-Delete-clause-halfway
returns-in-Delete-clause-halfway g c = ok_then c.push.result (λ pushed left h can.
    let a = g.V.Verifier.accepts c.args.keys.now in
    let old = c.args.rows.now in
    let new = c.judge.new.rows in
    let e = c.in_ok-judge.ensures in
    let x = c.args.x.now in
    let work = c.args.work.now in
    let able = can_judge a old x left work.deletes work.concerned h can in
    subst (λ (ds : List (List ℕ)). IsHalfway a left ds work.concerned new) (sym pushed)
    (subst (IsHalfway a left (work.deletes ++ x ∷ []) work.concerned)
    (judged_is old new e.facts e.waiters e.deletes e.holders)
    (delete_more a old x left work.deletes work.concerned h can new.state new.changes new.removals e.state e.changes
    (e.removals h.removals) (e.judged (taken old) left able h.judged) (e.changed (taken old) left able h.changed)
    (sym e.answer ∙ c.in-Delete.is)))) c.push.ensures.ok

pub returns-in-Delete-clause-reached : goal.returns-in-Delete-clause-reached
returns-in-Delete-clause-reached g c = ok_then c.push.result (λ pushed left h can.
    let a = g.V.Verifier.accepts c.args.keys.now in
    let old = c.args.rows.now in
    let new = c.judge.new.rows in
    let e = c.in_ok-judge.ensures in
    let x = c.args.x.now in
    let work = c.args.work.now in
    let able = can_judge a old x left work.deletes work.concerned h can in
    subst (CanBeJudged left) (judged_is old new e.facts e.waiters e.deletes e.holders)
    (can_go_on a old x left work.deletes work.concerned h can new.state new.changes new.removals e.state e.changes
    (e.removals h.removals) (e.judged (taken old) left able h.judged) (e.changed (taken old) left able h.changed)))
    c.push.ensures.ok

pub returns-in-Permanode-clause-halfway : goal.returns-in-Permanode-clause-halfway
returns-in-Permanode-clause-halfway g c = ok_then c.concern.result (λ added left h can.
    let a = g.V.Verifier.accepts c.args.keys.now in
    let old = c.args.rows.now in
    let new = c.judge.new.rows in
    let e = c.in_ok-judge.ensures in
    let x = c.args.x.now in
    let work = c.args.work.now in
    let able = can_judge a old x left work.deletes work.concerned h can in
    subst (λ (cs : List (List ℕ)). IsHalfway a left work.deletes cs new)
    (ap (λ facts. work.concerned ++ concerned_by facts new.state x) (sym (in_order e.facts)) ∙ sym added)
    (subst (IsHalfway a left work.deletes (work.concerned ++ concerned_by old.facts.ordered new.state x))
    (judged_is old new e.facts e.waiters e.deletes e.holders)
    (concerns_more a old x left work.deletes work.concerned h can new.state new.changes new.removals e.state e.changes
    (e.removals h.removals) (e.judged (taken old) left able h.judged) (e.changed (taken old) left able h.changed)
    (λ d. others_are_no_delete (inl c.in-Permanode.is) (e.answer ∙ d))))) c.concern.ensures.added

pub returns-in-Permanode-clause-reached : goal.returns-in-Permanode-clause-reached
returns-in-Permanode-clause-reached g c = ok_then c.concern.result (λ added left h can.
    let a = g.V.Verifier.accepts c.args.keys.now in
    let old = c.args.rows.now in
    let new = c.judge.new.rows in
    let e = c.in_ok-judge.ensures in
    let x = c.args.x.now in
    let work = c.args.work.now in
    let able = can_judge a old x left work.deletes work.concerned h can in
    subst (CanBeJudged left) (judged_is old new e.facts e.waiters e.deletes e.holders)
    (can_go_on a old x left work.deletes work.concerned h can new.state new.changes new.removals e.state e.changes
    (e.removals h.removals) (e.judged (taken old) left able h.judged) (e.changed (taken old) left able h.changed)))
    c.concern.ensures.added

pub returns-in-Nothing-clause-adds : goal.returns-in-Nothing-clause-adds
returns-in-Nothing-clause-adds g c = adds_nothing c.args.rows.now.facts.ordered (g.V.Verifier.accepts c.args.keys.now)
    c.args.x.now c.args.work.now.deletes c.args.work.now.concerned

pub returns-in-Delete-clause-adds : goal.returns-in-Delete-clause-adds
returns-in-Delete-clause-adds g c = on_ok_weaker c.push.result
    (adds_delete c.args.rows.now.facts.ordered (g.V.Verifier.accepts c.args.keys.now) c.args.x.now
    c.args.work.now.deletes c.args.work.now.concerned _) c.push.ensures.ok

pub returns-in-Permanode-clause-adds : goal.returns-in-Permanode-clause-adds
returns-in-Permanode-clause-adds g c =
    let facts = c.args.rows.now.facts.ordered in
    let a = g.V.Verifier.accepts c.args.keys.now in
    let x = c.args.x.now in
    on_ok_weaker c.concern.result
    (λ added. adds_concerned facts a x c.args.work.now.deletes c.args.work.now.concerned
    (judged_signed facts a x _ c.in_ok-judge.ensures.answer (inl c.in-Permanode.is))
    c.judge.new.rows.facts.ordered c.judge.new.rows.state _ (in_order c.in_ok-judge.ensures.facts) added)
    c.concern.ensures.added

pub take_changes-requires : goal.take_changes-requires
take_changes-requires g c = λ alone.
    let a = g.V.Verifier.accepts c.args.keys.now in
    let old = c.args.rows.now in
    let new = c.judge.new.rows in
    let e = c.in_ok-judge.ensures in
    let x = c.args.x.now in
    let work = c.args.work.now in
    let next = c.requires alone in
    let able = can_judge a old x next.0 work.deletes work.concerned next.1 next.2 in
    let judged = judged_claim a old x next.0 work.deletes work.concerned next.1 next.2 new.state new.changes
    new.removals e.state e.changes
    (e.removals next.1.removals) (e.judged (taken old) next.0 able next.1.judged)
    (e.changed (taken old) next.0 able next.1.changed) (sym e.answer ∙ c.in-Changes.is)
    new (judged_is old new e.facts e.waiters e.deletes e.holders) in
    judged.able

pub returns-in-Changes-clause-halfway : goal.returns-in-Changes-clause-halfway
returns-in-Changes-clause-halfway g c = ok_then c.take_changes.result (λ done left h can.
    let a = g.V.Verifier.accepts c.args.keys.now in
    let old = c.args.rows.now in
    let new = c.judge.new.rows in
    let e = c.in_ok-judge.ensures in
    let x = c.args.x.now in
    let work = c.args.work.now in
    let able = can_judge a old x left work.deletes work.concerned h can in
    let judged = judged_claim a old x left work.deletes work.concerned h can new.state new.changes new.removals
    e.state e.changes
    (e.removals h.removals) (e.judged (taken old) left able h.judged) (e.changed (taken old) left able h.changed)
    (sym e.answer ∙ c.in-Changes.is)
    new (judged_is old new e.facts e.waiters e.deletes e.holders) in
    let t = c.take_changes.ensures in
    let same : IsSameBeside new c.take_changes.new.rows = record {
      facts = t.facts;
      state = t.state;
      waiters = t.waiters;
      deletes = t.deletes;
      changes = t.changes;
      removals =
          t.removals;
    } in
    half_taken a left work.deletes new c.take_changes.new.rows same old work.concerned _ x judged done)
    c.take_changes.ensures.taken

pub returns-in-Changes-clause-reached : goal.returns-in-Changes-clause-reached
returns-in-Changes-clause-reached g c = ok_then c.take_changes.result (λ done left h can.
    let a = g.V.Verifier.accepts c.args.keys.now in
    let old = c.args.rows.now in
    let new = c.judge.new.rows in
    let e = c.in_ok-judge.ensures in
    let x = c.args.x.now in
    let work = c.args.work.now in
    let able = can_judge a old x left work.deletes work.concerned h can in
    let t = c.take_changes.ensures in
    let same : IsSameBeside new c.take_changes.new.rows = record {
      facts = t.facts;
      state = t.state;
      waiters = t.waiters;
      deletes = t.deletes;
      changes = t.changes;
      removals =
          t.removals;
    } in
    can_still a left work.deletes new c.take_changes.new.rows same
    (subst (CanBeJudged left) (judged_is old new e.facts e.waiters e.deletes e.holders)
    (can_go_on a old x left work.deletes work.concerned h can new.state new.changes new.removals e.state e.changes
    (e.removals h.removals) (e.judged (taken old) left able h.judged) (e.changed (taken old) left able h.changed))))
    c.take_changes.ensures.taken

pub returns-in-Changes-clause-adds : goal.returns-in-Changes-clause-adds
returns-in-Changes-clause-adds g c =
    let facts = c.args.rows.now.facts.ordered in
    let a = g.V.Verifier.accepts c.args.keys.now in
    let x = c.args.x.now in
    on_ok_weaker c.take_changes.result
    (adds_taken facts a x c.args.work.now.deletes c.args.work.now.concerned
    (judged_signed facts a x _ c.in_ok-judge.ensures.answer (inr c.in-Changes.is))
    c.judge.new.rows c.take_changes.new.rows.holders _ (in_order c.in_ok-judge.ensures.facts))
    c.take_changes.ensures.taken

pub returns-in-Changes-clause-ticks : goal.returns-in-Changes-clause-ticks
returns-in-Changes-clause-ticks g c = λ one.
    let t = c.take_changes.ensures.ticks one in
    let j = c.judge.ensures.ticks in
    omega (arith, t, j)

pub returns-in-Changes-clause-more_ticks : goal.returns-in-Changes-clause-more_ticks
returns-in-Changes-clause-more_ticks g c = λ h can all n few.
    let a = g.V.Verifier.accepts c.args.keys.now in
    let old = c.args.rows.now in
    let new = c.judge.new.rows in
    let e = c.in_ok-judge.ensures in
    let x = c.args.x.now in
    let work = c.args.work.now in
    let able = can_judge a old x [] work.deletes work.concerned h can in
    let judged = judged_claim a old x [] work.deletes work.concerned h can new.state new.changes new.removals e.state
    e.changes
    (e.removals h.removals) (e.judged (taken old) [] able h.judged) (e.changed (taken old) [] able h.changed)
    (sym e.answer ∙ c.in-Changes.is)
    new (judged_is old new e.facts e.waiters e.deletes e.holders) in
    let still : AreTaken new = λ y. keys_stay old.facts.ordered a old.state new.state x e.state y ∙ all y
    ∙ ap (λ (f : Facts). contains_key f y) (sym (in_order e.facts)) in
    let t = c.take_changes.ensures.more_ticks n (are_numbered a new still judged.more.changed x n
    (λ p u. few_still a old.facts.ordered new.facts.ordered (in_order e.facts) x n few p u)) in
    let j = c.judge.ensures.ticks in
    omega (arith, t, j)

pub returns-in_err-judge-clause-few_ticks : goal.returns-in_err-judge-clause-few_ticks
returns-in_err-judge-clause-few_ticks g c = λ alone last.
    let few = judge_few c.args.rows.now.facts.ordered (g.V.Verifier.accepts c.args.keys.now) c.args.x.now last.adds in
    omega (arith, few, c.judge.ensures.ticks)

pub returns-in-Nothing-clause-few_ticks : goal.returns-in-Nothing-clause-few_ticks
returns-in-Nothing-clause-few_ticks g c = λ alone last.
    let few = judge_few c.args.rows.now.facts.ordered (g.V.Verifier.accepts c.args.keys.now) c.args.x.now last.adds in
    omega (arith, few, c.judge.ensures.ticks)

pub returns-in-Delete-clause-few_ticks : goal.returns-in-Delete-clause-few_ticks
returns-in-Delete-clause-few_ticks g c = λ alone last.
    let few = judge_few c.args.rows.now.facts.ordered (g.V.Verifier.accepts c.args.keys.now) c.args.x.now last.adds in
    omega (arith, few, c.judge.ensures.ticks)

pub returns-in-Permanode-clause-few_ticks : goal.returns-in-Permanode-clause-few_ticks
returns-in-Permanode-clause-few_ticks g c = λ alone last.
    absurd (no_permanode c.args.rows.now.facts.ordered (g.V.Verifier.accepts c.args.keys.now) c.args.x.now last.adds
    (sym c.in_ok-judge.ensures.answer ∙ c.in-Permanode.is))

pub returns-in-Delete-clause-idle : goal.returns-in-Delete-clause-idle
returns-in-Delete-clause-idle g c = λ alone last none.
    absurd (no_delete c.args.rows.now.facts.ordered (g.V.Verifier.accepts c.args.keys.now) c.args.x.now last.adds
    (sym c.in_ok-judge.ensures.answer ∙ c.in-Delete.is))

pub returns-in-Permanode-clause-idle : goal.returns-in-Permanode-clause-idle
returns-in-Permanode-clause-idle g c = λ alone last none.
    absurd (no_permanode c.args.rows.now.facts.ordered (g.V.Verifier.accepts c.args.keys.now) c.args.x.now last.adds
    (sym c.in_ok-judge.ensures.answer ∙ c.in-Permanode.is))

pub returns-in-Changes-clause-few_ticks : goal.returns-in-Changes-clause-few_ticks
returns-in-Changes-clause-few_ticks g c = λ alone last.
    let a = g.V.Verifier.accepts c.args.keys.now in
    let old = c.args.rows.now in
    let new = c.judge.new.rows in
    let e = c.in_ok-judge.ensures in
    let x = c.args.x.now in
    let work = c.args.work.now in
    let h = last.halfway in
    let able = can_judge a old x [] work.deletes work.concerned h last.able in
    let judged = judged_claim a old x [] work.deletes work.concerned h last.able new.state new.changes new.removals
    e.state e.changes
    (e.removals h.removals) (e.judged (taken old) [] able h.judged) (e.changed (taken old) [] able h.changed)
    (sym e.answer ∙ c.in-Changes.is)
    new (judged_is old new e.facts e.waiters e.deletes e.holders) in
    let still : AreTaken new = λ y. keys_stay old.facts.ordered a old.state new.state x e.state y ∙ last.taken y
    ∙ ap (λ (f : Facts). contains_key f y) (sym (in_order e.facts)) in
    let it : IsAddedAlone new.facts.ordered a x
    = subst (λ (f : Facts). IsAddedAlone f a x) (sym (in_order e.facts)) last.adds in
    let is_free = free a new x it still judged.more.changed judged.more.removals in
    let few = judge_few old.facts.ordered a x last.adds in
    let t = c.take_changes.ensures.few_ticks alone is_free in
    omega (arith, few, t, c.judge.ensures.ticks)

pub returns-in-Changes-clause-idle : goal.returns-in-Changes-clause-idle
returns-in-Changes-clause-idle g c = λ alone last none.
    let a = g.V.Verifier.accepts c.args.keys.now in
    let old = c.args.rows.now in
    let new = c.judge.new.rows in
    let e = c.in_ok-judge.ensures in
    let x = c.args.x.now in
    let work = c.args.work.now in
    let h = last.halfway in
    let able = can_judge a old x [] work.deletes work.concerned h last.able in
    let judged = judged_claim a old x [] work.deletes work.concerned h last.able new.state new.changes new.removals
    e.state e.changes
    (e.removals h.removals) (e.judged (taken old) [] able h.judged) (e.changed (taken old) [] able h.changed)
    (sym e.answer ∙ c.in-Changes.is)
    new (judged_is old new e.facts e.waiters e.deletes e.holders) in
    let still : AreTaken new = λ y. keys_stay old.facts.ordered a old.state new.state x e.state y ∙ last.taken y
    ∙ ap (λ (f : Facts). contains_key f y) (sym (in_order e.facts)) in
    let it : IsAddedAlone new.facts.ordered a x
    = subst (λ (f : Facts). IsAddedAlone f a x) (sym (in_order e.facts)) last.adds in
    let is_free = free a new x it still judged.more.changed judged.more.removals in
    on_ok_weaker c.take_changes.result
    (λ same. record { none_deleted = none.none_deleted; none_concerned = same ∙ none.none_concerned })
    (c.take_changes.ensures.same alone is_free)
