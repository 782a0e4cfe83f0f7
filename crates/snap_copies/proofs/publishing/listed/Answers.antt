use Rattle.std.proofs.Common.{◌≡◌, ◌∙◌, sym, ap, subst, true, [], ◌∷◌, ◌++◌}
use Rattle.histories.specs.declared.events.Insertion.{Insertion}
use Rattle.snap_copies.specs.Books.{insertion, is_fine}
use Rattle.snap_copies.proofs.publishing.listed.Goals as goal

pub pushed-requires-clause-fine : goal.pushed-requires-clause-fine
pushed-requires-clause-fine g c =
    let m = c.args.prepared.now.made in
    let same : insertion c.args.turn c.number.result c.r-r.result c.args.prepared.now.fact ≡ insertion c.args.turn m.0 m.1 m.2 =
    λ i. insertion c.args.turn (c.number.ensures i) (c.r-r.ensures i) (c.args.prepared.now.same i) in
    subst (λ (x : Insertion). is_fine (c.args.pusher.now.front.seen.log ++ x ∷ []) ≡ true) (sym same) c.requires.fine

pub returns-clause-log : goal.returns-clause-log
returns-clause-log g c =
    let m = c.args.prepared.now.made in
    let same : insertion c.args.turn c.number.result c.r-r.result c.args.prepared.now.fact ≡ insertion c.args.turn m.0 m.1 m.2 =
    λ i. insertion c.args.turn (c.number.ensures i) (c.r-r.ensures i) (c.args.prepared.now.same i) in
    c.pushed.ensures.log ∙ ap (λ (x : Insertion). c.args.pusher.now.front.seen.log ++ x ∷ []) same
