use Rattle.std.proofs.Common.{rules, ap, sym, ◌∙◌}
use Rattle.turn_cell.proofs.Leaving.{leaves, left_empty}
use Rattle.turn_cell.proofs.turn.Turn.end.Goals as goal

pub load-requires : goal.load-requires
load-requires g c =
    let held = c.requires.held in
    let seat = c.args.seat in (
      c.requires.own,
      search rules,
      leaves g.T.Told.about g.T.Told.tells _ seat.id seat.me held.0 held.1 held.2,
    )

pub unreachable-requires : goal.unreachable-requires
unreachable-requires g c =
    let held = c.requires.held in
    let seat = c.load.new.seat in
    let stage = ap (λ m. m.0.stage) (c.load.ensures.2 held.0 held.1 held.2) in
    let none = left_empty g.T.Told.about g.T.Told.tells seat.id held.0 seat.me.0 _ _ c.take.result stage c.close_with-closed.ensures.values.2 c.take.ensures.value in
    absurd (cc (sym c.in-Some.is ∙ none))
