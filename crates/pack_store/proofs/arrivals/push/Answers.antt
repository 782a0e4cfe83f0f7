use Rattle.std.proofs.Common.{◌∙◌, ap, sym}
use Rattle.std.specs.FinMap.{get}
use Rattle.std.specs.FinMap as finite
use Rattle.pack_store.specs.Rows.{number_of}
use Rattle.pack_store.proofs.Numbers.{placed_push}
use Rattle.pack_store.proofs.arrivals.push.Goals as goal

pub returns-clause-placed : goal.returns-clause-placed
returns-clause-placed c = λ r.
    ap (λ m. get m r) (c.in_ok-insert.ensures.ok ∙ ap (finite.insert c.args.places.now c.args.row.r) (c.len.ensures ∙ c.args.rows.now.ok.0))
    ∙ placed_push c.args.places.now c.args.rows.now.items c.args.row c.requires.placed c.requires.absent r ∙ ap (number_of r) (sym c.in_ok-push.ensures.items)
