use Rattle.std.proofs.Common.{◌∙◌}
use Rattle.perkeep_top.proofs.Arrived.{sized_as}
use Rattle.perkeep_top.proofs.Sizes.{line_of_size, none_of_size}
use Rattle.perkeep_top.proofs.commands.stat.line_of.Goals as goal

pub returns-in_ok-size_line-in-Some-clause-line : goal.returns-in_ok-size_line-in-Some-clause-line
returns-in_ok-size_line-in-Some-clause-line g c =
    line_of_size (g.D.Disk.packs c.args.store.now.disk) c.args.r.now c.args.store.now c.stat.result c.stat.ensures
    (λ held tells. c.stat.ensures ∙ sized_as c.args.r.now held c.args.store.now.rows (c.requires.arrived held tells) (c.arrivals_are_held.ensures.sized held tells))
    c.in-Some.size c.in-Some.is c.in_ok-size_line-in-Some.field-0 c.in_ok-size_line-in-Some.ensures

pub returns-in-None-clause-refused : goal.returns-in-None-clause-refused
returns-in-None-clause-refused g c =
    none_of_size (g.D.Disk.packs c.args.store.now.disk) c.args.r.now c.args.store.now c.stat.result c.stat.ensures
    (λ held tells. c.stat.ensures ∙ sized_as c.args.r.now held c.args.store.now.rows (c.requires.arrived held tells) (c.arrivals_are_held.ensures.sized held tells))
    c.in-None.is
