use Rattle.search_meets.proofs.kin.each_kin.Goals as goal

pub loop-r-init : goal.loop-r-init
loop-r-init g c = (c.new-out.ensures.items, c.nothing-known.ensures (g.K.Look.facts c.args.look.now))
