use Rattle.pack_store.proofs.Held.{makes_clean}
use Rattle.pack_store.proofs.Moments.{keeps_make, tells_before, on_ok}
use Rattle.pack_store.proofs.Appending.{tells_map, makes_others, made_long, made_same, rows_make}
use Rattle.pack_store.proofs.adding.make_pack.Goals as goal

pub returns-clause-any_moment : goal.returns-clause-any_moment
returns-clause-any_moment g c =
    let disk = g.D.Disk in
    keeps_make disk g.met.D.Disk.counts_now g.met.D.Disk.only_now _ _ c.args.pack c.make.ensures.time c.make.ensures.crash

pub returns-clause-told : goal.returns-clause-told
returns-clause-told g c = tells_map _ _ _ _ (λ before now was is made. makes_others c.args.pack before now made) c.make.ensures.told

pub returns-clause-same : goal.returns-clause-same
returns-clause-same g c = on_ok c.make.result (λ made. tells_map _ _ _ _ (λ before now was is new. made_same c.args.pack before now (c.requires.absent before was) new) made) c.make.ensures.made

pub returns-clause-long : goal.returns-clause-long
returns-clause-long g c = on_ok c.make.result (λ made held is. let was = tells_before _ _ _ held made is in made_long c.args.pack was.0 held was.2) c.make.ensures.made

pub returns-clause-clean : goal.returns-clause-clean
returns-clause-clean g c = λ image is pack at. let from = c.make.ensures.crash image is in makes_clean c.args.pack from.0 image from.2 pack at

pub returns-clause-rows : goal.returns-clause-rows
returns-clause-rows g c = let disk = g.D.Disk in rows_make disk g.met.D.Disk.reads g.met.D.Disk.tells _ _ c.args.pack c.make.ensures.crash
