use Rattle.std.proofs.Common.{◌≢◌, ap, sym, ◌∙◌, arith, le_refl}
use Rattle.std.specs.FinMap.{get}
use Rattle.std.specs.Option.{is_some}
use Rattle.pack_disk.proofs.Steps.{some_same, made_there, made_other}
use Rattle.fault_rows.proofs.world.add_pack.Goals as goal

pub make-requires-clause-absent : goal.make-requires-clause-absent
make-requires-clause-absent c x is =
    ap (λ packs. get packs c.args.number) (sym (some_same _ _ is)) ∙ c.requires.absent c.args.number (le_refl c.args.number)

pub append-requires : goal.append-requires
append-requires c x is =
    ap (λ packs. is_some (get packs c.args.number)) (sym (some_same _ _ is)) ∙ made_there _ _ c.args.number c.in_ok-make.ensures.made

pub returns-in_ok-sync : goal.returns-in_ok-sync
returns-in_ok-sync c n above =
    let other : n ≢ c.args.number = omega (arith, above) in
    ap (λ packs. get packs n) (some_same _ _ c.sync.ensures.told) ∙ c.append.ensures.told.0 n other
    ∙ made_other _ _ c.args.number n c.in_ok-make.ensures.made other ∙ c.requires.absent n (omega (arith, above))
