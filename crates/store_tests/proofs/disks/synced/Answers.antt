use Rattle.std.proofs.Common.{ap, sym, ◌∙◌}
use Rattle.std.specs.FinMap.{get}
use Rattle.std.specs.Option.{is_some}
use Rattle.pack_disk.proofs.Steps.{some_same, made_there, made_other, nothing_told}
use Rattle.store_tests.proofs.disks.synced.Goals as goal

pub make-requires-clause-absent : goal.make-requires-clause-absent
make-requires-clause-absent c x is =
    ap (λ packs. get packs c.args.pack) (sym (some_same _ _ is)) ∙ nothing_told c.empty-disk.result.history c.args.pack c.empty-disk.ensures.past

pub append-requires : goal.append-requires
append-requires c x is =
    ap (λ packs. is_some (get packs c.args.pack)) (sym (some_same _ _ is)) ∙ made_there _ _ c.args.pack c.in_ok-make.ensures.made

pub returns-clause-there : goal.returns-clause-there
returns-clause-there c = ap (λ packs. is_some (get packs c.args.pack)) (some_same _ _ c.sync.ensures.told) ∙ c.append.ensures.told.1

pub returns-clause-absent : goal.returns-clause-absent
returns-clause-absent c n other =
    ap (λ packs. get packs n) (some_same _ _ c.sync.ensures.told) ∙ c.append.ensures.told.0 n other
    ∙ made_other _ _ c.args.pack n c.in_ok-make.ensures.made other ∙ nothing_told c.empty-disk.result.history n c.empty-disk.ensures.past
