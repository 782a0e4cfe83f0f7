use Rattle.std.proofs.Common.{ap, sym, ◌∙◌}
use Rattle.std.specs.FinMap.{get}
use Rattle.std.specs.Option.{is_some}
use Rattle.pack_disk.proofs.Steps.{some_same, made_there, made_other}
use Rattle.store_tests.proofs.disks.written.Goals as goal

pub make-requires-clause-absent : goal.make-requires-clause-absent
make-requires-clause-absent c x is = ap (λ packs. get packs 4) (sym (some_same _ _ is)) ∙ c.in_ok-disk.ensures.absent 4 (λ e. cc e)

pub append-requires : goal.append-requires
append-requires c x is = ap (λ packs. is_some (get packs 4)) (sym (some_same _ _ is)) ∙ made_there _ _ 4 c.in_ok-make.ensures.made

pub append-requires-2 : goal.append-requires-2
append-requires-2 c x is =
    ap (λ packs. is_some (get packs 2)) (sym (some_same _ _ is)) ∙ ap is_some (c.append.ensures.told.0 2 (λ e. cc e) ∙ made_other _ _ 4 2 c.in_ok-make.ensures.made (λ e. cc e)) ∙ c.in_ok-disk.ensures.there
