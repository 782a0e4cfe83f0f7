use Rattle.std.proofs.Common.{ap, sym, ◌∙◌}
use Rattle.std.specs.FinMap.{get}
use Rattle.std.specs.Option.{is_some}
use Rattle.pack_disk.proofs.Steps.{some_same, made_there}
use Rattle.server_tests.proofs.shares.add_pack.Goals as goal

pub append-requires : goal.append-requires
append-requires c x is =
    ap (λ packs. is_some (get packs 0)) (sym (some_same _ _ is)) ∙ made_there _ _ 0 c.in_ok-make.ensures.made
