use Rattle.std.proofs.Common.{sym, ap, ◌∙◌}
use Rattle.std.specs.Map.{set_value}
use Rattle.std.specs.BTreeMap.{is_at}
use Rattle.std.specs.Ordering.{nat_cmp}
use Rattle.std.proofs.lemmas.Map.Steps.{set_value_same}
use Rattle.pack_disk.proofs.Steps.{on_err}
use Rattle.pack_disk.proofs.history.append_in.Goals as goal

pub returns-in-Some-clause-err : goal.returns-in-Some-clause-err
returns-in-Some-clause-err c =
    on_err c.append.result (λ same.
    (c.get_mut.follows.holds c.append.new.self).0 ∙ ap (set_value (is_at (nat_cmp c.args.pack)) c.args.held.now.entries) same
    ∙ set_value_same _ _ _ (sym c.in-Some.ensures.value)) c.append.ensures.err
