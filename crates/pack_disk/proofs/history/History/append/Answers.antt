use Rattle.std.proofs.Common.{ap, ◌∙◌, ◌++◌, ◌∷◌, []}
use Rattle.pack_disk.specs.declared.history.Call.TheVariants.{Append}
use Rattle.pack_disk.proofs.Holding.{held_after}
use Rattle.pack_disk.proofs.history.History.append.Goals as goal

pub invariant_of-self-in_default : goal.invariant_of-self-in_default
invariant_of-self-in_default c =
    held_after _ _ _ (Append c.args.pack c.args.bytes.now) _ _ tt c.self.invariant
    (c.in_ok-push.ensures.items ∙ ap (λ bytes. c.self.inside.done.items ++ Append c.args.pack bytes ∷ []) c.in_ok-added.ensures) c.in_default.ensures.ok
