use Rattle.std.proofs.Common.{◌++◌, ◌∙◌, ap, sym}
use Rattle.std.proofs.lemmas.Result.{on_ok_weaker}
use Rattle.pack_store.proofs.Shown.{places_kept}
use Rattle.pack_store.proofs.whole.FoundListTaker.take.Goals as goal

pub returns : goal.returns
returns c =
    on_ok_weaker c.add_all.result (λ is. is ∙ ap (λ l. c.args.self.now ++ l) (sym (places_kept c.args._scanner.now c.args.found.now c.requires.kept))) c.add_all.ensures
