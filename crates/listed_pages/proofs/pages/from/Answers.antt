use Rattle.std.proofs.Common.{◌∙◌, ◌-◌, length, drop, ap, arith}
use Rattle.std.proofs.lemmas.List.{length-drop, take_all}
use Rattle.listed_pages.proofs.pages.from.Goals as goal

pub returns : goal.returns
returns c =
    let page = c.args.page.now in
    let n = c.count_before.result in
    take_all (length page - n) (drop n page) (omega (arith, length-drop n page))
    ∙ ap (λ k. drop k page) c.count_before.ensures.count
