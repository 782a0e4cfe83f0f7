use Rattle.std.proofs.Common.{rules, All, sym, subst, ◌∙◌}
use Rattle.perkeep_cli.proofs.Desks.{all_desks}
use Rattle.perkeep_cli.proofs.serving.serve_home.Goals as goal

pub serve_all-requires-after_bounds : goal.serve_all-requires-after_bounds
serve_all-requires-after_bounds g c =
    let belongs = g.H.Home.belongs c.args.home.now in
    let all = all_desks belongs c.args.passes.items c.in-Ok.listeners.items c.requires in
    let same = c.deref_mut.ensures.value ∙ c.in-Ok-desks.ensures in
    let here = subst (λ ds. All (λ d. belongs d.pass) ds) (sym same) all in
    search (rules, here)
