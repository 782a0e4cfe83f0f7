use Rattle.std.proofs.Common.{◌∙◌, ap, flat_map, option_copied}
use Rattle.std.proofs.lemmas.Result.{IfOk-weaker}
use Rattle.perkeep_lines.specs.Outputs.{size_line}
use Rattle.perkeep_top.specs.ListRefs.{IsListing}
use Rattle.perkeep_top.proofs.Arrived.{listed_as}
use Rattle.perkeep_top.proofs.commands.list.lines_of.Goals as goal

pub returns : goal.returns
returns g c =
    IfOk-weaker c.size_lines.result _ (IsListing c.args.store.now (option_copied c.args.after) c.args.limit (g.D.Disk.packs c.args.store.now.disk))
    (λ lines made. record {
      is = made ∙ ap (flat_map size_line) c.in_ok-page.ensures;
      stands = λ held tells. made ∙ ap (flat_map size_line) (c.in_ok-page.ensures
          ∙ listed_as (option_copied c.args.after) c.args.limit held c.args.store.now.rows (c.requires.arrived held tells) (c.arrivals_are_held.ensures.sized held tells));
    })
    c.size_lines.ensures
