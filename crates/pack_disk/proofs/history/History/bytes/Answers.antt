use Rattle.std.proofs.Common.{◌≡◌, sym, ap, ◌∙◌, subst, Some, true}
use Rattle.std.specs.FinMap.{get}
use Rattle.std.specs.Option.{option_map, is_some}
use Rattle.pack_disk.specs.Past.{told}
use Rattle.pack_disk.proofs.Holding.{told_of, told_held}
use Rattle.pack_disk.proofs.history.History.bytes.Goals as goal

pub index-requires : goal.index-requires
index-requires c = told_held _ c.self.inside.held.entries c.self.invariant.shown c.args.pack (subst (λ past. is_some (get (told past) c.args.pack) ≡ true) (sym c.self.view_is) c.requires)

pub returns : goal.returns
returns c =
    subst (λ past. get (told past) c.args.pack ≡ Some c.as_slice.result.now) c.self.view_is
    (told_of _ c.self.inside.held.entries c.self.invariant.shown c.args.pack ∙ ap (option_map (λ p. p.now)) c.index.ensures ∙ ap Some (sym c.as_slice.ensures))
