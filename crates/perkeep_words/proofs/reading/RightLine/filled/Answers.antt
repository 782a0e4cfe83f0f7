use Rattle.std.proofs.Common.{◌∙◌, sym, subst}
use Rattle.perkeep_words.specs.Parts.{start, parts_from}
use Rattle.perkeep_words.specs.Reading.{LineSeen, NeedsAt}
use Rattle.perkeep_words.specs.declared.kinds.TextKind.TheVariants.{Name}
use Rattle.perkeep_words.proofs.Fitting.{position_filled}
use Rattle.perkeep_words.proofs.reading.RightLine.filled.Goals as goal

pub of-requires : goal.of-requires
of-requires c = λ e.
    position_filled (c.self.inside.name, parts_from start c.self.inside.behind.now) c.args.place c.self.invariant
    (subst (λ (l : LineSeen). NeedsAt l c.args.place Name) (sym c.self.view_is) c.requires) (sym c.position.ensures ∙ e)
