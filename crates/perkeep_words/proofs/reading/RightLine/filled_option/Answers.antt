use Rattle.std.proofs.Common.{◌∙◌, sym, subst}
use Rattle.perkeep_words.specs.Parts.{start, parts_from}
use Rattle.perkeep_words.specs.Reading.{LineSeen, NeedsOption}
use Rattle.perkeep_words.specs.declared.kinds.TextKind.TheVariants.{Name}
use Rattle.perkeep_words.proofs.Fitting.{option_filled}
use Rattle.perkeep_words.proofs.reading.RightLine.filled_option.Goals as goal

pub of-requires : goal.of-requires
of-requires c = λ e.
    option_filled (c.self.inside.name, parts_from start c.self.inside.behind.now) c.args.option.now c.self.invariant
    (subst (λ (l : LineSeen). NeedsOption l c.args.option.now Name) (sym c.self.view_is) c.requires)
    (sym c.value.ensures ∙ e)
