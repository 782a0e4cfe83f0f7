use Rattle.std.proofs.Common.{◌≡◌, List, ℕ, true, is_some, sym, subst}
use Rattle.perkeep_words.specs.Kinds.{number_within}
use Rattle.perkeep_words.specs.Parts.{start, parts_from}
use Rattle.perkeep_words.specs.Reading.{LineSeen, NeedsAt}
use Rattle.perkeep_words.specs.declared.kinds.TextKind.TheVariants.{Number}
use Rattle.perkeep_words.proofs.Fitting.{number_there}
use Rattle.perkeep_words.proofs.reading.RightLine.number.Goals as goal

pub number-requires : goal.number-requires
number-requires c = subst (λ (t : List ℕ). is_some (number_within c.args.least c.args.most t) ≡ true) (sym c.position.ensures)
    (number_there (c.self.inside.name, parts_from start c.self.inside.behind.now) c.args.place c.args.least c.args.most c.self.invariant
    (subst (λ (l : LineSeen). NeedsAt l c.args.place (Number c.args.least c.args.most)) (sym c.self.view_is) c.requires))
