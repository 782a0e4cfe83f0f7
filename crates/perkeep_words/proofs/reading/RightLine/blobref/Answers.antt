use Rattle.std.proofs.Common.{◌≡◌, List, ℕ, true, sym, subst}
use Rattle.blobref.specs.Blobref.{is_blobref}
use Rattle.perkeep_words.specs.Parts.{start, parts_from}
use Rattle.perkeep_words.specs.Reading.{LineSeen, NeedsAt}
use Rattle.perkeep_words.specs.declared.kinds.TextKind.TheVariants.{Blobref}
use Rattle.perkeep_words.proofs.Fitting.{blobref_there}
use Rattle.perkeep_words.proofs.reading.RightLine.blobref.Goals as goal

pub blobref-requires : goal.blobref-requires
blobref-requires c = subst (λ (t : List ℕ). is_blobref t ≡ true) (sym c.position.ensures)
    (blobref_there (c.self.inside.name, parts_from start c.self.inside.behind.now) c.args.place c.self.invariant
    (subst (λ (l : LineSeen). NeedsAt l c.args.place Blobref) (sym c.self.view_is) c.requires))
