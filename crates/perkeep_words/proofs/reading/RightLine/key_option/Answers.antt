use Rattle.std.proofs.Common.{◌≡◌, List, ℕ, true, sym, subst}
use Rattle.claim_verify.specs.KeyName.{is_key_name}
use Rattle.perkeep_words.specs.Parts.{start, parts_from}
use Rattle.perkeep_words.specs.Reading.{LineSeen, NeedsOption}
use Rattle.perkeep_words.specs.declared.kinds.TextKind.TheVariants.{Key}
use Rattle.perkeep_words.proofs.Fitting.{option_is_key}
use Rattle.perkeep_words.proofs.reading.RightLine.key_option.Goals as goal

pub key_name-requires : goal.key_name-requires
key_name-requires c = subst (λ (t : List ℕ). is_key_name t ≡ true) (sym c.value.ensures)
    (option_is_key (c.self.inside.name, parts_from start c.self.inside.behind.now) c.args.option.now c.self.invariant
    (subst (λ (l : LineSeen). NeedsOption l c.args.option.now Key) (sym c.self.view_is) c.requires))
