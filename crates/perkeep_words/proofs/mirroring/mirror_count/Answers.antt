use Rattle.std.proofs.Common.{sym, arith, ◌∙◌}
use Rattle.perkeep_words.proofs.Addresses.{few_addresses}
use Rattle.perkeep_words.proofs.mirroring.mirror_count.Goals as goal

pub returns-clause-few : goal.returns-clause-few
returns-clause-few c =
    omega (
      arith,
      c.count.ensures,
      few_addresses c.in_ok-word.behind.now (sym c.is_mirror_line.ensures ∙ c.if-not-is_mirror_line.false),
    )
