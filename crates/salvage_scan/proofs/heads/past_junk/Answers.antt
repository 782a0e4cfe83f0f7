use Rattle.std.proofs.Common.{◌≡◌, false, arith, sym, ◌∙◌, rules}
use Rattle.salvage_scan.proofs.NoHeader.{IsJunkTo-start, IsJunkTo-more}
use Rattle.salvage_scan.proofs.heads.past_junk.Goals as goal

pub junk-init : goal.junk-init
junk-init c = IsJunkTo-start c.args.bytes.now c.args.at c.requires

pub junk-preserved : goal.junk-preserved
junk-preserved c =
    let none : c.may_begin.result ≡ false = search rules in
    IsJunkTo-more c.args.bytes.now c.args.at c.junk.at c.junk.invariant (omega (arith, c.junk-test.true)) (sym c.may_begin.ensures ∙ none)
