use Rattle.std.proofs.Common.{ap, length, sym, arith}
use Rattle.std.proofs.lemmas.Bool.{false≢true}
use Rattle.attr_fold.proofs.following.is_last.Goals as goal

pub returns-in-Some-clause-more : goal.returns-in-Some-clause-more
returns-in-Some-clause-more g c = λ last. let n = ap length c.in-Some.ensures.next in omega (arith, n)

pub returns-in-None-clause-more : goal.returns-in-None-clause-more
returns-in-None-clause-more g c = λ more. absurd (false≢true (sym more))
