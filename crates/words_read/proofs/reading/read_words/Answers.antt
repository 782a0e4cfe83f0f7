use Rattle.std.proofs.Common.{◌≤◌, ◌∙◌, length, sym, arith}
use Rattle.std.proofs.lemmas.Bool.{leb-true}
use Rattle.search_query.specs.Valid.{nests}
use Rattle.search_query.specs.View.{view}
use Rattle.search_words.specs.Faults.{longest_line, deepest}
use Rattle.search_words.specs.declared.fault.WordsFault.TheVariants.{TooDeep}
use Rattle.search_words.proofs.Telling.{read_told, refused_told}
use Rattle.search_words.proofs.Walking.{refuses_short, too_deep}
use Rattle.words_read.proofs.reading.read_words.Goals as goal

pub returns-in-Err-clause-fault : goal.returns-in-Err-clause-fault
returns-in-Err-clause-fault c =
    let short : length c.args.text.now ≤ longest_line = omega arith in
    refused_told c.args.text.now c.utf8.text c.in-Err.fault
    (refuses_short c.args.text.now c.in-Err.fault short c.in-Err.ensures.refused)

pub returns-then-not-nests_within-clause-fault : goal.returns-then-not-nests_within-clause-fault
returns-then-not-nests_within-clause-fault c =
    let short : length c.args.text.now ≤ longest_line = omega arith in
    refused_told c.args.text.now c.utf8.text TooDeep (
      short,
      too_deep c.args.text.now (view c.in-Ok.constraint) c.in-Ok.ensures.read
          (sym c.nests_within.ensures ∙ c.if-not-nests_within.true),
    )

pub returns-clause-said : goal.returns-clause-said
returns-clause-said c =
    let short : length c.args.text.now ≤ longest_line = omega arith in
    let asked = view c.in-Ok.constraint in
    read_told c.args.text.now asked c.in-Ok.ensures.read short
    (leb-true (nests asked) deepest (sym c.nests_within.ensures ∙ c.if-not-nests_within.false))
