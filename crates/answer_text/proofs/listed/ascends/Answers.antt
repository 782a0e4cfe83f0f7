use Rattle.std.proofs.Common.{rules}
use Rattle.std.proofs.lemmas.List.Sorted.{answers_always}
use Rattle.answer_text.proofs.Ascending.{precedes, steps_decide}
use Rattle.answer_text.proofs.listed.ascends.Goals as goal

pub returns : goal.returns
returns c =
    steps_decide c.args.entries.now c.is_sorted_by.result
    (c.is_sorted_by.ensures.cases precedes (answers_always _ _ _ (λ f a r g called. search rules)))
