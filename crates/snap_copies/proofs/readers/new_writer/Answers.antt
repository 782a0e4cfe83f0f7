use Rattle.std.proofs.Common.{sym, ap, ◌∙◌, fold}
use Rattle.snap_copies.specs.Copies.{common_of, absorbed}
use Rattle.snap_copies.proofs.Linking.{starts, same_copy}
use Rattle.snap_copies.proofs.readers.new_writer.Goals as goal

pub new-requires-clause-alike : goal.new-requires-clause-alike
new-requires-clause-alike g c = λ i. record {
  facts = (c.copy_of_none-first.ensures.facts ∙ sym c.copy_of_none-second.ensures.facts) i;
  numbers = (c.copy_of_none-first.ensures.numbers ∙ sym c.copy_of_none-second.ensures.numbers) i;
  keys = (c.copy_of_none-first.ensures.keys ∙ sym c.copy_of_none-second.ensures.keys) i;
  front = (c.copy_of_none-first.ensures.front ∙ sym c.copy_of_none-second.ensures.front) i;
}

pub new-requires-clause-rule : goal.new-requires-clause-rule
new-requires-clause-rule g c = starts c.copy_of_none-first.result c.copy_of_none-first.ensures.facts c.copy_of_none-first.ensures.numbers (ap (λ f. f.seen.log) c.copy_of_none-first.ensures.front ∙ c.requires)

pub publish_as-writer-requires : goal.publish_as-writer-requires
publish_as-writer-requires g c next is = same_copy c.in-Ok.writer.desk.place.id _ c.in-Ok.writer.desk.shown.value next (is ∙ ap (fold absorbed (common_of c.in-Ok.writer.desk.shown.value)) c.in-Ok.ensures.1)
