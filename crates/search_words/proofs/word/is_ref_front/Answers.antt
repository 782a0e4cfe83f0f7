use Rattle.search_words.proofs.Refs.{newer_front, older_front}
use Rattle.search_words.proofs.word.is_ref_front.Goals as goal

pub returns-then-is_completed : goal.returns-then-is_completed
returns-then-is_completed c =
    newer_front c.args.text.now c.is_completed.result c.is_completed.ensures c.if-is_completed.true

pub returns-else-is_completed : goal.returns-else-is_completed
returns-else-is_completed c =
    older_front c.args.text.now c.is_completed.result c.is_completed-else-is_completed.result c.is_completed.ensures
    c.if-is_completed.false
    c.is_completed-else-is_completed.ensures
