use Rattle.std.specs.Str.Iter.{chars_rest}
use Rattle.words_write.proofs.Escapes.{escaped_on}
use Rattle.words_write.proofs.text.push_all_escaped.Goals as goal

pub loop-c-preserved : goal.loop-c-preserved
loop-c-preserved c =
    escaped_on _ c.loop-c.out c.push_escaped.new.out (chars_rest c.loop-c.c-iterator) (chars_rest c.next.new.self)
    c.in-Some.c c.loop-c.invariant c.in-Some.ensures.steps.0 c.in_ok-push_escaped.ensures
