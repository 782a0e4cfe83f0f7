use Rattle.std.proofs.Common.{refl, sym, subst}
use Rattle.std.specs.Prelude.{ℕ, Err}
use Rattle.std.specs.Str.Iter.{char_indices_offset, char_indices_rest}
use Rattle.search_words.specs.Characters.{char_step}
use Rattle.search_words.specs.Faults.{StandsAt}
use Rattle.search_words.proofs.Walking.{begun_at, reads_on, all_read}
use Rattle.words_read.specs.Seen.{seen, GoesAt}
use Rattle.words_read.proofs.Refusing.{stop_refuses}
use Rattle.words_read.proofs.reading.read_all.Goals as goal

pub loop-at-init : goal.loop-at-init
loop-at-init c =
    let h = c.char_indices-at-items.ensures in
    subst (λ t. StandsAt c.args.text.now (seen c.new-reader.result) (char_indices_offset t) (char_indices_rest t))
    (sym c.into_iter-at-iterator.ensures.into_iter_gives)
    (begun_at c.args.text.now _ (seen c.new-reader.result) _ c.utf8.text c.new-reader.ensures h.offset h.rest)

pub loop-at-preserved : goal.loop-at-preserved
loop-at-preserved c =
    let h = c.in-Some.ensures.steps in
    reads_on c.args.text.now (seen c.loop-at.reader) (seen c.next_at.new.reader) _ _ c.in-Some.c _ _
    c.loop-at.invariant h.1 h.2 c.in-Ok.ensures

pub returns-in-Err-clause-refused : goal.returns-in-Err-clause-refused
returns-in-Err-clause-refused c =
    let h = c.in-Some.ensures.steps in
    stop_refuses c.args.text.now (seen c.loop-at.reader) (seen c.next_at.new.reader)
    (char_indices_offset c.loop-at.at-iterator) c.in-Some.c _ _ c.in-Err.fault c.loop-at.invariant h.1 refl
    (subst (λ (n : ℕ). GoesAt (char_step (seen c.loop-at.reader) c.in-Some.c) (seen c.next_at.new.reader) n
    (Err c.in-Err.fault)) h.0 c.in-Err.ensures)

pub returns-clause-read : goal.returns-clause-read
returns-clause-read c =
    all_read c.args.text.now (seen c.loop-at.reader) _ _ c.loop-at.invariant c.in-None.ensures.steps.0
