use Rattle.std.proofs.Common.{List, ℕ, inl, inr, refl, subst}
use Rattle.top_frame.specs.Steps.{Writes}
use Rattle.top_notes.proofs.storing.store_note.Goals as goal

pub returns-in-Ok : goal.returns-in-Ok
returns-in-Ok g c =
    rw c.give_back.ensures (inl (record {
      new = c.put_note.new.store;
      is = refl;
      puts = c.in-Ok.ensures.put;
      later = c.in-Ok.ensures.later;
      wrote = subst (λ (x : List ℕ). Writes g.K.Sink c.args.sink.now c.written.new.sink x c.written.result)
          c.as_slice.ensures c.written.ensures.wrote;
      sink_later = c.written.ensures.later;
    }))

pub returns-in-Err : goal.returns-in-Err
returns-in-Err g c =
    rw (c.give_back-in-Err.ensures, c.from.ensures) (inr (record {
      new = c.put_note.new.store;
      is = refl;
      fault = c.in-Err.fault;
      stops = c.in-Err.ensures.stopped;
      unwritten = refl;
      told = refl;
    }))
