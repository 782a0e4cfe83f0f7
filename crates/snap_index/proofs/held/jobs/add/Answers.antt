use Rattle.std.proofs.Common.{◌≡◌, List, sym, ap, subst, ◌∙◌, refl, [], ◌∷◌, ◌++◌, Some, drop}
use Rattle.histories.specs.declared.events.Insertion.{Insertion}
use Rattle.histories.specs.History.{stamped, Before}
use Rattle.histories.specs.Indexes.{has_number}
use Rattle.histories.proofs.Standing.{inserts_append, inserted_is}
use Rattle.work_numbers.specs.Working.{with_noted}
use Rattle.work_numbers.proofs.Tells.{tells_noted}
use Rattle.home_places.specs.Seats.{as_history}
use Rattle.snap_copies.specs.Books.{insertion}
use Rattle.snap_index.proofs.Finely.{before_inserts, fine_more}
use Rattle.snap_index.proofs.Keeping.{numbers_moved}
use Rattle.snap_index.proofs.held.jobs.add.Goals as goal

pub show-writer-requires-clause-fresh : goal.show-writer-requires-clause-fresh
show-writer-requires-clause-fresh g c =
    let told = c.requires.told in
    let t = told.1 in
    let n = c.args.prepared.made.0 in
    ap (has_number n) t.listed ∙ sym (inserted_is n told.0) ∙ sym (t.numbers.inserted n) ∙ c.requires.fresh

pub show-writer-requires-clause-fine : goal.show-writer-requires-clause-fine
show-writer-requires-clause-fine g c =
    let told = c.requires.told in
    let t = told.1 in
    let m = c.args.prepared.made in
    let front = c.args.held.now.pusher.front in
    let before = subst (λ (g : List Insertion). Before c.args.turn (as_history g)) (sym t.listed) (before_inserts c.args.turn told.0 told.2) in
    fine_more front.seen.log c.args.turn m.0 m.1 m.2 front.fine before
    (ap (has_number m.0) t.listed ∙ sym (inserted_is m.0 told.0) ∙ sym (t.numbers.inserted m.0) ∙ c.requires.fresh)

pub show-writer-requires-clause-shown : goal.show-writer-requires-clause-shown
show-writer-requires-clause-shown g c =
    let t = c.requires.told.1 in
    let same : c.in-Some.writer ≡ t.writer = cc (sym c.in-Some.is ∙ (c.take.ensures.value ∙ t.there)) in
    ap (λ w. w.desk.shown.value.front.seen) same ∙ t.published

pub show-writer-requires-clause-none_pends : goal.show-writer-requires-clause-none_pends
show-writer-requires-clause-none_pends g c =
    let t = c.requires.told.1 in
    let same : c.in-Some.writer ≡ t.writer = cc (sym c.in-Some.is ∙ (c.take.ensures.value ∙ t.there)) in
    ap (λ w. drop w.behind w.log.items) same ∙ t.none_pends

pub returns-clause-kept : goal.returns-clause-kept
returns-clause-kept g c = λ h t.
    let same : c.in-Some.writer ≡ t.writer = cc (sym c.in-Some.is ∙ (c.take.ensures.value ∙ t.there)) in
    let m = c.args.prepared.made in
    let i = insertion c.args.turn m.0 m.1 m.2 in
    let numbers = c.args.held.now.numbers in record {
      numbers = tells_noted numbers _ h c.args.turn m.0 m.1 m.2 t.numbers c.requires.fresh (c.if-not-note.ensures ∙ ap (with_noted numbers) c.number.ensures);
      listed = c.show-writer.ensures.log ∙ ap (λ (g : List Insertion). g ++ i ∷ []) t.listed ∙ sym (inserts_append h (stamped c.args.turn (Some _)));
      writer = c.show-writer.result;
      there = c.replace.ensures.after;
      published = c.show-writer.ensures.shown;
      keys = c.show-writer.ensures.keys ∙ (ap (λ w. w.desk.shown.value.index.keys) same ∙ t.keys);
      none_pends = c.show-writer.ensures.none_pends;
    }

pub returns-clause-says : goal.returns-clause-says
returns-clause-says g c = λ h t. (sym (t.numbers.inserted c.args.prepared.made.0) ∙ c.requires.fresh, refl)

pub returns-then-not-note-clause-kept : goal.returns-then-not-note-clause-kept
returns-then-not-note-clause-kept g c = λ h t. numbers_moved h c.args.turn c.if-not-note.ensures refl refl refl t
