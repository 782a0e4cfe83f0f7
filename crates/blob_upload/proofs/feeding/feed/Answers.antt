use Rattle.std.proofs.Common.{◌+◌, ◌++◌, ℕ, List, [], length, ap, refl, subst, ◌∙◌, arith, Bool, Ok, Err}
use Rattle.std.proofs.lemmas.List.{append-nil}
use Rattle.blob_upload.specs.Ends.{IsSound}
use Rattle.blob_upload.specs.Taking.{Feeds, SoundAtLast}
use Rattle.blob_upload.proofs.Pieces.{feeds_none, feeds_more, feeds_on, feeds_last, none_left}
use Rattle.blob_upload.proofs.feeding.feed.Goals as goal

pub asking-init : goal.asking-init
asking-init g c = (tt, tt, c.requires.own, ([], refl, feeds_none _ _ _ _), refl)

pub asking-preserved : goal.asking-preserved
asking-preserved g c =
    let so_far = c.asking.invariant.3 in
    let all = so_far.0 ++ c.asking.rest.now in
    let none = none_left c.args.piece.now in
    let count = c.asking.invariant.4 in
    let fed = c.in-Ok-true.ensures.fed in
    let feeds = feeds_on all _ _ _ _ _ _ _ _ c.in-Ok-true.field-0
    (feeds_more (λ (done : Unit {0}) reader. Unit {0}) SoundAtLast (so_far.0) c.asking.rest.now
    _ _ _ _ _ _ _ _ _ _ _ _ tt (Ok c.in-Ok-true.field-0) (so_far.2) c.in-Ok-true.ensures.feeds) in (
      tt,
      tt,
      c.in-Ok-true.ensures.own,
      (all, ap (λ (l : List ℕ). all ++ l) none ∙ append-nil all ∙ so_far.1, feeds),
      ap (λ (l : List ℕ). c.feed_once.new.parts.fed + length l) none ∙ omega (arith, count, fed),
    )

pub returns-in-Ok-false-clause-feeds : goal.returns-in-Ok-false-clause-feeds
returns-in-Ok-false-clause-feeds g c =
    let v = g.H.Home.sight c.args.pass.now in
    let x = g.H.Home.sight c.feed_once.new.pass in
    let so_far = c.asking.invariant.3 in
    let all = so_far.0 ++ c.asking.rest.now in
    let P : List ℕ → Type 0 = λ l.
    Feeds (λ (done : Unit {0}). IsSound) l c.args.parts.now c.feed_once.new.parts c.args.opened.now
    c.feed_once.new.opened c.args.kept.now c.feed_once.new.kept v x (Ok tt) in
    let Q : Bool → Type 0 = λ more.
    Feeds SoundAtLast all c.args.parts.now c.feed_once.new.parts c.args.opened.now c.feed_once.new.opened
    c.args.kept.now c.feed_once.new.kept v x (Ok more) in
    subst P (so_far.1)
    (feeds_last all _ _ _ _ _ _ _ _
    (subst Q c.in-Ok-false.field-0-test
    (feeds_more (λ (done : Unit {0}) reader. Unit {0}) SoundAtLast (so_far.0) c.asking.rest.now
    _ _ _ _ _ _ _ _ _ _ _ _ tt (Ok c.in-Ok-false.field-0) (so_far.2) c.in-Ok-false.ensures.feeds)))

pub returns-in-Err-clause-feeds : goal.returns-in-Err-clause-feeds
returns-in-Err-clause-feeds g c =
    let v = g.H.Home.sight c.args.pass.now in
    let x = g.H.Home.sight c.feed_once.new.pass in
    let so_far = c.asking.invariant.3 in
    let P : List ℕ → Type 0 = λ l.
    Feeds SoundAtLast l c.args.parts.now c.feed_once.new.parts c.args.opened.now c.feed_once.new.opened
    c.args.kept.now c.feed_once.new.kept v x (Err c.in-Err.end) in
    subst P (so_far.1)
    (feeds_more (λ (done : Unit {0}) reader. Unit {0}) SoundAtLast (so_far.0) c.asking.rest.now
    _ _ c.feed_once.new.parts _ _ c.feed_once.new.opened _ _ _ _ _ _ tt
    (Err c.in-Err.end) (so_far.2) c.in-Err.ensures.feeds)
