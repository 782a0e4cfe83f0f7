use Rattle.std.proofs.Common.{◌≡◌, ◌+◌, ℕ, List, inl, ◌∙◌, subst, arith}
use Rattle.std.proofs.lemmas.List.{length-take}
use Rattle.pack_store.specs.Calls.{ReadsFront, ReadsPack}
use Rattle.pack_store.specs.Taking.{TookFront}
use Rattle.pack_store.proofs.Called.{front_begins, front_goes_on, front_ends}
use Rattle.pack_store.proofs.Moments.{stays_by_call, stays_then}
use Rattle.pack_store.proofs.Piecewise.{front_none, front_more, front_whole, took_told}
use Rattle.pack_store.proofs.pieces.take_pieces.Goals as goal

pub pieces-init : goal.pieces-init
pieces-init g c = record {
  within = omega arith;
  took = front_none g.T.Taker g.met.T.Taker.takes_nothing g.met.T.Taker.takes_then (g.D.Disk.packs c.args.disk.now) (λ bytes. ReadsFront g.D.Disk c.args.disk.now c.args.pack c.in-Ok.size bytes c.size.new.self) c.args.pack c.in_ok-scanner.scanner
      c.args.taker.now (front_begins g.D.Disk c.args.disk.now c.args.pack c.in-Ok.size c.size.new.self c.in-Ok.ensures.is) c.in_ok-scanner.ensures c.requires.ready;
  ready = c.requires.ready;
  stays = stays_by_call g.D.Disk g.met.D.Disk.counts_now g.met.D.Disk.only_now c.args.disk.now c.size.new.self c.size.ensures.told c.size.ensures.time c.size.ensures.crash;
  still = c.size.ensures.still;
  later = c.size.ensures.cause.later;
}

pub pieces-preserved : goal.pieces-preserved
pieces-preserved g c =
    let disk = g.D.Disk in
    let took = took_told g.T.Taker _ _ _ _ _ _ _ _ _ _ _ c.pieces.invariant.stays.told c.in_ok-count.ensures.took in
    record {
      within = omega (arith, c.in_ok-count.ensures.bound, c.pieces-test.true, c.next_room-room.ensures.within, length-take c.next_room-room.result c.as_mut_slice.result.now);
      took = front_more g.T.Taker g.met.T.Taker.takes_nothing g.met.T.Taker.takes_then _ _ _ (λ bytes. ReadsFront disk c.args.disk.now c.args.pack c.in-Ok.size bytes c.take_piece.new.disk) _ _ _ _ _ _ _ _ _
          (λ front piece long given first gave. front_goes_on disk c.args.disk.now c.pieces.disk c.take_piece.new.disk c.args.pack c.in-Ok.size c.pieces.at _ front piece long first gave) c.pieces.invariant.took took;
      ready = c.in_ok-count.ensures.ready;
      stays = stays_then disk g.met.D.Disk.counts_now g.met.D.Disk.only_now c.args.disk.now c.pieces.disk c.take_piece.new.disk c.pieces.invariant.stays c.take_piece.ensures.stays;
      still = c.take_piece.ensures.still ∙ c.pieces.invariant.still;
      later = omega (arith, c.pieces.invariant.later, c.take_piece.ensures.later);
    }

pub returns-then-count-eq0-clause-took : goal.returns-then-count-eq0-clause-took
returns-then-count-eq0-clause-took g c =
    let disk = g.D.Disk in
    let told = disk.packs c.args.disk.now in
    let took = took_told g.T.Taker _ _ _ _ _ _ _ _ _ _ _ c.pieces.invariant.stays.told c.in_ok-count.ensures.took in
    let here : c.pieces.at + c.in_ok-count.count ≡ c.pieces.at = omega (arith, c.if-count-eq0.true) in
    let Whole : List ℕ → Type 0 = λ bytes. ReadsPack disk c.args.disk.now c.args.pack bytes c.take_piece.new.disk in
    let front : TookFront g.T.Taker told Whole c.args.pack c.pieces.at c.take_piece.new.scanner c.args.taker.now c.take_piece.new.taker =
    subst (λ (n : ℕ). TookFront g.T.Taker told Whole c.args.pack n c.take_piece.new.scanner c.args.taker.now c.take_piece.new.taker) here
    (front_more g.T.Taker g.met.T.Taker.takes_nothing g.met.T.Taker.takes_then _ _ _ Whole _ _ _ _ _ _ _ _ _
    (λ front piece long given first gave. front_ends disk c.args.disk.now c.pieces.disk c.take_piece.new.disk c.args.pack c.in-Ok.size c.pieces.at _ front piece long first gave
    (omega (arith, given, c.if-count-eq0.true)) (omega (arith, c.next_room-room.ensures.some, c.as_mut_slice.ensures.len, c.in_ok-widen.ensures, length-take c.next_room-room.result c.as_mut_slice.result.now)) (omega (arith, c.pieces-test.true)))
    c.pieces.invariant.took took) in
    front_whole g.T.Taker g.met.T.Taker.takes_nothing g.met.T.Taker.takes_then told Whole Whole c.args.pack c.pieces.at c.take_piece.new.scanner c.args.taker.now c.take_piece.new.taker c.take_end.new.taker c.in_ok-taken.taken
    (λ bytes long whole. whole) front c.in_ok-taken.ensures c.requires.there
    (λ held is bytes there. omega (arith, (took.there held is bytes there).0, c.if-count-eq0.true, c.next_room-room.ensures.some, c.as_mut_slice.ensures.len, c.in_ok-widen.ensures, length-take c.next_room-room.result c.as_mut_slice.result.now))

pub returns-then-count-eq0-clause-stays : goal.returns-then-count-eq0-clause-stays
returns-then-count-eq0-clause-stays g c =
    stays_then g.D.Disk g.met.D.Disk.counts_now g.met.D.Disk.only_now c.args.disk.now c.pieces.disk c.take_piece.new.disk c.pieces.invariant.stays c.take_piece.ensures.stays

pub returns-clause-took : goal.returns-clause-took
returns-clause-took g c =
    let disk = g.D.Disk in
    front_whole g.T.Taker g.met.T.Taker.takes_nothing g.met.T.Taker.takes_then (disk.packs c.args.disk.now) (λ bytes. ReadsFront disk c.args.disk.now c.args.pack c.in-Ok.size bytes c.pieces.disk)
    (λ bytes. ReadsPack disk c.args.disk.now c.args.pack bytes c.pieces.disk) c.args.pack c.pieces.at c.pieces.scanner c.args.taker.now c.pieces.taker c.take_end-2.new.taker c.in_ok-taken-2.taken
    (λ bytes long front. record { size = c.in-Ok.size; front = front; whole = inl (omega (arith, long, c.pieces-test.false, c.pieces.invariant.within)) })
    c.pieces.invariant.took c.in_ok-taken-2.ensures c.requires.there
    (λ held is bytes there. omega (arith, c.in-Ok.ensures.size held is bytes there, c.pieces-test.false))
