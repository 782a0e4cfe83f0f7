use Rattle.std.proofs.Common.{ℕ, length, take, refl, sym, subst, ap, arith, ◌∙◌, None, Err}
use Rattle.std.proofs.lemmas.List.{length-take}
use Rattle.http_wire.specs.Bodies.{Moves}
use Rattle.http_wire.specs.Wires.{to_come, BodyEnds}
use Rattle.multipart_read.specs.Reader.{Reader}
use Rattle.blob_upload.specs.declared.upload_end.UploadEnd.{UploadEnd}
use Rattle.blob_upload.specs.declared.uploading.Reading.{Reading}
use Rattle.blob_upload.specs.Uploads.{Uploads}
use Rattle.blob_upload.proofs.Ending.{no_room, uploading_none, uploading_breaks, uploading_ends, uploading_more}
use Rattle.blob_upload.proofs.Ending.{uploading_stops, never_ended, never_finished}
use Rattle.blob_upload.proofs.uploading.take_parts.Goals as goal

pub returns-in_default-clause-uploads : goal.returns-in_default-clause-uploads
returns-in_default-clause-uploads g c = λ boundary is. no_room _ _ _ _ _

-- a reading of nothing
abbrev before_all : Reader → Reading
before_all parts = record { parts = parts; opened = None; taken = 0 }

pub pieces-init : goal.pieces-init
pieces-init g c = record {
  own = c.requires.own;
  so_far = λ boundary is. uploading_none _ _ _ _ _ _ (ap before_all is);
  counted = ap (λ (p : Reader). p.fed) c.requires.fresh.1;
  head = refl;
  begun = refl;
  later = omega arith;
  some =
      let some = c.in-Ok.ensures.some in
      let same = ap length c.as_mut_slice-space.ensures.value in
      omega (arith, some, same);
  room =
      let most = c.in-Ok.ensures.most in
      let same = ap length c.as_mut_slice-space.ensures.value in
      omega (arith, most, same);
}

pub returns-in-Err-clause-uploads : goal.returns-in-Err-clause-uploads
returns-in-Err-clause-uploads g c = λ boundary is.
    let left = g.S.Source.left c.body.new.source in
    let P : UploadEnd → Type 0 = λ end.
    Uploads boundary (g.S.Source.left c.args.source.now) left c.args.wire.now c.body.new.self
    (g.H.Home.sight c.args.pass.now) (g.H.Home.sight c.pieces.pass) c.args.kept.now c.pieces.kept end in
    let Q : ℕ → Type 0 = λ begun. BodyEnds (to_come c.body.new.self left) c.body.new.self.body begun c.in-Err.end in
    subst P (sym c.end_of_wire.ensures)
    (uploading_breaks _ _ _ _ _ _ _ _ _ _ _ _ (c.pieces.invariant.so_far boundary is) c.in-Err.end c.in-Err.ensures.moved
    (subst Q (sym c.body.ensures.kept.1) c.in-Err.ensures.err)
    (λ is. c.in-Err.ensures.short (ap Err is)))

pub returns-then-n-eq0-clause-uploads : goal.returns-then-n-eq0-clause-uploads
returns-then-n-eq0-clause-uploads g c = λ boundary is.
    let left = g.S.Source.left c.pieces.source in
    let left' = g.S.Source.left c.body.new.source in
    let some = c.pieces.invariant.some in
    let P : ℕ → Type 0 = λ n.
    Moves left left' c.pieces.wire.flow c.body.new.self.flow c.pieces.wire.body c.body.new.self.body
    (take n c.body.new.buf) in
    uploading_ends _ _ _ _ _ _ _ _ _ _ _ _ (c.pieces.invariant.so_far boundary is) c.finish.result
    (subst P c.if-n-eq0.true c.in-Ok-body.ensures.moved)
    (c.in-Ok-body.ensures.end c.if-n-eq0.true (omega (arith, some))) c.finish.ensures

pub returns-then-n-eq0-clause-fault : goal.returns-then-n-eq0-clause-fault
returns-then-n-eq0-clause-fault g c = λ is. absurd
    (never_finished _ _ _ (g.S.Source.left c.body.new.source) _ _ c.body.new.self _ _ _ _ _
    (c.pieces.invariant.so_far c.requires.fresh.0 c.requires.fresh.1) c.finish.result _ c.finish.ensures is)

pub take_piece-requires-clause-short : goal.take_piece-requires-clause-short
take_piece-requires-clause-short g c = (c.pieces.invariant.so_far c.requires.fresh.0 c.requires.fresh.1).short

pub pieces-preserved : goal.pieces-preserved
pieces-preserved g c =
    let before = c.pieces.invariant.later in
    let now = c.body.ensures.later in
    let took = c.in-Ok-take_piece.ensures in
    record {
      own = took.own;
      so_far = λ boundary is.
          uploading_more _ _ _ _ _ _ _ _ _ _ _ _ (c.pieces.invariant.so_far boundary is)
          (take c.in-Ok-body.n c.body.new.buf) _ _ _ c.in-Ok-body.ensures.moved took.takes took.taken took.short;
      counted = took.counted;
      head = c.body.ensures.kept.0 ∙ c.pieces.invariant.head;
      begun = c.body.ensures.kept.1 ∙ c.pieces.invariant.begun;
      later = omega (arith, before, now);
      some = let some = c.pieces.invariant.some in omega (arith, c.body.auto.buf, some);
      room = let room = c.pieces.invariant.room in omega (arith, c.body.auto.buf, room);
    }

pub returns-in-Err-take_piece-clause-uploads : goal.returns-in-Err-take_piece-clause-uploads
returns-in-Err-take_piece-clause-uploads g c = λ boundary is.
    let room = c.pieces.invariant.room in
    uploading_stops _ _ _ _ _ _ _ _ _ _ _ _ (c.pieces.invariant.so_far boundary is)
    (take c.in-Ok-body.n c.body.new.buf) _ _
    c.take_piece.new.reading c.in-Err-take_piece.end c.in-Ok-body.ensures.moved
    (omega (arith, length-take c.in-Ok-body.n c.body.new.buf, c.body.auto.buf, room)) c.in-Err-take_piece.ensures.takes

pub returns-in-Err-take_piece-clause-fault : goal.returns-in-Err-take_piece-clause-fault
returns-in-Err-take_piece-clause-fault g c = λ is. absurd
    (never_ended _ _ _ (g.S.Source.left c.body.new.source) _ _ c.body.new.self _ _ _ _ _
    (c.pieces.invariant.so_far c.requires.fresh.0 c.requires.fresh.1) (take c.in-Ok-body.n c.body.new.buf) _ _ c.take_piece.new.reading c.in-Err-take_piece.end _
    c.in-Err-take_piece.ensures.takes is)
