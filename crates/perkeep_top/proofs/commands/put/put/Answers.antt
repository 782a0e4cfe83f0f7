use Rattle.std.proofs.Common.{◌∙◌, [], ◌∷◌, List, ℕ, Err, ap, refl, subst}
use Rattle.blobref.specs.Blobref.{ref_of}
use Rattle.edge_base.specs.Shelf.{Blob, named}
use Rattle.pack_format.specs.Header.{max_size}
use Rattle.pack_store.specs.Puts.{PutsBlobs, PutLeaves}
use Rattle.perkeep_lines.specs.Outputs.{ref_line}
use Rattle.top_frame.specs.Limits.{limits}
use Rattle.top_frame.specs.Outside.{outside, world_before}
use Rattle.perkeep_top.specs.Put.{put_meaning}
use Rattle.top_frame.specs.Steps.{NeverRefuses}
use Rattle.top_frame.proofs.Ending.{begun, under_ref, given_input, far_read, far_asked, far_put, not_put, refused, early_memory, unread_first, finished}
use Rattle.perkeep_top.proofs.commands.put.put.Goals as goal

pub returns-in-Err : goal.returns-in-Err
returns-in-Err g c =
    let run = begun (outside g.D.Disk g.P.Peer g.S.Source g.K.Sink g.C.Clock g.R.Dice) g.met.D.Disk.counts_now g.met.D.Disk.only_now put_meaning refl refl (world_before c.args.disk c.args.environment) in
    unread_first run max_size refl (λ size. refl) c.read_input.new.source (far_read run c.read_input.new.source (λ e. absurd (cc e)) c.in-Err.ensures.later) c.in-Err.status c.in-Err.ensures.refused

pub returns-in_default : goal.returns-in_default
returns-in_default g c =
    let run = begun (outside g.D.Disk g.P.Peer g.S.Source g.K.Sink g.C.Clock g.R.Dice) g.met.D.Disk.counts_now g.met.D.Disk.only_now put_meaning refl refl (world_before c.args.disk c.args.environment) in
    early_memory run c.read_input.new.source (far_read run c.read_input.new.source (λ e. absurd (cc e)) c.in-Ok.ensures.later)

pub returns-in-Err-opened : goal.returns-in-Err-opened
returns-in-Err-opened g c =
    let run = begun (outside g.D.Disk g.P.Peer g.S.Source g.K.Sink g.C.Clock g.R.Dice) g.met.D.Disk.counts_now g.met.D.Disk.only_now put_meaning refl refl (world_before c.args.disk c.args.environment) in
    let read = far_read run c.read_input.new.source (λ e. absurd (cc e)) c.in-Ok.ensures.later in
    refused run refl c.args.disk c.in-Err-opened.end.0 c.read_input.new.source read c.in-Err-opened.ensures.stays_err c.in-Err-opened.ensures.later_err (given_input c.in-Ok.bytes.items)
    (record { read = c.in-Ok.ensures.read; right = refl; drawn = (λ e. absurd (cc e), λ e. absurd (cc e)) }) refl NeverRefuses (λ end w. absurd w) c.in-Err-opened.end.1 c.in-Err-opened.ensures.refused

pub returns-in-Ok-put_blob : goal.returns-in-Ok-put_blob
returns-in-Ok-put_blob g c =
    let run = begun (outside g.D.Disk g.P.Peer g.S.Source g.K.Sink g.C.Clock g.R.Dice) g.met.D.Disk.counts_now g.met.D.Disk.only_now put_meaning refl refl (world_before c.args.disk c.args.environment) in
    let read = far_read run c.read_input.new.source (λ e. absurd (cc e)) c.in-Ok.ensures.later in
    let so = far_asked run refl c.args.disk c.in-Ok-opened.store.disk c.read_input.new.source read c.in-Ok-opened.ensures.stays c.in-Ok-opened.ensures.later in
    let done = far_put run refl (λ q. cc (q (given_input []))) c.in-Ok-opened.store c.put_blob.new.store c.read_input.new.source c.args.environment.sink.now [] [] so c.in-Ok-opened.ensures.stands c.in-Ok-put_blob.ensures.keeps c.in-Ok-put_blob.ensures.later refl
    (named (c.in-Ok.bytes.items ∷ [])) (subst (λ (x : Blob). PutsBlobs g.D.Disk limits c.in-Ok-opened.store (x ∷ []) c.put_blob.new.store)
    (under_ref c.deref-2.ensures.value (c.of-r.ensures ∙ ap ref_of c.deref.ensures.value)) c.in-Ok-put_blob.ensures.leaves) in
    rw c.give_back.ensures (
    finished run c.put_blob.new.store.disk c.read_input.new.source _ done c.written.new.sink (given_input c.in-Ok.bytes.items) c.as_slice.result.now
    (λ e. absurd (cc e), λ e. absurd (cc e)) c.in-Ok.ensures.read refl (c.as_slice.ensures ∙ c.in-Ok-ref_line.ensures ∙ ap ref_line c.of-r.ensures ∙ ap (λ (x : List ℕ). ref_line (ref_of x)) c.deref.ensures.value) refl c.written.result c.written.ensures.wrote c.written.ensures.later)

pub returns : goal.returns
returns g c =
    let run = begun (outside g.D.Disk g.P.Peer g.S.Source g.K.Sink g.C.Clock g.R.Dice) g.met.D.Disk.counts_now g.met.D.Disk.only_now put_meaning refl refl (world_before c.args.disk c.args.environment) in
    let read = far_read run c.read_input.new.source (λ e. absurd (cc e)) c.in-Ok.ensures.later in
    let so = far_asked run refl c.args.disk c.in-Ok-opened.store.disk c.read_input.new.source read c.in-Ok-opened.ensures.stays c.in-Ok-opened.ensures.later in
    rw (c.give_back-in-Err-put_blob.ensures, c.from.ensures) (
    not_put run refl (λ q. cc (q (given_input []))) c.in-Ok-opened.store c.put_blob.new.store c.read_input.new.source c.args.environment.sink.now [] [] so c.in-Ok-opened.ensures.stands c.in-Err-put_blob.ensures.keeps c.in-Err-put_blob.ensures.later refl
    (given_input c.in-Ok.bytes.items) (ref_of c.in-Ok.bytes.items, c.in-Ok.bytes.items) [] (record { read = c.in-Ok.ensures.read; right = refl; drawn = (λ e. absurd (cc e), λ e. absurd (cc e)) }) refl refl c.in-Ok.ensures.read.0 c.in-Err-put_blob.fault
    (subst (λ (x : Blob). PutLeaves g.D.Disk limits c.in-Ok-opened.store c.put_blob.new.store x (Err c.in-Err-put_blob.fault))
    (under_ref c.deref-2.ensures.value (c.of-r.ensures ∙ ap ref_of c.deref.ensures.value)) c.in-Err-put_blob.ensures.leaves))
