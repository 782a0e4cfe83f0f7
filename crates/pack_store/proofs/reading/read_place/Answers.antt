use Rattle.std.proofs.Common.{◌≡◌, length, take, drop, sym, ◌∙◌, ap}
use Rattle.std.specs.Option.{is_some}
use Rattle.pack_store.specs.Rows.{bytes_in}
use Rattle.pack_store.proofs.Buffers.{read_part}
use Rattle.pack_store.proofs.Rowing.{kept_lies}
use Rattle.pack_store.proofs.reading.read_place.Goals as goal

pub read-requires : goal.read-requires
read-requires g c = λ held told. ap is_some (kept_lies c.args.row.now held (g.D.Disk.images c.args.disk.now) (g.met.D.Disk.reads c.args.disk.now held told) (c.requires.kept held told)).1

pub returns-clause-bytes : goal.returns-clause-bytes
returns-clause-bytes g c = λ held told.
    let row = c.args.row.now in
    let lies = kept_lies row held (g.D.Disk.images c.args.disk.now) (g.met.D.Disk.reads c.args.disk.now held told) (c.requires.kept held told) in
    let read = c.in-Ok-read.ensures.bytes held told lies.0 lies.1 in
    let len = c.in-Ok.ensures.len in
    let bytes : c.truncate.new.self.items ≡ take row.size (drop row.at lies.0) = c.truncate.ensures.items
    ∙ read_part lies.0 c.read.new.buf (drop (length c.read.new.buf) c.in-Ok.bytes.items) row.at c.in-Ok-read.count (length c.deref_mut.result.now) c.in-Ok.bytes.len row.size read (c.deref_mut.ensures.len ∙ len) len lies.2.within in
    ap (λ b. (row.r, b)) (bytes ∙ sym (ap (bytes_in row) lies.1))
