use Rattle.std.proofs.Common.{refl, sym, ◌∙◌, arith}
use Rattle.std.proofs.lemmas.List.{length-set}
use Rattle.salvage_scan.proofs.Looked.{is_read, read_one, digests_known}
use Rattle.salvage_scan.proofs.ahead.look.Goals as goal

pub headers-preserved : goal.headers-preserved
headers-preserved c =
    let i = c.headers.invariant in
    record {
      counted = refl;
      within = omega arith;
      blobs_long = length-set _ _ _ ∙ i.blobs_long;
      places_long = length-set _ _ _ ∙ i.places_long;
      lens_long = length-set _ _ _ ∙ i.lens_long;
      sizes_long = length-set _ _ _ ∙ i.sizes_long;
      said_long = length-set _ _ _ ∙ i.said_long;
      are_read = read_one c.args.bytes.now c.headers.blobs _ c.headers.places c.headers.lens c.headers.sizes c.headers.said c.headers.i c.headers.place c.in-Blob.len c.in-Blob.size c.in-Blob.r
          i.blobs_long i.places_long i.lens_long i.sizes_long i.said_long (omega arith)
          (is_read c.args.bytes.now _ c.headers.place c.in-Blob.len c.in-Blob.size c.in-Blob.r i.within (omega arith) (sym c.if-not-starts_with.ensures.value) c.in-Blob.ensures refl)
          i.are_read;
    }

pub returns : goal.returns
returns c =
    let i = c.headers.invariant in
    record {
      most = omega (arith, i.counted);
      each = digests_known c.args.bytes.now c.headers.blobs c.headers.places c.headers.lens c.headers.sizes c.headers.said c.headers.count c.sha224_all.new.digests _
          i.blobs_long (omega (arith, i.counted)) c.sha224_all.ensures (λ k lt. i.are_read k (omega (arith, i.counted)));
    }
