use Rattle.std.proofs.Common.{refl, ◌∙◌, arith}
use Rattle.std.proofs.lemmas.List.{length-set}
use Rattle.hex.specs.Hex.{encode_with}
use Rattle.blobref.proofs.Digit.{decode_more}
use Rattle.blobref.proofs.digits.decode_lower.Goals as goal

pub bytes-init : goal.bytes-init
unfolding encode_with
bytes-init c = record { long = refl; spelled = refl }

pub bytes-preserved : goal.bytes-preserved
bytes-preserved c =
    let i = c.bytes.invariant in
    record {
      long = length-set _ _ _ ∙ i.long;
      spelled = decode_more c.args.digits.now c.bytes.bytes c.bytes.i c.value_of.result c.value_of-in-bytes.result
          (omega (arith, i.long)) (omega (arith, c.requires.two)) c.value_of.ensures.small c.value_of-in-bytes.ensures.small
          c.value_of.ensures.spelled c.value_of-in-bytes.ensures.spelled i.spelled;
    }
