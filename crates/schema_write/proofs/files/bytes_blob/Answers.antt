use Rattle.std.proofs.Common.{◌≡◌, refl, subst}
use Rattle.schema_fact.specs.declared.kinds.Kind.TheVariants.{Bytes}
use Rattle.schema_write.specs.Blobs.{bytes_blob}
use Rattle.schema_write.specs.Laws.{HaveRefs, Says}
use Rattle.schema_write.proofs.Drafted.{drafted, refused, memory_alone, no_more, bytes_ended}
use Rattle.schema_write.proofs.Lengths.{bytes_short}
use Rattle.schema_write.proofs.PartsRead.{tree_read}
use Rattle.schema_write.proofs.files.bytes_blob.Goals as goal

pub returns-clause-exact : goal.returns-clause-exact
returns-clause-exact c =
    let parts = c.args.parts.now in
    let is = bytes_ended parts c.as_slice.result.now c.in_ok-start.start.items c.in_ok-text.text.items c.as_slice.ensures c.in_ok-start.ensures.text c.in_ok-text.ensures.text in
    drafted c.fitting.result c.in_ok-text.text.items (bytes_blob parts) 0 (λ blob. blob ≡ bytes_blob parts) is c.fitting.ensures (λ fits. refl)

pub returns-clause-fault : goal.returns-clause-fault
returns-clause-fault c =
    let parts = c.args.parts.now in
    let is = bytes_ended parts c.as_slice.result.now c.in_ok-start.start.items c.in_ok-text.text.items c.as_slice.ensures c.in_ok-start.ensures.text c.in_ok-text.ensures.text in
    refused c.fitting.result c.in_ok-text.text.items (bytes_blob parts) is c.fitting.ensures

pub returns-clause-says : goal.returns-clause-says
returns-clause-says c =
    let parts = c.args.parts.now in
    let is = bytes_ended parts c.as_slice.result.now c.in_ok-start.start.items c.in_ok-text.text.items c.as_slice.ensures c.in_ok-start.ensures.text c.in_ok-text.ensures.text in
    let refs : HaveRefs parts = subst HaveRefs c.as_slice.ensures c.in_ok-text.ensures.refs in
    drafted c.fitting.result c.in_ok-text.text.items (bytes_blob parts) 0 (λ blob. Says blob (Bytes parts)) is c.fitting.ensures (λ fits. tree_read parts refs c.requires (no_more _ fits))

pub returns-clause-few : goal.returns-clause-few
returns-clause-few c = λ few_parts.
    let parts = c.args.parts.now in
    let is = bytes_ended parts c.as_slice.result.now c.in_ok-start.start.items c.in_ok-text.text.items c.as_slice.ensures c.in_ok-start.ensures.text c.in_ok-text.ensures.text in
    let refs : HaveRefs parts = subst HaveRefs c.as_slice.ensures c.in_ok-text.ensures.refs in
    memory_alone c.fitting.result c.in_ok-text.text.items (bytes_blob parts) is c.fitting.ensures (bytes_short parts refs c.requires few_parts)
