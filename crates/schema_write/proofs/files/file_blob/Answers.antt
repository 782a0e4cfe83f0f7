use Rattle.std.proofs.Common.{◌≡◌, refl, subst}
use Rattle.schema_fact.specs.declared.kinds.Kind.TheVariants.{File}
use Rattle.schema_write.specs.Blobs.{file_blob}
use Rattle.schema_write.specs.Laws.{HaveRefs, Says}
use Rattle.schema_write.proofs.Drafted.{drafted, refused, memory_alone, no_more, file_ended}
use Rattle.schema_write.proofs.Lengths.{file_short}
use Rattle.schema_write.proofs.PartsRead.{file_read}
use Rattle.schema_write.proofs.files.file_blob.Goals as goal

pub returns-clause-exact : goal.returns-clause-exact
returns-clause-exact c =
    let name = c.args.name.now in
    let parts = c.args.parts.now in
    let is = file_ended name parts c.as_slice.result.now c.in_ok-start.start.items c.in_ok-text.text.items c.as_slice.ensures c.in_ok-start.ensures.text c.in_ok-text.ensures.text in
    drafted c.fitting.result c.in_ok-text.text.items (file_blob name parts) 0 (λ blob. blob ≡ file_blob name parts) is c.fitting.ensures (λ fits. refl)

pub returns-clause-fault : goal.returns-clause-fault
returns-clause-fault c =
    let name = c.args.name.now in
    let parts = c.args.parts.now in
    let is = file_ended name parts c.as_slice.result.now c.in_ok-start.start.items c.in_ok-text.text.items c.as_slice.ensures c.in_ok-start.ensures.text c.in_ok-text.ensures.text in
    refused c.fitting.result c.in_ok-text.text.items (file_blob name parts) is c.fitting.ensures

pub returns-clause-says : goal.returns-clause-says
returns-clause-says c =
    let name = c.args.name.now in
    let parts = c.args.parts.now in
    let is = file_ended name parts c.as_slice.result.now c.in_ok-start.start.items c.in_ok-text.text.items c.as_slice.ensures c.in_ok-start.ensures.text c.in_ok-text.ensures.text in
    let refs : HaveRefs parts = subst HaveRefs c.as_slice.ensures c.in_ok-text.ensures.refs in
    drafted c.fitting.result c.in_ok-text.text.items (file_blob name parts) 0 (λ blob. Says blob (File name parts)) is c.fitting.ensures (λ fits. file_read name parts c.utf8.name refs c.requires (no_more _ fits))

pub returns-clause-few : goal.returns-clause-few
returns-clause-few c = λ few_bytes few_parts.
    let name = c.args.name.now in
    let parts = c.args.parts.now in
    let is = file_ended name parts c.as_slice.result.now c.in_ok-start.start.items c.in_ok-text.text.items c.as_slice.ensures c.in_ok-start.ensures.text c.in_ok-text.ensures.text in
    let refs : HaveRefs parts = subst HaveRefs c.as_slice.ensures c.in_ok-text.ensures.refs in
    memory_alone c.fitting.result c.in_ok-text.text.items (file_blob name parts) is c.fitting.ensures (file_short name parts refs c.requires few_bytes few_parts)
