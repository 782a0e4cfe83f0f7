use Rattle.blob_upload.proofs.Telling.{opens}
use Rattle.blob_upload.proofs.opened.open.Goals as goal

pub returns-clause-ok : goal.returns-clause-ok
returns-clause-ok c = opens c.args.name.now c.in-Some.r c.new.result.items c.read.result c.read.ensures c.in-Some.is
    c.new.ensures.items
