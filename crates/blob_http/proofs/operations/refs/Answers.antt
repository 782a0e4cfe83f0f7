use Rattle.blob_http.proofs.Pages.{page_few}
use Rattle.blob_http.proofs.operations.refs.Goals as goal

pub returns-in-Ok-clause-few : goal.returns-in-Ok-clause-few
returns-in-Ok-clause-few c = page_few c.args.query.now c.in-Ok.page c.in-Ok.ensures.ok
