use Rattle.listed_pages.proofs.Lasts.{last_at}
use Rattle.listed_pages.proofs.pages.last_ref.Goals as goal

pub returns-clause-last : goal.returns-clause-last
returns-clause-last c = last_at c.args.page.now c.in_ok-r.field-0.now c.in_ok-r.ensures.value
