use Rattle.std.proofs.Common.{◌∙◌}
use Rattle.query_text.proofs.Pairs.{also, dated}
use Rattle.query_text.proofs.fields.date_pair.Goals as goal

pub returns-clause-written : goal.returns-clause-written
returns-clause-written c = dated c.text_pair.result c.args.out.now.items c.text_pair.new.out.items c.args.key.now c.args.date.now c.text-text.result c.as_text.result.now c.text-text.ensures.text
    (c.as_text.ensures ∙ c.as_slice.ensures.text) c.text_pair.ensures

pub returns-clause-holds : goal.returns-clause-holds
returns-clause-holds c = also c.text_pair.result (_, c.text-text.ensures.text, c.text-text.ensures.read)
