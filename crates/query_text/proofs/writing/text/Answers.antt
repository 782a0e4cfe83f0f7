use Rattle.std.proofs.Common.{◌++◌, ◌∙◌, codes, Some, refl, ap}
use Rattle.search_query.specs.View.{question}
use Rattle.query_text.specs.Text.{text_item, number_item, question_fields}
use Rattle.query_text.specs.Pairs.{field_text}
use Rattle.query_text.proofs.Pairs.{finished_alone}
use Rattle.query_text.proofs.ReadBack.{queries_read, read_back}
use Rattle.query_text.proofs.Spelled.{spelled}
use Rattle.query_text.proofs.writing.text.Goals as goal

pub returns-clause-written : goal.returns-clause-written
returns-clause-written c spell spells =
    c.from_vec.ensures
    ∙ finished_alone (question_fields spell (question c.args.query.now)) c.new-out.result.items c.when_field.new.out.items c.close_object.new.out.items 0
    c.new-out.ensures.items refl (
      _,
      c.in_ok-constraint_pair.ensures.written spell spells,
      (
        _,
        c.in_ok-number_pair.ensures ∙ ap (λ n. c.constraint_pair.new.out.items ++ field_text (codes "limit") (Some (number_item n))) c.from.ensures,
        (
          _,
          c.in_ok-text_pair.ensures ∙ ap (λ s. c.number_pair.new.out.items ++ field_text (codes "sort") (Some (text_item s))) c.sort_name.ensures,
          (_, c.in_ok-when_field.ensures.written spell spells, refl),
        ),
      ),
    )
    c.in_ok-close_object.ensures

pub returns-clause-holds : goal.returns-clause-holds
returns-clause-holds c = (c.in_ok-constraint_pair.ensures.holds, c.in_ok-when_field.ensures.holds)

pub returns-clause-read : goal.returns-clause-read
returns-clause-read c valid =
    read_back spelled.0 _ (question c.args.query.now) (returns-clause-written c spelled.0 spelled.1) (queries_read spelled.0 spelled.1 (question c.args.query.now) (returns-clause-holds c) valid)
