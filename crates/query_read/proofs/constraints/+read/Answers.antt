use Rattle.std.proofs.Common.{rules, ◌≡◌, ◌∙◌, IfOk, IfErr, None, sym, subst}
use Rattle.serde_json.specs.View.{view}
use Rattle.search_query.specs.View.{view as asks}
use Rattle.query_read.specs.Faults.{Tells}
use Rattle.query_read.specs.Faults.{has_key}
use Rattle.query_read.specs.Grammar.{constraint_fault, permanode_fault, permanode_keys, permanode_whole, parts_keys}
use Rattle.query_read.proofs.Levels.{fault_level, value_level}
use Rattle.query_read.proofs.Telling.{told_whole, told_under, sound_under}
use Rattle.query_read.proofs.constraints.+read.Goals as goal

pub constraint-returns-clause-ok : goal.constraint-returns-clause-ok
constraint-returns-clause-ok t c =
    subst (λ f. IfOk c.parts.result (λ r. f c.args.path.now (view c.args.value.now) ≡ None)) (sym (fault_level c.args.left c.if-left-eq0.false)) c.parts.ensures.ok

pub constraint-returns-clause-value : goal.constraint-returns-clause-value
constraint-returns-clause-value t c =
    subst (λ f. IfOk c.parts.result (λ r. asks r ≡ f (view c.args.value.now))) (sym (value_level c.args.left c.if-left-eq0.false)) c.parts.ensures.value

pub constraint-returns-clause-err : goal.constraint-returns-clause-err
constraint-returns-clause-err t c =
    subst (λ f. IfErr c.parts.result (Tells (f c.args.path.now (view c.args.value.now)))) (sym (fault_level c.args.left c.if-left-eq0.false)) c.parts.ensures.err

pub parts-returns-then-not-has_any-clause-err : goal.parts-returns-then-not-has_any-clause-err
parts-returns-then-not-has_any-clause-err t c =
    told_whole _ (parts_keys (constraint_fault c.args.left)) c.args.path.now (view c.args.value.now) (has_key (parts_keys (constraint_fault c.args.left)) (view c.args.value.now)) c.bad_value.result
    c.in_ok-shape.ensures.ok (
      c.in_ok-anything.ensures.ok,
      (
        c.in_ok-blob_ref_prefix.ensures.ok,
        (
          c.in_ok-blob_size.ensures.ok,
          (
            c.in_ok-camli_type.ensures.ok,
            (c.in_ok-file.ensures.ok, (c.in_ok-logical.ensures.ok, (c.in_ok-permanode.ensures.ok, tt))),
          ),
        ),
      ),
    )
    (sym c.has_any.ensures ∙ c.if-not-has_any.true) c.bad_value.ensures

pub permanode_under-returns-in_err-permanode-clause-err :
    goal.permanode_under-returns-in_err-permanode-clause-err
permanode_under-returns-in_err-permanode-clause-err t c =
    let tells = told_under (permanode_fault (constraint_fault c.args.left)) c.args.key.now c.args.path.now c.as_str.result.now (view c.args.value.now) (view c.in-Some.below.now)
    c.in_err-permanode.field-0.0 (sym c.in-Some.ensures) (c.as_str.ensures ∙ c.in_ok-at.ensures) c.in_err-permanode.ensures.err in
    search (rules, tells)

pub permanode_under-returns-clause-ok : goal.permanode_under-returns-clause-ok
permanode_under-returns-clause-ok t c =
    sound_under (permanode_fault (constraint_fault c.args.left)) c.args.key.now c.args.path.now c.as_str.result.now (view c.args.value.now) (view c.in-Some.below.now)
    (sym c.in-Some.ensures) (c.as_str.ensures ∙ c.in_ok-at.ensures) c.in_ok-permanode.ensures.ok

pub permanode-returns-then-not-permanode_whole-clause-err :
    goal.permanode-returns-then-not-permanode_whole-clause-err
permanode-returns-then-not-permanode_whole-clause-err t c =
    told_whole _ (permanode_keys (constraint_fault c.args.left)) c.args.path.now (view c.args.value.now) (permanode_whole (view c.args.value.now)) c.bad_value.result
    c.in_ok-shape.ensures.ok (
      c.in_ok-at.ensures.ok,
      (
        c.in_ok-attr.ensures.ok,
        (
          c.in_ok-num_value.ensures.ok,
          (
            c.in_ok-relation.ensures.ok,
            (c.in_ok-wanted.ensures.ok, (c.in_ok-value_in_set.ensures.ok, (c.in_ok-value_matches.ensures.ok, tt))),
          ),
        ),
      ),
    )
    (sym c.permanode_whole.ensures ∙ c.if-not-permanode_whole.true) c.bad_value.ensures
