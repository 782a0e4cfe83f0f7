use Rattle.std.proofs.Common.{◌∙◌, ap, rules, map, filter, not, [], length, ◌==◌, sym}
use Rattle.std.specs.Str.{bytes_eq}
use Rattle.std.proofs.lemmas.Bool.{cond-false}
use Rattle.std.proofs.lemmas.Fn.{filter_same}
use Rattle.index_look.proofs.Texts.{shown-filter}
use Rattle.index_look.proofs.values.remove.Goals as goal

pub returns-else-is_empty : goal.returns-else-is_empty
returns-else-is_empty c =
    let v = c.args.value.now in
    let kept = filter_same _ (λ t. not (bytes_eq t.now v)) _ (λ x b f k. search rules) _ _ c.retain.ensures.filtered in
    ap (map (λ t. t.now)) kept ∙ shown-filter (λ w. not (bytes_eq w v)) c.args.found.now.items ∙ sym (cond-false (length v == 0) [] (filter (λ w. not (bytes_eq w v)) (map (λ t. t.now) c.args.found.now.items)) (sym c.if-is_empty.ensures))
