use Rattle.std.proofs.Common.{◌∙◌, ◌++◌, ℕ, List, codes, [], map, sym, ap, append-nil, append_assoc}
use Rattle.json.specs.Print.{escape_byte}
use Rattle.json_laws.specs.Written.{pair_text}
use Rattle.std.specs.List.{join_by}
use Rattle.schema_write.specs.Blobs.{change_item, changes_pair}
use Rattle.schema_write.proofs.changes.several.Goals as goal

pub returns-clause-text : goal.returns-clause-text
unfolding escape_byte
returns-clause-text c =
    let payload = c.args.payload.items in
    let joined = join_by (λ item. item.text) (codes ",") (map change_item c.args.changes.now) in
    let text = pair_text (changes_pair c.args.changes.now) in
    c.in_ok-push.ensures.items
    ∙ (λ i. c.in_ok-push_changes.ensures.text i ++ codes "]")
    ∙ (λ i. (c.in_ok-extend_from_slice.ensures.items i ++ joined) ++ codes "]")
    ∙ append_assoc (payload ++ codes ",\"changes\":[") joined (codes "]")
    ∙ append_assoc payload (codes ",\"changes\":[") (joined ++ codes "]")
    ∙ ap (λ (t : List ℕ). payload ++ (codes "," ++ t)) (sym (append-nil text))
    ∙ sym (append_assoc payload (codes ",") (text ++ []))
