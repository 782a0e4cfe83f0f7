use Rattle.std.proofs.Common.{◌≡◌, ℕ, List, [], ◌++◌, ap, ◌∙◌}
use Rattle.std.specs.Prelude.{codes}
use Rattle.http_exchange.specs.ReplyHeads.{reply_head_text, header_line}
use Rattle.http_exchange.proofs.reply_heads.reply_head.Goals as goal

joined : (n s t u v w x : List ℕ) (a b c d e f : List ℕ) → n ≡ [] → s ≡ n ++ a → t ≡ s ++ b → u ≡ t ++ c → v ≡ u ++ d → w ≡ v ++ e → x ≡ w ++ f → x ≡ a ++ b ++ c ++ d ++ e ++ f
joined n s t u v w x a b c d e f en es et eu ev ew ex =
    ex ∙ ap (λ (r : List ℕ). r ++ f) (ew ∙ ap (λ (r : List ℕ). r ++ e) (ev ∙ ap (λ (r : List ℕ). r ++ d) (eu ∙ ap (λ (r : List ℕ). r ++ c) (et ∙ ap (λ (r : List ℕ). r ++ b) (es ∙ ap (λ (r : List ℕ). r ++ a) en)))))

pub returns : goal.returns
unfolding reply_head_text
returns c =
    c.from_vec.ensures ∙ joined _ _ _ _ _ _ _ _ _ _ _ _ _ c.in_ok-text.ensures.items c.in_ok-push_status.ensures c.in_ok-push_header.ensures
    (c.in_ok-push_header-2.ensures ∙ ap (λ (d : List ℕ). c.push_header.new.text.items ++ header_line (codes "Content-Length: ") d) c.format.ensures.text) c.in_ok-push_allow.ensures c.in_ok-push_close.ensures c.in_ok-extend_from_slice.ensures.items
