use Rattle.std.proofs.Common.{◌≡◌, ◌∙◌, ◌-◌, ℕ, List, subst, ◌++◌, ◌∷◌, [], take, length, replicate}
use Rattle.perkeep_lines.proofs.Zeros.{padded}
use Rattle.perkeep_lines.proofs.lines.push_five_digits.Goals as goal

pub returns : goal.returns
returns c =
    subst (λ (digits : List ℕ). c.extend_from_slice-2.new.self.items ≡ c.args.text.now.items
    ++ (replicate {A = ℕ} (5 - length digits) 48 ++ digits)) (c.as_bytes-digits.ensures.value
    ∙ c.format.ensures.text)
    (padded c.args.text.now.items c.extend_from_slice.new.self.items c.extend_from_slice-2.new.self.items
    c.as_bytes-digits.result.now (length c.as_bytes-digits.result.now)
    (subst (λ k. c.extend_from_slice.new.self.items ≡ c.args.text.now.items ++ take k (48 ∷ 48 ∷ 48 ∷ 48 ∷ 48 ∷ []))
    c.saturating_sub.ensures c.in_ok-extend_from_slice.ensures.items)
    c.in_ok-extend_from_slice-2.ensures.items)
