use Rattle.std.proofs.Common.{◌≡◌, ℕ, None, Some, ◌/◌, ◌%◌, ◌+◌, ◌*◌, ◌^◌, is_some, sym, ap, ◌∙◌}
use Rattle.std.proofs.lemmas.Bool.{and_parts, false≢true}
use Rattle.std.proofs.lemmas.Map.Steps.{set_value_same}
use Rattle.std.specs.Prelude.{bit_or}
use Rattle.std.specs.Ordering.{nat_cmp}
use Rattle.std.specs.BTreeMap.{is_at}
use Rattle.std.specs.FinMap.{from_entries, contains_key, get, insert, len}
use Rattle.claim_model.specs.Facts.{passes}
use Rattle.claim_index.specs.Numbers.{Roomy, Masks, numbers_in, has_bit}
use Rattle.claim_index.proofs.Marks.{mask_at, one_mask, there, has-numbers_in, has-blocks_in, numbers_in-set, set-again, len-more}
use Rattle.claim_index.proofs.numbers.Numbers.set.Goals as goal
use Rattle.claim_index.proofs.numbers.Numbers.set.Goals.{In-Some}

-- where there is a mask
abbrev before : (c : In-Some) → Masks
before c = from_entries c.self.inside.masks.entries

found : (c : In-Some) → get (before c) (c.args.n / 64) ≡ Some c.in-Some.mask.now
found c = mask_at c.self.inside.masks.entries (c.args.n / 64) ∙ sym c.in-Some.ensures.value

written : (c : goal.In-Some) (w : ℕ)
    → from_entries (c.get_mut.follows.lender w).entries ≡ insert (before c) (c.args.n / 64) w
written c w =
    one_mask c.self.inside.masks.entries (c.get_mut.follows.lender w).entries (c.args.n / 64) w
    ((c.get_mut.follows.holds w).3 (there _ c.in-Some.mask.now c.in-Some.ensures.value)).0

same_masks : (c : In-Some) → from_entries {R = nat_cmp} (c.get_mut.follows.lender c.in-Some.mask.now).entries ≡ before c
same_masks c =
    ap from_entries ((c.get_mut.follows.holds c.in-Some.mask.now).0
    ∙ set_value_same (is_at (nat_cmp (c.args.n / 64))) c.self.inside.masks.entries c.in-Some.mask.now
    (sym c.in-Some.ensures.value))

has : (c : In-Some) → contains_key (numbers_in (before c)) c.args.n ≡ has_bit c.in-Some.mask.now (c.args.n % 64)
has c = has-numbers_in (before c) c.args.n ∙ ap (passes (λ mask. has_bit mask (c.args.n % 64))) (found c)

more : (c : In-Some)
    → numbers_in
    (from_entries (c.get_mut.follows.lender (bit_or c.in-Some.mask.now (1 * 2 ^ (c.args.n % 64) % 2 ^ 64))).entries)
    ≡ insert (numbers_in (before c)) c.args.n tt
more c =
    ap numbers_in (written c (bit_or c.in-Some.mask.now (1 * 2 ^ (c.args.n % 64) % 2 ^ 64)))
    ∙ numbers_in-set (before c) c.args.n c.in-Some.mask.now (found c)

pub invariant_of-self : goal.invariant_of-self
invariant_of-self c =
    let at = (goal.at.invariant_of-self c).In-Some in
    sym (ap len (more at)
    ∙ len-more (numbers_in (before at)) c.args.n (has at ∙ sym c.has_bit.ensures ∙ c.if-not-has_bit.true)
    ∙ ap (λ n. n + 1) (sym c.self.invariant))

pub invariant_of-self-else-not-has_bit : goal.invariant_of-self-else-not-has_bit
invariant_of-self-else-not-has_bit c =
    let at = (goal.at.invariant_of-self-else-not-has_bit c).In-Some in
    c.self.invariant ∙ sym (ap (λ m. len (numbers_in m)) (same_masks at))

pub returns-then-not-has_bit : goal.returns-then-not-has_bit
returns-then-not-has_bit c =
    let at = (goal.at.returns-then-not-has_bit c).In-Some in
    more at ∙ ap (λ (s : Roomy). insert s.numbers c.args.n tt) c.self.view_is

pub returns-else-not-has_bit : goal.returns-else-not-has_bit
returns-else-not-has_bit c =
    let at = (goal.at.returns-else-not-has_bit c).In-Some in
    ap numbers_in (same_masks at)
    ∙ sym (set-again (numbers_in (before at)) c.args.n (has at ∙ sym c.has_bit.ensures ∙ c.if-not-has_bit.false))
    ∙ ap (λ (s : Roomy). insert s.numbers c.args.n tt) c.self.view_is

-- there is room, so there is a mask
pub returns-in_default : goal.returns-in_default
returns-in_default c =
    let masks : Masks = from_entries c.self.inside.masks.entries in
    let room = (and_parts (contains_key c.args.self.now.blocks (c.args.n / 64)) _ c.requires).0 in
    let none : get masks (c.args.n / 64) ≡ None = mask_at c.self.inside.masks.entries (c.args.n / 64)
    ∙ sym c.in_default.ensures.value in
    absurd (false≢true (ap is_some (sym none) ∙ sym (has-blocks_in masks (c.args.n / 64))
    ∙ ap (λ (s : Roomy). contains_key s.blocks (c.args.n / 64)) c.self.view_is ∙ room))
