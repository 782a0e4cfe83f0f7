-- Bounds on how deep constraints nest.
use Rattle.std.proofs.Common.{◌≡◌, ◌≤◌, ◌<◌, ◌⊎◌, inl, inr, ℕ, suc, ◌-◌, max, Bool, true, false, ◌&&◌, nat_le, sym, ◌∙◌, arith}
use Rattle.std.proofs.lemmas.Bool.Decides.{leb_tells}

abbrev Told : ℕ → ℕ → Type 0
Told a n = ((nat_le a n ≡ true) × (a ≤ n)) ⊎ ((nat_le a n ≡ false) × (n < a))

both_told : (a b n : ℕ) → Told a n → Told b n → Told (max a b) n → (nat_le a n && nat_le b n) ≡ nat_le (max a b) n
both_told a b n (inl p) (inl q) (inl r) = (λ i. p.0 i && q.0 i) ∙ sym r.0
both_told a b n (inl p) (inl q) (inr r) = absurd (omega (arith, p.1, q.1, r.1))
both_told a b n (inl p) (inr q) (inl r) = absurd (omega (arith, q.1, r.1))
both_told a b n (inl p) (inr q) (inr r) = (λ i. p.0 i && q.0 i) ∙ sym r.0
both_told a b n (inr p) (inl q) (inl r) = absurd (omega (arith, p.1, r.1))
both_told a b n (inr p) (inl q) (inr r) = (λ i. p.0 i && q.0 i) ∙ sym r.0
both_told a b n (inr p) (inr q) (inl r) = absurd (omega (arith, p.1, r.1))
both_told a b n (inr p) (inr q) (inr r) = (λ i. p.0 i && q.0 i) ∙ sym r.0

-- two bounds at once
pub both_within : (a b n : ℕ) → (nat_le a n && nat_le b n) ≡ nat_le (max a b) n
both_within a b n = both_told a b n (leb_tells a n) (leb_tells b n) (leb_tells (max a b) n)

suc_told : (a n : ℕ) → 0 < n → Told a (n - 1) → Told (suc a) n → nat_le a (n - 1) ≡ nat_le (suc a) n
suc_told a n some (inl p) (inl r) = p.0 ∙ sym r.0
suc_told a n some (inl p) (inr r) = absurd (omega (arith, some, p.1, r.1))
suc_told a n some (inr p) (inl r) = absurd (omega (arith, some, p.1, r.1))
suc_told a n some (inr p) (inr r) = p.0 ∙ sym r.0

-- and one level more
pub deeper : (a b n : ℕ) → 0 < n → (nat_le a (n - 1) && nat_le b (n - 1)) ≡ nat_le (suc (max a b)) n
deeper a b n some =
    both_within a b (n - 1) ∙ suc_told (max a b) n some (leb_tells (max a b) (n - 1)) (leb_tells (suc (max a b)) n)

-- The same, where the second is asked only after the first

pub both_then : (a b n : ℕ) (x y : Bool) → x ≡ nat_le a n → x ≡ true → y ≡ nat_le b n → y ≡ nat_le (max a b) n
both_then a b n x y h e k = k ∙ (λ i. (sym e ∙ h) i && nat_le b n) ∙ both_within a b n

pub both_else : (a b n : ℕ) (x : Bool) → x ≡ nat_le a n → x ≡ false → false ≡ nat_le (max a b) n
both_else a b n x h e = (λ i. (sym e ∙ h) i && nat_le b n) ∙ both_within a b n

pub deeper_then : (a b n : ℕ) (x y : Bool) → 0 < n → x ≡ nat_le a (n - 1) → x ≡ true → y ≡ nat_le b (n - 1)
    → y ≡ nat_le (suc (max a b)) n
deeper_then a b n x y some h e k = k ∙ (λ i. (sym e ∙ h) i && nat_le b (n - 1)) ∙ deeper a b n some

pub deeper_else : (a b n : ℕ) (x : Bool) → 0 < n → x ≡ nat_le a (n - 1) → x ≡ false → false ≡ nat_le (suc (max a b)) n
deeper_else a b n x some h e = (λ i. (sym e ∙ h) i && nat_le b (n - 1)) ∙ deeper a b n some
