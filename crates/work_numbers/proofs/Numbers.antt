-- Maps under numbers.
use Rattle.std.proofs.Common.{◌≡◌, ℕ, Bool, true, false, not, ◌&&◌, ◌||◌, cond, List, nat_eq, Option, Some, None, Result, Ok, Err, OnOk, OnErr, is_some, is_ok, refl, sym, ap, ◌∙◌, arith}
use Rattle.std.proofs.lemmas.Bool.{false≢true}
use Rattle.std.proofs.lemmas.Bool.Decides.{nat_tests}
use Rattle.std.proofs.lemmas.Cmp.{nat_cmp_total}
use Rattle.std.specs.Cmp.{unsigned_tied}
use Rattle.std.specs.Ordering.{nat_cmp, eq_by_cmp}
use Rattle.std.specs.BTreeMap.{is_at}
use Rattle.std.specs.Map.{lookup}
use Rattle.std.specs.FinMap.{FinMap, contains_key, empty, from_entries, get, insert, remove, get-empty, get-insert, get-remove, nat_cmp-IsAntisymmetric}
use Rattle.claim_model.specs.Facts.{passes}
use Rattle.index_rows.proofs.RefMaps as ref_maps
use Rattle.blobref.specs.declared.memory.NoMemory.{NoMemory}
use Rattle.work_numbers.specs.Working.{TakenNumbers, is_held}

eq_turned : (m n : ℕ) → nat_eq m n ≡ nat_eq n m
eq_turned m n = grind (arith, nat_tests)

pub tied : (m n : ℕ) → eq_by_cmp nat_cmp m n ≡ nat_eq n m
tied m n = unsigned_tied m n ∙ eq_turned m n

pub cond_some : {X : Type 0} (b : Bool) (v : X) (o : Option X) → is_some (cond b (Some v) o) ≡ (b || is_some o)
cond_some true v o = refl
cond_some false v o = refl

module _ {X : Type 0} where
  -- what the map that a tree's entries make has at a number
  pub get_at : (es : List (ℕ × X)) (q : ℕ) → get (from_entries {R = nat_cmp} es) q ≡ lookup (is_at (nat_cmp q)) es
  get_at = ref_maps.get_at nat_cmp_total nat_cmp-IsAntisymmetric

  pub one_given : (es fs : List (ℕ × X)) (k : ℕ) (v : X)
      → ((q : ℕ) → lookup (is_at (nat_cmp q)) fs ≡ cond (is_at (nat_cmp k) q) (Some v) (lookup (is_at (nat_cmp q)) es))
      → from_entries {R = nat_cmp} fs ≡ insert (from_entries es) k v
  one_given = ref_maps.one_given nat_cmp_total nat_cmp-IsAntisymmetric

  pub one_taken : (es fs : List (ℕ × X)) (k : ℕ)
      → ((q : ℕ) → lookup (is_at (nat_cmp q)) fs ≡ cond (is_at (nat_cmp k) q) None (lookup (is_at (nat_cmp q)) es))
      → from_entries {R = nat_cmp} fs ≡ remove (from_entries es) k
  one_taken = ref_maps.one_taken nat_cmp_total nat_cmp-IsAntisymmetric

  get_given : (m : FinMap nat_cmp X) (k : ℕ) (v : X) (q : ℕ) → get (insert m k v) q ≡ cond (nat_eq k q) (Some v) (get m q)
  get_given m k v q = get-insert nat_cmp_total m k v q ∙ ap (λ (b : Bool). cond b (Some v) (get m q)) (tied q k)

  get_taken : (m : FinMap nat_cmp X) (k q : ℕ) → get (remove m k) q ≡ cond (nat_eq k q) None (get m q)
  get_taken m k q = get-remove nat_cmp_total m k q ∙ ap (λ (b : Bool). cond b None (get m q)) (tied q k)

  pub has_given : (m : FinMap nat_cmp X) (k : ℕ) (v : X) (q : ℕ) → contains_key (insert m k v) q ≡ (nat_eq k q || contains_key m q)
  has_given m k v q = ap is_some (get_given m k v q) ∙ cond_some (nat_eq k q) v (get m q)

  pub has_taken : (m : FinMap nat_cmp X) (k q : ℕ) → contains_key (remove m k) q ≡ (not (nat_eq k q) && contains_key m q)
  has_taken m k q = ap is_some (get_taken m k q) ∙ by (nat_eq k q) (get m q)
    where
      by : (b : Bool) (o : Option X) → is_some (cond b None o) ≡ (not b && is_some o)
      by true o = refl
      by false o = refl

pub has_none : (X : Type 0) (q : ℕ) → contains_key (empty {X = X} {R = nat_cmp}) q ≡ false
has_none X q = ap is_some (get-empty nat_cmp q)

pub held_given : (taken : TakenNumbers) (n : ℕ) (held : Bool) (q : ℕ) → is_held (insert taken n held) q ≡ cond (nat_eq n q) held (is_held taken q)
held_given taken n held q = ap (passes (λ (b : Bool). b)) (get_given taken n held q) ∙ by (nat_eq n q) (get taken q)
  where
    by : (b : Bool) (o : Option Bool) → passes (λ (b : Bool). b) (cond b (Some held) o) ≡ cond b held (passes (λ (b : Bool). b) o)
    by true o = refl
    by false o = refl

pub held_taken : (taken : TakenNumbers) (n q : ℕ) → is_held (remove taken n) q ≡ cond (nat_eq n q) false (is_held taken q)
held_taken taken n q = ap (passes (λ (b : Bool). b)) (get_taken taken n q) ∙ by (nat_eq n q) (get taken q)
  where
    by : (b : Bool) (o : Option Bool) → passes (λ (b : Bool). b) (cond b None o) ≡ cond b false (passes (λ (b : Bool). b) o)
    by true o = refl
    by false o = refl

-- what is known of a refusal
pub on_err : {T E : Type 0} (r : Result T E) {P : Type 0} → P → OnErr r P
on_err (Ok x) p = tt
on_err (Err e) p = p

pub held_none : (q : ℕ) → is_held empty q ≡ false
held_none q = ap (passes (λ (b : Bool). b)) (get-empty nat_cmp q)

-- a row that is there is replaced, whatever memory there is
pub put_done : (old new : TakenNumbers) (n : ℕ) (held : Bool) (r : Result (Unit {0}) NoMemory) → OnOk r (new ≡ insert old n held)
    → OnErr r (get old n ≡ None) → is_held old n ≡ true → (new ≡ insert old n held) × (is_ok r ≡ true)
put_done old new n held (Ok x) done absent there = (done, refl)
put_done old new n held (Err f) done absent there =
    absurd (false≢true (sym (ap (passes (λ (b : Bool). b)) absent) ∙ there))

pub held_there : (taken : TakenNumbers) (n : ℕ) → is_held taken n ≡ true → contains_key taken n ≡ true
held_there taken n h = by (get taken n) h
  where
    by : (o : Option Bool) → passes (λ (b : Bool). b) o ≡ true → is_some o ≡ true
    by None e = e
    by (Some b) e = refl
