-- How many times changes add a value that none of them takes.
use Rattle.std.proofs.Common.{◌≡◌, ◌==◌, ℕ, length, suc, Bool, true, false, not, ◌&&◌, ◌||◌, cond, List, [], ◌∷◌}
use Rattle.std.proofs.Common.{◌++◌, Option, Some, None, refl, sym, ap, ◌∙◌}
use Rattle.std.proofs.lemmas.Bool.{and_parts, and_from, false≢true}
use Rattle.std.proofs.lemmas.List.Folds.{list_any-append}
use Rattle.std.proofs.lemmas.List.Sums.{fold-append}
use Rattle.std.proofs.lemmas.Option.{same_Some}
use Rattle.std.specs.List.{list_any}
use Rattle.std.specs.Str.{bytes_eq}
use Rattle.schema_fact.specs.declared.changes.Act.{Act}
use Rattle.schema_fact.specs.declared.changes.Act.TheVariants.{Set as sets, Add as adds, Del as removes}
use Rattle.schema_fact.specs.declared.changes.Change.{Change}
use Rattle.attr_fold.specs.Following.{added_from, decides, is_addition, is_end, takes}
use Rattle.attr_fold.specs.Times.{act_times, change_times, times_from}
use Rattle.attr_fold.proofs.Times.{other_way}

module _ (name value : List ℕ) where
  abbrev taken : List Change → Bool
  taken cs = list_any (takes name value) cs

  abbrev told : Bool → ℕ → Option ℕ
  told b n = cond b None (Some n)

  -- with more changes after some, none of which takes the value
  pub added_on : (front back : List Change) (n m : ℕ) → Some m ≡ added_from name value n front
      → added_from name value n (front ++ back) ≡ added_from name value m back
  added_on front back n m h = by (taken front) refl h
    where
      by : (b : Bool) → taken front ≡ b → Some m ≡ told b (times_from name value n front)
          → added_from name value n (front ++ back) ≡ added_from name value m back
      by true is h = absurd (let f : Some m ≡ None = h in cc f)
      by false is h =
          (λ i. told ((list_any-append (takes name value) front back ∙ ap (λ b. b || taken back) is) i)
          (fold-append (change_times name value) n front back i))
          ∙ ap (λ k. told (taken back) (times_from name value k back))
          (sym (same_Some m (times_from name value n front) h))

  -- if one of the earlier ones takes it
  pub taken_on : (front back : List Change) (n : ℕ) → None ≡ added_from name value n front
      → added_from name value n (front ++ back) ≡ None
  taken_on front back n h = by (taken front) refl h
    where
      by : (b : Bool) → taken front ≡ b → None ≡ told b (times_from name value n front)
          → added_from name value n (front ++ back) ≡ None
      by true is h = ap (λ b. told b (times_from name value n (front ++ back)))
          (list_any-append (takes name value) front back ∙ ap (λ b. b || taken back) is)
      by false is h = absurd (let f : None ≡ Some (times_from name value n front) = h in cc f)

  -- one change that has nothing to do with the value
  pub added_beside : (c : Change) → decides false name value c ≡ false → (n : ℕ)
      → added_from name value n (c ∷ []) ≡ Some n
  added_beside c f n = λ i. told ((ap (λ b. (not (is_addition c.act) && b) || false) f ∙ none (is_addition c.act)) i)
      (left i)
    where
      none : (b : Bool) → ((not b && false) || false) ≡ false
      none true = refl
      none false = refl

      left : change_times name value n c ≡ n
      left = by (bytes_eq name c.attr) (other_way name c.attr) c.act f
        where
          gone : (a b : Bool) → (a || b) ≡ false → cond a 0 (cond b 0 n) ≡ n
          gone true b h = absurd (false≢true (sym h))
          gone false true h = absurd (false≢true (sym h))
          gone false false h = refl

          by : (b : Bool) → b ≡ bytes_eq c.attr name → (act : Act)
              → (bytes_eq c.attr name && (is_end act c.value || bytes_eq c.value value)) ≡ false
              → cond b (act_times act c.value value n) n ≡ n
          by false h act e = refl
          by true h sets e = absurd (false≢true (sym e ∙ ap (λ b. b && true) (sym h)))
          by true h adds e = ap (λ b. cond b (suc n) n) (other_way value c.value
              ∙ ap (λ b. b && bytes_eq c.value value) h ∙ e)
          by true h removes e = gone (length c.value == 0) (bytes_eq value c.value)
              (ap (λ b. length c.value == 0 || b) (other_way value c.value)
              ∙ ap (λ b. b && (length c.value == 0 || bytes_eq c.value value)) h ∙ e)

  -- how many times it is added, if none takes it
  pub told_some : (cs : List Change) (n m : ℕ) → Some m ≡ added_from name value n cs
      → (taken cs ≡ false) × (m ≡ times_from name value n cs)
  told_some cs n m h = by (taken cs) h
    where
      by : (b : Bool) → Some m ≡ told b (times_from name value n cs) → (b ≡ false) × (m ≡ times_from name value n cs)
      by true e = absurd (let f : Some m ≡ None = e in cc f)
      by false e = (refl, same_Some m (times_from name value n cs) e)

  pub told_none : (cs : List Change) (n : ℕ) → None ≡ added_from name value n cs → taken cs ≡ true
  told_none cs n h = by (taken cs) h
    where
      by : (b : Bool) → None ≡ told b (times_from name value n cs) → b ≡ true
      by true e = refl
      by false e = absurd (let f : None ≡ Some (times_from name value n cs) = e in cc f)

  -- one that adds it, and one that takes it
  pub added_one : (c : Change) → decides false name value c ≡ true → c.act ≡ adds → (n : ℕ)
      → added_from name value n (c ∷ []) ≡ Some (suc n)
  added_one c t is n = by c.act is t
    where
      by : (act : Act) → act ≡ adds
          → (bytes_eq c.attr name && (is_end act c.value || bytes_eq c.value value)) ≡ true
          → told ((not (is_addition act) && (bytes_eq c.attr name && (is_end act c.value || bytes_eq c.value value)))
          || false)
          (cond (bytes_eq name c.attr) (act_times act c.value value n) n) ≡ Some (suc n)
      by sets e h = absurd (let f : sets ≡ adds = e in cc f)
      by adds e h =
          let both = and_parts (bytes_eq c.attr name) (bytes_eq c.value value) h in
          λ i. Some (cond ((other_way name c.attr ∙ both.0) i)
          (cond ((other_way value c.value ∙ both.1) i) (suc n) n) n)
      by removes e h = absurd (let f : removes ≡ adds = e in cc f)

  pub taken_one : (c : Change) → decides false name value c ≡ true → is_addition c.act ≡ false → (n : ℕ)
      → added_from name value n (c ∷ []) ≡ None
  taken_one c t is n = ap (λ b. told (b || false) (change_times name value n c))
      (and_from (not (is_addition c.act)) (decides false name value c) (ap not is) t)

  pub decided_one : (c : Change) → decides false name value c ≡ true → (n : ℕ)
      → added_from name value n (c ∷ []) ≡ cond (is_addition c.act) (Some (suc n)) None
  decided_one c t n = by c.act refl
    where
      by : (act : Act) → c.act ≡ act → added_from name value n (c ∷ []) ≡ cond (is_addition act) (Some (suc n)) None
      by sets is = taken_one c t (ap is_addition is) n
      by adds is = added_one c t is n
      by removes is = taken_one c t (ap is_addition is) n
