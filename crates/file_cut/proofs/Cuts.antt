-- What is cut, one run after the other.
use Rattle.std.proofs.Common.{◌≡◌, ◌≤◌, ◌<◌, ◌-◌, ◌*◌, ℕ, zero, suc, Bool, true, false, List, [], ◌∷◌, ◌++◌, take, drop, length, map, flat_map, nat_le, cond, refl, sym, ap, ◌∙◌, append_assoc, append-nil, arith, length-append, length-drop}
use Rattle.std.proofs.Math.Nat.{suc-mul}
use Rattle.std.proofs.lemmas.List.{take-append-drop, take_at, drop_at, take_all, drop_all, length-take-le}
use Rattle.std.proofs.lemmas.List.Concat.{flat_map-append}
use Rattle.std.proofs.Common.{◌⊎◌, inl, inr}
use Rattle.std.proofs.lemmas.Bool.{cases_lt}
use Rattle.std.proofs.lemmas.Bool.Decides.{nat_tests}
use Rattle.file_cut.specs.Cutting.{cut_within, cut, run_blobs, run_blob, blob_part, run_part, below_file, parts_of_file, AreWhole, kept_of, IsFront}
use Rattle.file_cut.specs.Laws.{BlobsInOrder}

length-cons : {A : Type 0} (x : A) (xs : List A) → length (x ∷ xs) ≡ suc (length xs)
length-cons x xs = omega arith

take-over : {A : Type 0} {size : ℕ} (front more : List A) → length front ≤ size → take size (front ++ more) ≡ front ++ take (size - length front) more
take-over {size = size} [] more fits = let e : size ≡ size - 0 = omega arith in ap (λ (n : ℕ). take n more) e
take-over {size = zero} (x ∷ front) more fits = absurd (omega arith)
take-over {size = suc n} (x ∷ front) more fits =
    let e : n - length front ≡ suc n - length (x ∷ front) = omega arith in
    ap (λ l. x ∷ l) (take-over {size = n} front more (omega arith) ∙ ap (λ (k : ℕ). front ++ take k more) e)

-- a run of blobs, and then others
in_run : (first last rest : List (List ℕ)) (others : List (List ℕ)) → first ≡ last ++ rest → run_blobs first ++ others ≡ last ++ (rest ++ (run_blob first ∷ others))
in_run first last rest others is =
    append_assoc first (run_blob first ∷ []) others
    ∙ ap (λ (l : List (List ℕ)). l ++ (run_blob first ∷ others)) is
    ∙ append_assoc last rest (run_blob first ∷ others)

module _ {A : Type 0} (size : ℕ) (some : 0 < size) where
  -- as many runs as are needed give the same
  enough : (n m : ℕ) (xs : List A) → length xs ≤ n → length xs ≤ m → cut_within n size xs ≡ cut_within m size xs
  enough zero zero xs h k = refl
  enough zero (suc m) [] h k = refl
  enough zero (suc m) (x ∷ xs) h k = absurd (omega arith)
  enough (suc n) zero [] h k = refl
  enough (suc n) zero (x ∷ xs) h k = absurd (omega arith)
  enough (suc n) (suc m) [] h k = refl
  enough (suc n) (suc m) (x ∷ xs) h k =
      let less : length (drop size (x ∷ xs)) ≡ length (x ∷ xs) - size = length-drop size (x ∷ xs) in
      ap (λ (l : List (List A)). take size (x ∷ xs) ∷ l) (enough n m (drop size (x ∷ xs)) (omega (arith, less, some)) (omega (arith, less, some)))

  -- a whole run in front
  pub cut-run : (run xs : List A) → length run ≡ size → cut size (run ++ xs) ≡ run ∷ cut size xs
  cut-run [] xs is = absurd (omega (arith, some, is))
  cut-run (x ∷ run) xs is =
      let all : length ((x ∷ run) ++ xs) ≡ suc (length (run ++ xs)) = omega arith in
      let sum = length-append run xs in
      ap (λ (n : ℕ). cut_within n size ((x ∷ run) ++ xs)) all
      ∙ (λ i. take_at (x ∷ run) xs size is i ∷ cut_within (length (run ++ xs)) size (drop_at (x ∷ run) xs size is i))
      ∙ ap (λ (l : List (List A)). (x ∷ run) ∷ l) (enough (length (run ++ xs)) (length xs) xs (omega (arith, sum)) (omega arith))

  -- the last run
  pub cut-last : (run : List A) → 0 < length run → length run ≤ size → cut size run ≡ run ∷ []
  cut-last [] h k = absurd (omega arith)
  cut-last (x ∷ run) h k =
      let none : drop size (x ∷ run) ≡ [] = drop_all size (x ∷ run) k in
      let last : cut_within (length run) size (drop size (x ∷ run)) ≡ [] = ap (cut_within (length run) size) none ∙ nothing (length run) in
      let all : length (x ∷ run) ≡ suc (length run) = omega arith in
      ap (λ (n : ℕ). cut_within n size (x ∷ run)) all ∙ (λ i. take_all size (x ∷ run) k i ∷ last i)
    where
      nothing : (n : ℕ) → cut_within {A = A} n size [] ≡ []
      nothing zero = refl
      nothing (suc n) = refl

  -- the first run
  pub cut-first : (xs : List A) → 0 < length xs → cut size xs ≡ take size xs ∷ cut size (drop size xs)
  cut-first [] h = absurd (omega arith)
  cut-first (x ∷ xs) h =
      let less : length (drop size (x ∷ xs)) ≡ length (x ∷ xs) - size = length-drop size (x ∷ xs) in
      ap (λ (n : ℕ). cut_within n size (x ∷ xs)) (length-cons x xs)
      ∙ ap (λ (l : List (List A)). take size (x ∷ xs) ∷ l) (enough (length xs) (length (drop size (x ∷ xs))) (drop size (x ∷ xs)) (omega (arith, less, some)) (omega arith))

  -- so many whole runs in front
  pub cut-behind : (n : ℕ) (front rest : List A) → length front ≡ n * size → cut size (front ++ rest) ≡ cut size front ++ cut size rest
  cut-behind zero [] rest is = refl
  cut-behind zero (x ∷ front) rest is = absurd (omega (arith, is))
  cut-behind (suc n) front rest is =
      let run = take size front in
      let behind = drop size front in
      let more = suc-mul n size in
      let long : length run ≡ size = length-take-le size front (omega (arith, is, more)) in
      let left : length behind ≡ n * size = omega (arith, length-drop size front, is, more) in
      let both : front ≡ run ++ behind = sym (take-append-drop size front) in
      ap (λ (l : List A). cut size (l ++ rest)) both
      ∙ ap (cut size) (append_assoc run behind rest)
      ∙ cut-run run (behind ++ rest) long
      ∙ ap (λ (l : List (List A)). run ∷ l) (cut-behind n behind rest left)
      ∙ ap (λ (l : List (List A)). l ++ cut size rest) (sym (ap (cut size) both ∙ cut-run run behind long))

  pub cut-runs : (runs : List (List A)) (xs : List A) → AreWhole size runs → cut size (flat_map (λ run. run) runs ++ xs) ≡ runs ++ cut size xs
  cut-runs [] xs whole = refl
  cut-runs (run ∷ runs) xs whole =
      ap (cut size) (append_assoc run (flat_map (λ r. r) runs) xs)
      ∙ cut-run run (flat_map (λ r. r) runs ++ xs) whole.0
      ∙ ap (λ (l : List (List A)). run ∷ l) (cut-runs runs xs whole.1)

  pub whole-push : (runs : List (List A)) (run : List A) → AreWhole size runs → length run ≡ size → AreWhole size (runs ++ run ∷ [])
  whole-push [] run whole is = (is, tt)
  whole-push (r ∷ runs) run whole is = (whole.0, whole-push runs run whole.1 is)

  -- a first run is long
  pub whole_long : (runs : List (List A)) (run : List A) → AreWhole size (run ∷ runs) → size ≤ length (flat_map (λ r. r) (run ∷ runs))
  whole_long runs run whole = let sum = length-append run (flat_map (λ r. r) runs) in omega (arith, sum, whole.0)

  -- a first run begins with what fits in it
  pub record BeginsWith (front : List A) (runs : List (List A)) : Type 0 where
    pub first : List A
    pub rest : List A
    pub others : List (List A)
    pub is : runs ≡ first ∷ others
    pub front_is : first ≡ front ++ rest

  pub cut-begins : (front more : List A) → length front ≤ size → 0 < length (front ++ more) → BeginsWith front (cut size (front ++ more))
  cut-begins front more fits nonempty = go (front ++ more) refl nonempty
    where
      split : take size (front ++ more) ≡ front ++ take (size - length front) more
      split = take-over front more fits

      go : (xs : List A) → front ++ more ≡ xs → 0 < length xs → BeginsWith front (cut size (front ++ more))
      go [] is h = absurd (omega arith)
      go (x ∷ xs) is h = record {
        first = take size (x ∷ xs);
        rest = take (size - length front) more;
        others = cut_within (length xs) size (drop size (x ∷ xs));
        is = ap (cut size) is ∙ ap (λ (n : ℕ). cut_within n size (x ∷ xs)) (length-cons x xs);
        front_is = ap (take size) (sym is) ∙ split;
      }

-- ---- the blobs of chunks

pub below_many : (size : ℕ) (chunks : List (List ℕ)) → size < length chunks → below_file size chunks ≡ flat_map run_blobs (cut size chunks)
below_many size chunks h = let e : nat_le (length chunks) size ≡ false = grind (arith, nat_tests, h) in ap (λ (b : Bool). cond b chunks (flat_map run_blobs (cut size chunks))) e

pub below_few : (size : ℕ) (chunks : List (List ℕ)) → length chunks ≤ size → below_file size chunks ≡ chunks
below_few size chunks h = let e : nat_le (length chunks) size ≡ true = grind (arith, nat_tests, h) in ap (λ (b : Bool). cond b chunks (flat_map run_blobs (cut size chunks))) e

pub parts_many : (size : ℕ) (chunks : List (List ℕ)) → size < length chunks → parts_of_file size chunks ≡ map run_part (cut size chunks)
parts_many size chunks h = let e : nat_le (length chunks) size ≡ false = grind (arith, nat_tests, h) in ap (λ (b : Bool). cond b (map blob_part chunks) (map run_part (cut size chunks))) e

pub parts_few : (size : ℕ) (chunks : List (List ℕ)) → length chunks ≤ size → parts_of_file size chunks ≡ map blob_part chunks
parts_few size chunks h = let e : nat_le (length chunks) size ≡ true = grind (arith, nat_tests, h) in ap (λ (b : Bool). cond b (map blob_part chunks) (map run_part (cut size chunks))) e

module _ (size : ℕ) (some : 0 < size) where
  -- what is kept is a front of what the whole file has, whatever else it holds
  pub kept_front : (runs : List (List (List ℕ))) (last more : List (List ℕ)) → AreWhole size runs → length last ≤ size → (runs ≡ []) ⊎ (0 < length (last ++ more))
      → IsFront (kept_of runs last) (below_file size (flat_map (λ r. r) runs ++ (last ++ more)))
  kept_front [] last more whole fits either = go (cases_lt size (length (last ++ more)))
    where
      go : (size < length (last ++ more)) ⊎ (length (last ++ more) ≤ size) → IsFront last (below_file size (last ++ more))
      go (inl many) =
          let begins = cut-begins size some last more fits (omega (arith, many)) in (
            begins.rest ++ (run_blob begins.first ∷ flat_map run_blobs begins.others),
            below_many size (last ++ more) many ∙ ap (flat_map run_blobs) begins.is ∙ in_run begins.first last begins.rest (flat_map run_blobs begins.others) begins.front_is,
          )
      go (inr few) = (more, below_few size (last ++ more) few)
  kept_front (run ∷ runs) last more whole fits (inl none) = absurd (let bad : ⊥ = cc none in bad)
  kept_front (run ∷ runs) last more whole fits (inr nonempty) =
      let all = flat_map (λ (r : List (List ℕ)). r) (run ∷ runs) in
      let many : size < length (all ++ (last ++ more)) = omega (arith, length-append all (last ++ more), whole_long size some runs run whole, nonempty) in
      let begins = cut-begins size some last more fits nonempty in
      let cut_is : cut size (all ++ (last ++ more)) ≡ (run ∷ runs) ++ (begins.first ∷ begins.others) = cut-runs size some (run ∷ runs) (last ++ more) whole ∙ ap (λ (l : List (List (List ℕ))). (run ∷ runs) ++ l) begins.is in (
        begins.rest ++ (run_blob begins.first ∷ flat_map run_blobs begins.others),
        below_many size (all ++ (last ++ more)) many
            ∙ ap (flat_map run_blobs) cut_is
            ∙ flat_map-append run_blobs (run ∷ runs) (begins.first ∷ begins.others)
            ∙ ap (λ (l : List (List ℕ)). flat_map run_blobs (run ∷ runs) ++ l) (in_run begins.first last begins.rest (flat_map run_blobs begins.others) begins.front_is)
            ∙ sym (append_assoc (flat_map run_blobs (run ∷ runs)) last _),
      )

  -- the blob of a run that is whole comes next where more chunks do
  pub kept_closing : (runs : List (List (List ℕ))) (last : List (List ℕ)) (next : List ℕ) (more : List (List ℕ)) → AreWhole size runs → length last ≡ size
      → (rest : List (List ℕ)) × (below_file size ((flat_map (λ (r : List (List ℕ)). r) runs ++ last) ++ next ∷ more) ≡ kept_of runs last ++ (run_blob last ∷ rest))
  kept_closing runs last next more whole is =
      let all = flat_map (λ (r : List (List ℕ)). r) runs ++ last in
      let many : size < length (all ++ next ∷ more) = omega (arith, length-append all (next ∷ more), length-append (flat_map (λ (r : List (List ℕ)). r) runs) last, is) in
      let rest = flat_map run_blobs (cut size (next ∷ more)) in
      let cut_is : cut size (all ++ next ∷ more) ≡ runs ++ (last ∷ cut size (next ∷ more)) =
      ap (cut size) (append_assoc (flat_map (λ (r : List (List ℕ)). r) runs) last (next ∷ more))
      ∙ cut-runs size some runs (last ++ next ∷ more) whole
      ∙ ap (λ (l : List (List (List ℕ))). runs ++ l) (cut-run size some last (next ∷ more) is) in (
        rest,
        below_many size (all ++ next ∷ more) many
            ∙ ap (flat_map run_blobs) cut_is
            ∙ flat_map-append run_blobs runs (last ∷ cut size (next ∷ more))
            ∙ ap (λ (l : List (List ℕ)). flat_map run_blobs runs ++ l) (append_assoc last (run_blob last ∷ []) rest)
            ∙ sym (append_assoc (flat_map run_blobs runs) last (run_blob last ∷ rest)),
      )

  -- once all chunks are there: a single run
  pub kept_single : (last : List (List ℕ)) → length last ≤ size → (below_file size last ≡ last) × (parts_of_file size last ≡ map blob_part last)
  kept_single last fits = (below_few size last fits, parts_few size last fits)

  -- or several
  pub kept_several : (run : List (List ℕ)) (runs : List (List (List ℕ))) (last : List (List ℕ)) → AreWhole size (run ∷ runs) → length last ≤ size → 0 < length last
      → (below_file size (flat_map (λ r. r) (run ∷ runs) ++ last) ≡ kept_of (run ∷ runs) (run_blobs last)) × (parts_of_file size (flat_map (λ r. r) (run ∷ runs) ++ last) ≡ map run_part ((run ∷ runs) ++ last ∷ []))
  kept_several run runs last whole fits nonempty =
      let all = flat_map (λ (r : List (List ℕ)). r) (run ∷ runs) in
      let many : size < length (all ++ last) = omega (arith, length-append all last, whole_long size some runs run whole, nonempty) in
      let cut_is : cut size (all ++ last) ≡ (run ∷ runs) ++ last ∷ [] = cut-runs size some (run ∷ runs) last whole ∙ ap (λ (l : List (List (List ℕ))). (run ∷ runs) ++ l) (cut-last size some last nonempty fits) in (
        below_many size (all ++ last) many ∙ ap (flat_map run_blobs) cut_is ∙ flat_map-append run_blobs (run ∷ runs) (last ∷ []) ∙ ap (λ (l : List (List ℕ)). flat_map run_blobs (run ∷ runs) ++ l) (append-nil (run_blobs last)),
        parts_many size (all ++ last) many ∙ ap (map run_part) cut_is,
      )

-- ---- cut and joined

module _ {A : Type 0} (size : ℕ) (some : 0 < size) where
  cut_joined : (n : ℕ) (xs : List A) → length xs ≤ n → flat_map (λ (r : List A). r) (cut_within n size xs) ≡ xs
  cut_joined zero [] h = refl
  cut_joined zero (x ∷ xs) h = absurd (omega arith)
  cut_joined (suc n) [] h = refl
  cut_joined (suc n) (x ∷ xs) h =
      let less : length (drop size (x ∷ xs)) ≡ length (x ∷ xs) - size = length-drop size (x ∷ xs) in
      ap (λ (l : List A). take size (x ∷ xs) ++ l) (cut_joined n (drop size (x ∷ xs)) (omega (arith, less, some))) ∙ take-append-drop size (x ∷ xs)

  -- the runs in a row are the list
  pub flat-cut : (xs : List A) → flat_map (λ (r : List A). r) (cut size xs) ≡ xs
  flat-cut xs = cut_joined (length xs) xs (omega arith)

pub blobs_in_order : BlobsInOrder
blobs_in_order = record {
  joined = λ size some bytes. flat-cut size some bytes;
  next = λ size some run rest is. cut-run size some run rest is;
  last = λ size some run nonempty fits. cut-last size some run nonempty fits;
  front = λ size some runs last more whole fits either. kept_front size some runs last more whole fits either;
  single = λ size last fits. (below_few size last fits, parts_few size last fits);
  several = λ size some run runs last whole fits nonempty. kept_several size some run runs last whole fits nonempty;
}
