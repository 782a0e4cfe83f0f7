-- Lines that are made of the sizes that a store tells.
use Rattle.std.proofs.Common.{◌≡◌, ℕ, Option, None, Some, List, length, refl, sym, ap, ◌∙◌}
use Rattle.std.specs.FinMap.{get}
use Rattle.std.specs.Option.{ForSome, option_map}
use Rattle.pack_disk.specs.Packs.{Packs}
use Rattle.pack_store.specs.declared.rows.Row.{Row}
use Rattle.pack_store.specs.Archive.{Archive}
use Rattle.pack_store.specs.Puts.{blobs_of}
use Rattle.pack_store.specs.Reading.{size_of}
use Rattle.pack_store.specs.Rows.{number_of}
use Rattle.pack_store.proofs.Looking.{row_of_number}
use Rattle.perkeep_lines.specs.Outputs.{size_line}
use Rattle.perkeep_top.specs.Stat.{IsSizeLine}
use Rattle.top_frame.specs.Steps.{IsAbsent}

option_twice : {A B C : Type 0} (f : B → C) (h : A → B) (o : Option A) → option_map f (option_map h o) ≡ option_map (λ x. f (h x)) o
option_twice f h None = refl
option_twice f h (Some x) = refl

pub none_within : {A B : Type 0} (f : A → B) (o : Option A) → option_map f o ≡ None → o ≡ None
none_within f None e = refl
none_within f (Some x) e = absurd (cc e)

-- a ref that has no size has no number
no_number : (r : List ℕ) (rows : List Row) (number : Option ℕ) → number_of r rows ≡ number → size_of r rows ≡ None → number_of r rows ≡ None
no_number r rows None is none = is
no_number r rows (Some n) is none = let found = row_of_number (λ (row : Row). row.size) r rows n is in absurd (let bad : Some found.row.size ≡ None = sym found.found ∙ none in cc bad)

module _ {D : Type 0} (told : Option Packs) (r : List ℕ) (s : Archive D) (size : Option ℕ) (is : size ≡ size_of r s.rows) (same : ForSome told (λ held. size ≡ option_map (λ (bytes : List ℕ). length bytes) (get (blobs_of held) r))) where
  -- the line of a blob that has a size
  pub line_of_size : (n : ℕ) → size ≡ Some n → (line : List ℕ) → line ≡ size_line (r, n) → IsSizeLine s r told line
  line_of_size n some line made = record {
    is = ap (option_map (λ (n : ℕ). size_line (r, n))) (sym is ∙ some) ∙ ap Some (sym made);
    stands = λ held tells.
        sym (option_twice (λ n. size_line (r, n)) (λ (bytes : List ℕ). length bytes) (get (blobs_of held) r)) ∙ ap (option_map (λ n. size_line (r, n))) (sym (same held tells) ∙ some) ∙ ap Some (sym made);
  }

  -- one that has none isn't there
  pub none_of_size : size ≡ None → IsAbsent s r told r
  none_of_size none = record {
    same = refl;
    lacks = no_number r s.rows (number_of r s.rows) refl (sym is ∙ none);
    absent = λ held tells. none_within (λ (bytes : List ℕ). length bytes) (get (blobs_of held) r) (sym (same held tells) ∙ none);
  }
