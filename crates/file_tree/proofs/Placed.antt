-- What is read of a part, by its origin.
use Rattle.std.proofs.Common.{◌≡◌, ◌+◌, ◌-◌, ◌≤◌, ℕ, zero, suc, List, take, drop, replicate, Option, None, Some, refl, sym, subst, arith}
use Rattle.std.specs.Option.{SomeIff}
use Rattle.schema_fact.specs.declared.parts.Part.{Part}
use Rattle.schema_fact.specs.declared.parts.Origin.{Origin}
use Rattle.schema_fact.specs.declared.parts.Origin.TheVariants.{Zeros, Blob, Tree}
use Rattle.file_tree.specs.declared.fault.FileFault.TheVariants.{Deep}
use Rattle.file_tree.specs.Walk.{Read, stops, opened_blob, opened_tree, deepest}
use Rattle.file_tree.specs.Fetching.{Fetch, Only, Writes, Opens, PartsRead, ReadBy, PartRead}

module _ (part : Part) (from count : ℕ) (fetches : List Fetch) (read : Read) where
  pub of_zeros : (n : ℕ) → part.origin ≡ Zeros → Writes (replicate count 0) fetches read → PartRead n part from count fetches read
  unfolding PartRead
  of_zeros zero is h = subst (λ (o : Origin). ReadBy (λ r end at k. Only (stops (Deep r))) part o from count fetches read) (sym is) h
  of_zeros (suc n) is h = subst (λ (o : Origin). ReadBy (λ r end at k. Opens r (λ found. opened_tree found r end) (λ parts. PartsRead (PartRead n) parts at k)) part o from count fetches read) (sym is) h

  pub of_blob : (n : ℕ) (r : List ℕ) → part.origin ≡ Blob r
      → Opens r (λ found. opened_blob found r (part.offset + part.size)) (λ bytes. Writes (take count (drop (part.offset + from) bytes))) fetches read → PartRead n part from count fetches read
  unfolding PartRead
  of_blob zero r is h = subst (λ (o : Origin). ReadBy (λ r end at k. Only (stops (Deep r))) part o from count fetches read) (sym is) h
  of_blob (suc n) r is h = subst (λ (o : Origin). ReadBy (λ r end at k. Opens r (λ found. opened_tree found r end) (λ parts. PartsRead (PartRead n) parts at k)) part o from count fetches read) (sym is) h

  pub of_deep : (n : ℕ) (r : List ℕ) → n ≡ 0 → part.origin ≡ Tree r → Only (stops (Deep r)) fetches read → PartRead n part from count fetches read
  unfolding PartRead
  of_deep n r none is h =
      subst (λ (k : ℕ). PartRead k part from count fetches read) (sym none)
      (subst (λ (o : Origin). ReadBy (λ r end at k. Only (stops (Deep r))) part o from count fetches read) (sym is) h)

  pub of_tree : (n m : ℕ) (r : List ℕ) → n ≡ suc m → part.origin ≡ Tree r
      → Opens r (λ found. opened_tree found r (part.offset + part.size)) (λ parts. PartsRead (PartRead m) parts (part.offset + from) count) fetches read → PartRead n part from count fetches read
  unfolding PartRead
  of_tree n m r deeper is h =
      subst (λ (k : ℕ). PartRead k part from count fetches read) (sym deeper)
      (subst (λ (o : Origin). ReadBy (λ r end at k. Opens r (λ found. opened_tree found r end) (λ parts. PartsRead (PartRead m) parts at k)) part o from count fetches read) (sym is) h)

pub deepest_is : deepest ≡ 63
unfolding deepest
deepest_is = refl

-- how deep trees may nest yet
pub no_deeper : (found : Option ℕ) (depth : ℕ) → found ≡ None → SomeIff found (1 ≤ depth) (depth - 1) → depth ≡ 0
no_deeper None depth is h = omega (arith, h)
no_deeper (Some n) depth is h = absurd (cc is)

pub one_less : (n depth : ℕ) → SomeIff (Some n) (1 ≤ depth) (depth - 1) → depth ≡ suc n
one_less n depth h = omega (arith, h.0, h.1)
