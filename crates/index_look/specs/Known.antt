-- What was found of some refs while one answer is made.
use Rattle.std.specs.Prelude.{◌≡◌, ℕ, Bool, true, List}
use Rattle.std.specs.BTreeSet.{BTreeSet, contains}
use Rattle.blobref.specs.Blobref.{ref_cmp}
use Rattle.claim_model.specs.Facts.{Facts}
use Rattle.claim_model.specs.Ready.{is_ready}
use Rattle.claim_model.specs.Trees.{is_sound_tree}
use Rattle.index_look.specs.declared.known.Known.{Known}

-- the test holds of each ref of the set
abbrev pub HoldsOf : (List ℕ → Bool) → BTreeSet (List ℕ) → Type 0
HoldsOf test refs = (r : List ℕ) → contains ref_cmp refs r ≡ true → test r ≡ true

-- what was found is so
pub record IsSo (facts : Facts) (known : Known) : Type 0 where
  pub ready : HoldsOf (is_ready facts) known.ready
  pub sound : HoldsOf (is_sound_tree facts) known.sound
