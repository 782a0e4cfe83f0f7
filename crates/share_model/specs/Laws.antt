-- Laws of shares.
use Rattle.std.specs.Prelude.{◌≡◌, ◌↔◌, ℕ, true, false, List, [], ◌∷◌, ◌++◌, codes, Some}
use Rattle.std.specs.FinMap.{contains_key}
use Rattle.claim_verify.specs.Verifier.{Accepts}
use Rattle.schema_fact.specs.declared.kinds.Kind.TheVariants.{Unread}
use Rattle.schema_json.specs.Facts.{kind_of}
use Rattle.claim_model.specs.Facts.{Content}
use Rattle.share_model.specs.declared.share.Share.{Share}
use Rattle.share_model.specs.declared.verdict.Verdict.TheVariants.{Served}
use Rattle.share_model.specs.Shares.{share_in, share_at}
use Rattle.share_model.specs.Reach.{Reaches}
use Rattle.share_model.specs.Verdicts.{is_genuine_in, is_deleted_in, verdict}

abbrev pub SharesAreUnread : Type 0
SharesAreUnread =
    (bytes : List ℕ) (share : Share) → share_in bytes ≡ Some share → kind_of bytes ≡ Unread (codes "claim")

-- the path of the refs of `via`, and then r, begins with s
abbrev pub Begins : List (List ℕ) → List ℕ → List ℕ → Type 0
Begins via r s = (rest : List (List ℕ)) × (via ++ r ∷ [] ≡ s ∷ rest)

-- some path from s to r is served
abbrev pub IsServed : Content → Accepts → List ℕ → List ℕ → Type 0
IsServed held accepts s r = (via : List (List ℕ)) × (Begins via r s × (verdict held accepts r via ≡ Served))

abbrev pub SharesReach : Type 0
SharesReach =
    (held : Content) (accepts : Accepts) (s : List ℕ) (share : Share)
    → share_at held s ≡ Some share → is_genuine_in held accepts share ≡ true → is_deleted_in held accepts s ≡ false
    → (r : List ℕ) → IsServed held accepts s r ↔ ((contains_key held r ≡ true) × Reaches held s share r)

abbrev pub ServedIsHeld : Type 0
ServedIsHeld =
    (held : Content) (accepts : Accepts) (r : List ℕ) (via : List (List ℕ))
    → verdict held accepts r via ≡ Served → contains_key held r ≡ true
