-- Verdicts by the tables of a gate, and when the tables are those of a store.
use Rattle.std.specs.Prelude.{◌≡◌, ℕ, ◌+◌, ◌-◌, ◌&&◌, Bool, not, List, [], ◌∷◌, ◌++◌, drop, get_or, if◌then◌else◌}
use Rattle.std.specs.Prelude.{Option, Some, None, option_map}
use Rattle.std.specs.List.{list_any}
use Rattle.std.specs.Str.{bytes_eq}
use Rattle.std.specs.FinMap.{get, contains_key}
use Rattle.claim_verify.specs.Verifier.{Accepts}
use Rattle.schema_json.specs.Facts.{fact_of}
use Rattle.claim_model.specs.Facts.{Content, Facts, facts_of, passes}
use Rattle.share_model.specs.declared.share.Share.{Share}
use Rattle.share_model.specs.declared.verdict.Rule.TheVariants.{NoShare, NotGenuine, Deleted}
use Rattle.share_model.specs.declared.verdict.Rule.TheVariants.{WrongTarget, NotTransitive, NoLink}
use Rattle.share_model.specs.declared.verdict.Verdict.{Verdict}
use Rattle.share_model.specs.declared.verdict.Verdict.TheVariants.{Served, Absent, Denied}
use Rattle.share_model.specs.Shares.{share_at, is_genuine_share}
use Rattle.share_model.specs.Reach.{has_link}
use Rattle.share_model.specs.Verdicts.{is_empty, is_deleted_in, verdict}
use Rattle.share_gate.specs.declared.gate.ShareGate.{ShareGate}
use Rattle.share_gate.specs.declared.gate.ShareRow.{ShareRow}

-- the row of a share
abbrev pub row_of : Facts → Accepts → Share → ShareRow
row_of facts accepts share =
    record { target = share.target; transitive = share.transitive; genuine = is_genuine_share facts accepts share }

module _ (gate : ShareGate) where
  abbrev pub gate_has_link : List ℕ → List ℕ → Bool
  gate_has_link p r = passes (list_any (bytes_eq r)) (get gate.links p)

  -- p is the ref before place i of a path, which has these refs from there on
  abbrev pub gate_missing_link : ℕ → List ℕ → List (List ℕ) → Option ℕ
  gate_missing_link i p [] = None
  gate_missing_link i p (x ∷ xs) = if gate_has_link p x then gate_missing_link (i + 1) x xs else Some i

  abbrev pub gate_at_end : List ℕ → Option ℕ → Verdict
  gate_at_end r (Some i) = Denied (NoLink i)
  gate_at_end r None = if list_any (bytes_eq r) gate.refs then Served else Absent

  -- the verdict on a path that continues with these refs after a share that counts
  abbrev pub gate_after_share : ShareRow → List ℕ → List (List ℕ) → Verdict
  gate_after_share row r [] = Served
  gate_after_share row r (t ∷ more) =
      if not (bytes_eq t row.target) then Denied WrongTarget
      else if not (is_empty more) && not row.transitive then Denied NotTransitive
      else gate_at_end r (gate_missing_link 2 t more)

  -- the verdict on a path that begins with s, which has this row as a share, or none
  abbrev pub gate_from_share : List ℕ → List ℕ → List (List ℕ) → Option ShareRow → Verdict
  gate_from_share r s rest None = Denied NoShare
  gate_from_share r s rest (Some row) =
      if not row.genuine then Denied NotGenuine
      else if list_any (bytes_eq s) gate.deleted then Denied Deleted
      else gate_after_share row r rest

  abbrev pub gate_path : List ℕ → List (List ℕ) → Verdict
  gate_path r [] = Served
  gate_path r (s ∷ rest) = gate_from_share r s rest (get gate.shares s)

  -- the verdict on the path of the refs of `via` followed by r
  abbrev pub gate_verdict : List ℕ → List (List ℕ) → Verdict
  gate_verdict r via = gate_path r (via ++ r ∷ [])

  -- the missing link of that path from place i on
  abbrev pub gate_missing_from : List ℕ → List (List ℕ) → ℕ → Option ℕ
  gate_missing_from r via i = gate_missing_link i (get_or via (i - 1) []) (drop i via ++ r ∷ [])

  -- the tables are those of this store: they have its refs, links and shares, and say of each share whether it was
  -- deleted
  pub record IsGateOf (held : Content) (accepts : Accepts) : Type 0 where
    pub refs : (r : List ℕ) → list_any (bytes_eq r) gate.refs ≡ contains_key held r
    pub links : (p r : List ℕ) → gate_has_link p r ≡ has_link held p r
    pub shares : (s : List ℕ)
        → get gate.shares s ≡ option_map (row_of (facts_of fact_of held) accepts) (share_at held s)
    pub deleted : (s : List ℕ) (share : Share) → share_at held s ≡ Some share
        → list_any (bytes_eq s) gate.deleted ≡ is_deleted_in held accepts s

  -- the verdict over each store that has these tables
  abbrev pub IsVerdict : List ℕ → List (List ℕ) → Verdict → Type 0
  IsVerdict r via answer =
      (held : Content) (accepts : Accepts) → IsGateOf held accepts → answer ≡ verdict held accepts r via
