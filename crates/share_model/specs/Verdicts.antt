-- What is answered to a path of refs: the first rule that holds says it.
use Rattle.std.specs.Prelude.{ℕ, ◌+◌, ◌&&◌, Bool, true, false, not, List, [], ◌∷◌, ◌++◌, drop, if◌then◌else◌}
use Rattle.std.specs.Prelude.{Option, Some, None, is_some, is_none, unwrap_or}
use Rattle.std.specs.Str.{bytes_eq}
use Rattle.std.specs.FinMap.{contains_key}
use Rattle.claim_verify.specs.Verifier.{Accepts}
use Rattle.schema_json.specs.Facts.{fact_of}
use Rattle.claim_model.specs.Facts.{Content, facts_of, passes}
use Rattle.share_model.specs.declared.share.Share.{Share}
use Rattle.share_model.specs.declared.verdict.Rule.TheVariants.{NoShare, NotGenuine, Deleted}
use Rattle.share_model.specs.declared.verdict.Rule.TheVariants.{WrongTarget, NotTransitive, NoLink}
use Rattle.share_model.specs.declared.verdict.Verdict.{Verdict}
use Rattle.share_model.specs.declared.verdict.Verdict.TheVariants.{Served, Absent, Denied}
use Rattle.share_model.specs.Shares.{share_at, is_genuine_share, is_deleted_share}
use Rattle.share_model.specs.Reach.{has_link}

abbrev pub is_empty : List (List ℕ) → Bool
is_empty [] = true
is_empty (x ∷ xs) = false

-- whether these refs begin with the target of the share
abbrev pub begins_at_target : Option Share → List (List ℕ) → Bool
begins_at_target share [] = false
begins_at_target share (t ∷ more) = passes (λ (x : Share). bytes_eq t x.target) share

-- what the first rule that holds says
abbrev pub first_that_holds : List (Bool × Verdict) → Verdict
first_that_holds [] = Served
first_that_holds (rule ∷ rules) = if rule.0 then rule.1 else first_that_holds rules

module _ (held : Content) where
  -- The first place of a path to whose ref the one before has no link: p is the ref before place i, and from that
  -- place on the path has these refs.
  abbrev pub missing_link : ℕ → List ℕ → List (List ℕ) → Option ℕ
  missing_link i p [] = None
  missing_link i p (x ∷ xs) = if has_link held p x then missing_link (i + 1) x xs else Some i

  -- of the path of some ref and these: a link is asked for from place 2 on
  abbrev pub missing_link_in : List (List ℕ) → Option ℕ
  missing_link_in [] = None
  missing_link_in (t ∷ more) = missing_link 2 t more

  module _ (accepts : Accepts) where
    abbrev pub is_genuine_in : Share → Bool
    is_genuine_in share = is_genuine_share (facts_of fact_of held) accepts share

    abbrev pub is_deleted_in : List ℕ → Bool
    is_deleted_in s = is_deleted_share (facts_of fact_of held) accepts s

    -- The rules for a path of s, under which this is held as a share, and then these refs, of which r is the last: in
    -- their order, each with whether it holds, and what it says.
    abbrev pub rules_for : List ℕ → List ℕ → List (List ℕ) → Option Share → List (Bool × Verdict)
    rules_for r s rest share =
        (is_none share, Denied NoShare)
        ∷ (not (passes is_genuine_in share), Denied NotGenuine)
        ∷ (is_deleted_in s, Denied Deleted)
        ∷ (is_empty rest, Served)
        ∷ (not (begins_at_target share rest), Denied WrongTarget)
        ∷ (not (is_empty (drop 1 rest)) && not (passes (λ (x : Share). x.transitive) share), Denied NotTransitive)
        ∷ (is_some (missing_link_in rest), Denied (NoLink (unwrap_or (missing_link_in rest) 0)))
        ∷ (not (contains_key held r), Absent)
        ∷ (true, Served) ∷ []

    -- no path is empty
    abbrev pub path_verdict : List ℕ → List (List ℕ) → Verdict
    path_verdict r [] = Served
    path_verdict r (s ∷ rest) = first_that_holds (rules_for r s rest (share_at held s))

    -- the answer to the path of the refs of `via`, and then r
    abbrev pub verdict : List ℕ → List (List ℕ) → Verdict
    verdict r via = path_verdict r (via ++ r ∷ [])
