-- The permanodes that a ref touches: their values may change when its deletion changes, or when it is new.
use Rattle.std.specs.Prelude.{ℕ, List, [], ◌∷◌, map, Option, Some, None, if◌then◌else◌}
use Rattle.std.specs.FinMap.{get}
use Rattle.schema_fact.specs.declared.kinds.Fact.{Fact}
use Rattle.schema_fact.specs.declared.kinds.What.{What}
use Rattle.schema_fact.specs.declared.kinds.Kind.{Kind}
use Rattle.schema_fact.specs.declared.kinds.Kind.TheVariants.{Plain, Key, File, Bytes, Directory, StaticSet, Permanode, Claim, Unread}
use Rattle.claim_model.specs.Facts.{Facts}
use Rattle.schema_fact.specs.Changes.{changes_of}
use Rattle.index_rows.specs.States.{States, says_genuine}

-- the permanodes that a claim changes, if its row says that it is genuine
abbrev pub changes_concern : States → List ℕ → What → List (List ℕ)
changes_concern state y what = if says_genuine state y then map (λ change. change.on) (changes_of what) else []

abbrev pub kind_concerns : States → List ℕ → Kind → List (List ℕ)
kind_concerns state y Plain = []
kind_concerns state y (Key name) = []
kind_concerns state y (File name parts) = []
kind_concerns state y (Bytes parts) = []
kind_concerns state y (Directory name listing) = []
kind_concerns state y (StaticSet members) = []
kind_concerns state y (Permanode signed) = y ∷ []
kind_concerns state y (Claim signed date what) = changes_concern state y what
kind_concerns state y (Unread name) = []

abbrev pub fact_concerns : States → List ℕ → Option Fact → List (List ℕ)
fact_concerns state y None = []
fact_concerns state y (Some fact) = kind_concerns state y fact.kind

-- the permanodes whose values may change when the deletion of y changes, or when y is new
abbrev pub concerned_by : Facts → States → List ℕ → List (List ℕ)
concerned_by facts state y = fact_concerns state y (get facts y)
