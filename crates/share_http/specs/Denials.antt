-- The text of a denial.
use Rattle.std.specs.Prelude.{ℕ, List, [], ◌++◌, codes, decimal}
use Rattle.share_model.specs.declared.verdict.Rule.{Rule}
use Rattle.share_model.specs.declared.verdict.Rule.TheVariants.{NoShare, NotGenuine, Deleted}
use Rattle.share_model.specs.declared.verdict.Rule.TheVariants.{WrongTarget, NotTransitive, NoLink}

-- the name of the rule in the text
abbrev pub rule_name : Rule → List ℕ
rule_name NoShare = codes "no share"
rule_name NotGenuine = codes "not genuine"
rule_name Deleted = codes "deleted"
rule_name WrongTarget = codes "wrong target"
rule_name NotTransitive = codes "not transitive"
rule_name (NoLink at) = codes "no link"

-- the place of the link that is missing
abbrev pub rule_place : Rule → List ℕ
rule_place NoShare = []
rule_place NotGenuine = []
rule_place Deleted = []
rule_place WrongTarget = []
rule_place NotTransitive = []
rule_place (NoLink at) = codes ",\"at\":" ++ decimal at

abbrev pub denied_text : Rule → List ℕ
denied_text rule =
    codes "{\"error\":\"share\",\"rule\":\"" ++ rule_name rule ++ codes "\"" ++ rule_place rule ++ codes "}"
