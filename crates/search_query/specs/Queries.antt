-- The query for an attribute's value (docs/search.md).
use Rattle.std.specs.Prelude.{ℕ, List, Some, None}
use Rattle.schema_date.specs.declared.date.When.{When}
use Rattle.search_query.specs.declared.query.Sort.TheVariants.{Ref}
use Rattle.search_query.specs.declared.query.Constraint.{Constraint}
use Rattle.search_query.specs.declared.query.Constraint.TheViews.{roll-Constraint, roll-PermanodeTest}
use Rattle.search_query.specs.declared.query.Query.{Query}

-- the permanodes whose attribute has the value
abbrev pub value_constraint : List ℕ → List ℕ → Constraint
value_constraint name value = roll-Constraint (record {
  logical = None;
  anything = None;
  camli_type = None;
  blob_ref_prefix = None;
  blob_size = None;
  file = None;
  permanode = Some (roll-PermanodeTest (record {
    at = None;
    attr = Some name;
    value = Some value;
    value_matches = None;
    value_in_set = None;
    num_value = None;
    relation = None;
  }));
})

-- the query for them at a time
abbrev pub value_query : List ℕ → List ℕ → When → Query
value_query name value at = record { constraint = value_constraint name value; limit = 1000000; sort = Ref; at = at }
