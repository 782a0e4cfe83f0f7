-- What a constraint asks: the mirror of its value.
use Rattle.std.specs.Prelude.{ℕ, Bool, true, false, Option, Some, None, Box}
use Rattle.std.specs.declared.alloc.Global.{Global}
use Rattle.schema_date.specs.declared.date.When.{When}
use Rattle.search_query.specs.declared.query.Sort.{Sort}
use Rattle.search_query.specs.declared.query.Query.{Query}
use Rattle.search_query.specs.declared.query.Constraint.{Constraint}
use Rattle.search_query.specs.declared.query.Constraint.TheOpen.{Constraint-F, Logical-F, PermanodeTest-F, Relation-F}
use Rattle.search_query.specs.declared.query.Constraint.TheFolds.{fold-Constraint, fold-Logical, fold-PermanodeTest, fold-Relation}
use Rattle.search_query.specs.declared.query.Logical.{Logical}
use Rattle.search_query.specs.declared.query.PermanodeTest.{PermanodeTest}
use Rattle.search_query.specs.declared.query.Relation.{Relation}
use Rattle.search_query.specs.Mirror.{Leaves, TestLeaves, Asked, not_asked, asked, Joined, no_logical, logical, Tested, no_permanode, permanode, Related, no_relation, relation}

-- Layers, with what is inside already seen

abbrev pub asked_or_not : Option (Box Asked Global) → Asked
asked_or_not None = not_asked
asked_or_not (Some c) = c.value

abbrev pub logical_or_not : Option Joined → Joined
logical_or_not None = no_logical
logical_or_not (Some l) = l

abbrev pub permanode_or_not : Option Tested → Tested
permanode_or_not None = no_permanode
permanode_or_not (Some p) = p

abbrev pub relation_or_not : Option Related → Related
relation_or_not None = no_relation
relation_or_not (Some p) = p

abbrev pub constraint_step : Constraint-F Asked Joined Tested Related → Asked
constraint_step c = asked (logical_or_not c.logical)
    (record {
      anything = c.anything;
      camli_type = c.camli_type;
      blob_ref_prefix = c.blob_ref_prefix;
      blob_size = c.blob_size;
      file = c.file;
    })
    (permanode_or_not c.permanode)

abbrev pub logical_step : Logical-F Asked Joined Tested Related → Joined
logical_step l = logical l.op (asked_or_not l.a) (asked_or_not l.b)

abbrev pub permanode_step : PermanodeTest-F Asked Joined Tested Related → Tested
permanode_step p = permanode
    (record {
      at = p.at;
      attr = p.attr;
      value = p.value;
      value_matches = p.value_matches;
      num_value = p.num_value;
    })
    (asked_or_not p.value_in_set) (relation_or_not p.relation)

abbrev pub relation_step : Relation-F Asked Joined Tested Related → Related
relation_step p = relation p.relation (asked_or_not p.any) (asked_or_not p.all)

-- Views

abbrev pub view : Constraint → Asked
view = fold-Constraint Asked Joined Tested Related constraint_step logical_step permanode_step relation_step

abbrev pub logical_view : Logical → Joined
logical_view = fold-Logical Asked Joined Tested Related constraint_step logical_step permanode_step relation_step

abbrev pub permanode_view : PermanodeTest → Tested
permanode_view =
    fold-PermanodeTest Asked Joined Tested Related constraint_step logical_step permanode_step relation_step

abbrev pub relation_view : Relation → Related
relation_view =
    fold-Relation Asked Joined Tested Related constraint_step logical_step permanode_step relation_step

-- what a helper over a boxed field sees
abbrev pub asked_view : Option (Box Constraint Global) → Asked
asked_view None = not_asked
asked_view (Some c) = view c.value

-- what a helper over a field by value sees
abbrev pub logical_seen : Option Logical → Joined
logical_seen None = no_logical
logical_seen (Some l) = logical_view l

abbrev pub permanode_seen : Option PermanodeTest → Tested
permanode_seen None = no_permanode
permanode_seen (Some p) = permanode_view p

abbrev pub relation_seen : Option Relation → Related
relation_seen None = no_relation
relation_seen (Some p) = relation_view p

abbrev pub is_asked : Asked → Bool
is_asked not_asked = false
is_asked (asked joined leaves tested) = true

-- A layer's fields outside the cycle

abbrev pub leaves_of : Constraint-F Constraint Logical PermanodeTest Relation → Leaves
leaves_of c = record {
  anything = c.anything;
  camli_type = c.camli_type;
  blob_ref_prefix = c.blob_ref_prefix;
  blob_size = c.blob_size;
  file = c.file;
}

abbrev pub test_leaves_of : PermanodeTest-F Constraint Logical PermanodeTest Relation → TestLeaves
test_leaves_of p = record {
  at = p.at;
  attr = p.attr;
  value = p.value;
  value_matches = p.value_matches;
  num_value = p.num_value;
}

-- Queries

-- a query, with the mirror in place of its constraint
pub record Question : Type 0 where
  pub constraint : Asked
  pub limit : ℕ
  pub sort : Sort
  pub at : When

abbrev pub question : Query → Question
question query = record { constraint = view query.constraint; limit = query.limit; sort = query.sort; at = query.at }
