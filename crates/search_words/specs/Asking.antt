-- What search words ask, as mirrors of constraints (docs/formats/search_words.md).
use Rattle.std.specs.Prelude.{ℕ, List, codes, Option, Some, None}
use Rattle.search_query.specs.declared.query.Op.{Op}
use Rattle.search_query.specs.declared.query.Op.TheVariants.{And, Or, Not}
use Rattle.search_query.specs.declared.query.Kin.TheVariants.{Parent}
use Rattle.search_query.specs.declared.query.TextTest.{TextTest}
use Rattle.search_query.specs.Mirror.{Leaves, TestLeaves, Asked, not_asked, asked, Joined, no_logical, logical, Tested, no_permanode, permanode, Related, no_relation, relation}

abbrev pub no_leaves : Leaves
no_leaves = record { anything = None; camli_type = None; blob_ref_prefix = None; blob_size = None; file = None }

abbrev pub no_test_leaves : TestLeaves
no_test_leaves = record { at = None; attr = None; value = None; value_matches = None; num_value = None }

-- two constraints joined
abbrev pub joins : Op → Asked → Asked → Asked
joins op a b = asked (logical (Some op) a b) no_leaves no_permanode

abbrev pub both : Asked → Asked → Asked
both a b = joins And a b

abbrev pub either : Asked → Asked → Asked
either a b = joins Or a b

-- a constraint that doesn't hold
abbrev pub negation : Asked → Asked
negation a = joins Not a not_asked

abbrev pub tests : TestLeaves → Related → Asked
tests leaves related = asked no_logical no_leaves (permanode leaves not_asked related)

abbrev pub attr_leaves : List ℕ → Option (List ℕ) → Option TextTest → TestLeaves
attr_leaves name v matches = record {
  at = None;
  attr = Some name;
  value = v;
  value_matches = matches;
  num_value = None;
}

-- the permanodes whose attribute has a value, or any where there is none
abbrev pub attr_asked : List ℕ → Option (List ℕ) → Asked
attr_asked name v = tests (attr_leaves name v None) no_relation

-- the permanodes that have an attribute
abbrev pub has_attr : List ℕ → Asked
has_attr name = attr_asked name None

-- the permanodes whose attribute has a value
abbrev pub has_value : List ℕ → List ℕ → Asked
has_value name v = attr_asked name (Some v)

abbrev pub contains : List ℕ → TextTest
contains v = record {
  equals = None;
  contains = Some v;
  has_prefix = None;
  has_suffix = None;
  empty = None;
  byte_length = None;
}

-- the permanodes one of whose values of an attribute contains a text
abbrev pub title_asked : List ℕ → List ℕ → Asked
title_asked name v = tests (attr_leaves name None (Some (contains v))) no_relation

-- the permanodes with a title that contains a text
abbrev pub has_title : List ℕ → Asked
has_title v = title_asked (codes "title") v

abbrev pub prefix_leaves : List ℕ → Leaves
prefix_leaves v = record { anything = None; camli_type = None; blob_ref_prefix = Some v; blob_size = None; file = None }

-- the blobs whose refs begin so
abbrev pub has_prefix : List ℕ → Asked
has_prefix v = asked no_logical (prefix_leaves v) no_permanode

-- the members of the permanodes whose refs begin so
abbrev pub children_of : List ℕ → Asked
children_of r = tests no_test_leaves (relation (Some Parent) (has_prefix r) not_asked)
