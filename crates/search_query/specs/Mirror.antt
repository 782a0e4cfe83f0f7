-- What a constraint asks, as a value without pointers. An absent part has a constructor of its own.
use Rattle.std.specs.Prelude.{ℕ, ℤ, List, Bool, Option}
use Rattle.search_query.specs.declared.query.Op.{Op}
use Rattle.search_query.specs.declared.query.Kin.{Kin}
use Rattle.search_query.specs.declared.query.IntTest.{IntTest}
use Rattle.search_query.specs.declared.query.TextTest.{TextTest}
use Rattle.search_query.specs.declared.query.FileTest.{FileTest}

-- what a constraint has beside `logical` and `permanode`
pub record Leaves : Type 0 where
  pub anything : Option Bool
  pub camli_type : Option (List ℕ)
  pub blob_ref_prefix : Option (List ℕ)
  pub blob_size : Option IntTest
  pub file : Option FileTest

-- what a permanode test has beside `valueInSet` and `relation`
pub record TestLeaves : Type 0 where
  pub at : Option ℤ
  pub attr : Option (List ℕ)
  pub value : Option (List ℕ)
  pub value_matches : Option TextTest
  pub num_value : Option IntTest

mutual
  pub data Asked : Type 0 where
    not_asked : Asked
    asked : Joined → Leaves → Tested → Asked

  pub data Joined : Type 0 where
    no_logical : Joined
    logical : Option Op → Asked → Asked → Joined

  pub data Tested : Type 0 where
    no_permanode : Tested
    permanode : TestLeaves → Asked → Related → Tested

  pub data Related : Type 0 where
    no_relation : Related
    relation : Option Kin → Asked → Asked → Related
