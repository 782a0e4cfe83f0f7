-- What a permanode test asks of a permanode and of the values of its attribute (docs/search.md). An absent key asks nothing.
use Rattle.std.specs.Prelude.{ℕ, ℤ, ◌&&◌, ◌||◌, Bool, true, false, not, List, [], length, nat_lt, filter, Option, Some, None, is_some, if◌then◌else◌}
use Rattle.std.specs.List.{list_all, list_any}
use Rattle.std.specs.Str.{bytes_eq}
use Rattle.blobref.specs.Blobref.{is_blobref}
use Rattle.claim_verify.specs.Verifier.{Accepts}
use Rattle.schema_date.specs.declared.date.When.{When}
use Rattle.schema_date.specs.declared.date.When.TheVariants.{At}
use Rattle.claim_model.specs.Facts.{Facts}
use Rattle.claim_model.specs.Ready.{ready_fact}
use Rattle.claim_model.specs.Genuine.{is_genuine_permanode}
use Rattle.claim_model.specs.Deleted.{is_deleted}
use Rattle.claim_model.specs.Claims.{member_attribute, parents, values}
use Rattle.search_query.specs.declared.query.TextTest.{TextTest}
use Rattle.search_query.specs.declared.query.Kin.{Kin}
use Rattle.search_query.specs.declared.query.Kin.TheVariants.{Parent, Child}
use Rattle.search_query.specs.Mirror.{TestLeaves}
use Rattle.search_meets.specs.Tests.{if_asked, int_meets, text_meets}

-- the date of a test, or else the time at which it is asked
abbrev pub time_of : Option ℤ → When → When
time_of None when = when
time_of (Some date) when = At date

-- a genuine permanode that isn't deleted at that time
abbrev pub is_live : Facts → Accepts → When → List ℕ → Bool
is_live facts accepts when r = is_genuine_permanode facts accepts r && not (is_deleted facts accepts when r)

-- whether it is the text of a ready ref
abbrev pub is_ready_ref : Facts → List ℕ → Bool
is_ready_ref facts text = is_blobref text && is_some (ready_fact facts text)

-- what is asked of a value by itself: `value` is that value, `valueMatches` a test of it
abbrev pub value_meets : Option (List ℕ) → Option TextTest → List ℕ → Bool
value_meets value matches v = if_asked (λ t. bytes_eq t v) value && text_meets matches v

-- what is said of refs by a constraint, where it is asked
abbrev pub where_asked : Bool → (List ℕ → Bool) → Option (List ℕ → Bool)
where_asked false says = None
where_asked true says = Some says

-- a value is in a set where it is the text of a ready ref that is said to be in it
abbrev pub is_in_set : Facts → Option (List ℕ → Bool) → List ℕ → Bool
is_in_set facts None v = true
is_in_set facts (Some says) v = is_ready_ref facts v && says v

-- whether something is asked of one value
abbrev pub asks_of_one : TestLeaves → Option (List ℕ → Bool) → Bool
asks_of_one leaves set = is_some set || (is_some leaves.value || is_some leaves.value_matches)

-- some one value meets all that is asked of one
abbrev pub some_value : Facts → TestLeaves → Option (List ℕ → Bool) → List (List ℕ) → Bool
some_value facts leaves set vs = list_any (λ v. is_in_set facts set v && value_meets leaves.value leaves.value_matches v) vs

-- some value meets what is asked of one; where neither that nor their number is asked, there is one
abbrev pub values_hold : Facts → TestLeaves → Option (List ℕ → Bool) → List (List ℕ) → Bool
values_hold facts leaves set vs =
    if asks_of_one leaves set then some_value facts leaves set vs else is_some leaves.num_value || nat_lt 0 (length vs)

-- the same, and their number meets `numValue`
abbrev pub values_meet : Facts → TestLeaves → Option (List ℕ → Bool) → List (List ℕ) → Bool
values_meet facts leaves set vs = values_hold facts leaves set vs && int_meets leaves.num_value (length vs)

-- what a test without `attr` asks of values isn't looked at
abbrev pub attr_meets : Facts → Accepts → TestLeaves → Option (List ℕ → Bool) → When → Option (List ℕ) → List ℕ → Bool
attr_meets facts accepts leaves set when None r = true
attr_meets facts accepts leaves set when (Some name) r = values_meet facts leaves set (values facts accepts when r name)

-- a permanode not deleted at that time whose values meet the test
abbrev pub live_meets : Facts → Accepts → TestLeaves → Option (List ℕ → Bool) → When → Option (List ℕ) → List ℕ → Bool
live_meets facts accepts leaves set when attr r = is_live facts accepts when r && attr_meets facts accepts leaves set when attr r

-- the refs that stand in a relation to r: its children are the ready refs among its members, its parents have it among theirs. A relation
-- that isn't named has none
abbrev pub kin_of : Facts → Accepts → Option Kin → When → List ℕ → List (List ℕ)
kin_of facts accepts None when r = []
kin_of facts accepts (Some Parent) when r = parents facts accepts when r
kin_of facts accepts (Some Child) when r = filter (is_ready_ref facts) (values facts accepts when r member_attribute)

-- each of some refs is said to meet a constraint, or any of them is
abbrev pub each_or_any : Bool → (List ℕ → Bool) → List (List ℕ) → Bool
each_or_any true says refs = list_all says refs
each_or_any false says refs = list_any says refs

-- the same, where it is asked
abbrev pub kin_meet : Bool → Option (List ℕ → Bool) → List (List ℕ) → Bool
kin_meet each None refs = true
kin_meet each (Some says) refs = each_or_any each says refs
