-- The validity of a fact is a proposition: any two proofs of it are equal.
use Rattle.std.specs.Prelude.{ℕ, List, length}
use Rattle.std.proofs.Props.{props}
use Rattle.std.specs.Coded.{Unit-prop}
use Rattle.schema_fact.specs.declared.parts.Part.{Part}
use Rattle.schema_fact.specs.declared.kinds.Fact.{Fact}
use Rattle.schema_fact.specs.declared.kinds.What.{What}
use Rattle.schema_fact.specs.declared.kinds.What.TheVariants.{Set, Add, Del, Delete, Multi}
use Rattle.schema_fact.specs.declared.kinds.Kind.{Kind}
use Rattle.schema_fact.specs.declared.kinds.Kind.TheVariants.{Plain, Key, File, Bytes, Directory, StaticSet}
use Rattle.schema_fact.specs.declared.kinds.Kind.TheVariants.{Permanode, Claim, Unread}
use Rattle.schema_fact.specs.Limits.{MeetsLimits, IsChangeCount}
use Rattle.schema_fact.specs.Validity.{HasValidChanges, IsValidKind, IsValid}

parts_prop : (parts : List Part) → IsProp (MeetsLimits parts)
parts_prop parts = Prim.hlevel props

count_prop : (n : ℕ) → IsProp (IsChangeCount n)
count_prop n = Prim.hlevel props

what_prop : (w : What) → IsProp (HasValidChanges w)
what_prop (Set on attr value) = Unit-prop
what_prop (Add on attr value) = Unit-prop
what_prop (Del on attr value) = Unit-prop
what_prop (Delete target) = Unit-prop
what_prop (Multi changes) = count_prop (length changes)

kind_prop : (k : Kind) → IsProp (IsValidKind k)
kind_prop Plain = Unit-prop
kind_prop (Key name) = Unit-prop
kind_prop (File name parts) = parts_prop parts
kind_prop (Bytes parts) = parts_prop parts
kind_prop (Directory name entries) = Unit-prop
kind_prop (StaticSet members) = Unit-prop
kind_prop (Permanode signed) = Unit-prop
kind_prop (Claim signed date what) = what_prop what
kind_prop (Unread type) = Unit-prop

pub fact_prop : (fact : Fact) → IsProp (IsValid fact)
fact_prop fact = kind_prop fact.kind
