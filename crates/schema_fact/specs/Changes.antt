-- What claims change: each is a list of changes of the attributes of permanodes.
use Rattle.std.specs.Prelude.{List, [], ◌∷◌}
use Rattle.schema_fact.specs.declared.changes.Act.TheVariants as act
use Rattle.schema_fact.specs.declared.changes.Change.{Change}
use Rattle.schema_fact.specs.declared.changes.ChangeView.{ChangeView}
use Rattle.schema_fact.specs.declared.kinds.What.{What}
use Rattle.schema_fact.specs.declared.kinds.What.TheVariants.{Set, Add, Del, Delete, Multi}

-- the change that is lent
abbrev pub change_seen : ChangeView → Change
change_seen c = record { on = c.on.now; act = c.act; attr = c.attr.now; value = c.value.now }

-- the changes of a claim, in their order: their places are counted from 0
abbrev pub changes_of : What → List Change
changes_of (Set on attr value) = record { on = on; act = act.Set; attr = attr; value = value } ∷ []
changes_of (Add on attr value) = record { on = on; act = act.Add; attr = attr; value = value } ∷ []
changes_of (Del on attr value) = record { on = on; act = act.Del; attr = attr; value = value } ∷ []
changes_of (Delete target) = []
changes_of (Multi changes) = changes
