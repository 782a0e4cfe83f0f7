-- A layer of each struct of the cycle.
use Rattle.std.proofs.Common.{◌≡◌, ◌∙◌, Option, Some, None, is_some, Box, refl, ap}
use Rattle.std.specs.declared.alloc.Global.{Global}
use Rattle.search_query.specs.declared.query.Op.{Op}
use Rattle.search_query.specs.declared.query.Constraint.{Constraint}
use Rattle.search_query.specs.declared.query.Logical.{Logical}
use Rattle.search_query.specs.declared.query.PermanodeTest.{PermanodeTest}
use Rattle.search_query.specs.declared.query.Relation.{Relation}
use Rattle.search_query.specs.declared.query.Kin.{Kin}
use Rattle.search_query.specs.declared.query.Constraint.TheOpen.{Constraint-F, PermanodeTest-F}
use Rattle.search_query.specs.declared.query.Constraint.TheViews.{out-Constraint, out-Logical, out-PermanodeTest, out-Relation}
use Rattle.search_query.specs.declared.query.Constraint.TheFolds.{map-Constraint, map-Logical, map-PermanodeTest, fold_out-Constraint, fold_out-Logical, fold_out-PermanodeTest, map-Relation, fold_out-Relation}
use Rattle.search_query.specs.Mirror.{Asked, asked, Joined, logical, Tested, permanode, Related, relation}
use Rattle.search_query.specs.View.{constraint_step, logical_step, permanode_step, relation_step, view, logical_view, logical_seen, permanode_view, permanode_seen, relation_view, relation_seen, asked_view, is_asked, leaves_of, test_leaves_of}

constraint_layer : (l : Option Logical) (p : Option PermanodeTest) (c : Constraint-F Constraint Logical PermanodeTest Relation)
    → constraint_step (map-Constraint Constraint Logical PermanodeTest Relation Asked Joined Tested Related view logical_view permanode_view relation_view (record c { logical = l; permanode = p }))
    ≡ asked (logical_seen l) (leaves_of c) (permanode_seen p)
constraint_layer None None c = refl
constraint_layer None (Some p) c = refl
constraint_layer (Some l) None c = refl
constraint_layer (Some l) (Some p) c = refl

pub asked_out : (c : Constraint) → view c ≡ asked (logical_seen (out-Constraint c).logical) (leaves_of (out-Constraint c)) (permanode_seen (out-Constraint c).permanode)
asked_out c = fold_out-Constraint Asked Joined Tested Related constraint_step logical_step permanode_step relation_step c
    ∙ constraint_layer (out-Constraint c).logical (out-Constraint c).permanode (out-Constraint c)

logical_layer : (op : Option Op) (a b : Option (Box Constraint Global))
    → logical_step (map-Logical Constraint Logical PermanodeTest Relation Asked Joined Tested Related view logical_view permanode_view relation_view (record { op = op; a = a; b = b }))
    ≡ logical op (asked_view a) (asked_view b)
logical_layer op None None = refl
logical_layer op None (Some b) = refl
logical_layer op (Some a) None = refl
logical_layer op (Some a) (Some b) = refl

pub joined_out : (l : Logical) → logical_view l ≡ logical (out-Logical l).op (asked_view (out-Logical l).a) (asked_view (out-Logical l).b)
joined_out l = fold_out-Logical Asked Joined Tested Related constraint_step logical_step permanode_step relation_step l
    ∙ logical_layer (out-Logical l).op (out-Logical l).a (out-Logical l).b

permanode_layer : (a : Option (Box Constraint Global)) (l : Option Relation) (p : PermanodeTest-F Constraint Logical PermanodeTest Relation)
    → permanode_step (map-PermanodeTest Constraint Logical PermanodeTest Relation Asked Joined Tested Related view logical_view permanode_view relation_view (record p { value_in_set = a; relation = l }))
    ≡ permanode (test_leaves_of p) (asked_view a) (relation_seen l)
permanode_layer None None p = refl
permanode_layer None (Some l) p = refl
permanode_layer (Some a) None p = refl
permanode_layer (Some a) (Some l) p = refl

pub tested_out : (p : PermanodeTest) → permanode_view p ≡ permanode (test_leaves_of (out-PermanodeTest p)) (asked_view (out-PermanodeTest p).value_in_set) (relation_seen (out-PermanodeTest p).relation)
tested_out p = fold_out-PermanodeTest Asked Joined Tested Related constraint_step logical_step permanode_step relation_step p
    ∙ permanode_layer (out-PermanodeTest p).value_in_set (out-PermanodeTest p).relation (out-PermanodeTest p)

pub asks : (o : Option (Box Constraint Global)) → is_asked (asked_view o) ≡ is_some o
asks None = refl
asks (Some c) = ap is_asked (asked_out c.value)

relation_layer : (kin : Option Kin) (a b : Option (Box Constraint Global))
    → relation_step (map-Relation Constraint Logical PermanodeTest Relation Asked Joined Tested Related view logical_view permanode_view relation_view (record { relation = kin; any = a; all = b }))
    ≡ relation kin (asked_view a) (asked_view b)
relation_layer kin None None = refl
relation_layer kin None (Some b) = refl
relation_layer kin (Some a) None = refl
relation_layer kin (Some a) (Some b) = refl

pub kin_out : (l : Relation) → relation_view l ≡ relation (out-Relation l).relation (asked_view (out-Relation l).any) (asked_view (out-Relation l).all)
kin_out l = fold_out-Relation Asked Joined Tested Related constraint_step logical_step permanode_step relation_step l
    ∙ relation_layer (out-Relation l).relation (out-Relation l).any (out-Relation l).all
