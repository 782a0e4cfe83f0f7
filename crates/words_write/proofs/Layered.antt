-- What is written for a constraint, by its fields.
use Rattle.std.proofs.Common.{◌≡◌, ◌⊎◌, inl, inr, Bool, true, false, not, ◌&&◌, ◌∷◌, [], Option, Some, None, is_none, is_some, Box, refl, sym, ap, subst, ◌∙◌}
use Rattle.std.specs.declared.alloc.Global.{Global}
use Rattle.search_query.specs.declared.query.Op.{Op}
use Rattle.search_query.specs.declared.query.Op.TheVariants.{And, Or, Xor, Not}
use Rattle.search_query.specs.declared.query.Constraint.{Constraint}
use Rattle.search_query.specs.declared.query.Logical.{Logical}
use Rattle.search_query.specs.declared.query.PermanodeTest.{PermanodeTest}
use Rattle.search_query.specs.declared.query.Constraint.TheViews.{out-Constraint, out-Logical}
use Rattle.search_query.specs.Mirror.{Leaves, Asked, asked, Joined, logical, Tested}
use Rattle.search_query.specs.Valid.{is_tested}
use Rattle.search_query.specs.View.{view, asked_view, logical_view, logical_seen, permanode_seen, leaves_of, is_asked}
use Rattle.search_query.proofs.Layers.{asked_out, joined_out, tested_out, asks}
use Rattle.words_write.specs.Writing.{no_leaf, word_of, Rank, an_or, an_and, a_unit, Made, not_made, only_made, joined_made, made}
use Rattle.words_write.specs.Pushing.{text_at, pair_text, joined_of, needs_group}
use Rattle.words_write.proofs.Pushed.{grouped_if, joined_text, or_text, and_text, atom_text}

-- A constraint

-- whether nothing is asked beside `logical`
abbrev pub joined_alone : Constraint → Bool
joined_alone c = no_leaf (leaves_of (out-Constraint c)) && is_none (out-Constraint c).permanode

pub text_of_word : (c : Constraint) (least : Rank) → (out-Constraint c).logical ≡ None
    → word_of (leaves_of (out-Constraint c)) (permanode_seen (out-Constraint c).permanode)
    ≡ text_at least (made (view c))
text_of_word c least e =
    let o = out-Constraint c in
    atom_text least (word_of (leaves_of o) (permanode_seen o.permanode))
    ∙ ap (λ j. text_at least (made (asked (logical_seen j) (leaves_of o) (permanode_seen o.permanode)))) (sym e)
    ∙ ap (λ a. text_at least (made a)) (sym (asked_out c))

not_tested : (p : Option PermanodeTest) → is_none p ≡ not (is_tested (permanode_seen p))
not_tested None = refl
not_tested (Some t) = sym (ap (λ q. not (is_tested q)) (tested_out t))

made_joined : (j : Joined) (op : Option Op) (a b : Asked) (l : Leaves) (t : Tested) → j ≡ logical op a b
    → made (asked j l t) ≡ only_made (no_leaf l && not (is_tested t)) (joined_of j)
made_joined j op a b l t e =
    subst (λ k. made (asked k l t) ≡ only_made (no_leaf l && not (is_tested t)) (joined_of k)) (sym e) refl

joined_made_of : (c : Constraint) (l : Logical) → (out-Constraint c).logical ≡ Some l
    → made (view c) ≡ only_made (joined_alone c) (joined_of (logical_view l))
joined_made_of c l e =
    let o = out-Constraint c in
    ap made (asked_out c)
    ∙ ap (λ j. made (asked (logical_seen j) (leaves_of o) (permanode_seen o.permanode))) e
    ∙ made_joined (logical_view l) (out-Logical l).op (asked_view (out-Logical l).a) (asked_view (out-Logical l).b)
    (leaves_of o) (permanode_seen o.permanode) (joined_out l)
    ∙ ap (λ b. only_made (no_leaf (leaves_of o) && b) (joined_of (logical_view l))) (sym (not_tested o.permanode))

pub text_of_joined : (c : Constraint) (l : Logical) (least : Rank) → (out-Constraint c).logical ≡ Some l
    → joined_alone c ≡ true → text_at least (joined_of (logical_view l)) ≡ text_at least (made (view c))
text_of_joined c l least e alone =
    ap (λ b. text_at least (only_made b (joined_of (logical_view l)))) (sym alone)
    ∙ ap (text_at least) (sym (joined_made_of c l e))

pub no_text : (c : Constraint) (l : Logical) (least : Rank) → (out-Constraint c).logical ≡ Some l
    → joined_alone c ≡ false → None ≡ text_at least (made (view c))
no_text c l least e alone =
    ap (λ b. text_at least (only_made b (joined_of (logical_view l)))) (sym alone)
    ∙ ap (text_at least) (sym (joined_made_of c l e))

-- Two constraints joined, or one that doesn't hold

pub text_in_group : (l : Logical) (least : Rank) (b : Bool) → b ≡ needs_group (out-Logical l).op least
    → grouped_if b (text_at an_or (joined_of (logical_view l))) ≡ text_at least (joined_of (logical_view l))
text_in_group l least b h =
    let o = out-Logical l in
    ap (λ g. grouped_if g (text_at an_or (joined_of (logical_view l)))) h
    ∙ subst
    (λ j. grouped_if (needs_group o.op least) (text_at an_or (joined_of j)) ≡ text_at least (joined_of j))
    (sym (joined_out l))
    (sym (joined_text o.op (made (asked_view o.a)) (made (asked_view o.b)) (is_asked (asked_view o.b)) least))

joined_by : (l : Logical) (op : Option Op) → (out-Logical l).op ≡ op
    → joined_of (logical_view l)
    ≡ joined_made op (made (asked_view (out-Logical l).a)) (made (asked_view (out-Logical l).b))
    (is_asked (asked_view (out-Logical l).b))
joined_by l op e =
    let o = out-Logical l in
    ap joined_of (joined_out l)
    ∙ ap (λ p. joined_made p (made (asked_view o.a)) (made (asked_view o.b)) (is_asked (asked_view o.b))) e

pub text_of_or : (l : Logical) → (out-Logical l).op ≡ Some Or
    → pair_text (text_at an_or (made (asked_view (out-Logical l).a))) (32 ∷ 111 ∷ 114 ∷ 32 ∷ [])
    (text_at an_and (made (asked_view (out-Logical l).b)))
    ≡ text_at an_or (joined_of (logical_view l))
text_of_or l e =
    or_text (made (asked_view (out-Logical l).a)) (made (asked_view (out-Logical l).b))
    ∙ ap (text_at an_or) (sym (joined_by l (Some Or) e))

pub text_of_and : (l : Logical) → (out-Logical l).op ≡ Some And
    → pair_text (text_at an_and (made (asked_view (out-Logical l).a))) (32 ∷ [])
    (text_at a_unit (made (asked_view (out-Logical l).b)))
    ≡ text_at an_or (joined_of (logical_view l))
text_of_and l e =
    and_text (made (asked_view (out-Logical l).a)) (made (asked_view (out-Logical l).b))
    ∙ ap (text_at an_or) (sym (joined_by l (Some And) e))

pub text_of_not : (l : Logical) → (out-Logical l).op ≡ Some Not
    → text_at an_or (only_made (not (is_asked (asked_view (out-Logical l).b)))
    (not_made (made (asked_view (out-Logical l).a))))
    ≡ text_at an_or (joined_of (logical_view l))
text_of_not l e = ap (text_at an_or) (sym (joined_by l (Some Not) e))

pub no_text_else : (l : Logical) → ((out-Logical l).op ≡ Some Xor) ⊎ ((out-Logical l).op ≡ None)
    → None ≡ text_at an_or (joined_of (logical_view l))
no_text_else l (inl e) = ap (text_at an_or) (sym (joined_by l (Some Xor) e))
no_text_else l (inr e) = ap (text_at an_or) (sym (joined_by l None e))

pub no_text_of_two : (b : Option (Box Constraint Global)) (o : Option Made) → is_some b ≡ true
    → None ≡ text_at an_or (only_made (not (is_asked (asked_view b))) o)
no_text_of_two b o h = ap (λ two. text_at an_or (only_made (not two) o)) (sym (asks b ∙ h))

pub text_of_one : (b : Option (Box Constraint Global)) (o : Option Made) → is_some b ≡ false
    → text_at an_or o ≡ text_at an_or (only_made (not (is_asked (asked_view b))) o)
text_of_one b o h = ap (λ two. text_at an_or (only_made (not two) o)) (sym (asks b ∙ h))
