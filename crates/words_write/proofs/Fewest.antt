-- The line that is written has the fewest parentheses.
use Rattle.std.proofs.Common.{◌≡◌, ◌≤◌, ℕ, ◌+◌, Bool, true, false, List, [], ◌∷◌, ◌++◌, codes, refl, sym, ap, subst, ◌∙◌, arith, Option, Some, None, option_map}
use Rattle.std.proofs.lemmas.List.{append_assoc, append-nil}
use Rattle.search_query.specs.declared.query.Op.TheVariants.{And, Or, Xor, Not}
use Rattle.search_query.specs.Mirror.{Leaves, Asked, not_asked, asked, no_logical, logical, Tested}
use Rattle.std.proofs.Common.{not, ◌&&◌}
use Rattle.search_query.specs.declared.query.Op.{Op}
use Rattle.search_query.specs.Valid.{is_tested}
use Rattle.search_query.specs.View.{is_asked}
use Rattle.search_words.specs.Grammar.{IsWord, tag, title, attr, has, ref, childrenof, IsAtom, word, group, IsUnit, atom, minus, IsAnd, unit, and, IsOr, one, or, IsLine, line}
use Rattle.words_write.specs.Parentheses.{parentheses}
use Rattle.words_write.specs.Writing.{no_leaf, word_of, Rank, an_or, an_and, a_unit, an_atom, Made, made_as, in_group, ranked_and, ranked_unit, ranked_atom, or_made, and_made, not_made, only_made, joined_made, made, line_of}
use Rattle.words_write.proofs.Opening.{opens, Opens, word_opens, and_groups, unit_groups, atom_groups, or_groups, line_groups, line_opens}
use Rattle.words_write.proofs.Written.{word_is}

-- the rank of a constraint's line, and how many groups it has

abbrev rank_of : Asked → Rank
rank_of not_asked = an_atom
rank_of (asked no_logical l t) = an_atom
rank_of (asked (logical (Some Or) a b) l t) = an_or
rank_of (asked (logical (Some And) a b) l t) = an_and
rank_of (asked (logical (Some Not) a b) l t) = a_unit
rank_of (asked (logical (Some Xor) a b) l t) = an_atom
rank_of (asked (logical None a b) l t) = an_atom

abbrev more_and : Rank → ℕ
more_and an_or = 1
more_and an_and = 0
more_and a_unit = 0
more_and an_atom = 0

abbrev more_unit : Rank → ℕ
more_unit an_or = 1
more_unit an_and = 1
more_unit a_unit = 0
more_unit an_atom = 0

abbrev more_atom : Rank → ℕ
more_atom an_or = 1
more_atom an_and = 1
more_atom a_unit = 1
more_atom an_atom = 0

abbrev groups_of : Asked → ℕ
groups_of not_asked = 0
groups_of (asked no_logical l t) = 0
groups_of (asked (logical (Some Or) a b) l t) = groups_of a + (groups_of b + more_and (rank_of b))
groups_of (asked (logical (Some And) a b) l t) =
    (groups_of a + more_and (rank_of a)) + (groups_of b + more_unit (rank_of b))
groups_of (asked (logical (Some Not) a b) l t) = groups_of a + more_atom (rank_of a)
groups_of (asked (logical (Some Xor) a b) l t) = 0
groups_of (asked (logical None a b) l t) = 0

-- no line has fewer

unit_at_least : (k : Rank) → more_and k ≤ more_unit k
unit_at_least an_or = omega arith
unit_at_least an_and = omega arith
unit_at_least a_unit = omega arith
unit_at_least an_atom = omega arith

atom_at_least : (k : Rank) → more_unit k ≤ more_atom k
atom_at_least an_or = omega arith
atom_at_least an_and = omega arith
atom_at_least a_unit = omega arith
atom_at_least an_atom = omega arith

one_at_most : (k : Rank) → more_atom k ≤ 1
one_at_most an_or = omega arith
one_at_most an_and = omega arith
one_at_most a_unit = omega arith
one_at_most an_atom = omega arith

word_has_none : {text : List ℕ} {a : Asked} → IsWord text a → groups_of a + more_atom (rank_of a) ≡ 0
word_has_none (tag t) = refl
word_has_none (title t) = refl
word_has_none (attr r some t) = refl
word_has_none (has r some) = refl
word_has_none (ref t) = refl
word_has_none (childrenof r is) = refl

mutual
  and_at_least : {text : List ℕ} {a : Asked} (d : IsAnd text a) → groups_of a + more_and (rank_of a) ≤ and_groups d
  and_at_least (unit {text} {a} r) = omega (arith, unit_least r, unit_at_least (rank_of a))
  and_at_least (and {left} {right} {a} {b} l n r) = omega (arith, and_at_least l, unit_least r)

  unit_least : {text : List ℕ} {a : Asked} (d : IsUnit text a) → groups_of a + more_unit (rank_of a) ≤ unit_groups d
  unit_least (atom {text} {a} r) = omega (arith, atom_least r, atom_at_least (rank_of a))
  unit_least (minus {text} {a} r) = omega (arith, atom_least r)

  atom_least : {text : List ℕ} {a : Asked} (d : IsAtom text a) → groups_of a + more_atom (rank_of a) ≤ atom_groups d
  atom_least (word w) = omega (arith, word_has_none w)
  atom_least (group n {text} {a} r m) = omega (arith, or_least r, one_at_most (rank_of a))

  or_least : {text : List ℕ} {a : Asked} (d : IsOr text a) → groups_of a ≤ or_groups d
  or_least (one {text} {a} r) = omega (arith, and_at_least r)
  or_least (or {left} {right} {a} {b} l n m r) = omega (arith, or_least l, and_at_least r)

line_least : {text : List ℕ} {a : Asked} (d : IsLine text a) → groups_of a ≤ line_groups d
line_least (line n r m) = or_least r

-- what is written has so many

record Counted (c : Asked) (m : Made) : Type 0 where
  pub rank : m.rank ≡ rank_of c
  pub opened : Opens m.text (groups_of c)

abbrev Counts : Option Made → Asked → Type 0
Counts o c = (m : Made) → o ≡ Some m → Counted c m

counted_to : {k m : Made} (c : Asked) → Some k ≡ Some m → Counted c k → Counted c m
counted_to {k} {m} c h r = let same : k ≡ m = cc h in subst (Counted c) same r

grouped : (t : List ℕ) (g : ℕ) → Opens t g → Opens (in_group t) (g + 1)
grouped t g o rest =
    let first : opens (40 ∷ ((t ++ 41 ∷ []) ++ rest)) ≡ 1 + opens ((t ++ 41 ∷ []) ++ rest) = refl in
    let apart = ap opens (append_assoc t (41 ∷ []) rest) in
    let last : opens (41 ∷ rest) ≡ 0 + opens rest = refl in
    omega (arith, first, apart, o (41 ∷ rest), last)

plainly : (t : List ℕ) (g : ℕ) → Opens t g → Opens t (g + 0)
plainly t g o rest = omega (arith, o rest)

and_ranked : (k : Rank) (t : List ℕ) (g : ℕ) → Opens t g → Opens (ranked_and k t) (g + more_and k)
and_ranked an_or t g o = grouped t g o
and_ranked an_and t g o = plainly t g o
and_ranked a_unit t g o = plainly t g o
and_ranked an_atom t g o = plainly t g o

unit_ranked : (k : Rank) (t : List ℕ) (g : ℕ) → Opens t g → Opens (ranked_unit k t) (g + more_unit k)
unit_ranked an_or t g o = grouped t g o
unit_ranked an_and t g o = grouped t g o
unit_ranked a_unit t g o = plainly t g o
unit_ranked an_atom t g o = plainly t g o

atom_ranked : (k : Rank) (t : List ℕ) (g : ℕ) → Opens t g → Opens (ranked_atom k t) (g + more_atom k)
atom_ranked an_or t g o = grouped t g o
atom_ranked an_and t g o = grouped t g o
atom_ranked a_unit t g o = grouped t g o
atom_ranked an_atom t g o = plainly t g o

-- two texts, and what stands between them
between_opens : (left mid right : List ℕ) (k j : ℕ) → Opens left k → Opens mid 0 → Opens right j
    → Opens (left ++ mid ++ right) (k + j)
between_opens left mid right k j l m r rest =
    let apart = ap opens (append_assoc (left ++ mid) right rest ∙ append_assoc left mid (right ++ rest)) in
    omega (arith, apart, l (mid ++ (right ++ rest)), m (right ++ rest), r rest)

or_between : Opens (codes " or ") 0
or_between rest =
    let step : opens (codes " or " ++ rest) ≡ 0 + (0 + (0 + (0 + opens rest))) = refl in omega (arith, step)

space_between : Opens (32 ∷ []) 0
space_between rest = let step : opens (32 ∷ rest) ≡ 0 + opens rest = refl in omega (arith, step)

dash_before : (t : List ℕ) (g : ℕ) → Opens t g → Opens (45 ∷ t) g
dash_before t g o rest =
    let step : opens (45 ∷ (t ++ rest)) ≡ 0 + opens (t ++ rest) = refl in omega (arith, step, o rest)

word_counts : (o : Option (List ℕ)) (l : Leaves) (t : Tested)
    → ((w : List ℕ) → o ≡ Some w → IsWord w (asked no_logical l t))
    → Counts (option_map (made_as an_atom) o) (asked no_logical l t)
word_counts None l t r m h = absurd (cc h)
word_counts (Some w) l t r m h =
    counted_to (asked no_logical l t) h (record { rank = refl; opened = word_opens (r w refl) })

or_counts : (a b : Asked) (l : Leaves) (t : Tested) (oa ob : Option Made) → Counts oa a → Counts ob b
    → Counts (or_made oa ob) (asked (logical (Some Or) a b) l t)
or_counts a b l t None ob ra rb m h = absurd (cc h)
or_counts a b l t (Some x) None ra rb m h = absurd (cc h)
or_counts a b l t (Some x) (Some y) ra rb m h =
    let p = ra x refl in
    let q = rb y refl in
    counted_to (asked (logical (Some Or) a b) l t) h (record {
      rank = refl;
      opened =
          between_opens x.text (codes " or ") (ranked_and y.rank y.text) (groups_of a)
          (groups_of b + more_and (rank_of b)) p.opened or_between
          (subst (λ k. Opens (ranked_and y.rank y.text) (groups_of b + more_and k)) q.rank
          (and_ranked y.rank y.text (groups_of b) q.opened));
    })

and_counts : (a b : Asked) (l : Leaves) (t : Tested) (oa ob : Option Made) → Counts oa a → Counts ob b
    → Counts (and_made oa ob) (asked (logical (Some And) a b) l t)
and_counts a b l t None ob ra rb m h = absurd (cc h)
and_counts a b l t (Some x) None ra rb m h = absurd (cc h)
and_counts a b l t (Some x) (Some y) ra rb m h =
    let p = ra x refl in
    let q = rb y refl in
    counted_to (asked (logical (Some And) a b) l t) h (record {
      rank = refl;
      opened =
          between_opens (ranked_and x.rank x.text) (32 ∷ []) (ranked_unit y.rank y.text)
          (groups_of a + more_and (rank_of a)) (groups_of b + more_unit (rank_of b))
          (subst (λ k. Opens (ranked_and x.rank x.text) (groups_of a + more_and k)) p.rank
          (and_ranked x.rank x.text (groups_of a) p.opened)) space_between
          (subst (λ k. Opens (ranked_unit y.rank y.text) (groups_of b + more_unit k)) q.rank
          (unit_ranked y.rank y.text (groups_of b) q.opened));
    })

not_counts : (a b : Asked) (l : Leaves) (t : Tested) (oa : Option Made) → Counts oa a
    → Counts (not_made oa) (asked (logical (Some Not) a b) l t)
not_counts a b l t None ra m h = absurd (cc h)
not_counts a b l t (Some x) ra m h =
    let p = ra x refl in
    counted_to (asked (logical (Some Not) a b) l t) h (record {
      rank = refl;
      opened = dash_before (ranked_atom x.rank x.text) (groups_of a + more_atom (rank_of a))
          (subst (λ k. Opens (ranked_atom x.rank x.text) (groups_of a + more_atom k)) p.rank
          (atom_ranked x.rank x.text (groups_of a) p.opened));
    })

only_counts : (b : Bool) (o : Option Made) (c : Asked) → Counts o c → Counts (only_made b o) c
only_counts true o c r m h = r m h
only_counts false o c r m h = absurd (cc h)

joined_counts : (op : Option Op) (a b : Asked) (l : Leaves) (t : Tested) → Counts (made a) a → Counts (made b) b
    → Counts (joined_made op (made a) (made b) (is_asked b)) (asked (logical op a b) l t)
joined_counts (Some Or) a b l t ra rb m h = or_counts a b l t (made a) (made b) ra rb m h
joined_counts (Some And) a b l t ra rb m h = and_counts a b l t (made a) (made b) ra rb m h
joined_counts (Some Not) a b l t ra rb m h =
    only_counts (not (is_asked b)) (not_made (made a)) (asked (logical (Some Not) a b) l t)
    (not_counts a b l t (made a) ra) m h
joined_counts (Some Xor) a b l t ra rb m h = absurd (cc h)
joined_counts None a b l t ra rb m h = absurd (cc h)

made_counts : (c : Asked) → Counts (made c) c
made_counts not_asked m h = absurd (cc h)
made_counts (asked no_logical l t) m h = word_counts (word_of l t) l t (word_is l t) m h
made_counts (asked (logical op a b) l t) m h =
    only_counts (no_leaf l && not (is_tested t)) (joined_made op (made a) (made b) (is_asked b))
    (asked (logical op a b) l t) (joined_counts op a b l t (made_counts a) (made_counts b)) m h

written_opens : (c : Asked) (written : List ℕ) → line_of c ≡ Some written → parentheses written ≡ groups_of c
written_opens c written h = go (made c) (made_counts c) h
  where
    go : (o : Option Made) → Counts o c → option_map (λ m. m.text) o ≡ Some written → parentheses written ≡ groups_of c
    go None r h = absurd (cc h)
    go (Some m) r h =
        let same : m.text ≡ written = cc h in
        let none : opens [] ≡ 0 = refl in
        let whole = ap parentheses (sym same ∙ sym (append-nil m.text)) in
        omega (arith, whole, (r m refl).opened [], none)

pub fewest : (c : Asked) (text written : List ℕ) → IsLine text c → line_of c ≡ Some written
    → parentheses written ≤ parentheses text
fewest c text written l h = omega (arith, written_opens c written h, line_opens l, line_least l)
