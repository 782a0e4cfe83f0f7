use Rattle.std.proofs.Common.{◌≡◌, ℕ, ◌∷◌, [], map, rules, sym, ◌∙◌, subst}
use Rattle.std.specs.Cmp.{nat_cmp_total}
use Rattle.std.specs.Map.Iter.{deref_pair}
use Rattle.std.proofs.lemmas.List.{map-append}
use Rattle.std.proofs.lemmas.Map.Iter.{btree_map_turn, rest_so_far, iter_end}
use Rattle.pack_disk.specs.Image.{HasLeft}
use Rattle.pack_disk.specs.Past.{state, at_number}
use Rattle.pack_disk.specs.Left.{left}
use Rattle.std.specs.Option.{option_and_then}
use Rattle.pack_disk.proofs.Gathering.{left_none, left_more, left_all, no_number}
use Rattle.pack_disk.proofs.history.History.image.Goals as goal

pub loop-number-init : goal.loop-number-init
loop-number-init c = left_none c.args.choice _ _ c.empty-image.ensures.start c.empty-image.ensures.held

pub loop-number-preserved : goal.loop-number-preserved
loop-number-preserved c =
    let gives = c.into_iter-number-iterator.ensures.into_iter_gives in
    let turn = btree_map_turn deref_pair _ _ _ _ _ (c.in-Some.number, c.in-Some.pack) c.loop-number.yielded_by c.in-Some.is c.next.ensures.steps nat_cmp_total c.self.inside.held gives.0 gives.5 in
    let whole = sym gives.0 ∙ rest_so_far deref_pair c.loop-number.yielded _ _ c.loop-number.yielded_by in
    subst (λ front. HasLeft c.args.choice front c.keep.new.self.start.entries c.keep.new.self.held.entries)
    (sym (map-append deref_pair c.loop-number.yielded ((c.in-Some.number, c.in-Some.pack) ∷ [])))
    (left_more c.args.choice _ _ _ c.in-Some.number.now c.in-Some.pack.now _ _ _ _ whole turn.1 c.loop-number.invariant c.in_ok-keep.ensures)

pub returns-clause-left : goal.returns-clause-left
returns-clause-left c =
    let all : map deref_pair c.loop-number.yielded ≡ c.self.inside.held.entries = search (rules, iter_end) in
    subst (λ past. (n : ℕ) → at_number c.loop-number.image.start.entries n ≡ option_and_then (left c.args.choice) (state past n)) c.self.view_is
    (left_all c.args.choice _ _ _ _ _ all c.self.invariant.shown c.loop-number.invariant)

pub returns-clause-held : goal.returns-clause-held
returns-clause-held c = c.loop-number.invariant.begun

pub returns-clause-numbers : goal.returns-clause-numbers
returns-clause-numbers c =
    let all : map deref_pair c.loop-number.yielded ≡ c.self.inside.held.entries = search (rules, iter_end) in
    no_number c.args.choice _ _ _ _ all c.self.invariant.numbers c.loop-number.invariant
