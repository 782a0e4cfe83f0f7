use Rattle.std.proofs.Common.{◌≡◌, true, None, ◌/◌, is_some, sym, ap, ◌∙◌, arith}
use Rattle.std.specs.FinMap.{from_entries, contains_key, get, insert, len}
use Rattle.claim_index.specs.Numbers.{Roomy, Masks, numbers_in, has_room}
use Rattle.claim_index.proofs.Marks.{mask_at, one_mask, no_mask, numbers_in-room, room-made, room-there}
use Rattle.claim_index.proofs.numbers.Numbers.make_room.Goals as goal

abbrev after : (c : goal.In_ok-insert) → Masks
after c = from_entries c.insert.new.self.entries

abbrev before : (c : goal.In_ok-insert) → Masks
before c = from_entries c.self.inside.masks.entries

given : (c : goal.In_ok-insert) → after c ≡ insert (before c) (c.args.n / 64) 0
given c = one_mask c.self.inside.masks.entries c.insert.new.self.entries
    (c.args.n / 64) 0 c.in_ok-insert.ensures.updates.0

kept : (c : goal.In_ok-insert) → numbers_in (after c) ≡ numbers_in (before c)
kept c =
    let absent : get (before c) (c.args.n / 64) ≡ None = mask_at c.self.inside.masks.entries (c.args.n / 64)
    ∙ no_mask _ (sym c.contains_key.ensures ∙ c.if-not-contains_key.true) in
    ap numbers_in (given c) ∙ numbers_in-room (before c) (c.args.n / 64) absent

pub invariant_of-self : goal.invariant_of-self
invariant_of-self c = c.self.invariant ∙ sym (ap len (kept c))

pub returns-in_ok-insert-clause-numbers : goal.returns-in_ok-insert-clause-numbers
returns-in_ok-insert-clause-numbers c = kept c ∙ ap (λ (s : Roomy). s.numbers) c.self.view_is

pub returns-in_ok-insert-clause-room : goal.returns-in_ok-insert-clause-room
returns-in_ok-insert-clause-room c =
    room-made (before c) (after c) (c.args.n / 64) (given c) c.self.inside.count (c.self.invariant
    ∙ sym (ap len (kept c))) (omega arith) c.if-self.false

pub returns-else-not-contains_key-clause-room : goal.returns-else-not-contains_key-clause-room
returns-else-not-contains_key-clause-room c =
    let masks : Masks = from_entries c.self.inside.masks.entries in
    let held : contains_key masks (c.args.n / 64)
    ≡ true = ap is_some (mask_at c.self.inside.masks.entries (c.args.n / 64)) ∙ sym c.contains_key.ensures
    ∙ c.if-not-contains_key.false in
    ap (λ (s : Roomy). has_room s c.args.n) (sym c.self.view_is)
    ∙ room-there masks (c.args.n / 64) c.self.inside.count held c.self.invariant (omega arith) c.if-self.false
