use Rattle.std.proofs.Common.{◌∙◌, refl, sym, ap, subst, arith, All, length, [], ◌∷◌, Some}
use Rattle.std.specs.List.{Contains}
use Rattle.std.proofs.lemmas.List.{length-append}
use Rattle.std.proofs.lemmas.List.Elements.{All-nil, All-pop, All-contains_itself}
use Rattle.turn_store.specs.StoreSeats.{store_sight}
use Rattle.server_home.specs.Passes.{HasOneMore, IsOneOf}
use Rattle.server_home.proofs.Passing.{one_more, one_longer}
use Rattle.server_home.proofs.passes.passes_of.Goals as goal

pub seats-init : goal.seats-init
seats-init g c =
    let none = c.new-passes.ensures.items in
    let zero = ap length none in
    let of = IsOneOf g.D.Disk c.args.store.now (store_sight c.args.store_seat.now) c.args.seats.items in (
      c.requires,
      refl,
      All-contains_itself c.args.seats.items,
      subst (All of) (sym none) (All-nil of),
      omega (arith, zero),
    )

pub seats-preserved : goal.seats-preserved
seats-preserved g c =
    let inv = c.seats.invariant in
    let pop = c.in-Some.ensures.items in
    let all = c.args.seats.items in
    let left = All-pop (Contains all) _ _ (Some c.in-Some.seat) pop inv.2 in
    let more = subst (λ v. HasOneMore g.D.Disk c.args.store.now v c.in-Some.seat c.seats.passes.items c.push_pass.new.passes.items)
    inv.1 c.in_ok-push_pass.ensures.added in
    let shorter = ap length pop ∙ length-append c.pop.new.self.items (c.in-Some.seat ∷ []) in
    let longer = one_longer g.D.Disk c.args.store.now (store_sight c.args.store_seat.now) c.in-Some.seat c.seats.passes.items
    c.push_pass.new.passes.items more in
    let count = inv.4 in (
      c.in_ok-push_pass.ensures.own,
      c.in_ok-push_pass.ensures.same ∙ inv.1,
      left.0,
      one_more g.D.Disk c.args.store.now (store_sight c.args.store_seat.now) c.in-Some.seat all c.seats.passes.items
          c.push_pass.new.passes.items left.1 more inv.3,
      omega (arith, shorter, longer, count),
    )
