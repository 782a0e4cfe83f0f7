use Rattle.std.proofs.Common.{◌≡◌, ◌∙◌, map, take, ap, sym, subst, List}
use Rattle.std.specs.List.Sorted.{IsPermutation}
use Rattle.std.proofs.lemmas.List.{take-map}
use Rattle.std.proofs.lemmas.Result.{IfOk-weaker}
use Rattle.claim_model.specs.Claims.{last_change}
use Rattle.search_eval.specs.Answer.{Dated}
use Rattle.search_eval.proofs.Orders.{rises}
use Rattle.search_eval.proofs.ordering.rising.Goals as goal

pub returns : goal.returns
returns g c =
    let changed = last_change (g.K.Look.facts c.args.look.now) (g.K.Look.accepts c.args.look.now) c.args.when.now in
    let sorted = c.sort.new.self.items in
    let ordered = rises changed c.args.refs.now sorted c.requires
    (subst (λ (ds : List Dated). IsPermutation ds sorted) c.in_ok-dated.ensures c.sort.ensures.permutation)
    c.in_ok-sort.ensures.sorted in
    IfOk-weaker c.undated.result (λ refs. refs ≡ map (λ (e : Dated). e.1) (take c.args.limit c.deref.result.now)) _
    (λ refs is. is ∙ ap (λ (ds : List Dated). map (λ (e : Dated). e.1) (take c.args.limit ds)) c.deref.ensures.value
    ∙ sym (take-map (λ (e : Dated). e.1) c.args.limit sorted) ∙ ap (take c.args.limit) ordered) c.undated.ensures
