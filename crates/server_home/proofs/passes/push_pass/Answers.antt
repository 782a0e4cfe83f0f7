use Rattle.std.proofs.Common.{sym, subst, ◌∙◌, ap}
use Rattle.turn_store.specs.StoreSeats.{IsOfStore, store_sight}
use Rattle.server_home.proofs.passes.push_pass.Goals as goal

pub returns-clause-added : goal.returns-clause-added
returns-clause-added g c =
    let store = c.make-pass.ensures.store in record {
      pass = c.make-pass.result;
      added = c.in_ok-push.ensures.items;
      store = record {
        own = subst (λ s. IsOfStore g.D.Disk c.args.store.now s) (sym store) c.split.ensures.own_second;
        sight = ap store_sight store ∙ c.split.ensures.second;
      };
      index = c.make-pass.ensures.index;
    }
