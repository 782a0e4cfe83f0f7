use Rattle.std.proofs.Common.{List, None, sym, subst, arith, rules}
use Rattle.std.proofs.Common.{option_copied}
use Rattle.histories.specs.StoreCalls.{ListSpec}
use Rattle.core_home.proofs.Listings.{list_says}
use Rattle.histories.specs.Stores.{Blob}
use Rattle.core_home.specs.Keeping.{store_of, index_of}
use Rattle.core_home.proofs.Turning.{kept_later, store_read}
use Rattle.core_home.proofs.Blobs.{arrivals_of}
use Rattle.core_home.proofs.pass.CorePass.list.Goals as goal

pub invariant_of-self-2 : goal.invariant_of-self-2
invariant_of-self-2 g c = record {
  kept = kept_later c.args.self.now.puts.items c.args.self.now.inserts.items c.args.self.now.core.state c.args.self.now.stores c.in-Some.turn c.args.self.now.indexes c.args.self.now.indexes
      (let e = c.in-Some.ensures.last in omega (arith, e)) (omega arith) c.args.self.now.kept;
}

pub returns-clause-turn : goal.returns-clause-turn
returns-clause-turn g c =
    store_read (g.V.Verifier.accepts c.args.self.now.core.keys) (λ before e. ListSpec (option_copied c.args.after) c.args.limit before c.list-answer.result e) _ (store_of c.args.self.now.puts.items c.args.self.now.core.state.store) c.args.self.now.stores c.in-Some.turn
    (index_of c.args.self.now.core.state.store c.args.self.now.inserts.items c.args.self.now.core.state.indexed) c.args.self.now.indexes c.args.self.now.spent c.last_of.new.spent
    c.args.self.now.kept.store_within c.args.self.now.kept.store_rises c.in-Some.ensures.last c.in-Some.ensures.stays
    (subst (λ (before : List Blob). ListSpec (option_copied c.args.after) c.args.limit before c.list-answer.result None) (sym (arrivals_of c.args.self.now.puts.items c.args.self.now.core.state.store c.args.self.now.kept.each_put))
    (list_says (option_copied c.args.after) c.args.limit _ c.list-answer.result (search rules)))
