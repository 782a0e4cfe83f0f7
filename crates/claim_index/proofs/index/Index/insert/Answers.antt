use Rattle.std.proofs.Common.{◌≡◌, ◌≤◌, ◌+◌, ◌*◌, ℕ, List, length, false, Result, Ok, Err, OnOk, OnErr, sym, ap, subst, ◌∙◌, arith}
use Rattle.std.proofs.lemmas.Bool.{false≢true}
use Rattle.std.specs.Result.{is_err}
use Rattle.std.specs.FinMap.{insert, remove, contains_key, len}
use Rattle.claim_model.specs.Facts.{Facts}
use Rattle.index_rows.specs.declared.fact_rows.FactRows.{FactRows}
use Rattle.index_rows.specs.Loose.{numbers_of}
use Rattle.index_rows.specs.Touched.{touched}
use Rattle.index_rows.proofs.LooseFacts.{alone, in_order}
use Rattle.claim_index.specs.Halfway.{facts_in}
use Rattle.claim_index.specs.Indexed.{Indexed, IsSame}
use Rattle.claim_index.specs.Numbers.{NumberSet, with_numbers}
use Rattle.claim_index.proofs.InsertTicks.{inserted_ticks}
use Rattle.claim_index.proofs.Marks.{len-more}
use Rattle.claim_index.proofs.OneMore.{taken_out}
use Rattle.claim_index.proofs.Settled.{all_ordered, put_more}
use Rattle.claim_index.specs.Additions.{AddsAlone}
use Rattle.claim_index.proofs.LoneTicks.{added_alone}
use Rattle.claim_index.proofs.index.Index.insert.Goals as goal

given : {T E P : Type 0} (r : Result T E) → is_err r ≡ false → OnOk r P → P
given (Ok x) is p = p
given (Err e) is p = absurd (false≢true (sym is))

pub take_up-taken_up-requires : goal.take_up-taken_up-requires
take_up-taken_up-requires g c = λ fresh.
    let a = c.self.inside in
    let r = c.args.r.now in
    let fact = c.args.fact in
    let lacks : contains_key (facts_in a.rows.facts) r ≡ false
    = subst (λ (v : Indexed g.row.V.Denot). contains_key v.numbers c.args.number ≡ false → contains_key v.facts r ≡ false) (sym c.self.view_is) c.requires.alone
    (ap (λ (v : Indexed g.row.V.Denot). contains_key v.numbers c.args.number) c.self.view_is ∙ sym c.holds.ensures ∙ c.if-holds.false) in
    put_more (g.V.Verifier.accepts a.keys) a.rows c.put_in_order.new.facts r fact (c.self.invariant.1 fresh) lacks c.in_ok-put_in_order.ensures.put

pub invariant_of-self-2 : goal.invariant_of-self-2
invariant_of-self-2 g c =
    let a = c.self.inside in
    let told = c.in_ok-put_in_order.ensures in
    let same = c.take_up-taken_up.ensures.facts in
    let none = ap (λ (f : FactRows). numbers_of f.loose) same ∙ told.none in
    let n = c.args.number in
    let before : NumberSet = with_numbers (numbers_of a.rows.facts.loose) a.numbers.numbers in
    let kept : c.put_in_order.new.numbers.numbers ≡ before
    = sym (ap (λ (ns : List ℕ). with_numbers ns c.put_in_order.new.numbers.numbers) told.none) ∙ c.put_in_order.ensures.same in
    let absent : contains_key before n ≡ false =
    ap (λ (v : Indexed g.row.V.Denot). contains_key v.numbers n) c.self.view_is ∙ sym c.holds.ensures ∙ c.if-holds.false in
    let numbers = ap (λ (ns : List ℕ). with_numbers ns c.set.new.self.numbers) none
    ∙ c.set.ensures ∙ ap (λ (s : NumberSet). insert s n tt) kept in (
      ap (λ m. m + 1) c.self.invariant.0 ∙ sym (ap len numbers ∙ len-more before n absent),
      λ is. record {
        none = none;
        rest = given c.take_up-taken_up.result (sym c.is_err.ensures.value ∙ c.if-is_err.false) c.take_up-taken_up.ensures.rest;
      },
      subst (λ (ns : List ℕ). length ns ≤ a.count + 1) (sym none) (grind (arith)),
    )

pub returns-then-is_err-clause-refused : goal.returns-then-is_err-clause-refused
returns-then-is_err-clause-refused g c =
    let a = c.self.inside in
    let r = c.args.r.now in
    let fact = c.args.fact in
    let lacks : contains_key (facts_in a.rows.facts) r ≡ false
    = subst (λ (v : Indexed g.row.V.Denot). contains_key v.numbers c.args.number ≡ false → contains_key v.facts r ≡ false) (sym c.self.view_is) c.requires.alone
    (ap (λ (v : Indexed g.row.V.Denot). contains_key v.numbers c.args.number) c.self.view_is ∙ sym c.holds.ensures ∙ c.if-holds.false) in
    let told = c.in_ok-put_in_order.ensures in
    let same = c.take_up-taken_up.ensures.facts in
    let none = ap (λ (f : FactRows). numbers_of f.loose) same ∙ told.none in
    record {
      facts = alone c.take_up-taken_up.new.rows.facts.loose c.drop_row.new.self none
          ∙ c.drop_row.ensures.value ∙ ap (λ (m : Facts). remove m r) (in_order same ∙ told.put)
          ∙ taken_out (facts_in a.rows.facts) r fact lacks ∙ ap (λ (v : Indexed g.row.V.Denot). v.facts) c.self.view_is;
      numbers = ap (λ (f : FactRows). with_numbers (numbers_of f.loose) c.put_in_order.new.numbers.numbers) same
          ∙ c.put_in_order.ensures.same ∙ ap (λ (v : Indexed g.row.V.Denot). v.numbers) c.self.view_is;
    }

pub returns-clause-inserted : goal.returns-clause-inserted
returns-clause-inserted g c =
    let a = c.self.inside in
    let r = c.args.r.now in
    let fact = c.args.fact in
    let told = c.in_ok-put_in_order.ensures in
    let same = c.take_up-taken_up.ensures.facts in
    let none = ap (λ (f : FactRows). numbers_of f.loose) same ∙ told.none in
    let n = c.args.number in
    let before : NumberSet = with_numbers (numbers_of a.rows.facts.loose) a.numbers.numbers in
    let kept : c.put_in_order.new.numbers.numbers ≡ before
    = sym (ap (λ (ns : List ℕ). with_numbers ns c.put_in_order.new.numbers.numbers) told.none) ∙ c.put_in_order.ensures.same in
    record {
      fresh = sym c.holds.ensures ∙ c.if-holds.false;
      facts = all_ordered c.take_up-taken_up.new.rows.facts none ∙ in_order same ∙ told.put
          ∙ ap (λ (v : Indexed g.row.V.Denot). insert v.facts r fact) c.self.view_is;
      numbers = ap (λ (ns : List ℕ). with_numbers ns c.set.new.self.numbers) none ∙ c.set.ensures
          ∙ ap (λ (s : NumberSet). insert s n tt) (kept ∙ ap (λ (v : Indexed g.row.V.Denot). v.numbers) c.self.view_is);
    }

pub returns-then-is_err-clause-ticks : goal.returns-then-is_err-clause-ticks
returns-then-is_err-clause-ticks g c =
    let a = c.self.inside in
    let r = c.args.r.now in
    let fact = c.args.fact in
    subst (λ (v : Indexed g.row.V.Denot). v.stale ≡ false → c.drop_row.new.steps ≤ c.args.steps.now + 16 * (1 + length (touched v.facts (g.V.Verifier.accepts v.keys) r fact))) c.self.view_is
    (λ fresh.
    let settled = c.self.invariant.1 fresh in
    let lacks : contains_key (facts_in a.rows.facts) r ≡ false
    = subst (λ (v : Indexed g.row.V.Denot). contains_key v.numbers c.args.number ≡ false → contains_key v.facts r ≡ false) (sym c.self.view_is) c.requires.alone
    (ap (λ (v : Indexed g.row.V.Denot). contains_key v.numbers c.args.number) c.self.view_is ∙ sym c.holds.ensures ∙ c.if-holds.false) in
    let h = inserted_ticks (g.V.Verifier.accepts a.keys) a.rows r fact settled lacks c.put_in_order.new.facts.ordered c.in_ok-put_in_order.ensures.put c.put_in_order.new.steps c.take_up-taken_up.new.steps (c.take_up-taken_up.ensures.ticks fresh) in
    let none : length (numbers_of a.rows.facts.loose) ≡ 0 = ap (λ (ns : List ℕ). length ns) settled.none in
    omega (arith, c.put_in_order.ensures.ticks, c.drop_row.ensures.ticks, h, none))

pub returns-clause-ticks : goal.returns-clause-ticks
returns-clause-ticks g c =
    let a = c.self.inside in
    let r = c.args.r.now in
    let fact = c.args.fact in
    subst (λ (v : Indexed g.row.V.Denot). v.stale ≡ false → c.take_up-taken_up.new.steps ≤ c.args.steps.now + 16 * (1 + length (touched v.facts (g.V.Verifier.accepts v.keys) r fact))) c.self.view_is
    (λ fresh.
    let settled = c.self.invariant.1 fresh in
    let lacks : contains_key (facts_in a.rows.facts) r ≡ false
    = subst (λ (v : Indexed g.row.V.Denot). contains_key v.numbers c.args.number ≡ false → contains_key v.facts r ≡ false) (sym c.self.view_is) c.requires.alone
    (ap (λ (v : Indexed g.row.V.Denot). contains_key v.numbers c.args.number) c.self.view_is ∙ sym c.holds.ensures ∙ c.if-holds.false) in
    let h = inserted_ticks (g.V.Verifier.accepts a.keys) a.rows r fact settled lacks c.put_in_order.new.facts.ordered c.in_ok-put_in_order.ensures.put c.put_in_order.new.steps c.take_up-taken_up.new.steps (c.take_up-taken_up.ensures.ticks fresh) in
    let none : length (numbers_of a.rows.facts.loose) ≡ 0 = ap (λ (ns : List ℕ). length ns) settled.none in
    omega (arith, c.put_in_order.ensures.ticks, h, none))

-- where nothing was put

refused : {T E P : Type 0} (r : Result T E) → P → OnErr r P
refused (Ok x) same = tt
refused (Err e) same = same

pub returns-in_err-put_in_order-clause-ticks : goal.returns-in_err-put_in_order-clause-ticks
returns-in_err-put_in_order-clause-ticks g c =
    let a = c.self.inside in
    subst (λ (v : Indexed g.row.V.Denot). v.stale ≡ false → c.put_in_order.new.steps ≤ c.args.steps.now + 16 * (1 + length (touched v.facts (g.V.Verifier.accepts v.keys) c.args.r.now c.args.fact))) c.self.view_is
    (λ fresh.
    let none : length (numbers_of a.rows.facts.loose) ≡ 0 = ap (λ (ns : List ℕ). length ns) (c.self.invariant.1 fresh).none in
    omega (arith, c.put_in_order.ensures.ticks, none))

pub returns-in_err-put_in_order-clause-refused : goal.returns-in_err-put_in_order-clause-refused
returns-in_err-put_in_order-clause-refused g c =
    let a = c.self.inside in
    let facts = c.put_in_order.new.facts in
    let numbers = with_numbers (numbers_of facts.loose) c.put_in_order.new.numbers.numbers in
    let same : IsSame c.args.self.now (record { facts = facts_in facts; numbers = numbers; keys = a.keys; stale = a.stale })
    = record {
      facts = c.in_err-put_in_order.ensures.map ∙ ap (λ (v : Indexed g.row.V.Denot). v.facts) c.self.view_is;
      numbers = c.put_in_order.ensures.same ∙ ap (λ (v : Indexed g.row.V.Denot). v.numbers) c.self.view_is;
    } in
    refused c.from_residual-in_err-put_in_order.result same

-- a claim that adds one value

pub returns-then-is_err-clause-few_ticks : goal.returns-then-is_err-clause-few_ticks
returns-then-is_err-clause-few_ticks g c =
    let a = c.self.inside in
    let r = c.args.r.now in
    let fact = c.args.fact in
    subst (λ (v : Indexed g.row.V.Denot). v.stale ≡ false
    → AddsAlone (insert v.facts r fact) (g.V.Verifier.accepts v.keys) r fact
    → c.drop_row.new.steps ≤ c.args.steps.now + 25) c.self.view_is
    (λ fresh lone.
    let it = added_alone (g.V.Verifier.accepts a.keys) (facts_in a.rows.facts) c.put_in_order.new.facts.ordered r fact
    c.in_ok-put_in_order.ensures.put lone in
    let few = c.take_up-taken_up.ensures.few_ticks fresh it in
    let none : length (numbers_of a.rows.facts.loose) ≡ 0
    = ap (λ (ns : List ℕ). length ns) (c.self.invariant.1 fresh).none in
    omega (arith, c.put_in_order.ensures.ticks, c.drop_row.ensures.ticks, few, none))

pub returns-clause-few_ticks : goal.returns-clause-few_ticks
returns-clause-few_ticks g c =
    let a = c.self.inside in
    let r = c.args.r.now in
    let fact = c.args.fact in
    subst (λ (v : Indexed g.row.V.Denot). v.stale ≡ false
    → AddsAlone (insert v.facts r fact) (g.V.Verifier.accepts v.keys) r fact
    → c.take_up-taken_up.new.steps ≤ c.args.steps.now + 25) c.self.view_is
    (λ fresh lone.
    let it = added_alone (g.V.Verifier.accepts a.keys) (facts_in a.rows.facts) c.put_in_order.new.facts.ordered r fact
    c.in_ok-put_in_order.ensures.put lone in
    let few = c.take_up-taken_up.ensures.few_ticks fresh it in
    let none : length (numbers_of a.rows.facts.loose) ≡ 0
    = ap (λ (ns : List ℕ). length ns) (c.self.invariant.1 fresh).none in
    omega (arith, c.put_in_order.ensures.ticks, few, none))

pub returns-in_err-put_in_order-clause-few_ticks : goal.returns-in_err-put_in_order-clause-few_ticks
returns-in_err-put_in_order-clause-few_ticks g c =
    let a = c.self.inside in
    let r = c.args.r.now in
    let fact = c.args.fact in
    subst (λ (v : Indexed g.row.V.Denot). v.stale ≡ false
    → AddsAlone (insert v.facts r fact) (g.V.Verifier.accepts v.keys) r fact
    → c.put_in_order.new.steps ≤ c.args.steps.now + 25) c.self.view_is
    (λ fresh lone.
    let none : length (numbers_of a.rows.facts.loose) ≡ 0
    = ap (λ (ns : List ℕ). length ns) (c.self.invariant.1 fresh).none in
    omega (arith, c.put_in_order.ensures.ticks, none))
