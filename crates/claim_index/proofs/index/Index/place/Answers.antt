-- The fact is loose until it is moved, and counts all the while.
use Rattle.std.proofs.Common.{◌≡◌, ◌≤◌, ◌+◌, ◌*◌, ◌∷◌, ℕ, suc, List, [], length, false, Result, Ok, Err, OnOk, sym, ap, subst, ◌∙◌, arith}
use Rattle.std.specs.Result.{is_err}
use Rattle.std.proofs.lemmas.Bool.{true≢false}
use Rattle.std.proofs.lemmas.List.{length-map}
use Rattle.std.specs.FinMap.{contains_key, insert, len}
use Rattle.index_rows.specs.Loose.{LooseRow, numbers_of}
use Rattle.index_rows.specs.Touched.{touched, touched_in}
use Rattle.index_rows.specs.Waiting.{arrived}
use Rattle.claim_index.specs.Additions.{AddsAlone, IsAddedAlone}
use Rattle.claim_index.specs.Halfway.{facts_in, with_facts, HasOneMore}
use Rattle.claim_index.specs.Indexed.{Indexed}
use Rattle.claim_index.specs.Numbers.{NumberSet, with_numbers}
use Rattle.claim_index.proofs.InsertTicks.{inserted_ticks}
use Rattle.claim_index.proofs.LoneTicks.{added_alone}
use Rattle.claim_index.proofs.Marks.{len-more}
use Rattle.claim_index.proofs.Numbering.{with_one}
use Rattle.claim_index.proofs.Settled.{put_more}
use Rattle.claim_index.proofs.index.Index.place.Goals as goal

-- there is room for one loose row more
pub put_made-requires-clause-room : goal.put_made-requires-clause-room
put_made-requires-clause-room g c =
    let a = c.self.inside in
    let absent : contains_key c.args.self.now.numbers c.args.made.0 ≡ false
    = ap (contains_key c.args.self.now.numbers) (sym c.number.ensures) ∙ sym c.holds.ensures ∙ c.if-holds.false in
    let room = c.requires.room absent in
    let all = c.self.invariant.0 ∙ ap (λ (v : Indexed g.row.V.Denot). len v.numbers) c.self.view_is in
    let few = c.self.invariant.2 in
    let rows : length (numbers_of a.rows.facts.loose) ≡ length a.rows.facts.loose
    = length-map a.rows.facts.loose (λ (row : LooseRow). row.0) in
    omega (arith, room, all, few, rows)

pub settle-settled-requires : goal.settle-settled-requires
settle-settled-requires g c = λ fresh.
    let a = c.self.inside in
    let accepts = g.V.Verifier.accepts a.keys in
    let number = c.args.made.0 in
    let before : NumberSet = with_numbers (numbers_of a.rows.facts.loose) a.numbers.numbers in
    let absent : contains_key c.args.self.now.numbers number ≡ false
    = ap (contains_key c.args.self.now.numbers) (sym c.number.ensures) ∙ sym c.holds.ensures ∙ c.if-holds.false in
    let lacks : contains_key (facts_in a.rows.facts) c.args.made.1 ≡ false
    = ap (λ (v : Indexed g.row.V.Denot). contains_key v.facts c.args.made.1) c.self.view_is ∙ c.requires.alone absent in
    let hung = c.put_made.new.self in
    subst (λ (r : List ℕ). HasOneMore accepts (with_facts a.rows (record { ordered = facts_in hung; loose = [] })) r) (sym c.r-r.ensures)
    (put_more accepts a.rows (record { ordered = facts_in hung; loose = [] }) c.args.made.1 c.args.made.2 (c.self.invariant.1 fresh) lacks c.put_made.ensures.map)

-- one loose row more, and one number more
one_more_loose : (old hung : List LooseRow) (made : LooseRow) → hung ≡ made ∷ old → (count n : ℕ)
    → length (numbers_of old) ≤ count → n ≤ length (numbers_of hung) → n ≤ count + 1
one_more_loose old hung made is count n few fewer =
    let more : length (numbers_of hung) ≡ suc (length (numbers_of old)) = ap (λ (rows : List LooseRow). length (numbers_of rows)) is in
    omega (arith, few, fewer, more)

given : {T E P : Type 0} (r : Result T E) → is_err r ≡ false → OnOk r P → P
given (Ok x) is p = p
given (Err e) is p = absurd (true≢false is)

pub invariant_of-self : goal.invariant_of-self
invariant_of-self g c =
    let a = c.self.inside in
    let number = c.args.made.0 in
    let before : NumberSet = with_numbers (numbers_of a.rows.facts.loose) a.numbers.numbers in
    let absent : contains_key c.args.self.now.numbers number ≡ false
    = ap (contains_key c.args.self.now.numbers) (sym c.number.ensures) ∙ sym c.holds.ensures ∙ c.if-holds.false in
    let numbers = c.settle-settled.ensures.same
    ∙ ap (λ (rows : List LooseRow). with_numbers (numbers_of rows) a.numbers.numbers) c.put_made.ensures.loose
    ∙ with_one (numbers_of a.rows.facts.loose) a.numbers.numbers number in
    let new = ap (λ (v : Indexed g.row.V.Denot). contains_key v.numbers number) c.self.view_is ∙ absent in
    let few = one_more_loose a.rows.facts.loose c.put_made.new.self.loose c.args.made c.put_made.ensures.loose a.count
    (length (numbers_of c.settle-settled.new.rows.facts.loose)) c.self.invariant.2 c.settle-settled.ensures.fewer in (
      ap (λ n. n + 1) c.self.invariant.0 ∙ sym (ap len numbers ∙ len-more before number new),
      λ is. given c.settle-settled.result (sym c.is_err-self-inside.ensures.value ∙ is) c.settle-settled.ensures.settled,
      few,
    )

pub returns-clause-put : goal.returns-clause-put
returns-clause-put g c = λ absent.
    let a = c.self.inside in
    let number = c.args.made.0 in
    let numbers = c.settle-settled.ensures.same
    ∙ ap (λ (rows : List LooseRow). with_numbers (numbers_of rows) a.numbers.numbers) c.put_made.ensures.loose
    ∙ with_one (numbers_of a.rows.facts.loose) a.numbers.numbers number in
    record {
      fresh = absent;
      facts = c.settle-settled.ensures.map ∙ c.put_made.ensures.map
          ∙ ap (λ (v : Indexed g.row.V.Denot). insert v.facts c.args.made.1 c.args.made.2) c.self.view_is;
      numbers = numbers ∙ ap (λ (v : Indexed g.row.V.Denot). insert v.numbers number tt) c.self.view_is;
    }

pub returns-clause-ticks : goal.returns-clause-ticks
returns-clause-ticks g c =
    let a = c.self.inside in
    let fact = c.args.made.2 in
    subst (λ (v : Indexed g.row.V.Denot). v.stale ≡ false → c.settle-settled.new.steps ≤ c.args.steps.now + 16 * (1 + length (touched v.facts (g.V.Verifier.accepts v.keys) c.args.made.1 fact))) c.self.view_is
    (λ fresh.
    let settled = c.self.invariant.1 fresh in
    let number = c.args.made.0 in
    let before : NumberSet = with_numbers (numbers_of a.rows.facts.loose) a.numbers.numbers in
    let absent : contains_key c.args.self.now.numbers number ≡ false
    = ap (contains_key c.args.self.now.numbers) (sym c.number.ensures) ∙ sym c.holds.ensures ∙ c.if-holds.false in
    let lacks : contains_key (facts_in a.rows.facts) c.args.made.1 ≡ false
    = ap (λ (v : Indexed g.row.V.Denot). contains_key v.facts c.args.made.1) c.self.view_is ∙ c.requires.alone absent in
    let hung = c.put_made.new.self in
    let accepts = g.V.Verifier.accepts a.keys in
    let moved : length (numbers_of hung.loose) ≡ 1
    = ap (λ (rows : List LooseRow). length (numbers_of rows)) c.put_made.ensures.loose ∙ ap (λ (ns : List ℕ). length (number ∷ ns)) settled.none in
    let t = c.settle-settled.ensures.ticks fresh in
    let u : c.settle-settled.new.steps ≤ (c.put_made.new.steps + 3 * length (numbers_of hung.loose)) + 12 + 16 * length (touched_in (arrived (facts_in hung) a.rows.state) (facts_in hung) accepts c.args.made.1)
    = subst (λ (r : List ℕ). c.settle-settled.new.steps ≤ (c.put_made.new.steps + 3 * length (numbers_of hung.loose)) + 12 + 16 * length (touched_in (arrived (facts_in hung) a.rows.state) (facts_in hung) accepts r)) c.r-r.ensures t in
    let h = inserted_ticks accepts a.rows c.args.made.1 fact settled lacks (facts_in hung) c.put_made.ensures.map (c.put_made.new.steps + 3 * length (numbers_of hung.loose)) c.settle-settled.new.steps u in
    omega (arith, c.put_made.ensures.ticks, h, moved))

-- a claim that adds one value
pub returns-clause-few_ticks : goal.returns-clause-few_ticks
returns-clause-few_ticks g c =
    let a = c.self.inside in
    let r = c.args.made.1 in
    let fact = c.args.made.2 in
    subst (λ (v : Indexed g.row.V.Denot). v.stale ≡ false
    → AddsAlone (insert v.facts r fact) (g.V.Verifier.accepts v.keys) r fact
    → c.settle-settled.new.steps ≤ c.args.steps.now + 27) c.self.view_is
    (λ fresh lone.
    let accepts = g.V.Verifier.accepts a.keys in
    let hung = c.put_made.new.self in
    let moved : length (numbers_of hung.loose) ≡ 1
    = ap (λ (rows : List LooseRow). length (numbers_of rows)) c.put_made.ensures.loose
    ∙ ap (λ (ns : List ℕ). length (c.args.made.0 ∷ ns)) (c.self.invariant.1 fresh).none in
    let it = added_alone accepts (facts_in a.rows.facts) (facts_in hung) r fact c.put_made.ensures.map lone in
    let t = c.settle-settled.ensures.few_ticks fresh
    (subst (λ (y : List ℕ). IsAddedAlone (facts_in hung) accepts y) (sym c.r-r.ensures) it) in
    omega (arith, c.put_made.ensures.ticks, t, moved))
