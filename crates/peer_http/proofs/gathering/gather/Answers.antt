use Rattle.std.proofs.Common.{◌≡◌, ◌++◌, ◌≤◌, inl, [], List, ℕ, length, take, sym, ap, subst, ◌∙◌, arith, Ok, Err}
use Rattle.std.proofs.lemmas.List.{append-nil}
use Rattle.http_wire.specs.Bodies.{Moves}
use Rattle.http_wire.proofs.Leading.{Moves-chain}
use Rattle.peer_http.specs.declared.gathering.ReplyFault.TheVariants as reading
use Rattle.peer_http.proofs.Bodies.{gathered, cut_short, too_long, still_few, last_read, goes_further, some_given}
use Rattle.peer_http.proofs.gathering.gather.Goals as goal

pub returns-in-Err-clause-gathers : goal.returns-in-Err-clause-gathers
returns-in-Err-clause-gathers g c =
    let i = c.reads.invariant in
    gathered c.args.most _ _ _ c.args.wire.now c.reads.wire c.body.new.self c.reads.bytes.items []
    (Err c.fault_of.result) i.moved i.begun c.in-Err.ensures.moved
    (cut_short c.args.most _ c.args.wire.now.body c.body.new.self.body c.reads.wire.begun (c.reads.bytes.items ++ []) c.in-Err.end c.fault_of.result c.fault_of.ensures c.in-Err.ensures.err)

pub returns-then-n-eq0-clause-gathers : goal.returns-then-n-eq0-clause-gathers
returns-then-n-eq0-clause-gathers g c =
    let i = c.reads.invariant in
    let done = c.in-Ok.ensures.end c.if-n-eq0.true (let room = i.room in omega (arith, room, c.requires)) in
    gathered c.args.most _ _ _ c.args.wire.now c.reads.wire c.body.new.self c.reads.bytes.items (take c.in-Ok.n c.body.new.buf)
    (Ok c.from_vec.result) i.moved i.begun c.in-Ok.ensures.moved (
      ap (λ (n : ℕ). c.reads.bytes.items ++ take n c.body.new.buf) c.if-n-eq0.true ∙ append-nil c.reads.bytes.items ∙ sym c.from_vec.ensures,
      subst (λ (xs : List ℕ). length xs ≤ c.args.most) (sym c.from_vec.ensures) i.few,
      done,
      last_read _ _ c.args.wire.now c.reads.wire c.body.new.self (take c.in-Ok.n c.body.new.buf) i.last c.in-Ok.ensures.moved (λ on. c.in-Ok.ensures.ended on done),
    )

pub returns-then-n-most-clause-gathers : goal.returns-then-n-most-clause-gathers
returns-then-n-most-clause-gathers g c =
    let i = c.reads.invariant in
    gathered c.args.most _ _ _ c.args.wire.now c.reads.wire c.body.new.self c.reads.bytes.items (take c.in-Ok.n c.body.new.buf)
    (Err reading.Bad) i.moved i.begun c.in-Ok.ensures.moved
    (inl (too_long c.reads.bytes.items c.body.new.buf c.in-Ok.n c.args.most (omega (arith, c.in-Ok.ensures.bound)) (omega arith)))

pub returns-in_default-clause-gathers : goal.returns-in_default-clause-gathers
returns-in_default-clause-gathers g c =
    let i = c.reads.invariant in
    gathered c.args.most _ _ _ c.args.wire.now c.reads.wire c.body.new.self c.reads.bytes.items (take c.in-Ok.n c.body.new.buf)
    (Err reading.NoMemory) i.moved i.begun c.in-Ok.ensures.moved tt

pub reads-preserved : goal.reads-preserved
reads-preserved g c =
    let i = c.reads.invariant in
    let all : c.extend_from_slice.new.self.items ≡ c.reads.bytes.items ++ take c.in-Ok.n c.body.new.buf = c.in-Ok-extend_from_slice.ensures.items in
    let fits : c.in-Ok.n ≤ length c.body.new.buf = omega (arith, c.in-Ok.ensures.bound) in
    record {
      moved = subst (λ (xs : List ℕ). Moves (g.S.Source.left c.args.source.now) (g.S.Source.left c.body.new.source) c.args.wire.now.flow c.body.new.self.flow c.args.wire.now.body c.body.new.self.body xs) (sym all)
          (Moves-chain _ _ _ c.args.wire.now.flow c.reads.wire.flow c.body.new.self.flow c.args.wire.now.body c.reads.wire.body c.body.new.self.body c.reads.bytes.items (take c.in-Ok.n c.body.new.buf) i.moved c.in-Ok.ensures.moved);
      begun = c.in-Ok.ensures.kept.1 ∙ i.begun;
      later = omega (arith, i.later, c.in-Ok.ensures.later);
      last = goes_further _ _ c.args.wire.now c.reads.wire c.body.new.self (take c.in-Ok.n c.body.new.buf) i.last c.in-Ok.ensures.moved (some_given c.in-Ok.n c.body.new.buf fits c.if-n-eq0.false) c.in-Ok.ensures.stays c.in-Ok.ensures.ended;
      few = subst (λ (xs : List ℕ). length xs ≤ c.args.most) (sym all) (still_few c.reads.bytes.items c.body.new.buf c.in-Ok.n c.args.most fits i.few (omega arith));
      room = search;
    }
