use Rattle.std.proofs.Common.{◌≡◌, ◌++◌, ◌≤◌, [], List, ℕ, length, take, sym, ap, subst, ◌∙◌, arith, Ok, Err}
use Rattle.std.proofs.lemmas.List.{append-nil}
use Rattle.http_wire.specs.Bodies.{Moves}
use Rattle.http_exchange.specs.declared.gathering.BodyFault.TheVariants as body_fault
use Rattle.http_exchange.proofs.Bodies.{gathered, stop_says, too_long, still_few}
use Rattle.http_wire.proofs.Leading.{Moves-chain}
use Rattle.http_exchange.proofs.gathering.gather_on.Goals as goal

pub returns-in-Err-clause-gathers : goal.returns-in-Err-clause-gathers
returns-in-Err-clause-gathers g c =
    let i = c.reads.invariant in
    gathered _ _ _ c.args.wire.now c.reads.wire c.body.new.self c.reads.bytes.items []
    (Err c.fault_of.result) i.moved i.head i.begun c.in-Err.ensures.moved c.in-Err.ensures.kept
    (stop_says _ c.body.new.self.flow.bytes c.body.new.self.body c.reads.wire.begun (c.reads.bytes.items ++ [])
    c.fault_of.result
    (subst (λ (xs : List ℕ). length xs ≤ 1048576) (sym (append-nil c.reads.bytes.items)) i.few)
    (c.fault_of.ensures.says _ c.body.new.self.flow.bytes c.body.new.self.body c.reads.wire.begun
    c.in-Err.ensures.err (λ is. c.in-Err.ensures.short (ap Err is))))

pub returns-then-n-eq0-clause-gathers : goal.returns-then-n-eq0-clause-gathers
returns-then-n-eq0-clause-gathers g c =
    let i = c.reads.invariant in
    gathered _ _ _ c.args.wire.now c.reads.wire c.body.new.self c.reads.bytes.items
    (take c.in-Ok-body.n c.body.new.buf)
    (Ok c.from_vec.result) i.moved i.head i.begun c.in-Ok-body.ensures.moved c.in-Ok-body.ensures.kept (
      ap (λ (n : ℕ). c.reads.bytes.items ++ take n c.body.new.buf) c.if-n-eq0.true ∙ append-nil c.reads.bytes.items
          ∙ sym c.from_vec.ensures,
      subst (λ (xs : List ℕ). length xs ≤ 1048576) (sym c.from_vec.ensures) i.few,
      c.in-Ok-body.ensures.end c.if-n-eq0.true (let room = i.room in omega arith),
    )

pub returns-then-n-len-clause-gathers : goal.returns-then-n-len-clause-gathers
returns-then-n-len-clause-gathers g c =
    let i = c.reads.invariant in
    gathered _ _ _ c.args.wire.now c.reads.wire c.body.new.self c.reads.bytes.items
    (take c.in-Ok-body.n c.body.new.buf)
    (Err body_fault.Long) i.moved i.head i.begun c.in-Ok-body.ensures.moved c.in-Ok-body.ensures.kept
    (too_long c.reads.bytes.items c.body.new.buf c.in-Ok-body.n 1048576 16384
    (omega (arith, c.in-Ok-body.ensures.bound)) (let room = i.room in omega arith) i.few (omega arith))

pub returns-in_default-extend_from_slice-clause-gathers : goal.returns-in_default-extend_from_slice-clause-gathers
returns-in_default-extend_from_slice-clause-gathers g c =
    let i = c.reads.invariant in
    gathered _ _ _ c.args.wire.now c.reads.wire c.body.new.self c.reads.bytes.items
    (take c.in-Ok-body.n c.body.new.buf)
    (Err body_fault.Memory) i.moved i.head i.begun c.in-Ok-body.ensures.moved c.in-Ok-body.ensures.kept
    (still_few c.reads.bytes.items c.body.new.buf c.in-Ok-body.n 1048576
    (omega (arith, c.in-Ok-body.ensures.bound)) i.few (omega arith))

pub reads-preserved : goal.reads-preserved
reads-preserved g c =
    let i = c.reads.invariant in
    let all : c.extend_from_slice.new.self.items ≡ c.reads.bytes.items ++ take c.in-Ok-body.n c.body.new.buf =
    c.in-Ok-extend_from_slice.ensures.items in
    record {
      moved = subst (λ (xs : List ℕ). Moves (g.S.Source.left c.args.source.now)
          (g.S.Source.left c.body.new.source) c.args.wire.now.flow c.body.new.self.flow c.args.wire.now.body
          c.body.new.self.body xs) (sym all)
          (Moves-chain _ _ _ c.args.wire.now.flow c.reads.wire.flow c.body.new.self.flow c.args.wire.now.body
          c.reads.wire.body c.body.new.self.body c.reads.bytes.items
          (take c.in-Ok-body.n c.body.new.buf) i.moved c.in-Ok-body.ensures.moved);
      head = c.in-Ok-body.ensures.kept.0 ∙ i.head;
      begun = c.in-Ok-body.ensures.kept.1 ∙ i.begun;
      later = omega (arith, i.later, c.in-Ok-body.ensures.later);
      few = subst (λ (xs : List ℕ). length xs ≤ 1048576) (sym all)
          (still_few c.reads.bytes.items c.body.new.buf c.in-Ok-body.n 1048576
          (omega (arith, c.in-Ok-body.ensures.bound)) i.few (omega arith));
      room = search;
    }
