use Rattle.std.proofs.Common.{◌≡◌, ◌+◌, ℕ, length, take, ap, subst, sym, ◌∙◌, arith, ◌⊎◌, inr, ⊎_elim}
use Rattle.http_wire.specs.declared.scanning.Scanned.TheVariants.{End, Open}
use Rattle.http_wire.specs.Stream.{Flow}
use Rattle.http_wire.specs.declared.line_state.LineState.{LineState}
use Rattle.http_wire.specs.Lines.{scanned, Reaches, Lacks}
use Rattle.http_wire.proofs.Seams.{seam_read, front_same, reached}
use Rattle.http_wire.proofs.Fetching.{fetched_twice, none_came}
use Rattle.http_wire.proofs.filling.fill_on.Goals as goal

pub overflow_add-result : goal.overflow_add-result
overflow_add-result g c =
    let found = seam_read c.args.place c.reads.at (End c.in-End.n) c.reads.ahead.bytes c.as_slice-bytes.result.now
    c.reads.seen c.args.limit c.min-most.result c.as_slice-bytes.ensures c.min-most.ensures (omega arith)
    (omega arith) c.reads.invariant.looked c.in-End.ensures in
    let fits = reached c.args.place c.args.limit (c.reads.seen + c.in-End.n) c.reads.ahead.bytes found in
    omega (arith, fits.1)

pub returns-in-End-clause-found : goal.returns-in-End-clause-found
returns-in-End-clause-found g c =
    seam_read c.args.place c.reads.at (End c.in-End.n) c.reads.ahead.bytes c.as_slice-bytes.result.now c.reads.seen
    c.args.limit c.min-most.result c.as_slice-bytes.ensures c.min-most.ensures (omega arith) (omega arith)
    c.reads.invariant.looked c.in-End.ensures

pub returns-then-seen-limit-clause-long : goal.returns-then-seen-limit-clause-long
returns-then-seen-limit-clause-long g c = λ _. (
  (
    c.in-Open.next,
    seam_read c.args.place c.reads.at (Open c.in-Open.next) c.reads.ahead.bytes
        c.as_slice-bytes.result.now c.reads.seen c.args.limit c.min-most.result c.as_slice-bytes.ensures
        c.min-most.ensures (omega arith) (omega arith) c.reads.invariant.looked c.in-Open.ensures,
  ),
  omega (arith, ap length c.as_slice-bytes.ensures),
)

pub returns-then-n-eq0-clause-ended : goal.returns-then-n-eq0-clause-ended
returns-then-n-eq0-clause-ended g c = λ _.
    let same = none_came _ _ _ c.in-Ok.n c.in-Ok.ensures.fetched.1 c.in-Ok.ensures.grew c.if-n-eq0.true in
    let open_still : scanned c.args.place (take c.args.limit c.fetch.new.self.bytes) ≡ Open c.in-Open.next =
    ap (λ xs. scanned c.args.place (take c.args.limit xs)) same
    ∙ seam_read c.args.place c.reads.at (Open c.in-Open.next) c.reads.ahead.bytes c.as_slice-bytes.result.now
    c.reads.seen c.args.limit c.min-most.result c.as_slice-bytes.ensures c.min-most.ensures (omega arith)
    (omega arith) c.reads.invariant.looked c.in-Open.ensures in (
      (c.in-Open.next, open_still),
      omega (arith, ap length c.as_slice-bytes.ensures, c.in-Ok.ensures.grew),
      c.in-Ok.ensures.end c.if-n-eq0.true,
    )

pub returns-in_default-clause-fetched : goal.returns-in_default-clause-fetched
returns-in_default-clause-fetched g c = fetched_twice _ _ _ _ _ _ c.reads.invariant.fetched c.in_default.ensures.fetched

pub returns-in_default-clause-short : goal.returns-in_default-clause-short
returns-in_default-clause-short g c = λ _.
    let same = c.in_default.ensures.kept in
    let open_still : scanned c.args.place (take c.args.limit c.fetch.new.self.bytes) ≡ Open c.in-Open.next =
    ap (λ xs. scanned c.args.place (take c.args.limit xs)) same
    ∙ seam_read c.args.place c.reads.at (Open c.in-Open.next) c.reads.ahead.bytes c.as_slice-bytes.result.now
    c.reads.seen c.args.limit c.min-most.result c.as_slice-bytes.ensures c.min-most.ensures (omega arith)
    (omega arith) c.reads.invariant.looked c.in-Open.ensures in
    (omega (arith, ap length c.as_slice-bytes.ensures, ap length same), (c.in-Open.next, open_still))

-- where the lines end within what was there at first, nothing was read so far, and they end in what is there
module _ {S : Type 0} (p : LineState) (limit : ℕ) (first now : S) (old ahead : Flow)
    (ready : ((now ≡ first) × (ahead ≡ old)) ⊎ Lacks p limit old.bytes) where
  lacks_still : (next : LineState) → scanned p (take limit ahead.bytes) ≡ Open next → Lacks p limit old.bytes
  lacks_still next is =
      ⊎_elim (λ same. subst (λ (f : Flow). Lacks p limit f.bytes) same.1 (next, is)) (λ lacks. lacks) ready

  not_yet : (n : ℕ) → Reaches p limit old.bytes n → now ≡ first
  not_yet n found = ⊎_elim (λ same. same.0) (λ lacks. absurd (cc (sym lacks.1 ∙ found))) ready

  never : (next : LineState) → scanned p (take limit ahead.bytes) ≡ Open next → (n : ℕ) → Reaches p limit old.bytes n
      → ⊥
  never next is n found = let lacks = lacks_still next is in absurd (cc (sym lacks.1 ∙ found))

pub returns-in-End-clause-ready : goal.returns-in-End-clause-ready
returns-in-End-clause-ready g c n found = not_yet c.args.place c.args.limit c.args.source.now c.reads.source
    c.args.ahead.now
    c.reads.ahead c.reads.invariant.ready n found

pub returns-then-seen-limit-clause-ready : goal.returns-then-seen-limit-clause-ready
returns-then-seen-limit-clause-ready g c n found = absurd (never c.args.place c.args.limit c.args.source.now
    c.reads.source c.args.ahead.now
    c.reads.ahead c.reads.invariant.ready c.in-Open.next (seam_read c.args.place c.reads.at (Open c.in-Open.next)
    c.reads.ahead.bytes
    c.as_slice-bytes.result.now c.reads.seen c.args.limit c.min-most.result c.as_slice-bytes.ensures c.min-most.ensures
    (omega arith) (omega arith) c.reads.invariant.looked c.in-Open.ensures) n found)

pub returns-then-n-eq0-clause-ready : goal.returns-then-n-eq0-clause-ready
returns-then-n-eq0-clause-ready g c n found = absurd (never c.args.place c.args.limit c.args.source.now c.reads.source
    c.args.ahead.now
    c.reads.ahead c.reads.invariant.ready c.in-Open.next (seam_read c.args.place c.reads.at (Open c.in-Open.next)
    c.reads.ahead.bytes
    c.as_slice-bytes.result.now c.reads.seen c.args.limit c.min-most.result c.as_slice-bytes.ensures c.min-most.ensures
    (omega arith) (omega arith) c.reads.invariant.looked c.in-Open.ensures) n found)

pub returns-in_default-clause-ready : goal.returns-in_default-clause-ready
returns-in_default-clause-ready g c n found = absurd (never c.args.place c.args.limit c.args.source.now c.reads.source
    c.args.ahead.now
    c.reads.ahead c.reads.invariant.ready c.in-Open.next (seam_read c.args.place c.reads.at (Open c.in-Open.next)
    c.reads.ahead.bytes
    c.as_slice-bytes.result.now c.reads.seen c.args.limit c.min-most.result c.as_slice-bytes.ensures c.min-most.ensures
    (omega arith) (omega arith) c.reads.invariant.looked c.in-Open.ensures) n found)

pub reads-preserved : goal.reads-preserved
reads-preserved g c =
    let lines = seam_read c.args.place c.reads.at (Open c.in-Open.next) c.reads.ahead.bytes
    c.as_slice-bytes.result.now c.reads.seen c.args.limit c.min-most.result c.as_slice-bytes.ensures c.min-most.ensures
    (omega arith) (omega arith) c.reads.invariant.looked c.in-Open.ensures in
    record {
      fetched = fetched_twice _ _ _ _ _ _ c.reads.invariant.fetched c.in-Ok.ensures.fetched;
      ready = inr (lacks_still c.args.place c.args.limit c.args.source.now c.reads.source c.args.ahead.now
          c.reads.ahead c.reads.invariant.ready c.in-Open.next lines);
      taken = c.in-Ok.ensures.taken ∙ c.reads.invariant.taken;
      later = omega (arith, c.in-Ok.ensures.cause.later);
      looked = ap (scanned c.args.place) (front_same c.args.limit c.min-most.result c.reads.ahead.bytes
          c.as_slice-bytes.result.now _ c.fetch.new.self.bytes c.as_slice-bytes.ensures c.min-most.ensures
          c.in-Ok.ensures.fetched.1) ∙ seam_read c.args.place c.reads.at (Open c.in-Open.next) c.reads.ahead.bytes
          c.as_slice-bytes.result.now c.reads.seen c.args.limit c.min-most.result c.as_slice-bytes.ensures
          c.min-most.ensures (omega arith) (omega arith) c.reads.invariant.looked c.in-Open.ensures;
      small = omega arith;
      within = omega (arith, ap length c.as_slice-bytes.ensures, c.in-Ok.ensures.grew);
    }
