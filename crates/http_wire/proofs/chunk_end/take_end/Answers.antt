use Rattle.std.proofs.Common.{◌≡◌, ℕ, List, [], take, sym, ap, ◌∙◌, subst}
use Rattle.httparse.specs.Ascii.{crlf_bytes}
use Rattle.http_wire.specs.Stream.{Passed}
use Rattle.http_wire.proofs.Passing.{none_passed, Passed-chain}
use Rattle.http_wire.proofs.Fetching.{fetched_twice}
use Rattle.http_wire.proofs.Leading.{bad_stream}
use Rattle.http_wire.proofs.chunk_end.take_end.Goals as goal

pub returns-in-Whole-clause-ok : goal.returns-in-Whole-clause-ok
returns-in-Whole-clause-ok g c =
    let both : take 2 c.reads.ahead.bytes ≡ crlf_bytes = ap (take 2) (sym c.as_slice.ensures ∙ c.in-Whole.ensures.1) in
    Passed-chain _ _ _ _ _ _ [] _ (none_passed _ _ c.args.ahead.now c.reads.ahead c.reads.invariant.fetched c.reads.invariant.taken)
    (subst (λ (xs : List ℕ). Passed (g.S.Source.left c.reads.source) (g.S.Source.left c.reads.source) c.reads.ahead c.pass.new.self xs) both (c.pass.ensures _))

pub returns-in-Wrong-clause-broken : goal.returns-in-Wrong-clause-broken
returns-in-Wrong-clause-broken g c = λ _. bad_stream c.reads.ahead.bytes c.as_slice.result.now _ c.as_slice.ensures c.in-Wrong.ensures

pub returns-in_default-clause-err : goal.returns-in_default-clause-err
returns-in_default-clause-err g c =
    none_passed _ _ c.args.ahead.now c.fetch.new.self (fetched_twice _ _ _ _ _ _ c.reads.invariant.fetched c.in_default.ensures.fetched) (c.in_default.ensures.taken ∙ c.reads.invariant.taken)
