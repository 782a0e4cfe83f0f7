use Rattle.std.proofs.Common.{◌≡◌, ◌∙◌, sym, subst, IfOk, nat_lt, length, false, Some, None}
use Rattle.std.proofs.lemmas.Bool.{le-ltb}
use Rattle.schema_json.specs.Reading.{signed_first}
use Rattle.schema_json.proofs.Begins.{plain_begins}
use Rattle.schema_json.proofs.Signed.{signed_is, unsigned_is}
use Rattle.schema_json.proofs.reading.schema_kind.Goals as goal

pub returns-then-not-begins_object : goal.returns-then-not-begins_object
returns-then-not-begins_object c = plain_begins c.args.bytes.now c.if-not-begins_object.ensures

pub returns-in-Some : goal.returns-in-Some
returns-in-Some c =
    let short : nat_lt 1048576 (length c.args.bytes.now) ≡ false = le-ltb 1048576 (length c.args.bytes.now)
    c.if-bytes-gt-MAX_SCHEMA.false in
    let is : Some c.in-Some.kind ≡ signed_first c.args.bytes.now = sym c.in-Some.is ∙ c.in_ok-kind.ensures in
    signed_is c.args.bytes.now c.in-Some.kind short is

pub returns-in-None : goal.returns-in-None
returns-in-None c =
    let short : nat_lt 1048576 (length c.args.bytes.now) ≡ false = le-ltb 1048576 (length c.args.bytes.now)
    c.if-bytes-gt-MAX_SCHEMA.false in
    let is : None ≡ signed_first c.args.bytes.now = sym c.in-None.is ∙ c.in_ok-kind.ensures in
    subst (λ k. IfOk c.unsigned_in.result (λ kind. kind ≡ k)) (unsigned_is c.args.bytes.now short is)
    c.unsigned_in.ensures
