use Rattle.std.proofs.Common.{◌≡◌, length, rules, refl}
use Rattle.query_text.specs.Text.{int_test_fields}
use Rattle.query_text.proofs.Pairs.{also, finished}
use Rattle.query_text.proofs.value_tests.push_int_test.Goals as goal

pub returns-clause-written : goal.returns-clause-written
returns-clause-written c =
    let at : c.len-start.result ≡ length c.args.out.now.items = (let e = c.len-start.ensures in let same = c.args.out.now.ok in search (rules, e, same)) in
    finished (int_test_fields c.args.test.now) c.args.out.now.items c.number_field-2.new.out.items c.close_object.new.out.items c.len-start.result c.close_object.result at
    (_, c.in_ok-number_field.ensures.written, (_, c.in_ok-number_field-2.ensures.written, refl)) c.close_object.ensures

pub returns-clause-holds : goal.returns-clause-holds
returns-clause-holds c = also c.close_object.result (c.in_ok-number_field.ensures.holds, c.in_ok-number_field-2.ensures.holds)
