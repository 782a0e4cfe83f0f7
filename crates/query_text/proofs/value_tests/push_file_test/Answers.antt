use Rattle.std.proofs.Common.{◌≡◌, length, rules, refl}
use Rattle.query_text.specs.Text.{file_test_fields}
use Rattle.query_text.proofs.Pairs.{also, finished}
use Rattle.query_text.proofs.value_tests.push_file_test.Goals as goal

pub returns-clause-written : goal.returns-clause-written
returns-clause-written c =
    let at : c.len-start.result ≡ length c.args.out.now.items = (let e = c.len-start.ensures in let same = c.args.out.now.ok in search (rules, e, same)) in
    finished (file_test_fields c.args.test.now) c.args.out.now.items c.int_test_field.new.out.items c.close_object.new.out.items c.len-start.result c.close_object.result at
    (_, c.in_ok-text_test_field.ensures.written, (_, c.in_ok-int_test_field.ensures.written, refl)) c.close_object.ensures

pub returns-clause-holds : goal.returns-clause-holds
returns-clause-holds c = also c.close_object.result (c.in_ok-text_test_field.ensures.holds, c.in_ok-int_test_field.ensures.holds)
