use Rattle.std.proofs.Common.{codes}
use Rattle.words_write.proofs.Pushed.{then_on}
use Rattle.words_write.proofs.word.push_children.Goals as goal

pub returns : goal.returns
returns c =
    then_on c.append-2.result c.args.out.now c.append.new.self c.append-2.new.self (codes "childrenof:") c.args.text.now
    c.in_ok-append.ensures c.append-2.ensures
