use Rattle.std.proofs.Common.{◌-◌, ap, arith, length}
use Rattle.core_home.proofs.Settling.{count_of_lacking}
use Rattle.core_home.proofs.pass.CorePass.lacking.Goals as goal

pub overflow_sub-result : goal.overflow_sub-result
overflow_sub-result g c =
    let so_many = count_of_lacking c.args.self.now.core.state c.requires in
    let blobs = ap length c.blobs.ensures in
    let numbers = ap length c.indexed.ensures in
    omega (arith, so_many, blobs, numbers)

pub returns : goal.returns
returns g c =
    let so_many = count_of_lacking c.args.self.now.core.state c.requires in
    let blobs = ap length c.blobs.ensures in
    let numbers = ap length c.indexed.ensures in
    omega (arith, so_many, blobs, numbers)
