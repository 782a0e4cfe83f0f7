use Rattle.perkeep_words.proofs.Placing.{dir_placed, addr_placed}
use Rattle.perkeep_words.proofs.finding.places.Goals as goal

pub returns-clause-dir : goal.returns-clause-dir
returns-clause-dir c = rw (c.place_if.ensures, c.says_dir.ensures) (dir_placed c.args.words.now)

pub returns-clause-addr : goal.returns-clause-addr
returns-clause-addr c = rw (c.place_if-2.ensures, c.says_addr.ensures) (addr_placed c.args.words.now)
