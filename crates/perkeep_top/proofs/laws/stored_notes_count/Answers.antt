use Rattle.top_notes.specs.Meanings.{keys_of}
use Rattle.top_frame.specs.Outside.{outside}
use Rattle.perkeep_top.proofs.Counting.{notes_count}
use Rattle.perkeep_top.proofs.laws.stored_notes_count.Goals as goal

pub returns : goal.returns
returns g c =
    notes_count (outside g.D.Disk g.P.Peer g.S.Source g.K.Sink g.C.Clock g.R.Dice)
    (keys_of (g.V.Signer.holds c.args._keys.now) (g.V.Signer.seals c.args._keys.now)
    (g.V.Verifier.accepts c.args._keys.now))
    (g.met.V.Signer.accepted c.args._keys.now)
