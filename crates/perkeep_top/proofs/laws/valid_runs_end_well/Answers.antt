use Rattle.std.proofs.Common.{subst}
use Rattle.top_notes.specs.Meanings.{keys_of}
use Rattle.perkeep_top.specs.Run.{meaning_of, Runs}
use Rattle.perkeep_top.specs.SearchWords.{search_words_of}
use Rattle.top_frame.specs.Outside.{outside}
use Rattle.top_frame.proofs.Completing.{ends_well}
use Rattle.perkeep_top.proofs.laws.valid_runs_end_well.Goals as goal

pub returns : goal.returns
returns g c =
    let o = outside g.D.Disk g.P.Peer g.S.Source g.K.Sink g.C.Clock g.R.Dice in
    let keys = keys_of (g.V.Signer.holds c.args._keys.now) (g.V.Signer.seals c.args._keys.now)
    (g.V.Verifier.accepts c.args._keys.now) in
    λ words asked old new held answer is valid calm runs.
    ends_well o (meaning_of o.disk old.disk keys asked) old new held valid calm answer
    (subst (λ c. Runs o keys (search_words_of words) c old new answer) is runs)
