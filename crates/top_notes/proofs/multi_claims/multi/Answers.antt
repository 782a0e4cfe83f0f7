use Rattle.std.proofs.Common.{ap, sym, ◌∙◌}
use Rattle.top_frame.specs.declared.status.InputFault.TheVariants.{NoKey}
use Rattle.top_frame.specs.Outside.{outside, world_before}
use Rattle.top_frame.proofs.Ending.{bad_words}
use Rattle.top_notes.specs.Meanings.{keys_of, unless_held}
use Rattle.top_notes.specs.Multi.{multi_meaning}
use Rattle.top_notes.proofs.Changing.{unread_changes, claimed}
use Rattle.top_notes.proofs.multi_claims.multi.Goals as goal

pub returns-then-not-is_held : goal.returns-then-not-is_held
returns-then-not-is_held g c =
    let o = outside g.D.Disk g.P.Peer g.S.Source g.K.Sink g.C.Clock g.R.Dice in
    let keyring = c.args.environment.keys.now in
    let keys = keys_of (g.V.Signer.holds keyring) (g.V.Signer.seals keyring) (g.V.Verifier.accepts keyring) in
    bad_words o g.met.D.Disk.counts_now g.met.D.Disk.only_now (multi_meaning keys c.args.name.now)
    (world_before c.args.disk c.args.environment) NoKey
    (ap unless_held (sym c.is_held.ensures ∙ c.if-not-is_held.true))

pub returns-in-Err : goal.returns-in-Err
returns-in-Err g c =
    let o = outside g.D.Disk g.P.Peer g.S.Source g.K.Sink g.C.Clock g.R.Dice in
    let keyring = c.args.environment.keys.now in
    let keys = keys_of (g.V.Signer.holds keyring) (g.V.Signer.seals keyring) (g.V.Verifier.accepts keyring) in
    unread_changes o g.met.D.Disk.counts_now g.met.D.Disk.only_now keys c.args.name.now
    (sym c.is_held.ensures ∙ c.if-not-is_held.false) (world_before c.args.disk c.args.environment)
    c.read_changes.new.source c.in-Err.ensures.later c.in-Err.status c.in-Err.ensures.refused

pub returns-in-Ok : goal.returns-in-Ok
returns-in-Ok g c =
    let o = outside g.D.Disk g.P.Peer g.S.Source g.K.Sink g.C.Clock g.R.Dice in
    let keyring = c.args.environment.keys.now in
    let keys = keys_of (g.V.Signer.holds keyring) (g.V.Signer.seals keyring) (g.V.Verifier.accepts keyring) in
    claimed o g.met.D.Disk.counts_now g.met.D.Disk.only_now keys c.args.name.now
    (sym c.is_held.ensures ∙ c.if-not-is_held.false) (world_before c.args.disk c.args.environment)
    c.read_changes.new.source c.in-Ok.ensures.later
    c.in-Ok.ensures.read.text c.in-Ok.ensures.read.read c.in-Ok.changes c.in-Ok.ensures.read.listed _
    c.store_claim.result.1 c.store_claim.ensures
