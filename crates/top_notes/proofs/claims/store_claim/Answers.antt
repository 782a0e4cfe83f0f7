use Rattle.std.proofs.Common.{◌∙◌, ap, sym}
use Rattle.top_frame.specs.declared.status.InputFault.TheVariants.{NoKey}
use Rattle.top_frame.specs.Outside.{outside, world_before}
use Rattle.top_frame.proofs.Ending.{bad_words}
use Rattle.top_notes.specs.Meanings.{keys_of, unless_held, claim_meaning}
use Rattle.top_notes.proofs.Noting.{claim_untimed, claim_unopened, claim_unmade, claim_stored}
use Rattle.top_notes.proofs.Signing.{can_be_put}
use Rattle.top_notes.proofs.claims.store_claim.Goals as goal

pub returns-then-not-is_held : goal.returns-then-not-is_held
returns-then-not-is_held g c =
    let o = outside g.D.Disk g.P.Peer g.S.Source g.K.Sink g.C.Clock g.R.Dice in
    let keyring = c.args.environment.keys.now in
    let keys = keys_of (g.V.Signer.holds keyring) (g.V.Signer.seals keyring) (g.V.Verifier.accepts keyring) in
    bad_words o g.met.D.Disk.counts_now g.met.D.Disk.only_now (claim_meaning keys c.args.name.now c.args.what.now)
    (world_before c.args.disk c.args.environment) NoKey
    (ap unless_held (sym c.is_held.ensures ∙ c.if-not-is_held.true))

pub returns-in-Err : goal.returns-in-Err
returns-in-Err g c =
    let o = outside g.D.Disk g.P.Peer g.S.Source g.K.Sink g.C.Clock g.R.Dice in
    let keyring = c.args.environment.keys.now in
    let keys = keys_of (g.V.Signer.holds keyring) (g.V.Signer.seals keyring) (g.V.Verifier.accepts keyring) in
    claim_untimed o g.met.D.Disk.counts_now g.met.D.Disk.only_now keys c.args.name.now
    (sym c.is_held.ensures ∙ c.if-not-is_held.false) (world_before c.args.disk c.args.environment) c.args.what.now
    c.date_of.new.clock c.in-Err.ensures.cause.later c.in-Err.ensures.cause.failed

pub returns-in-Err-opened : goal.returns-in-Err-opened
returns-in-Err-opened g c =
    let o = outside g.D.Disk g.P.Peer g.S.Source g.K.Sink g.C.Clock g.R.Dice in
    let keyring = c.args.environment.keys.now in
    let keys = keys_of (g.V.Signer.holds keyring) (g.V.Signer.seals keyring) (g.V.Verifier.accepts keyring) in
    claim_unopened o g.met.D.Disk.counts_now g.met.D.Disk.only_now keys c.args.name.now
    (sym c.is_held.ensures ∙ c.if-not-is_held.false) (world_before c.args.disk c.args.environment) c.args.what.now
    c.date_of.new.clock c.in-Ok.ensures.cause.later
    c.in-Ok.date c.in-Ok.ensures.range c.in-Ok.ensures.text c.in-Ok.ensures.told
    c.in-Err-opened.end.0 c.in-Err-opened.ensures.stays_err c.in-Err-opened.ensures.later_err c.in-Err-opened.end.1
    c.in-Err-opened.ensures.refused

pub store_note-requires : goal.store_note-requires
store_note-requires g c =
    let note = c.in-Ok-claim_note.ensures.note in
    can_be_put (g.V.Signer.seals c.args.environment.keys.now) c.args.name.now _ c.in-Ok-claim_note.note note.is

pub returns-in-Ok-claim_note : goal.returns-in-Ok-claim_note
returns-in-Ok-claim_note g c =
    let o = outside g.D.Disk g.P.Peer g.S.Source g.K.Sink g.C.Clock g.R.Dice in
    let keyring = c.args.environment.keys.now in
    let keys = keys_of (g.V.Signer.holds keyring) (g.V.Signer.seals keyring) (g.V.Verifier.accepts keyring) in
    let store = c.in-Ok-opened.store in
    claim_stored o g.met.D.Disk.counts_now g.met.D.Disk.only_now keys c.args.name.now
    (sym c.is_held.ensures ∙ c.if-not-is_held.false) (world_before c.args.disk c.args.environment) c.args.what.now
    c.date_of.new.clock c.in-Ok.ensures.cause.later
    c.in-Ok.date c.in-Ok.ensures.range c.in-Ok.ensures.text c.in-Ok.ensures.told
    store c.in-Ok-opened.ensures.stays c.in-Ok-opened.ensures.later c.in-Ok-opened.ensures.stands
    c.in-Ok-claim_note.note c.in-Ok-claim_note.ensures.note c.store_note.result.0 c.store_note.new.sink
    c.store_note.result.1 c.store_note.ensures

pub returns-in-Err-claim_note : goal.returns-in-Err-claim_note
returns-in-Err-claim_note g c =
    let o = outside g.D.Disk g.P.Peer g.S.Source g.K.Sink g.C.Clock g.R.Dice in
    let keyring = c.args.environment.keys.now in
    let keys = keys_of (g.V.Signer.holds keyring) (g.V.Signer.seals keyring) (g.V.Verifier.accepts keyring) in
    let store = c.in-Ok-opened.store in
    rw (c.give_back.ensures, c.from.ensures) (
    claim_unmade o g.met.D.Disk.counts_now g.met.D.Disk.only_now keys c.args.name.now
    (sym c.is_held.ensures ∙ c.if-not-is_held.false) (world_before c.args.disk c.args.environment) c.args.what.now
    c.date_of.new.clock c.in-Ok.ensures.cause.later
    c.in-Ok.date c.in-Ok.ensures.range c.in-Ok.ensures.text c.in-Ok.ensures.told
    store c.in-Ok-opened.ensures.stays c.in-Ok-opened.ensures.later c.in-Ok-opened.ensures.stands
    c.in-Err-claim_note.fault c.in-Err-claim_note.ensures.refused)
