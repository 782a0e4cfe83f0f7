use Rattle.std.proofs.Common.{List, ℕ, ap, subst, ◌∙◌}
use Rattle.std.specs.List.{list_any}
use Rattle.std.specs.Str.{bytes_eq}
use Rattle.claim_model.specs.Facts.{Facts}
use Rattle.share_gate.specs.Tables.{AreDeleted, AreLinks, AreShares}
use Rattle.share_gate.proofs.Reading.{read_then}
use Rattle.share_gate.proofs.Whole.{gate_whole}
use Rattle.share_gate.proofs.gate.ShareGate.build.Goals as goal

pub returns-in_err-shares-clause-read : goal.returns-in_err-shares-clause-read
returns-in_err-shares-clause-read g c =
    read_then g.B.Shelf g.met.B.Shelf.puts_then c.args.shelf.now c.link_rows.new.shelf c.share_rows.new.shelf
    c.in_ok-links.ensures.read c.in_err-shares.ensures.read

pub returns-in_err-deleted-clause-read : goal.returns-in_err-deleted-clause-read
returns-in_err-deleted-clause-read g c =
    read_then g.B.Shelf g.met.B.Shelf.puts_then c.args.shelf.now c.link_rows.new.shelf c.share_rows.new.shelf
    c.in_ok-links.ensures.read c.in_ok-shares.ensures.read

pub returns-in_err-copy-clause-read : goal.returns-in_err-copy-clause-read
returns-in_err-copy-clause-read g c =
    read_then g.B.Shelf g.met.B.Shelf.puts_then c.args.shelf.now c.link_rows.new.shelf c.share_rows.new.shelf
    c.in_ok-links.ensures.read c.in_ok-shares.ensures.read

pub returns-in_err-refs-clause-read : goal.returns-in_err-refs-clause-read
returns-in_err-refs-clause-read g c =
    read_then g.B.Shelf g.met.B.Shelf.puts_then c.args.shelf.now c.link_rows.new.shelf c.share_rows.new.shelf
    c.in_ok-links.ensures.read c.in_ok-shares.ensures.read

pub returns-clause-read : goal.returns-clause-read
returns-clause-read g c =
    read_then g.B.Shelf g.met.B.Shelf.puts_then c.args.shelf.now c.link_rows.new.shelf c.share_rows.new.shelf
    c.in_ok-links.ensures.read c.in_ok-shares.ensures.read

pub returns-clause-gate : goal.returns-clause-gate
returns-clause-gate g c = λ held is.
    let accepts = g.V.Verifier.accepts c.args.keys.now in
    gate_whole held accepts c.args.refs.now _ (c.requires.refs held is)
    (λ r. c.in_ok-refs.ensures r ∙ ap (list_any (bytes_eq r)) c.in_ok-copy.ensures)
    (subst (λ (rs : List (List ℕ)). AreLinks held rs c.in_ok-links.links) c.as_slice-listed.ensures
    (c.in_ok-links.ensures.ok held is))
    (subst (λ (rs : List (List ℕ)). AreShares held accepts rs c.in_ok-shares.shares) c.as_slice-listed.ensures
    (c.in_ok-shares.ensures.ok held (c.in_ok-links.ensures.read.told ∙ is)))
    (subst (λ (f : Facts). AreDeleted f accepts c.args.refs.now c.in_ok-deleted.deleted) (c.requires.facts held is)
    (subst (λ (rs : List (List ℕ)). AreDeleted (g.K.Look.facts c.args.look.now) accepts rs c.in_ok-deleted.deleted)
    c.as_slice-listed.ensures c.in_ok-deleted.ensures))
