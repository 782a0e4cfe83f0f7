use Rattle.std.proofs.Common.{◌≡◌, ◌≤◌, [], ◌∷◌, length, Result, Err, OnOk, sym, subst, ap, ◌∙◌, arith}
use Rattle.edge_base.specs.Shelf.{Keeps}
use Rattle.pack_format.specs.Header.{max_size}
use Rattle.pack_store.specs.Archive.{Archive}
use Rattle.pack_store.specs.Puts.{HasNoRoom}
use Rattle.pack_store.specs.StoreShelf.{content_of, PutsStore}
use Rattle.pack_store.proofs.StoreShelf.{content_after, content_refused, store_leaves_own}
use Rattle.peer_base.specs.Causes.{PutLeaves}
use Rattle.peer_base.specs.declared.peer.PeerFault.{PeerFault}
use Rattle.store_peer.specs.StorePeer.{put_answer}
use Rattle.store_peer.proofs.Answered.{of_peer, are_of_peer, put_keeps, put_leaves}
use Rattle.store_peer.proofs.store_peer.StorePeerPeer.put.Goals as goal
use Rattle.store_peer.proofs.store_peer.StorePeerPeer.put.Goals.{in-Ok, in-Err}

pub put_fault-requires : goal.put_fault-requires
put_fault-requires g c = of_peer c.self.inside.store c.args.r.now (length c.args.bytes.now) (omega (arith, c.requires.small)) c.in-Err.fault c.in-Err.ensures.answer

pub returns-clause-kept : goal.returns-clause-kept
returns-clause-kept g c =
    let s = c.self.inside.store in
    let new = c.put_own.new.self in
    let r = c.args.r.now in
    let bytes = c.args.bytes.now in
    let told = c.put_own.result in
    let is : c.match-put_own.result ≡ put_answer told = elim c.match-put_own.branch [
      | in-Ok w ↦ w.result-is ∙ ap put_answer (sym w.in-Ok.is)
      | in-Err w ↦ w.result-is ∙ ap Err w.put_fault.ensures ∙ ap put_answer (sym w.in-Err.is)
    ] in
    let after = content_after g.D.Disk s new r bytes told c.put_own.ensures.answer c.put_own.ensures.leaves in
    let Kept = λ (x : Archive g.row.D.Denot). Keeps (content_of g.D.Disk x) (content_of g.D.Disk new) ((r, bytes) ∷ []) in
    subst (λ (x : Archive g.row.D.Denot). OnOk c.match-put_own.result (Kept x)) c.self.view_is
    (subst (λ (x : Result (Unit {0}) PeerFault). OnOk x (Kept s)) (sym is) (put_keeps (Kept s) told after))

pub returns-clause-leaves : goal.returns-clause-leaves
returns-clause-leaves g c =
    let s = c.self.inside.store in
    let new = c.put_own.new.self in
    let r = c.args.r.now in
    let bytes = c.args.bytes.now in
    let told = c.put_own.result in
    let disk = g.D.Disk in
    let small : length bytes ≤ max_size = omega (arith, c.requires.small) in
    let is : c.match-put_own.result ≡ put_answer told = elim c.match-put_own.branch [
      | in-Ok w ↦ w.result-is ∙ ap put_answer (sym w.in-Ok.is)
      | in-Err w ↦ w.result-is ∙ ap Err w.put_fault.ensures ∙ ap put_answer (sym w.in-Err.is)
    ] in
    let leaves = store_leaves_own disk g.met.D.Disk.counts_now g.met.D.Disk.only_now s new r bytes c.requires.own small c.puts_last.ensures told c.put_own.ensures.any_moment c.put_own.ensures.answer
    c.put_own.ensures.leaves c.put_own.ensures.acknowledged c.put_own.ensures.failed in
    let Left = λ (x : Archive g.row.D.Denot) (answer : Result (Unit {0}) PeerFault).
    PutLeaves (λ blobs. PutsStore disk x blobs new) (HasNoRoom disk new.limits new (r, bytes)) (content_of disk x) (content_of disk new) (disk.faults x.disk) (disk.faults new.disk) (r, bytes) answer in
    subst (λ (x : Archive g.row.D.Denot). Left x c.match-put_own.result) c.self.view_is
    (subst (Left s) (sym is)
    (put_leaves (λ blobs. PutsStore disk s blobs new) (HasNoRoom disk new.limits new (r, bytes)) (content_of disk s) (content_of disk new) (disk.faults s.disk) (disk.faults new.disk) (r, bytes) told
    (are_of_peer s r (length bytes) small told c.put_own.ensures.answer) (content_refused disk s new r bytes told c.put_own.ensures.leaves) leaves))
