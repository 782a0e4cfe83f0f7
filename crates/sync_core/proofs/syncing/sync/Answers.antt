use Rattle.std.proofs.Common.{◌<◌, ◌∙◌, ◌+◌, ◌-◌, ◌^◌, min, inl, ℕ, List, [], Option, Some, None, Err, sym, subst, ap}
use Rattle.std.proofs.Common.{arith}
use Rattle.peer_base.specs.Order.{last_ref}
use Rattle.listed_pages.proofs.Runs.{laws, listed_once, source_answered_on, reached_on, reached_end}
use Rattle.listed_pages.proofs.Faults.{list_fault}
use Rattle.sync_core.proofs.Gone.{listing_fault, source_later}
use Rattle.sync_core.proofs.Paging.{far_start, far_more, far_end, far_stopped, far_unlisted, far_unasked, page_there}
use Rattle.listed_pages.proofs.Room.{room_above, page_falls}
use Rattle.listed_pages.specs.Pages.{AsksOnce}
use Rattle.sync_core.specs.Copying.{CopiesPage, CopiesSome}
use Rattle.sync_core.proofs.syncing.sync.Goals as goal

pub returns-in-Err-clause-err : goal.returns-in-Err-clause-err
returns-in-Err-clause-err g c =
    let a = g.A.Peer in
    let b = g.B.Peer in
    let source = c.args.source.now in
    far_unlisted a b (laws g.A.Peer g.met.A.Peer.puts_nothing g.met.A.Peer.puts_then g.met.A.Peer.puts_follows
    g.met.A.Peer.follows_then) (laws g.B.Peer g.met.B.Peer.puts_nothing g.met.B.Peer.puts_then
    g.met.B.Peer.puts_follows g.met.B.Peer.follows_then) source c.args.target.now c.blobs_are_small.ensures source
    c.list.new.self c.args.target.now None 0 0 c.in-Err.fault
    (listing_fault (a.content source) (a.faults source) (a.faults c.list.new.self) c.in-Err.fault
    (list_fault (a.content source) (a.faults source) (a.faults c.list.new.self) (List (List ℕ × ℕ)) c.in-Err.fault
    c.in-Err.ensures.cause))
    (inl (listed_once a (laws g.A.Peer g.met.A.Peer.puts_nothing g.met.A.Peer.puts_then g.met.A.Peer.puts_follows
    g.met.A.Peer.follows_then) source c.list.new.self None 1000 (Err c.in-Err.fault) c.in-Err.ensures.is))
    c.in-Err.ensures.is
    (far_start a b (laws g.A.Peer g.met.A.Peer.puts_nothing g.met.A.Peer.puts_then g.met.A.Peer.puts_follows
    g.met.A.Peer.follows_then) (laws g.B.Peer g.met.B.Peer.puts_nothing g.met.B.Peer.puts_then
    g.met.B.Peer.puts_follows g.met.B.Peer.follows_then) source c.args.target.now)

pub returns-in-Err-clause-run : goal.returns-in-Err-clause-run
returns-in-Err-clause-run g c = g.met.B.Peer.puts_follows c.args.target.now c.args.target.now []
    (g.met.B.Peer.puts_nothing c.args.target.now)

pub pages-init : goal.pages-init
pages-init g c = record {
  ends = c.last_ref-end.ensures.last ∙ ap last_ref c.as_slice.ensures;
  shape = c.in-Ok.ensures.page;
  page = c.in-Ok.ensures.found;
  far = (
    c.args.source.now,
    c.in-Ok.ensures.is,
    far_start g.A.Peer g.B.Peer
        (laws g.A.Peer g.met.A.Peer.puts_nothing g.met.A.Peer.puts_then g.met.A.Peer.puts_follows
        g.met.A.Peer.follows_then) (laws g.B.Peer g.met.B.Peer.puts_nothing g.met.B.Peer.puts_then
        g.met.B.Peer.puts_follows g.met.B.Peer.follows_then) c.args.source.now c.args.target.now,
  );
  reached = tt;
  told = c.in-Ok.ensures.told;
  source_later = c.in-Ok.ensures.later;
  target_later = omega arith;
  nothing = c.in-Ok.ensures.nothing;
  run = g.met.B.Peer.puts_follows c.args.target.now c.args.target.now [] (g.met.B.Peer.puts_nothing c.args.target.now);
}

pub returns-in-Ok-ask_once-clause-ok : goal.returns-in-Ok-ask_once-clause-ok
returns-in-Ok-ask_once-clause-ok g c =
    let a = g.A.Peer in
    let b = g.B.Peer in
    let target = c.args.target.now in
    let now = c.ask_once.new.target in
    let far = c.pages.invariant.far in
    far_end a b (laws g.A.Peer g.met.A.Peer.puts_nothing g.met.A.Peer.puts_then g.met.A.Peer.puts_follows
    g.met.A.Peer.follows_then) (laws g.B.Peer g.met.B.Peer.puts_nothing g.met.B.Peer.puts_then
    g.met.B.Peer.puts_follows g.met.B.Peer.follows_then) c.args.source.now target c.blobs_are_small.ensures far.0
    c.pages.source c.pages.target now c.pages.after c.pages.page c.pages.done
    far.1 c.pages.invariant.shape c.pages.invariant.page (sym c.in-None.is ∙ c.pages.invariant.ends)
    c.in-Ok-ask_once.ensures.told c.in-Ok-ask_once.ensures.nothing
    (subst (λ asked. AsksOnce b asked c.pages.target now) c.is_some.ensures c.in-Ok-ask_once.ensures.once) far.2
    (reached_end b (laws g.B.Peer g.met.B.Peer.puts_nothing g.met.B.Peer.puts_then g.met.B.Peer.puts_follows
    g.met.B.Peer.follows_then) target c.pages.target now c.pages.after c.is_some.result c.is_some.ensures
    c.pages.invariant.reached c.pages.invariant.run (g.met.B.Peer.puts_follows c.pages.target now
    [] c.in-Ok-ask_once.ensures.nothing) c.in-Ok-ask_once.ensures.reached)

pub returns-in-Ok-ask_once-clause-run : goal.returns-in-Ok-ask_once-clause-run
returns-in-Ok-ask_once-clause-run g c =
    g.met.B.Peer.follows_then c.args.target.now c.pages.target c.ask_once.new.target c.pages.invariant.run
    (g.met.B.Peer.puts_follows c.pages.target c.ask_once.new.target [] c.in-Ok-ask_once.ensures.nothing)

pub returns-in-Err-ask_once-clause-err : goal.returns-in-Err-ask_once-clause-err
returns-in-Err-ask_once-clause-err g c =
    let now = c.ask_once.new.target in
    let e = c.in-Err-ask_once.fault in
    let far = c.pages.invariant.far in
    let asked = c.in-Err-ask_once.ensures in
    far_unasked g.A.Peer g.B.Peer (laws g.A.Peer g.met.A.Peer.puts_nothing g.met.A.Peer.puts_then
    g.met.A.Peer.puts_follows g.met.A.Peer.follows_then)
    (laws g.B.Peer g.met.B.Peer.puts_nothing g.met.B.Peer.puts_then g.met.B.Peer.puts_follows
    g.met.B.Peer.follows_then) c.args.source.now c.args.target.now c.blobs_are_small.ensures far.0 c.pages.source
    c.pages.target now c.pages.after c.pages.page
    c.pages.done.copied c.pages.done.already e far.1 (sym c.in-None.is ∙ c.pages.invariant.ends) c.pages.invariant.told
    c.pages.invariant.source_later c.pages.invariant.target_later c.pages.invariant.nothing
    (sym c.is_some.ensures ∙ asked.stopped.0) asked.stopped.1 asked.told asked.nothing asked.cause asked.answered far.2

pub returns-in-Err-ask_once-clause-run : goal.returns-in-Err-ask_once-clause-run
returns-in-Err-ask_once-clause-run g c =
    g.met.B.Peer.follows_then c.args.target.now c.pages.target c.ask_once.new.target c.pages.invariant.run
    (g.met.B.Peer.puts_follows c.pages.target c.ask_once.new.target [] c.in-Err-ask_once.ensures.nothing)

pub copy_page-requires-clause-there : goal.copy_page-requires-clause-there
copy_page-requires-clause-there g c =
    page_there (g.A.Peer.content c.pages.source) c.pages.after c.pages.page (λ held told. c.pages.invariant.page held
    (sym c.pages.invariant.told ∙ told))

pub returns-in-Err-copy_page-clause-err : goal.returns-in-Err-copy_page-clause-err
returns-in-Err-copy_page-clause-err g c =
    far_stopped g.A.Peer g.B.Peer (laws g.A.Peer g.met.A.Peer.puts_nothing g.met.A.Peer.puts_then
    g.met.A.Peer.puts_follows g.met.A.Peer.follows_then)
    (laws g.B.Peer g.met.B.Peer.puts_nothing g.met.B.Peer.puts_then g.met.B.Peer.puts_follows
    g.met.B.Peer.follows_then) c.args.source.now c.args.target.now c.blobs_are_small.ensures c.pages.invariant.far.0
    c.pages.source c.copy_page.new.source c.pages.target c.copy_page.new.target c.pages.after c.pages.page
    c.in-Some.last
    c.pages.done.copied c.pages.done.already c.in-Err-copy_page.fault c.pages.invariant.far.1 c.pages.invariant.told
    c.pages.invariant.source_later c.pages.invariant.target_later c.pages.invariant.nothing c.pages.invariant.shape
    c.pages.invariant.page c.pages.invariant.far.2
    (subst (λ o. CopiesSome g.A.Peer g.B.Peer c.pages.source c.copy_page.new.source c.pages.target
    c.copy_page.new.target o c.in-Some.last c.pages.page c.in-Err-copy_page.fault) c.as_ref.ensures.value
    c.in-Err-copy_page.ensures.err)

pub returns-in-Err-copy_page-clause-nothing : goal.returns-in-Err-copy_page-clause-nothing
returns-in-Err-copy_page-clause-nothing g c = g.met.A.Peer.puts_then c.args.source.now c.pages.source
    c.copy_page.new.source [] [] c.pages.invariant.nothing c.in-Err-copy_page.ensures.nothing

pub returns-in-Err-list-clause-err : goal.returns-in-Err-list-clause-err
returns-in-Err-list-clause-err g c =
    let a = g.A.Peer in
    let b = g.B.Peer in
    let source = c.args.source.now in
    let here = c.copy_page.new.source in
    let now = c.list-in-pages.new.self in
    let e = c.in-Err-list.fault in
    far_unlisted a b (laws g.A.Peer g.met.A.Peer.puts_nothing g.met.A.Peer.puts_then g.met.A.Peer.puts_follows
    g.met.A.Peer.follows_then) (laws g.B.Peer g.met.B.Peer.puts_nothing g.met.B.Peer.puts_then
    g.met.B.Peer.puts_follows g.met.B.Peer.follows_then) source c.args.target.now c.blobs_are_small.ensures here now
    c.copy_page.new.target (Some c.in-Some.last) c.more-done.result.copied c.more-done.result.already e
    (source_later (a.content here) (a.content source) (a.faults source) (a.faults here) (a.faults now) e
    (c.in-Ok-copy_page.ensures.told ∙ c.pages.invariant.told)
    (omega (arith, c.pages.invariant.source_later, c.in-Ok-copy_page.ensures.source_later))
    (listing_fault (a.content here) (a.faults here) (a.faults now) e (list_fault (a.content here) (a.faults here)
    (a.faults now) (List (List ℕ × ℕ)) e c.in-Err-list.ensures.cause)))
    (source_answered_on a (laws g.A.Peer g.met.A.Peer.puts_nothing g.met.A.Peer.puts_then g.met.A.Peer.puts_follows
    g.met.A.Peer.follows_then) source here now e
    (g.met.A.Peer.puts_follows source here [] (g.met.A.Peer.puts_then source c.pages.source here []
    [] c.pages.invariant.nothing c.in-Ok-copy_page.ensures.nothing))
    (inl (listed_once a (laws g.A.Peer g.met.A.Peer.puts_nothing g.met.A.Peer.puts_then g.met.A.Peer.puts_follows
    g.met.A.Peer.follows_then) here now (Some c.in-Some.last) 1000 (Err e) c.in-Err-list.ensures.is)))
    c.in-Err-list.ensures.is
    (far_more a b (laws g.A.Peer g.met.A.Peer.puts_nothing g.met.A.Peer.puts_then g.met.A.Peer.puts_follows
    g.met.A.Peer.follows_then) (laws g.B.Peer g.met.B.Peer.puts_nothing g.met.B.Peer.puts_then
    g.met.B.Peer.puts_follows g.met.B.Peer.follows_then) source c.args.target.now c.blobs_are_small.ensures
    c.pages.invariant.far.0 c.pages.source c.copy_page.new.source c.pages.target c.copy_page.new.target
    c.pages.after c.pages.page c.in-Some.last
    c.pages.done.copied c.pages.done.already c.in-Ok-copy_page.copied c.more-done.result.copied
    c.more-done.result.already c.pages.invariant.far.1 c.pages.invariant.told c.pages.invariant.shape
    c.pages.invariant.page
    (sym c.pages.invariant.ends ∙ c.in-Some.is) c.pages.invariant.far.2
    (subst (λ o. CopiesPage g.A.Peer g.B.Peer c.pages.source c.copy_page.new.source c.pages.target
    c.copy_page.new.target o c.in-Some.last c.pages.page c.in-Ok-copy_page.copied) c.as_ref.ensures.value
    c.in-Ok-copy_page.ensures.ok) c.more-done.ensures.copied (c.more-done.ensures.already
    ∙ ap (λ n. min (c.pages.done.already + (n - c.in-Ok-copy_page.copied)) (2 ^ 64 - 1)) c.len.ensures)
    c.in-Ok-copy_page.ensures.few)

pub returns-in-Err-list-clause-nothing : goal.returns-in-Err-list-clause-nothing
returns-in-Err-list-clause-nothing g c =
    g.met.A.Peer.puts_then c.args.source.now c.copy_page.new.source c.list-in-pages.new.self [] []
    (g.met.A.Peer.puts_then c.args.source.now c.pages.source c.copy_page.new.source [] [] c.pages.invariant.nothing
    c.in-Ok-copy_page.ensures.nothing) c.in-Err-list.ensures.nothing

pub pages-smaller : goal.pages-smaller
pages-smaller g c =
    subst (λ (e : Option (List ℕ)). room_above c.last_ref-end-in-pages.result < room_above e) (sym c.in-Some.is)
    (page_falls c.in-Some.last 1000 c.in-Ok-list.page c.last_ref-end-in-pages.result c.in-Ok-list.ensures.page
    (c.last_ref-end-in-pages.ensures.last ∙ ap last_ref c.as_slice-in-pages.ensures)
    c.last_ref-end-in-pages.ensures.form)

pub pages-preserved : goal.pages-preserved
pages-preserved g c =
    let a = g.A.Peer in
    let b = g.B.Peer in
    let source = c.args.source.now in
    let same = c.in-Ok-copy_page.ensures.told ∙ c.pages.invariant.told in
    record {
      ends = c.last_ref-end-in-pages.ensures.last ∙ ap last_ref c.as_slice-in-pages.ensures;
      shape = c.in-Ok-list.ensures.page;
      page = λ held told. c.in-Ok-list.ensures.found held (same ∙ told);
      far = (
        c.copy_page.new.source,
        c.in-Ok-list.ensures.is,
        far_more a b (laws g.A.Peer g.met.A.Peer.puts_nothing g.met.A.Peer.puts_then g.met.A.Peer.puts_follows
            g.met.A.Peer.follows_then) (laws g.B.Peer g.met.B.Peer.puts_nothing g.met.B.Peer.puts_then
            g.met.B.Peer.puts_follows g.met.B.Peer.follows_then) source c.args.target.now c.blobs_are_small.ensures
            c.pages.invariant.far.0 c.pages.source c.copy_page.new.source c.pages.target c.copy_page.new.target
            c.pages.after c.pages.page c.in-Some.last
            c.pages.done.copied c.pages.done.already c.in-Ok-copy_page.copied c.more-done.result.copied
            c.more-done.result.already c.pages.invariant.far.1 c.pages.invariant.told c.pages.invariant.shape
            c.pages.invariant.page
            (sym c.pages.invariant.ends ∙ c.in-Some.is) c.pages.invariant.far.2
            (subst (λ o. CopiesPage g.A.Peer g.B.Peer c.pages.source c.copy_page.new.source c.pages.target
            c.copy_page.new.target o c.in-Some.last c.pages.page c.in-Ok-copy_page.copied) c.as_ref.ensures.value
            c.in-Ok-copy_page.ensures.ok) c.more-done.ensures.copied (c.more-done.ensures.already
            ∙ ap (λ n. min (c.pages.done.already + (n - c.in-Ok-copy_page.copied)) (2 ^ 64 - 1)) c.len.ensures)
            c.in-Ok-copy_page.ensures.few,
      );
      reached = reached_on b (laws g.B.Peer g.met.B.Peer.puts_nothing g.met.B.Peer.puts_then g.met.B.Peer.puts_follows
          g.met.B.Peer.follows_then) c.args.target.now c.pages.target c.copy_page.new.target c.pages.invariant.run
          c.in-Ok-copy_page.ensures.reached;
      told = c.in-Ok-list.ensures.told ∙ same;
      source_later = omega (
        arith,
        c.pages.invariant.source_later,
        c.in-Ok-copy_page.ensures.source_later,
        c.in-Ok-list.ensures.later,
      );
      target_later = omega (arith, c.pages.invariant.target_later, c.in-Ok-copy_page.ensures.target_later);
      nothing = g.met.A.Peer.puts_then c.args.source.now c.copy_page.new.source c.list-in-pages.new.self [] []
          (g.met.A.Peer.puts_then c.args.source.now c.pages.source c.copy_page.new.source []
          [] c.pages.invariant.nothing c.in-Ok-copy_page.ensures.nothing) c.in-Ok-list.ensures.nothing;
      run = g.met.B.Peer.follows_then c.args.target.now c.pages.target c.copy_page.new.target c.pages.invariant.run
          c.in-Ok-copy_page.ensures.run;
    }
