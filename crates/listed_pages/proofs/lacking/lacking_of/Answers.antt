use Rattle.std.proofs.Common.{◌<◌, ◌∙◌, T, inl, inr, ℕ, List, [], filter, Option, Some, Ok, Err, option_copied, sym}
use Rattle.std.proofs.Common.{subst, ap, arith}
use Rattle.std.specs.FinMap.{entries, is_sorted}
use Rattle.std.specs.List.Sorted.{IsStrictlySortedBy}
use Rattle.blobref.specs.Blobref.{ref_cmp}
use Rattle.peer_base.specs.Order.{refs_of, last_ref}
use Rattle.std.specs.Ordering.{is_lt}
use Rattle.listed_pages.proofs.Runs.{laws, listed_once, reached_then, target_answered_on}
use Rattle.listed_pages.proofs.Lacks.{lack, lacks_start, lacks_more, lacks_end, lacks_reached, not_true}
use Rattle.listed_pages.proofs.Chains.{so_far_start, so_far_part, so_far_more, so_far_reached, so_far_empty}
use Rattle.listed_pages.proofs.Chains.{so_far_stopped, so_far_full, stops_first}
use Rattle.std.proofs.lemmas.Result.{err_from_is_err_and}
use Rattle.listed_pages.proofs.Merge.{part_rises}
use Rattle.listed_pages.proofs.Room.{room_above, page_falls}
use Rattle.listed_pages.proofs.lacking.lacking_of.Goals as goal

pub returns-in-Err-clause-answered : goal.returns-in-Err-clause-answered
returns-in-Err-clause-answered g c =
    inr (inl (listed_once g.B.Peer (laws g.B.Peer g.met.B.Peer.puts_nothing g.met.B.Peer.puts_then
    g.met.B.Peer.puts_follows g.met.B.Peer.follows_then) c.args.target.now c.list.new.self
    (option_copied c.args.after) 1000 (Err c.in-Err.fault) c.in-Err.ensures.is))

pub pages-init : goal.pages-init
pages-init g c = record {
  ends = c.last_ref-end.ensures.last ∙ ap last_ref c.as_slice-2.ensures;
  sorted = c.in-Ok-list.ensures.page.rising;
  so_far = so_far_start g.B.Peer c.args.target.now c.list.new.self (option_copied c.args.after) c.in-Ok-list.held
      c.args.page.now c.in-Ok.refs.items c.in-Ok-list.ensures.is (c.in-Ok.ensures ∙ ap refs_of c.as_slice.ensures);
  left = λ held told. (
    option_copied c.args.after,
    c.in-Ok-list.ensures.found held told,
    c.in-Ok.ensures
        ∙ ap refs_of c.as_slice.ensures ∙ lacks_start (option_copied c.args.after) 1000 c.args.page.now
        (entries held) c.requires.page,
  );
  reached = (
    c.in-Ok-list.held,
    listed_once g.B.Peer (laws g.B.Peer g.met.B.Peer.puts_nothing g.met.B.Peer.puts_then
        g.met.B.Peer.puts_follows g.met.B.Peer.follows_then) c.args.target.now c.list.new.self
        (option_copied c.args.after) 1000 (Ok c.in-Ok-list.held) c.in-Ok-list.ensures.is,
  );
  told = c.in-Ok-list.ensures.told;
  later = c.in-Ok-list.ensures.later;
  nothing = c.in-Ok-list.ensures.nothing;
}

pub others-requires-clause-refs : goal.others-requires-clause-refs
others-requires-clause-refs g c = subst (IsStrictlySortedBy ref_cmp) (sym c.as_slice-in-pages.ensures.value)
    (part_rises c.args.page.now c.pages.refs.items c.requires.page.rising
    (so_far_part g.B.Peer c.args.target.now c.pages.target (option_copied c.args.after) c.pages.held c.args.page.now
    c.pages.refs.items c.pages.invariant.so_far))

pub others-requires-clause-page : goal.others-requires-clause-page
others-requires-clause-page g c = subst (λ (p : List (List ℕ × ℕ)). T (is_sorted ref_cmp p))
    (sym c.as_slice-in-pages-2.ensures) c.pages.invariant.sorted

pub returns-then-reaches-clause-lacking : goal.returns-then-reaches-clause-lacking
returns-then-reaches-clause-lacking g c = λ held told.
    let left = c.pages.invariant.left held told in
    let r = c.in-Some.r in
    let now = c.in_ok-refs.refs.items in
    let step = c.in_ok-refs.ensures ∙ (λ i. filter (lack (refs_of (c.as_slice-in-pages-2.ensures i)))
    (c.as_slice-in-pages.ensures.value i)) in
    let more = lacks_more left.0 1000 held c.pages.held r (refs_of c.args.page.now) c.pages.refs.items now left.1
    (sym c.pages.invariant.ends ∙ c.in-Some.is) left.2 step in
    lacks_reached r c.args.last.now (option_copied c.args.after) 1000 held c.args.page.now now c.requires.page
    c.requires.last
    (not_true (is_lt (ref_cmp r c.args.last.now)) c.reaches.result c.if-reaches.true c.reaches.ensures) more

pub returns-then-reaches-clause-listed : goal.returns-then-reaches-clause-listed
returns-then-reaches-clause-listed g c =
    let r = c.in-Some.r in
    so_far_reached g.B.Peer c.args.target.now c.pages.target (option_copied c.args.after) c.pages.held c.args.page.now
    c.pages.refs.items c.pages.invariant.so_far r c.args.last.now c.in_ok-refs.refs.items
    (sym c.pages.invariant.ends ∙ c.in-Some.is)
    (c.in_ok-refs.ensures ∙ (λ i. filter (lack (refs_of (c.as_slice-in-pages-2.ensures i)))
    (c.as_slice-in-pages.ensures.value i)))
    (not_true (is_lt (ref_cmp r c.args.last.now)) c.reaches.result c.if-reaches.true c.reaches.ensures)

pub returns-in_default-end-clause-listed : goal.returns-in_default-end-clause-listed
returns-in_default-end-clause-listed g c =
    so_far_empty g.B.Peer c.args.target.now c.pages.target (option_copied c.args.after) c.pages.held c.args.page.now
    c.pages.refs.items c.pages.invariant.so_far c.args.last.now (sym c.in_default-end.is ∙ c.pages.invariant.ends)

pub returns-in-Err-clause-stopped : goal.returns-in-Err-clause-stopped
returns-in-Err-clause-stopped g c = stops_first g.B.Peer c.args.target.now c.list.new.self (option_copied c.args.after)
    c.in-Err.fault c.in-Err.ensures.is

pub returns-in-Err-list-clause-stopped : goal.returns-in-Err-list-clause-stopped
returns-in-Err-list-clause-stopped g c =
    so_far_stopped g.B.Peer c.args.target.now c.pages.target (option_copied c.args.after) c.pages.held c.args.page.now
    c.pages.refs.items c.pages.invariant.so_far c.list-in-pages.new.self c.in-Some.r c.in-Err-list.fault
    (sym c.pages.invariant.ends ∙ c.in-Some.is) c.in-Err-list.ensures.is

pub returns-in_err-refs-clause-stopped : goal.returns-in_err-refs-clause-stopped
returns-in_err-refs-clause-stopped g c =
    let p = err_from_is_err_and c.from_residual.result c.from_residual.ensures.1 in
    rw p.1 (so_far_full g.B.Peer c.args.target.now c.pages.target (option_copied c.args.after) c.pages.held
    c.args.page.now c.pages.refs.items c.pages.invariant.so_far c.in-Some.r p.0 (sym c.pages.invariant.ends
    ∙ c.in-Some.is) p.2)

pub returns-in-Err-list-clause-nothing : goal.returns-in-Err-list-clause-nothing
returns-in-Err-list-clause-nothing g c = g.met.B.Peer.puts_then c.args.target.now c.pages.target
    c.list-in-pages.new.self [] [] c.pages.invariant.nothing c.in-Err-list.ensures.nothing

pub returns-in-Err-list-clause-answered : goal.returns-in-Err-list-clause-answered
returns-in-Err-list-clause-answered g c =
    target_answered_on g.B.Peer (laws g.B.Peer g.met.B.Peer.puts_nothing g.met.B.Peer.puts_then
    g.met.B.Peer.puts_follows g.met.B.Peer.follows_then) c.args.target.now c.pages.target c.list-in-pages.new.self
    c.in-Err-list.fault (g.met.B.Peer.puts_follows c.args.target.now c.pages.target [] c.pages.invariant.nothing)
    (inr (inl (listed_once g.B.Peer (laws g.B.Peer g.met.B.Peer.puts_nothing g.met.B.Peer.puts_then
    g.met.B.Peer.puts_follows g.met.B.Peer.follows_then) c.pages.target c.list-in-pages.new.self (Some c.in-Some.r)
    1000 (Err c.in-Err-list.fault) c.in-Err-list.ensures.is)))

pub pages-smaller : goal.pages-smaller
pages-smaller g c =
    subst (λ (e : Option (List ℕ)). room_above c.last_ref-end-in-pages.result < room_above e) (sym c.in-Some.is)
    (page_falls c.in-Some.r 1000 c.in-Ok-list-2.held c.last_ref-end-in-pages.result c.in-Ok-list-2.ensures.page
    (c.last_ref-end-in-pages.ensures.last ∙ ap last_ref c.as_slice-in-pages-3.ensures)
    c.last_ref-end-in-pages.ensures.form)

pub pages-preserved : goal.pages-preserved
pages-preserved g c =
    let now = c.in_ok-refs.refs.items in
    record {
      ends = c.last_ref-end-in-pages.ensures.last ∙ ap last_ref c.as_slice-in-pages-3.ensures;
      sorted = c.in-Ok-list-2.ensures.page.rising;
      so_far = so_far_more g.B.Peer c.args.target.now c.pages.target (option_copied c.args.after) c.pages.held
          c.args.page.now c.pages.refs.items c.pages.invariant.so_far c.list-in-pages.new.self c.in-Ok-list-2.held
          c.in-Some.r now (sym c.pages.invariant.ends ∙ c.in-Some.is)
          (c.in_ok-refs.ensures ∙ (λ i. filter (lack (refs_of (c.as_slice-in-pages-2.ensures i)))
          (c.as_slice-in-pages.ensures.value i))) c.in-Ok-list-2.ensures.is;
      left = λ held told.
          let left = c.pages.invariant.left held told in
          let step = c.in_ok-refs.ensures ∙ (λ i. filter (lack (refs_of (c.as_slice-in-pages-2.ensures i)))
          (c.as_slice-in-pages.ensures.value i)) in (
            Some c.in-Some.r,
            c.in-Ok-list-2.ensures.found held (c.pages.invariant.told ∙ told),
            lacks_more left.0 1000 held c.pages.held c.in-Some.r (refs_of c.args.page.now) c.pages.refs.items now left.1
                (sym c.pages.invariant.ends ∙ c.in-Some.is) left.2 step,
          );
      reached = reached_then g.B.Peer (laws g.B.Peer g.met.B.Peer.puts_nothing g.met.B.Peer.puts_then
          g.met.B.Peer.puts_follows g.met.B.Peer.follows_then) c.args.target.now c.pages.target c.list-in-pages.new.self
          c.pages.invariant.reached c.in-Ok-list-2.ensures.run;
      told = c.in-Ok-list-2.ensures.told ∙ c.pages.invariant.told;
      later = omega (arith, c.pages.invariant.later, c.in-Ok-list-2.ensures.later);
      nothing = g.met.B.Peer.puts_then c.args.target.now c.pages.target c.list-in-pages.new.self []
          [] c.pages.invariant.nothing c.in-Ok-list-2.ensures.nothing;
    }

pub returns-in_default-end-clause-lacking : goal.returns-in_default-end-clause-lacking
returns-in_default-end-clause-lacking g c = λ held told.
    let left = c.pages.invariant.left held told in
    lacks_end left.0 1000 held c.pages.held (refs_of c.args.page.now) c.pages.refs.items (omega arith) left.1
    (sym c.in_default-end.is ∙ c.pages.invariant.ends) left.2
