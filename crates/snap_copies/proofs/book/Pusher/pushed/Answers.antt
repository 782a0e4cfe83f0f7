use Rattle.std.proofs.Common.{sym, ◌∙◌, ◌≡◌, ap, subst, true, [], ◌∷◌, ◌++◌}
use Rattle.snap_copies.specs.Books.{insertion, is_fine}
use Rattle.snap_copies.proofs.Adding.{adds_moves}
use Rattle.snap_copies.proofs.book.Pusher.pushed.Goals as goal

pub compare_exchange-found-requires : goal.compare_exchange-found-requires
compare_exchange-found-requires c =
    let h = c.args.self.now.head_is in
    let seen = c.again-seen.ensures in
    let offer = c.plain-offer.ensures in
    let pen = c.no_pen-pen.ensures in
    let e = insertion c.args.entry.now.turn c.args.entry.now.number c.args.entry.now.r.now c.args.entry.now.fact.now in
    let fine : is_fine (c.again-seen.result.log ++ e ∷ []) ≡ true = subst (λ s. is_fine (s.log ++ e ∷ []) ≡ true) (sym seen) c.requires.fine in
    let book = ap (λ s. s.book) seen ∙ sym (ap (λ w. w.book) h) in (
      ap (λ w. w.tracked) h,
      book,
      pen.0 ∙ book,
      offer.0,
      rw (ap (λ w. w.key) h, pen.1, offer.1, offer.3) (adds_moves c.again-seen.result.log (insertion c.args.entry.now.turn c.args.entry.now.number c.args.entry.now.r.now c.args.entry.now.fact.now) c.args.self.now.front.count (ap (λ s. Rattle.std.proofs.Common.length s.log) seen ∙ sym c.args.self.now.front.counted) fine),
    )
