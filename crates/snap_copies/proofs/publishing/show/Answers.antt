use Rattle.std.proofs.Common.{sym, ap, ◌∙◌, refl, [], ◌∷◌, ◌++◌}
use Rattle.histories.specs.Indexes.{has_number}
use Rattle.snap_copies.specs.declared.copies.Addition.{Addition}
use Rattle.snap_copies.specs.Books.{insertion}
use Rattle.snap_copies.proofs.publishing.show.Goals as goal

pub publish-requires : goal.publish-requires
publish-requires g c =
    let m = c.args.prepared.made in
    let i = insertion c.args.turn m.0 m.1 m.2 in
    let op : Addition = record { alloc = c.args.alloc; prepared = c.args.prepared; front = c.again.result } in
    let seen = ap (λ d. d.shown.value.front.seen) c.append.ensures.desk ∙ c.requires.shown in (
      op,
      c.append.ensures.pends,
      record {
        book = ap (λ f. f.seen.book) c.again.ensures ∙ (c.listed-front.ensures.book ∙ sym (ap (λ s. s.book) seen));
        insert = i;
        row = refl;
        log = ap (λ f. f.seen.log) c.again.ensures ∙ (c.listed-front.ensures.log ∙ sym (ap (λ s. s.log ++ i ∷ []) seen));
        fresh = ap (λ s. has_number m.0 s.log) seen ∙ c.requires.fresh;
      },
    )

pub returns-clause-shown : goal.returns-clause-shown
returns-clause-shown g c = ap (λ f. f.seen) (c.publish.ensures.published _ c.append.ensures.pends ∙ c.again.ensures)

pub returns-clause-keys : goal.returns-clause-keys
returns-clause-keys g c = c.publish.ensures.keys ∙ ap (λ d. d.shown.value.index.keys) c.append.ensures.desk
