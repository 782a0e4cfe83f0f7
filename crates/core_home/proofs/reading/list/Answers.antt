use Rattle.std.proofs.Common.{◌<◌, ◌+◌, ◌-◌, ◌++◌, ◌∷◌, ◌∙◌, ℕ, Bool, List, ap, sym, length, take, drop, filter, option_copied}
use Rattle.std.proofs.lemmas.List.{drop_more}
use Rattle.blobref.specs.Blobref.{is_after}
use Rattle.core_home.proofs.Listings.{not_full, page_within, page_more}
use Rattle.core_home.proofs.reading.list.Goals as goal

pub entries-preserved : goal.entries-preserved
entries-preserved c =
    let p : List ℕ × ℕ → Bool = λ e. is_after (option_copied c.args.after) e.0 in
    let all : List (List ℕ × ℕ) = c.as_slice-entry-items.result.now in
    let e : List ℕ × ℕ = c.entry-item.result in
    let i = c.entries.entry-index in
    let room : length c.entries.found < c.args.limit = not_full p c.args.limit (length c.entries.found) c.len.result c.entries.invariant.within c.len.ensures c.if-len-limit.false in
    let rest = drop (i + 1) all in
    record {
      within = page_within p c.args.limit e c.entries.found c.keep_after.new.found room c.in_ok-keep_after.ensures;
      page = page_more p c.args.limit e rest c.entries.found c.keep_after.new.found room c.in_ok-keep_after.ensures
          ∙ (ap (λ (xs : List (List ℕ × ℕ)). c.entries.found ++ take (c.args.limit - length c.entries.found) (filter p xs))
          (sym (drop_more all i e c.entries-test.true ∙ ap (λ (x : List ℕ × ℕ). x ∷ rest) (sym c.entry-item.is)))
          ∙ c.entries.invariant.page);
    }
