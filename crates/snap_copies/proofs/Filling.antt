-- Lists of readers that know what is published.
use Rattle.std.proofs.Common.{◌≡◌, ℕ, ◌+◌, List, [], ◌∷◌, All, length, sym, ap, subst, ◌∙◌}
use Rattle.std.proofs.lemmas.List.{length-append}
use Rattle.std.proofs.lemmas.List.Elements.{All-append, All-nil, All-cons}
use Rattle.snap_copies.specs.declared.copies.IndexCopy.{IndexCopy}
use Rattle.snap_copies.specs.declared.watch.Watch.{Watch}
use Rattle.snap_copies.specs.Linked.{IsLinked, HasOneMore, AreLinked}

module _ {V : Type 0} where
  pub linked_none : (x : IndexCopy V) (watches : List (Watch V)) → watches ≡ [] → AreLinked x 0 watches
  linked_none x watches e = (ap length e, subst (λ (ws : List (Watch V)). All (IsLinked x) ws) (sym e) (All-nil (IsLinked x)))

  pub linked_more : (x : IndexCopy V) (n : ℕ) (old new : List (Watch V)) → AreLinked x n old → HasOneMore x old new → AreLinked x (n + 1) new
  linked_more x n old new are more = (
    ap length more.added ∙ length-append old (more.watch ∷ []) ∙ ap (λ k. k + 1) are.0,
    subst (λ (ws : List (Watch V)). All (IsLinked x) ws) (sym more.added) (All-append (IsLinked x) old (more.watch ∷ []) are.1 (All-cons (IsLinked x) more.watch [] more.linked (All-nil (IsLinked x)))),
  )
