-- What a log was given, step by step.
use Rattle.std.proofs.Common.{List, [], ◌∷◌, ◌++◌, sym, subst, append_assoc}
use Rattle.std.proofs.lemmas.List.{append-nil}
use Rattle.http_exchange.specs.Notes.{Notes}

module _ {E L : Type 0} (tells : L → List E → Type 0) where
  pub notes_none : (log : L) → Notes tells log log []
  notes_none log before t = subst (tells log) (sym (append-nil before)) t

  -- what it tells stayed
  pub notes_same : (first old new : L) → ((entries : List E) → tells old entries → tells new entries)
      → (entries : List E) → Notes tells first old entries → Notes tells first new entries
  notes_same first old new same entries n before t = same (before ++ entries) (n before t)

  -- room was made, and it took one more entry
  pub notes_given : (first old room new : L) (entry : E)
      → ((entries : List E) → tells old entries → tells room entries)
      → ((entries : List E) → tells room entries → tells new (entries ++ entry ∷ []))
      → (entries : List E) → Notes tells first old entries → Notes tells first new (entries ++ entry ∷ [])
  notes_given first old room new entry same noted entries n before t =
      subst (tells new) (append_assoc before entries (entry ∷ []))
      (noted (before ++ entries) (notes_same first old room same entries n before t))
