use Rattle.std.proofs.Common.{◌≡◌, ap, subst, arith, length, List, ℕ, Bool, true, false, refl}
use Rattle.std.specs.Bool.{MatchBool}
use Rattle.std.proofs.lemmas.Bool.{leb-true, leb-false}
use lib.Dec.{leb}
use mathlib.Core.List.{IsPrefix}
use Rattle.histories.specs.declared.events.Insertion.{Insertion}
use Rattle.histories.proofs.Prefixes.{prefix_shorter}
use Rattle.snap_copies.proofs.book.Front.has_all_of.Goals as goal

by_count : (xs ys zs : List Insertion) (m n : ℕ) (b : Bool) → leb n m ≡ b → m ≡ length xs → n ≡ length ys → IsPrefix xs zs → IsPrefix ys zs → MatchBool b (IsPrefix ys xs) (IsPrefix xs ys)
by_count xs ys zs m n true e lx ly p q = let le = leb-true n m e in prefix_shorter ys xs zs q p (omega arith)
by_count xs ys zs m n false e lx ly p q = let lt = leb-false n m e in prefix_shorter xs ys zs p q (omega arith)

pub returns : goal.returns
returns c =
    let mine = subst (λ (l : List Insertion). IsPrefix l c.learn.new.self.log) (ap (λ s. s.log) c.again-both.ensures) c.learn.ensures.2 in
    by_count c.args.self.now.seen.log c.args.other.now.seen.log c.learn.new.self.log c.args.self.now.count c.args.other.now.count (leb c.args.other.now.count c.args.self.now.count) refl c.args.self.now.counted c.args.other.now.counted mine c.learn.ensures.3
