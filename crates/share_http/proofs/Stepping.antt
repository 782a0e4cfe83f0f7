-- One more answer extends what was served.
use Rattle.std.proofs.Common.{◌≡◌, ℕ, ◌≤◌, List, [], ◌∷◌, ◌++◌, map, refl, ap, sym, subst, ◌∙◌, arith}
use Rattle.std.specs.Prelude.{fold}
use Rattle.std.specs.List.{flat_map}
use Rattle.std.proofs.lemmas.List.{append-nil}
use Rattle.std.proofs.lemmas.List.Concat.{flat_map-append}
use Rattle.std.proofs.lemmas.List.Elements.{All-push, All-nil}
use mathlib.Core.List.{map-append}
use Rattle.edge_base.specs.declared.shelf.Shelf.{Ghosts}
use Rattle.http_exchange.specs.Asked.{Asked}
use Rattle.share_http.specs.declared.entries.ShareTold.{ShareTold}
use Rattle.share_http.specs.declared.entries.ShareTold.TheVariants.{Defined, Memory, Disk, Damaged}
use Rattle.share_http.specs.Answers.{Judge}
use Rattle.share_http.specs.Serving.{Answer, AnswerHolds, Fetched, IsShareReply, SharesServed, with_fault}

flat_push : {A B : Type 0} (f : A → List B) (xs : List A) (x : A) → flat_map f (xs ++ x ∷ []) ≡ flat_map f xs ++ f x
flat_push f xs x = flat_map-append f xs (x ∷ []) ∙ ap (λ (t : List _). flat_map f xs ++ t) (append-nil (f x))

fold_push : (n : ℕ) (xs : List ShareTold) (x : ShareTold)
    → fold with_fault n (xs ++ x ∷ []) ≡ with_fault (fold with_fault n xs) x
fold_push n [] x = refl
fold_push n (y ∷ ys) x = fold_push (with_fault n y) ys x

-- more faults stay more
fault_grows : (a b : ℕ) (e : ShareTold) → a ≤ b → with_fault a e ≤ with_fault b e
fault_grows a b Defined le = le
fault_grows a b Memory le = le
fault_grows a b Disk le = omega (arith, le)
fault_grows a b (Damaged want is) le = le

-- one more entry is counted
count_more : (before mid now : ℕ) (entries all : List ShareTold) (entry : ShareTold) → all ≡ entries ++ entry ∷ []
    → fold with_fault before entries ≤ mid → with_fault mid entry ≤ now → fold with_fault before all ≤ now
count_more before mid now entries all entry is few fault =
    let pushed : fold with_fault before all ≡ with_fault (fold with_fault before entries) entry =
    ap (fold with_fault before) is ∙ fold_push before entries entry in
    let grown : with_fault (fold with_fault before entries) entry ≤ with_fault mid entry =
    fault_grows (fold with_fault before entries) mid entry few in
    omega (arith, pushed, grown, fault)

module _ {B : Type 0} (g : Ghosts B) where
  -- fetches that follow one another
  pub fetched_then : (a b c : B) (xs ys : List (List ℕ)) → Fetched g a xs b → Fetched g b ys c
      → Fetched g a (xs ++ ys) c
  fetched_then a b c [] ys first second = subst (λ (z : B). Fetched g z ys c) first second
  fetched_then a b c (r ∷ xs) ys first second =
      (first.0, first.1, first.2, fetched_then first.1 b c xs ys first.3 second)

  module _ (judge : Judge) (start : B) where
    -- nothing was served yet
    pub serves_none : (noted : List ShareTold → Type 0) (heard : List Asked → Type 0) (wrote : List ℕ → Type 0)
        → noted [] → heard [] → wrote [] → SharesServed g judge start start noted heard wrote
    serves_none noted heard wrote n h w = record {
      answers = [];
      noted = n;
      heard = h;
      written = w;
      each = All-nil (AnswerHolds (g.content start) judge);
      fetched = refl;
      counted = omega arith;
    }

    -- one more answer
    pub serves_more : (mid now : B) (noted noted' : List ShareTold → Type 0) (heard heard' : List Asked → Type 0)
        (wrote wrote' : List ℕ → Type 0) (asked : Asked) (asks : List (List ℕ)) (entry : ShareTold) (text : List ℕ)
        → SharesServed g judge start mid noted heard wrote
        → IsShareReply (g.content start) judge asked asks entry text → Fetched g mid asks now
        → with_fault (g.faults mid) entry ≤ g.faults now
        → ((entries : List ShareTold) → noted entries → noted' (entries ++ entry ∷ []))
        → ((all : List Asked) → heard all → heard' (all ++ asked ∷ []))
        → ((texts : List ℕ) → wrote texts → wrote' (texts ++ text))
        → SharesServed g judge start now noted' heard' wrote'
    serves_more mid now noted noted' heard heard' wrote wrote' asked asks entry text s is fetched fault more_noted
        more_heard more_text =
        let a : Answer = record { asked = asked; asks = asks; entry = entry; text = text } in
        let entries = map-append (λ (b : Answer). b.entry) s.answers (a ∷ []) in
        record {
          answers = s.answers ++ a ∷ [];
          noted = subst noted' (sym entries) (more_noted _ s.noted);
          heard = subst heard' (sym (map-append (λ (b : Answer). b.asked) s.answers (a ∷ []))) (more_heard _ s.heard);
          written = subst wrote' (sym (flat_push (λ (b : Answer). b.text) s.answers a)) (more_text _ s.written);
          each = All-push (AnswerHolds (g.content start) judge) s.answers a s.each is;
          fetched = subst (λ (rs : List (List ℕ)). Fetched g start rs now)
              (sym (flat_push (λ (b : Answer). b.asks) s.answers a))
              (fetched_then start mid now (flat_map (λ (b : Answer). b.asks) s.answers) asks s.fetched fetched);
          counted = count_more (g.faults start) (g.faults mid) (g.faults now)
              (map (λ (b : Answer). b.entry) s.answers) (map (λ (b : Answer). b.entry) (s.answers ++ a ∷ [])) entry
              entries s.counted fault;
        }

    -- no further answer
    pub serves_ends : (mid now : B) (noted noted' : List ShareTold → Type 0) (heard heard' : List Asked → Type 0)
        (wrote wrote' : List ℕ → Type 0) → SharesServed g judge start mid noted heard wrote → now ≡ mid
        → ((entries : List ShareTold) → noted entries → noted' entries)
        → ((all : List Asked) → heard all → heard' all) → ((texts : List ℕ) → wrote texts → wrote' texts)
        → SharesServed g judge start now noted' heard' wrote'
    serves_ends mid now noted noted' heard heard' wrote wrote' s same more_noted more_heard more_text =
        subst (λ (z : B). SharesServed g judge start z noted' heard' wrote') (sym same) (record {
          answers = s.answers;
          noted = more_noted _ s.noted;
          heard = more_heard _ s.heard;
          written = more_text _ s.written;
          each = s.each;
          fetched = s.fetched;
          counted = s.counted;
        })

    -- by another judge who says the same
    pub served_alike : (other : Judge) (now : B) (noted : List ShareTold → Type 0) (heard : List Asked → Type 0)
        (wrote : List ℕ → Type 0) → ((r : List ℕ) (via : List (List ℕ)) → judge r via ≡ other r via)
        → SharesServed g judge start now noted heard wrote → SharesServed g other start now noted heard wrote
    served_alike other now noted heard wrote alike s =
        let same : judge ≡ other = λ i r via. alike r via i in
        subst (λ (z : Judge). SharesServed g z start now noted heard wrote) same s
