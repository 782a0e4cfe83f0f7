-- Each word is read.
use Rattle.std.proofs.Common.{◌≡◌, ◌≢◌, ℕ, Bool, true, false, cond, List, [], ◌∷◌, ◌++◌, codes, nat_eq, refl, sym, ap, ◌∙◌, Option, Some, None}
use Rattle.std.proofs.lemmas.List.{append_assoc, append-nil}
use Rattle.std.specs.List.{list_all}
use Rattle.search_query.specs.Mirror.{Asked}
use Rattle.search_words.specs.Asking.{children_of}
use Rattle.search_words.specs.Grammar.{is_bare, is_escaped, IsWithin, nothing, plain, escaped, IsText, bare, quoted, IsWord, tag, title, attr, has, ref, childrenof}
use Rattle.search_words.specs.Words.{Use, of_tag, of_title, of_name, of_value, of_has, of_ref, Place, begins, in_bare, in_quoted, in_escape, text_begins, quoted_ends, in_ref, word_step, word_run, word_asks, asks, then_on, past, may_end, is_ref_front}
use Rattle.blobref.specs.Blobref.{is_blobref}
use Rattle.search_words.proofs.Refs.{blobref_front}
use Rattle.search_words.proofs.Tests.{and_both, or_neither, cond_true, cond_false, bare_quote}

pub bare_run : (u : Use) (v xs : List ℕ) → list_all is_bare xs ≡ true
    → word_run (in_bare u v) xs ≡ Some (in_bare u (v ++ xs))
bare_run u v [] h = ap (λ (l : List ℕ). Some (in_bare u l)) (sym (append-nil v))
bare_run u v (x ∷ xs) h =
    let h2 = and_both (is_bare x) (list_all is_bare xs) h in
    ap (λ (o : Option Place). then_on o (λ q. word_run q xs))
    (cond_true (is_bare x) (Some (in_bare u (v ++ x ∷ []))) (past u v x) h2.0)
    ∙ bare_run u (v ++ x ∷ []) xs h2.1
    ∙ ap (λ (l : List ℕ). Some (in_bare u l)) (append_assoc v (x ∷ []) xs)

pub within_run : (u : Use) {text v : List ℕ} → IsWithin text v → (w : List ℕ)
    → word_run (in_quoted u w) text ≡ Some (in_quoted u (w ++ v))
within_run u nothing w = ap (λ (l : List ℕ). Some (in_quoted u l)) (sym (append-nil w))
within_run u (plain x {text} {v} h r) w =
    let h2 = or_neither (nat_eq x 34) (nat_eq x 92) h in
    ap (λ (o : Option Place). then_on o (λ q. word_run q text))
    (cond_false (nat_eq x 34) (cond (may_end u w) (Some (quoted_ends u w)) None)
    (cond (nat_eq x 92) (Some (in_escape u w)) (Some (in_quoted u (w ++ x ∷ [])))) h2.0
    ∙ cond_false (nat_eq x 92) (Some (in_escape u w)) (Some (in_quoted u (w ++ x ∷ []))) h2.1)
    ∙ within_run u r (w ++ x ∷ [])
    ∙ ap (λ (l : List ℕ). Some (in_quoted u l)) (append_assoc w (x ∷ []) v)
within_run u (escaped x {text} {v} h r) w =
    ap (λ (o : Option Place). then_on o (λ q. word_run q text))
    (cond_true (is_escaped x) (Some (in_quoted u (w ++ x ∷ []))) None h)
    ∙ within_run u r (w ++ x ∷ [])
    ∙ ap (λ (l : List ℕ). Some (in_quoted u l)) (append_assoc w (x ∷ []) v)

pub word_run-append : (p : Place) (xs ys : List ℕ)
    → word_run p (xs ++ ys) ≡ then_on (word_run p xs) (λ q. word_run q ys)
word_run-append p [] ys = refl
word_run-append p (x ∷ xs) ys = on (word_step p x) (λ q. word_run-append q xs ys)
  where
    on : (o : Option Place) → ((q : Place) → word_run q (xs ++ ys) ≡ then_on (word_run q xs) (λ r. word_run r ys))
        → then_on o (λ q. word_run q (xs ++ ys)) ≡ then_on (then_on o (λ q. word_run q xs)) (λ r. word_run r ys)
    on None h = refl
    on (Some q) h = h q

-- where a text ends
pub data IsEnd (u : Use) (v : List ℕ) : Place → Type 0 where
  by_bare : IsEnd u v (in_bare u v)
  by_quote : IsEnd u v (quoted_ends u v)

pub end_asks : {u : Use} {v : List ℕ} {q : Place} → IsEnd u v q → word_asks q ≡ asks u v
end_asks by_bare = refl
end_asks by_quote = refl

end_colon : {n : List ℕ} {q : Place} → IsEnd of_name n q → word_step q 58 ≡ Some (text_begins (of_value n))
end_colon by_bare = refl
end_colon by_quote = refl

pub record TextRuns (u : Use) (text v : List ℕ) : Type 0 where
  pub end : Place
  pub runs : word_run (text_begins u) text ≡ Some end
  pub is_end : IsEnd u v end

quoted_runs : (u : Use) {text v : List ℕ} → IsWithin text v → may_end u v ≡ true
    → word_run (text_begins u) (34 ∷ text ++ 34 ∷ []) ≡ Some (quoted_ends u v)
quoted_runs u {text} {v} r m =
    word_run-append (in_quoted u []) text (34 ∷ [])
    ∙ ap (λ (o : Option Place). then_on o (λ q. word_run q (34 ∷ []))) (within_run u r [])
    ∙ ap (λ (o : Option Place). then_on o (λ q. Some q)) (cond_true (may_end u v) (Some (quoted_ends u v)) None m)

pub bare_begins : (u : Use) (x : ℕ) → is_bare x ≡ true → word_step (text_begins u) x ≡ Some (in_bare u (x ∷ []))
bare_begins u x h =
    cond_false (nat_eq x 34) (Some (in_quoted u [])) (cond (is_bare x) (Some (in_bare u (x ∷ []))) None)
    (bare_quote x h)
    ∙ cond_true (is_bare x) (Some (in_bare u (x ∷ []))) None h

pub text_runs : (u : Use) {text v : List ℕ} → IsText text v → may_end u v ≡ true → TextRuns u text v
text_runs u (bare [] some h) m = absurd (some refl)
text_runs u (bare (x ∷ xs) some h) m =
    let h2 = and_both (is_bare x) (list_all is_bare xs) h in
    record {
      end = in_bare u (x ∷ xs);
      runs = ap (λ (o : Option Place). then_on o (λ q. word_run q xs)) (bare_begins u x h2.0)
          ∙ bare_run u (x ∷ []) xs h2.1;
      is_end = by_bare;
    }
text_runs u (quoted {text} {v} r) m = record { end = quoted_ends u v; runs = quoted_runs u r m; is_end = by_quote }

-- what a word asks is read of it
pub record WordRuns (text : List ℕ) (a : Asked) : Type 0 where
  pub end : Place
  pub runs : word_run begins text ≡ Some end
  pub asked : word_asks end ≡ Some a

of_text : (u : Use) {t text v : List ℕ} {a : Asked} → asks u v ≡ Some a → TextRuns u t v
    → word_run begins text ≡ word_run (text_begins u) t → WordRuns text a
of_text u is r first = record { end = r.end; runs = first ∙ r.runs; asked = end_asks r.is_end ∙ is }

name_may_end : (n : List ℕ) → n ≢ [] → may_end of_name n ≡ true
name_may_end [] some = absurd (some refl)
name_may_end (x ∷ xs) some = refl

has_may_end : (n : List ℕ) → n ≢ [] → may_end of_has n ≡ true
has_may_end [] some = absurd (some refl)
has_may_end (x ∷ xs) some = refl

attr_runs : {name n text v : List ℕ} → TextRuns of_name name n → TextRuns (of_value n) text v
    → word_run (text_begins of_name) (name ++ (58 ∷ text)) ≡ word_run (text_begins (of_value n)) text
attr_runs {name} {n} {text} {v} r t =
    word_run-append (text_begins of_name) name (58 ∷ text)
    ∙ ap (λ (o : Option Place). then_on o (λ q. word_run q (58 ∷ text))) r.runs
    ∙ ap (λ (o : Option Place). then_on o (λ q. word_run q text)) (end_colon r.is_end)

pub ref_run : (done rest : List ℕ) → is_blobref (done ++ rest) ≡ true
    → word_run (in_ref done) rest ≡ Some (in_ref (done ++ rest))
ref_run done [] h = ap (λ (l : List ℕ). Some (in_ref l)) (sym (append-nil done))
ref_run done (x ∷ rest) h =
    let same = append_assoc done (x ∷ []) rest in
    let whole = ap is_blobref same ∙ h in
    ap (λ (o : Option Place). then_on o (λ q. word_run q rest))
    (cond_true (is_ref_front (done ++ x ∷ [])) (Some (in_ref (done ++ x ∷ []))) None
    (blobref_front (done ++ x ∷ []) rest whole))
    ∙ ref_run (done ++ x ∷ []) rest whole
    ∙ ap (λ (l : List ℕ). Some (in_ref l)) same

pub word_runs : {text : List ℕ} {a : Asked} → IsWord text a → WordRuns text a
word_runs (tag t) = of_text of_tag refl (text_runs of_tag t refl) refl
word_runs (title t) = of_text of_title refl (text_runs of_title t refl) refl
word_runs (attr {name} {n} {text} {v} r some t) =
    let named = text_runs of_name r (name_may_end n some) in
    let value = text_runs (of_value n) t refl in
    of_text (of_value n) refl value (attr_runs named value)
word_runs (has {name} {n} r some) = of_text of_has refl (text_runs of_has r (has_may_end n some)) refl
word_runs (ref t) = of_text of_ref refl (text_runs of_ref t refl) refl
word_runs (childrenof r is) = record {
  end = in_ref r;
  runs = ref_run [] r is;
  asked = cond_true (is_blobref r) (Some (children_of r)) None is;
}
