-- How `words` ends where its search words are wrong, and a run in which another text is wrong too.
use Rattle.std.proofs.Common.{◌≡◌, ◌∙◌, inl, inr, ℕ, ◌≤◌, List, Some, None, refl, sym, ap, subst}
use Rattle.std.specs.Prelude.{option_map, unwrap_or}
use Rattle.claim_verify.specs.Verifier.{Accepts}
use Rattle.schema_date.specs.declared.date.When.{When}
use Rattle.pack_disk.specs.Packs.{Packs}
use Rattle.search_words.specs.Faults.{words_fault, Says}
use Rattle.search_words.specs.declared.fault.WordsFault.{WordsFault}
use Rattle.search_words.specs.declared.fault.WordsFault.TheVariants as words
use Rattle.perkeep_words.specs.declared.kinds.TextFault.{TextFault}
use Rattle.top_frame.specs.Faults.{words_status}
use Rattle.top_frame.specs.Frame.{Ends}
use Rattle.top_frame.specs.Outside.{Outside, World}
use Rattle.top_frame.specs.declared.status.InputFault.{InputFault}
use Rattle.top_frame.specs.declared.status.Status.{Status}
use Rattle.top_frame.specs.declared.status.Status.TheVariants.{BadInput}
use Rattle.top_frame.specs.declared.status.InputFault.TheVariants.{Words}
use Rattle.top_frame.proofs.Ending.{bad_words, memory_first}
use Rattle.perkeep_top.specs.Run.{input_fault, IsRefusal}
use Rattle.perkeep_top.specs.SearchWords.{words_meaning}

module _ {D P S K C R : Type 0} (o : Outside D P S K C R)
    (counts_now : (d : D) (t : ℕ) (c : Packs) → t ≤ o.disk.moment d → o.disk.images d c → o.disk.images_since d t c)
    (only_now : (d : D) (c : Packs) → o.disk.images_since d (o.disk.moment d) c → o.disk.images d c)
    (accepts : Accepts) (text : List ℕ) (at : When) (b : World D P S K C R) where
  said : (fault : WordsFault) → words_fault text ≡ Some fault → option_map Words (words_fault text) ≡ Some (Words fault)
  said fault is = ap (option_map Words) is

  pub unread_words : (fault : WordsFault) → Says (words_fault text) fault
      → Ends o (words_meaning accepts text at) b b (words_status fault)
  unread_words (words.TooLong len) is =
      bad_words o counts_now only_now (words_meaning accepts text at) b (Words (words.TooLong len))
      (said (words.TooLong len) is)
  unread_words (words.Bad place) is =
      bad_words o counts_now only_now (words_meaning accepts text at) b (Words (words.Bad place))
      (said (words.Bad place) is)
  unread_words words.TooDeep is =
      bad_words o counts_now only_now (words_meaning accepts text at) b (Words words.TooDeep) (said words.TooDeep is)
  unread_words words.NoMemory is = memory_first o counts_now only_now (words_meaning accepts text at) b

module _ (text : List ℕ) (after : TextFault) where
  first : (fault : WordsFault) → Says (words_fault text) fault → IsRefusal (Some text) after (words_status fault)
  first (words.TooLong len) is =
      inl (ap (λ o. BadInput (unwrap_or (option_map Words o) (input_fault after))) (sym is))
  first (words.Bad place) is =
      inl (ap (λ o. BadInput (unwrap_or (option_map Words o) (input_fault after))) (sym is))
  first words.TooDeep is = inl (ap (λ o. BadInput (unwrap_or (option_map Words o) (input_fault after))) (sym is))
  first words.NoMemory is = inr refl

  -- search words that are wrong are told in place of what is wrong after them
  pub told_first : (fault : WordsFault) (answer : Status) → Says (words_fault text) fault → answer ≡ words_status fault
      → IsRefusal (Some text) after answer
  told_first fault answer said is = subst (λ status. IsRefusal (Some text) after status) (sym is) (first fault said)

  -- after search words that are right
  pub told_after : (fault : InputFault) → words_fault text ≡ None → fault ≡ input_fault after
      → IsRefusal (Some text) after (BadInput fault)
  told_after fault none is =
      inl (ap BadInput is ∙ ap (λ o. BadInput (unwrap_or (option_map Words o) (input_fault after))) (sym none))
