-- One more answer extends what was served.
use Rattle.std.proofs.Common.{◌≡◌, ℕ, List, [], ◌∷◌, ◌++◌, length, Bool, refl, ap, sym, subst, ◌∙◌, arith}
use Rattle.std.proofs.Common.{append_assoc, All, true}
use Rattle.std.specs.List.{flat_map}
use Rattle.std.proofs.lemmas.List.{append-nil}
use Rattle.std.proofs.lemmas.List.Concat.{flat_map-append}
use Rattle.std.proofs.lemmas.List.Elements.{All-push, All-nil}
use mathlib.Core.List.{map-append}
use Rattle.histories.specs.declared.stamped.Stamped.{Stamped}
use Rattle.histories.specs.declared.events.StoreEvent.{StoreEvent}
use Rattle.histories.specs.History.{has}
use Rattle.histories.specs.Stores.{arrivals}
use Rattle.histories.proofs.Prefixes.{prefix_length}
use Rattle.histories.proofs.Growing.{has_front, has_rest}
use Rattle.histories.proofs.Standing.{arrivals_prefix}
use Rattle.home_places.specs.Passes.{Sight}
use Rattle.blob_http.specs.declared.entries.Answered.{Answered}
use Rattle.http_exchange.specs.Asked.{Asked}
use Rattle.blob_http.specs.Serving.{IsAnswered, Handles, Longer, Answer, AnswerHolds, Serves, HasNone, Owns}
use Rattle.blob_http.proofs.Staying.{all_stay, longer_none, longer_chain, climbs_more, climbs_stay, owns_none}
use Rattle.blob_http.proofs.Staying.{owns_chain}

flat_push : {A B : Type 0} (f : A → List B) (xs : List A) (x : A) → flat_map f (xs ++ x ∷ []) ≡ flat_map f xs ++ f x
flat_push f xs x = flat_map-append f xs (x ∷ []) ∙ ap (λ (t : List _). flat_map f xs ++ t) (append-nil (f x))

-- the turns of one more answer
drawn_more : (v w before rest turns all : List ℕ) → w ≡ v ++ (before ++ rest) → rest ≡ [] → all ≡ before ++ turns
    → w ++ turns ≡ v ++ (all ++ [])
drawn_more v w before rest turns all drawn none push =
    let plain : w ≡ v ++ before = drawn ∙ ap (λ (z : List ℕ). v ++ (before ++ z)) none
    ∙ ap (λ (z : List ℕ). v ++ z) (append-nil before) in
    ap (λ (z : List ℕ). z ++ turns) plain ∙ append_assoc v before turns
    ∙ ap (λ (z : List ℕ). v ++ z) (sym push ∙ sym (append-nil all))

-- what one more answer added
owns_more : (v w x : Sight) (before rest more all : List (Stamped StoreEvent)) → Owns v w (before ++ rest)
    → rest ≡ [] → Owns w x more → all ≡ before ++ more → Owns v x (all ++ [])
owns_more v w x before rest more all owned none then push =
    let plain : before ++ rest ≡ before = ap (λ (z : List (Stamped StoreEvent)). before ++ z) none
    ∙ append-nil before in
    subst (Owns v x) (sym push ∙ sym (append-nil all))
    (owns_chain v w x before more (subst (Owns v w) plain owned) then)

module _ (tells : Bool) where
  -- nothing was served yet
  pub serves_none : (v : Sight) (noted : List Answered → Type 0) (heard : List Asked → Type 0)
      (wrote : List ℕ → Type 0) → noted [] → heard [] → wrote [] → Serves tells v v noted heard wrote HasNone
  serves_none v noted heard wrote n h w = record {
    answers = [];
    noted = n;
    heard = h;
    written = w;
    each = All-nil (AnswerHolds tells v.index.accepts v.store.history v.index.shown);
    climbs = (omega arith, omega arith);
    rest = [];
    turns = sym (append-nil v.store.turns);
    rest_added = [];
    owned = owns_none v;
    rests = (refl, refl);
    longer = longer_none v;
  }

  -- the answers stay as the pass sees more
  each_stay : (v w x : Sight) (noted : List Answered → Type 0) (heard : List Asked → Type 0) (wrote : List ℕ → Type 0)
      (s : Serves tells v w noted heard wrote HasNone) → Longer w x
      → All (AnswerHolds tells v.index.accepts x.store.history x.index.shown) s.answers
  each_stay v w x noted heard wrote s longer =
      let turns = flat_map (λ (b : Answer). b.turns) s.answers in
      all_stay tells v.index.accepts w.store.history x.store.history w.index.shown x.index.shown s.answers longer.store
      (λ n e. longer.later n (subst (λ (ts : List ℕ). has ts n ≡ true) (sym s.turns)
      (has_rest v.store.turns (turns ++ s.rest) n (has_front turns s.rest n e)))) longer.shown s.each

  -- one more answer
  pub serves_more : (v w x : Sight) (noted noted' : List Answered → Type 0) (heard heard' : List Asked → Type 0)
      (wrote wrote' : List ℕ → Type 0) (asked : Asked) (entry : Answered) (text : List ℕ)
      → Serves tells v w noted heard wrote HasNone → Handles tells asked w x entry text
      → ((before : List Answered) → noted before → noted' (before ++ entry ∷ []))
      → ((before : List Asked) → heard before → heard' (before ++ asked ∷ []))
      → ((texts : List ℕ) → wrote texts → wrote' (texts ++ text))
      → Serves tells v x noted' heard' wrote' HasNone
  serves_more v w x noted noted' heard heard' wrote wrote' asked entry text s h more_noted more_heard more_text =
      let a : Answer = record { asked = asked; entry = entry; text = text; turns = h.turns; added = h.added } in
      let same : x.index.accepts ≡ v.index.accepts = h.longer.accepts ∙ s.longer.accepts in
      record {
        answers = s.answers ++ a ∷ [];
        noted = subst noted' (sym (map-append (λ (b : Answer). b.entry) s.answers (a ∷ []))) (more_noted _ s.noted);
        heard = subst heard' (sym (map-append (λ (b : Answer). b.asked) s.answers (a ∷ []))) (more_heard _ s.heard);
        written = subst wrote' (sym (flat_push (λ (b : Answer). b.text) s.answers a)) (more_text _ s.written);
        each = All-push (AnswerHolds tells v.index.accepts x.store.history x.index.shown) s.answers a
            (each_stay v w x noted heard wrote s h.longer)
            (subst (λ acc. IsAnswered tells acc x.store.history x.index.shown asked entry text h.turns h.added) same
            h.answered);
        climbs = climbs_more (length (arrivals v.store.history)) (length v.index.shown) s.answers
            (length (arrivals w.store.history)) (length w.index.shown) a
            (length (arrivals x.store.history))
            (length x.index.shown) s.climbs h.store_low h.index_low h.answered.store_within h.answered.index_within;
        rest = [];
        turns = h.drawn ∙ drawn_more v.store.turns w.store.turns
            (flat_map (λ (b : Answer). b.turns) s.answers) s.rest h.turns
            (flat_map (λ (b : Answer). b.turns) (s.answers ++ a ∷ [])) s.turns s.rests.0
            (flat_push (λ (b : Answer). b.turns) s.answers a);
        rest_added = [];
        owned = owns_more v w x (flat_map (λ (b : Answer). b.added) s.answers) s.rest_added h.added
            (flat_map (λ (b : Answer). b.added) (s.answers ++ a ∷ [])) s.owned s.rests.1 h.owned
            (flat_push (λ (b : Answer). b.added) s.answers a);
        rests = (refl, refl);
        longer = longer_chain v w x s.longer h.longer;
      }

  -- no further answer, where the pass has maybe seen more, and drawn turns that belong to no answer
  pub serves_ends : (v w x : Sight) (noted noted' : List Answered → Type 0) (heard heard' : List Asked → Type 0)
      (wrote wrote' : List ℕ → Type 0)
      (rests : List ℕ → List (Stamped StoreEvent) → Type 0) (turns : List ℕ) (added : List (Stamped StoreEvent))
      → Serves tells v w noted heard wrote HasNone
      → ((entries : List Answered) → noted entries → noted' entries)
      → ((asked : List Asked) → heard asked → heard' asked) → ((texts : List ℕ) → wrote texts → wrote' texts)
      → x.store.turns ≡ w.store.turns ++ turns → Owns w x added → rests turns added → Longer w x
      → Serves tells v x noted' heard' wrote' rests
  serves_ends v w x noted noted' heard heard' wrote wrote' rests turns added s e f g drawn owned r longer = record {
    answers = s.answers;
    noted = e _ s.noted;
    heard = f _ s.heard;
    written = g _ s.written;
    each = each_stay v w x noted heard wrote s longer;
    climbs = climbs_stay (length (arrivals v.store.history)) (length v.index.shown) s.answers
        (length (arrivals w.store.history)) (length w.index.shown)
        (length (arrivals x.store.history)) (length x.index.shown) s.climbs
        (prefix_length (arrivals w.store.history) (arrivals x.store.history)
        (arrivals_prefix w.store.history x.store.history longer.store))
        (prefix_length w.index.shown x.index.shown longer.shown);
    rest = turns;
    turns = drawn ∙ drawn_rest v.store.turns w.store.turns
        (flat_map (λ (b : Answer). b.turns) s.answers) s.rest turns s.turns s.rests.0;
    rest_added = added;
    owned = owns_chain v w x (flat_map (λ (b : Answer). b.added) s.answers) added
        (subst (Owns v w) (ap (λ (z : List (Stamped StoreEvent)). flat_map (λ (b : Answer). b.added) s.answers ++ z)
        s.rests.1 ∙ append-nil (flat_map (λ (b : Answer). b.added) s.answers)) s.owned) owned;
    rests = r;
    longer = longer_chain v w x s.longer longer;
  }
    where
      drawn_rest : (v w all rest turns : List ℕ) → w ≡ v ++ (all ++ rest) → rest ≡ [] → w ++ turns ≡ v ++ (all ++ turns)
      drawn_rest v w all rest turns drawn none =
          let plain : w ≡ v ++ all = drawn ∙ ap (λ (z : List ℕ). v ++ (all ++ z)) none
          ∙ ap (λ (z : List ℕ). v ++ z) (append-nil all) in
          ap (λ (z : List ℕ). z ++ turns) plain ∙ append_assoc v all turns
