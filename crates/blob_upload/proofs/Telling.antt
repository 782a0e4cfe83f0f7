-- What is told of a body, taken token by token.
use Rattle.std.proofs.Common.{◌≡◌, ◌+◌, ◌<◌, ◌≤◌, ℕ, Bool, true, false, if◌then◌else◌, List, [], ◌∷◌, ◌++◌, length}
use Rattle.std.proofs.Common.{take, drop, get_or, add-one, refl, sym, ap, subst, ◌∙◌, append_assoc, flat_map, Option}
use Rattle.std.proofs.Common.{Some, None, Result, Ok, Err}
use Rattle.std.specs.Result.{OnOk, IfErr}
use Rattle.std.proofs.lemmas.List.{append-nil, take_all, take-append-drop}
use Rattle.std.proofs.Math.Seq.{take-suc}
use Rattle.std.proofs.lemmas.Grind.{flat_map-append}
use mathlib.Core.List.{map-append}
use Rattle.blobref.specs.Blobref.{is_blobref, blobref_in}
use Rattle.multipart_read.specs.declared.events.PartEvent.{PartEvent}
use Rattle.multipart_read.specs.declared.events.PartEvent.TheVariants.{Name, Content, PartEnd}
use Rattle.multipart_read.specs.Tokens.{Token, named, byte, ended, content, tokens_in, tokens_of}
use Rattle.multipart_read.specs.PartLists.{Part, part_tokens, Cut, between, inside, cut_tokens, AreParts}
use Rattle.home_places.specs.Passes.{Sight}
use Rattle.answer_text.specs.declared.refusal.Refusal.TheVariants.{BadRef}
use Rattle.blob_upload.specs.declared.upload_end.UploadEnd.{UploadEnd}
use Rattle.blob_upload.specs.declared.upload_end.UploadEnd.TheVariants.{Refused, Memory}
use Rattle.blob_upload.specs.declared.opened.Opened.{Opened}
use Rattle.blob_upload.specs.Puts.{Keeps}
use Rattle.blob_upload.specs.Ends.{StopsAt, IsNamed}
use Rattle.blob_upload.specs.Taking.{cut_of, with_bytes, PutsOpen, After, IsInOrder, Took, Stopped, Takes}
use Rattle.blob_upload.proofs.Ordering.{Fits, fits}
use Rattle.blob_upload.proofs.Putting.{keeps_more}

abbrev flat : List Part → List Token
flat parts = flat_map part_tokens parts

-- ---- one event

-- a name that is read as a ref
pub opens : (name r content' : List ℕ) (o : Option (List ℕ)) → o ≡ blobref_in name → o ≡ Some r → content' ≡ []
    → (is_blobref name ≡ true) × (inside r content' ≡ inside name [])
opens name r content' o read is none =
    let both = by (is_blobref name) (sym read ∙ is) in
    (both.0, λ i. inside (both.1 i) (none i))
  where
    by : (b : Bool) → (if b then Some name else None) ≡ Some r → (b ≡ true) × (r ≡ name)
    by true e = (refl, cc e)
    by false e = absurd cc

module _ (tokens : List Token) (parts : List Part) where
  -- a name where no part is open
  name_told : (n : List ℕ) (cut : Cut) → Fits cut (Name n) → AreParts tokens parts cut
      → tokens ++ named n ∷ [] ≡ flat parts ++ named n ∷ []
  name_told n between fit told = ap (λ ts. ts ++ named n ∷ []) (told ∙ append-nil (flat parts))
  name_told n (inside m front) fit told = absurd fit

  -- bytes
  content_told : (bytes : List ℕ) (cut : Cut) → Fits cut (Content bytes) → AreParts tokens parts cut
      → AreParts (tokens ++ content bytes) parts (with_bytes bytes cut)
  content_told bytes between fit told = ap (λ bs. tokens ++ content bs) fit ∙ append-nil tokens ∙ told
  content_told bytes (inside n front) fit told =
      ap (λ ts. ts ++ content bytes) told ∙ append_assoc (flat parts) (named n ∷ content front) (content bytes)
      ∙ ap (λ ts. flat parts ++ named n ∷ ts) (sym (map-append (λ x. byte x) front bytes))

  -- an end
  end_told : (n front : List ℕ) → AreParts tokens parts (inside n front)
      → tokens ++ ended ∷ [] ≡ flat parts ++ part_tokens (n, front)
  end_told n front told =
      ap (λ ts. ts ++ ended ∷ []) told ∙ append_assoc (flat parts) (named n ∷ content front) (ended ∷ [])

  closed_told : (part : Part) (ts : List Token) → ts ≡ flat parts ++ part_tokens part
      → AreParts ts (parts ++ part ∷ []) between
  closed_told part ts told =
      told ∙ ap (λ l. flat parts ++ l) (sym (append-nil (part_tokens part)))
      ∙ sym (flat_map-append part_tokens parts (part ∷ []))
      ∙ sym (append-nil (flat (parts ++ part ∷ [])))

bytes_named : (bytes : List ℕ) (cut : Cut) → IsNamed cut → IsNamed (with_bytes bytes cut)
bytes_named bytes between is = tt
bytes_named bytes (inside n front) is = is

pub name_takes : (n : List ℕ) (o o' : Option Opened) (k : List (List ℕ × ℕ)) (v : Sight)
    (result : Result (Unit {0}) UploadEnd)
    → OnOk result ((is_blobref n ≡ true) × (cut_of o' ≡ inside n []))
    → IfErr result (λ end. (end ≡ Refused BadRef) × (is_blobref n ≡ false)) → Takes (named n ∷ []) o o' k k v v result
name_takes n o o' k v (Ok done) ok err first u tokens later order took =
    let told = name_told tokens took.parts n (cut_of o)
    (fits tokens later (Name n) took.parts (cut_of o) order took.told) took.told in
    record {
      parts = took.parts;
      told = subst (λ cut. AreParts (tokens ++ named n ∷ []) took.parts cut) (sym (ok.1)) told;
      is_named = subst IsNamed (sym (ok.1)) (ok.0);
      keeps = took.keeps;
    }
name_takes n o o' k v (Err end) ok err first u tokens later order took =
    record {
      parts = took.parts;
      after = named n ∷ [];
      told = name_told tokens took.parts n (cut_of o)
          (fits tokens later (Name n) took.parts (cut_of o) order took.told) took.told;
      middle = v;
      keeps = took.keeps;
      stops = StopsAt.AtName n [] refl (err.1) (err.0) refl;
    }

pub content_takes : (bytes : List ℕ) (o o' : Option Opened) (k : List (List ℕ × ℕ)) (v : Sight)
    (result : Result (Unit {0}) UploadEnd)
    → OnOk result (cut_of o' ≡ with_bytes bytes (cut_of o)) → IfErr result (λ end. end ≡ Memory)
    → Takes (content bytes) o o' k k v v result
content_takes bytes o o' k v (Ok done) ok err first u tokens later order took =
    let fit = fits tokens later (Content bytes) took.parts (cut_of o) order took.told in
    record {
      parts = took.parts;
      told = subst (λ cut. AreParts (tokens ++ content bytes) took.parts cut) (sym ok)
          (content_told tokens took.parts bytes (cut_of o) fit took.told);
      is_named = subst IsNamed (sym ok) (bytes_named bytes (cut_of o) took.is_named);
      keeps = took.keeps;
    }
content_takes bytes o o' k v (Err end) ok err first u tokens later order took =
    record {
      parts = took.parts;
      after = cut_tokens (cut_of o) ++ content bytes;
      told = ap (λ ts. ts ++ content bytes) took.told
          ∙ append_assoc (flat took.parts) (cut_tokens (cut_of o)) (content bytes);
      middle = v;
      keeps = took.keeps;
      stops = StopsAt.ForMemory err refl;
    }

end_by : (cut : Cut) (o' : Option Opened) (k k' first : List (List ℕ × ℕ)) (u v w : Sight) (tokens : List Token)
    (parts : List Part) (result : Result (Unit {0}) UploadEnd) → cut_of o' ≡ between → PutsOpen cut k k' v w result
    → Fits cut PartEnd
    → AreParts tokens parts cut → IsNamed cut → Keeps parts first k u v
    → After result (λ done. Took first u (tokens ++ ended ∷ []) o' k' w)
    (λ end. Stopped first u (tokens ++ ended ∷ []) end k' w)
end_by between o' k k' first u v w tokens parts result none puts fit told is keeps = absurd fit
end_by (inside n front) o' k k' first u v w tokens parts (Ok done) none puts fit told is keeps =
    let part : Part = (n, front) in
    record {
      parts = parts ++ part ∷ [];
      told = subst (λ cut. AreParts (tokens ++ ended ∷ []) (parts ++ part ∷ []) cut) (sym none)
          (closed_told tokens parts part (tokens ++ ended ∷ []) (end_told tokens parts n front told));
      is_named = subst IsNamed (sym none) tt;
      keeps = keeps_more parts part (puts.0) first k k' u v w keeps is (puts.1) (puts.2);
    }
end_by (inside n front) o' k k' first u v w tokens parts (Err end) none puts fit told is keeps =
    record {
      parts = parts;
      after = part_tokens (n, front);
      told = end_told tokens parts n front told;
      middle = v;
      keeps = subst (λ l. Keeps parts first l u v) (sym (puts.0)) keeps;
      stops = StopsAt.AtPart (n, front) [] (sym (append-nil (part_tokens (n, front)))) is (puts.1);
    }

pub end_takes : (o o' : Option Opened) (k k' : List (List ℕ × ℕ)) (v w : Sight) (result : Result (Unit {0}) UploadEnd)
    → cut_of o' ≡ between → PutsOpen (cut_of o) k k' v w result → Takes (ended ∷ []) o o' k k' v w result
end_takes o o' k k' v w result none puts first u tokens later order took =
    end_by (cut_of o) o' k k' first u v w tokens took.parts result none puts
    (fits tokens later PartEnd took.parts (cut_of o) order took.told) took.told took.is_named took.keeps

-- ---- events one after the other

pub takes_none : (o : Option Opened) (k : List (List ℕ × ℕ)) (v : Sight) → Takes [] o o k k v v (Ok tt)
takes_none o k v first u tokens later order took = subst (λ ts. Took first u ts o k v) (sym (append-nil tokens)) took

pub takes_more : (xs ys : List Token) (o p q : Option Opened) (k l m : List (List ℕ × ℕ)) (v w x : Sight)
    (result : Result (Unit {0}) UploadEnd) → Takes xs o p k l v w (Ok tt) → Takes ys p q l m w x result
    → Takes (xs ++ ys) o q k m v x result
takes_more xs ys o p q k l m v w x result h g first u tokens later order took =
    let far : IsInOrder (tokens ++ (xs ++ (ys ++ later))) =
    subst (λ ts. IsInOrder (tokens ++ ts)) (append_assoc xs ys later) order in
    let near : IsInOrder ((tokens ++ xs) ++ (ys ++ later)) =
    subst IsInOrder (sym (append_assoc tokens xs (ys ++ later))) far in
    subst (λ ts. After result (λ done. Took first u ts q m x) (λ end. Stopped first u ts end m x))
    (append_assoc tokens xs ys)
    (g first u (tokens ++ xs) later near (h first u tokens (ys ++ later) far took))

-- what is told behind a stop changes nothing
pub stops_longer : (after more : List Token) (end : UploadEnd) (v w : Sight) → StopsAt after end v w
    → StopsAt (after ++ more) end v w
stops_longer after more end v w (StopsAt.AtName n later is bad ends same) =
    StopsAt.AtName n (later ++ more) (ap (λ ts. ts ++ more) is) bad ends same
stops_longer after more end v w (StopsAt.AtPart part later is good put) =
    StopsAt.AtPart part (later ++ more) (ap (λ ts. ts ++ more) is ∙ append_assoc (part_tokens part) later more) good put
stops_longer after more end v w (StopsAt.ForMemory ends same) = StopsAt.ForMemory ends same

pub takes_stop : (xs ys : List Token) (o p : Option Opened) (k l : List (List ℕ × ℕ)) (v w : Sight) (end : UploadEnd)
    → Takes xs o p k l v w (Err end) → Takes (xs ++ ys) o p k l v w (Err end)
takes_stop xs ys o p k l v w end h first u tokens later order took =
    let stopped = h first u tokens (ys ++ later)
    (subst (λ ts. IsInOrder (tokens ++ ts)) (append_assoc xs ys later) order) took in
    record {
      parts = stopped.parts;
      after = stopped.after ++ ys;
      told = sym (append_assoc tokens xs ys) ∙ ap (λ ts. ts ++ ys) stopped.told
          ∙ append_assoc (flat stopped.parts) stopped.after ys;
      middle = stopped.middle;
      keeps = stopped.keeps;
      stops = stops_longer stopped.after ys end stopped.middle w stopped.stops;
    }

-- the tokens of the first events, and of one more
pub tokens_to : (events : List PartEvent) (i : ℕ) (event : PartEvent) → i < length events
    → event ≡ get_or events i event
    → tokens_of (take i events) ++ tokens_in event ≡ tokens_of (take (i + 1) events)
tokens_to events i event small is =
    let next : take i events ++ get_or events i event ∷ [] ≡ take (i + 1) events =
    sym (ap (λ n. take n events) (add-one i) ∙ take-suc events i event small) in
    ap (λ ts. tokens_of (take i events) ++ ts) (sym (append-nil (tokens_in event)))
    ∙ sym (flat_map-append tokens_in (take i events) (event ∷ [])) ∙ ap (λ e. tokens_of (take i events ++ e ∷ [])) is
    ∙ ap tokens_of next

pub tokens_from : (events : List PartEvent) (i : ℕ) (event : PartEvent) → i < length events
    → event ≡ get_or events i event
    → (tokens_of (take i events) ++ tokens_in event) ++ tokens_of (drop (i + 1) events) ≡ tokens_of events
tokens_from events i event small is =
    ap (λ ts. ts ++ tokens_of (drop (i + 1) events)) (tokens_to events i event small is)
    ∙ sym (flat_map-append tokens_in (take (i + 1) events) (drop (i + 1) events))
    ∙ ap tokens_of (take-append-drop (i + 1) events)

pub tokens_all : (events : List PartEvent) (i : ℕ) → length events ≤ i → tokens_of (take i events) ≡ tokens_of events
tokens_all events i all = ap tokens_of (take_all i events all)
