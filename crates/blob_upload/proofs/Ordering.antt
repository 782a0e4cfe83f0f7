-- Tokens come in order: so a name comes where no part is open, and the rest where one is.
use Rattle.std.proofs.Common.{◌≡◌, Bool, true, false, List, [], ◌∷◌, ◌++◌, ℕ, refl, sym, ap, ◌∙◌, append_assoc}
use Rattle.std.proofs.Common.{flat_map}
use Rattle.std.proofs.lemmas.List.{append-nil}
use Rattle.std.proofs.lemmas.Bool.{false≢true}
use Rattle.multipart_read.specs.declared.events.PartEvent.{PartEvent}
use Rattle.multipart_read.specs.declared.events.PartEvent.TheVariants.{Name, Content, PartEnd}
use Rattle.multipart_read.specs.Tokens.{Token, named, byte, ended, content, tokens_in}
use Rattle.multipart_read.specs.PartLists.{Part, part_tokens, Cut, between, inside, cut_tokens, AreParts}
use Rattle.blob_upload.specs.Taking.{IsInOrder}

-- the event may come there
abbrev pub Fits : Cut → PartEvent → Type 0
Fits between (Name name) = Unit {0}
Fits between (Content bytes) = bytes ≡ []
Fits between PartEnd = ⊥
Fits (inside n front) (Name name) = ⊥
Fits (inside n front) (Content bytes) = Unit {0}
Fits (inside n front) PartEnd = Unit {0}

abbrev is_inside : Cut → Bool
is_inside between = false
is_inside (inside name front) = true

-- the tokens are in order, where a part is open before them or not
abbrev ordered : Bool → List Token → Bool
ordered within [] = true
ordered false (named n ∷ ts) = ordered true ts
ordered false (byte b ∷ ts) = false
ordered false (ended ∷ ts) = false
ordered true (named n ∷ ts) = false
ordered true (byte b ∷ ts) = ordered true ts
ordered true (ended ∷ ts) = ordered false ts

content_ordered : (bytes : List ℕ) (ts : List Token) → ordered true (content bytes ++ ts) ≡ ordered true ts
content_ordered [] ts = refl
content_ordered (b ∷ bytes) ts = content_ordered bytes ts

ordered_behind : (parts : List Part) (cut : Cut) (ts : List Token)
    → ordered false (flat_map part_tokens parts ++ (cut_tokens cut ++ ts)) ≡ ordered (is_inside cut) ts
ordered_behind [] between ts = refl
ordered_behind [] (inside name front) ts = content_ordered front ts
ordered_behind (part ∷ parts) cut ts =
    let rest : List Token = flat_map part_tokens parts ++ (cut_tokens cut ++ ts) in
    ap (ordered true) (append_assoc (content part.1 ++ ended ∷ []) (flat_map part_tokens parts) (cut_tokens cut ++ ts)
    ∙ append_assoc (content part.1) (ended ∷ []) rest)
    ∙ content_ordered part.1 (ended ∷ rest) ∙ ordered_behind parts cut ts

fits_by : (cut : Cut) (event : PartEvent) (later : List Token)
    → ordered (is_inside cut) (tokens_in event ++ later) ≡ true
    → Fits cut event
fits_by between (Name name) later e = tt
fits_by between (Content []) later e = refl
fits_by between (Content (b ∷ bytes)) later e = absurd (false≢true e)
fits_by between PartEnd later e = absurd (false≢true e)
fits_by (inside n front) (Name name) later e = absurd (false≢true e)
fits_by (inside n front) (Content bytes) later e = tt
fits_by (inside n front) PartEnd later e = tt

pub fits : (tokens later : List Token) (event : PartEvent) (parts : List Part) (cut : Cut)
    → IsInOrder (tokens ++ (tokens_in event ++ later)) → AreParts tokens parts cut → Fits cut event
fits tokens later event parts cut (all, last, order) told =
    let these : List Token = tokens_in event ++ later in
    let whole : ordered false (tokens ++ these) ≡ true =
    ap (ordered false) (order ∙ ap (λ ts. flat_map part_tokens all ++ ts) (sym (append-nil (cut_tokens last))))
    ∙ ordered_behind all last [] in
    let behind : ordered false (tokens ++ these) ≡ ordered (is_inside cut) these =
    ap (ordered false) (ap (λ ts. ts ++ these) told ∙ append_assoc (flat_map part_tokens parts) (cut_tokens cut) these)
    ∙ ordered_behind parts cut these in
    fits_by cut event later (sym behind ∙ whole)
