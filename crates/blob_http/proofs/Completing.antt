-- A valid request gets its answer.
use Rattle.std.proofs.Common.{◌≡◌, ◌≤◌, inl, inr, ℕ, List, [], ◌∷◌, ◌++◌, length, take, All, Bool, true}
use Rattle.std.proofs.Common.{false, not, if◌then◌else◌, flat_map, Option, Some, None, Result, Ok, Err, refl, ap}
use Rattle.std.proofs.Common.{sym, subst, ◌∙◌, arith, append_assoc, length-append}
use Rattle.std.specs.Option.{IfSome}
use Rattle.std.proofs.lemmas.Bool.{false≢true}
use Rattle.std.proofs.lemmas.List.{append-nil, append_cancel_left}
use Rattle.std.proofs.lemmas.List.Elements.{All-head, All-tail}
use Rattle.blobref.specs.Blobref.{is_blobref, is_own_ref, ref_like}
use Rattle.claim_verify.specs.Verifier.{Accepts}
use Rattle.answer_text.specs.declared.refusal.Refusal.{Refusal}
use Rattle.answer_text.specs.declared.refusal.Refusal.TheVariants as refusal
use Rattle.histories.specs.declared.stamped.Stamped.{Stamped}
use Rattle.histories.specs.declared.events.StoreEvent.{StoreEvent}
use Rattle.histories.specs.declared.events.StoreEvent.TheVariants as store
use Rattle.histories.specs.Stores.{Blob, arrivals}
use Rattle.histories.specs.declared.events.Insertion.{Insertion}
use Rattle.http_wire.proofs.Framings.{request_ends}
use Rattle.http_wire.specs.declared.body.Body.{Body}
use Rattle.http_wire.specs.declared.body.Body.TheVariants as body
use Rattle.http_wire.specs.declared.head.Head.{Head}
use Rattle.http_wire.specs.Bodies.{RestOf, IsMalformed}
use Rattle.http_wire.specs.Wires.{WireView, body_of}
use Rattle.http_wire.specs.Speaking.{Request, Begun, IsBegun}
use Rattle.http_wire.proofs.Unfinished.{breaks_short}
use Rattle.multipart_read.specs.declared.events.PartFault.{PartFault}
use Rattle.multipart_read.specs.declared.events.PartFault.TheVariants as part
use Rattle.multipart_read.specs.Tokens.{Token, named, byte, ended, content}
use Rattle.multipart_read.specs.Reader.{IsBody}
use Rattle.multipart_read.specs.PartLists.{Part, part_tokens, Cut, between, inside, cut_tokens}
use Rattle.multipart_read.proofs.Unique.{one_reading}
use Rattle.multipart_read.proofs.PartLaws.{bodies_have_parts, one_list_of_parts}
use Rattle.blob_routes.specs.declared.routes.Route.{Route}
use Rattle.blob_routes.specs.declared.routes.Route.TheVariants as route
use Rattle.http_exchange.specs.Before.{most_body}
use Rattle.blob_upload.specs.declared.upload_end.UploadEnd.{UploadEnd}
use Rattle.blob_upload.specs.declared.upload_end.UploadEnd.TheVariants as upload_end
use Rattle.multipart_read.specs.Limits.{most_bytes}
use Rattle.blob_upload.specs.Faults.{part_fault}
use Rattle.blob_upload.specs.Ends.{Told, Faulty, IsAll}
use Rattle.blob_upload.specs.UploadOutcome.{UploadOutcome, HasFault, Refuses}
use Rattle.blob_upload.proofs.Fronts.{told_first}
use Rattle.blob_http.specs.declared.entries.Outcome.{Outcome}
use Rattle.blob_http.specs.declared.entries.Outcome.TheVariants.{Defined, Memory, Disk, Full, Damaged}
use Rattle.blob_http.specs.declared.operations.Operation.{Operation}
use Rattle.http_exchange.specs.Asked.{Asked, Whole, Front, Head as NoHead}
use Rattle.blob_http.specs.Operations.{first_of}
use Rattle.blob_http.specs.Keeping.{boundary_at, Kept, IsUploadReply}
use Rattle.blob_http.specs.Serving.{HasCauseIn, IsBodyRefusal, IsFrontDefined, IsReply}
use Rattle.blob_http.specs.Complete.{IsGoodUpload, HasGoodBody, IsValid, IsOf, IsCalm}
use Rattle.blob_http.specs.Complete.{IsServed, ValidIsServed}

-- ---- nothing failed

module _ (h : List (Stamped StoreEvent)) (turns : List ℕ) (calm : IsCalm h turns) where
  calm_disk : HasCauseIn turns h Disk → ⊥
  calm_disk c = false≢true (calm c.0 (store.Fault c.1) c.2 c.3)

  calm_full : (blobs pack : ℕ) → HasCauseIn turns h (Full blobs pack) → ⊥
  calm_full blobs pack c = false≢true (calm c.0 (store.Full blobs pack) c.1 c.2)

  calm_damaged : (want is : List ℕ) → HasCauseIn turns h (Damaged want is) → ⊥
  calm_damaged want is c = false≢true (calm c.0 (store.Damage want is) c.1 c.2)

-- ---- the tokens of parts without a fault

-- each name is a blobref, and no part that ends has a fault; behind what is open of a part
unfoldable Sound : Cut → List Token → Type 0
Sound cut [] = Unit {0}
Sound cut (named name ∷ ts) = (is_blobref name ≡ true) × Sound (inside name []) ts
Sound between (byte b ∷ ts) = Sound between ts
Sound (inside name front) (byte b ∷ ts) = Sound (inside name (front ++ b ∷ [])) ts
Sound between (ended ∷ ts) = Sound between ts
Sound (inside name front) (ended ∷ ts) = (part_fault (name, front) ≡ None) × Sound between ts

sound_on : (name front bytes : List ℕ) (ts : List Token) → Sound (inside name (front ++ bytes)) ts
    → Sound (inside name front) (content bytes ++ ts)
unfolding Sound
sound_on name front [] ts s = subst (λ (z : List ℕ). Sound (inside name z) ts) (append-nil front) s
sound_on name front (b ∷ bytes) ts s = sound_on name (front ++ b ∷ []) bytes ts
    (subst (λ (z : List ℕ). Sound (inside name z) ts) (sym (append_assoc front (b ∷ []) bytes)) s)

sound_behind : (name front bytes : List ℕ) (ts : List Token) → Sound (inside name front) (content bytes ++ ts)
    → Sound (inside name (front ++ bytes)) ts
unfolding Sound
sound_behind name front [] ts s = subst (λ (z : List ℕ). Sound (inside name z) ts) (sym (append-nil front)) s
sound_behind name front (b ∷ bytes) ts s =
    subst (λ (z : List ℕ). Sound (inside name z) ts) (append_assoc front (b ∷ []) bytes)
    (sound_behind name (front ++ b ∷ []) bytes ts s)

named_by : (p : Part) (a b : Bool) → (if not a then Some refusal.BadRef
    else if not b then Some (refusal.BadDigest p.0 (ref_like p.0 p.1)) else None) ≡ None → a ≡ true
named_by p true b is = refl
named_by p false b is = absurd (cc is)

-- the name of a part without a fault is a blobref
is_named : (p : Part) → part_fault p ≡ None → is_blobref p.0 ≡ true
is_named p is = named_by p (is_blobref p.0) (is_own_ref p.0 p.1) is

-- the tokens of one part, and others
one_part : (p : Part) (rest : List Token) → part_tokens p ++ rest ≡ named p.0 ∷ (content p.1 ++ ended ∷ rest)
one_part p rest = ap (λ (z : List Token). named p.0 ∷ z) (append_assoc (content p.1) (ended ∷ []) rest)

sound_part : (p : Part) (ts : List Token) → part_fault p ≡ None → Sound between ts → Sound between (part_tokens p ++ ts)
unfolding Sound
sound_part p ts none s = subst (Sound between) (sym (one_part p ts))
    (is_named p none, sound_on p.0 [] p.1 (ended ∷ ts) (none, s))

part_sound : (p : Part) (ts : List Token) → Sound between (part_tokens p ++ ts)
    → (part_fault p ≡ None) × Sound between ts
unfolding Sound
part_sound p ts s =
    let whole : Sound between (named p.0 ∷ (content p.1 ++ ended ∷ ts)) = subst (Sound between) (one_part p ts) s in
    sound_behind p.0 [] p.1 (ended ∷ ts) whole.1

name_sound : (name : List ℕ) (ts : List Token) → Sound between (named name ∷ ts) → is_blobref name ≡ true
unfolding Sound
name_sound name ts s = s.0

none_sound : Sound between []
unfolding Sound
none_sound = tt

sound_parts : (parts : List Part) → All (λ (p : Part). part_fault p ≡ None) parts
    → Sound between (flat_map part_tokens parts ++ [])
sound_parts [] all = none_sound
sound_parts (p ∷ ps) all =
    subst (Sound between) (sym (append_assoc (part_tokens p) (flat_map part_tokens ps) []))
    (sound_part p (flat_map part_tokens ps ++ []) (All-head (λ (q : Part). part_fault q ≡ None) p ps all)
    (sound_parts ps (All-tail (λ (q : Part). part_fault q ≡ None) p ps all)))

sound_rest : (parts : List Part) (ts : List Token) → Sound between (flat_map part_tokens parts ++ ts) → Sound between ts
sound_rest [] ts s = s
sound_rest (p ∷ ps) ts s = sound_rest ps ts (part_sound p (flat_map part_tokens ps ++ ts)
    (subst (Sound between) (append_assoc (part_tokens p) (flat_map part_tokens ps) ts) s)).1

-- a whole body whose parts have no fault, as its tokens
record SoundBody (boundary text : List ℕ) : Type 0 where
  pub told : List Token
  pub is : IsBody boundary text told (Ok tt)
  pub sound : Sound between told

sound_body : (boundary text : List ℕ) → IsGoodUpload boundary text → SoundBody boundary text
sound_body boundary text good =
    let told = good.whole.0 in
    let is = good.whole.2 in
    let have = bodies_have_parts boundary text told (Ok tt) is in
    let same = one_list_of_parts boundary text good.parts have.0 (Ok tt) (Ok tt) good.whole
    (told, have.1, is, have.2) in
    let tokens : told ≡ flat_map part_tokens have.0 ++ [] = have.2
    ∙ ap (λ (c : Cut). flat_map part_tokens have.0 ++ cut_tokens c) (have.3 refl) in
    record {
      told = told;
      is = is;
      sound = subst (Sound between) (sym tokens)
          (sound_parts have.0 (subst (All (λ (p : Part). part_fault p ≡ None)) same.0 good.sound));
    }

-- ---- no refusal fits the front of such a body

module _ (boundary given more : List ℕ) (good : SoundBody boundary (given ++ more)) (parts : List Part) where
  -- what the front tells is told first
  sound_after : (after : List Token) → Told boundary given parts after
      → (later : List Token) × Sound between (after ++ later)
  sound_after after told =
      let first = told_first boundary given parts after told more good.told (Ok tt) good.is in
      let tokens : good.told ≡ flat_map part_tokens parts ++ (after ++ first.0) = first.1
      ∙ append_assoc (flat_map part_tokens parts) after first.0 in
      (first.0, sound_rest parts (after ++ first.0) (subst (Sound between) tokens good.sound))

  no_bad_name : (name : List ℕ) (later : List Token) → Told boundary given parts (named name ∷ later)
      → is_blobref name ≡ false → ⊥
  no_bad_name name later told bad =
      let s = sound_after (named name ∷ later) told in
      false≢true (sym bad ∙ name_sound name (later ++ s.0) s.1)

  no_bad_part : (p : Part) (later : List Token) → Told boundary given parts (part_tokens p ++ later) → (why : Refusal)
      → part_fault p ≡ Some why → ⊥
  no_bad_part p later told why bad =
      let s = sound_after (part_tokens p ++ later) told in
      let tokens = append_assoc (part_tokens p) later s.0 in
      let none = (part_sound p (later ++ s.0) (subst (Sound between) tokens s.1)).0 in
      absurd (cc (sym bad ∙ none))

  no_faulty : (fault : PartFault) → Faulty boundary given parts fault → ⊥
  no_faulty fault f =
      let whole : given ++ more ≡ f.fed ++ (f.rest ++ more) = ap (λ (z : List ℕ). z ++ more) f.whole
      ∙ append_assoc f.fed f.rest more in
      let same = one_reading boundary (f.fed ++ (f.rest ++ more)) good.told _ (Ok tt) (Err fault)
      (subst (λ (z : List ℕ). IsBody boundary z good.told (Ok tt)) whole good.is) (f.tells (f.rest ++ more)) in
      absurd (cc same.1)

  no_all : (fault : PartFault) → more ≡ [] → IsAll boundary given parts (Err fault) → ⊥
  no_all fault none all =
      let whole : given ++ more ≡ given = ap (λ (z : List ℕ). given ++ z) none ∙ append-nil given in
      let same = one_reading boundary given good.told _ (Ok tt) (Err fault)
      (subst (λ (z : List ℕ). IsBody boundary z good.told (Ok tt)) whole good.is) all.tells in
      absurd (cc same.1)

  module _ (wire : WireView) (after : Option (List ℕ)) (ends : wire.body ≡ body.Done → more ≡ [])
      (short : length given ≤ most_bytes) (unbroken : IfSome after (IsMalformed wire.body) → ⊥) where
    no_fault : (fault : PartFault) → HasFault boundary given parts wire after fault → ⊥
    no_fault fault (inl f) = no_faulty fault f
    no_fault fault (inr all) = no_all fault (ends all.0) all.1

    no_refusal : (why : Refusal) → Refuses boundary given parts wire after why → ⊥
    no_refusal refusal.BadRef f = no_bad_name f.0 f.1 f.2 f.3
    no_refusal (refusal.BadDigest said is) f = no_bad_part (said, f.0) f.1.0 f.1.1 (refusal.BadDigest said is) f.2
    no_refusal (refusal.BadMultipart at) f = no_fault (part.Bad at) f
    no_refusal (refusal.TooLong limit) (inl f) = no_fault (part.TooLong limit) f
    no_refusal (refusal.TooLong limit) (inr f) =
        let over = f.1 in
        omega (arith, short, over.3, over.4, ap length over.2, length-append over.0 over.1)
    no_refusal refusal.BadLength f = unbroken f.1
    no_refusal refusal.BadHead f = f
    no_refusal refusal.BadVersion f = f
    no_refusal refusal.BadNumber f = f
    no_refusal (refusal.BadQuery kind at) f = f
    no_refusal refusal.NoRoute f = f
    no_refusal (refusal.Absent r) f = f
    no_refusal refusal.Method f = f
    no_refusal (refusal.Damaged want is) f = f
    no_refusal refusal.Memory f = f
    no_refusal refusal.Disk f = f
    no_refusal (refusal.Full blobs pack) f = f

-- ---- as far as a valid request was read

done_none : (at : Body) (rest more : List ℕ) → RestOf at rest more → at ≡ body.Done → more ≡ []
done_none at rest more r done = (subst (λ (z : Body). RestOf z rest more) done r).1

-- what is left of the request behind what was read
record Left (r : Request) (b : Begun) (rest bytes : List ℕ) : Type 0 where
  pub framed : List ℕ
  pub more : List ℕ
  pub body : r.body ≡ b.given ++ more
  pub rest_of : RestOf b.at framed more
  pub behind : framed ++ rest ≡ bytes

left_of : (r : Request) (b : Begun) (rest bytes : List ℕ) → IsValid r → IsBegun b → b.says ≡ r.says
    → r.framed ++ rest ≡ b.framed ++ bytes → Left r b rest bytes
left_of r b rest bytes valid begun says same =
    let whole = subst (λ (z : Head). RestOf (body_of z.framing) r.framed r.body) (sym says) valid.is.rest in
    let goes = begun.leads.back (request_ends b.head b.says begun.read) r.framed r.body rest bytes whole same in
    record {
      framed = goes.0;
      more = goes.1;
      body = goes.3;
      rest_of = goes.4;
      behind = append_cancel_left b.framed (goes.0 ++ rest) bytes (sym (append_assoc b.framed goes.0 rest)
          ∙ ap (λ (z : List ℕ). z ++ rest) (sym goes.2) ∙ same);
    }

module _ (r : Request) (b : Begun) (rest bytes : List ℕ) (after : Option (List ℕ)) (left : Left r b rest bytes)
    (told : after ≡ Some bytes) where
  unbroken : IfSome after (IsMalformed b.at) → ⊥
  unbroken breaks = breaks_short b.at left.framed left.more rest bytes left.rest_of left.behind
      (subst (λ (z : Option (List ℕ)). IfSome z (IsMalformed b.at)) told breaks)

  given_short : length b.given ≤ length r.body
  given_short = omega (arith, ap length left.body, length-append b.given left.more)

  no_body_refusal : length r.body ≤ most_body → (why : Refusal) → IsBodyRefusal b after why → ⊥
  no_body_refusal short why (inl long) = omega (arith, short, long.1, given_short)
  no_body_refusal short why (inr breaks) = unbroken breaks.2

  operation_short : (way : Route) → (way ≡ route.Upload → ⊥) → HasGoodBody r way → length r.body ≤ most_body
  operation_short (route.Blob ref) other good = good.short
  operation_short (route.Stat posted) other good = good.short
  operation_short route.Upload other good = absurd (other refl)
  operation_short route.Page other good = good.short
  operation_short route.Search other good = good.short

  no_front : (found : Result Route Operation) (found_as : Route) → found ≡ Ok found_as → HasGoodBody r found_as
      → (text : List ℕ) → IsFrontDefined b after found text → ⊥
  no_front (Ok other) found_as is good text defined =
      let same : other ≡ found_as = cc is in
      no_body_refusal (operation_short found_as (λ e. defined.0 (same ∙ e)) good) defined.1.0 defined.1.1
  no_front (Err q) found_as is good text defined = absurd (cc is)

-- ---- the law

module _ (tells : Bool) (accepts : Accepts) (h : List (Stamped StoreEvent)) (blobs : List Blob) (g : List Insertion)
    (r : Request) (valid : IsValid r) (kept : ℕ) (turns : List ℕ) (added : List (Stamped StoreEvent)) (text : List ℕ)
    (calm : IsCalm h turns) where
  abbrev Served : Outcome → Type 0
  Served outcome = IsServed tells accepts blobs g r outcome text

  whole_served : (outcome : Outcome) → HasCauseIn turns h outcome
      → IsReply tells accepts h blobs g (Whole r) kept turns added outcome text → Served outcome
  whole_served outcome cause (inl u) =
      inr (u.3, inl (u.0.boundary, u.0.parts, u.0.bounds, u.1, u.4))
  whole_served Defined cause (inr a) = inr (refl, inr (a.2.0, a.2.1, a.2.2))
  whole_served Memory cause (inr a) = absurd a.2.2
  whole_served Disk cause (inr a) = absurd (calm_disk h turns calm cause)
  whole_served (Full n pack) cause (inr a) = absurd a.2.2
  whole_served (Damaged want is) cause (inr a) = absurd (calm_damaged h turns calm want is cause)

  module _ (b : Begun) (after : Option (List ℕ)) (rest : List ℕ) (of : IsOf r rest (Front b after)) where
    first_is : first_of b.head b.says ≡ Ok valid.route
    first_is = subst (λ (z : List ℕ). first_of z b.says ≡ Ok valid.route) (sym of.1)
        (subst (λ (z : Head). first_of r.head z ≡ Ok valid.route) (sym of.2) valid.first)

    left : Left r b rest of.3.0
    left = left_of r b rest of.3.0 valid of.0 of.2 of.3.2

    bounds_is : (boundary : List ℕ) → boundary_at b.head b.says ≡ Some boundary
        → boundary_at r.head r.says ≡ Some boundary
    bounds_is boundary is = subst (λ (z : Head). boundary_at r.head z ≡ Some boundary) of.2
        (subst (λ (z : List ℕ). boundary_at z b.says ≡ Some boundary) of.1 is)

    upload_good : ◌≡◌ {A = Result Route Operation} (Ok valid.route) (Ok route.Upload) → HasGoodBody r route.Upload
    upload_good is = let same : valid.route ≡ route.Upload = cc is in subst (HasGoodBody r) same valid.body

    no_upload_refusal : (u : Kept b.head b.says blobs kept) (wire : WireView) → wire.body ≡ b.at → (why : Refusal)
        → Refuses u.boundary b.given u.parts wire after why → ⊥
    no_upload_refusal u wire at why refuses =
        let good = upload_good (sym first_is ∙ u.upload) in
        let same : good.0 ≡ u.boundary = cc (sym good.1 ∙ bounds_is u.boundary u.bounds) in
        let whole : IsGoodUpload u.boundary (b.given ++ left.more) =
        subst (λ (z : List ℕ). IsGoodUpload u.boundary z) left.body
        (subst (λ (z : List ℕ). IsGoodUpload z r.body) same good.2) in
        let few = good.2.short in
        let shorter = given_short r b rest of.3.0 after left of.3.1 in
        no_refusal u.boundary b.given left.more (sound_body u.boundary (b.given ++ left.more) whole) u.parts wire after
        (λ done. done_none b.at left.framed left.more left.rest_of (sym at ∙ done)) (omega (arith, few, shorter))
        (λ breaks. unbroken r b rest of.3.0 after left of.3.1
        (subst (λ (z : Body). IfSome after (IsMalformed z)) at breaks)) why refuses

    upload_served : (u : Kept b.head b.says blobs kept) (c : UploadEnd) (wire : WireView) → wire.body ≡ b.at
        → UploadOutcome u.boundary b.given u.parts wire after c → (outcome : Outcome) → HasCauseIn turns h outcome
        → IsUploadReply u.parts c outcome text → Served outcome
    upload_served u (upload_end.Refused why) wire at comes Defined cause reply =
        absurd (no_upload_refusal u wire at why comes)
    upload_served u upload_end.Whole wire at comes Defined cause reply = absurd reply
    upload_served u (upload_end.Full n pack) wire at comes Defined cause reply = absurd reply
    upload_served u upload_end.Disk wire at comes Defined cause reply = absurd reply
    upload_served u upload_end.Memory wire at comes Defined cause reply = absurd reply
    upload_served u (upload_end.Ended end) wire at comes Defined cause reply = absurd reply
    upload_served u c wire at comes Memory cause reply = inl (refl, reply)
    upload_served u c wire at comes Disk cause reply = absurd (calm_disk h turns calm cause)
    upload_served u c wire at comes (Full n pack) cause reply = absurd (calm_full h turns calm n pack cause)
    upload_served u c wire at comes (Damaged want is) cause reply = absurd reply

    front_served : (outcome : Outcome) → HasCauseIn turns h outcome
        → IsReply tells accepts h blobs g (Front b after) kept turns added outcome text → Served outcome
    front_served outcome cause (inl f) =
        upload_served f.0 f.1.0 f.1.1 f.1.2 f.1.3 outcome cause f.1.5
    front_served Defined cause (inr a) = absurd (no_front r b rest of.3.0 after left of.3.1 (first_of b.head b.says)
        valid.route first_is valid.body text a.2)
    front_served Memory cause (inr a) = inl (refl, a.2)
    front_served Disk cause (inr a) = absurd a.2
    front_served (Full n pack) cause (inr a) = absurd a.2
    front_served (Damaged want is) cause (inr a) = absurd a.2

  served : (asked : Asked) (rest : List ℕ) → IsOf r rest asked → (outcome : Outcome) → HasCauseIn turns h outcome
      → IsReply tells accepts h blobs g asked kept turns added outcome text → Served outcome
  served (Whole s) rest of outcome cause reply = whole_served outcome cause
      (subst (λ (z : Request). IsReply tells accepts h blobs g (Whole z) kept turns added outcome text) of reply)
  served (Front b after) rest of outcome cause reply = front_served b after rest of outcome cause reply
  served (NoHead end) rest of outcome cause reply = absurd of

pub valid_is_served : ValidIsServed
valid_is_served tells accepts h g a r rest holds valid of calm =
    served tells accepts h (take a.entry.store_count (arrivals h)) (take a.entry.index_count g) r valid a.entry.kept
    a.turns a.added a.text calm a.asked rest of a.entry.outcome holds.cause holds.replied
