-- Pieces of a body, one after the other.
use Rattle.std.proofs.Common.{◌≡◌, ◌≢◌, ◌+◌, ◌-◌, ◌<◌, ◌≤◌, ℕ, Bool, false, ltb, List, [], ◌++◌, length, take, drop}
use Rattle.std.proofs.Common.{min, refl, sym, ap, subst, ◌∙◌, arith, append_assoc, length-append, Option, Result, Ok}
use Rattle.std.proofs.Common.{Err}
use Rattle.std.proofs.lemmas.List.{append-nil, take-append-drop, take_all, length-take, length-drop, nil_from_length}
use Rattle.std.proofs.lemmas.Bool.{false≢true, lt-ltb}
use Rattle.multipart_read.specs.declared.events.PartFault.{PartFault}
use Rattle.multipart_read.specs.declared.events.PartFault.TheVariants.{BadBoundary, Bad, TooLong, NoMemory}
use Rattle.multipart_read.specs.declared.steps.Stage.TheVariants as stages
use Rattle.multipart_read.specs.Tokens.{Token}
use Rattle.multipart_read.specs.Body.{Rest, Waits, Passable}
use Rattle.multipart_read.specs.Reader.{Reader, fresh, Gives, Tells, IsBody, AreLast}
use Rattle.multipart_read.specs.PartLists.{Part, cut_tokens}
use Rattle.multipart_read.proofs.Unique.{pieces_join}
use Rattle.multipart_read.proofs.PartLaws.{told_in_order}
use Rattle.home_places.specs.Passes.{Sight}
use Rattle.answer_text.specs.declared.refusal.Refusal.TheVariants as refusal
use Rattle.blob_upload.specs.declared.upload_end.UploadEnd.{UploadEnd}
use Rattle.blob_upload.specs.declared.upload_end.UploadEnd.TheVariants.{Refused, Memory}
use Rattle.blob_upload.specs.declared.opened.Opened.{Opened}
use Rattle.multipart_read.specs.Limits.{most_bytes}
use Rattle.blob_upload.specs.Faults.{end_of_part}
use Rattle.blob_upload.specs.Ends.{StopsAt, Told, IsFed, IsSound, Faulty, StopsIn}
use Rattle.blob_upload.specs.Taking.{cut_of, After, IsInOrder, Takes, Going, Halted, Feeds, SoundAtLast}

-- ---- nothing that follows a stop changes it

told_longer : (boundary given more : List ℕ) (parts : List Part) (after : List Token) → Told boundary given parts after
    → Told boundary (given ++ more) parts after
told_longer boundary given more parts after t = record {
  fed = t.fed;
  rest = t.rest ++ more;
  whole = ap (λ l. l ++ more) t.whole ∙ append_assoc t.fed t.rest more;
  short = t.short;
  reader = t.reader;
  tells = t.tells;
}

faulty_longer : (boundary given more : List ℕ) (parts : List Part) (fault : PartFault)
    → Faulty boundary given parts fault
    → Faulty boundary (given ++ more) parts fault
faulty_longer boundary given more parts fault f = record {
  fed = f.fed;
  rest = f.rest ++ more;
  whole = ap (λ l. l ++ more) f.whole ∙ append_assoc f.fed f.rest more;
  short = f.short;
  cut = f.cut;
  is_named = f.is_named;
  tells = f.tells;
}

stops_further : (boundary given more : List ℕ) (parts : List Part) (end : UploadEnd) (v w : Sight)
    → StopsIn boundary given parts end v w → StopsIn boundary (given ++ more) parts end v w
stops_further boundary given more parts end v w (StopsIn.AtToken after told stops) =
    StopsIn.AtToken after (told_longer boundary given more parts after told) stops
stops_further boundary given more parts end v w (StopsIn.AtFault fault faulty ends same) =
    StopsIn.AtFault fault (faulty_longer boundary given more parts fault faulty) ends same
stops_further boundary given more parts end v w (StopsIn.AtLimit front rest whole full some reads ends same) =
    StopsIn.AtLimit front (rest ++ more) (ap (λ l. l ++ more) whole ∙ append_assoc front rest more) full
    (omega (arith, length-append rest more, some)) reads ends same

pub halted_longer : (boundary : List ℕ) (first : List (List ℕ × ℕ)) (u : Sight) (given more : List ℕ) (end : UploadEnd)
    (kept : List (List ℕ × ℕ)) (w : Sight) → Halted boundary first u given end kept w
    → Halted boundary first u (given ++ more) end kept w
halted_longer boundary first u given more end kept w h = record {
  parts = h.parts;
  middle = h.middle;
  keeps = h.keeps;
  stops = stops_further boundary given more h.parts end h.middle w h.stops;
}

-- ---- one piece

-- a body has ended where its reader has refused it
refused_ends : (reader : Reader) (fault : PartFault) (more : List ℕ) → reader.stage ≡ stages.Refused fault
    → Gives reader more [] (Err fault)
refused_ends reader fault more is =
    subst (λ stage. Rest reader.start (reader.fed + length more) stage (reader.held ++ more) [] (Err fault)) (sym is)
    (refl, refl)

-- one more piece was fed
fed_more : (boundary given piece : List ℕ) (r s : Reader) → IsFed boundary given r → s.start ≡ r.start
    → s.fed ≡ r.fed + length piece → AreLast (r.held ++ piece) s.held → IsFed boundary (given ++ piece) s
fed_more boundary given piece r s before start fed last =
    let first = (fresh boundary).held in
    record {
      start = start ∙ before.start;
      fed = let all = before.fed in omega (arith, fed, all, length-append given piece);
      last = record {
        passed = before.last.passed ++ last.passed;
        whole = sym (append_assoc first given piece) ∙ ap (λ bytes. bytes ++ piece) before.last.whole
            ∙ append_assoc before.last.passed r.held piece ∙ ap (λ bytes. before.last.passed ++ bytes) last.whole
            ∙ sym (append_assoc before.last.passed last.passed s.held);
      };
    }

module _ (piece : List ℕ) (r s : Reader) (o p : Option Opened) (k l : List (List ℕ × ℕ)) (v w : Sight) where
  -- the tokens told so far, and those of the piece
  abbrev joined : (boundary given : List ℕ) (tokens these : List Token) → Tells (fresh boundary) given tokens r
      → Tells r piece these s
      → Tells (fresh boundary) (given ++ piece) (tokens ++ these) s
  joined boundary given tokens these before now =
      pieces_join (fresh boundary) r s given piece tokens these before now

  in_order : (boundary given : List ℕ) (tokens : List Token) → Tells (fresh boundary) given tokens s
      → IsInOrder (tokens ++ [])
  in_order boundary given tokens tells =
      subst IsInOrder (sym (append-nil tokens)) (told_in_order boundary given tokens s tells)

  -- what it told was taken
  pub feed_takes : (these taken : List Token) (more : Bool) → taken ≡ these → Tells r piece these s
      → s.start ≡ r.start → s.fed ≡ r.fed + length piece → AreLast (r.held ++ piece) s.held
      → Takes taken o p k l v w (Ok tt) → SoundAtLast more s → Feeds SoundAtLast piece r s o p k l v w (Ok more)
  feed_takes these taken more same tells start fed last take sound boundary first u given short going =
      let takes : Takes these o p k l v w (Ok tt) = subst (λ ts. Takes ts o p k l v w (Ok tt)) same take in
      let all = joined boundary given going.tokens these going.tells tells in
      let order : IsInOrder (going.tokens ++ (these ++ [])) =
      subst IsInOrder (append_assoc going.tokens these [])
      (in_order boundary (given ++ piece) (going.tokens ++ these) all) in (
        record {
          tokens = going.tokens ++ these;
          tells = all;
          is_fed = fed_more boundary given piece r s going.is_fed start fed last;
          took = takes first u going.tokens [] order going.took;
        },
        sound,
      )

  -- the upload ended at it
  pub feed_stops : (these taken : List Token) (end : UploadEnd) → taken ≡ these → Tells r piece these s
      → Takes taken o p k l v w (Err end) → Feeds SoundAtLast piece r s o p k l v w (Err end)
  feed_stops these taken end same tells take boundary first u given short going =
      let takes : Takes these o p k l v w (Err end) = subst (λ ts. Takes ts o p k l v w (Err end)) same take in
      let all = joined boundary given going.tokens these going.tells tells in
      let order : IsInOrder (going.tokens ++ (these ++ [])) =
      subst IsInOrder (append_assoc going.tokens these [])
      (in_order boundary (given ++ piece) (going.tokens ++ these) all) in
      let stopped = takes first u going.tokens [] order going.took in
      record {
        parts = stopped.parts;
        middle = stopped.middle;
        keeps = stopped.keeps;
        stops = StopsIn.AtToken stopped.after (record {
          fed = given ++ piece;
          rest = [];
          whole = sym (append-nil (given ++ piece));
          short = short;
          reader = s;
          tells = subst (λ ts. Tells (fresh boundary) (given ++ piece) ts s) stopped.told all;
        }) stopped.stops;
      }

-- no fault waits behind what told nothing
pub sound_at_last : (s : Reader) (count n : ℕ) → count ≡ n → Waits s.start s.stage s.held → Passable s.stage
    → ((fault : PartFault) → s.stage ≡ stages.Refused fault → 0 < n) → SoundAtLast (ltb 0 count) s
sound_at_last s count n is waits passable some none = (
  waits,
  λ fault refused. false≢true (sym none ∙ lt-ltb 0 count (omega (arith, some fault refused, is))),
  passable,
)

-- the piece has a fault
module _ (piece : List ℕ) (r s : Reader) (o : Option Opened) (k : List (List ℕ × ℕ)) (v : Sight) where
  no_memory : Feeds SoundAtLast piece r s o o k k v v (Err Memory)
  no_memory boundary first u given short going = record {
    parts = going.took.parts;
    middle = v;
    keeps = going.took.keeps;
    stops = StopsIn.AtToken (cut_tokens (cut_of o)) (record {
      fed = given;
      rest = piece;
      whole = refl;
      short = omega (arith, short, length-append given piece);
      reader = r;
      tells = subst (λ ts. Tells (fresh boundary) given ts r) going.took.told going.tells;
    }) (StopsAt.ForMemory refl refl);
  }

  faulty : (fault : PartFault) → Tells r piece [] s → s.stage ≡ stages.Refused fault
      → Feeds SoundAtLast piece r s o o k k v v (Err (end_of_part fault))
  faulty fault tells is boundary first u given short going =
      let all : Tells (fresh boundary) (given ++ piece) (going.tokens ++ []) s =
      pieces_join (fresh boundary) r s given piece going.tokens [] going.tells tells in
      record {
        parts = going.took.parts;
        middle = v;
        keeps = going.took.keeps;
        stops = StopsIn.AtFault fault (record {
          fed = given ++ piece;
          rest = [];
          whole = sym (append-nil (given ++ piece));
          short = short;
          cut = cut_of o;
          is_named = going.took.is_named;
          tells = λ more. subst (λ ts. IsBody boundary ((given ++ piece) ++ more) ts (Err fault))
              (append-nil (going.tokens ++ []) ∙ append-nil going.tokens ∙ going.took.told)
              (all more [] (Err fault) (refused_ends s fault more is));
        }) refl refl;
      }

  pub feed_refuses : (fault : PartFault) → (fault ≢ NoMemory → Tells r piece [] s) → s.stage ≡ stages.Refused fault
      → Feeds SoundAtLast piece r s o o k k v v (Err (end_of_part fault))
  feed_refuses BadBoundary tells is = faulty BadBoundary (tells (λ e. absurd cc)) is
  feed_refuses (Bad at) tells is = faulty (Bad at) (tells (λ e. absurd cc)) is
  feed_refuses (TooLong limit) tells is = faulty (TooLong limit) (tells (λ e. absurd cc)) is
  feed_refuses NoMemory tells is = no_memory

-- ---- pieces one after the other

-- nothing is left behind the whole
pub none_left : (xs : List ℕ) → take (length xs - length xs) (drop (length xs) xs) ≡ []
none_left xs = nil_from_length (take (length xs - length xs) (drop (length xs) xs))
    (omega (arith, length-take (length xs - length xs) (drop (length xs) xs)))

pub feeds_none : (r : Reader) (o : Option Opened) (k : List (List ℕ × ℕ)) (v : Sight)
    → Feeds (λ (done : Unit {0}) s. Unit {0}) [] r r o o k k v v (Ok tt)
feeds_none r o k v boundary first u given short going =
    (subst (λ l. Going boundary first u l r o k v) (sym (append-nil given)) going, tt)

pub feeds_more : {S T : Type 0} (holds : S → Reader → Type 0) (then : T → Reader → Type 0) (xs ys : List ℕ)
    (r s t : Reader)
    (o p q : Option Opened) (k l m : List (List ℕ × ℕ)) (u v w : Sight) (done : S) (result : Result T UploadEnd)
    → Feeds holds xs r s o p k l u v (Ok done) → Feeds then ys s t p q l m v w result
    → Feeds then (xs ++ ys) r t o q k m u w result
feeds_more holds then xs ys r s t o p q k l m u v w done result f g boundary first start given short going =
    let same : (given ++ xs) ++ ys ≡ given ++ (xs ++ ys) = append_assoc given xs ys in
    let front : length (given ++ xs) ≤ most_bytes =
    omega (arith, short, ap length (sym same), length-append (given ++ xs) ys) in
    let mid = f boundary first start given front going in
    subst (λ given. After result (λ done. Going boundary first start given t q m w × then done t)
    (λ end. Halted boundary first start given end m w)) same
    (g boundary first start (given ++ xs) (subst (λ l. length l ≤ most_bytes) (sym same) short) (mid.0))

pub feeds_on : (xs : List ℕ) (r s : Reader) (o p : Option Opened) (k l : List (List ℕ × ℕ)) (v w : Sight) (more : Bool)
    → Feeds SoundAtLast xs r s o p k l v w (Ok more)
    → Feeds (λ (done : Unit {0}) s. Unit {0}) xs r s o p k l v w (Ok tt)
feeds_on xs r s o p k l v w more f boundary first u given short going = ((f boundary first u given short going).0, tt)

pub feeds_last : (xs : List ℕ) (r s : Reader) (o p : Option Opened) (k l : List (List ℕ × ℕ)) (v w : Sight)
    → Feeds SoundAtLast xs r s o p k l v w (Ok false) → Feeds (λ (done : Unit {0}). IsSound) xs r s o p k l v w (Ok tt)
feeds_last xs r s o p k l v w f boundary first u given short going =
    let all = f boundary first u given short going in (all.0, all.1 refl)

-- ---- a piece of any length

module _ (piece : List ℕ) (n taken : ℕ) (within : n ≡ min (length piece) (most_bytes - taken))
    (few : taken ≤ most_bytes) where
  front_short : (given : List ℕ) → length given ≡ taken → length (given ++ take n piece) ≤ most_bytes
  front_short given count = omega (arith, length-append given (take n piece), length-take n piece, within, few, count)

  module _ (r s : Reader) (o p : Option Opened) (k l : List (List ℕ × ℕ)) (v w : Sight) where
    -- what is said of a whole piece
    abbrev says : Result (Unit {0}) UploadEnd → Type 0
    says result = (boundary : List ℕ) (first : List (List ℕ × ℕ)) (u : Sight) (given : List ℕ) → length given ≡ taken
        → Going boundary first u given r o k v
        → After result (λ done. Going boundary first u (given ++ piece) s p l w × IsSound s)
        (λ end. Halted boundary first u (given ++ piece) end l w)

    pub piece_whole : length piece ≤ n → Feeds (λ (done : Unit {0}). IsSound) (take n piece) r s o p k l v w (Ok tt)
        → says (Ok tt)
    piece_whole all f boundary first u given count going =
        subst (λ l'. Going boundary first u (given ++ l') s p l w × IsSound s) (take_all n piece all)
        (f boundary first u given (front_short given count) going)

    pub piece_stops : (end : UploadEnd) → Feeds (λ (done : Unit {0}). IsSound) (take n piece) r s o p k l v w (Err end)
        → says (Err end)
    piece_stops end f boundary first u given count going =
        subst (λ l'. Halted boundary first u l' end l w)
        (append_assoc given (take n piece) (drop n piece) ∙ ap (λ l'. given ++ l') (take-append-drop n piece))
        (halted_longer boundary first u (given ++ take n piece) (drop n piece) end l w
        (f boundary first u given (front_short given count) going))

    pub piece_long : n < length piece → Feeds (λ (done : Unit {0}). IsSound) (take n piece) r s o p k l v w (Ok tt)
        → says (Err (Refused (refusal.TooLong most_bytes)))
    piece_long part f boundary first u given count going =
        let front : List ℕ = given ++ take n piece in
        let short : length front ≤ most_bytes = front_short given count in
        let after = f boundary first u given short going in
        record {
          parts = after.0.took.parts;
          middle = w;
          keeps = after.0.took.keeps;
          stops = StopsIn.AtLimit front (drop n piece)
              (sym (append_assoc given (take n piece) (drop n piece)
              ∙ ap (λ l'. given ++ l') (take-append-drop n piece)))
              (omega (arith, length-append given (take n piece), length-take n piece, within, part, count))
              (omega (arith, length-drop n piece, part))
              (record {
                short = short;
                cut = cut_of p;
                is_named = after.0.took.is_named;
                reader = s;
                tells = subst (λ ts. Tells (fresh boundary) front ts s) after.0.took.told after.0.tells;
                is_fed = after.0.is_fed;
                sound = after.1;
              }) refl refl;
        }
