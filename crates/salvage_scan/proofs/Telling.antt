-- A turn of a scan, whatever follows the bytes that are there.
use Rattle.std.proofs.Common.{◌≡◌, ◌≢◌, ℕ, ◌+◌, ◌≤◌, ◌<◌, Bool, true, false, List, [], ◌∷◌, ◌++◌, length, map, drop, Option, Some, None, refl, sym, ◌∙◌, ap, subst, arith, length-drop, append_assoc}
use Rattle.std.proofs.lemmas.List.{append-nil, drop-drop, drop_all, drop-append-le, map-append}
use Rattle.pack_format.specs.Reading.{header_at}
use Rattle.salvage_scan.specs.Salvage.{Front, Kept, Passed, Junk, front, width, found, is_junk, salvage_past, broken_past}
use Rattle.salvage_scan.specs.declared.found.Clean.{Clean}
use Rattle.salvage_scan.specs.declared.found.Clean.TheVariants as clean
use Rattle.salvage_scan.specs.declared.found.Found.{Found}
use Rattle.salvage_scan.specs.declared.scanning.FrontAt.{FrontAt}
use Rattle.salvage_scan.specs.declared.scanning.FrontAt.TheVariants as shows
use Rattle.salvage_scan.specs.Scan.{place_of, joined, shown}
use Rattle.salvage_scan.specs.Pieces.{is_open, wanted, seen, MayFollow, Waits, ScanRun}
use Rattle.salvage_scan.proofs.Fronts.{width-front}
use Rattle.salvage_scan.proofs.Cuts.{salvage_past-front, broken_past-front, nothing-found, nothing-broken}
use Rattle.salvage_scan.proofs.Open.{IsSettled, front_settles, nothing-open}

pub width-within : (x : List ℕ) → x ≢ [] → (0 < width (front x)) × (width (front x) ≤ length x)
width-within [] is = absurd (is refl)
width-within (b ∷ x) is = go (front (b ∷ x)) (width-front (b ∷ x))
  where
    go : (f : Front) → (is_junk f ≡ false → (0 < width f) × (width f ≤ length (b ∷ x))) → (0 < width f) × (width f ≤ length (b ∷ x))
    go (Kept r start bytes) h = h refl
    go (Passed len) h = h refl
    go Junk h = (omega arith, omega arith)

broken_past-junk : (p : ℕ) (x : List ℕ) → x ≢ [] → is_junk (front x) ≡ true → broken_past p 0 x ≡ Some p
unfolding broken_past
broken_past-junk p [] is junk = absurd (is refl)
broken_past-junk p (b ∷ x) is junk = rw junk refl

-- what one turn does at a place of bytes that stand at a place
pub record Turn (last : Bool) (place : ℕ) (x : List ℕ) (at : ℕ) (f : Front) : Type 0 where
  pub moves : 0 < width f
  pub within : at + width f ≤ length x
  pub finds : (more : List ℕ) → MayFollow last more → salvage_past (place + at) 0 (drop at x ++ more) ≡ found (place + at) f ++ salvage_past (place + (at + width f)) 0 (drop (at + width f) x ++ more)
  pub clean : (more : List ℕ) → MayFollow last more → is_junk f ≡ false → broken_past (place + at) 0 (drop at x ++ more) ≡ broken_past (place + (at + width f)) 0 (drop (at + width f) x ++ more)
  pub junk : (more : List ℕ) → MayFollow last more → is_junk f ≡ true → broken_past (place + at) 0 (drop at x ++ more) ≡ Some (place + at)

rest_some : (x : List ℕ) (at : ℕ) → at < length x → drop at x ≢ []
rest_some x at lt e = absurd (omega (arith, length-drop at x, ap length e))

more_some : (y more : List ℕ) → y ≢ [] → y ++ more ≢ []
more_some [] more some = absurd (some refl)
more_some (b ∷ y) more some = λ e. cc e

pub turn : (last : Bool) (place : ℕ) (x : List ℕ) (at : ℕ) → at < length x → IsSettled last (drop at x) → Turn last place x at (front (drop at x))
turn last place x at lt settled =
    let y : List ℕ = drop at x in
    let f : Front = front y in
    let some = rest_some x at lt in
    let w = width-within y some in
    let onward : place + at + width f ≡ place + (at + width f) = omega arith in
    let rest : (more : List ℕ) → drop (width f) (y ++ more) ≡ drop (at + width f) x ++ more = λ more. drop-append-le (width f) y more w.1 ∙ ap (λ l. l ++ more) (drop-drop (width f) at x) in
    let same : (more : List ℕ) → MayFollow last more → front (y ++ more) ≡ f = λ more may. front_settles last y more settled may in
    record {
      moves = w.0;
      within = omega (arith, w.1, length-drop at x);
      finds = λ more may.
          let is = same more may in
          salvage_past-front (place + at) (y ++ more) (more_some y more some) (subst (λ g. 0 < width g) (sym is) w.0)
          ∙ ap (λ g. found (place + at) g ++ salvage_past (place + at + width g) 0 (drop (width g) (y ++ more))) is
          ∙ (λ i. found (place + at) f ++ salvage_past (onward i) 0 (rest more i));
      clean = λ more may kept.
          let is = same more may in
          broken_past-front (place + at) (y ++ more) (more_some y more some) (ap is_junk is ∙ kept)
          ∙ ap (λ g. broken_past (place + at + width g) 0 (drop (width g) (y ++ more))) is
          ∙ (λ i. broken_past (onward i) 0 (rest more i));
      junk = λ more may junk.
          broken_past-junk (place + at) (y ++ more) (more_some y more some) (ap is_junk (same more may) ∙ junk);
    }

-- ---- what was told so far, and one front more

joined-any : (c : Clean) (later o : Option ℕ) (at : ℕ) → o ≡ Some at → joined (joined c (Some at)) later ≡ joined c o
joined-any clean.Yes later o at e = ap (joined clean.Yes) (sym e)
joined-any (clean.No p) later o at e = refl

pub ScanRun-start : (last : Bool) (place : ℕ) (c : Clean) (x : List ℕ) → ScanRun last place c x [] (place + 0) c (drop 0 x)
ScanRun-start last place c x =
    let e : place ≡ place + 0 = omega arith in
    record {
      found = [];
      shown = refl;
      finds = λ more may. ap (λ p. salvage_past p 0 (x ++ more)) e;
      breaks = λ more may. ap (λ p. joined c (broken_past p 0 (x ++ more))) e;
    }

-- the clean fronts
passes : (last : Bool) (place : ℕ) (c d : Clean) (x : List ℕ) (at : ℕ) (told now : List Found) (f : Front) → ScanRun last place c x told (place + at) d (drop at x)
    → Turn last place x at f → is_junk f ≡ false → now ≡ told ++ map place_of (found (place + at) f)
    → ScanRun last place c x now (place + (at + width f)) d (drop (at + width f) x)
passes last place c d x at told now f leads t kept now_is = record {
  found = leads.found ++ found (place + at) f;
  shown = now_is ∙ ap (λ l. l ++ map place_of (found (place + at) f)) leads.shown ∙ sym (map-append place_of leads.found (found (place + at) f));
  finds = λ more may. leads.finds more may ∙ ap (λ l. leads.found ++ l) (t.finds more may) ∙ sym (append_assoc leads.found (found (place + at) f) _);
  breaks = λ more may. leads.breaks more may ∙ ap (joined d) (t.clean more may kept);
}

junks : (last : Bool) (place : ℕ) (c d e : Clean) (x : List ℕ) (at : ℕ) (told : List Found) (f : Front) → ScanRun last place c x told (place + at) d (drop at x)
    → Turn last place x at f → is_junk f ≡ true → found (place + at) f ≡ [] → e ≡ joined d (Some (place + at))
    → ScanRun last place c x told (place + (at + width f)) e (drop (at + width f) x)
junks last place c d e x at told f leads t junk none e_is = record {
  found = leads.found;
  shown = leads.shown;
  finds = λ more may. leads.finds more may ∙ ap (λ l. leads.found ++ l) (t.finds more may ∙ ap (λ l. l ++ salvage_past (place + (at + width f)) 0 (drop (at + width f) x ++ more)) none);
  breaks = λ more may.
      leads.breaks more may ∙ sym (joined-any d (broken_past (place + (at + width f)) 0 (drop (at + width f) x ++ more)) (broken_past (place + at) 0 (drop at x ++ more)) (place + at) (t.junk more may junk))
      ∙ ap (λ k. joined k (broken_past (place + (at + width f)) 0 (drop (at + width f) x ++ more))) (sym e_is);
}

-- ---- by what the code shows of the front

-- it shows a front that is settled, or that it is open
pub record IsSeen (last : Bool) (x : List ℕ) (s : FrontAt) : Type 0 where
  pub waits : (wants : ℕ) → s ≡ shows.Open wants → (last ≡ false) × (is_open x ≡ true)
  pub settled : ((wants : ℕ) → s ≢ shows.Open wants) → IsSettled last x × (s ≡ shown (front x))

shown_closed : (f : Front) (wants : ℕ) → shown f ≢ shows.Open wants
shown_closed (Kept r start bytes) wants e = cc e
shown_closed (Passed len) wants e = cc e
shown_closed Junk wants e = cc e

seen_by : (b : Bool) (x : List ℕ) (s : FrontAt) → is_open x ≡ b → s ≡ seen false x → IsSeen false x s
seen_by true x s waiting is =
    let here : s ≡ shows.Open (wanted (header_at x)) = rw waiting at is in
    record { waits = λ wants e. (refl, waiting); settled = λ closed. absurd (closed _ here) }
seen_by false x s closed is =
    let here : s ≡ shown (front x) = rw closed at is in
    record { waits = λ wants e. absurd (shown_closed (front x) wants (sym here ∙ e)); settled = λ no. (closed, here) }

pub is_seen : (last : Bool) (x : List ℕ) (s : FrontAt) → s ≡ seen last x → IsSeen last x s
is_seen true x s is = record { waits = λ wants e. absurd (shown_closed (front x) wants (sym is ∙ e)); settled = λ no. (tt, is) }
is_seen false x s is = seen_by (is_open x) x s refl is

-- a turn takes so many bytes, and tells this behind what was told
pub record Step (last : Bool) (place : ℕ) (x : List ℕ) (at n : ℕ) (here : List Found) (goes : Clean → Clean) : Type 0 where
  pub moves : 0 < n
  pub within : at + n ≤ length x
  pub leads : (c d : Clean) (told : List Found) → ScanRun last place c x told (place + at) d (drop at x)
      → ScanRun last place c x (told ++ here) (place + (at + n)) (goes d) (drop (at + n) x)

-- where it tells nothing
pub tells_nothing : (last : Bool) (place : ℕ) (x : List ℕ) (at n : ℕ) (goes : Clean → Clean) (c d : Clean) (told : List Found) → Step last place x at n [] goes
    → ScanRun last place c x told (place + at) d (drop at x) → ScanRun last place c x told (place + (at + n)) (goes d) (drop (at + n) x)
tells_nothing last place x at n goes c d told step leads =
    subst (λ l. ScanRun last place c x l (place + (at + n)) (goes d) (drop (at + n) x)) (append-nil told) (step.leads c d told leads)

kept_by : (last : Bool) (place : ℕ) (x : List ℕ) (at : ℕ) (r : List ℕ) (start size : ℕ) (f : Front) → shows.Kept r start size ≡ shown f → Turn last place x at f
    → Step last place x at (start + size) ((let p : Found = record { r = r; at = place + (at + start); size = size } in p) ∷ []) (λ d. d)
kept_by last place x at r start size (Kept q begin bytes) is t =
    let a : r ≡ q = cc is in
    let b : start ≡ begin = cc is in
    let n : size ≡ length bytes = cc is in
    let e : place + (at + begin) ≡ place + at + begin = omega arith in
    rw (a, b, n) (record {
      moves = t.moves;
      within = t.within;
      leads = λ c d told leads. passes last place c d x at told _ (Kept q begin bytes) leads t refl (λ i. told ++ (let p : Found = record { r = q; at = e i; size = length bytes } in p) ∷ []);
    })
kept_by last place x at r start size (Passed len) is t = absurd (cc is)
kept_by last place x at r start size Junk is t = absurd (cc is)

passed_by : (last : Bool) (place : ℕ) (x : List ℕ) (at len : ℕ) (f : Front) → shows.Passed len ≡ shown f → Turn last place x at f → Step last place x at len [] (λ d. d)
passed_by last place x at len (Kept q begin bytes) is t = absurd (cc is)
passed_by last place x at len (Passed n) is t =
    let e : len ≡ n = cc is in
    rw e (record { moves = t.moves; within = t.within; leads = λ c d told leads. passes last place c d x at told _ (Passed n) leads t refl refl })
passed_by last place x at len Junk is t = absurd (cc is)

junk_by : (last : Bool) (place : ℕ) (x : List ℕ) (at : ℕ) (f : Front) → shows.Junk ≡ shown f → Turn last place x at f → Step last place x at 1 [] (λ d. joined d (Some (place + at)))
junk_by last place x at (Kept q begin bytes) is t = absurd (cc is)
junk_by last place x at (Passed n) is t = absurd (cc is)
junk_by last place x at Junk is t = record {
  moves = t.moves;
  within = t.within;
  leads = λ c d told leads. subst (λ l. ScanRun last place c x l (place + (at + 1)) (joined d (Some (place + at))) (drop (at + 1) x)) (sym (append-nil told)) (junks last place c d _ x at told Junk leads t refl refl refl);
}

-- what the code sees of the bytes from a place on
settled_here : (last : Bool) (x : List ℕ) (at : ℕ) (s : FrontAt) → s ≡ seen last (drop at x) → ((wants : ℕ) → s ≢ shows.Open wants) → IsSettled last (drop at x) × (s ≡ shown (front (drop at x)))
settled_here last x at s is closed = (is_seen last (drop at x) s is).settled closed

pub kept_step : (last : Bool) (place : ℕ) (x : List ℕ) (at : ℕ) (r : List ℕ) (start size : ℕ) → at < length x → shows.Kept r start size ≡ seen last (drop at x)
    → Step last place x at (start + size) ((let p : Found = record { r = r; at = place + (at + start); size = size } in p) ∷ []) (λ d. d)
kept_step last place x at r start size lt is =
    let here = settled_here last x at (shows.Kept r start size) is (λ wants e. cc e) in
    kept_by last place x at r start size _ here.1 (turn last place x at lt here.0)

pub passed_step : (last : Bool) (place : ℕ) (x : List ℕ) (at len : ℕ) → at < length x → shows.Passed len ≡ seen last (drop at x) → Step last place x at len [] (λ d. d)
passed_step last place x at len lt is =
    let here = settled_here last x at (shows.Passed len) is (λ wants e. cc e) in
    passed_by last place x at len _ here.1 (turn last place x at lt here.0)

pub junk_step : (last : Bool) (place : ℕ) (x : List ℕ) (at : ℕ) → at < length x → shows.Junk ≡ seen last (drop at x) → Step last place x at 1 [] (λ d. joined d (Some (place + at)))
junk_step last place x at lt is =
    let here = settled_here last x at shows.Junk is (λ wants e. cc e) in
    junk_by last place x at _ here.1 (turn last place x at lt here.0)

pub open_waits : (last : Bool) (x : List ℕ) (at wants : ℕ) → shows.Open wants ≡ seen last (drop at x) → Waits last (drop at x)
open_waits true x at wants is = absurd (shown_closed (front (drop at x)) wants (sym is))
open_waits false x at wants is = ((is_seen false (drop at x) (shows.Open wants) is).waits wants refl).1

-- all bytes were used
pub nothing_waits : (last : Bool) (x : List ℕ) (at : ℕ) → length x ≤ at → Waits last (drop at x)
nothing_waits true x at le = drop_all at x le
nothing_waits false x at le = ap is_open (drop_all at x le) ∙ nothing-open

-- what may be left settles nothing
pub waits_open : (last : Bool) (rest : List ℕ) → Waits last rest → is_open rest ≡ true
waits_open true rest none = ap is_open none ∙ nothing-open
waits_open false rest waits = waits

-- ---- the end of a pack

pub told_whole : (place : ℕ) (c d : Clean) (x : List ℕ) (told : List Found) (onward : ℕ) (rest : List ℕ) → ScanRun true place c x told onward d rest → Waits true rest
    → (told ≡ map place_of (salvage_past place 0 x)) × (d ≡ joined c (broken_past place 0 x))
told_whole place c d x told onward rest leads none =
    let gone : rest ++ [] ≡ [] = append-nil rest ∙ none in
    let all : salvage_past place 0 x ≡ leads.found =
    ap (salvage_past place 0) (sym (append-nil x)) ∙ leads.finds [] refl ∙ ap (λ l. leads.found ++ salvage_past onward 0 l) gone ∙ ap (λ l. leads.found ++ l) (nothing-found onward) ∙ append-nil leads.found in
    let last : joined c (broken_past place 0 x) ≡ joined d None =
    ap (λ l. joined c (broken_past place 0 l)) (sym (append-nil x)) ∙ leads.breaks [] refl ∙ ap (λ l. joined d (broken_past onward 0 l)) gone ∙ ap (joined d) (nothing-broken onward) in
    (leads.shown ∙ ap (map place_of) (sym all), sym (last ∙ joined-none d))
  where
    joined-none : (d : Clean) → joined d None ≡ d
    joined-none clean.Yes = refl
    joined-none (clean.No p) = refl
