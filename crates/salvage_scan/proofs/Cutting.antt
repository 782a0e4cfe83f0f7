-- Pieces one after another, and a whole pack.
use Rattle.std.proofs.Common.{◌≡◌, ◌+◌, ◌≤◌, ℕ, suc, true, false, List, [], ◌∷◌, ◌++◌, length, map, drop, Result, Ok, Err, IfOk, OnOk, refl, sym, ◌∙◌, ap, subst, arith, length-append, length-drop, append_assoc}
use Rattle.std.proofs.lemmas.List.{append-nil, map-append, get_or_append_left, drop-append-le, drop-drop}
use Rattle.std.specs.List.{All}
use Rattle.std.proofs.lemmas.List.Elements.{All-map}
use Rattle.blobref.specs.Blobref.{IsOwnRef}
use Rattle.salvage_scan.specs.declared.found.Clean.{Clean}
use Rattle.salvage_scan.specs.declared.found.Clean.TheVariants as clean
use Rattle.salvage_scan.specs.declared.found.Found.{Found}
use Rattle.salvage_scan.specs.Salvage.{Finding, salvage_past, broken_past}
use Rattle.salvage_scan.specs.Scan.{place_of, joined}
use Rattle.salvage_scan.specs.Pieces.{is_open, ScanRun, Waits, Scanning, fresh, fed, still_found, still_clean, Holds, Tells, Ends, LiesNear, Keeps, IsKept, kept_finding, Cuttings}
use Rattle.salvage_scan.proofs.Open.{open-short}
use Rattle.salvage_scan.proofs.Telling.{told_whole}
use Rattle.salvage_scan.proofs.Slices.{LiesAt, lie_past}

-- ---- what a call tells, by what its steps led to

holds_more : (old new : Scanning) (piece : List ℕ) (used : ℕ) → used ≤ length (old.held ++ piece) → new.at ≡ old.at + used → new.held ≡ drop used (old.held ++ piece)
    → (front : List ℕ) → Holds front old → Holds (front ++ piece) new
holds_more old new piece used within at_is held_is front holds =
    let starts : old.at ≤ length front = omega (arith, holds.came) in
    let all : old.held ++ piece ≡ drop old.at (front ++ piece) = ap (λ l. l ++ piece) holds.last ∙ sym (drop-append-le old.at front piece starts) in
    record {
      came = omega (arith, holds.came, at_is, ap length held_is, length-drop used (old.held ++ piece), length-append old.held piece, length-append front piece, within);
      last = held_is ∙ ap (drop used) all ∙ drop-drop used old.at (front ++ piece) ∙ ap (λ n. drop n (front ++ piece)) (sym at_is);
    }

pub tells : (old new : Scanning) (piece : List ℕ) (told : List Found) → ScanRun false old.at old.clean (old.held ++ piece) told new.at new.clean new.held → Keeps old piece new → Tells old piece told new
tells old new piece told leads keeps = record {
  found = leads.found;
  shown = leads.shown;
  finds = λ more. ap (salvage_past old.at 0) (sym (append_assoc old.held piece more)) ∙ leads.finds more tt;
  breaks = λ more. ap (λ l. joined old.clean (broken_past old.at 0 l)) (sym (append_assoc old.held piece more)) ∙ leads.breaks more tt;
  holds = holds_more old new piece keeps.used (omega (arith, keeps.within, ap length keeps.kept_is)) (omega (arith, keeps.at_is, keeps.from_is)) (keeps.held_is ∙ ap (drop keeps.used) keeps.kept_is);
}

pub tells_end : (s : Scanning) (told : List Found) (now : Clean) (onward : ℕ) (rest : List ℕ) → ScanRun true s.at s.clean (s.held ++ []) told onward now rest → Waits true rest → Ends s (told, now)
tells_end s told now onward rest leads none = told_whole s.at s.clean now (s.held ++ []) told onward rest leads none

-- what two clauses say of an answer makes a third
pub stepped : {T E Q : Type 0} (r : Result T E) (P R : T → Type 0) → ((x : T) → P x → Q → R x) → IfOk r P → OnOk r Q → IfOk r R
stepped (Ok x) P R f p q = f x p q
stepped (Err e) P R f p q = tt

-- nothing was told of nothing
pub tells_nothing : (s : Scanning) → Tells s [] [] s
tells_nothing s = record {
  found = [];
  shown = refl;
  finds = λ more. refl;
  breaks = λ more. refl;
  holds = λ front holds. subst (λ l. Holds l s) (sym (append-nil front)) holds;
}

-- ---- how late findings come

in_front : (P : Finding → Type 0) (xs ys : List Finding) → All P (xs ++ ys) → All P xs
in_front P xs ys all k d lt = subst P (get_or_append_left xs ys d k lt) (all k d (omega (arith, length-append xs ys)))

-- what a piece told lies in the bytes that had waited and the piece
pub told_lie : (old new : Scanning) (piece : List ℕ) (told : List Found) (t : Tells old piece told new) → All (LiesAt old.at (old.held ++ piece)) t.found
told_lie old new piece told t =
    let whole : still_found old piece ≡ t.found ++ still_found new [] = ap (still_found old) (sym (append-nil piece)) ∙ t.finds [] in
    in_front (LiesAt old.at (old.held ++ piece)) t.found (still_found new []) (subst (All (LiesAt old.at (old.held ++ piece))) whole (lie_past old.at 0 (old.held ++ piece)))

-- what was told and is kept
kept_one : (s : Scanning) (f : Finding) → LiesAt s.from s.kept f → IsKept s (place_of f)
kept_one s f lies = record {
  lies = record { after = lies.after; within = lies.within };
  named = subst (IsOwnRef f.r) (sym lies.bytes) lies.named;
  small = lies.small;
}

kept_all : (s : Scanning) (place : ℕ) (text : List ℕ) (fs : List Finding) (told : List Found) → s.from ≡ place → s.kept ≡ text → told ≡ map place_of fs → All (LiesAt place text) fs → All (IsKept s) told
kept_all s place text fs told from_is kept_is shown lie =
    let here : All (LiesAt s.from s.kept) fs = subst (λ p. All (LiesAt p s.kept) fs) (sym from_is) (subst (λ l. All (LiesAt place l) fs) (sym kept_is) lie) in
    subst (All (IsKept s)) (sym shown) (All-map (IsKept s) place_of fs (λ k d lt. kept_one s _ (here k d lt)))

pub kept_told : (old new : Scanning) (piece : List ℕ) (told : List Found) → Tells old piece told new → Keeps old piece new → All (IsKept new) told
kept_told old new piece told t keeps = kept_all new old.at (old.held ++ piece) t.found told keeps.from_is keeps.kept_is t.shown (told_lie old new piece told t)

pub kept_end : (old new : Scanning) (told : List Found) → told ≡ map place_of (still_found old []) → Keeps old [] new → All (IsKept new) told
kept_end old new told is keeps = kept_all new old.at (old.held ++ []) (still_found old []) told keeps.from_is keeps.kept_is is (lie_past old.at 0 (old.held ++ []))

-- with their bytes they are the findings
kept_same : (s : Scanning) (fs : List Finding) → All (LiesAt s.from s.kept) fs → map (kept_finding s) (map place_of fs) ≡ fs
kept_same s [] lie = refl
kept_same s (f ∷ fs) lie =
    let here : LiesAt s.from s.kept f = lie 0 f (omega arith) in
    let more : map (kept_finding s) (map place_of fs) ≡ fs = kept_same s fs (λ k d lt. lie (suc k) d (omega (arith, lt))) in
    (λ i. record { r = f.r; at = f.at; bytes = here.bytes i } ∷ more i)

kept_findings : (s : Scanning) (place : ℕ) (text : List ℕ) (fs : List Finding) (told : List Found) → s.from ≡ place → s.kept ≡ text → told ≡ map place_of fs → All (LiesAt place text) fs
    → map (kept_finding s) told ≡ fs
kept_findings s place text fs told from_is kept_is shown lie =
    ap (map (kept_finding s)) shown
    ∙ kept_same s fs (subst (λ p. All (LiesAt p s.kept) fs) (sym from_is) (subst (λ l. All (LiesAt place l) fs) (sym kept_is) lie))

pub findings_told : (old new : Scanning) (piece : List ℕ) (told : List Found) (t : Tells old piece told new) → Keeps old piece new → map (kept_finding new) told ≡ t.found
findings_told old new piece told t keeps = kept_findings new old.at (old.held ++ piece) t.found told keeps.from_is keeps.kept_is t.shown (told_lie old new piece told t)

pub findings_end : (old new : Scanning) (told : List Found) → told ≡ map place_of (still_found old []) → Keeps old [] new → map (kept_finding new) told ≡ still_found old []
findings_end old new told is keeps = kept_findings new old.at (old.held ++ []) (still_found old []) told keeps.from_is keeps.kept_is is (lie_past old.at 0 (old.held ++ []))

-- as many bytes came as the piece has
pub fed_kept : (old new : Scanning) (piece : List ℕ) → Keeps old piece new → fed new ≡ fed old + length piece
fed_kept old new piece keeps =
    omega (arith, keeps.from_is, keeps.at_is, keeps.within, ap length keeps.held_is, length-drop keeps.used new.kept, ap length keeps.kept_is, length-append old.held piece)

near_place : (at : ℕ) (held piece : List ℕ) (f : Finding) → is_open held ≡ true → LiesAt at (held ++ piece) f → LiesNear (at + length held) (at + (length held + length piece)) (place_of f)
near_place at held piece f waiting lies = record {
  late = omega (arith, lies.after, open-short held waiting);
  within = omega (arith, lies.within, length-append held piece);
}

near_all : (at : ℕ) (held piece : List ℕ) (fs : List Finding) (told : List Found) → is_open held ≡ true → told ≡ map place_of fs → All (LiesAt at (held ++ piece)) fs
    → All (LiesNear (at + length held) (at + (length held + length piece))) told
near_all at held piece fs told waiting is lie =
    let P : Found → Type 0 = LiesNear (at + length held) (at + (length held + length piece)) in
    subst (All P) (sym is) (All-map P place_of fs (λ k d lt. near_place at held piece _ waiting (lie k d lt)))

pub near_told : (old new : Scanning) (piece : List ℕ) (told : List Found) → is_open old.held ≡ true → fed new ≡ fed old + length piece → Tells old piece told new
    → All (LiesNear (fed old) (fed new)) told
near_told old new piece told waiting fed_is t =
    let e : old.at + (length old.held + length piece) ≡ fed new = omega (arith, fed_is) in
    subst (λ n. All (LiesNear (fed old) n) told) e (near_all old.at old.held piece t.found told waiting t.shown (told_lie old new piece told t))

pub near_end : (s : Scanning) (told : List Found) → is_open s.held ≡ true → told ≡ map place_of (still_found s []) → All (LiesNear (fed s) (fed s)) told
near_end s told waiting is =
    let e : s.at + (length s.held + length (let l : List ℕ = [] in l)) ≡ fed s = omega arith in
    subst (λ n. All (LiesNear (fed s) n) told) e (near_all s.at s.held [] (still_found s []) told waiting is (lie_past s.at 0 (s.held ++ [])))

-- ---- the laws

join : (a b c : Scanning) (xs ys : List ℕ) (told more : List Found) → Tells a xs told b → Tells b ys more c → Tells a (xs ++ ys) (told ++ more) c
join a b c xs ys told more first then = record {
  found = first.found ++ then.found;
  shown = ap (λ l. l ++ more) first.shown ∙ ap (λ l. map place_of first.found ++ l) then.shown ∙ sym (map-append place_of first.found then.found);
  finds = λ rest.
      ap (still_found a) (append_assoc xs ys rest) ∙ first.finds (ys ++ rest) ∙ ap (λ l. first.found ++ l) (then.finds rest)
      ∙ sym (append_assoc first.found then.found (still_found c rest));
  breaks = λ rest. ap (still_clean a) (append_assoc xs ys rest) ∙ first.breaks (ys ++ rest) ∙ then.breaks rest;
  holds = λ front holds. subst (λ l. Holds l c) (append_assoc front xs ys) (then.holds (front ++ xs) (first.holds front holds));
}

whole : (pack : List ℕ) (told : List Found) (s : Scanning) (last : List Found × Clean) → Tells fresh pack told s → Ends s last
    → (told ++ last.0 ≡ map place_of (salvage_past 0 0 pack)) × (last.1 ≡ joined clean.Yes (broken_past 0 0 pack))
whole pack told s last t e = (
  ap (λ l. l ++ last.0) t.shown ∙ ap (λ l. map place_of t.found ++ l) e.0 ∙ sym (map-append place_of t.found (still_found s []))
      ∙ ap (map place_of) (sym (t.finds [])) ∙ ap (λ l. map place_of (salvage_past 0 0 l)) (append-nil pack),
  e.1 ∙ sym (t.breaks []) ∙ ap (λ l. joined clean.Yes (broken_past 0 0 l)) (append-nil pack),
)

pub cuttings : Cuttings
cuttings = record { join = join; whole = whole }
