-- Packs are told of one after another.
use Rattle.std.proofs.Common.{◌≡◌, ℕ, ◌+◌, Option, None, Some, Result, Ok, Err, OnErr, List, [], ◌∷◌, ◌++◌, unwrap_or, refl, sym, ap, ◌∙◌, append_assoc}
use Rattle.std.proofs.lemmas.Grind.{flat_map-append}
use Rattle.std.proofs.lemmas.List.{append-nil}
use Rattle.std.specs.FinMap.{get}
use Rattle.std.specs.Option.{ForSome}
use Rattle.edge_base.proofs.Moves.{SinkTook-chain}
use Rattle.pack_disk.specs.Packs.{Packs, least_from}
use Rattle.pack_store.specs.Walk.{below, from_on}
use Rattle.pack_store.specs.declared.whole.PackScan.{PackScan}
use Rattle.pack_store.specs.Scan.{IsScan}
use Rattle.pack_store.proofs.Walking.{walk_begins, walk_step, walk_ends}
use Rattle.perkeep_lines.specs.Outputs.{pack_report, report, report_of}
use Rattle.top_frame.proofs.Ending.{took_nothing}
use Rattle.perkeep_top.specs.Salvaged.{IsReport, IsPackReport, IsReportBelow, IsCutAt, Writes, WritesFront}

abbrev Told : Type 0
Told = Option Packs

same_packs : (x y : Packs) → Some x ≡ Some y → x ≡ y
same_packs x y e = cc e

same_bytes : (x y : List ℕ) → Some x ≡ Some y → x ≡ y
same_bytes x y e = cc e

-- ---- one pack

some_report : (n : ℕ) (told : Told) → (text : List ℕ) × IsPackReport n told text
some_report n None = ([], λ held is. absurd (cc is))
some_report n (Some held) = (
  pack_report (n, unwrap_or (get held n) []),
  λ other is pack at.
      ap (λ (o : Option (List ℕ)). pack_report (n, unwrap_or o [])) (ap (λ h. get h n) (same_packs held other is) ∙ at),
)

pub not_begun : {T E : Type 0} (result : Result T E) (n : ℕ) (told : Told) (w : Option (List ℕ)) → OnErr result (WritesFront (IsPackReport n told) w w)
not_begun (Ok done) n told w = tt
not_begun (Err e) n told w = let some = some_report n told in (some.0, some.1, ([], some.0, refl, took_nothing w))

pub pack_told : (n : ℕ) (told : Told) (bytes text : List ℕ) → ForSome told (λ held. get held n ≡ Some bytes) → text ≡ pack_report (n, bytes) → IsPackReport n told text
pack_told n told bytes text there is = λ held tells pack at. is ∙ ap (λ b. pack_report (n, b)) (same_bytes bytes pack (sym (there held tells) ∙ at))

-- the report of a scan
pub scan_told : (n : ℕ) (told : Told) (scan : PackScan) (text : List ℕ) → IsScan told n scan → text ≡ report_of n scan.found scan.clean → IsPackReport n told text
scan_told n told scan text scanned is = pack_told n told scanned.bytes text scanned.there (is ∙ ap (λ (s : PackScan). report_of n s.found s.clean) scanned.is)

-- ---- all of them

pub first_below : (told : Told) (w : Option (List ℕ)) → Writes (IsReportBelow 0 told) w w
first_below told w = ([], (λ held is. ap report (sym (walk_begins held).so_far)), took_nothing w)

pub first_cut : (told : Told) → IsCutAt 0 told
first_cut told = λ held is. sym ((walk_begins held).left) ∙ ap (λ es. es ++ from_on 0 held) (sym (walk_begins held).so_far)

below_more : (told : Told) (next n : ℕ) (text more : List ℕ) → ForSome told (λ held. least_from next held ≡ Some n) → IsReportBelow next told text → IsPackReport n told more → IsReportBelow (n + 1) told (text ++ more)
below_more told next n text more least so_far here = λ held is.
    let step = walk_step next n held (least held is) in
    ap (λ l. l ++ more) (so_far held is)
    ∙ ap (λ l. report (below next held) ++ l) (here held is step.bytes step.found ∙ sym (append-nil (pack_report (n, step.bytes))))
    ∙ sym (flat_map-append pack_report (below next held) ((n, step.bytes) ∷ []))
    ∙ ap report (sym step.so_far)

pub cut_more : (told : Told) (next n : ℕ) → ForSome told (λ held. least_from next held ≡ Some n) → IsCutAt next told → IsCutAt (n + 1) told
cut_more told next n least cut = λ held is.
    let step = walk_step next n held (least held is) in
    cut held is ∙ ap (λ l. below next held ++ l) step.left ∙ sym (append_assoc (below next held) ((n, step.bytes) ∷ []) (from_on (n + 1) held)) ∙ ap (λ l. l ++ from_on (n + 1) held) (sym step.so_far)

pub writes_more : (told : Told) (next n : ℕ) (a b c : Option (List ℕ)) → ForSome told (λ held. least_from next held ≡ Some n) → Writes (IsReportBelow next told) a b → Writes (IsPackReport n told) b c → Writes (IsReportBelow (n + 1) told) a c
writes_more told next n a b c least wrote here = (wrote.0 ++ here.0, below_more told next n wrote.0 here.0 least wrote.1 here.1, SinkTook-chain a b c wrote.0 here.0 wrote.2 here.2)

pub writes_all : (told : Told) (next : ℕ) (a b : Option (List ℕ)) → ForSome told (λ held. least_from next held ≡ None) → Writes (IsReportBelow next told) a b → Writes (IsReport told) a b
writes_all told next a b none wrote = (wrote.0, (λ held is. wrote.1 held is ∙ ap report (walk_ends next held (none held is)).so_far), wrote.2)

-- what is left to tell of
rest_of : (told : Told) (next : ℕ) → (rest : List ℕ) × ForSome told (λ held. rest ≡ report (from_on next held))
rest_of None next = ([], λ held is. absurd (cc is))
rest_of (Some held) next = (report (from_on next held), λ other is. ap (λ h. report (from_on next h)) (same_packs held other is))

whole_of : (told : Told) (next : ℕ) (text rest : List ℕ) → IsReportBelow next told text → ForSome told (λ held. rest ≡ report (from_on next held)) → IsCutAt next told → IsReport told (text ++ rest)
whole_of told next text rest so_far left cut = λ held is.
    ap (λ l. l ++ rest) (so_far held is) ∙ ap (λ l. report (below next held) ++ l) (left held is) ∙ sym (flat_map-append pack_report (below next held) (from_on next held)) ∙ ap report (sym (cut held is))

pub front_so_far : (told : Told) (next : ℕ) (a b : Option (List ℕ)) → Writes (IsReportBelow next told) a b → IsCutAt next told → WritesFront (IsReport told) a b
front_so_far told next a b wrote cut =
    let rest = rest_of told next in
    (wrote.0 ++ rest.0, whole_of told next wrote.0 rest.0 wrote.1 rest.1 cut, (wrote.0, rest.0, refl, wrote.2))

pub front_with : (told : Told) (next n : ℕ) (a b c : Option (List ℕ)) → ForSome told (λ held. least_from next held ≡ Some n) → Writes (IsReportBelow next told) a b → WritesFront (IsPackReport n told) b c → IsCutAt next told
    → WritesFront (IsReport told) a c
front_with told next n a b c least wrote part cut =
    let rest = rest_of told (n + 1) in
    let more = below_more told next n wrote.0 part.0 least wrote.1 part.1 in
    let some = part.2 in (
      (wrote.0 ++ part.0) ++ rest.0,
      whole_of told (n + 1) (wrote.0 ++ part.0) rest.0 more rest.1 (cut_more told next n least cut),
      (
        wrote.0 ++ some.0,
        some.1 ++ rest.0,
        ap (λ l. (wrote.0 ++ l) ++ rest.0) some.2 ∙ ap (λ l. l ++ rest.0) (sym (append_assoc wrote.0 some.0 some.1)) ∙ append_assoc (wrote.0 ++ some.0) some.1 rest.0,
        SinkTook-chain a b c wrote.0 some.0 wrote.2 some.3,
      ),
    )
