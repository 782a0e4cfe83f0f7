-- When a piece of a text settles what stands at its front.
use Rattle.std.proofs.Common.{◌≡◌, ◌≢◌, ℕ, ◌≤◌, ◌<◌, Bool, true, false, List, [], ◌++◌, length, nat_lt, refl, sym, ◌∙◌, ap, arith}
use Rattle.std.proofs.lemmas.List.{append-nil}
use Rattle.std.proofs.lemmas.Bool.{ltb-false, ltb-true, lt-ltb}
use Rattle.blobref.proofs.Spelled.{blobref_short}
use Rattle.pack_format.specs.declared.header.HeaderAt.{HeaderAt}
use Rattle.pack_format.specs.declared.header.HeaderAt.TheVariants.{Blob, Gone, Missing}
use Rattle.pack_format.specs.Reading.{header_at}
use Rattle.pack_format.proofs.Numbers.{length-size_field}
use Rattle.pack_format.proofs.Blobs.{length-header}
use Rattle.pack_format.proofs.Deleted.{length-deleted_header}
use Rattle.pack_format.proofs.Headers.{header_at-is, header_at-append, header_at-long, header_len, header_len-pos}
use Rattle.salvage_scan.specs.Salvage.{front_by, front}
use Rattle.salvage_scan.specs.Pieces.{wanted, is_open, MayFollow, longest}
use Rattle.salvage_scan.proofs.Fronts.{settled_by}

-- no more bytes are wanted than the longest record has
pub wanted-most : (x : List ℕ) → wanted (header_at x) ≤ longest
wanted-most x = go (header_at x) refl
  where
    go : (h : HeaderAt) → header_at x ≡ h → wanted h ≤ longest
    go (Blob r size len) is =
        let read = (header_at-is x).blob r size len is in
        omega (arith, read.0.small, read.1, length-header r size, blobref_short r read.0.form, (length-size_field size read.0.small).1)
    go (Gone size len) is =
        let read = (header_at-is x).deleted size len is in
        omega (arith, read.form.small, read.form.most_letters, read.form.most_digits, read.long, length-deleted_header read.letters read.digits size, (length-size_field size read.form.small).1)
    go Missing is = omega arith

-- what waits is shorter
pub open-short : (x : List ℕ) → is_open x ≡ true → length x < longest
unfolding is_open
open-short x is = omega (arith, ltb-true (length x) (wanted (header_at x)) is, wanted-most x)

wanted-pos : (x : List ℕ) → 0 < wanted (header_at x)
wanted-pos x = go (header_at x) (header_len-pos x)
  where
    go : (h : HeaderAt) → 0 < header_len h → 0 < wanted h
    go (Blob r size len) pos = omega (arith, pos)
    go (Gone size len) pos = omega (arith, pos)
    go Missing pos = omega arith

pub nothing-open : is_open [] ≡ true
unfolding is_open
nothing-open = lt-ltb 0 (wanted (header_at [])) (wanted-pos [])

front_closed : (x y : List ℕ) → is_open x ≡ false → front (x ++ y) ≡ front x
unfolding is_open front
front_closed x y closed = go (header_at x) refl closed
  where
    go : (h : HeaderAt) → header_at x ≡ h → nat_lt (length x) (wanted h) ≡ false → front_by (header_at (x ++ y)) (x ++ y) ≡ front_by (header_at x) x
    go (Blob r size len) is closed =
        let some : header_at x ≢ Missing = λ e. let bad : Blob r size len ≡ Missing = sym is ∙ e in cc bad in
        ap (λ k. front_by k (x ++ y)) (header_at-append x y some ∙ is) ∙ settled_by (Blob r size len) x y (ltb-false _ _ closed) ∙ ap (λ k. front_by k x) (sym is)
    go (Gone size len) is closed =
        let some : header_at x ≢ Missing = λ e. let bad : Gone size len ≡ Missing = sym is ∙ e in cc bad in
        ap (λ k. front_by k (x ++ y)) (header_at-append x y some ∙ is) ∙ settled_by (Gone size len) x y (ltb-false _ _ closed) ∙ ap (λ k. front_by k x) (sym is)
    go Missing is closed =
        ap (λ k. front_by k (x ++ y)) (header_at-long x y (ltb-false _ _ closed) ∙ is) ∙ settled_by Missing x y tt ∙ ap (λ k. front_by k x) (sym is)

-- a front is settled where bytes are there, or none follow
abbrev pub IsSettled : (last : Bool) → List ℕ → Type 0
IsSettled true x = Unit {0}
IsSettled false x = is_open x ≡ false

pub front_settles : (last : Bool) (x more : List ℕ) → IsSettled last x → MayFollow last more → front (x ++ more) ≡ front x
front_settles true x more settled none = ap (λ l. front (x ++ l)) none ∙ ap front (append-nil x)
front_settles false x more settled any = front_closed x more settled
