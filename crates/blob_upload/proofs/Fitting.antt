-- The contents that a body tells keep their limit.
use Rattle.std.proofs.Common.{◌≡◌, ◌+◌, ◌-◌, ◌<◌, ◌≤◌, inl, inr, ℕ, zero, suc, Bool, true, false, ◌&&◌, nat_lt, List}
use Rattle.std.proofs.Common.{[], ◌∷◌, ◌++◌, length, take, drop, refl, sym, ap, ◌∙◌, arith, append_assoc, flat_map}
use Rattle.std.proofs.lemmas.Bool.{and_parts, and_from, lt-ltb, ltb-true, ltb-false}
use Rattle.std.proofs.lemmas.List.{length-take}
use Rattle.multipart_read.specs.declared.marks.Mark.{Mark}
use Rattle.multipart_read.specs.declared.marks.Mark.TheVariants.{Absent, Undecided, Delimiter, Close}
use Rattle.multipart_read.specs.declared.marks.Sight.{Sight}
use Rattle.multipart_read.specs.Marks.{first_mark}
use Rattle.multipart_read.specs.Tokens.{Token, named, byte, ended, content}
use Rattle.multipart_read.specs.Body.{End, Element, tell, behind, preamble, content_at, FromMark, Seen, InHead}
use Rattle.multipart_read.specs.Reader.{fresh, IsBody}
use Rattle.multipart_read.specs.PartLists.{Part, part_tokens}
use Rattle.multipart_read.proofs.Existing.{some_reading}
use Rattle.pack_format.specs.Header.{max_size}
use Rattle.blob_upload.specs.Laws.{ContentsFit}

module _ (most : ℕ) (enough : 16777216 ≤ most) where
  -- no more than so many bytes stand between two other tokens, behind n of them
  abbrev run_fits : ℕ → List Token → Bool
  run_fits n [] = true
  run_fits n (named name ∷ ts) = run_fits 0 ts
  run_fits n (byte b ∷ ts) = nat_lt n most && run_fits (n + 1) ts
  run_fits n (ended ∷ ts) = run_fits 0 ts

  fits_cut : (n : ℕ) (bytes : List ℕ) → n + length bytes ≤ most → run_fits n (content bytes) ≡ true
  fits_cut n [] few = refl
  fits_cut n (b ∷ bytes) few =
      and_from (nat_lt n most) (run_fits (n + 1) (content bytes)) (lt-ltb n most (omega arith))
      (fits_cut (n + 1) bytes (omega arith))

  fits_on : (n : ℕ) (bytes : List ℕ) (later : List Token) → n + length bytes ≤ most → run_fits 0 later ≡ true
      → run_fits n (content bytes ++ ended ∷ later) ≡ true
  fits_on n [] later few next = next
  fits_on n (b ∷ bytes) later few next =
      and_from (nat_lt n most) (run_fits (n + 1) (content bytes ++ ended ∷ later)) (lt-ltb n most (omega arith))
      (fits_on (n + 1) bytes later (omega arith) next)

  -- ---- a body

  tell_cut : (told : Bool) (bytes : List ℕ) → length bytes ≤ most → run_fits 0 (tell told bytes) ≡ true
  tell_cut true bytes few = fits_cut 0 bytes (omega arith)
  tell_cut false bytes few = refl

  tell_on : (told : Bool) (bytes : List ℕ) (later : List Token) → length bytes ≤ most → run_fits 0 later ≡ true
      → run_fits 0 (tell told bytes ++ behind told later) ≡ true
  tell_on true bytes later few next = fits_on 0 bytes later (omega arith) next
  tell_on false bytes later few next = next

  abbrev Fit : (List ℕ → List Token → End → Type 0) → Type 0
  Fit next = (bytes : List ℕ) (tokens : List Token) (end : End) → next bytes tokens end → run_fits 0 tokens ≡ true

  from_mark_fits : (next : List ℕ → List Token → End → Type 0) → Fit next → (e : Element) (m : Mark) (sure : ℕ)
      (bytes : List ℕ) (tokens : List Token) (end : End) → sure ≤ most → FromMark next e m sure bytes tokens end
      → run_fits 0 tokens ≡ true
  from_mark_fits next fit e Absent sure bytes tokens end few from = absurd from
  from_mark_fits next fit e Undecided sure bytes tokens end few from =
      ap (run_fits 0) (from.0) ∙ tell_cut e.told (take sure bytes) (omega (arith, length-take sure bytes, few))
  from_mark_fits next fit e (Delimiter n) sure bytes tokens end few from =
      ap (run_fits 0) (from.1)
      ∙ tell_on e.told (take sure bytes) (from.0) (omega (arith, length-take sure bytes, few))
      (fit (drop (sure + n) bytes) (from.0) end (from.2))
  from_mark_fits next fit e (Close n) sure bytes tokens end few from =
      ap (run_fits 0) (from.0) ∙ tell_on e.told (take sure bytes) [] (omega (arith, length-take sure bytes, few)) refl

  seen_fits : (next : List ℕ → List Token → End → Type 0) → Fit next → (e : Element) (s : Sight) (bytes : List ℕ)
      (tokens : List Token) (end : End) → e.limit ≤ most → Seen next e 0 s bytes tokens end → run_fits 0 tokens ≡ true
  seen_fits next fit e s bytes tokens end few (inl over) =
      ap (run_fits 0) (over.1) ∙ tell_cut e.told (take (e.limit - 0) bytes)
      (omega (arith, length-take (e.limit - 0) bytes, few))
  seen_fits next fit e s bytes tokens end few (inr from) =
      let sure = from.0 in from_mark_fits next fit e s.mark s.sure bytes tokens end (omega (arith, sure, few)) (from.1)

  in_head_fits : (start : List ℕ) (total left : ℕ) → Fit (InHead start total left)
  unfolding InHead
  in_head_fits start total zero = λ bytes tokens end none. ap (run_fits 0) (none.0)
  in_head_fits start total (suc left) =
      λ bytes tokens end rest. heads bytes tokens end rest (in_head_fits start total left)
    where
      heads : (bytes : List ℕ) (tokens : List Token) (end : End) → InHead start total (suc left) bytes tokens end
          → Fit (InHead start total left) → run_fits 0 tokens ≡ true
      heads bytes tokens end (inl none) fit = ap (run_fits 0) (none.1.0)
      heads bytes tokens end (inr head) fit =
          ap (run_fits 0) (head.4)
          ∙ seen_fits (InHead start total left) fit (content_at (total - length (drop (head.1) bytes)))
          (first_mark start (drop (head.1) bytes)) (drop (head.1) bytes) (head.3) end enough (head.5)

  body_fits : (boundary body : List ℕ) (told : List Token) (end : End) → IsBody boundary body told end
      → run_fits 0 told ≡ true
  body_fits boundary body told end is =
      seen_fits (InHead (fresh boundary).start (0 + length body) 1000)
      (in_head_fits (fresh boundary).start (0 + length body) 1000)
      preamble (first_mark (fresh boundary).start ((fresh boundary).held ++ body))
      ((fresh boundary).held ++ body) told end
      (omega (arith, enough)) is

  -- ---- its parts

  part_fits : (n : ℕ) (bytes : List ℕ) (ts : List Token) → n ≤ most → run_fits n (content bytes ++ ended ∷ ts) ≡ true
      → (n + length bytes ≤ most) × (run_fits 0 ts ≡ true)
  part_fits n [] ts few e = (omega (arith, few), e)
  part_fits n (b ∷ bytes) ts few e =
      let both = and_parts (nat_lt n most) (run_fits (n + 1) (content bytes ++ ended ∷ ts)) e in
      let less : n < most = ltb-true n most (both.0) in
      let rest = part_fits (n + 1) bytes ts (omega (arith, less)) (both.1) in
      let fits = rest.0 in
      (omega (arith, fits), rest.1)

  parts_fit : (parts : List Part) (part : Part) (ts : List Token)
      → run_fits 0 (flat_map part_tokens parts ++ (part_tokens part ++ ts)) ≡ true → length part.1 ≤ most
  parts_fit [] part ts e =
      let fits = (part_fits 0 (part.1) ts (omega arith)
      (ap (run_fits 0) (sym (append_assoc (content part.1) (ended ∷ []) ts)) ∙ e)).0 in
      omega (arith, fits)
  parts_fit (p ∷ parts) part ts e =
      let rest : List Token = flat_map part_tokens parts ++ (part_tokens part ++ ts) in
      let same : ((content p.1 ++ ended ∷ []) ++ flat_map part_tokens parts) ++ (part_tokens part ++ ts)
      ≡ content p.1 ++ ended ∷ rest =
      append_assoc (content p.1 ++ ended ∷ []) (flat_map part_tokens parts) (part_tokens part ++ ts)
      ∙ append_assoc (content p.1) (ended ∷ []) rest in
      parts_fit parts part ts ((part_fits 0 (p.1) rest (omega arith) (ap (run_fits 0) (sym same) ∙ e)).1)

pub contents_fit : ContentsFit
contents_fit boundary given parts part later t = by (nat_lt max_size (length part.1)) refl
  where
    by : (b : Bool) → nat_lt max_size (length part.1) ≡ b → length part.1 ≤ max_size
    by false is = let few = ltb-false max_size (length part.1) is in omega (arith, few)
    by true is = absurd (some_reading t.reader [] (λ tokens end gives.
        let enough : 16777216 ≤ max_size = omega arith in
        let fits = body_fits max_size enough boundary (t.fed ++ [])
        ((flat_map part_tokens parts ++ (part_tokens part ++ later)) ++ tokens) end (t.tells [] tokens end gives) in
        let whole : (flat_map part_tokens parts ++ (part_tokens part ++ later)) ++ tokens
        ≡ flat_map part_tokens parts ++ (part_tokens part ++ (later ++ tokens)) =
        append_assoc (flat_map part_tokens parts) (part_tokens part ++ later) tokens
        ∙ ap (λ ts. flat_map part_tokens parts ++ ts) (append_assoc (part_tokens part) later tokens) in
        let few = parts_fit max_size enough parts part (later ++ tokens)
        (ap (run_fits max_size enough 0) (sym whole) ∙ fits) in
        let many = ltb-true max_size (length part.1) is in
        omega (arith, few, many)))
