-- What is taken from the stream.
use Rattle.std.proofs.Common.{◌≡◌, ℕ, ◌+◌, ◌≤◌, ◌<◌, List, [], ◌++◌, length, take, drop, Option, Some, None, IfSome, refl, sym, ap, subst, ◌∙◌, arith, append_assoc, length-append}
use Rattle.std.proofs.lemmas.List.{append-nil, take-append-drop, take-append-le, take-take, take_all, take_at, length-take, length-take-le}
use Rattle.edge_base.specs.Edge.{SourceGave}
use Rattle.edge_base.proofs.Moves.{SourceGave-chain}
use Rattle.http_wire.specs.declared.line_state.LineState.{LineState}
use Rattle.http_wire.specs.declared.scanning.Scanned.TheVariants.{End}
use Rattle.http_wire.specs.declared.scanning.Scanned.{Scanned}
use Rattle.http_wire.specs.Lines.{scanned, scanned_on, Reaches, Lacks}
use Rattle.http_wire.specs.Stream.{stream, Fetched, AtEnd, Flow, Passed, counted, Begins}
use Rattle.http_wire.proofs.Fetching.{SourceGave-none, SourceGave-front, stream_same}
use Rattle.http_wire.proofs.Seams.{scanned-append, scanned-front, reached}

counted-zero : (t : ℕ) → counted t 0 ≡ t
counted-zero t = omega arith

-- nothing is taken where nothing moves
pub Passed-none : (left : Option (List ℕ)) (flow : Flow) → Passed left left flow flow []
Passed-none left flow = record {
  gave = SourceGave-none (stream flow.bytes left) (stream flow.bytes left) refl;
  taken = sym (counted-zero flow.taken);
}

counted-chain : (t a b : ℕ) → counted (counted t a) b ≡ counted t (a + b)
counted-chain t a b = omega arith

-- nothing was taken
pub none_passed : (before now : Option (List ℕ)) (old new : Flow) → Fetched before now old.bytes new.bytes → new.taken ≡ old.taken → Passed before now old new []
none_passed before now old new h e = record {
  gave = SourceGave-none (stream old.bytes before) (stream new.bytes now) (stream_same before now old.bytes new.bytes h);
  taken = e ∙ sym (counted-zero old.taken);
}

pub Passed-chain : (a b c : Option (List ℕ)) (x y z : Flow) (s t : List ℕ) → Passed a b x y s → Passed b c y z t → Passed a c x z (s ++ t)
Passed-chain a b c x y z s t h k = record {
  gave = SourceGave-chain (stream x.bytes a) (stream y.bytes b) (stream z.bytes c) s t h.gave k.gave;
  taken = k.taken ∙ ap (λ (n : ℕ). counted n (length t)) h.taken ∙ counted-chain x.taken (length s) (length t) ∙ ap (counted x.taken) (sym (length-append s t));
}

-- what was found is a text by itself
pub found_text : (p : LineState) (limit n : ℕ) (xs : List ℕ) → Reaches p limit xs n → Reaches p limit (take n xs) (length (take n xs))
found_text p limit n xs h =
    let fits = reached p limit n xs h in
    let len : length (take n xs) ≡ n = length-take n xs ∙ omega (arith, fits.2) in
    let alone : scanned p (take n (take limit xs)) ≡ End n = scanned-front p (take limit xs) n h in
    let whole : take limit (take n xs) ≡ take n (take limit xs) = take_all limit (take n xs) (omega (arith, len, fits.1)) ∙ sym (take-take n limit xs fits.1) in
    ap (scanned p) whole ∙ alone ∙ ap End (sym len)

pub long_stream : (p : LineState) (limit : ℕ) (bytes : List ℕ) (left : Option (List ℕ)) → Lacks p limit bytes → limit ≤ length bytes → IfSome (stream bytes left) (λ x. (limit ≤ length x) × Lacks p limit x)
long_stream p limit bytes None h small = tt
long_stream p limit bytes (Some left) h small =
    (omega (arith, length-append bytes left), (h.0, ap (scanned p) (take-append-le limit bytes left small) ∙ h.1))

pub ended_stream : (p : LineState) (limit : ℕ) (bytes : List ℕ) (left : Option (List ℕ)) → Lacks p limit bytes → length bytes < limit → AtEnd left → IfSome (stream bytes left) (λ x. (length x < limit) × Lacks p limit x)
ended_stream p limit bytes None h small e = tt
ended_stream p limit bytes (Some left) h small e =
    let same : bytes ++ left ≡ bytes = ap (λ (r : List ℕ). bytes ++ r) e ∙ append-nil bytes in
    (omega (arith, ap length same), (h.0, ap (λ (xs : List ℕ). scanned p (take limit xs)) same ∙ h.1))

-- a front of what was read ahead begins the stream
pub begins_stream : (P : List ℕ → Type 0) (n : ℕ) (bytes : List ℕ) (left : Option (List ℕ)) → P (take n bytes) → IfSome (stream bytes left) (λ x. Begins x P)
begins_stream P n bytes None h = tt
begins_stream P n bytes (Some left) h = (take n bytes, drop n bytes ++ left, ap (λ (r : List ℕ). r ++ left) (sym (take-append-drop n bytes)) ∙ append_assoc (take n bytes) (drop n bytes) left, h)

-- a front of what was read ahead is taken
pub pass_front : (n : ℕ) (old new : Flow) → n ≤ length old.bytes → new.bytes ≡ drop n old.bytes → new.taken ≡ counted old.taken n → (left : Option (List ℕ)) → Passed left left old new (take n old.bytes)
pass_front n old new within is count = λ left. record {
  gave = subst (λ (xs : List ℕ). SourceGave (stream old.bytes left) (stream xs left) (take n old.bytes)) (sym is) (SourceGave-front n old.bytes left within);
  taken = count ∙ ap (counted old.taken) (sym (length-take-le n old.bytes within));
}

-- two texts up to the end of some lines, at the front of one stream, are one
pub one_text : (p : LineState) (limit : ℕ) (x a b after rest : List ℕ) → x ≡ a ++ after → x ≡ b ++ rest → Reaches p limit a (length a) → Reaches p limit b (length b) → a ≡ b
one_text p limit x a b after rest e f h k =
    let here : End (length a) ≡ End (length b) = sym (whole x a after e h) ∙ whole x b rest f k in
    let same : length a ≡ length b = cc here in
    sym (take_at a after (length a) refl) ∙ ap (take (length a)) (sym e ∙ f) ∙ take_at b rest (length a) (sym same)
  where
    whole : (x a after : List ℕ) → x ≡ a ++ after → Reaches p limit a (length a) → scanned p x ≡ End (length a)
    whole x a after e h =
        let few : length a ≤ limit = (reached p limit (length a) a h).1 in
        ap (scanned p) e ∙ scanned-append p a after ∙ ap (λ (s : Scanned). scanned_on s (length a) after) (ap (scanned p) (sym (take_all limit a few)) ∙ h)
