-- Bodies of replies.
use Rattle.std.proofs.Common.{◌≡◌, ◌≢◌, ℕ, ◌≤◌, ◌<◌, ◌-◌, ◌⊎◌, inl, inr, List, [], ◌∷◌, ◌++◌, length, length-append, take, Option, Some, None}
use Rattle.std.proofs.Common.{Result, Err, refl, sym, ap, subst, ◌∙◌, arith}
use Rattle.std.proofs.lemmas.List.{append-nil, length-take-le}
use Rattle.edge_base.specs.Edge.{SourceGave}
use Rattle.http_wire.specs.declared.body.Body.{Body}
use Rattle.http_wire.specs.declared.body.Body.TheVariants as body
use Rattle.http_wire.specs.declared.ends.WireEnd.{WireEnd}
use Rattle.http_wire.specs.declared.ends.WireEnd.TheVariants as ends
use Rattle.http_wire.specs.Stream.{AtEnd}
use Rattle.http_wire.specs.Bodies.{BodyRun, Moves}
use Rattle.http_wire.specs.Wires.{WireView, to_come, BodyEnds}
use Rattle.http_wire.proofs.Leading.{Moves-chain}
use Rattle.peer_http.specs.declared.gathering.ReplyFault.{ReplyFault}
use Rattle.peer_http.specs.Replies.{fault_of, GatherSpec, Gathers, GoesToEnd}

none_left : (xs ys : List ℕ) → [] ≡ xs ++ ys → xs ≡ []
none_left [] ys e = refl
none_left (x ∷ xs) ys e = absurd (cc e)

none_right : (xs ys : List ℕ) → [] ≡ xs ++ ys → ys ≡ []
none_right [] ys e = sym e
none_right (x ∷ xs) ys e = absurd (cc e)

-- what was given before, and then
pub gathered : (most : ℕ) (p q r : Option (List ℕ)) (u v w : WireView) (all given : List ℕ) (result : Result (List ℕ) ReplyFault)
    → Moves p q u.flow v.flow u.body v.body all → v.begun ≡ u.begun → Moves q r v.flow w.flow v.body w.body given
    → GatherSpec most (to_come w r) u.body w.body v.begun (all ++ given) result → Gathers most p r u w result
gathered most p q r u v w all given result before begun then says = record {
  given = all ++ given;
  moved = Moves-chain p q r u.flow v.flow w.flow u.body v.body w.body all given before then;
  says = subst (λ (n : ℕ). GatherSpec most (to_come w r) u.body w.body n (all ++ given) result) begun says;
}

-- why no more of it was given
pub cut_short : (most : ℕ) (x : Option (List ℕ)) (from at : Body) (place : ℕ) (given : List ℕ) (end : WireEnd) (why : ReplyFault) → why ≡ fault_of end
    → BodyEnds x at place end → GatherSpec most x from at place given (Err why)
cut_short most x from at place given end why is h = subst (λ (f : ReplyFault). GatherSpec most x from at place given (Err f)) (sym is) (by end h)
  where
    by : (end : WireEnd) → BodyEnds x at place end → GatherSpec most x from at place given (Err (fault_of end))
    by ends.Closed h = absurd h
    by (ends.Cut n) h = inr (ends.Cut n, (λ same. absurd (cc same)), h)
    by (ends.BadHead n) h = absurd h
    by (ends.BadLength n) h = inr (ends.BadLength n, (λ same. absurd (cc same)), h)
    by (ends.TooLong n) h = absurd h
    by ends.ReadFault h = tt

-- a piece that is too long for what is left
pub too_long : (all buf : List ℕ) (n most : ℕ) → n ≤ length buf → most - length all < n → most < length (all ++ take n buf)
too_long all buf n most fits long = omega (arith, long, length-append all (take n buf), length-take-le n buf fits)

pub still_few : (all buf : List ℕ) (n most : ℕ) → n ≤ length buf → length all ≤ most → n ≤ most - length all → length (all ++ take n buf) ≤ most
still_few all buf n most fits few short = omega (arith, few, short, length-append all (take n buf), length-take-le n buf fits)

at_end_stays : (x y : Option (List ℕ)) (text : List ℕ) → AtEnd x → SourceGave x y text → AtEnd y
at_end_stays None y text e g = subst AtEnd (sym g) tt
at_end_stays (Some left) y text e g = subst AtEnd (sym g.1) (none_right text g.0 (sym e ∙ g.2))

-- where the last byte was read, nothing is left
pub last_read : (q r : Option (List ℕ)) (u v w : WireView) (given : List ℕ) → GoesToEnd (to_come v q) u.body v.body → Moves q r v.flow w.flow v.body w.body given
    → (v.body ≡ body.ToEnd → AtEnd (to_come w r)) → u.body ≡ body.ToEnd → AtEnd (to_come w r)
last_read q r u v w given goes moved ended is = either (goes is)
  where
    either : (v.body ≡ body.ToEnd) ⊎ ((v.body ≡ body.Done) × AtEnd (to_come v q)) → AtEnd (to_come w r)
    either (inl on) = ended on
    either (inr done) = at_end_stays (to_come v q) (to_come w r) moved.0 done.1 moved.1.gave

-- behind a body's end nothing is given
nothing_more : (at : Body) (text given : List ℕ) → BodyRun body.Done at text given → given ≡ []
nothing_more at text given leads =
    let on = leads.back (λ is. absurd (cc is)) [] [] text [] (refl, refl) (sym (append-nil text)) in
    none_left given on.1 on.3

-- and as long as bytes are given it goes on so
pub goes_further : (q r : Option (List ℕ)) (u v w : WireView) (given : List ℕ) → GoesToEnd (to_come v q) u.body v.body → Moves q r v.flow w.flow v.body w.body given
    → 0 < length given → (v.body ≡ body.ToEnd → (w.body ≡ body.ToEnd) ⊎ (w.body ≡ body.Done)) → (v.body ≡ body.ToEnd → w.body ≡ body.Done → AtEnd (to_come w r))
    → GoesToEnd (to_come w r) u.body w.body
goes_further q r u v w given goes moved some stays ended is = either (goes is)
  where
    on_from : v.body ≡ body.ToEnd → (w.body ≡ body.ToEnd) ⊎ (w.body ≡ body.Done) → (w.body ≡ body.ToEnd) ⊎ ((w.body ≡ body.Done) × AtEnd (to_come w r))
    on_from on (inl still) = inl still
    on_from on (inr done) = inr (done, ended on done)

    either : (v.body ≡ body.ToEnd) ⊎ ((v.body ≡ body.Done) × AtEnd (to_come v q)) → (w.body ≡ body.ToEnd) ⊎ ((w.body ≡ body.Done) × AtEnd (to_come w r))
    either (inl on) = on_from on (stays on)
    either (inr done) =
        let none = nothing_more w.body moved.0 given (subst (λ (b : Body). BodyRun b w.body moved.0 given) done.0 moved.2) in
        absurd (omega (arith, some, ap length none))

-- some bytes of a buffer
pub some_given : (n : ℕ) (buf : List ℕ) → n ≤ length buf → n ≢ 0 → 0 < length (take n buf)
some_given n buf fits some = omega (arith, length-take-le n buf fits, some)
