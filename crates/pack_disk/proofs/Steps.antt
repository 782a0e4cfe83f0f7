-- What one call more makes of a disk in memory.
use Rattle.std.proofs.Common.{◌≡◌, ◌≢◌, inl, inr, ⊎_elim, ◌⊎◌, Result, Ok, Err, OnOk, OnErr, IsOk, IsErr, ℕ, ◌+◌, ◌≤◌, List, [], ◌∷◌, ◌++◌, length, Bool, true, false, cond, ◌==◌, Option, None, Some, refl, sym, ◌∙◌, ap, subst, arith, length-append}
use Rattle.std.specs.Cmp.{nat_cmp_total}
use Rattle.std.specs.Option.{option_map, is_some}
use Rattle.std.specs.Ordering.{nat_cmp}
use Rattle.std.specs.FinMap.{get, insert, get-empty, remove, get-remove, same_map, nat_cmp-IsAntisymmetric}
use Rattle.std.proofs.lemmas.Bool.{eqb-true, eq-eqb, ne_eqb, cases_lt}
use Rattle.std.proofs.lemmas.List.{append-nil, take_all, take-append-le, nil_from_length}
use Rattle.pack_disk.specs.declared.history.Call.{Call}
use Rattle.pack_disk.specs.declared.history.Call.TheVariants.{Make, Append, Sync}
use Rattle.pack_disk.specs.Packs.{Packs}
use Rattle.pack_disk.specs.Disk.{SameOthers, Extends, Makes, Elapses}
use Rattle.pack_disk.specs.PackState.{PackState, fresh, grown, settled, IsPackImage}
use Rattle.pack_disk.specs.Past.{Past, no_past, Does, with_call, at_call, extended, told_after, told_from, began_with, told, State, changed, state_after, state_from, first_state, state, IsImage, WasImage}
use Rattle.pack_disk.specs.Memory.{Remembered}
use Rattle.pack_disk.specs.Told.{ties, get_at, get-extended, IsPackTold, IsTold, is_told}

state_from-push : (calls : List Call) (s : State) (c : Call) → state_from s (calls ++ c ∷ []) ≡ state_after c (state_from s calls)
unfolding state_from
state_from-push [] s c = refl
state_from-push (x ∷ calls) s c = state_from-push calls (state_after x s) c

told_from-push : (calls : List Call) (packs : Packs) (c : Call) → told_from packs (calls ++ c ∷ []) ≡ told_after c (told_from packs calls)
unfolding told_from
told_from-push [] packs c = refl
told_from-push (x ∷ calls) packs c = told_from-push calls (told_after x packs) c

pub state-push : (past : Past) (c : Call) → state (with_call past c) ≡ state_after c (state past)
state-push past c = state_from-push past.done (first_state past) c

pub told-push : (past : Past) (c : Call) → told (with_call past c) ≡ told_after c (told past)
told-push past c = told_from-push past.done (began_with past) c

pub not_some : {A : Type 0} (x : A) → None ≡ Some x → ⊥
not_some x e = cc e

pub some_same : {A : Type 0} (x y : A) → Some x ≡ Some y → x ≡ y
some_same x y e = cc e

pub same_true : (n : ℕ) → (n == n) ≡ true
same_true n = eq-eqb n n refl

-- ---- make

no_pack : (s : State) (n : ℕ) (image : Packs) → s n ≡ None → get image n ≡ None → IsImage (state_after (Make n) s) image → IsImage s image
no_pack s n image none absent is m = go (m == n) refl (is m)
  where
    go : (b : Bool) → (m == n) ≡ b → IsPackImage (cond b (Some fresh) (s m)) (get image m) → IsPackImage (s m) (get image m)
    go true e i = let same = eqb-true m n e in rw (ap s same ∙ none, ap (get image) same ∙ absent) tt
    go false e i = i

get_removed : (image : Packs) (n m : ℕ) → get (remove image n) m ≡ cond (m == n) None (get image m)
get_removed image n m = get-remove nat_cmp_total image n m ∙ ap (λ b. cond b None (get image m)) (ties m n)

no_pack_removed : (s : State) (n : ℕ) (image : Packs) → s n ≡ None → IsImage (state_after (Make n) s) image → IsImage s (remove image n)
no_pack_removed s n image none is m = subst (IsPackImage (s m)) (sym (get_removed image n m)) (go (m == n) refl (is m))
  where
    go : (b : Bool) → (m == n) ≡ b → IsPackImage (cond b (Some fresh) (s m)) (get image m) → IsPackImage (s m) (cond b None (get image m))
    go true e i = let same = eqb-true m n e in subst (λ o. IsPackImage o None) (sym (ap s same ∙ none)) tt
    go false e i = i

put_back : (image : Packs) (n : ℕ) → get image n ≡ Some [] → image ≡ insert (remove image n) n []
put_back image n is = same_map nat_cmp_total nat_cmp-IsAntisymmetric image (insert (remove image n) n [])
    (λ m. go m (m == n) refl ∙ sym (get_at (remove image n) n [] m ∙ ap (cond (m == n) (Some [])) (get_removed image n m)))
  where
    go : (m : ℕ) (b : Bool) → (m == n) ≡ b → get image m ≡ cond (m == n) (Some []) (cond (m == n) None (get image m))
    go m true e = ap (get image) (eqb-true m n e) ∙ is ∙ sym (ap (λ b. cond b (Some []) (cond b None (get image m))) e)
    go m false e = sym (ap (λ b. cond b (Some []) (cond b None (get image m))) e)

fresh_image : (x : List ℕ) → IsPackImage (Some fresh) (Some x) → x ≡ []
fresh_image x i = nil_from_length x (omega (arith, i.2))

make_crash : (s : State) (n : ℕ) (image : Packs) → s n ≡ None → IsImage (state_after (Make n) s) image → (d : Packs) × IsImage s d × Makes n d image
make_crash s n image none is = go (get image n) refl
  where
    here : IsPackImage (Some fresh) (get image n)
    here = subst (λ b. IsPackImage (cond b (Some fresh) (s n)) (get image n)) (same_true n) (is n)

    go : (o : Option (List ℕ)) → get image n ≡ o → (d : Packs) × IsImage s d × Makes n d image
    go None e = (image, no_pack s n image none e is, record { absent = e; either = inl refl })
    go (Some x) e =
        let nil : x ≡ [] = fresh_image x (subst (IsPackImage (Some fresh)) e here) in
        let gone : get (remove image n) n ≡ None = get_removed image n n ∙ ap (λ b. cond b None (get image n)) (same_true n) in
        (remove image n, no_pack_removed s n image none is, record { absent = gone; either = inr (put_back image n (e ∙ ap Some nil)) })

-- ---- append

grown_none : (bytes : List ℕ) (o : Option PackState) → IsPackImage (option_map (grown bytes) o) None → IsPackImage o None
grown_none bytes None i = tt
grown_none bytes (Some p) i = i

unchanged_none : (s : State) (n : ℕ) (bytes : List ℕ) (image : Packs) → get image n ≡ None → IsImage (changed n (grown bytes) s) image → IsImage s image
unchanged_none s n bytes image absent is m = go (m == n) refl (is m)
  where
    go : (b : Bool) → (m == n) ≡ b → IsPackImage (cond b (option_map (grown bytes) (s m)) (s m)) (get image m) → IsPackImage (s m) (get image m)
    go true e i =
        let gone : get image m ≡ None = ap (get image) (eqb-true m n e) ∙ absent in
        subst (IsPackImage (s m)) (sym gone) (grown_none bytes (s m) (subst (IsPackImage (option_map (grown bytes) (s m))) gone i))
    go false e i = i

-- what was synced is an image of its pack
synced_image : (p : PackState) (q : Option (List ℕ)) → IsPackTold (Some p) q → IsPackImage (Some p) (Some p.synced)
synced_image p q t = ([], sym (append-nil p.synced), omega (arith, t.3, ap length t.2, length-append p.synced t.1))

cut_back : (s : State) (n : ℕ) (bytes : List ℕ) (image : Packs) (p : PackState) → s n ≡ Some p → IsPackImage (Some p) (Some p.synced)
    → IsImage (changed n (grown bytes) s) image → IsImage s (insert image n p.synced)
cut_back s n bytes image p at synced is m = subst (IsPackImage (s m)) (sym (get_at image n p.synced m)) (go (m == n) refl (is m))
  where
    go : (b : Bool) → (m == n) ≡ b → IsPackImage (cond b (option_map (grown bytes) (s m)) (s m)) (get image m) → IsPackImage (s m) (cond b (Some p.synced) (get image m))
    go true e i = subst (λ o. IsPackImage o (Some p.synced)) (sym (ap s (eqb-true m n e) ∙ at)) synced
    go false e i = i

cut_extends : (n : ℕ) (image : Packs) (x synced tail : List ℕ) → get image n ≡ Some x → x ≡ synced ++ tail → Extends n (insert image n synced) image
cut_extends n image x synced tail at is =
    let here : get (insert image n synced) n ≡ Some synced = get_at image n synced n ∙ ap (λ b. cond b (Some synced) (get image n)) (same_true n) in
    record {
      others = λ q other. sym (get_at image n synced q ∙ ap (λ b. cond b (Some synced) (get image q)) (ne_eqb q n other));
      missing = λ none. absurd (not_some synced (sym none ∙ here));
      more = λ y is_y. (tail, at ∙ ap Some (is ∙ ap (λ l. l ++ tail) (some_same synced y (sym here ∙ is_y))));
    }

append_crash : (s : State) (n : ℕ) (bytes : List ℕ) (image packs : Packs) → IsTold s packs → IsImage (changed n (grown bytes) s) image
    → (d : Packs) × IsImage s d × Extends n d image
append_crash s n bytes image packs valid is = go (get image n) refl (s n) refl
  where
    here : IsPackImage (option_map (grown bytes) (s n)) (get image n)
    here = subst (λ b. IsPackImage (cond b (option_map (grown bytes) (s n)) (s n)) (get image n)) (same_true n) (is n)

    go : (o : Option (List ℕ)) → get image n ≡ o → (q : Option PackState) → s n ≡ q → (d : Packs) × IsImage s d × Extends n d image
    go None e q f =
        (image, unchanged_none s n bytes image e is, record { others = λ _ _. refl; missing = λ none. none; more = λ x at. absurd (not_some x (sym e ∙ at)) })
    go (Some x) e None f = absurd (let i : IsPackImage None (Some x) = subst (λ o. IsPackImage (option_map (grown bytes) o) (Some x)) f (subst (IsPackImage (option_map (grown bytes) (s n))) e here) in i)
    go (Some x) e (Some p) f =
        let i : IsPackImage (Some (grown bytes p)) (Some x) = subst (λ o. IsPackImage (option_map (grown bytes) o) (Some x)) f (subst (IsPackImage (option_map (grown bytes) (s n))) e here) in
        let t : IsPackTold (Some p) (get packs n) = subst (λ o. IsPackTold o (get packs n)) f (valid n) in
        (insert image n p.synced, cut_back s n bytes image p f (synced_image p (get packs n) t) is, cut_extends n image x p.synced i.0 e i.1)

-- ---- sync

settled_image : (p : PackState) (x : List ℕ) → IsPackImage (Some (settled p)) (Some x) → x ≡ p.now
settled_image p x i =
    let nil : i.0 ≡ [] = nil_from_length i.0 (omega (arith, i.2, ap length i.1, length-append p.now i.0)) in
    i.1 ∙ ap (λ l. p.now ++ l) nil ∙ append-nil p.now

true_false : true ≡ false → ⊥
true_false e = cc e

settled_was : (o : Option PackState) (q r : Option (List ℕ)) → IsPackTold o r → IsPackImage (option_map settled o) q → IsPackImage o q
settled_was None q r t i = i
settled_was (Some p) None r t i = absurd (true_false i)
settled_was (Some p) (Some x) r t i =
    let e = settled_image p x i in
    (t.1, e ∙ t.2, omega (arith, t.3, ap length e))

sync_crash : (s : State) (n : ℕ) (image packs : Packs) → IsTold s packs → IsImage (changed n settled s) image → IsImage s image
sync_crash s n image packs valid is m = elim (m == n) as (λ b. IsPackImage (cond b (option_map settled (s m)) (s m)) (get image m) → IsPackImage (s m) (get image m)) [
  | true ↦ λ i. settled_was (s m) (get image m) (get packs m) (valid m) i
  | false ↦ λ i. i
] (is m)

settled_told : (o : Option PackState) (q r : Option (List ℕ)) → is_some r ≡ true → IsPackTold o r → IsPackImage (option_map settled o) q → q ≡ r
settled_told None q r some t i = absurd (let e : is_some r ≡ false = ap is_some t in true_false (sym some ∙ e))
settled_told (Some p) None r some t i = absurd (true_false i)
settled_told (Some p) (Some x) r some t i = ap Some (settled_image p x i) ∙ sym t.0

sync_durable : (s : State) (n : ℕ) (image packs : Packs) → IsTold s packs → is_some (get packs n) ≡ true → IsImage (changed n settled s) image → get image n ≡ get packs n
sync_durable s n image packs valid there is =
    settled_told (s n) (get image n) (get packs n) there (valid n) (subst (λ b. IsPackImage (cond b (option_map settled (s n)) (s n)) (get image n)) (same_true n) (is n))

-- ---- a call that was done, or one that failed and changed nothing

abbrev pub Runs : Past → Past → Call → Type 0
Runs old new c = (new ≡ old) ⊎ (new ≡ with_call old c)

before_call : (old : Past) (c : Call) (count : ℕ) → count ≤ length old.done → at_call count (with_call old c) ≡ at_call count old
before_call old c count le = ap (λ calls. record { start = old.start; done = calls }) (take-append-le count old.done (c ∷ []) le)

after_it : (old : Past) (c : Call) (count : ℕ) → length old.done + 1 ≤ count → at_call count (with_call old c) ≡ with_call old c
after_it old c count le = ap (λ calls. record { start = old.start; done = calls }) (take_all count (old.done ++ c ∷ []) (omega (arith, length-append old.done (c ∷ []), le)))

pub time_stays : (past : Past) → Elapses (length past.done) (length past.done) (WasImage past) (WasImage past) (IsImage (state past))
time_stays past = record { later = omega arith; nothing_else = λ t image le was. inl was; kept = λ t image le was. was }

pub time_passes : (old new : Past) (c : Call) → Runs old new c → Elapses (length old.done) (length new.done) (WasImage old) (WasImage new) (IsImage (state new))
time_passes old new c (inl same) = rw same (time_stays old)
time_passes old new c (inr more) = rw more (record {
  later = omega (arith, length-append old.done (c ∷ []));
  nothing_else = λ t image le was. ⊎_elim
      (λ past. inl (was.0, was.1, (let le : was.0 ≤ length old.done = omega arith in le), subst (λ p. IsImage (state p) image) (before_call old c was.0 (omega arith)) was.3))
      (λ now. inr (subst (λ p. IsImage (state p) image) (after_it old c was.0 now) was.3))
      (cases_lt was.0 (length old.done + 1));
  kept = λ t image le was. (was.0, was.1, omega (arith, was.2, length-append old.done (c ∷ [])), subst (λ p. IsImage (state p) image) (sym (before_call old c was.0 was.2)) was.3);
})

-- a pack that isn't told isn't there
no_state : (o : Option PackState) → IsPackTold o None → o ≡ None
no_state None t = refl
no_state (Some p) t = absurd (not_some p.now t.0)

no_state_at : (past : Past) (n : ℕ) → get (told past) n ≡ None → state past n ≡ None
no_state_at past n absent = no_state (state past n) (subst (IsPackTold (state past n)) absent (is_told past n))

no_image : (o : Option PackState) (q : Option (List ℕ)) → o ≡ None → IsPackImage o q → q ≡ None
no_image None None e i = refl
no_image None (Some x) e i = absurd i
no_image (Some p) q e i = absurd (not_some p (sym e))

pub make_told : (old new : Past) (n : ℕ) → Runs old new (Make n) → get (told old) n ≡ None → Makes n (told old) (told new)
make_told old new n (inl same) absent = record { absent = absent; either = inl (ap told same) }
make_told old new n (inr more) absent = record { absent = absent; either = inr (ap told more ∙ told-push old (Make n)) }

pub make_crashes : (old new : Past) (n : ℕ) → Runs old new (Make n) → get (told old) n ≡ None → (image : Packs) → IsImage (state new) image
    → (d : Packs) × IsImage (state old) d × Makes n d image
make_crashes old new n (inl same) absent image is =
    let i : IsImage (state old) image = subst (λ p. IsImage (state p) image) same is in
    (image, i, record { absent = no_image (state old n) (get image n) (no_state_at old n absent) (i n); either = inl refl })
make_crashes old new n (inr more) absent image is =
    make_crash (state old) n image (no_state_at old n absent) (subst (λ s. IsImage s image) (ap state more ∙ state-push old (Make n)) is)

there_after : (n : ℕ) (bytes : List ℕ) (packs : Packs) → is_some (get packs n) ≡ true → is_some (get (extended n bytes (get packs n) packs) n) ≡ true
there_after n bytes packs there =
    ap is_some (get-extended n bytes packs n ∙ ap (λ b. cond b (option_map (λ x. x ++ bytes) (get packs n)) (get packs n)) (same_true n)) ∙ go (get packs n) there
  where
    go : (o : Option (List ℕ)) → is_some o ≡ true → is_some (option_map (λ x. x ++ bytes) o) ≡ true
    go None e = e
    go (Some x) e = refl

others_after : (n : ℕ) (bytes : List ℕ) (packs : Packs) → SameOthers n packs (extended n bytes (get packs n) packs)
others_after n bytes packs q other = get-extended n bytes packs q ∙ ap (λ b. cond b (option_map (λ x. x ++ bytes) (get packs q)) (get packs q)) (ne_eqb q n other)

pub append_told : (old new : Past) (n : ℕ) (bytes : List ℕ) → Runs old new (Append n bytes) → is_some (get (told old) n) ≡ true
    → SameOthers n (told old) (told new) × (is_some (get (told new) n) ≡ true)
append_told old new n bytes (inl same) there = subst (λ p. SameOthers n (told old) (told p) × (is_some (get (told p) n) ≡ true)) (sym same) (λ _ _. refl, there)
append_told old new n bytes (inr more) there =
    subst (λ packs. SameOthers n (told old) packs × (is_some (get packs n) ≡ true)) (sym (ap told more ∙ told-push old (Append n bytes)))
    (others_after n bytes (told old), there_after n bytes (told old) there)

pub append_appends : (old new : Past) (n : ℕ) (bytes : List ℕ) → new ≡ with_call old (Append n bytes) → (had : List ℕ) → get (told old) n ≡ Some had
    → get (told new) n ≡ Some (had ++ bytes)
append_appends old new n bytes more had at =
    ap (λ packs. get packs n) (ap told more ∙ told-push old (Append n bytes)) ∙ get-extended n bytes (told old) n
    ∙ ap (λ b. cond b (option_map (λ x. x ++ bytes) (get (told old) n)) (get (told old) n)) (same_true n) ∙ ap (option_map (λ x. x ++ bytes)) at

pub append_crashes : (old new : Past) (n : ℕ) (bytes : List ℕ) → Runs old new (Append n bytes) → (image : Packs) → IsImage (state new) image
    → (d : Packs) × IsImage (state old) d × Extends n d image
append_crashes old new n bytes (inl same) image is =
    (image, subst (λ p. IsImage (state p) image) same is, record { others = λ _ _. refl; missing = λ none. none; more = λ x at. ([], at ∙ ap Some (sym (append-nil x))) })
append_crashes old new n bytes (inr more) image is =
    append_crash (state old) n bytes image (told old) (is_told old) (subst (λ s. IsImage s image) (ap state more ∙ state-push old (Append n bytes)) is)

pub sync_told : (old new : Past) (n : ℕ) → Runs old new (Sync n) → told new ≡ told old
sync_told old new n (inl same) = ap told same
sync_told old new n (inr more) = ap told more ∙ told-push old (Sync n)

pub sync_crashes : (old new : Past) (n : ℕ) → Runs old new (Sync n) → (image : Packs) → IsImage (state new) image → IsImage (state old) image
sync_crashes old new n (inl same) image is = subst (λ p. IsImage (state p) image) same is
sync_crashes old new n (inr more) image is = sync_crash (state old) n image (told old) (is_told old) (subst (λ s. IsImage s image) (ap state more ∙ state-push old (Sync n)) is)

pub sync_stands : (old new : Past) (n : ℕ) → is_some (get (told old) n) ≡ true → new ≡ with_call old (Sync n) → (image : Packs) → IsImage (state new) image
    → get image n ≡ get (told old) n
sync_stands old new n there more image is =
    sync_durable (state old) n image (told old) (is_told old) there (subst (λ s. IsImage s image) (ap state more ∙ state-push old (Sync n)) is)

pub on_ok : {A B : Type 0} {P Q : Type 0} (r : Result A B) → (P → Q) → OnOk r P → OnOk r Q
on_ok (Ok a) f p = f p
on_ok (Err b) f p = p

pub on_err : {A B : Type 0} {P Q : Type 0} (r : Result A B) → (P → Q) → OnErr r P → OnErr r Q
on_err (Ok a) f p = p
on_err (Err b) f p = f p

pub runs : {A B : Type 0} (r : Result A B) (old new : Past) (call : Call) → Does call old new r → Runs old new call
runs (Ok a) old new call does = inr does.ok
runs (Err b) old new call does = inl does.err

pub same_history : {before now : Remembered} → before ≡ now → before.history ≡ now.history
same_history is = ap (λ (disk : Remembered). disk.history) is

-- a call of the packs that was counted; what the disk was seen as before is what it held
pub does_counted : {A B C D : Type 0} (done : Result A B) (result : Result C D) (call : Call) (old mid new seen : Past) (P Q : Type 0) → old ≡ seen → Does call old mid done
    → OnOk result (IsOk done × P) → OnErr result (IsErr done × Q) → new ≡ mid → Does call seen new result
does_counted (Ok a) (Ok b) call old mid new seen P Q is does ok err same = record { ok = same ∙ does.ok ∙ ap (λ past. with_call past call) is; err = tt }
does_counted (Ok a) (Err b) call old mid new seen P Q is does ok err same = absurd (cc err.0)
does_counted (Err a) (Ok b) call old mid new seen P Q is does ok err same = absurd (cc ok.0)
does_counted (Err a) (Err b) call old mid new seen P Q is does ok err same = record { ok = tt; err = same ∙ does.err ∙ is }

-- ---- what a caller knows that makes packs one by one

pub made_there : (before now : Packs) (n : ℕ) → now ≡ insert before n [] → is_some (get now n) ≡ true
made_there before now n made = ap (λ packs. is_some (get packs n)) made ∙ ap is_some (get_at before n [] n) ∙ ap (λ b. is_some (cond b (Some []) (get before n))) (same_true n)

pub made_other : (before now : Packs) (n m : ℕ) → now ≡ insert before n [] → m ≢ n → get now m ≡ get before m
made_other before now n m made other = ap (λ packs. get packs m) made ∙ get_at before n [] m ∙ ap (λ b. cond b (Some []) (get before m)) (ne_eqb m n other)

pub nothing_told : (past : Past) (n : ℕ) → past ≡ no_past → get (told past) n ≡ None
unfolding told_from
nothing_told past n none = ap (λ p. get (told p) n) none ∙ get-empty nat_cmp n
