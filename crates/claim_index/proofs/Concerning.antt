-- Once a ref is judged, the rows of holders are right but for those whom it concerns.
use Rattle.std.proofs.Common.{◌≡◌, ℕ, zero, suc, Bool, true, false, ◌&&◌, ◌||◌, List, [], ◌∷◌, map, Option, Some, None, refl, sym, ap, ◌∙◌, ◌⊎◌, inl, inr}
use Rattle.std.specs.Prelude.{slice_get}
use Rattle.std.proofs.lemmas.Bool.{cases_Bool, and_parts, false≢true}
use Rattle.std.proofs.lemmas.Slice.Eq.{bytes_eq-Decides}
use Rattle.std.specs.List.{list_any}
use Rattle.std.specs.Str.{bytes_eq}
use Rattle.std.specs.FinMap.{get, contains_key}
use Rattle.claim_verify.specs.Verifier.{Accepts}
use Rattle.schema_fact.specs.declared.kinds.Fact.{Fact}
use Rattle.schema_fact.specs.declared.kinds.Kind.{Kind}
use Rattle.schema_fact.specs.declared.kinds.Kind.TheVariants.{Plain, Key, File, Bytes, Directory, StaticSet, Permanode, Claim, Unread}
use Rattle.claim_model.specs.Facts.{Facts, passes, is_permanode}
use Rattle.schema_fact.specs.declared.changes.Change.{Change}
use Rattle.schema_fact.specs.Changes.{changes_of}
use Rattle.claim_model.specs.Claims.{Moment}
use Rattle.index_rows.specs.declared.rows.StateRow.{StateRow}
use Rattle.index_rows.specs.Changes.{Changes}
use Rattle.index_rows.specs.Deletes.{Deletes}
use Rattle.index_rows.specs.States.{States, says_genuine}
use Rattle.index_rows.specs.Values.{IsListed}
use Rattle.index_rows.specs.Holders.{Holders, says_permanode, IsHeldBut}
use Rattle.index_meaning.specs.Meaning.{is_change_on}
use Rattle.index_meaning.specs.Laws.{IsUnconcerned}
use Rattle.index_meaning.proofs.Growth.{held_stays}
use Rattle.claim_index.specs.Judging.{marked, is_signed_at, fits_at, IsMarked, IsChanged}

-- whom a signed blob of this kind concerns
abbrev pub concerned_of : List ℕ → Kind → List (List ℕ)
concerned_of x Plain = []
concerned_of x (Key name) = []
concerned_of x (File name parts) = []
concerned_of x (Bytes parts) = []
concerned_of x (Directory name listing) = []
concerned_of x (StaticSet members) = []
concerned_of x (Permanode signed) = x ∷ []
concerned_of x (Claim signed date what) = map (λ change. change.on) (changes_of what)
concerned_of x (Unread name) = []

abbrev pub fact_concerned : List ℕ → Option Fact → List (List ℕ)
fact_concerned x None = []
fact_concerned x (Some fact) = concerned_of x fact.kind

-- a change at a place of a list is on one of those whom the list is on
changed_on : (q : List ℕ) (changes : List Change) (place : ℕ) → passes (λ change. bytes_eq q change.on) (slice_get changes place) ≡ true
    → list_any (bytes_eq q) (map (λ change. change.on) changes) ≡ true
changed_on q [] place h = absurd (false≢true h)
changed_on q (c ∷ cs) zero h = ap (λ b. b || list_any (bytes_eq q) (map (λ change. change.on) cs)) h
changed_on q (c ∷ cs) (suc place) h = or_true (bytes_eq q c.on) (changed_on q cs place h)
  where
    or_true : (a : Bool) → list_any (bytes_eq q) (map (λ change. change.on) cs) ≡ true → (a || list_any (bytes_eq q) (map (λ change. change.on) cs)) ≡ true
    or_true true t = refl
    or_true false t = t

kind_changed : (q x : List ℕ) (k : Moment) (kind : Kind) → is_change_on q k kind ≡ true → list_any (bytes_eq q) (concerned_of x kind) ≡ true
kind_changed q x k Plain h = absurd (false≢true h)
kind_changed q x k (Key name) h = absurd (false≢true h)
kind_changed q x k (File name parts) h = absurd (false≢true h)
kind_changed q x k (Bytes parts) h = absurd (false≢true h)
kind_changed q x k (Directory name listing) h = absurd (false≢true h)
kind_changed q x k (StaticSet members) h = absurd (false≢true h)
kind_changed q x k (Permanode signed) h = absurd (false≢true h)
kind_changed q x k (Claim signed date what) h = changed_on q (changes_of what) k.2 (and_parts _ _ h).1
kind_changed q x k (Unread name) h = absurd (false≢true h)

kind_permanode : (q x : List ℕ) (kind : Kind) → bytes_eq q x ≡ true → is_permanode kind ≡ true → list_any (bytes_eq q) (concerned_of x kind) ≡ true
kind_permanode q x Plain t h = absurd (false≢true h)
kind_permanode q x (Key name) t h = absurd (false≢true h)
kind_permanode q x (File name parts) t h = absurd (false≢true h)
kind_permanode q x (Bytes parts) t h = absurd (false≢true h)
kind_permanode q x (Directory name listing) t h = absurd (false≢true h)
kind_permanode q x (StaticSet members) t h = absurd (false≢true h)
kind_permanode q x (Permanode signed) t h = ap (λ b. b || false) t
kind_permanode q x (Claim signed date what) t h = absurd (false≢true h)
kind_permanode q x (Unread name) t h = absurd (false≢true h)

module _ (facts : Facts) (accepts : Accepts) (before after : States) (changes listed : Changes) (x : List ℕ)
    (marks : IsMarked facts accepts before after x) (puts : IsChanged facts accepts changes listed x) (fresh : says_genuine before x ≡ false)
    (concerned : List (List ℕ))
    (covers : (q : List ℕ) → is_signed_at facts accepts x ≡ true → list_any (bytes_eq q) (fact_concerned x (get facts x)) ≡ true → list_any (bytes_eq q) concerned ≡ true) where
  -- a row of another ref says what it said
  others_stay : (y : List ℕ) → bytes_eq y x ≡ false → says_genuine after y ≡ says_genuine before y
  others_stay y f = ap (passes (λ (row : StateRow). row.genuine)) (marks y ∙ ap (λ b. marked b (is_signed_at facts accepts x) (fits_at facts before x) (get before y)) f)

  -- that of x says at most that it is signed
  own_signed : (b s : Bool) (o : Option StateRow) → passes (λ (row : StateRow). row.genuine) o ≡ false
      → passes (λ (row : StateRow). row.genuine) (marked true b s o) ≡ true → b ≡ true
  own_signed true s o was h = refl
  own_signed false true None was h = absurd (false≢true h)
  own_signed false true (Some row) was h = absurd (false≢true h)
  own_signed false false o was h = absurd (false≢true (sym was ∙ h))

  genuine_grows : (y : List ℕ) → says_genuine before y ≡ true → says_genuine after y ≡ true
  genuine_grows y h = by (cases_Bool (bytes_eq y x))
    where
      by : (bytes_eq y x ≡ true) ⊎ (bytes_eq y x ≡ false) → says_genuine after y ≡ true
      by (inl t) = absurd (false≢true (sym (ap (says_genuine before) ((bytes_eq-Decides y x).0 t) ∙ fresh) ∙ h))
      by (inr f) = others_stay y f ∙ h

  rows_grow : (p : List ℕ) (k : Moment) → contains_key changes (p, k) ≡ true → contains_key listed (p, k) ≡ true
  rows_grow p k h = puts p k ∙ ap (λ b. b || (bytes_eq k.1 x && (is_signed_at facts accepts x && passes (λ (fact : Fact). is_change_on p k fact.kind) (get facts x)))) h

  uncovered : (q : List ℕ) → list_any (bytes_eq q) concerned ≡ false → is_signed_at facts accepts x ≡ true → list_any (bytes_eq q) (fact_concerned x (get facts x)) ≡ true → ⊥
  uncovered q out signed there = false≢true (sym out ∙ covers q signed there)

  -- a change of x is on someone whom it concerns
  no_change : (q : List ℕ) → list_any (bytes_eq q) concerned ≡ false → (k : Moment)
      → (bytes_eq k.1 x && (is_signed_at facts accepts x && passes (λ (fact : Fact). is_change_on q k fact.kind) (get facts x))) ≡ true → ⊥
  no_change q out k h =
      let one = and_parts (bytes_eq k.1 x) (is_signed_at facts accepts x && passes (λ (fact : Fact). is_change_on q k fact.kind) (get facts x)) h in
      let two = and_parts (is_signed_at facts accepts x) (passes (λ (fact : Fact). is_change_on q k fact.kind) (get facts x)) one.1 in
      uncovered q out two.0 (there (get facts x) two.1)
    where
      there : (o : Option Fact) → passes (λ (fact : Fact). is_change_on q k fact.kind) o ≡ true → list_any (bytes_eq q) (fact_concerned x o) ≡ true
      there None t = absurd (false≢true t)
      there (Some fact) t = kind_changed q x k fact.kind t

  -- x says that it is a genuine permanode after only where it is concerned
  permanode_stays : (q : List ℕ) → list_any (bytes_eq q) concerned ≡ false → says_permanode facts after q ≡ says_permanode facts before q
  permanode_stays q out = by (cases_Bool (bytes_eq q x))
    where
      is_one : Bool
      is_one = passes (λ (fact : Fact). is_permanode fact.kind) (get facts q)

      both_false : (a b c : Bool) → c ≡ false → (a ≡ true → b ≡ true → ⊥) → (a && b) ≡ (a && c)
      both_false true true c e never = absurd (never refl refl)
      both_false true false c e never = sym e
      both_false false b c e never = refl

      by : (bytes_eq q x ≡ true) ⊎ (bytes_eq q x ≡ false) → says_permanode facts after q ≡ says_permanode facts before q
      by (inr f) = ap (λ b. is_one && b) (others_stay q f)
      by (inl t) = both_false is_one (says_genuine after q) (says_genuine before q) was never
        where
          same : q ≡ x
          same = (bytes_eq-Decides q x).0 t

          was : says_genuine before q ≡ false
          was = ap (says_genuine before) same ∙ fresh

          there : (o : Option Fact) → passes (λ (fact : Fact). is_permanode fact.kind) o ≡ true → list_any (bytes_eq q) (fact_concerned x o) ≡ true
          there None h = absurd (false≢true h)
          there (Some fact) h = kind_permanode q x fact.kind t h

          never : is_one ≡ true → says_genuine after q ≡ true → ⊥
          never one genuine = uncovered q out
              (own_signed (is_signed_at facts accepts x) (fits_at facts before x) (get before q) was
              (sym (ap (passes (λ (row : StateRow). row.genuine)) (marks q ∙ ap (λ b. marked b (is_signed_at facts accepts x) (fits_at facts before x) (get before q)) t)) ∙ genuine))
              (there (get facts x) (sym (ap (λ z. passes (λ (fact : Fact). is_permanode fact.kind) (get facts z)) same) ∙ one))

  unconcerned : (deletes : Deletes) (q : List ℕ) → list_any (bytes_eq q) concerned ≡ false → IsUnconcerned facts facts before after deletes deletes changes listed q
  unconcerned deletes q out = record {
    permanode = permanode_stays q out;
    deleted = λ h. refl;
    group = λ h k. puts q k ∙ no_more (contains_key changes (q, k)) _ (no_change q out k);
    claims = λ h k there. refl;
  }
    where
      no_more : (a b : Bool) → (b ≡ true → ⊥) → (a || b) ≡ a
      no_more true b never = refl
      no_more false true never = absurd (never refl)
      no_more false false never = refl

  pub held_once_judged : (but : List (List ℕ)) (deletes : Deletes) (holders : Holders) → ((q : List ℕ) → list_any (bytes_eq q) but ≡ true → list_any (bytes_eq q) concerned ≡ true)
      → IsListed facts before changes → IsHeldBut but facts before deletes changes holders → IsHeldBut concerned facts after deletes listed holders
  held_once_judged but deletes holders wider rows held =
      held_stays but concerned facts facts before after deletes deletes changes listed holders held rows
      (record { within = λ r fact h. h; genuine = genuine_grows; rows = rows_grow })
      (λ q out. not_in q (list_any (bytes_eq q) but) (wider q) out)
      (λ q out. unconcerned deletes q out)
    where
      not_in : (q : List ℕ) (a : Bool) → (a ≡ true → list_any (bytes_eq q) concerned ≡ true) → list_any (bytes_eq q) concerned ≡ false → a ≡ false
      not_in q true h out = absurd (false≢true (sym out ∙ h refl))
      not_in q false h out = refl
