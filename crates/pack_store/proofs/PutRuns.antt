-- What calls on a store make of the packs of its disk.
use Rattle.std.proofs.Common.{◌≡◌, ◌⊎◌, inl, inr, ℕ, ◌-◌, ◌≤◌, ◌||◌, ◌&&◌, Bool, true, false, cond, Option, None, Some, Result, Ok, Err, OnOk, List, [], ◌∷◌, ◌++◌, length, nat_le, nat_lt, refl, sym, ap, subst, ◌∙◌, arith}
use Rattle.std.proofs.lemmas.Bool.{leb-true, ltb-true}
use Rattle.std.proofs.lemmas.List.{length-map}
use Rattle.std.specs.Cmp.Lexicographic.{nat_list_cmp_total}
use Rattle.std.specs.FinMap.{get, entries, from_entries, get-from_entries, from_entries_push, slice_cmp-IsAntisymmetric, nat_cmp-IsAntisymmetric}
use Rattle.std.specs.Option.{ForSome, option_map, option_or, is_some}
use Rattle.blobref.specs.Blobref.{IsOwnRef, ref_cmp}
use Rattle.edge_base.specs.Edge.{FaultsRose}
use Rattle.edge_base.specs.declared.answers.Put.{Put as Answer}
use Rattle.edge_base.specs.declared.answers.Put.TheVariants as put
use Rattle.edge_base.specs.declared.answers.PutFault.{PutFault}
use Rattle.edge_base.specs.declared.answers.PutFault.TheVariants as fault
use Rattle.pack_format.specs.Header.{max_size}
use Rattle.salvage_scan.specs.Arrivals.{arrivals}
use Rattle.pack_disk.specs.Packs.{Packs}
use Rattle.pack_disk.specs.Disk.{Tells}
use Rattle.pack_disk.specs.declared.disk.Disk.{Ghosts}
use Rattle.pack_store.specs.declared.limits.Limits.{Limits}
use Rattle.pack_store.specs.Rows.{arrival_of, arrivals_in, number_of}
use Rattle.pack_store.specs.Archive.{Archive, count, greatest, needs_pack, is_filled, is_full}
use Rattle.pack_store.specs.Adding.{AddsRecord}
use Rattle.pack_store.specs.Packs.{HeldByAll, KeepsAll}
use Rattle.pack_store.specs.Putting.{early_answer_own, Answers, Leaves, Stores, target, pack_of}
use Rattle.pack_store.specs.PutsLast.{PutsLast, GoesOn}
use Rattle.pack_store.specs.Puts.{blobs_of, has_blob, is_full_on, target_on, PutsOne, PutsAll, IsFull, IsAtLimit, Stands, PutsBlobs, PutLeaves}
use Rattle.pack_store.specs.Reading.{StaysStill}
use Rattle.pack_store.proofs.Blobs.{get-blobs, has_number, none_of_some}
use Rattle.pack_store.proofs.Moments.{tells_before, stays_keeps}
use Rattle.pack_store.specs.RunLaws.{told_nothing, told_one, puts_nothing}

abbrev PutAnswer : Type 0
PutAnswer = Result Answer PutFault

-- ---- which answer was settled

abbrev settled_by : Bool → Option ℕ → Bool → ℕ → ℕ → ℕ → Option PutAnswer
settled_by long number full size blobs pack =
    cond long (Some (Err (fault.TooBig size))) (option_or (option_map (λ (n : ℕ). Ok (put.Already n)) number) (cond full (Some (Err (fault.Full blobs pack))) None))

pub stored_when : (long : Bool) (number : Option ℕ) (full : Bool) (size blobs pack next n : ℕ) → Answers (settled_by long number full size blobs pack) next (Ok (put.Stored n)) → (is_some number ≡ false) × (full ≡ false)
stored_when true number full size blobs pack next n a = absurd (cc a)
stored_when false (Some m) full size blobs pack next n a = absurd (cc a)
stored_when false None true size blobs pack next n a = absurd (cc a)
stored_when false None false size blobs pack next n a = (refl, refl)

pub already_when : (long : Bool) (number : Option ℕ) (full : Bool) (size blobs pack next n : ℕ) → Answers (settled_by long number full size blobs pack) next (Ok (put.Already n)) → is_some number ≡ true
already_when true number full size blobs pack next n a = absurd (cc a)
already_when false (Some m) full size blobs pack next n a = refl
already_when false None true size blobs pack next n a = absurd (cc a)
already_when false None false size blobs pack next n a = absurd a

record WasFull (number : Option ℕ) (full : Bool) (blobs pack b p : ℕ) : Type 0 where
  lacking : is_some number ≡ false
  is_full_then : full ≡ true
  blobs_are : b ≡ blobs
  pack_is : p ≡ pack

full_when : (long : Bool) (number : Option ℕ) (full : Bool) (size blobs pack next b p : ℕ) → Answers (settled_by long number full size blobs pack) next (Err (fault.Full b p)) → WasFull number full blobs pack b p
full_when true number full size blobs pack next b p a = absurd (cc a)
full_when false (Some m) full size blobs pack next b p a = absurd (cc a)
full_when false None true size blobs pack next b p a = record { lacking = refl; is_full_then = refl; blobs_are = cc a; pack_is = cc a }
full_when false None false size blobs pack next b p a = absurd a

big_when : (long : Bool) (number : Option ℕ) (full : Bool) (size blobs pack next n : ℕ) → Answers (settled_by long number full size blobs pack) next (Err (fault.TooBig n)) → (long ≡ true) × (n ≡ size)
big_when true number full size blobs pack next n a = (refl, cc a)
big_when false (Some m) full size blobs pack next n a = absurd (cc a)
big_when false None true size blobs pack next n a = absurd (cc a)
big_when false None false size blobs pack next n a = absurd a

digest_never : (long : Bool) (number : Option ℕ) (full : Bool) (size blobs pack next : ℕ) (said is : List ℕ) → Answers (settled_by long number full size blobs pack) next (Err (fault.BadDigest said is)) → ⊥
digest_never true number full size blobs pack next said is a = cc a
digest_never false (Some m) full size blobs pack next said is a = cc a
digest_never false None true size blobs pack next said is a = cc a
digest_never false None false size blobs pack next said is a = a

at_limit : (b p next last blobs : ℕ) (needs : Bool) → (nat_le blobs b || (needs && nat_lt last next)) ≡ true → p ≡ next - 1 → (blobs ≤ b) ⊎ (last ≤ p)
at_limit b p next last blobs needs full is = go (nat_le blobs b) refl full
  where
    go : (c : Bool) → nat_le blobs b ≡ c → (c || (needs && nat_lt last next)) ≡ true → (blobs ≤ b) ⊎ (last ≤ p)
    go true le h = inl (leb-true blobs b le)
    go false gt h = inr (below needs h)
      where
        below : (n : Bool) → (n && nat_lt last next) ≡ true → last ≤ p
        below true lt = omega (arith, ltb-true last next lt, is)
        below false no_lt = absurd (cc no_lt)

-- ---- what is told before and after

tells_more : (a b : Option Packs) (P Q : Packs → Packs → Type 0) → Tells a b P → ((x y : Packs) → a ≡ Some x → P x y → Q x y) → Tells a b Q
tells_more None None P Q t f = tt
tells_more None (Some y) P Q t f = absurd t
tells_more (Some x) None P Q t f = absurd t
tells_more (Some x) (Some y) P Q t f = f x y refl t

tells_itself : (a : Option Packs) (P : Packs → Packs → Type 0) → ((x : Packs) → a ≡ Some x → P x x) → Tells a a P
tells_itself None P f = tt
tells_itself (Some x) P f = f x refl

tells_at : (a b : Option Packs) (P : Packs → Packs → Type 0) (x y : Packs) → a ≡ Some x → b ≡ Some y → Tells a b P → P x y
tells_at a b P x y ea eb t = let both = subst (λ o. Tells o b P) ea t in subst (λ o. Tells (Some x) o P) eb both

-- ---- a blob that is put, into a store that is as its disk says

module _ {D : Type 0} (g : Ghosts D) (limits : Limits) (s new : Archive D) (r bytes : List ℕ) (own : IsOwnRef r bytes) (puts_last : PutsLast g) where
  abbrev Says : PutAnswer → Type 0
  Says answer = Answers (early_answer_own s r (length bytes)) (count s) answer

  module _ (stands : Stands g limits s) where
    counted : (held : Packs) → g.packs s.disk ≡ Some held → count s ≡ length (arrivals (entries held))
    counted held tells = sym (length-map s.rows (arrival_of held)) ∙ ap (λ (l : List (List ℕ × List ℕ)). length l) (stands.arrived held tells)

    full_as : (held : Packs) → g.packs s.disk ≡ Some held → is_full s ≡ is_full_on limits held
    full_as held tells = λ i. nat_le (stands.limited i).blobs (counted held tells i) || (is_filled (stands.limited i).pack_bytes (stands.current held tells i) && nat_lt (stands.limited i).last_pack (stands.next held tells i))

    target_as : (held : Packs) → g.packs s.disk ≡ Some held → target s ≡ target_on limits held
    target_as held tells = λ i. pack_of (is_filled (stands.limited i).pack_bytes (stands.current held tells i)) (stands.next held tells i) (stands.current held tells i)

    goes_on : (held : Packs) → g.packs s.disk ≡ Some held → GoesOn held s
    goes_on held tells = record { next = stands.next held tells; current = stands.current held tells }

    module _ (small : length bytes ≤ max_size) (n : ℕ) (a : Says (Ok (put.Stored n))) (l : Stores g s new r bytes) where
      abbrev when : (is_some (number_of r s.rows) ≡ false) × (is_full s ≡ false)
      when = stored_when (nat_lt max_size (length bytes)) (number_of r s.rows) (is_full s) (length bytes) (count s) (greatest s) (count s) n a

      lacked : (held : Packs) → g.packs s.disk ≡ Some held → has_blob held r ≡ false
      lacked held tells = has_number r held s.rows (stands.arrived held tells) ∙ when.0

      arrived : (held now : Packs) → g.packs s.disk ≡ Some held → AddsRecord (target s) r bytes held now → arrivals (entries now) ≡ arrivals (entries held) ++ (r, bytes) ∷ []
      arrived held now tells adds = puts_last.arrived s held now r bytes (goes_on held tells) own small (sym (get-blobs held r) ∙ none_of_some (get (blobs_of held) r) (lacked held tells)) adds

      stored_stands : Stands g limits new
      stored_stands = record {
        limited = ap (λ t. t.limits) l.value ∙ stands.limited;
        arrived = λ now tells. let was = tells_before (g.packs s.disk) (g.packs new.disk) (AddsRecord (target s) r bytes) now l.added tells in
            tells_at (g.packs s.disk) (g.packs new.disk) (λ before now. arrivals_in now new.rows ≡ arrivals_in before s.rows ++ (r, bytes) ∷ []) was.0 now was.1 tells l.arrived
            ∙ ap (λ front. front ++ (r, bytes) ∷ []) (stands.arrived was.0 was.1) ∙ sym (arrived was.0 now was.1 was.2);
        next = λ now tells. let was = tells_before (g.packs s.disk) (g.packs new.disk) (AddsRecord (target s) r bytes) now l.added tells in
            (puts_last.goes_on s new was.0 now r bytes (goes_on was.0 was.1) own small was.1 tells l).next;
        current = λ now tells. let was = tells_before (g.packs s.disk) (g.packs new.disk) (AddsRecord (target s) r bytes) now l.added tells in
            (puts_last.goes_on s new was.0 now r bytes (goes_on was.0 was.1) own small was.1 tells l).current;
      }

      stored_packs : Tells (g.packs s.disk) (g.packs new.disk) (PutsOne limits (r, bytes))
      stored_packs = tells_more (g.packs s.disk) (g.packs new.disk) (AddsRecord (target s) r bytes) (PutsOne limits (r, bytes)) l.added (λ held now tells adds. inr (record {
        lacked = lacked held tells;
        room = sym (full_as held tells) ∙ when.1;
        added = subst (λ n. AddsRecord n r bytes held now) (target_as held tells) adds;
        gains = ap (from_entries {R = ref_cmp}) (arrived held now tells adds)
            ∙ from_entries_push nat_list_cmp_total (slice_cmp-IsAntisymmetric nat_cmp-IsAntisymmetric) (arrivals (entries held)) r bytes
            (sym (get-from_entries nat_list_cmp_total (arrivals (entries held)) r) ∙ none_of_some (get (blobs_of held) r) (lacked held tells));
      }))

    stood_packs : (n : ℕ) → Says (Ok (put.Already n)) → new ≡ s → Tells (g.packs s.disk) (g.packs new.disk) (PutsOne limits (r, bytes))
    stood_packs n a same = subst (λ t. Tells (g.packs s.disk) (g.packs t.disk) (PutsOne limits (r, bytes))) (sym same) (tells_itself (g.packs s.disk) (PutsOne limits (r, bytes)) (λ held tells.
        inl (has_number r held s.rows (stands.arrived held tells) ∙ already_when (nat_lt max_size (length bytes)) (number_of r s.rows) (is_full s) (length bytes) (count s) (greatest s) (count s) n a, refl)))

    no_room : (blobs pack : ℕ) → Says (Err (fault.Full blobs pack)) → IsAtLimit limits blobs pack × ForSome (g.packs s.disk) (IsFull limits (r, bytes) blobs pack)
    no_room blobs pack a =
        let f = full_when (nat_lt max_size (length bytes)) (number_of r s.rows) (is_full s) (length bytes) (count s) (greatest s) (count s) blobs pack a in
        let same = ap (λ l. nat_le l.blobs (count s) || (needs_pack s && nat_lt l.last_pack s.next)) stands.limited in
        let limit = at_limit (count s) (greatest s) s.next limits.last_pack limits.blobs (needs_pack s) (sym same ∙ f.is_full_then) refl in (
          subst (λ b. IsAtLimit limits b pack) (sym f.blobs_are) (subst (λ p. IsAtLimit limits (count s) p) (sym f.pack_is) limit),
          λ held tells. record {
            lacking = has_number r held s.rows (stands.arrived held tells) ∙ f.lacking;
            full = sym (full_as held tells) ∙ f.is_full_then;
            blobs_are = f.blobs_are ∙ counted held tells;
            pack_is = f.pack_is ∙ ap (λ n. n - 1) (stands.next held tells);
          },
        )

-- ---- what each call leaves

module _ {D : Type 0} (g : Ghosts D) (limits : Limits)
    (counts_now : (d : D) (t : ℕ) (c : Packs) → t ≤ g.moment d → g.images d c → g.images_since d t c)
    (only_now : (d : D) (c : Packs) → g.images_since d (g.moment d) c → g.images d c) where
  -- a call that reads puts nothing
  pub reading_puts_nothing : (s new : Archive D) → StaysStill g s new → PutsBlobs g limits s [] new
  reading_puts_nothing s new still = record {
    own = tt;
    crash = stays_keeps g counts_now only_now s.disk new.disk still.stays;
    still = λ _. still.stays;
    same_rows = λ _. ap (λ t. t.rows) still.value;
    held = tt;
    stands = λ h. record {
      limited = ap (λ t. t.limits) still.value ∙ h.limited;
      arrived = λ held tells. ap (λ t. arrivals_in held t.rows) still.value ∙ h.arrived held (sym still.stays.told ∙ tells);
      next = λ held tells. ap (λ t. t.next) still.value ∙ h.next held (sym still.stays.told ∙ tells);
      current = λ held tells. ap (λ t. t.current) still.value ∙ h.current held (sym still.stays.told ∙ tells);
    };
    packs = λ _. subst (λ p. Tells (g.packs s.disk) p (PutsAll limits [])) (sym still.stays.told) (told_nothing limits (g.packs s.disk));
    same_limits = ap (λ t. t.limits) still.value;
  }

  module _ (s new : Archive D) (r bytes : List ℕ) (own : IsOwnRef r bytes) (puts_last : PutsLast g) where
    abbrev Answered : PutAnswer → Type 0
    Answered answer = Answers (early_answer_own s r (length bytes)) (count s) answer

    same_puts : new ≡ s → PutsBlobs g limits s [] new
    same_puts e = subst (PutsBlobs g limits s []) (sym e) (puts_nothing g limits counts_now only_now s)

    is_long : (n : ℕ) → Answered (Err (fault.TooBig n)) → (nat_lt max_size (length bytes) ≡ true) × (n ≡ length bytes)
    is_long n a = big_when (nat_lt max_size (length bytes)) (number_of r s.rows) (is_full s) (length bytes) (count s) (greatest s) (count s) n a

    module _ (small : length bytes ≤ max_size) (crash : KeepsAll g s.disk new.disk) where
      kept : (answer : Answer) → Answered (Ok answer) → Leaves g s new r bytes (Ok answer) → HeldByAll (g.images new.disk) r → PutsBlobs g limits s ((r, bytes) ∷ []) new
      kept (put.Stored n) a l held = record {
        own = (own, tt);
        crash = crash;
        still = λ e. absurd (cc e);
        same_rows = λ e. absurd (cc e);
        held = (held, tt);
        stands = λ h. stored_stands g limits s new r bytes own puts_last h small n a l;
        packs = λ h. told_one limits (g.packs s.disk) (g.packs new.disk) (r, bytes) (stored_packs g limits s new r bytes own puts_last h small n a l);
        same_limits = ap (λ t. t.limits) l.value;
      }
      kept (put.Already n) a l held = record {
        own = (own, tt);
        crash = crash;
        still = λ e. absurd (cc e);
        same_rows = λ e. absurd (cc e);
        held = (held, tt);
        stands = λ h. subst (Stands g limits) (sym l) h;
        packs = λ h. told_one limits (g.packs s.disk) (g.packs new.disk) (r, bytes) (stood_packs g limits s new r bytes own puts_last h n a l);
        same_limits = ap (λ t. t.limits) l;
      }

      refused : (e : PutFault) → Answered (Err e) → Leaves g s new r bytes (Err e) → (◌≡◌ {A = PutAnswer} (Err e) (Err fault.Disk) → FaultsRose (g.faults s.disk) (g.faults new.disk))
          → PutLeaves g limits s new (r, bytes) (Err e)
      refused (fault.TooBig size) a l rose = let big = is_long size a in (same_puts l, big.1, omega (arith, ltb-true max_size (length bytes) big.0, big.1))
      refused (fault.BadDigest said other) a l rose =
          absurd (digest_never (nat_lt max_size (length bytes)) (number_of r s.rows) (is_full s) (length bytes) (count s) (greatest s) (count s) said other a)
      refused (fault.Full blobs pack) a l rose =
          (same_puts l, λ h. subst (λ (t : Archive D). IsAtLimit limits blobs pack × ForSome (g.packs t.disk) (IsFull limits (r, bytes) blobs pack)) (sym l) (no_room g limits s new r bytes own puts_last (subst (Stands g limits) l h) blobs pack a))
      refused fault.Disk a l rose = rose refl
      refused fault.NoMemory a l rose = same_puts l

      -- a blob that is put under its own ref
      pub put_leaves : (answer : PutAnswer) → Answered answer → Leaves g s new r bytes answer → OnOk answer (HeldByAll (g.images new.disk) r)
          → (answer ≡ Err fault.Disk → FaultsRose (g.faults s.disk) (g.faults new.disk)) → PutLeaves g limits s new (r, bytes) answer
      put_leaves (Ok answer) a l held rose = kept answer a l held
      put_leaves (Err e) a l held rose = refused e a l rose
