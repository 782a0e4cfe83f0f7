-- What every image since a moment holds, over a run of calls.
use Rattle.std.proofs.Common.{◌≡◌, inl, inr, ⊎_elim, ℕ, ◌≤◌, List, true, Option, Some, None, Result, Ok, Err, OnOk, is_err, false, refl, subst, arith}
use Rattle.pack_disk.specs.Packs.{Packs}
use Rattle.pack_disk.specs.declared.disk.Disk.{Ghosts}
use Rattle.pack_disk.specs.Disk.{Extends, Makes, Follows, NoNew, Elapses, Tells}
use Rattle.pack_disk.specs.Runs.{Stays}
use Rattle.pack_store.specs.Packs.{holds, CleanIn, HeldByAll, KeepsAll}
pub use Rattle.pack_store.specs.RunLaws.{keeps_itself, keeps_then, held_after, stays_itself, stays_images, stays_then}
use Rattle.pack_store.proofs.Held.{extends_keeps, makes_keeps}

pub some_packs : (x y : Packs) → Some x ≡ Some y → x ≡ y
some_packs x y e = cc e

module _ {D : Type 0} (g : Ghosts D)
    (counts_now : (d : D) (t : ℕ) (c : Packs) → t ≤ g.moment d → g.images d c → g.images_since d t c)
    (only_now : (d : D) (c : Packs) → g.images_since d (g.moment d) c → g.images d c) where
  abbrev Keeps : D → D → Type 0
  Keeps old new = KeepsAll g old new

  -- one call
  pub keeps_by_call : (old new : D) → Elapses (g.moment old) (g.moment new) (g.images_since old) (g.images_since new) (g.images new)
      → ((c : Packs) → g.images new c → (r : List ℕ) → HeldByAll (g.images old) r → holds r c ≡ true) → Keeps old new
  keeps_by_call old new time now = record {
    later = time.later;
    each = λ c since r held. ⊎_elim (λ was. held c (only_now old c was)) (λ is. now c is r held) (time.nothing_else (g.moment old) c (omega arith) since);
    before = λ t c le since. ⊎_elim inl (λ is. inr (now c is)) (time.nothing_else t c le since);
  }

  -- ---- the calls

  pub keeps_make : (old new : D) (n : ℕ) → Elapses (g.moment old) (g.moment new) (g.images_since old) (g.images_since new) (g.images new)
      → Follows (Makes n) (g.images old) (g.images new) → Keeps old new
  keeps_make old new n time crash = keeps_by_call old new time (λ c is r held. let from = crash c is in makes_keeps r n from.0 c from.2 (held from.0 from.1))

  pub keeps_append : (old new : D) (n : ℕ) → Elapses (g.moment old) (g.moment new) (g.images_since old) (g.images_since new) (g.images new)
      → Follows (Extends n) (g.images old) (g.images new) → CleanIn (g.images old) n → Keeps old new
  keeps_append old new n time crash clean = keeps_by_call old new time (λ c is r held. let from = crash c is in extends_keeps r n from.0 c from.2 (clean from.0 from.1) (held from.0 from.1))

  pub keeps_no_new : (old new : D) → Elapses (g.moment old) (g.moment new) (g.images_since old) (g.images_since new) (g.images new)
      → NoNew (g.images old) (g.images new) → Keeps old new
  keeps_no_new old new time crash = keeps_by_call old new time (λ c is r held. held c (crash c is))

-- ---- what a disk tells

pub ok_told : {A B P : Type 0} (r : Result A B) → is_err r ≡ false → OnOk r P → P
ok_told (Ok a) is h = h
ok_told (Err b) is h = absurd (cc is)

pub on_ok : {A B P Q : Type 0} (r : Result A B) → (P → Q) → OnOk r P → OnOk r Q
on_ok (Ok a) f h = f h
on_ok (Err b) f h = h

pub tells_before : (a b : Option Packs) (P : Packs → Packs → Type 0) (qs : Packs) → Tells a b P → b ≡ Some qs → (ps : Packs) × (a ≡ Some ps) × P ps qs
tells_before None None P qs t is = absurd (cc is)
tells_before None (Some x) P qs t is = absurd t
tells_before (Some ps) None P qs t is = absurd t
tells_before (Some ps) (Some x) P qs t is = (ps, refl, subst (P ps) (some_packs x qs is) t)

pub tells_after : (a b : Option Packs) (P : Packs → Packs → Type 0) (ps : Packs) → Tells a b P → a ≡ Some ps → (qs : Packs) × (b ≡ Some qs) × P ps qs
tells_after None None P ps t is = absurd (cc is)
tells_after None (Some x) P ps t is = absurd t
tells_after (Some x) None P ps t is = absurd t
tells_after (Some x) (Some qs) P ps t is = (qs, refl, subst (λ y. P y qs) (some_packs x ps is) t)

-- ---- calls that change nothing

module _ {D : Type 0} (g : Ghosts D)
    (counts_now : (d : D) (t : ℕ) (c : Packs) → t ≤ g.moment d → g.images d c → g.images_since d t c)
    (only_now : (d : D) (c : Packs) → g.images_since d (g.moment d) c → g.images d c) where
  abbrev Stay : D → D → Type 0
  Stay old new = Stays g old new

  pub stays_by_call : (old new : D) → g.packs new ≡ g.packs old → Elapses (g.moment old) (g.moment new) (g.images_since old) (g.images_since new) (g.images new)
      → NoNew (g.images old) (g.images new) → Stay old new
  stays_by_call old new told time crash = record {
    told = told;
    since = record {
      later = time.later;
      each = λ c since. ⊎_elim (λ was. only_now old c was) (crash c) (time.nothing_else (g.moment old) c (omega arith) since);
      before = λ t c le since. ⊎_elim inl (λ is. inr (crash c is)) (time.nothing_else t c le since);
    };
  }

  -- what stays keeps every ref
  pub stays_keeps : (old new : D) → Stay old new → KeepsAll g old new
  stays_keeps old new stays = record {
    later = stays.since.later;
    each = λ c since r held. held c (stays.since.each c since);
    before = λ t c le since. ⊎_elim inl (λ is. inr (λ r held. held c is)) (stays.since.before t c le since);
  }
