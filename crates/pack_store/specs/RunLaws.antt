-- The laws of runs of calls: of what every image since a moment holds, and of the blobs that are put.
use Rattle.std.proofs.Common.{◌≡◌, inl, ⊎_elim, inr, ℕ, ◌≤◌, Option, None, Some, List, [], ◌∷◌, ◌++◌, refl, subst, ◌∙◌, arith}
use Rattle.edge_base.specs.ShelfLaws.{HaveOwnRefs-append}
use Rattle.pack_disk.specs.Packs.{Packs}
use Rattle.pack_disk.specs.Disk.{Tells}
use Rattle.pack_disk.specs.Runs.{Stays}
use Rattle.pack_disk.specs.declared.disk.Disk.{Ghosts}
use Rattle.pack_store.specs.declared.limits.Limits.{Limits}
use Rattle.pack_store.specs.Archive.{Archive}
use Rattle.pack_store.specs.Packs.{HeldByAll, KeepsAll}
use Rattle.pack_store.specs.Puts.{Blob, PutsOne, PutsAll, HoldAll, PutsBlobs}
use Rattle.pack_store.specs.StoreShelf.{PutsStore}

-- ---- images

module _ {D : Type 0} (g : Ghosts D)
    (counts_now : (d : D) (t : ℕ) (c : Packs) → t ≤ g.moment d → g.images d c → g.images_since d t c)
    (only_now : (d : D) (c : Packs) → g.images_since d (g.moment d) c → g.images d c) where
  abbrev Keeps : D → D → Type 0
  Keeps old new = KeepsAll g old new

  -- no call
  pub keeps_itself : (d : D) → Keeps d d
  keeps_itself d = record { later = omega arith; each = λ c since r held. held c (only_now d c since); before = λ t c le since. inl since }

  -- one run after another
  pub keeps_then : (a b c : D) → Keeps a b → Keeps b c → Keeps a c
  keeps_then a b c first second =
      let held_on : (r : List ℕ) → HeldByAll (g.images a) r → HeldByAll (g.images b) r = λ r held x is. first.each x (counts_now b (g.moment a) x first.later is) r held in
      record {
        later = omega (arith, first.later, second.later);
        each = λ x since r held. ⊎_elim (λ was. first.each x was r held) (λ kept. kept r (held_on r held)) (second.before (g.moment a) x first.later since);
        before = λ t x le since. ⊎_elim (first.before t x le) (λ kept. inr (λ r held. kept r (held_on r held))) (second.before t x (omega (arith, le, first.later)) since);
      }

  -- what each image held at the start, each image at the end holds
  pub held_after : (old new : D) → Keeps old new → (r : List ℕ) → HeldByAll (g.images old) r → HeldByAll (g.images new) r
  held_after old new keeps r held x is = keeps.each x (counts_now new (g.moment old) x keeps.later is) r held

  -- nothing was changed

  abbrev Stay : D → D → Type 0
  Stay old new = Stays g old new

  pub stays_itself : (d : D) → Stay d d
  stays_itself d = record { told = refl; since = record { later = omega arith; each = λ c since. only_now d c since; before = λ t c le since. inl since } }

  pub stays_images : (old new : D) → Stay old new → (c : Packs) → g.images new c → g.images old c
  stays_images old new stays c is = stays.since.each c (counts_now new (g.moment old) c stays.since.later is)

  pub stays_then : (a b c : D) → Stay a b → Stay b c → Stay a c
  stays_then a b c first second = record {
    told = second.told ∙ first.told;
    since = record {
      later = omega (arith, first.since.later, second.since.later);
      each = λ x since. ⊎_elim (first.since.each x) (stays_images a b first x) (second.since.before (g.moment a) x first.since.later since);
      before = λ t x le since. ⊎_elim (first.since.before t x le) (λ is. inr (stays_images a b first x is)) (second.since.before t x (omega (arith, le, first.since.later)) since);
    };
  }

-- ---- blobs

pub puts_join : (limits : Limits) (first second : List Blob) (before between now : Packs) → PutsAll limits first before between → PutsAll limits second between now
    → PutsAll limits (first ++ second) before now
puts_join limits [] second before between now same all = subst (λ p. PutsAll limits second p now) same all
puts_join limits (b ∷ more) second before between now first all = (first.0, first.1, puts_join limits more second first.0 between now first.2 all)

pub told_join : (a b c : Option Packs) (P Q R : Packs → Packs → Type 0) → Tells a b P → Tells b c Q → ((x y z : Packs) → P x y → Q y z → R x z) → Tells a c R
told_join None None None P Q R first second f = tt
told_join None None (Some z) P Q R first second f = absurd second
told_join None (Some y) c P Q R first second f = absurd first
told_join (Some x) None c P Q R first second f = absurd first
told_join (Some x) (Some y) None P Q R first second f = absurd second
told_join (Some x) (Some y) (Some z) P Q R first second f = f x y z first second

pub told_nothing : (limits : Limits) (a : Option Packs) → Tells a a (PutsAll limits [])
told_nothing limits None = tt
told_nothing limits (Some x) = refl

pub told_one : (limits : Limits) (a b : Option Packs) (blob : Blob) → Tells a b (PutsOne limits blob) → Tells a b (PutsAll limits (blob ∷ []))
told_one limits None None blob t = tt
told_one limits None (Some y) blob t = absurd t
told_one limits (Some x) None blob t = absurd t
told_one limits (Some x) (Some y) blob t = (y, t, refl)

pub hold_join : (images : Packs → Type 0) (first second : List Blob) → HoldAll images first → HoldAll images second → HoldAll images (first ++ second)
hold_join images [] second all more = more
hold_join images (b ∷ rest) second all more = (all.0, hold_join images rest second all.1 more)

pub hold_on : (images now : Packs → Type 0) → ((r : List ℕ) → HeldByAll images r → HeldByAll now r) → (blobs : List Blob) → HoldAll images blobs → HoldAll now blobs
hold_on images now on [] all = tt
hold_on images now on (b ∷ more) all = (on b.0 all.0, hold_on images now on more all.1)

no_first : (first second : List Blob) → first ++ second ≡ [] → first ≡ []
no_first [] second e = refl
no_first (b ∷ more) second e = absurd (cc e)

no_second : (first second : List Blob) → first ++ second ≡ [] → second ≡ []
no_second [] second e = e
no_second (b ∷ more) second e = absurd (cc e)

module _ {D : Type 0} (g : Ghosts D) (limits : Limits)
    (counts_now : (d : D) (t : ℕ) (c : Packs) → t ≤ g.moment d → g.images d c → g.images_since d t c)
    (only_now : (d : D) (c : Packs) → g.images_since d (g.moment d) c → g.images d c) where
  -- no call is a run
  pub puts_nothing : (s : Archive D) → PutsBlobs g limits s [] s
  puts_nothing s = record {
    own = tt;
    crash = keeps_itself g counts_now only_now s.disk;
    still = λ _. stays_itself g counts_now only_now s.disk;
    same_rows = λ _. refl;
    held = tt;
    stands = λ h. h;
    packs = λ _. told_nothing limits (g.packs s.disk);
    same_limits = refl;
  }

  -- one run after another is a run, and puts the blobs of both
  pub puts_then : (a b c : Archive D) (first second : List Blob) → PutsBlobs g limits a first b → PutsBlobs g limits b second c → PutsBlobs g limits a (first ++ second) c
  puts_then a b c first second p q = record {
    own = HaveOwnRefs-append first second p.own q.own;
    crash = keeps_then g counts_now only_now a.disk b.disk c.disk p.crash q.crash;
    still = λ e. stays_then g counts_now only_now a.disk b.disk c.disk (p.still (no_first first second e)) (q.still (no_second first second e));
    same_rows = λ e. q.same_rows (no_second first second e) ∙ p.same_rows (no_first first second e);
    held = hold_join (g.images c.disk) first second (hold_on (g.images b.disk) (g.images c.disk) (held_after g counts_now only_now b.disk c.disk q.crash) first p.held) q.held;
    stands = λ h. q.stands (p.stands h);
    packs = λ h. told_join (g.packs a.disk) (g.packs b.disk) (g.packs c.disk) (PutsAll limits first) (PutsAll limits second) (PutsAll limits (first ++ second)) (p.packs h) (q.packs (p.stands h))
        (puts_join limits first second);
    same_limits = q.same_limits ∙ p.same_limits;
  }

-- ---- a store as a shelf

module _ {D : Type 0} (g : Ghosts D)
    (counts_now : (d : D) (t : ℕ) (c : Packs) → t ≤ g.moment d → g.images d c → g.images_since d t c)
    (only_now : (d : D) (c : Packs) → g.images_since d (g.moment d) c → g.images d c) where
  pub store_puts_nothing : (s : Archive D) → PutsStore g s [] s
  store_puts_nothing s = puts_nothing g s.limits counts_now only_now s

  pub store_puts_then : (a b c : Archive D) (first second : List Blob) → PutsStore g a first b → PutsStore g b second c → PutsStore g a (first ++ second) c
  store_puts_then a b c first second p q =
      puts_then g a.limits counts_now only_now a b c first second p (subst (λ limits. PutsBlobs g limits b second c) p.same_limits q)

  pub store_follows_then : (a b c : Archive D) → KeepsAll g a.disk b.disk → KeepsAll g b.disk c.disk → KeepsAll g a.disk c.disk
  store_follows_then a b c = keeps_then g counts_now only_now a.disk b.disk c.disk
