-- What copying page by page makes.
use Rattle.std.proofs.Common.{◌≡◌, ℕ, zero, suc, ◌≤◌, Bool, true, false, cond, if◌then◌else◌, not, T, Ordering, Less}
use Rattle.std.proofs.Common.{Equal, Greater, Option, None, Some, List, [], ◌∷◌, ◌++◌, take, drop, filter, refl, sym}
use Rattle.std.proofs.Common.{ap, subst, ◌∙◌, arith, append_assoc}
use Rattle.std.proofs.lemmas.List.{append-nil, take-append-drop}
use Rattle.std.proofs.lemmas.List.Elements.{filter-append}
use Rattle.std.specs.List.{All}
use Rattle.std.specs.Option.{is_some}
use Rattle.std.specs.Ordering.{is_lt, is_eq, eq_by_cmp, ordering_reverse}
use Rattle.std.specs.Cmp.{eq_by_cmp_equiv}
use Rattle.std.specs.Cmp.Lexicographic.{nat_list_cmp_total}
use Rattle.std.specs.FinMap.{entries, entries_sorted, get, insert, contains_key, is_sorted, find, get-entries}
use Rattle.std.specs.FinMap.{get-insert}
use Rattle.std.specs.FinMap.Entries.{below_all}
use Rattle.blobref.specs.Blobref.{ref_cmp, is_after}
use Rattle.edge_base.specs.Shelf.{Blob, Blobs, with_blob, with_blobs}
use Rattle.peer_base.specs.Blobs.{listed, IsPage}
use Rattle.peer_base.specs.Order.{last_of, refs_of, last_ref, beyond, up_to}
use Rattle.peer_base.proofs.Pages.{first, second, less, same_refs, listed_refs, page_more, page_none, parted}
use Rattle.sync_core.specs.Copying.{lacking}

-- ---- blobs that stand in a map

abbrev StandAll : Blobs → List Blob → Type 0
StandAll held es = All (λ (e : Blob). get held e.0 ≡ Some e.1) es

tail : (P : Blob → Type 0) (x : Blob) (xs : List Blob) → All P (x ∷ xs) → All P xs
tail P x xs all k d lt = all (suc k) d (omega (arith, lt))

all_more : (P : Blob → Type 0) (x : Blob) (xs : List Blob) → P x → All P xs → All P (x ∷ xs)
all_more P x xs p all zero d lt = p
all_more P x xs p all (suc k) d lt = all k d (omega (arith, lt))

all_none : (P : Blob → Type 0) → All P []
all_none P k d lt = absurd (omega (arith, lt))

some_same : (a b : List ℕ) → Some a ≡ Some b → a ≡ b
some_same a b e = cc e

-- entries with the same refs that stand there are a front of the others
pub front_stand : (held : Blobs) (es xs : List Blob) (rest : List (List ℕ)) → StandAll held es → StandAll held xs
    → refs_of es ≡ refs_of xs ++ rest → (more : List Blob) × (es ≡ xs ++ more)
front_stand held es [] rest p q e = (es, refl)
front_stand held [] (x ∷ xs) rest p q e = absurd (cc e)
front_stand held (y ∷ es) (x ∷ xs) rest p q e =
    let more = front_stand held es xs rest (tail (λ (e : Blob). get held e.0 ≡ Some e.1) y es p)
    (tail (λ (e : Blob). get held e.0 ≡ Some e.1) x xs q) (cc e) in
    let key : y.0 ≡ x.0 = cc e in
    let value : y.1 ≡ x.1 = some_same y.1 x.1 (sym (p 0 y (omega arith)) ∙ ap (get held) key ∙ q 0 x (omega arith)) in
    (more.0, (λ i. (key i, value i) ∷ more.1 i))

pub same_stand : (held : Blobs) (es xs : List Blob) → StandAll held es → StandAll held xs → refs_of xs ≡ refs_of es → xs
    ≡ es
same_stand held [] [] p q e = refl
same_stand held [] (x ∷ xs) p q e = absurd (cc e)
same_stand held (y ∷ es) [] p q e = absurd (cc e)
same_stand held (y ∷ es) (x ∷ xs) p q e =
    let more : xs ≡ es = same_stand held es xs (tail (λ (e : Blob). get held e.0 ≡ Some e.1) y es p)
    (tail (λ (e : Blob). get held e.0 ≡ Some e.1) x xs q) (cc e) in
    let key : x.0 ≡ y.0 = cc e in
    let value : x.1 ≡ y.1 = some_same x.1 y.1 (sym (q 0 x (omega arith)) ∙ ap (get held) key ∙ p 0 y (omega arith)) in
    (λ i. (key i, value i) ∷ more i)

-- the entries of a map stand there
not_first : (k : List ℕ) (x : Blob) → ref_cmp x.0 k ≡ Less → eq_by_cmp ref_cmp k x.0 ≡ false
not_first k x lt = ap is_eq (nat_list_cmp_total.antisymm k x.0 ∙ ap ordering_reverse lt)

found_in : (es : List Blob) → T (is_sorted ref_cmp es) → All (λ (e : Blob). find ref_cmp e.0 es ≡ Some e.1) es
found_in [] h = all_none (λ (e : Blob). find ref_cmp e.0 [] ≡ Some e.1)
found_in (x ∷ xs) h = all_more (λ (e : Blob). find ref_cmp e.0 (x ∷ xs) ≡ Some e.1) x xs
    (ap (λ b. cond b (Some x.1) (find ref_cmp x.0 xs)) (itself x.0)) (later xs (first (below_all ref_cmp x.0 xs) _ h)
    (found_in xs (second (below_all ref_cmp x.0 xs) _ h)))
  where
    itself : (k : List ℕ) → eq_by_cmp ref_cmp k k ≡ true
    itself k = (eq_by_cmp_equiv nat_list_cmp_total).refl k

    later : (es : List Blob) → T (below_all ref_cmp x.0 es) → All (λ (e : Blob). find ref_cmp e.0 xs ≡ Some e.1) es
        → All (λ (e : Blob). find ref_cmp e.0 (x ∷ xs) ≡ Some e.1) es
    later [] below all = all_none (λ (e : Blob). find ref_cmp e.0 (x ∷ xs) ≡ Some e.1)
    later (y ∷ ys) below all = all_more (λ (e : Blob). find ref_cmp e.0 (x ∷ xs) ≡ Some e.1) y ys
        (ap (λ b. cond b (Some x.1) (find ref_cmp y.0 xs))
        (not_first y.0 x (less (ref_cmp x.0 y.0) (first (is_lt (ref_cmp x.0 y.0)) _ below)))
        ∙ all 0 y (omega arith))
        (later ys (second (is_lt (ref_cmp x.0 y.0)) _ below) (tail (λ (e : Blob). find ref_cmp e.0 xs ≡ Some e.1) y ys
        all))

pub entries_stand : (held : Blobs) → StandAll held (entries held)
entries_stand held k d lt = get-entries held _ ∙ found_in (entries held) (entries_sorted held) k d lt

pub all_filter : (P : Blob → Type 0) (p : Blob → Bool) (es : List Blob) → All P es → All P (filter p es)
all_filter P p [] all = all
all_filter P p (x ∷ xs) all = elim (p x) as (λ b. All P (cond b (x ∷ filter p xs) (filter p xs))) [
  | true ↦ all_more P x (filter p xs) (all 0 x (omega arith)) (all_filter P p xs (tail P x xs all))
  | false ↦ all_filter P p xs (tail P x xs all)
]

pub all_take : (P : Blob → Type 0) (n : ℕ) (es : List Blob) → All P es → All P (take n es)
all_take P zero es all = all_none P
all_take P (suc n) [] all = all
all_take P (suc n) (x ∷ xs) all = all_more P x (take n xs) (all 0 x (omega arith)) (all_take P n xs (tail P x xs all))

-- the blobs of a page that are lacking stand there
pub page_stand : (from to : Blobs) (after : Option (List ℕ)) (limit : ℕ)
    → StandAll from (filter (λ (e : Blob). not (contains_key to e.0)) (take limit (beyond after (entries from))))
page_stand from to after limit =
    all_filter (λ (e : Blob). get from e.0 ≡ Some e.1) (λ (e : Blob). not (contains_key to e.0)) _
    (all_take (λ (e : Blob). get from e.0 ≡ Some e.1) limit _ (all_filter (λ (e : Blob). get from e.0 ≡ Some e.1)
    (λ (e : Blob). is_after after e.0) _ (entries_stand from)))

-- ---- what a map that is given blobs has

apart : (q r : List ℕ) (after : Option (List ℕ)) → is_after after q ≡ true → is_after after r ≡ false
    → eq_by_cmp ref_cmp q r ≡ false
apart q r after above other = go (ref_cmp q r) refl
  where
    go : (o : Ordering) → ref_cmp q r ≡ o → is_eq o ≡ false
    go Less e = refl
    go Equal e = absurd (cc (above, other, ap (is_after after) (same_refs q r e)))
    go Greater e = refl

with_blob_key : (held : Blobs) (r bytes q : List ℕ) → eq_by_cmp ref_cmp q r ≡ false
    → contains_key (with_blob held (r, bytes)) q ≡ contains_key held q
with_blob_key held r bytes q other = elim (contains_key held r) as
    (λ b. contains_key (if b then held else insert held r bytes) q ≡ contains_key held q) [
      | true ↦ refl
      | false ↦ ap is_some (get-insert nat_list_cmp_total held r bytes q ∙ ap (λ b. cond b (Some bytes) (get held q)) other)
    ]

pub keys_apart : (held : Blobs) (es : List Blob) (q : List ℕ) (after : Option (List ℕ))
    → All (λ (e : Blob). is_after after e.0 ≡ false) es → is_after after q ≡ true → contains_key (with_blobs held es) q
    ≡ contains_key held q
keys_apart held [] q after all above = refl
keys_apart held (x ∷ xs) q after all above =
    keys_apart (with_blob held x) xs q after (tail (λ (e : Blob). is_after after e.0 ≡ false) x xs all) above
    ∙ with_blob_key held x.0 x.1 q (apart q x.0 after above (all 0 x (omega arith)))

before_of : (after : Option (List ℕ)) (es : List Blob) → All (λ (e : Blob). is_after after e.0 ≡ false) (up_to after es)
before_of after [] = all_none (λ (e : Blob). is_after after e.0 ≡ false)
before_of after (x ∷ xs) = elim (is_after after x.0) as (λ b. is_after after x.0 ≡ b
    → All (λ (e : Blob). is_after after e.0 ≡ false) (cond (not b) (x ∷ up_to after xs) (up_to after xs))) [
      | true ↦ λ is. before_of after xs
      | false ↦ λ is. all_more (λ (e : Blob). is_after after e.0 ≡ false) x (up_to after xs) is (before_of after xs)
    ] refl

refs_filter : (p : List ℕ → Bool) (es : List Blob) → refs_of (filter (λ (e : Blob). p e.0) es) ≡ filter p (refs_of es)
refs_filter p [] = refl
refs_filter p (x ∷ xs) = elim (p x.0) as (λ b. refs_of (cond b (x ∷ filter (λ (e : Blob). p e.0) xs)
    (filter (λ (e : Blob). p e.0) xs)) ≡ cond b (x.0 ∷ filter p (refs_of xs)) (filter p (refs_of xs))) [
      | true ↦ ap (λ l. x.0 ∷ l) (refs_filter p xs)
      | false ↦ refs_filter p xs
    ]

filter_page : (p q : List ℕ → Bool) (after : Option (List ℕ)) (page : List (List ℕ × ℕ))
    → All (λ (e : List ℕ × ℕ). is_after after e.0 ≡ true) page → ((r : List ℕ) → is_after after r ≡ true → p r ≡ q r)
    → filter p (refs_of page) ≡ filter q (refs_of page)
filter_page p q after [] all same = refl
filter_page p q after (x ∷ xs) all same =
    let more = filter_page p q after xs (λ k d lt. all (suc k) d (omega (arith, lt))) same in
    (λ i. cond (same x.0 (all 0 x (omega arith)) i) (x.0 ∷ more i) (more i))

-- ---- one page

module _ (from to : Blobs) (after : Option (List ℕ)) (limit : ℕ) (page : List (List ℕ × ℕ)) (gone : List Blob)
    (shape : IsPage after limit page) (is : page ≡ listed after limit from)
    (so_far : gone ≡ filter (λ (e : Blob). not (contains_key to e.0)) (up_to after (entries from))) where
  abbrev lacks : Blob → Bool
  lacks e = not (contains_key to e.0)

  abbrev here : List Blob
  here = take limit (beyond after (entries from))

  apart_now : (r : List ℕ) → is_after after r ≡ true → not (contains_key (with_blobs to gone) r)
      ≡ not (contains_key to r)
  apart_now r above = ap not (keys_apart to gone r after (subst (All (λ (e : Blob). is_after after e.0 ≡ false))
      (sym so_far) (all_filter (λ (e : Blob). is_after after e.0 ≡ false) lacks (up_to after (entries from))
      (before_of after (entries from)))) above)

  -- what a target that was given the blobs so far lacks of the page
  pub lacking_here : filter (λ r. not (contains_key (with_blobs to gone) r)) (refs_of page)
      ≡ refs_of (filter lacks here)
  lacking_here =
      filter_page (λ r. not (contains_key (with_blobs to gone) r)) (λ r. not (contains_key to r)) after page shape.later
      apart_now
      ∙ ap (filter (λ r. not (contains_key to r))) (ap refs_of is ∙ listed_refs after limit from)
      ∙ sym (refs_filter (λ r. not (contains_key to r)) here)

  -- the page was copied
  pub page_copied : (more : List Blob) (last : List ℕ) → StandAll from more → refs_of more
      ≡ filter (λ r. not (contains_key (with_blobs to gone) r)) (refs_of page) → last_ref page ≡ Some last
      → gone ++ more ≡ filter lacks (up_to (Some last) (entries from))
  page_copied more last stand are is_last =
      (λ i. so_far i ++ same_stand from (filter lacks here) more (page_stand from to after limit) stand
      (are ∙ lacking_here) i)
      ∙ sym (filter-append lacks (up_to after (entries from)) here)
      ∙ ap (filter lacks) (sym (page_more after limit (entries from) last (entries_sorted from)
      (ap last_of (sym (listed_refs after limit from) ∙ ap refs_of (sym is)) ∙ is_last)))

  -- all that is lacking: what was copied, what is lacking here, and what is lacking behind
  whole : lacking from to ≡ gone ++ (filter lacks here ++ filter lacks (drop limit (beyond after (entries from))))
  whole =
      ap (filter lacks) (parted after (entries from) (entries_sorted from) ∙ ap (λ l. up_to after (entries from) ++ l)
      (sym (take-append-drop limit (beyond after (entries from)))))
      ∙ filter-append lacks (up_to after (entries from)) (here ++ drop limit (beyond after (entries from)))
      ∙ (λ i. back i ++ filter-append lacks here (drop limit (beyond after (entries from))) i)
    where
      back : filter lacks (up_to after (entries from)) ≡ gone
      back = sym so_far

  -- a front of the page was copied
  pub front_copied : (more next : List Blob) (rest : List (List ℕ)) → StandAll from (more ++ next)
      → filter (λ r. not (contains_key (with_blobs to gone) r)) (refs_of page) ≡ refs_of (more ++ next) ++ rest
      → (left : List Blob) × (lacking from to ≡ ((gone ++ more) ++ next) ++ left)
  front_copied more next rest stand are =
      let cut = front_stand from (filter lacks here) (more ++ next) rest (page_stand from to after limit) stand
      (sym lacking_here ∙ are) in
      let behind = filter lacks (drop limit (beyond after (entries from))) in (
        cut.0 ++ behind,
        whole ∙ ap (λ l. gone ++ (l ++ behind)) cut.1 ∙ ap (λ l. gone ++ l) (append_assoc (more ++ next) cut.0 behind)
            ∙ sym (append_assoc gone (more ++ next) (cut.0 ++ behind))
            ∙ ap (λ l. l ++ (cut.0 ++ behind)) (sym (append_assoc gone more next)),
      )

  -- nothing follows
  pub all_copied : 1 ≤ limit → None ≡ last_ref page → gone ≡ lacking from to
  all_copied some none = so_far ∙ ap (filter lacks) (page_none after limit (entries from) some
      (none_left here (no_last (refs_of here) (none ∙ ap last_of (ap refs_of is ∙ listed_refs after limit from)))))
    where
      no_last : (l : List (List ℕ)) → None ≡ last_of l → l ≡ []
      no_last [] e = refl
      no_last (x ∷ []) e = absurd (cc e)
      no_last (x ∷ y ∷ ys) e = absurd (nothing (no_last (y ∷ ys) e))
        where
          nothing : y ∷ ys ≡ [] → ⊥
          nothing e = absurd (cc e)

      none_left : (l : List Blob) → refs_of l ≡ [] → l ≡ []
      none_left [] e = refl
      none_left (y ∷ ys) e = absurd (cc e)

-- the next page wasn't listed: a front was copied
pub some_copied : (from to : Blobs) (after : Option (List ℕ)) (gone : List Blob) → gone
    ≡ filter (λ (e : Blob). not (contains_key to e.0)) (up_to after (entries from)) → (left : List Blob)
    × (lacking from to ≡ (gone ++ []) ++ left)
some_copied from to after gone so_far = (
  filter (λ (e : Blob). not (contains_key to e.0)) (beyond after (entries from)),
  ap (filter (λ (e : Blob). not (contains_key to e.0))) (parted after (entries from) (entries_sorted from))
      ∙ filter-append (λ (e : Blob). not (contains_key to e.0)) (up_to after (entries from))
      (beyond after (entries from))
      ∙ ap (λ l. l ++ filter (λ (e : Blob). not (contains_key to e.0)) (beyond after (entries from)))
      (sym so_far ∙ sym (append-nil gone)),
)
