-- A chain of pages, and what it leaves of a page of another peer.
use Rattle.std.proofs.Common.{◌≡◌, inl, inr, ℕ, Bool, true, false, not, ◌&&◌, List, [], ◌∷◌, ◌++◌, filter, nat_eq}
use Rattle.std.proofs.Common.{Option, None, Some, IfSome, Ok, Err, refl, sym, ap, subst, ◌∙◌, append_assoc}
use Rattle.std.proofs.lemmas.List.{append-nil}
use Rattle.std.proofs.lemmas.List.Folds.{list_any-append}
use Rattle.std.specs.Cmp.Lexicographic.{pointwise}
use Rattle.blobref.specs.Blobref.{is_after}
use Rattle.peer_base.specs.Order.{last_of, refs_of, last_ref, is_among}
use Rattle.peer_base.specs.declared.peer.Peer.{Ghosts}
use Rattle.peer_base.specs.declared.peer.PeerFault.{PeerFault}
use Rattle.peer_base.specs.declared.peer.PeerFault.TheVariants as fault
use Rattle.listed_pages.specs.Pages.{Page, all_refs, refs_off, IsPartOf, Lists, ListsUpTo, StopsListing, AsksOnce}
use Rattle.listed_pages.proofs.Lacks.{lack, filter_same, filter_twice, not_or, all_of}

-- ---- the refs that are left of a page

all_refs_one : (pages : List Page) (page : Page) → all_refs (pages ++ page ∷ []) ≡ all_refs pages ++ refs_of page
all_refs_one [] page = append-nil (refs_of page)
all_refs_one (x ∷ pages) page = ap (λ l. refs_of x ++ l) (all_refs_one pages page)
    ∙ sym (append_assoc (refs_of x) (all_refs pages) (refs_of page))

off_one : (pages : List Page) (held page : Page) (refs now : List (List ℕ)) → refs ≡ refs_off pages page → now
    ≡ filter (lack (refs_of held)) refs → now ≡ refs_off (pages ++ held ∷ []) page
off_one pages held page refs now was step =
    step ∙ ap (filter (lack (refs_of held))) was ∙ filter_twice (lack (all_refs pages)) (lack (refs_of held))
    (refs_of page)
    ∙ filter_same (λ q. lack (all_refs pages) q && lack (refs_of held) q) (lack (all_refs (pages ++ held ∷ [])))
    (refs_of page)
    (λ q. not_or (is_among (all_refs pages) q) (is_among (refs_of held) q)
    ∙ ap not (sym (list_any-append (pointwise nat_eq q) (all_refs pages) (refs_of held)) ∙ ap (λ l. is_among l q)
    (sym (all_refs_one pages held))))

no_last : (l : List (List ℕ)) → None ≡ last_of l → l ≡ []
no_last [] e = refl
no_last (x ∷ []) e = absurd (cc e)
no_last (x ∷ y ∷ ys) e = absurd (nothing (no_last (y ∷ ys) e))
  where
    nothing : y ∷ ys ≡ [] → ⊥
    nothing e = absurd (cc e)

off_empty : (pages : List Page) (held page : Page) (refs : List (List ℕ)) → None ≡ last_ref held → refs
    ≡ refs_off pages page → refs ≡ refs_off (pages ++ held ∷ []) page
off_empty pages held page refs none was =
    was ∙ ap (λ l. filter (lack l) (refs_of page))
    (sym (all_refs_one pages held ∙ ap (λ l. all_refs pages ++ l) (no_last (refs_of held) none)
    ∙ append-nil (all_refs pages)))

-- an empty page has no entries
pub no_entries : (page : Page) → None ≡ last_ref page → page ≡ []
no_entries [] e = refl
no_entries (x ∷ xs) e = absurd (nothing (no_last (refs_of (x ∷ xs)) e))
  where
    nothing : x.0 ∷ refs_of xs ≡ [] → ⊥
    nothing e = absurd (cc e)

pub part_off : (pages : List Page) (page : Page) (refs : List (List ℕ)) → refs ≡ refs_off pages page
    → IsPartOf (refs_of page) refs
part_off pages page refs is = ((λ r. not (is_among (all_refs pages) r)), is)

-- ---- one page more

module _ {A : Type 0} (g : Ghosts A) where
  lists_one : (old now new : A) (after end : Option (List ℕ)) (pages : List Page) (page : Page) (last : List ℕ)
      → Lists g old after pages now end → g.lists now end 1000 (Ok page) new → last_ref page ≡ Some last
      → Lists g old after (pages ++ page ∷ []) new (Some last)
  lists_one old now new after end [] page last chain call is = (
    new,
    last,
    subst (λ (o : Option (List ℕ)). g.lists old o 1000 (Ok page) new) chain.1
        (subst (λ (a : A). g.lists a end 1000 (Ok page) new) chain.0 call),
    is,
    (refl, refl),
  )
  lists_one old now new after end (x ∷ pages) page last chain call is =
      (chain.0, chain.1, chain.2, chain.3, lists_one chain.0 now new (Some chain.1) end pages page last chain.4 call is)

  -- the pages before the one at hand, whose refs were left out of a page of another peer
  pub record ListedSoFar (old : A) (after : Option (List ℕ)) (held : Page) (now : A) (page : Page)
      (refs : List (List ℕ)) : Type 0 where
    pub pages : List Page
    pub before : A
    pub end : Option (List ℕ)
    pub chain : Lists g old after pages before end
    pub call : g.lists before end 1000 (Ok held) now
    pub refs_are : refs ≡ refs_off pages page

  pub so_far_start : (old now : A) (after : Option (List ℕ)) (held page : Page) (refs : List (List ℕ))
      → g.lists old after 1000 (Ok held) now → refs ≡ refs_of page → ListedSoFar old after held now page refs
  so_far_start old now after held page refs call is =
      record {
        pages = [];
        before = old;
        end = after;
        chain = (refl, refl);
        call = call;
        refs_are = is
            ∙ all_of (refs_of page);
      }

  module _ (old now : A) (after : Option (List ℕ)) (held page : Page) (refs : List (List ℕ))
      (far : ListedSoFar old after held now page refs) where
    pub so_far_part : IsPartOf (refs_of page) refs
    so_far_part = part_off far.pages page refs far.refs_are

    pub so_far_more : (new : A) (next : Page) (r : List ℕ) (less : List (List ℕ)) → last_ref held ≡ Some r → less
        ≡ filter (lack (refs_of held)) refs → g.lists now (Some r) 1000 (Ok next) new
        → ListedSoFar old after next new page less
    so_far_more new next r less last step call = record {
      pages = far.pages ++ held ∷ [];
      before = now;
      end = Some r;
      chain = lists_one old far.before now after far.end far.pages held r far.chain far.call last;
      call = call;
      refs_are = off_one far.pages held page refs less far.refs_are step;
    }

    pub so_far_reached : (r reach : List ℕ) (less : List (List ℕ)) → last_ref held ≡ Some r → less
        ≡ filter (lack (refs_of held)) refs → is_after (Some r) reach ≡ false
        → (pages : List Page) × ListsUpTo g old after reach pages now × (less ≡ refs_off pages page)
    so_far_reached r reach less last step low = (
      far.pages ++ held ∷ [],
      record {
        front = far.pages;
        page = held;
        pages_are = refl;
        before = far.before;
        end = far.end;
        chain = far.chain;
        call = far.call;
        reaches = subst (λ (o : Option (List ℕ)). IfSome o (λ r. is_after (Some r) reach ≡ false)) (sym last) low;
      },
      off_one far.pages held page refs less far.refs_are step,
    )

    pub so_far_empty : (reach : List ℕ) → None ≡ last_ref held → (pages : List Page) × ListsUpTo g old after reach pages
        now × (refs ≡ refs_off pages page)
    so_far_empty reach none = (
      far.pages ++ held ∷ [],
      record {
        front = far.pages;
        page = held;
        pages_are = refl;
        before = far.before;
        end = far.end;
        chain = far.chain;
        call = far.call;
        reaches = subst (λ (o : Option (List ℕ)). IfSome o (λ r. is_after (Some r) reach ≡ false)) none tt;
      },
      off_empty far.pages held page refs none far.refs_are,
    )

    -- the next call was answered with a fault
    pub so_far_stopped : (new : A) (r : List ℕ) (e : PeerFault) → last_ref held ≡ Some r → g.lists now (Some r) 1000
        (Err e) new → StopsListing g old after new e
    so_far_stopped new r e last call = record {
      pages = far.pages ++ held ∷ [];
      before = now;
      end = Some r;
      chain = lists_one old far.before now after far.end far.pages held r far.chain far.call last;
      stop = inl call;
    }

    -- no memory was left
    pub so_far_full : (r : List ℕ) (e : PeerFault) → last_ref held ≡ Some r → e ≡ fault.NoMemory
        → StopsListing g old after now e
    so_far_full r e last none = record {
      pages = far.pages ++ held ∷ [];
      before = now;
      end = Some r;
      chain = lists_one old far.before now after far.end far.pages held r far.chain far.call last;
      stop = inr (none, refl);
    }

  -- the first call was, or no memory was left before it
  pub stops_first : (old new : A) (after : Option (List ℕ)) (e : PeerFault) → g.lists old after 1000 (Err e) new
      → StopsListing g old after new e
  stops_first old new after e call = record {
    pages = [];
    before = old;
    end = after;
    chain = (refl, refl);
    stop = inl
        call;
  }

  pub stops_unasked : (old : A) (after : Option (List ℕ)) (e : PeerFault) → e ≡ fault.NoMemory
      → StopsListing g old after old e
  stops_unasked old after e none = record {
    pages = [];
    before = old;
    end = after;
    chain = (refl, refl);
    stop = inr
        (none, refl);
  }

  -- ---- asked once

  pub asked_before : (asked : Bool) (a : A) → asked ≡ true → AsksOnce g asked a a
  asked_before asked a is = subst (λ b. AsksOnce g b a a) (sym is) refl

  pub asked_now : (asked : Bool) (old new : A) (page : Page) → asked ≡ false → g.lists old None 1000 (Ok page) new
      → AsksOnce g asked old new
  asked_now asked old new page is call = subst (λ b. AsksOnce g b old new) (sym is) (page, call)
