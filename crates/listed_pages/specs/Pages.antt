-- The refs of a peer, listed page by page.
use Rattle.std.specs.Prelude.{◌≡◌, ◌⊎◌, ℕ, Bool, true, false, not, List, [], ◌∷◌, ◌++◌, filter, Option, None, Some}
use Rattle.std.specs.Prelude.{IfSome, Ok, Err}
use Rattle.blobref.specs.Blobref.{is_after}
use Rattle.peer_base.specs.Order.{refs_of, last_ref, is_among}
use Rattle.peer_base.specs.declared.peer.Peer.{Ghosts}
use Rattle.peer_base.specs.declared.peer.PeerFault.{PeerFault}
use Rattle.peer_base.specs.declared.peer.PeerFault.TheVariants as fault

-- refs, each with the size of its blob, as one call of `list` answers them
abbrev pub Page : Type 0
Page = List (List ℕ × ℕ)

-- the refs on pages
abbrev pub all_refs : List Page → List (List ℕ)
all_refs [] = []
all_refs (page ∷ more) = refs_of page ++ all_refs more

-- the refs of a page that are on none of these pages
abbrev pub refs_off : List Page → Page → List (List ℕ)
refs_off pages page = filter (λ r. not (is_among (all_refs pages) r)) (refs_of page)

-- these are some of those, in their order
abbrev pub IsPartOf : List (List ℕ) → List (List ℕ) → Type 0
IsPartOf all some = (test : List ℕ → Bool) × (some ≡ filter test all)

module _ {A : Type 0} (g : Ghosts A) where
  -- The chain of pages that a peer listed, from a state of it and what follows a ref on: each call asks for a thousand
  -- refs after the last one of the page before, and begins as the call before it ended. It leads to the last call's
  -- state and the last page's last ref.
  abbrev pub Lists : A → Option (List ℕ) → List Page → A → Option (List ℕ) → Type 0
  Lists old after [] new end = (new ≡ old) × (end ≡ after)
  Lists old after (page ∷ more) new end =
      (now : A) × (last : List ℕ) × g.lists old after 1000 (Ok page) now × (last_ref page ≡ Some last)
      × Lists now (Some last) more new end

  -- it listed what follows a ref up to another one: a chain of pages, and a page after it that is empty or reaches that
  -- ref
  pub record ListsUpTo (old : A) (after : Option (List ℕ)) (reach : List ℕ) (pages : List Page) (new : A) : Type 0 where
    pub front : List Page
    pub page : Page
    pub pages_are : pages ≡ front ++ page ∷ []
    pub before : A
    pub end : Option (List ℕ)
    pub chain : Lists old after front before end
    pub call : g.lists before end 1000 (Ok page) new
    pub reaches : IfSome (last_ref page) (λ r. is_after (Some r) reach ≡ false)

  -- it stopped after a chain of pages: the next call was answered with this fault, or no memory was left
  pub record StopsListing (old : A) (after : Option (List ℕ)) (new : A) (e : PeerFault) : Type 0 where
    pub pages : List Page
    pub before : A
    pub end : Option (List ℕ)
    pub chain : Lists old after pages before end
    pub stop : g.lists before end 1000 (Err e) new ⊎ ((e ≡ fault.NoMemory) × (new ≡ before))

  -- it listed its first page, unless it was asked before
  abbrev pub AsksOnce : Bool → A → A → Type 0
  AsksOnce true old new = new ≡ old
  AsksOnce false old new = (page : Page) × g.lists old None 1000 (Ok page) new
