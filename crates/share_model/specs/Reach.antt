-- What links lead to, and what a share reaches.
use Rattle.std.specs.Prelude.{◌≡◌, ◌⊎◌, ℕ, zero, suc, ◌&&◌, ◌||◌, Bool, true, List}
use Rattle.std.specs.List.{list_any}
use Rattle.std.specs.Str.{bytes_eq}
use Rattle.std.specs.FinMap.{get, keys}
use Rattle.claim_model.specs.Facts.{Content, passes}
use Rattle.share_model.specs.declared.share.Share.{Share}
use Rattle.share_model.specs.Links.{links_in}

module _ (held : Content) where
  -- whether the blob of p is held, and links to r
  abbrev pub has_link : List ℕ → List ℕ → Bool
  has_link p r = passes (λ bytes. list_any (bytes_eq r) (links_in bytes)) (get held p)

  -- whether at most n links lead from t to r
  abbrev pub is_within : List ℕ → ℕ → List ℕ → Bool
  is_within t zero r = bytes_eq r t
  is_within t (suc n) r = is_within t n r || list_any (λ p. is_within t n p && has_link p r) (keys held)

  -- the share at s reaches itself, its target, and where it is transitive all that links lead to from there
  abbrev pub Reaches : List ℕ → Share → List ℕ → Type 0
  Reaches s share r =
      (r ≡ s)
      ⊎ ((r ≡ share.target)
      ⊎ ((share.transitive ≡ true) × ((n : ℕ) × (is_within share.target n r ≡ true))))
