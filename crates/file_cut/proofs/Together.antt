-- The chunks of a piece are put one after the other.
use Rattle.std.proofs.Common.{◌≡◌, ◌≤◌, ◌<◌, ◌+◌, ◌*◌, ℕ, List, [], ◌∷◌, ◌++◌, take, drop, length, refl, sym, ap, subst, ◌∙◌, append_assoc, append-nil, arith, length-append}
use Rattle.std.proofs.Math.Nat.{suc-mul}
use Rattle.std.proofs.lemmas.List.{drop-drop, length-take}
use Rattle.std.proofs.lemmas.List.Concat.{flat_map-append}
use Rattle.edge_base.specs.declared.answers.PutFault.{PutFault}
use Rattle.edge_base.specs.declared.shelf.Shelf.{Ghosts}
use Rattle.file_cut.specs.Cutting.{cut, below_file}
use Rattle.file_cut.specs.declared.draft.Draft.{Draft}
use Rattle.file_cut.specs.Drafts.{IsCut, IsPut, IsShortList, HasRoom}
use Rattle.file_cut.proofs.Cuts.{cut-first, flat-cut}
use Rattle.file_cut.proofs.Sizes.{flat, run_short}

-- what is behind one chunk more
pub behind_one : (size : ℕ) (bytes : List ℕ) (i : ℕ) → drop size (drop (i * size) bytes) ≡ drop ((i + 1) * size) bytes
behind_one size bytes i =
    let sum : i * size + size ≡ (i + 1) * size = omega (arith, suc-mul i size) in
    drop-drop size (i * size) bytes ∙ ap (λ (n : ℕ). drop n bytes) sum

-- chunks in the middle of others
amid : (chunks done : List (List ℕ)) (chunk : List ℕ) (rest more whole : List (List ℕ)) → done ++ chunk ∷ rest ≡ whole
    → (chunks ++ done) ++ chunk ∷ (rest ++ more) ≡ chunks ++ (whole ++ more)
amid chunks done chunk rest more whole is =
    append_assoc chunks done (chunk ∷ (rest ++ more))
    ∙ ap (λ (l : List (List ℕ)). chunks ++ l) (sym (append_assoc done (chunk ∷ rest) more) ∙ ap (λ (l : List (List ℕ)). l ++ more) is)

-- some chunks of a piece were put, and the rest wasn't
pub record AreTaken {B : Type 0} (h : Ghosts B) (size full : ℕ) (first now : B) (old new : Draft) (bytes rest : List ℕ) : Type 0 where
  pub done : List (List ℕ)
  pub same : done ++ cut size rest ≡ cut size bytes
  pub put : (start : B) (chunks : List (List ℕ)) → IsPut h full start first old chunks → IsPut h full start now new (chunks ++ done)

module _ {B : Type 0} (h : Ghosts B) (size full : ℕ) (some : 0 < size) where
  pub none_taken : (first : B) (old : Draft) (bytes : List ℕ) → AreTaken h size full first first old old bytes bytes
  none_taken first old bytes = record {
    done = [];
    same = refl;
    put = λ start chunks put. subst (IsPut h full start first old) (sym (append-nil chunks)) put;
  }

  pub all_taken : (first now : B) (old new : Draft) (bytes rest : List ℕ) → AreTaken h size full first now old new bytes rest → rest ≡ []
      → (start : B) (chunks : List (List ℕ)) → IsPut h full start first old chunks → IsPut h full start now new (chunks ++ cut size bytes)
  all_taken first now old new bytes rest taken none start chunks put =
      let is : taken.done ≡ cut size bytes = sym (append-nil taken.done) ∙ ap (λ (l : List ℕ). taken.done ++ cut size l) (sym none) ∙ taken.same in
      subst (λ (l : List (List ℕ)). IsPut h full start now new (chunks ++ l)) is (taken.put start chunks put)

  -- where a chunk is empty there is none
  pub none_left : (chunk rest : List ℕ) → chunk ≡ take size rest → length chunk ≡ 0 → rest ≡ []
  none_left chunk [] is none = refl
  none_left chunk (x ∷ rest) is none = absurd (omega (arith, some, none, ap (λ (l : List ℕ). length l) is, length-take size (x ∷ rest)))

  -- a chunk more is taken
  next_taken : (done : List (List ℕ)) (bytes rest chunk : List ℕ) → done ++ cut size rest ≡ cut size bytes → chunk ≡ take size rest → 0 < length chunk
      → done ++ chunk ∷ cut size (drop size rest) ≡ cut size bytes
  next_taken done bytes rest chunk same is nonempty =
      let some_left : 0 < length rest = omega (arith, nonempty, ap (λ (l : List ℕ). length l) is, length-take size rest) in
      ap (λ (l : List ℕ). done ++ l ∷ cut size (drop size rest)) is ∙ ap (λ (l : List (List ℕ)). done ++ l) (sym (cut-first size some rest some_left)) ∙ same

  pub one_taken : (first mid now : B) (old draft new : Draft) (bytes rest chunk : List ℕ) → AreTaken h size full first mid old draft bytes rest → chunk ≡ take size rest → 0 < length chunk
      → ((start : B) (chunks : List (List ℕ)) → IsPut h full start mid draft chunks → IsPut h full start now new (chunks ++ chunk ∷ []))
      → AreTaken h size full first now old new bytes (drop size rest)
  one_taken first mid now old draft new bytes rest chunk taken is nonempty next = record {
    done = taken.done ++ chunk ∷ [];
    same = append_assoc taken.done (chunk ∷ []) (cut size (drop size rest)) ∙ next_taken taken.done bytes rest chunk taken.same is nonempty;
    put = λ start chunks put. subst (IsPut h full start now new) (append_assoc chunks taken.done (chunk ∷ [])) (next start (chunks ++ taken.done) (taken.put start chunks put));
  }

  -- it is refused
  pub one_refused : (first mid now : B) (old draft : Draft) (bytes rest chunk : List ℕ) (e : PutFault) → AreTaken h size full first mid old draft bytes rest → chunk ≡ take size rest → 0 < length chunk
      → ((start : B) (chunks more : List (List ℕ)) → IsPut h full start mid draft chunks → IsCut h start (below_file full (chunks ++ chunk ∷ more)) now e)
      → (start : B) (chunks more : List (List ℕ)) → IsPut h full start first old chunks → IsCut h start (below_file full (chunks ++ (cut size bytes ++ more))) now e
  one_refused first mid now old draft bytes rest chunk e taken is nonempty refused start chunks more put =
      let left = cut size (drop size rest) in
      subst (λ (l : List (List ℕ)). IsCut h start (below_file full l) now e)
      (amid chunks taken.done chunk left more (cut size bytes) (next_taken taken.done bytes rest chunk taken.same is nonempty))
      (refused start (chunks ++ taken.done) (left ++ more) (taken.put start chunks put))

  -- what was taken is within the limits
  pub taken_short : full ≤ 4096 → (first now : B) (old new : Draft) (bytes rest : List ℕ) → HasRoom h full first old (length bytes) → AreTaken h size full first now old new bytes rest → IsShortList new.run
  taken_short few first now old new bytes rest room taken =
      let all : length (flat taken.done) + length (flat (cut size rest)) ≡ length bytes =
      sym (length-append (flat taken.done) (flat (cut size rest)))
      ∙ ap (λ (l : List ℕ). length l) (sym (flat_map-append (λ (chunk : List ℕ). chunk) taken.done (cut size rest)) ∙ ap (λ (l : List (List ℕ)). flat l) taken.same ∙ flat-cut size some bytes) in
      let both : length (flat (room.chunks ++ taken.done)) ≡ length (flat room.chunks) + length (flat taken.done) =
      ap (λ (l : List ℕ). length l) (flat_map-append (λ (chunk : List ℕ). chunk) room.chunks taken.done) ∙ length-append (flat room.chunks) (flat taken.done) in
      run_short h full few room.start now new (room.chunks ++ taken.done) (omega (arith, all, both, room.limit)) (taken.put room.start room.chunks room.put)
