-- A sound file is read whole.
use Rattle.std.proofs.Common.{◌≡◌, ◌≤◌, ◌<◌, ◌+◌, ◌-◌, ℕ, zero, suc, min, Bool, true, false, ◌&&◌, List, [], ◌∷◌, ◌++◌, take, drop, length, replicate, flat_map, nat_le, nat_lt, Option, None, Some, option_and_then, option_map, cond, refl, sym, ap, subst, ◌∙◌, arith, length-append}
use Rattle.std.specs.Prelude.{unwrap_or}
use Rattle.std.specs.List.{list_all}
use Rattle.std.specs.FinMap.{get, len}
use Rattle.std.proofs.lemmas.Bool.{and_parts, false≢true}
use Rattle.std.proofs.lemmas.Bool.Decides.{nat_tests}
use Rattle.std.proofs.lemmas.List.{take_all, drop_all, length-replicate}
use Rattle.std.proofs.lemmas.List.Sums.{sum_by-cons}
use Rattle.edge_base.specs.Shelf.{Blobs}
use Rattle.schema_json.specs.Facts.{fact_of}
use Rattle.schema_fact.specs.Limits.{total_size}
use Rattle.schema_fact.specs.declared.kinds.Fact.{Fact}
use Rattle.schema_fact.specs.declared.kinds.Kind.{Kind}
use Rattle.schema_fact.specs.declared.parts.Part.{Part}
use Rattle.schema_fact.specs.declared.parts.Origin.{Origin}
use Rattle.schema_fact.specs.declared.parts.Origin.TheVariants.{Zeros, Blob, Tree}
use Rattle.claim_model.specs.Facts.{passes}
use Rattle.claim_model.specs.Ready.{is_ready}
use Rattle.claim_model.specs.Trees.{tree_parts, tree_size, own_size, is_file, origin_holds, part_fits, parts_fit, sound_within, is_sound_tree}
use Rattle.claim_model.proofs.Soundness.{soundness_is_settled, soundness_ends}
use Rattle.claim_model.proofs.Held.{facts_are_read}
use Rattle.std.specs.Option.{ok_or}
use Rattle.file_tree.specs.declared.fault.FileFault.TheVariants.{NotAFile, Deep}
use Rattle.file_tree.specs.Walk.{Read, all_of, stops, and_then, once, if_asked, asked, walk_parts, read_by, part_read, opened_tree, opened_blob, opened_file, file_parts, long_tree, deepest}
use Rattle.file_tree.specs.Bytes.{facts_in, parts_at, origin_bytes, part_bytes, bytes_within, tree_passes, nests_within}
use Rattle.file_tree.specs.Laws.{SoundFilesAreRead}
use Rattle.file_tree.proofs.Windows.{window-append, window-window, window-replicate, length-window}

-- ---- what the blobs say

pub get-facts_in : (held : Blobs) (r : List ℕ) → get (facts_in held) r ≡ option_map fact_of (get held r)
get-facts_in held r = facts_are_read fact_of held r

-- ---- parts in a row

-- a fact of each item
abbrev pub Each : {A : Type 0} → (A → Type 0) → List A → Type 0
Each P [] = Unit {0}
Each P (x ∷ xs) = P x × Each P xs

-- a part is read as windows on these bytes
pub record IsReadAs (f : Part → ℕ → ℕ → Read) (bytes : Part → List ℕ) (part : Part) : Type 0 where
  pub long : length (bytes part) ≡ part.size
  pub read : (from count : ℕ) → from + count ≤ part.size → f part from count ≡ all_of (take count (drop from (bytes part)))

asked_whole : (f : ℕ → Read) (bytes : List ℕ) (from n : ℕ) → ((count : ℕ) → 0 < count → count ≤ n → f count ≡ all_of (take count (drop from bytes))) → if_asked n f ≡ all_of (take n (drop from bytes))
asked_whole f bytes from zero h = refl
asked_whole f bytes from (suc n) h = h (suc n) (omega arith) (omega arith)

within_part : (size from count n : ℕ) → 0 < count → count ≤ min n (size - from) → from + count ≤ size
within_part size from count n some le = omega (arith, some, le)

walk_whole : (f : Part → ℕ → ℕ → Read) (bytes : Part → List ℕ) (parts : List Part) → Each (IsReadAs f bytes) parts → (from count : ℕ) → walk_parts f parts from count ≡ all_of (take count (drop from (flat_map bytes parts)))
walk_whole f bytes [] each from count = ap all_of (sym (ap (λ (l : List ℕ). take count l) (drop_all from [] (omega arith)) ∙ take_all count [] (omega arith)))
walk_whole f bytes (part ∷ parts) each from count =
    let here = asked part from count in
    let first : if_asked here (f part from) ≡ all_of (take here (drop from (bytes part))) = asked_whole (f part from) (bytes part) from here (λ n some le. each.0.read from n (within_part part.size from n count some le)) in
    let rest = walk_whole f bytes parts each.1 (from - part.size) (count - here) in
    (λ i. and_then (first i) (rest i))
    ∙ ap all_of (sym (window-append (bytes part) (flat_map bytes parts) from count part.size each.0.long))

total_whole : (f : Part → ℕ → ℕ → Read) (bytes : Part → List ℕ) (parts : List Part) → Each (IsReadAs f bytes) parts → length (flat_map bytes parts) ≡ total_size parts
total_whole f bytes [] each = refl
total_whole f bytes (part ∷ parts) each =
    length-append (bytes part) (flat_map bytes parts)
    ∙ (λ i. each.0.long i + total_whole f bytes parts each.1 i)
    ∙ sym (sum_by-cons (λ (p : Part). p.size) part parts)

-- ---- what is sound

no_none : {A P : Type 0} (a : A) → None ≡ Some a → P
no_none a e = absurd (cc)

same_some : {A : Type 0} (a b : A) → Some a ≡ Some b → a ≡ b
same_some a b e = cc

-- a blob whose fact passes a test
record HasFact (held : Blobs) (r : List ℕ) (test : Fact → Bool) : Type 0 where
  pub bytes : List ℕ
  pub there : get held r ≡ Some bytes
  pub passes : test (fact_of bytes) ≡ true

has_fact : (held : Blobs) (r : List ℕ) (test : Fact → Bool) → passes test (get (facts_in held) r) ≡ true → HasFact held r test
has_fact held r test h = go (get held r) refl (sym (ap (passes test) (get-facts_in held r)) ∙ h)
  where
    go : (o : Option (List ℕ)) → get held r ≡ o → passes test (option_map fact_of o) ≡ true → HasFact held r test
    go None is t = absurd (false≢true t)
    go (Some bytes) is t = record { bytes = bytes; there = is; passes = t }

-- parts that pass a test
record HasParts (kind : Kind) (test : List Part → Bool) : Type 0 where
  pub parts : List Part
  pub are : tree_parts kind ≡ Some parts
  pub pass : test parts ≡ true

has_parts : (kind : Kind) (test : List Part → Bool) → passes test (tree_parts kind) ≡ true → HasParts kind test
has_parts kind test h = go (tree_parts kind) refl h
  where
    go : (o : Option (List Part)) → tree_parts kind ≡ o → passes test o ≡ true → HasParts kind test
    go None is t = absurd (false≢true t)
    go (Some parts) is t = record { parts = parts; are = is; pass = t }

-- a tree that is sound where trees within are, by a test
record IsTree (held : Blobs) (sound : List ℕ → Bool) (r : List ℕ) : Type 0 where
  pub bytes : List ℕ
  pub there : get held r ≡ Some bytes
  pub parts : List Part
  pub are : tree_parts (fact_of bytes).kind ≡ Some parts
  pub fit : list_all (part_fits (facts_in held) sound) parts ≡ true

is_tree : (held : Blobs) (sound : List ℕ → Bool) (r : List ℕ) → passes (parts_fit (facts_in held) sound) (get (facts_in held) r) ≡ true → IsTree held sound r
is_tree held sound r h =
    let fact = has_fact held r (parts_fit (facts_in held) sound) h in
    let parts = has_parts (fact_of fact.bytes).kind (list_all (part_fits (facts_in held) sound)) fact.passes in
    record { bytes = fact.bytes; there = fact.there; parts = parts.parts; are = parts.are; fit = parts.pass }

tree_at : (held : Blobs) (n : ℕ) (r : List ℕ) → sound_within (facts_in held) (suc n) r ≡ true → IsTree held (sound_within (facts_in held) n) r
tree_at held n r h = is_tree held (sound_within (facts_in held) n) r (and_parts (is_ready (facts_in held) r) _ h).1

parts_there : (held : Blobs) (sound : List ℕ → Bool) (r : List ℕ) (tree : IsTree held sound r) → parts_at held r ≡ tree.parts
parts_there held sound r tree = ap (λ (o : Option (List ℕ)). unwrap_or (option_and_then (λ bytes. tree_parts (fact_of bytes).kind) o) []) tree.there ∙ ap (λ (o : Option (List Part)). unwrap_or o []) tree.are

-- its size
size_there : (held : Blobs) (sound : List ℕ → Bool) (r : List ℕ) (tree : IsTree held sound r) → tree_size (facts_in held) r ≡ Some (total_size tree.parts)
size_there held sound r tree =
    ap (option_and_then own_size) (get-facts_in held r ∙ ap (option_map fact_of) tree.there)
    ∙ ap (option_map total_size) tree.are

-- ---- blobs and trees that are long enough

not_short : {A : Type 0} (has end : ℕ) (x y : A) → end ≤ has → cond (nat_lt has end) x y ≡ y
not_short has end x y le = let e : nat_lt has end ≡ false = grind (arith, nat_tests, le) in ap (λ (b : Bool). cond b x y) e

le_of : (a b : ℕ) → nat_le a b ≡ true → a ≤ b
le_of a b h = grind (arith, nat_tests, h)

-- ---- a part is read as its bytes

module _ (held : Blobs) where
  abbrev Sound : ℕ → List ℕ → Bool
  Sound n = sound_within (facts_in held) n

  abbrev IsRead : ℕ → Part → Type 0
  IsRead n part = IsReadAs (part_read held n) (part_bytes held (bytes_within held n)) part

  abbrev Fits : ℕ → ℕ → Origin → Type 0
  Fits n end origin = origin_holds (facts_in held) (Sound n) end origin ≡ true

  each_part : (n : ℕ) → ((part : Part) → part_fits (facts_in held) (Sound n) part ≡ true → IsRead n part) → (parts : List Part) → list_all (part_fits (facts_in held) (Sound n)) parts ≡ true → Each (IsRead n) parts
  each_part n one [] all = tt
  each_part n one (part ∷ parts) all =
      let both = and_parts (part_fits (facts_in held) (Sound n) part) _ all in
      (one part both.0, each_part n one parts both.1)

  -- the bytes of a tree
  tree_bytes : (n : ℕ) (r : List ℕ) (tree : IsTree held (Sound n) r) → bytes_within held (suc n) r ≡ flat_map (part_bytes held (bytes_within held n)) tree.parts
  unfolding bytes_within
  tree_bytes n r tree = ap (flat_map (part_bytes held (bytes_within held n))) (parts_there held (Sound n) r tree)

  record IsTreeRead (n : ℕ) (r : List ℕ) (tree : IsTree held (Sound n) r) : Type 0 where
    pub long : length (bytes_within held (suc n) r) ≡ total_size tree.parts
    pub read : (from count : ℕ) → walk_parts (part_read held n) tree.parts from count ≡ all_of (take count (drop from (bytes_within held (suc n) r)))

  tree_read : (n : ℕ) → ((part : Part) → part_fits (facts_in held) (Sound n) part ≡ true → IsRead n part) → (r : List ℕ) (tree : IsTree held (Sound n) r) → IsTreeRead n r tree
  tree_read n one r tree =
      let each = each_part n one tree.parts tree.fit in
      record {
        long = ap length (tree_bytes n r tree) ∙ total_whole (part_read held n) (part_bytes held (bytes_within held n)) tree.parts each;
        read = λ from count. walk_whole (part_read held n) (part_bytes held (bytes_within held n)) tree.parts each from count ∙ ap (λ (l : List ℕ). all_of (take count (drop from l))) (sym (tree_bytes n r tree));
      }

  -- ---- by origin

  zeros_read : (tree : List ℕ → ℕ → ℕ → ℕ → Read) (part : Part) (from count : ℕ) → from + count ≤ part.size → read_by held tree part Zeros from count ≡ all_of (take count (drop from (replicate part.size 0)))
  zeros_read tree part from count within = ap all_of (sym (window-replicate part.size from count within))

  blob_fits : (end : ℕ) (bytes : List ℕ) → nat_le end (fact_of bytes).size ≡ true → nat_le end (length bytes) ≡ true
  unfolding fact_of
  blob_fits end bytes h = h

  blob_read : (tree : List ℕ → ℕ → ℕ → ℕ → Read) (part : Part) (r bytes : List ℕ) → get held r ≡ Some bytes → part.offset + part.size ≤ length bytes → (from count : ℕ) → from + count ≤ part.size
      → read_by held tree part (Blob r) from count ≡ all_of (take count (drop from (take part.size (drop part.offset (unwrap_or (get held r) [])))))
  blob_read tree part r bytes there long from count within =
      ap (λ (o : Option (List ℕ)). once (opened_blob o r (part.offset + part.size)) (λ bytes. all_of (take count (drop (part.offset + from) bytes)))) there
      ∙ ap (λ x. once x (λ bytes. all_of (take count (drop (part.offset + from) bytes)))) (not_short (length bytes) (part.offset + part.size) _ _ long)
      ∙ ap all_of (sym (window-window bytes part.offset part.size from count within))
      ∙ ap (λ (o : Option (List ℕ)). all_of (take count (drop from (take part.size (drop part.offset (unwrap_or o [])))))) (sym there)

  opened : (n : ℕ) (r : List ℕ) (end : ℕ) (tree : IsTree held (Sound n) r) (inner : List Part → Read) → end ≤ total_size tree.parts → once (opened_tree (get held r) r end) inner ≡ inner tree.parts
  opened n r end tree inner long =
      ap (λ (o : Option (List ℕ)). once (opened_tree o r end) inner) tree.there
      ∙ ap (λ (o : Option (List Part)). once (long_tree r end o) inner) tree.are
      ∙ ap (λ x. once x inner) (not_short (total_size tree.parts) end _ _ long)

  tree_long : (n : ℕ) (r : List ℕ) (end : ℕ) (tree : IsTree held (Sound n) r) → passes (nat_le end) (tree_size (facts_in held) r) ≡ true → end ≤ total_size tree.parts
  tree_long n r end tree h = le_of end (total_size tree.parts) (sym (ap (passes (nat_le end)) (size_there held (Sound n) r tree)) ∙ h)

  -- a part with this origin is read as windows on its bytes, where trees are read in this way
  record IsOrigin (tree : List ℕ → ℕ → ℕ → ℕ → Read) (tree_bytes : List ℕ → List ℕ) (part : Part) (origin : Origin) : Type 0 where
    pub long : length (origin_bytes held tree_bytes part.offset part.size origin) ≡ part.size
    pub read : (from count : ℕ) → from + count ≤ part.size → read_by held tree part origin from count ≡ all_of (take count (drop from (origin_bytes held tree_bytes part.offset part.size origin)))

  abbrev IsTreeOrigin : (List ℕ → ℕ → ℕ → ℕ → Read) → (List ℕ → List ℕ) → (List ℕ → Bool) → Part → Type 0
  IsTreeOrigin tree bytes sound part = (r : List ℕ) → sound r ≡ true → passes (nat_le (part.offset + part.size)) (tree_size (facts_in held) r) ≡ true → IsOrigin tree bytes part (Tree r)

  origin_whole : (tree : List ℕ → ℕ → ℕ → ℕ → Read) (bytes : List ℕ → List ℕ) (sound : List ℕ → Bool) (part : Part) → IsTreeOrigin tree bytes sound part
      → (origin : Origin) → origin_holds (facts_in held) sound (part.offset + part.size) origin ≡ true → IsOrigin tree bytes part origin
  origin_whole tree bytes sound part in_tree Zeros h = record { long = length-replicate part.size 0; read = zeros_read tree part }
  origin_whole tree bytes sound part in_tree (Blob r) h =
      let fact = has_fact held r (λ fact. nat_le (part.offset + part.size) fact.size) h in
      let fits : part.offset + part.size ≤ length fact.bytes = le_of (part.offset + part.size) (length fact.bytes) (blob_fits (part.offset + part.size) fact.bytes fact.passes) in
      record {
        long = ap (λ (o : Option (List ℕ)). length (take part.size (drop part.offset (unwrap_or o [])))) fact.there ∙ length-window fact.bytes part.offset part.size fits;
        read = blob_read tree part r fact.bytes fact.there fits;
      }
  origin_whole tree bytes sound part in_tree (Tree r) h = let both = and_parts (sound r) _ h in in_tree r both.0 both.1

  -- trees are read one level less deep
  abbrev deeper : ℕ → List ℕ → ℕ → ℕ → ℕ → Read
  deeper n r end at count = once (opened_tree (get held r) r end) (λ parts. walk_parts (part_read held n) parts at count)

  tree_origin : (n : ℕ) → ((part : Part) → part_fits (facts_in held) (Sound n) part ≡ true → IsRead n part) → (part : Part) → IsTreeOrigin (deeper n) (bytes_within held (suc n)) (Sound (suc n)) part
  tree_origin n one part r sound fits =
      let tree = tree_at held n r sound in
      let whole = tree_read n one r tree in
      let fit : part.offset + part.size ≤ total_size tree.parts = tree_long n r (part.offset + part.size) tree fits in
      let long : part.offset + part.size ≤ length (bytes_within held (suc n) r) = subst (λ (k : ℕ). part.offset + part.size ≤ k) (sym whole.long) fit in
      record {
        long = length-window (bytes_within held (suc n) r) part.offset part.size long;
        read = λ from count within.
            opened n r (part.offset + part.size) tree (λ parts. walk_parts (part_read held n) parts (part.offset + from) count) fit
            ∙ whole.read (part.offset + from) count
            ∙ ap all_of (sym (window-window (bytes_within held (suc n) r) part.offset part.size from count within));
      }

  pub part_whole : (n : ℕ) (part : Part) → part_fits (facts_in held) (Sound n) part ≡ true → IsRead n part
  unfolding part_read
  part_whole zero part fits =
      let origin = origin_whole (λ r end at k. stops (Deep r)) (bytes_within held zero) (Sound zero) part (λ r sound. absurd (false≢true sound)) part.origin fits in
      record { long = origin.long; read = origin.read }
  part_whole (suc n) part fits =
      let origin = origin_whole (deeper n) (bytes_within held (suc n)) (Sound (suc n)) part (tree_origin n (part_whole n) part) part.origin fits in
      record { long = origin.long; read = origin.read }

-- ---- how deep trees are looked at

by_depth : (held : Blobs) (d : ℕ) (r : List ℕ) → bytes_within held (suc d) r ≡ flat_map (part_bytes held (bytes_within held d)) (parts_at held r)
unfolding bytes_within
by_depth held d r = refl

-- what trees within are, by the recursion
abbrev SameBytes : Blobs → ℕ → ℕ → Type 0
SameBytes held n m = (q : List ℕ) → sound_within (facts_in held) n q ≡ true → sound_within (facts_in held) m q ≡ true → bytes_within held n q ≡ bytes_within held m q

-- trees that are sound at two depths have the same bytes at both
pub bytes_settled : (held : Blobs) (n m : ℕ) (r : List ℕ) → sound_within (facts_in held) n r ≡ true → sound_within (facts_in held) m r ≡ true → bytes_within held n r ≡ bytes_within held m r
bytes_settled held zero m r h k = absurd (false≢true h)
bytes_settled held (suc n) zero r h k = absurd (false≢true k)
bytes_settled held (suc n) (suc m) r h k =
    let tree = tree_at held n r h in
    let other = and_parts (is_ready (facts_in held) r) _ k in
    let fits : list_all (part_fits (facts_in held) (sound_within (facts_in held) m)) tree.parts ≡ true = sym (fits_at (sound_within (facts_in held) m)) ∙ other.1 in
    tree_bytes held n r tree ∙ same (bytes_settled held n m) tree.parts tree.fit fits ∙ sym (ap (flat_map (part_bytes held (bytes_within held m))) (parts_there held _ r tree)) ∙ sym (by_depth held m r)
  where
    fits_at : (sound : List ℕ → Bool) → passes (parts_fit (facts_in held) sound) (get (facts_in held) r) ≡ list_all (part_fits (facts_in held) sound) (tree_at held n r h).parts
    fits_at sound =
        ap (passes (parts_fit (facts_in held) sound)) (get-facts_in held r ∙ ap (option_map fact_of) (tree_at held n r h).there)
        ∙ ap (passes (list_all (part_fits (facts_in held) sound))) (tree_at held n r h).are

    one : SameBytes held n m → (part : Part) (origin : Origin) → origin_holds (facts_in held) (sound_within (facts_in held) n) (part.offset + part.size) origin ≡ true → origin_holds (facts_in held) (sound_within (facts_in held) m) (part.offset + part.size) origin ≡ true
        → origin_bytes held (bytes_within held n) part.offset part.size origin ≡ origin_bytes held (bytes_within held m) part.offset part.size origin
    one again part Zeros f g = refl
    one again part (Blob q) f g = refl
    one again part (Tree q) f g = ap (λ (l : List ℕ). take part.size (drop part.offset l)) (again q (and_parts _ _ f).0 (and_parts _ _ g).0)

    same : SameBytes held n m → (parts : List Part) → list_all (part_fits (facts_in held) (sound_within (facts_in held) n)) parts ≡ true → list_all (part_fits (facts_in held) (sound_within (facts_in held) m)) parts ≡ true
        → flat_map (part_bytes held (bytes_within held n)) parts ≡ flat_map (part_bytes held (bytes_within held m)) parts
    same again [] f g = refl
    same again (part ∷ parts) f g =
        let a = and_parts (part_fits (facts_in held) (sound_within (facts_in held) n) part) _ f in
        let b = and_parts (part_fits (facts_in held) (sound_within (facts_in held) m) part) _ g in
        λ i. one again part part.origin a.0 b.0 i ++ same again parts a.1 b.1 i

-- what the trees within are, by the recursion
abbrev IsSoundThere : Blobs → ℕ → Type 0
IsSoundThere held n = (q : List ℕ) → is_sound_tree (facts_in held) q ≡ true → nests_within held n q ≡ true → sound_within (facts_in held) n q ≡ true

-- a sound tree whose trees nest no deeper is sound at that depth
pub nests_sound : (held : Blobs) (n : ℕ) (r : List ℕ) → is_sound_tree (facts_in held) r ≡ true → nests_within held n r ≡ true → sound_within (facts_in held) n r ≡ true
unfolding nests_within
nests_sound held zero r h k = absurd (false≢true k)
nests_sound held (suc n) r h k =
    let settled = and_parts (is_ready (facts_in held) r) _ (sym (soundness_is_settled (facts_in held) r) ∙ h) in
    let tree = is_tree held (is_sound_tree (facts_in held)) r settled.1 in
    let nest : list_all (λ (part : Part). tree_passes (nests_within held n) part.origin) tree.parts ≡ true = sym (ap (list_all (λ (part : Part). tree_passes (nests_within held n) part.origin)) (parts_there held _ r tree)) ∙ k in
    let fits = all_at (nests_sound held n) tree.parts tree.fit nest in
    let there : passes (parts_fit (facts_in held) (sound_within (facts_in held) n)) (get (facts_in held) r) ≡ true =
    ap (passes (parts_fit (facts_in held) (sound_within (facts_in held) n))) (get-facts_in held r ∙ ap (option_map fact_of) tree.there)
    ∙ ap (passes (list_all (part_fits (facts_in held) (sound_within (facts_in held) n)))) tree.are ∙ fits in
    (λ i. settled.0 i && there i)
  where
    one : IsSoundThere held n → (end : ℕ) (origin : Origin) → origin_holds (facts_in held) (is_sound_tree (facts_in held)) end origin ≡ true → tree_passes (nests_within held n) origin ≡ true → origin_holds (facts_in held) (sound_within (facts_in held) n) end origin ≡ true
    one again end Zeros f g = f
    one again end (Blob q) f g = f
    one again end (Tree q) f g = let both = and_parts (is_sound_tree (facts_in held) q) _ f in (λ i. again q both.0 g i && both.1 i)

    all_at : IsSoundThere held n → (parts : List Part) → list_all (part_fits (facts_in held) (is_sound_tree (facts_in held))) parts ≡ true → list_all (λ (part : Part). tree_passes (nests_within held n) part.origin) parts ≡ true
        → list_all (part_fits (facts_in held) (sound_within (facts_in held) n)) parts ≡ true
    all_at again [] f g = refl
    all_at again (part ∷ parts) f g =
        let a = and_parts (part_fits (facts_in held) (is_sound_tree (facts_in held)) part) _ f in
        let b = and_parts (tree_passes (nests_within held n) part.origin) _ g in
        (λ i. one again (part.offset + part.size) part.origin a.0 b.0 i && all_at again parts a.1 b.1 i)

-- ---- the file

file_opened : (kind : Kind) (parts : List Part) → is_file kind ≡ true → tree_parts kind ≡ Some parts → file_parts kind ≡ Some parts
file_opened kind parts file are = ap (λ (b : Bool). cond b (tree_parts kind) None) file ∙ are

module _ (held : Blobs) (r : List ℕ) where
  read_whole : (n : ℕ) → passes (λ fact. is_file fact.kind) (get (facts_in held) r) ≡ true → sound_within (facts_in held) (suc n) r ≡ true
      → once (opened_file (get held r) r) (λ parts. walk_parts (part_read held n) parts 0 (total_size parts)) ≡ all_of (bytes_within held (suc n) r)
  read_whole n file sound =
      let tree = tree_at held n r sound in
      let whole = tree_read held n (part_whole held n) r tree in
      let named : is_file (fact_of tree.bytes).kind ≡ true = sym (ap (passes (λ fact. is_file fact.kind)) (get-facts_in held r ∙ ap (option_map fact_of) tree.there)) ∙ file in
      ap (λ (o : Option (List ℕ)). once (opened_file o r) (λ parts. walk_parts (part_read held n) parts 0 (total_size parts))) tree.there
      ∙ ap (λ (o : Option (List Part)). once (ok_or o (NotAFile r)) (λ parts. walk_parts (part_read held n) parts 0 (total_size parts))) (file_opened (fact_of tree.bytes).kind tree.parts named tree.are)
      ∙ whole.read 0 (total_size tree.parts)
      ∙ ap all_of (take_all (total_size tree.parts) (bytes_within held (suc n) r) (omega (arith, whole.long)))

pub sound_files_are_read : SoundFilesAreRead
sound_files_are_read held r file sound nests =
    let within = nests_sound held (suc deepest) r sound nests in
    read_whole held r deepest file within ∙ ap all_of (bytes_settled held (suc deepest) (suc (len (facts_in held))) r within (soundness_ends (facts_in held) (suc (len (facts_in held))) r (omega arith) ∙ sound))
