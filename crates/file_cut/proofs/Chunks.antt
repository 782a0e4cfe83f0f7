-- A source is cut into chunks as it is read.
use Rattle.std.proofs.Common.{◌≡◌, ◌≤◌, ◌<◌, ◌+◌, ◌-◌, ◌*◌, ◌⊎◌, inl, inr, ℕ, List, [], ◌∷◌, ◌++◌, length, flat_map, Option, None, Some, IfSome, Result, Ok, Err, IfOk, IfErr, refl, sym, ap, subst, ◌∙◌, append_assoc, append-nil, arith, length-append}
use Rattle.std.specs.Option.{ForSome}
use Rattle.std.proofs.lemmas.Bool.{cases_lt}
use Rattle.std.proofs.Math.Nat.{add-mul}
use Rattle.edge_base.specs.Edge.{SourceGave, SourceGaveAll, SourceGaveWithin, FaultsRose}
use Rattle.edge_base.proofs.Moves.{SourceGave-chain}
use Rattle.edge_base.specs.Shelf.{Blob}
use Rattle.edge_base.specs.declared.answers.PutFault.{PutFault}
use Rattle.edge_base.specs.declared.answers.PutFault.TheVariants as put_fault
use Rattle.edge_base.specs.declared.shelf.Shelf.{Ghosts as ShelfGhosts}
use Rattle.edge_base.specs.declared.edge.Source.{Ghosts as SourceGhosts}
use Rattle.file_cut.specs.declared.fault.CutFault.{CutFault}
use Rattle.file_cut.specs.declared.fault.CutFault.TheVariants.{TooLong, NameTooLong, ReadFault, Put, NoMemory}
use Rattle.blobref.specs.Blobref.{ref_of}
use Rattle.schema_fact.specs.Limits.{greatest_length}
use Rattle.file_cut.specs.Cutting.{cut, chunk_size, run_size, below_file, own_from, blobs_from, file_blobs, kept_of}
use Rattle.file_cut.specs.declared.draft.Draft.{Draft}
use Rattle.file_cut.specs.Drafts.{Puts, IsCut, IsPut, HasRoom}
use Rattle.file_cut.specs.Writing.{GaveSome, PutsFront, WhyUnwritten, Unwritten, Written, NotWritten, longest_name, longest_file, unput}
use Rattle.file_cut.proofs.Drafting.{cut_early, cut_longer}
use Rattle.file_cut.proofs.Cuts.{cut-behind, flat-cut, kept_front}

-- ---- what is left of the source

-- the bytes behind those that were read
record Behind (left : Option (List ℕ)) (bytes : List ℕ) : Type 0 where
  rest : List ℕ
  all : ForSome left (λ (l : List ℕ). bytes ++ rest ≡ l)

some_same : (x y : List ℕ) → Some x ≡ Some y → x ≡ y
some_same x y e = cc e

behind : (left now : Option (List ℕ)) (bytes : List ℕ) → SourceGave left now bytes → Behind left bytes
behind None now bytes h = record { rest = []; all = λ l e. absurd (cc e) }
behind (Some all) now bytes h = record { rest = h.0; all = λ l e. sym h.2 ∙ some_same all l e }

-- there are none at the end of the source
none_behind : (left now : Option (List ℕ)) (bytes : List ℕ) → SourceGave left now bytes → IfSome now (λ (l : List ℕ). l ≡ []) → ForSome left (λ (l : List ℕ). bytes ++ [] ≡ l)
none_behind None now bytes h end = λ l e. absurd (cc e)
none_behind (Some all) now bytes h end =
    let none : h.0 ≡ [] = subst (λ (o : Option (List ℕ)). IfSome o (λ (l : List ℕ). l ≡ [])) h.1 end in
    λ l e. ap (λ (r : List ℕ). bytes ++ r) (sym none) ∙ sym h.2 ∙ some_same all l e

pub gave_all : (left now : Option (List ℕ)) (bytes : List ℕ) → SourceGave left now bytes → IfSome now (λ (l : List ℕ). l ≡ []) → SourceGaveAll left now bytes
gave_all None now bytes h end = h
gave_all (Some all) now bytes h end =
    let none : h.0 ≡ [] = subst (λ (o : Option (List ℕ)). IfSome o (λ (l : List ℕ). l ≡ [])) h.1 end in
    (h.1 ∙ ap Some none, h.2 ∙ ap (λ (l : List ℕ). bytes ++ l) none ∙ append-nil bytes)

all_given : (left now : Option (List ℕ)) (bytes : List ℕ) → SourceGaveAll left now bytes → GaveSome left now bytes
all_given None now bytes h = (bytes, h, λ l e. absurd (cc e))
all_given (Some all) now bytes h = (bytes, ([], h.0, h.1 ∙ sym (append-nil bytes)), λ l e. sym h.1 ∙ some_same all l e)

-- what was put is a front, whatever chunks come
module _ {B : Type 0} (h : ShelfGhosts B) (full : ℕ) (some : 0 < full) where
  pub front_put : (start now : B) (draft : Draft) (chunks more : List (List ℕ)) → IsPut h full start now draft chunks → PutsFront h start (below_file full (chunks ++ more)) now
  front_put start now draft chunks more (runs, last, is, same, either, puts) =
      let front = kept_front full some runs last more is.whole is.fits (longer either) in
      let all = flat_map (λ (r : List (List ℕ)). r) runs in (
        kept_of runs last,
        front.0,
        ap (below_file full) (ap (λ (l : List (List ℕ)). l ++ more) (sym same) ∙ append_assoc all last more) ∙ front.1,
        puts,
      )
    where
      longer : (runs ≡ []) ⊎ (0 < length last) → (runs ≡ []) ⊎ (0 < length (last ++ more))
      longer (inl none) = inl none
      longer (inr long) = inr (omega (arith, long, length-append last more))

-- ---- the loop

gave_none : (left : Option (List ℕ)) → SourceGave left left []
gave_none None = refl
gave_none (Some all) = (all, refl, refl)

FaultsRose-after : (a b c : ℕ) → a ≤ b → FaultsRose b c → FaultsRose a c
FaultsRose-after a b c le rose = omega (arith, le, rose)

-- so many whole chunks of the source were put
pub record SoFar {S B : Type 0} (g : SourceGhosts S) (h : ShelfGhosts B) (size full most : ℕ) (source source_now : S) (start now : B) (draft : Draft) (left : ℕ) : Type 0 where
  pub given : List ℕ
  pub count : ℕ
  pub whole : length given ≡ count * size
  pub gave : SourceGave (g.left source) (g.left source_now) given
  pub sum : length given + left ≡ most
  pub put : IsPut h full start now draft (cut size given)

module _ {S B : Type 0} (g : SourceGhosts S) (h : ShelfGhosts B) (size full most : ℕ) (some : 0 < size) (room : 0 < full) where
  abbrev pub blobs_in : List ℕ → List (List ℕ)
  blobs_in input = below_file full (cut size input)

  pub so_far_none : (source : S) (start : B) (draft : Draft) → Puts h start [] start → draft.run ≡ [] → draft.runs ≡ [] → SoFar g h size full most source source start start draft most
  so_far_none source start draft none run runs = record {
    given = [];
    count = 0;
    whole = omega arith;
    gave = gave_none (g.left source);
    sum = omega arith;
    put = ([], [], record { run = run; runs_are = runs; whole = tt; fits = omega arith }, refl, inl refl, none);
  }

  -- they are a front, whatever the source has behind them
  front_of : (source mid : S) (start b : B) (draft : Draft) (left : ℕ) (so : SoFar g h size full most source mid start b draft left) (more : List ℕ) → PutsFront h start (blobs_in (so.given ++ more)) b
  front_of source mid start b draft left so more =
      subst (λ (cs : List (List ℕ)). PutsFront h start (below_file full cs) b) (sym (cut-behind size some so.count so.given more so.whole))
      (front_put h full room start b draft (cut size so.given) (cut size more) so.put)

  -- there is room for a piece
  pub has_room : (source mid : S) (start b : B) (draft : Draft) (left n : ℕ) → most ≤ greatest_length → n ≤ left → SoFar g h size full most source mid start b draft left → HasRoom h full b draft n
  has_room source mid start b draft left n limit fits so = record {
    start = start;
    chunks = cut size so.given;
    put = so.put;
    limit = omega (arith, ap (λ (l : List ℕ). length l) (flat-cut size some so.given), so.sum, limit, fits);
  }

  -- the source fails
  pub not_read : (source mid now : S) (start b : B) (draft : Draft) (left k : ℕ) → SoFar g h size full most source mid start b draft left
      → SourceGaveWithin (g.left mid) (g.left now) k → g.faults source ≤ g.faults mid → FaultsRose (g.faults mid) (g.faults now)
      → Unwritten g h most blobs_in source now start b ReadFault
  not_read source mid now start b draft left k so front later rose =
      let rest = behind (g.left source) (g.left mid) so.given so.gave in
      record {
        input = so.given ++ rest.rest;
        read = (so.given ++ front.0, SourceGave-chain (g.left source) (g.left mid) (g.left now) so.given front.0 so.gave front.2, rest.all);
        why = (
          front_of source mid start b draft left so rest.rest,
          FaultsRose-after (g.faults source) (g.faults mid) (g.faults now) later rose,
        );
      }

  -- there are too many bytes
  pub too_long : (source mid now : S) (start b : B) (draft : Draft) (left : ℕ) (bytes : List ℕ) → SoFar g h size full most source mid start b draft left
      → SourceGave (g.left mid) (g.left now) bytes → left < length bytes → Unwritten g h most blobs_in source now start b TooLong
  too_long source mid now start b draft left bytes so more long =
      let given = SourceGave-chain (g.left source) (g.left mid) (g.left now) so.given bytes so.gave more in
      let rest = behind (g.left source) (g.left now) (so.given ++ bytes) given in
      record {
        input = (so.given ++ bytes) ++ rest.rest;
        read = (so.given ++ bytes, given, rest.all);
        why = (
          subst (λ (input : List ℕ). PutsFront h start (blobs_in input) b) (sym (append_assoc so.given bytes rest.rest)) (front_of source mid start b draft left so (bytes ++ rest.rest)),
          omega (arith, so.sum, long, length-append (so.given ++ bytes) rest.rest, length-append so.given bytes),
        );
      }

  -- it isn't put
  why_unput : (faults faults_now : ℕ) (start now : B) (input : List ℕ) (blobs : List (List ℕ)) (e : PutFault) → IsCut h start blobs now e → WhyUnwritten h most faults faults_now start now input blobs (unput e)
  why_unput faults faults_now start now input blobs (put_fault.TooBig n) cut = cut
  why_unput faults faults_now start now input blobs (put_fault.BadDigest said is) cut = cut
  why_unput faults faults_now start now input blobs (put_fault.Full n p) cut = cut
  why_unput faults faults_now start now input blobs put_fault.Disk cut = cut
  why_unput faults faults_now start now input blobs put_fault.NoMemory cut = cut

  -- what is cut once a piece was read, which is short only at the end
  record Piece (left : Option (List ℕ)) (given bytes : List ℕ) : Type 0 where
    rest : List ℕ
    all : ForSome left (λ (l : List ℕ). (given ++ bytes) ++ rest ≡ l)
    more : List (List ℕ)
    cut_is : cut size ((given ++ bytes) ++ rest) ≡ cut size given ++ (cut size bytes ++ more)

  piece : (n : ℕ) (source mid now : S) (start b : B) (draft : Draft) (left : ℕ) (bytes : List ℕ) (so : SoFar g h size full most source mid start b draft left)
      → SourceGave (g.left mid) (g.left now) bytes → length bytes ≤ n * size → (length bytes < n * size → IfSome (g.left now) (λ (l : List ℕ). l ≡ []))
      → Piece (g.left source) so.given bytes
  piece n source mid now start b draft left bytes so more fits end = go (cases_lt (length bytes) (n * size))
    where
      given : SourceGave (g.left source) (g.left now) (so.given ++ bytes)
      given = SourceGave-chain (g.left source) (g.left mid) (g.left now) so.given bytes so.gave more

      cut_of : (rest : List ℕ) → cut size ((so.given ++ bytes) ++ rest) ≡ cut size so.given ++ cut size (bytes ++ rest)
      cut_of rest = ap (cut size) (append_assoc so.given bytes rest) ∙ cut-behind size some so.count so.given (bytes ++ rest) so.whole

      go : (length bytes < n * size) ⊎ (n * size ≤ length bytes) → Piece (g.left source) so.given bytes
      go (inl less) = record {
        rest = [];
        all = none_behind (g.left source) (g.left now) (so.given ++ bytes) given (end less);
        more = [];
        cut_is = cut_of [] ∙ ap (λ (l : List (List ℕ)). cut size so.given ++ l) (ap (cut size) (append-nil bytes) ∙ sym (append-nil (cut size bytes)));
      }
      go (inr long) =
          let rest = behind (g.left source) (g.left now) (so.given ++ bytes) given in
          record {
            rest = rest.rest;
            all = rest.all;
            more = cut size rest.rest;
            cut_is = cut_of rest.rest ∙ ap (λ (l : List (List ℕ)). cut size so.given ++ l) (cut-behind size some n bytes rest.rest (omega (arith, long, fits)));
          }

  pub not_put : (n : ℕ) (source mid now : S) (start b c : B) (draft : Draft) (left : ℕ) (bytes : List ℕ) (e : PutFault) (fault : CutFault) → SoFar g h size full most source mid start b draft left
      → SourceGave (g.left mid) (g.left now) bytes → length bytes ≤ n * size → (length bytes < n * size → IfSome (g.left now) (λ (l : List ℕ). l ≡ []))
      → ((chunks more : List (List ℕ)) → IsPut h full start b draft chunks → IsCut h start (below_file full (chunks ++ (cut size bytes ++ more))) c e)
      → fault ≡ unput e → Unwritten g h most blobs_in source now start c fault
  not_put n source mid now start b c draft left bytes e fault so more fits end refused is =
      let p = piece n source mid now start b draft left bytes so more fits end in
      let input = (so.given ++ bytes) ++ p.rest in
      let why : IsCut h start (blobs_in input) c e = subst (λ (cs : List (List ℕ)). IsCut h start (below_file full cs) c e) (sym p.cut_is) (refused (cut size so.given) p.more so.put) in
      record {
        input = input;
        read = (so.given ++ bytes, SourceGave-chain (g.left source) (g.left mid) (g.left now) so.given bytes so.gave more, p.all);
        why = subst (λ (f : CutFault). WhyUnwritten h most (g.faults source) (g.faults now) start c input (blobs_in input) f) (sym is)
            (why_unput (g.faults source) (g.faults now) start c input (blobs_in input) e why);
      }

  -- what comes behind all chunks isn't put
  pub end_unput : (name : List ℕ) (source now : S) (start c : B) (bytes : List ℕ) (e : PutFault) (fault : CutFault) → SourceGaveAll (g.left source) (g.left now) bytes
      → IsCut h start (blobs_from full name (cut size bytes)) c e → fault ≡ unput e
      → Unwritten g h most (λ input. blobs_from full name (cut size input)) source now start c fault
  end_unput name source now start c bytes e fault all refused is = record {
    input = bytes;
    read = all_given (g.left source) (g.left now) bytes all;
    why = subst (λ (f : CutFault). WhyUnwritten h most (g.faults source) (g.faults now) start c bytes (blobs_from full name (cut size bytes)) f) (sym is)
        (why_unput (g.faults source) (g.faults now) start c bytes (blobs_from full name (cut size bytes)) e refused);
  }

  -- once a piece was put, its bytes are the next ones
  put_behind : (start b c : B) (source mid : S) (draft new : Draft) (left : ℕ) (bytes : List ℕ) (so : SoFar g h size full most source mid start b draft left)
      → ((chunks : List (List ℕ)) → IsPut h full start b draft chunks → IsPut h full start c new (chunks ++ cut size bytes))
      → IsPut h full start c new (cut size (so.given ++ bytes))
  put_behind start b c source mid draft new left bytes so next =
      subst (λ (cs : List (List ℕ)). IsPut h full start c new cs) (sym (cut-behind size some so.count so.given bytes so.whole)) (next (cut size so.given) so.put)

  -- it is the last one
  pub last_put : (source mid now : S) (start b c : B) (draft new : Draft) (left : ℕ) (bytes : List ℕ) → SoFar g h size full most source mid start b draft left
      → SourceGave (g.left mid) (g.left now) bytes → length bytes ≤ left → IfSome (g.left now) (λ (l : List ℕ). l ≡ [])
      → ((chunks : List (List ℕ)) → IsPut h full start b draft chunks → IsPut h full start c new (chunks ++ cut size bytes))
      → (all : List ℕ) × SourceGaveAll (g.left source) (g.left now) all × (length all ≤ most) × IsPut h full start c new (cut size all)
  last_put source mid now start b c draft new left bytes so more within end next =
      let given = SourceGave-chain (g.left source) (g.left mid) (g.left now) so.given bytes so.gave more in (
        so.given ++ bytes,
        gave_all (g.left source) (g.left now) (so.given ++ bytes) given end,
        omega (arith, so.sum, within, length-append so.given bytes),
        put_behind start b c source mid draft new left bytes so next,
      )

  -- it is a whole one
  pub next_put : (n : ℕ) (source mid now : S) (start b c : B) (draft new : Draft) (left : ℕ) (bytes : List ℕ) → SoFar g h size full most source mid start b draft left
      → SourceGave (g.left mid) (g.left now) bytes → length bytes ≡ n * size → length bytes ≤ left
      → ((chunks : List (List ℕ)) → IsPut h full start b draft chunks → IsPut h full start c new (chunks ++ cut size bytes))
      → SoFar g h size full most source now start c new (left - length bytes)
  next_put n source mid now start b c draft new left bytes so more is within next =
      let long = length-append so.given bytes in
      record {
        given = so.given ++ bytes;
        count = so.count + n;
        whole = omega (arith, long, so.whole, is, add-mul so.count n size);
        gave = SourceGave-chain (g.left source) (g.left mid) (g.left now) so.given bytes so.gave more;
        sum = omega (arith, so.sum, within, long);
        put = put_behind start b c source mid draft new left bytes so next;
      }

-- ---- the file

nothing_read : (left : Option (List ℕ)) → (input : List ℕ) × GaveSome left left input
nothing_read None = ([], ([], refl, λ l e. absurd (cc e)))
nothing_read (Some all) = (all, ([], (all, refl, refl), λ l e. some_same all l e))

chunk_is : 1048576 ≡ chunk_size
unfolding chunk_size
chunk_is = refl

run_is : 4096 ≡ run_size
unfolding run_size
run_is = refl

module _ {S B : Type 0} (g : SourceGhosts S) (h : ShelfGhosts B)
    (nothing : (s : B) → h.puts s [] s)
    (then : (a b c : B) (first second : List Blob) → h.puts a first b → h.puts b second c → h.puts a (first ++ second) c)
    (follows : (a b : B) (blobs : List Blob) → h.puts a blobs b → h.follows a b)
    (follows_then : (a b c : B) → h.follows a b → h.follows b c → h.follows a c) where
  longer : (start now : B) (blobs more : List (List ℕ)) → PutsFront h start blobs now → PutsFront h start (blobs ++ more) now
  longer start now blobs more (put, rest, is, puts) = (put, rest ++ more, ap (λ (l : List (List ℕ)). l ++ more) is ∙ append_assoc put rest more, puts)

  why_longer : (most f f_now : ℕ) (start now : B) (input : List ℕ) (blobs more : List (List ℕ)) (fault : CutFault)
      → WhyUnwritten h most f f_now start now input blobs fault → WhyUnwritten h most f f_now start now input (blobs ++ more) fault
  why_longer most f f_now start now input blobs more TooLong w = (longer start now blobs more w.0, w.1)
  why_longer most f f_now start now input blobs more (NameTooLong len) w = w
  why_longer most f f_now start now input blobs more ReadFault w = (longer start now blobs more w.0, w.1)
  why_longer most f f_now start now input blobs more (Put fault) w = cut_longer h nothing then follows follows_then start now blobs more fault w
  why_longer most f f_now start now input blobs more NoMemory w = cut_longer h nothing then follows follows_then start now blobs more put_fault.NoMemory w

  -- the chunks weren't all put
  pub chunks_unwritten : (size full most : ℕ) (name : List ℕ) (source source_now : S) (start now : B) (fault : CutFault)
      → Unwritten g h most (λ input. below_file full (cut size input)) source source_now start now fault
      → Unwritten g h most (λ input. blobs_from full name (cut size input)) source source_now start now fault
  chunks_unwritten size full most name source source_now start now fault u = record {
    input = u.input;
    read = u.read;
    why = why_longer most (g.faults source) (g.faults source_now) start now u.input (below_file full (cut size u.input)) (own_from full name (cut size u.input) ∷ []) fault u.why;
  }

  -- no memory for a chunk
  pub unwritten_early : (most : ℕ) (blobs : List ℕ → List (List ℕ)) (source : S) (start : B) → Unwritten g h most blobs source source start start NoMemory
  unwritten_early most blobs source start =
      let input = nothing_read (g.left source) in
      record { input = input.0; read = input.1; why = cut_early h nothing then follows follows_then start (blobs input.0) }

-- by the sizes of files
module _ {S B : Type 0} (g : SourceGhosts S) (h : ShelfGhosts B) (len : ℕ) (is : len ≡ 1048576) (name : List ℕ) (source source_now : S) (start now : B) where
  size_is : len ≡ chunk_size
  size_is = is ∙ chunk_is

  pub written_sized : (r bytes : List ℕ) → SourceGaveAll (g.left source) (g.left source_now) bytes → length bytes ≤ longest_file → Puts h start (blobs_from 4096 name (cut len bytes)) now
      → r ≡ ref_of (own_from 4096 name (cut len bytes)) → Written g h name source source_now start now r
  written_sized r bytes all most puts own = (
    bytes,
    all,
    most,
    subst (λ (bs : List (List ℕ)). Puts h start bs now) (λ i. blobs_from (run_is i) name (cut (size_is i) bytes)) puts,
    own ∙ (λ i. ref_of (own_from (run_is i) name (cut (size_is i) bytes))),
  )

  unwritten_sized : (fault : CutFault) → Unwritten g h longest_file (λ input. blobs_from 4096 name (cut len input)) source source_now start now fault
      → Unwritten g h longest_file (file_blobs name) source source_now start now fault
  unwritten_sized fault u = subst (λ (bs : List ℕ → List (List ℕ)). Unwritten g h longest_file bs source source_now start now fault)
      (λ i input. blobs_from (run_is i) name (cut (size_is i) input)) u

  pub not_written_sized : length name ≤ longest_name → (fault : CutFault) → Unwritten g h longest_file (λ input. blobs_from 4096 name (cut len input)) source source_now start now fault
      → NotWritten g h name source source_now start now fault
  not_written_sized short TooLong u = (short, unwritten_sized TooLong u)
  not_written_sized short (NameTooLong len) u = absurd u.why
  not_written_sized short ReadFault u = (short, unwritten_sized ReadFault u)
  not_written_sized short (Put fault) u = (short, unwritten_sized (Put fault) u)
  not_written_sized short NoMemory u = (short, unwritten_sized NoMemory u)

  pub written_result : (result : Result (List ℕ) CutFault)
      → IfOk result (λ r. (bytes : List ℕ) × SourceGaveAll (g.left source) (g.left source_now) bytes × (length bytes ≤ longest_file)
      × Puts h start (blobs_from 4096 name (cut len bytes)) now × (r ≡ ref_of (own_from 4096 name (cut len bytes))))
      → IfOk result (Written g h name source source_now start now)
  written_result (Ok r) w = written_sized r w.0 w.1 w.2 w.3 w.4
  written_result (Err e) w = w

  pub not_written_result : length name ≤ longest_name → (result : Result (List ℕ) CutFault)
      → IfErr result (λ fault. Unwritten g h longest_file (λ input. blobs_from 4096 name (cut len input)) source source_now start now fault)
      → IfErr result (NotWritten g h name source source_now start now)
  not_written_result short (Ok r) w = w
  not_written_result short (Err e) w = not_written_sized short e w
