-- Chunks are put one after the other.
use Rattle.std.proofs.Common.{◌≡◌, ◌≤◌, ◌<◌, ◌⊎◌, inl, inr, ℕ, Bool, false, cond, ◌==◌, List, [], ◌∷◌, ◌++◌, length, flat_map, Option, None, Some, Result, Ok, Err, OnOk, IfErr, refl, sym, ap, subst, ◌∙◌, append_assoc, append-nil, arith, length-append}
use Rattle.std.proofs.lemmas.Bool.Decides.{nat_tests}
use Rattle.std.proofs.lemmas.List.{length-map, map-append}
use Rattle.std.proofs.lemmas.List.Concat.{flat_map-append}
use Rattle.edge_base.specs.Edge.{FaultsRose}
use Rattle.blobref.specs.Blobref.{ref_of}
use Rattle.edge_base.specs.Shelf.{Blob, Blobs, Keeps, KeepLeaves, named, max_blob}
use Rattle.edge_base.specs.ShelfLaws.{Keeps-then}
use Rattle.edge_base.specs.declared.answers.PutFault.{PutFault}
use Rattle.edge_base.specs.declared.answers.PutFault.TheVariants as fault
use Rattle.edge_base.specs.declared.shelf.Shelf.{Ghosts}
use Rattle.schema_fact.specs.declared.parts.Part.{Part}
use Rattle.schema_write.specs.Blobs.{bytes_blob}
use Rattle.file_cut.specs.Cutting.{blob_part, run_part, run_blob, run_blobs, cut, below_file, parts_of_file, kept_of}
use Rattle.file_cut.specs.declared.draft.Draft.{Draft}
use Rattle.file_cut.specs.Drafts.{Puts, FirstIs, WhyCut, IsCut, tree_part, closed, IsDraft, AreChunks, IsPut, IsRoomy, parts_in}
use Rattle.file_cut.proofs.Cuts.{whole-push, kept_front, kept_closing, kept_single, kept_several}

keeps_none : (a b : Option Blobs) → b ≡ a → Keeps a b []
keeps_none None b is = is
keeps_none (Some held) b is = is

FaultsRose-after : (a b c : ℕ) → a ≤ b → FaultsRose b c → FaultsRose a c
FaultsRose-after a b c le rose = omega (arith, le, rose)

named-append : (first second : List (List ℕ)) → named (first ++ second) ≡ named first ++ named second
named-append first second = map-append {A = List ℕ} {B = Blob} (λ bytes. (ref_of bytes, bytes)) first second

first_more : (P : List ℕ → Type 0) (blobs more : List (List ℕ)) → FirstIs P blobs → FirstIs P (blobs ++ more)
first_more P [] more h = absurd h
first_more P (blob ∷ blobs) more h = h

-- ---- what was put

module _ {B : Type 0} (g : Ghosts B)
    (nothing : (s : B) → g.puts s [] s)
    (then : (a b c : B) (first second : List Blob) → g.puts a first b → g.puts b second c → g.puts a (first ++ second) c)
    (follows : (a b : B) (blobs : List Blob) → g.puts a blobs b → g.follows a b)
    (follows_then : (a b c : B) → g.follows a b → g.follows b c → g.follows a c) where
  pub put_none : (s : B) → Puts g s [] s
  put_none s = record { told = keeps_none (g.content s) (g.content s) refl; later = omega arith; run = nothing s }

  -- runs that follow one another, under the names that the program gives
  runs_on : (a b c : B) (first second : List (List ℕ)) → g.puts a (named first) b → g.puts b (named second) c → g.puts a (named (first ++ second)) c
  runs_on a b c first second p q = subst (λ (blobs : List Blob). g.puts a blobs c) (sym (named-append first second)) (then a b c (named first) (named second) p q)

  pub put_more : (a b c : B) (first second : List (List ℕ)) → Puts g a first b → Puts g b second c → Puts g a (first ++ second) c
  put_more a b c first second p q = record {
    told = subst (Keeps (g.content a) (g.content c)) (sym (named-append first second))
        (Keeps-then (g.content a) (g.content b) (g.content c) (named first) (named second) p.told q.told);
    later = omega (arith, p.later, q.later);
    run = runs_on a b c first second p.run q.run;
  }

  -- one blob was put
  pub put_one : (a b : B) (r bytes : List ℕ) → r ≡ ref_of bytes → Keeps (g.content a) (g.content b) ((r, bytes) ∷ []) → g.faults a ≤ g.faults b
      → g.puts a ((r, bytes) ∷ []) b → Puts g a (bytes ∷ []) b
  put_one a b r bytes is told later run = record {
    told = subst (λ (q : List ℕ). Keeps (g.content a) (g.content b) ((q, bytes) ∷ [])) is told;
    later = later;
    run = subst (λ (q : List ℕ). g.puts a ((q, bytes) ∷ []) b) is run;
  }

  -- no memory, before anything is done
  pub cut_early : (s : B) (blobs : List (List ℕ)) → IsCut g s blobs s fault.NoMemory
  cut_early s blobs = record {
    put = [];
    rest = blobs;
    front = refl;
    told = keeps_none (g.content s) (g.content s) refl;
    later = omega arith;
    run = follows s s [] (nothing s);
    why = nothing s;
  }

  -- one blob was refused
  why_one : (a b : B) (bytes : List ℕ) (e : PutFault)
      → length bytes ≤ max_blob → KeepLeaves (λ blobs. g.puts a blobs b) (g.fills b (ref_of bytes, bytes)) (g.faults a) (g.faults b) (ref_of bytes, bytes) (Err e)
      → WhyCut g a b [] (bytes ∷ []) e
  why_one a b bytes (fault.TooBig size) fits h = absurd (omega (arith, fits, h.1, h.2))
  why_one a b bytes (fault.BadDigest said is) fits h = h
  why_one a b bytes (fault.Full blobs pack) fits h = h
  why_one a b bytes fault.Disk fits h = h
  why_one a b bytes fault.NoMemory fits h = h

  pub cut_one : (a b : B) (r bytes : List ℕ) (e : PutFault) → r ≡ ref_of bytes → g.content b ≡ g.content a → g.faults a ≤ g.faults b → g.follows a b
      → length bytes ≤ max_blob → KeepLeaves (λ blobs. g.puts a blobs b) (g.fills b (r, bytes)) (g.faults a) (g.faults b) (r, bytes) (Err e) → IsCut g a (bytes ∷ []) b e
  cut_one a b r bytes e is told later run fits h = record {
    put = [];
    rest = bytes ∷ [];
    front = refl;
    told = keeps_none (g.content a) (g.content b) told;
    later = later;
    run = run;
    why = why_one a b bytes e fits
        (subst (λ (q : List ℕ). KeepLeaves (λ blobs. g.puts a blobs b) (g.fills b (q, bytes)) (g.faults a) (g.faults b) (q, bytes) (Err e)) is h);
  }

  -- some were put before
  why_after : (a b c : B) (first put rest more : List (List ℕ)) (e : PutFault) → Puts g a first b → WhyCut g b c put rest e → WhyCut g a c (first ++ put) (rest ++ more) e
  why_after a b c first put rest more (fault.TooBig size) p h = h
  why_after a b c first put rest more (fault.BadDigest said is) p h = h
  why_after a b c first put rest more (fault.Full blobs pack) p h = (runs_on a b c first put p.run h.0, first_more _ rest more h.1)
  why_after a b c first put rest more fault.Disk p h = FaultsRose-after (g.faults a) (g.faults b) (g.faults c) p.later h
  why_after a b c first put rest more fault.NoMemory p h = runs_on a b c first put p.run h

  pub cut_after : (a b c : B) (first blobs more whole : List (List ℕ)) (e : PutFault) → Puts g a first b → IsCut g b blobs c e → whole ≡ first ++ (blobs ++ more) → IsCut g a whole c e
  cut_after a b c first blobs more whole e p q is = record {
    put = first ++ q.put;
    rest = q.rest ++ more;
    front = is ∙ ap (λ (l : List (List ℕ)). first ++ (l ++ more)) q.front
        ∙ ap (λ (l : List (List ℕ)). first ++ l) (append_assoc q.put q.rest more) ∙ sym (append_assoc first q.put (q.rest ++ more));
    told = subst (Keeps (g.content a) (g.content c)) (sym (named-append first q.put))
        (Keeps-then (g.content a) (g.content b) (g.content c) (named first) (named q.put) p.told q.told);
    later = omega (arith, p.later, q.later);
    run = follows_then a b c (follows a b (named first) p.run) q.run;
    why = why_after a b c first q.put q.rest more e p q.why;
  }

  -- ---- runs

  -- as many parts as chunks
  last_size : (size : ℕ) (draft : Draft) (runs : List (List (List ℕ))) (last : List (List ℕ)) → IsDraft size draft runs last → length draft.run ≡ length last
  last_size size draft runs last is = ap length is.run ∙ length-map last blob_part

  -- the run is closed
  pub room_closed : (size : ℕ) → 0 < size → (start a b : B) (old new : Draft) → size ≤ length old.run → Puts g a (bytes_blob old.run ∷ []) b → new ≡ closed old
      → (chunks : List (List ℕ)) → IsPut g size start a old chunks → IsRoomy g size start b new chunks
  room_closed size some start a b old new full put is chunks (runs, last, draft, same, either, puts) =
      let len : length last ≡ size = omega (arith, full, last_size size old runs last draft, draft.fits) in
      let blob : bytes_blob old.run ≡ run_blob last = ap bytes_blob draft.run in
      let all : kept_of runs last ++ bytes_blob old.run ∷ [] ≡ kept_of (runs ++ last ∷ []) [] =
      append_assoc (flat_map run_blobs runs) last (bytes_blob old.run ∷ [])
      ∙ ap (λ (t : List ℕ). flat_map run_blobs runs ++ (last ++ t ∷ [])) blob
      ∙ ap (λ (l : List (List ℕ)). flat_map run_blobs runs ++ l) (sym (append-nil (run_blobs last)))
      ∙ sym (flat_map-append run_blobs runs (last ∷ []))
      ∙ sym (append-nil (flat_map run_blobs (runs ++ last ∷ []))) in (
        runs ++ last ∷ [],
        [],
        record {
          run = ap (λ (d : Draft). d.run) is;
          runs_are = ap (λ (d : Draft). d.runs) is ∙ (λ i. draft.runs_are i ++ tree_part (draft.run i) ∷ []) ∙ sym (map-append run_part runs (last ∷ []));
          whole = whole-push size some runs last draft.whole len;
          fits = omega arith;
        },
        append-nil (flat_map (λ (r : List (List ℕ)). r) (runs ++ last ∷ [])) ∙ flat_map-append (λ (r : List (List ℕ)). r) runs (last ∷ [])
            ∙ ap (λ (l : List (List ℕ)). flat_map (λ (r : List (List ℕ)). r) runs ++ l) (append-nil last) ∙ same,
        some,
        subst (λ (l : List (List ℕ)). Puts g start l b) all (put_more start a b (kept_of runs last) (bytes_blob old.run ∷ []) puts put),
      )

  -- it is refused
  pub room_cut : (size : ℕ) → 0 < size → (start a b : B) (old : Draft) (e : PutFault) → size ≤ length old.run → IsCut g a (bytes_blob old.run ∷ []) b e
      → (chunks more : List (List ℕ)) (next : List ℕ) → IsPut g size start a old chunks → IsCut g start (below_file size (chunks ++ next ∷ more)) b e
  room_cut size some start a b old e full cut chunks more next (runs, last, draft, same, either, puts) =
      let len : length last ≡ size = omega (arith, full, last_size size old runs last draft, draft.fits) in
      let blob : bytes_blob old.run ≡ run_blob last = ap bytes_blob draft.run in
      let rest = kept_closing size some runs last next more draft.whole len in
      cut_after start a b (kept_of runs last) (bytes_blob old.run ∷ []) rest.0 (below_file size (chunks ++ next ∷ more)) e puts cut
      (ap (λ (l : List (List ℕ)). below_file size (l ++ next ∷ more)) (sym same)
      ∙ rest.1
      ∙ ap (λ (t : List ℕ). kept_of runs last ++ (t ∷ rest.0)) (sym blob))

  -- it needn't be closed
  pub room_there : (size : ℕ) (start a : B) (old : Draft) → length old.run < size → (chunks : List (List ℕ)) → IsPut g size start a old chunks → IsRoomy g size start a old chunks
  room_there size start a old less chunks (runs, last, draft, same, either, puts) =
      (runs, last, draft, same, omega (arith, less, last_size size old runs last draft), puts)

  -- ---- a chunk more

  nonempty : (last : List (List ℕ)) (bytes : List ℕ) → 0 < length (last ++ bytes ∷ [])
  nonempty last bytes = omega (arith, length-append last (bytes ∷ []))

  pub chunk_more : (size : ℕ) (start a b : B) (old new : Draft) (bytes : List ℕ) → Puts g a (bytes ∷ []) b
      → new ≡ record { run = old.run ++ blob_part bytes ∷ []; runs = old.runs }
      → (chunks : List (List ℕ)) → IsRoomy g size start a old chunks → IsPut g size start b new (chunks ++ bytes ∷ [])
  chunk_more size start a b old new bytes put is chunks (runs, last, draft, same, less, puts) = (
    runs,
    last ++ bytes ∷ [],
    record {
      run = ap (λ (d : Draft). d.run) is ∙ ap (λ (l : List Part). l ++ blob_part bytes ∷ []) draft.run ∙ sym (map-append blob_part last (bytes ∷ []));
      runs_are = ap (λ (d : Draft). d.runs) is ∙ draft.runs_are;
      whole = draft.whole;
      fits = omega (arith, less, length-append last (bytes ∷ []));
    },
    sym (append_assoc (flat_map (λ (r : List (List ℕ)). r) runs) last (bytes ∷ [])) ∙ ap (λ (l : List (List ℕ)). l ++ bytes ∷ []) same,
    inr (nonempty last bytes),
    subst (λ (l : List (List ℕ)). Puts g start l b) (append_assoc (flat_map run_blobs runs) last (bytes ∷ [])) (put_more start a b (kept_of runs last) (bytes ∷ []) puts put),
  )

  pub chunk_cut : (size : ℕ) → 0 < size → (start a b : B) (old : Draft) (bytes : List ℕ) (e : PutFault) → IsCut g a (bytes ∷ []) b e
      → (chunks more : List (List ℕ)) → IsRoomy g size start a old chunks → IsCut g start (below_file size (chunks ++ bytes ∷ more)) b e
  chunk_cut size some start a b old bytes e cut chunks more (runs, last, draft, same, less, puts) =
      let fits : length (last ++ bytes ∷ []) ≤ size = omega (arith, less, length-append last (bytes ∷ [])) in
      let long : 0 < length ((last ++ bytes ∷ []) ++ more) = omega (arith, nonempty last bytes, length-append (last ++ bytes ∷ []) more) in
      let front = kept_front size some runs (last ++ bytes ∷ []) more draft.whole fits (inr long) in
      let flat = flat_map (λ (r : List (List ℕ)). r) runs in
      let all : flat ++ ((last ++ bytes ∷ []) ++ more) ≡ chunks ++ bytes ∷ more =
      ap (λ (l : List (List ℕ)). flat ++ l) (append_assoc last (bytes ∷ []) more) ∙ sym (append_assoc flat last (bytes ∷ more)) ∙ ap (λ (l : List (List ℕ)). l ++ bytes ∷ more) same in
      cut_after start a b (kept_of runs last) (bytes ∷ []) front.0 (below_file size (chunks ++ bytes ∷ more)) e puts cut
      (ap (below_file size) (sym all)
      ∙ front.1
      ∙ ap (λ (l : List (List ℕ)). l ++ front.0) (sym (append_assoc (flat_map run_blobs runs) last (bytes ∷ [])))
      ∙ append_assoc (kept_of runs last) (bytes ∷ []) front.0)

  -- ---- once all chunks were put

  -- a single run: its parts are the file's
  pub whole_single : (size : ℕ) → 0 < size → (start a : B) (old : Draft) → length old.runs ≡ 0 → (chunks : List (List ℕ)) → IsPut g size start a old chunks
      → Puts g start (below_file size chunks) a × (old.run ≡ parts_of_file size chunks)
  whole_single size some start a old none chunks (runs, last, draft, same, either, puts) =
      let empty : runs ≡ [] = no_runs runs (sym (length-map runs run_part) ∙ ap length (sym draft.runs_are) ∙ none) in
      let is : last ≡ chunks = ap (λ (rs : List (List (List ℕ))). flat_map (λ (r : List (List ℕ)). r) rs ++ last) (sym empty) ∙ same in
      let both = kept_single size some last draft.fits in (
        subst (λ (l : List (List ℕ)). Puts g start l a) (ap (λ (rs : List (List (List ℕ))). kept_of rs last) empty ∙ sym both.0 ∙ ap (below_file size) is) puts,
        draft.run ∙ sym both.1 ∙ ap (parts_of_file size) is,
      )
    where
      no_runs : (rs : List (List (List ℕ))) → length rs ≡ 0 → rs ≡ []
      no_runs [] e = refl
      no_runs (r ∷ rs) e = absurd (omega (arith, e))

  -- several: what the last one has is the blob of its parts
  record AreSeveral (size : ℕ) (start a : B) (old : Draft) (chunks : List (List ℕ)) : Type 0 where
    kept : List (List ℕ)
    puts : Puts g start kept a
    below : below_file size chunks ≡ kept ++ bytes_blob old.run ∷ []
    parts : old.runs ++ tree_part old.run ∷ [] ≡ parts_of_file size chunks

  are_several : (size : ℕ) → 0 < size → (start a : B) (old : Draft) → 0 < length old.runs → (chunks : List (List ℕ)) → IsPut g size start a old chunks → AreSeveral size start a old chunks
  are_several size some start a old many chunks (runs, last, draft, same, either, puts) = go runs last draft same either puts
    where
      go : (rs : List (List (List ℕ))) (last : List (List ℕ)) → IsDraft size old rs last → AreChunks rs last chunks → ((rs ≡ []) ⊎ (0 < length last)) → Puts g start (kept_of rs last) a
          → AreSeveral size start a old chunks
      go [] last draft same either puts = absurd (omega (arith, many, ap length draft.runs_are))
      go (r ∷ rs) last draft same (inl none) puts = absurd (let bad : ⊥ = cc none in bad)
      go (r ∷ rs) last draft same (inr full) puts =
          let both = kept_several size some r rs last draft.whole draft.fits full in
          let blob : run_blob last ≡ bytes_blob old.run = ap bytes_blob (sym draft.run) in
          record {
            kept = kept_of (r ∷ rs) last;
            puts = puts;
            below = ap (below_file size) (sym same) ∙ both.0
                ∙ sym (append_assoc (flat_map run_blobs (r ∷ rs)) last (run_blob last ∷ []))
                ∙ ap (λ (t : List ℕ). kept_of (r ∷ rs) last ++ t ∷ []) blob;
            parts = (λ i. draft.runs_are i ++ tree_part (draft.run i) ∷ []) ∙ sym (map-append run_part (r ∷ rs) (last ∷ [])) ∙ sym both.1 ∙ ap (parts_of_file size) same;
          }

  pub whole_several : (size : ℕ) → 0 < size → (start a b : B) (old new : Draft) → 0 < length old.runs → Puts g a (bytes_blob old.run ∷ []) b → new ≡ closed old
      → (chunks : List (List ℕ)) → IsPut g size start a old chunks → Puts g start (below_file size chunks) b × (new.runs ≡ parts_of_file size chunks)
  whole_several size some start a b old new many put is chunks h =
      let s = are_several size some start a old many chunks h in (
        subst (λ (l : List (List ℕ)). Puts g start l b) (sym s.below) (put_more start a b s.kept (bytes_blob old.run ∷ []) s.puts put),
        ap (λ (d : Draft). d.runs) is ∙ s.parts,
      )

  pub several_cut : (size : ℕ) → 0 < size → (start a b : B) (old : Draft) (e : PutFault) → 0 < length old.runs → IsCut g a (bytes_blob old.run ∷ []) b e
      → (chunks : List (List ℕ)) → IsPut g size start a old chunks → IsCut g start (below_file size chunks) b e
  several_cut size some start a b old e many cut chunks h =
      let s = are_several size some start a old many chunks h in
      cut_after start a b s.kept (bytes_blob old.run ∷ []) [] (below_file size chunks) e s.puts cut s.below

  -- no more than these, of what is longer
  pub cut_longer : (start b : B) (blobs more : List (List ℕ)) (e : PutFault) → IsCut g start blobs b e → IsCut g start (blobs ++ more) b e
  cut_longer start b blobs more e cut = cut_after start start b [] blobs more (blobs ++ more) e (put_none start) cut refl

  -- the file's own blob behind them
  pub own_put : (start a b : B) (blobs : List (List ℕ)) (own blob : List ℕ) → Puts g start blobs a → Puts g a (blob ∷ []) b → blob ≡ own → Puts g start (blobs ++ own ∷ []) b
  own_put start a b blobs own blob puts put is =
      subst (λ (t : List ℕ). Puts g start (blobs ++ t ∷ []) b) is (put_more start a b blobs (blob ∷ []) puts put)

  pub own_cut : (start a b : B) (blobs : List (List ℕ)) (own blob : List ℕ) (e : PutFault) → Puts g start blobs a → IsCut g a (blob ∷ []) b e → blob ≡ own → IsCut g start (blobs ++ own ∷ []) b e
  own_cut start a b blobs own blob e puts cut is =
      cut_after start a b blobs (blob ∷ []) [] (blobs ++ own ∷ []) e puts cut (ap (λ (t : List ℕ). blobs ++ t ∷ []) (sym is))

  pub own_early : (start a : B) (blobs : List (List ℕ)) (own : List ℕ) → Puts g start blobs a → IsCut g start (blobs ++ own ∷ []) a fault.NoMemory
  own_early start a blobs own puts = cut_after start a a blobs (own ∷ []) [] (blobs ++ own ∷ []) fault.NoMemory puts (cut_early a (own ∷ [])) refl

-- the parts of the file stand in its runs once one was closed
pub parts_closed : (old new : Draft) → new ≡ closed old → parts_in new ≡ new.runs
parts_closed old new is =
    let runs = old.runs ++ tree_part old.run ∷ [] in
    ap parts_in is
    ∙ ap (λ (b : Bool). cond b [] runs) (not_zero (length runs) (omega (arith, length-append old.runs (tree_part old.run ∷ []))))
    ∙ sym (ap (λ (d : Draft). d.runs) is)
  where
    not_zero : (n : ℕ) → 0 < n → (n == 0) ≡ false
    not_zero n h = grind (arith, nat_tests, h)

-- ---- clauses of calls that are handed on

pub ok_two : {P Q R : Type 0} (r : Result (Unit {0}) PutFault) → (P → Q → R) → OnOk r P → OnOk r Q → OnOk r R
ok_two (Ok x) f h k = f h k
ok_two (Err e) f h k = h

pub err_on : {P Q : PutFault → Type 0} (r : Result (Unit {0}) PutFault) → ((e : PutFault) → P e → Q e) → IfErr r P → IfErr r Q
err_on (Ok x) f h = h
err_on (Err e) f h = f e h
