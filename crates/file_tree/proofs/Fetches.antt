-- What was read by one call after another.
use Rattle.std.proofs.Common.{◌≡◌, ◌-◌, ℕ, min, List, [], ◌∷◌, ◌++◌, false, Option, None, Some, Result, Ok, Err, All, refl, sym, ap, subst, ◌∙◌, append_assoc, arith}
use Rattle.std.proofs.lemmas.List.Elements.{All-nil, All-cons, All-append, All-weaker}
use Rattle.std.specs.FinMap.{from_entries}
use Rattle.std.specs.Option.{ok_or}
use Rattle.blobref.specs.Blobref.{ref_cmp}
use Rattle.edge_base.specs.Edge.{SinkTook, FaultsRose}
use Rattle.edge_base.specs.Shelf.{Blob as PutBlob, Blobs}
use Rattle.edge_base.specs.declared.shelf.Shelf.{Ghosts as ShelfGhosts}
use Rattle.edge_base.proofs.Moves.{SinkTook-chain}
use Rattle.edge_base.specs.declared.answers.GetFault.TheVariants as get_fault
use Rattle.schema_fact.specs.declared.parts.Part.{Part}
use Rattle.file_tree.specs.declared.fault.FileFault.{FileFault}
use Rattle.file_tree.specs.declared.fault.FileFault.TheVariants.{Absent, NotAFile, Short, Deep, WriteFault, Get, NoMemory}
use Rattle.file_tree.specs.Walk.{Read, all_of, stops, and_then}
use Rattle.file_tree.specs.Fetching.{Answer, Fetch, Only, Writes, Then, Opens, IfAsked, PartsRead, all, cut, ends, goes_on, opened, refused, unopened}
use Rattle.file_tree.specs.Reading.{Gives, ReadCause, Rests, IsFetch, Fetched, HasRead, IsOpening, Gave, fault_of}
use Rattle.file_tree.specs.Reading as reading
use Rattle.file_tree.proofs.Giving.{rests_then, rests_here, SinkTook-none}

-- so far these fetches were made and these bytes taken, and what is left to read makes the whole of it
pub record SoFar {B : Type 0} (g : ShelfGhosts B) (old new : B) (before now : Option (List ℕ)) (Whole Left : List Fetch → Read → Type 0) : Type 0 where
  pub fetches : List Fetch
  pub bytes : List ℕ
  pub fetched : All (Fetched g old new) fetches
  pub took : SinkTook before now bytes
  pub on : (more : List Fetch) (read : Read) → Left more read → Whole (fetches ++ more) (and_then (all_of bytes) read)

same_fault : {A : Type 0} (x y : FileFault) → ◌≡◌ {A = Result A FileFault} (Err x) (Err y) → x ≡ y
same_fault x y e = cc e

-- ---- a blob that is opened

module _ {A B : Type 0} (g : ShelfGhosts B) (a b : B) (r : List ℕ) (wanted : Option (List ℕ) → Result A FileFault) where
  -- its bytes weren't got
  pub opens_unfound : (fault : FileFault) → wanted None ≡ Err (Absent r) → IsOpening g a b r (λ found. ok_or found (Absent r)) (Err fault) → IsOpening g a b r wanted (Err fault)
  opens_unfound fault none o = record { answer = o.answer; call = o.call; gave = gave o.answer o.gave }
    where
      gave : (answer : Answer) → Gave (λ (found : Option (List ℕ)). ok_or found (Absent r)) answer (Err fault) → Gave wanted answer (Err fault)
      gave (Ok None) (reading.opened e) = reading.opened (ap Err (same_fault fault (Absent r) e) ∙ sym none)
      gave (Ok (Some bytes)) (reading.opened e) = absurd (cc e)
      gave (Err get_fault.Disk) (reading.opened e) = reading.opened (ap Err (same_fault fault (Get get_fault.Disk) e))
      gave (Err (get_fault.Damaged want is)) (reading.opened e) = reading.opened (ap Err (same_fault fault (Get (get_fault.Damaged want is)) e))
      gave (Err get_fault.NoMemory) (reading.opened e) = reading.opened (ap Err (same_fault fault NoMemory e))
      gave answer (reading.unopened bytes is e) = reading.unopened bytes is (ap Err (same_fault fault NoMemory e))

  -- they were, and this is opened by them
  pub opens_found : (bytes : List ℕ) (result : Result A FileFault) → wanted (Some bytes) ≡ result → IsOpening g a b r (λ found. ok_or found (Absent r)) (Ok bytes) → IsOpening g a b r wanted result
  opens_found bytes result is o = record { answer = o.answer; call = o.call; gave = gave o.answer o.gave }
    where
      same : (x y : List ℕ) → ◌≡◌ {A = Result (List ℕ) FileFault} (Ok x) (Ok y) → x ≡ y
      same x y e = cc e

      gave : (answer : Answer) → Gave (λ (found : Option (List ℕ)). ok_or found (Absent r)) answer (Ok bytes) → Gave wanted answer result
      gave (Ok None) (reading.opened e) = absurd (cc e)
      gave (Ok (Some held)) (reading.opened e) = reading.opened (sym is ∙ ap (λ (b : List ℕ). wanted (Some b)) (same bytes held e))
      gave (Err get_fault.Disk) (reading.opened e) = absurd (cc e)
      gave (Err (get_fault.Damaged want other)) (reading.opened e) = absurd (cc e)
      gave (Err get_fault.NoMemory) (reading.opened e) = absurd (cc e)
      gave answer (reading.unopened held got e) = absurd (cc e)

  -- they were, and no memory was left to read them
  pub opens_unread : (bytes : List ℕ) → IsOpening g a b r (λ found. ok_or found (Absent r)) (Ok bytes) → IsOpening g a b r wanted (Err NoMemory)
  opens_unread bytes o = record { answer = o.answer; call = o.call; gave = gave o.answer o.gave }
    where
      gave : (answer : Answer) → Gave (λ (found : Option (List ℕ)). ok_or found (Absent r)) answer (Ok bytes) → Gave wanted answer (Err NoMemory)
      gave (Ok None) (reading.opened e) = absurd (cc e)
      gave (Ok (Some held)) (reading.opened e) = reading.unopened held refl refl
      gave (Err get_fault.Disk) (reading.opened e) = absurd (cc e)
      gave (Err (get_fault.Damaged want is)) (reading.opened e) = absurd (cc e)
      gave (Err get_fault.NoMemory) (reading.opened e) = absurd (cc e)
      gave answer (reading.unopened held is e) = absurd (cc e)

module _ {B : Type 0} (g : ShelfGhosts B) (nothing : (a : B) → g.puts a [] a)
    (then : (a b c : B) (first second : List PutBlob) → g.puts a first b → g.puts b second c → g.puts a (first ++ second) c) where
  all_later : (a b c : B) (fetches : List Fetch) → Rests g b c → All (Fetched g a b) fetches → All (Fetched g a c) fetches
  all_later a b c fetches rests =
      All-weaker (Fetched g a b) (Fetched g a c)
      (λ fetch f. record { before = f.before; now = f.now; begins = f.begins; call = f.call; ends = rests_then g then f.now b c f.ends rests }) fetches

  all_sooner : (a b c : B) (fetches : List Fetch) → Rests g a b → All (Fetched g b c) fetches → All (Fetched g a c) fetches
  all_sooner a b c fetches rests =
      All-weaker (Fetched g b c) (Fetched g a c)
      (λ fetch f. record { before = f.before; now = f.now; begins = rests_then g then a b f.before rests f.begins; call = f.call; ends = f.ends }) fetches

  fetched_once : (a b : B) (fetch : Fetch) → IsFetch g a fetch b → All (Fetched g a b) (fetch ∷ [])
  fetched_once a b fetch call =
      All-cons (Fetched g a b) fetch [] (record { before = a; now = b; begins = rests_here g nothing a; call = call; ends = rests_here g nothing b }) (All-nil (Fetched g a b))

  -- ---- nothing is fetched

  pub reads_nothing : {T : Type 0} (x : T) (a : B) (s : Option (List ℕ)) → HasRead g a a s s (Only (all_of [])) (Ok x)
  reads_nothing x a s = record { fetches = []; read = all_of []; fetched = All-nil (Fetched g a a); is = (refl, refl); why = refl; took = SinkTook-none s }

  pub reads_refusal : {T : Type 0} (fault : FileFault) (a : B) (s : Option (List ℕ)) → HasRead {T = T} g a a s s (Only (stops fault)) (Err fault)
  reads_refusal fault a s = record { fetches = []; read = stops fault; fetched = All-nil (Fetched g a a); is = (refl, refl); why = refl; took = SinkTook-none s }

  writes_front : {T : Type 0} (bytes : List ℕ) (fault : FileFault) (a : B) (s t : Option (List ℕ)) → reading.is_of_blobs fault ≡ false → (front rest : List ℕ) → bytes ≡ front ++ rest
      → SinkTook s t front → (run : Writes bytes [] (record { bytes = front; stop = Some fault })) → HasRead {T = T} g a a s t (Writes bytes) (Err fault)
  writes_front bytes fault a s t is front rest e took run =
      record { fetches = []; read = record { bytes = front; stop = Some fault }; fetched = All-nil (Fetched g a a); is = run; why = refl; took = took }

  -- bytes that were written, or a front of them
  pub reads_written : {T : Type 0} (bytes : List ℕ) (result : Result T FileFault) (a : B) (s t : Option (List ℕ)) (p q : ℕ)
      → Gives (all_of bytes) result s t → ((told : Option Blobs) (k n : ℕ) → ReadCause told k n p q result) → HasRead g a a s t (Writes bytes) result
  reads_written bytes (Ok x) a s t p q gives cause =
      record { fetches = []; read = all_of bytes; fetched = All-nil (Fetched g a a); is = all refl refl; why = refl; took = (gives.exact refl).1 }
  reads_written bytes (Err (Absent r)) a s t p q gives cause = absurd (cc (gives.exact refl).0)
  reads_written bytes (Err (NotAFile r)) a s t p q gives cause = absurd (cc (gives.exact refl).0)
  reads_written bytes (Err (Short r has wants)) a s t p q gives cause = absurd (cc (gives.exact refl).0)
  reads_written bytes (Err (Deep r)) a s t p q gives cause = absurd (cc (gives.exact refl).0)
  reads_written bytes (Err WriteFault) a s t p q gives cause =
      let f = gives.front in
      writes_front bytes WriteFault a s t refl f.0 f.1 f.2 f.3 (cut WriteFault f.1 refl refl refl f.2)
  reads_written bytes (Err (Get get_fault.Disk)) a s t p q gives cause = absurd (none_rose (cause None 0 0))
    where
      none_rose : FaultsRose 0 0 → ⊥
      none_rose rose = omega (arith, rose)
  reads_written bytes (Err (Get (get_fault.Damaged want is))) a s t p q gives cause = absurd (cc (cause (Some (from_entries {R = ref_cmp} [])) 0 0).1)
  reads_written bytes (Err (Get get_fault.NoMemory)) a s t p q gives cause = absurd (cause None 0 0)
  reads_written bytes (Err NoMemory) a s t p q gives cause =
      let f = gives.front in
      writes_front bytes NoMemory a s t refl f.0 f.1 f.2 f.3 (cut NoMemory f.1 refl refl refl f.2)

  -- ---- a blob is fetched

  pub reads_unopened : {A T : Type 0} (a b : B) (s : Option (List ℕ)) (r : List ℕ) (wanted : Option (List ℕ) → Result A FileFault) (More : A → List Fetch → Read → Type 0) (fault : FileFault)
      → IsOpening g a b r wanted (Err fault) → HasRead {T = T} g a b s s (Opens r wanted More) (Err fault)
  reads_unopened a b s r wanted More fault o =
      record { fetches = (r, o.answer) ∷ []; read = stops fault; fetched = fetched_once a b (r, o.answer) o.call; is = run o.answer o.gave; why = refl; took = SinkTook-none s }
    where
      run : (answer : Answer) → Gave wanted answer (Err fault) → Opens r wanted More ((r, answer) ∷ []) (stops fault)
      run answer (reading.opened e) = refused answer fault refl (sym e) refl
      run answer (reading.unopened bytes e is) =
          unopened bytes (ap (λ (x : Answer). (r, x) ∷ []) e) (ap stops (same_fault fault NoMemory is))

  pub reads_opened : {A T : Type 0} (a b c : B) (s t : Option (List ℕ)) (r : List ℕ) (wanted : Option (List ℕ) → Result A FileFault) (More : A → List Fetch → Read → Type 0) (x : A) (result : Result T FileFault)
      → IsOpening g a b r wanted (Ok x) → Rests g b c → (h : HasRead g b c s t (More x) result) → (whole : HasRead g a c s t (Opens r wanted More) result) × (whole.read ≡ h.read)
  reads_opened a b c s t r wanted More x result o rests h = (
    record {
      fetches = (r, o.answer) ∷ h.fetches;
      read = h.read;
      fetched = All-append (Fetched g a c) ((r, o.answer) ∷ []) h.fetches
          (all_later a b c ((r, o.answer) ∷ []) rests (fetched_once a b (r, o.answer) o.call))
          (all_sooner a b c h.fetches o.call.rests h.fetched);
      is = run o.answer o.gave;
      why = h.why;
      took = h.took;
    },
    refl,
  )
    where
      run : (answer : Answer) → Gave wanted answer (Ok x) → Opens r wanted More ((r, answer) ∷ h.fetches) h.read
      run answer (reading.opened e) = opened answer x h.fetches refl (sym e) h.is
      run answer (reading.unopened bytes e is) = absurd (cc is)

  -- ---- parts, one after the other

  pub so_far_none : (a : B) (s : Option (List ℕ)) (Whole : List Fetch → Read → Type 0) → SoFar g a a s s Whole Whole
  so_far_none a s Whole = record { fetches = []; bytes = []; fetched = All-nil (Fetched g a a); took = SinkTook-none s; on = λ more read is. is }

  pub so_far_rests : (a b c : B) (s t : Option (List ℕ)) (Whole Left : List Fetch → Read → Type 0) → SoFar g a b s t Whole Left → Rests g b c → SoFar g a c s t Whole Left
  so_far_rests a b c s t Whole Left so rests =
      record { fetches = so.fetches; bytes = so.bytes; fetched = all_later a b c so.fetches rests so.fetched; took = so.took; on = so.on }

  -- all that is left was read
  pub so_far_last : {T : Type 0} (a b c : B) (s t u : Option (List ℕ)) (Whole Left : List Fetch → Read → Type 0) (result : Result T FileFault)
      → Rests g a b → Rests g b c → SoFar g a b s t Whole Left → HasRead g b c t u Left result → HasRead g a c s u Whole result
  so_far_last a b c s t u Whole Left result begins rests so h = record {
    fetches = so.fetches ++ h.fetches;
    read = and_then (all_of so.bytes) h.read;
    fetched = All-append (Fetched g a c) so.fetches h.fetches (all_later a b c so.fetches rests so.fetched) (all_sooner a b c h.fetches begins h.fetched);
    is = so.on h.fetches h.read h.is;
    why = h.why;
    took = SinkTook-chain s t u so.bytes h.read.bytes so.took h.took;
  }

  -- the first of what is left was refused
  pub reads_first : {T U : Type 0} (a b : B) (s t : Option (List ℕ)) (First More : List Fetch → Read → Type 0) (fault : FileFault)
      → HasRead {T = T} g a b s t First (Err fault) → HasRead {T = U} g a b s t (Then First More) (Err fault)
  reads_first a b s t First More fault h =
      record { fetches = h.fetches; read = h.read; fetched = h.fetched; is = ends fault h.why h.is; why = h.why; took = h.took }

  -- and here it was read
  pub so_far_more : {T : Type 0} (a b c : B) (s t u : Option (List ℕ)) (Whole First Left : List Fetch → Read → Type 0) (x : T)
      → Rests g a b → Rests g b c → SoFar g a b s t Whole (Then First Left) → HasRead g b c t u First (Ok x) → SoFar g a c s u Whole Left
  so_far_more a b c s t u Whole First Left x begins rests so h = record {
    fetches = so.fetches ++ h.fetches;
    bytes = so.bytes ++ h.read.bytes;
    fetched = All-append (Fetched g a c) so.fetches h.fetches (all_later a b c so.fetches rests so.fetched) (all_sooner a b c h.fetches begins h.fetched);
    took = SinkTook-chain s t u so.bytes h.read.bytes so.took h.took;
    on = λ more read left.
        let first : First h.fetches (all_of h.read.bytes) = subst (λ (o : Option FileFault). First h.fetches (record { bytes = h.read.bytes; stop = o })) h.why h.is in
        let both = so.on (h.fetches ++ more) (record { bytes = h.read.bytes ++ read.bytes; stop = read.stop }) (goes_on h.fetches more h.read.bytes read first left refl refl) in
        subst (λ (l : List Fetch). Whole l (record { bytes = (so.bytes ++ h.read.bytes) ++ read.bytes; stop = read.stop })) (sym (append_assoc so.fetches h.fetches more))
        (subst (λ (l : List ℕ). Whole (so.fetches ++ (h.fetches ++ more)) (record { bytes = l; stop = read.stop })) (sym (append_assoc so.bytes h.read.bytes read.bytes)) both);
  }

  -- what is left begins with the next part
  pub so_far_next : (a b : B) (s t : Option (List ℕ)) (Whole : List Fetch → Read → Type 0) (f : Part → ℕ → ℕ → List Fetch → Read → Type 0) (left_parts parts : List Part) (part : Part) (at left here : ℕ)
      → left_parts ≡ part ∷ parts → here ≡ min left (part.size - at)
      → SoFar g a b s t Whole (PartsRead f left_parts at left) → SoFar g a b s t Whole (Then (IfAsked here (f part at)) (PartsRead f parts (at - part.size) (left - here)))
  so_far_next a b s t Whole f left_parts parts part at left here is here_is so =
      subst (λ (n : ℕ). SoFar g a b s t Whole (Then (IfAsked n (f part at)) (PartsRead f parts (at - part.size) (left - n)))) (sym here_is)
      (subst (λ (ps : List Part). SoFar g a b s t Whole (PartsRead f ps at left)) is so)

-- no byte is asked
pub reads_unasked : {B T : Type 0} (g : ShelfGhosts B) (a b : B) (s t : Option (List ℕ)) (n : ℕ) (f : ℕ → List Fetch → Read → Type 0) (result : Result T FileFault)
    → n ≡ 0 → HasRead g a b s t (Only (all_of [])) result → HasRead g a b s t (IfAsked n f) result
reads_unasked g a b s t n f result none h = subst (λ (k : ℕ). HasRead g a b s t (IfAsked k f) result) (sym none) h

-- another relation that holds of the same
pub reads_as : {B T : Type 0} (g : ShelfGhosts B) (a b : B) (s t : Option (List ℕ)) (P Q : List Fetch → Read → Type 0) (result : Result T FileFault)
    → ((fetches : List Fetch) (read : Read) → P fetches read → Q fetches read) → HasRead g a b s t P result → HasRead g a b s t Q result
reads_as g a b s t P Q result so h = record { fetches = h.fetches; read = h.read; fetched = h.fetched; is = so h.fetches h.read h.is; why = h.why; took = h.took }
