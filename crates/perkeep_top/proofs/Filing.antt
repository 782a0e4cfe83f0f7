-- How `put-file` ends, from what cutting the input gave.
use Rattle.std.proofs.Common.{◌≡◌, Bool, if◌then◌else◌, ℕ, ◌≤◌, ◌<◌, ◌+◌, List, [], ◌∷◌, ◌++◌, length, Option, None, Some, IfSome, refl, sym, ap, subst, ◌∙◌, arith}
use Rattle.std.proofs.lemmas.Bool.{lt-ltb, le-ltb}
use Rattle.std.proofs.lemmas.List.{append-nil, map-append}
use Rattle.std.specs.Option.{ForSome}
use Rattle.blobref.specs.Blobref.{ref_of}
use Rattle.edge_base.specs.Edge.{SourceGave, SourceGaveAll, FaultsRose}
use Rattle.edge_base.specs.Shelf.{Blob, named}
use Rattle.edge_base.specs.declared.answers.PutFault.{PutFault}
use Rattle.edge_base.specs.declared.answers.PutFault.TheVariants as put
use Rattle.file_cut.specs.Cutting.{file_blobs, own_blob, below_file, run_size, chunk_size, cut as cut_up}
use Rattle.file_cut.specs.Drafts.{IsCut, FirstIs}
use Rattle.file_cut.specs.Writing.{Written, NotWritten, longest_name, longest_file}
use Rattle.file_cut.specs.declared.fault.CutFault.{CutFault}
use Rattle.file_cut.specs.declared.fault.CutFault.TheVariants as cut
use Rattle.pack_disk.specs.Runs.{Stays}
use Rattle.pack_disk.specs.Packs.{Packs}
use Rattle.pack_store.specs.Archive.{Archive}
use Rattle.pack_store.specs.Puts.{Stands, PutsBlobs, HasNoRoom}
use Rattle.pack_store.specs.StoreShelf.{PutsStore}
use Rattle.perkeep_lines.specs.Outputs.{ref_line}
use Rattle.top_frame.specs.declared.status.InputFault.TheVariants.{TooLong}
use Rattle.top_frame.specs.declared.status.Status.{Status}
use Rattle.top_frame.specs.declared.status.Status.TheVariants as status
use Rattle.top_frame.specs.Faults.{put_status, cut_status}
use Rattle.top_frame.specs.Frame.{Ends, Given, GaveSome, IsQuiet, StopsFull, IsTooMany, read_too_much}
use Rattle.top_frame.specs.Limits.{limits}
use Rattle.top_frame.specs.Outside.{Outside, World, world}
use Rattle.perkeep_top.specs.GetFile.{store_shelf}
use Rattle.perkeep_top.specs.PutFile.{put_file_meaning, bad_name}
use Rattle.top_frame.specs.Steps.{Finds, NeverRefuses, Writes}
use Rattle.top_frame.proofs.Ending.{Begun, begun, Far, Has, given_input, later_rose, always_then, far_start, far_asked, far_puts, refused, failed, no_memory, full, stops, finished}

-- what a source has left, where it tells
abbrev left_of : Option (List ℕ) → List ℕ
left_of None = []
left_of (Some all) = all

gave_nothing : (left : Option (List ℕ)) → SourceGave left left []
gave_nothing None = refl
gave_nothing (Some all) = (all, refl, refl)

has_left : (left : Option (List ℕ)) → GaveSome left left (left_of left)
has_left left = ([], gave_nothing left, λ all e. ap left_of e)

more_left : (left : Option (List ℕ)) (most : ℕ) (input : List ℕ) → ForSome left (λ all. input ≡ all) → most < length input → IfSome left (λ input. most < length input)
more_left None most input is more = tt
more_left (Some all) most input is more = subst (λ (l : List ℕ). most < length l) (is all refl) more

-- all that it had
all_given : (left now : Option (List ℕ)) (input : List ℕ) → SourceGaveAll left now input → GaveSome left now input
all_given None now input e = (input, e, λ all is. absurd (cc is))
all_given (Some all) now input e = (all, ([], e.0, sym (append-nil all)), λ other is. cc (e.1, is))

-- a file has its own blob at least
not_empty : (blobs : List (List ℕ)) (own : List ℕ) → named (blobs ++ own ∷ []) ≡ [] → ⊥
not_empty [] own e = absurd (cc e)
not_empty (blob ∷ blobs) own e = absurd (cc e)

-- the refs of blobs in two parts
named_in : (all put rest : List (List ℕ)) → all ≡ put ++ rest → named all ≡ named put ++ named rest
named_in all put rest cut = ap named cut ∙ map-append {B = Blob} (λ bytes. (ref_of bytes, bytes)) put rest

-- a name that isn't too long
short_name : (name : List ℕ) → bad_name name ≡ None → longest_name < length name → ⊥
short_name name fit long = absurd (cc (fit, lt-ltb longest_name (length name) long))

pub fits : (name : List ℕ) → length name ≤ longest_name → bad_name name ≡ None
fits name short = ap (λ (b : Bool). if b then Some (TooLong (length name)) else None) (le-ltb longest_name (length name) short)

module _ {D P S K C R : Type 0} (o : Outside D P S K C R)
    (counts_now : (d : D) (t : ℕ) (c : Packs) → t ≤ o.disk.moment d → o.disk.images d c → o.disk.images_since d t c)
    (only_now : (d : D) (c : Packs) → o.disk.images_since d (o.disk.moment d) c → o.disk.images d c)
    (name : List ℕ) (b : World D P S K C R) (fit : bad_name name ≡ None) where
  abbrev run : Begun D P S K C R
  run = begun o counts_now only_now (put_file_meaning name) fit refl b

  puts_some : IsQuiet (put_file_meaning name) → ⊥
  puts_some q = not_empty (below_file run_size (cut_up chunk_size [])) (own_blob name []) (q (given_input []))

  has_of : (t : S) (input : List ℕ) → GaveSome (o.source.left b.source) (o.source.left t) input → Has run t (given_input input)
  has_of t input read = record { read = read; right = refl; drawn = (λ e. absurd (cc e), λ e. absurd (cc e)) }

  -- the store wasn't opened
  pub not_opened : (e : D) → Stays o.disk b.disk e → o.disk.faults b.disk ≤ o.disk.faults e → (end : Status) → Finds o.disk b.disk e NeverRefuses end
      → Ends o (put_file_meaning name) b (world e b.peer b.source b.sink b.clock b.dice) end
  not_opened e stays later end why =
      refused run refl b.disk e b.source (far_start run) stays later (given_input (left_of (o.source.left b.source))) (has_of b.source (left_of (o.source.left b.source)) (has_left (o.source.left b.source))) refl
      NeverRefuses (λ end w. absurd w) end why

  module _ (first last : Archive D) (t : S) (opened : Stays o.disk b.disk first.disk) (opened_later : o.disk.faults b.disk ≤ o.disk.faults first.disk) (stands : Stands o.disk limits first)
      (source_later : o.source.faults b.source ≤ o.source.faults t) where
    abbrev here : World D P S K C R
    here = world last.disk b.peer t b.sink b.clock b.dice

    open_far : Far run (world first.disk b.peer b.source b.sink b.clock b.dice) [] []
    open_far = far_asked run refl b.disk first.disk b.source (far_start run) opened opened_later

    of_store : (blobs : List Blob) → PutsStore o.disk first blobs last → PutsBlobs o.disk limits first blobs last
    of_store blobs puts = subst (λ l. PutsBlobs o.disk l first blobs last) stands.limited puts

    far_of : (blobs : List Blob) → PutsStore o.disk first blobs last → o.disk.faults first.disk ≤ o.disk.faults last.disk → Far run here blobs []
    far_of blobs puts later = far_puts run refl first last b.source t b.sink b.sink [] blobs [] [] open_far stands (of_store blobs puts) (λ q. absurd (puts_some q)) later source_later (omega arith) (λ e. absurd (cc e)) refl

    stops_full : (blobs : List Blob) → PutsStore o.disk first blobs last → (count pack : ℕ) (rest : List (List ℕ)) → FirstIs (λ blob. HasNoRoom o.disk last.limits last (ref_of blob, blob) count pack) rest
        → StopsFull o (put_file_meaning name) b here count pack (named rest)
    stops_full blobs puts count pack [] w = absurd w
    stops_full blobs puts count pack (next ∷ more) w =
        let own = of_store blobs puts in
        subst (λ l. HasNoRoom o.disk l last (ref_of next, next) count pack) (own.same_limits ∙ stands.limited) w (own.stands stands)

    -- the store refused a blob
    not_kept : (input : List ℕ) → GaveSome (o.source.left b.source) (o.source.left t) input → (e : PutFault) → IsCut (store_shelf o.disk) first (file_blobs name input) last e → Ends o (put_file_meaning name) b here (put_status e)
    not_kept input read (put.TooBig size) w = absurd w.why
    not_kept input read (put.BadDigest said is) w = absurd w.why
    not_kept input read (put.Full count pack) w =
        full run here (named w.put) [] (far_of (named w.put) w.why.0 w.later) (given_input input) (named w.rest) (has_of t input read) (named_in (file_blobs name input) w.put w.rest w.front) refl count pack
        (stops_full (named w.put) w.why.0 count pack w.rest w.why.1)
    not_kept input read put.Disk w = failed run here [] (record {
      always = always_then run refl (world first.disk b.peer b.source b.sink b.clock b.dice) here open_far.at.always
          (record { disk_later = w.later; source_later = source_later; sink_later = omega arith; crash = w.run; quiet = λ q. absurd (puts_some q); unread = λ e. absurd (cc e); untimed = refl; undiced = refl; unmet = refl });
      wrote = refl;
    }) (given_input input) (has_of t input read) refl (later_rose (o.disk.faults b.disk) (o.disk.faults first.disk) (o.disk.faults last.disk) opened_later w.why)
    not_kept input read put.NoMemory w = no_memory run here (named w.put) [] (far_of (named w.put) w.why w.later) (given_input input) (named w.rest) (has_of t input read) (named_in (file_blobs name input) w.put w.rest w.front) refl

    -- the input wasn't put whole
    pub not_filed : (fault : CutFault) → NotWritten o.source (store_shelf o.disk) name b.source t first last fault → Ends o (put_file_meaning name) b here (cut_status fault)
    not_filed (cut.NameTooLong len) w = absurd (short_name name fit w.1)
    not_filed cut.ReadFault w =
        let u = w.1 in
        let puts = u.why.0.3 in
        let far = far_of (named u.why.0.0) puts.run puts.later in
        record {
          always = far.at.always;
          ends = stops run here (named u.why.0.0) [] far (given_input u.input) (named u.why.0.1) (has_of t u.input u.read) (named_in (file_blobs name u.input) u.why.0.0 u.why.0.1 u.why.0.2) refl (λ given bytes gone rest. FaultsRose (o.source.faults b.source) (o.source.faults t)) u.why.1;
        }
    not_filed cut.TooLong w =
        let u = w.1 in
        let puts = u.why.0.3 in
        let far = far_of (named u.why.0.0) puts.run puts.later in
        record {
          always = far.at.always;
          ends = read_too_much (stops run here (named u.why.0.0) [] far (given_input u.input) (named u.why.0.1) (has_of t u.input u.read) (named_in (file_blobs name u.input) u.why.0.0 u.why.0.1 u.why.0.2) refl
              (λ given bytes gone rest. IsTooMany o (put_file_meaning name) b here (TooLong (longest_file + 1)) longest_file)
              (refl, more_left (o.source.left b.source) longest_file u.input u.read.2 u.why.1));
        }
    not_filed (cut.Put e) w = not_kept w.1.input w.1.read e w.1.why
    not_filed cut.NoMemory w = not_kept w.1.input w.1.read put.NoMemory w.1.why

    module _ (r : List ℕ) (w : Written o.source (store_shelf o.disk) name b.source t first last r) where
      abbrev given : Given
      given = given_input w.0

      abbrev blobs : List Blob
      blobs = named (file_blobs name w.0)

      abbrev far : Far run here blobs []
      far = far_of blobs w.3.run w.3.later

      -- all was put, and no memory was left for the line
      pub unlined : Ends o (put_file_meaning name) b here status.NoMemory
      unlined = no_memory run here blobs [] far given [] (has_of t w.0 (all_given (o.source.left b.source) (o.source.left t) w.0 w.1)) (sym (append-nil blobs)) refl

      -- and the line was written or not
      pub filed : (k : K) (end : Status) → Writes o.sink b.sink k (ref_line r) end → o.sink.faults b.sink ≤ o.sink.faults k → Ends o (put_file_meaning name) b (world last.disk b.peer t k b.clock b.dice) end
      filed k end writes sink_later =
          finished run last.disk t blobs far k given (ref_line r) (λ e. absurd (cc e), λ e. absurd (cc e)) (w.2, w.1) refl (ap ref_line w.4) refl end writes sink_later
