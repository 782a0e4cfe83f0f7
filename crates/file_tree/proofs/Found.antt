-- What was read of a file is what the shelf tells of it, where it tells.
use Rattle.std.proofs.Common.{◌≡◌, ℕ, List, [], ◌++◌, length, All, true, Option, None, Some, Result, Ok, Err, refl, sym, ap, subst, ◌∙◌, arith}
use Rattle.std.proofs.lemmas.Result.{IfOk-weaker}
use Rattle.std.proofs.lemmas.List.{append-nil}
use Rattle.std.proofs.lemmas.List.Elements.{All-weaker}
use Rattle.std.specs.FinMap.{get}
use Rattle.std.specs.Option.{ForSome}
use Rattle.edge_base.specs.Edge.{SinkTook}
use Rattle.edge_base.specs.Shelf.{Blob as PutBlob, Blobs}
use Rattle.edge_base.specs.declared.shelf.Shelf.{Ghosts as ShelfGhosts}
use Rattle.schema_fact.specs.Limits.{total_size}
use Rattle.schema_fact.specs.declared.parts.Part.{Part}
use Rattle.file_tree.specs.declared.fault.FileFault.{FileFault}
use Rattle.file_tree.specs.declared.fault.FileFault.TheVariants.{Absent, NotAFile, Short, Deep, WriteFault, Get, NoMemory}
use Rattle.file_tree.specs.Walk.{Read, opened_file, deepest, walk}
use Rattle.file_tree.specs.Fetching.{Fetch, PartsRead, PartRead, FileRead, is_of_walk, BeginsAs, IsAnswerOf}
use Rattle.file_tree.specs.Reading.{Gives, GivesSome, Rests, Fetched, HasRead, HasReadFile, IsOpening, is_defined, fault_of}
use Rattle.file_tree.proofs.Fetches.{reads_unopened, reads_opened}
use Rattle.file_tree.proofs.Lengths.{parts_length, part_length}
use Rattle.file_tree.proofs.Placed.{deepest_is}
use Rattle.file_tree.proofs.Told.{file_as}

defined_walk : {T : Type 0} (result : Result T FileFault) → is_defined result ≡ true → is_of_walk (fault_of result) ≡ true
defined_walk (Ok x) h = refl
defined_walk (Err (Absent r)) h = refl
defined_walk (Err (NotAFile r)) h = refl
defined_walk (Err (Short r has wants)) h = refl
defined_walk (Err (Deep r)) h = refl
defined_walk (Err WriteFault) h = h
defined_walk (Err (Get fault)) h = h
defined_walk (Err NoMemory) h = h

gives_as : {T : Type 0} (read whole : Read) (result : Result T FileFault) (s t : Option (List ℕ)) → BeginsAs read whole → read.stop ≡ fault_of result → SinkTook s t read.bytes → Gives whole result s t
gives_as read whole result s t begins why took = record {
  exact = λ told.
      let e = begins.same (ap is_of_walk why ∙ defined_walk result told) in
      (ap (λ (r : Read). r.stop) (sym e) ∙ why, subst (λ (r : Read). SinkTook s t r.bytes) e took);
  front = (read.bytes, begins.front.0, begins.front.1, took);
}

some_same : (x y : Blobs) → Some x ≡ Some y → x ≡ y
some_same x y e = cc e

module _ {B : Type 0} (g : ShelfGhosts B) (old new : B) (s t : Option (List ℕ)) (r : List ℕ) where
  agree : (held : Blobs) → g.content old ≡ Some held → (fetches : List Fetch) → All (Fetched g old new) fetches → All (IsAnswerOf held) fetches
  agree held told =
      All-weaker (Fetched g old new) (IsAnswerOf held)
      (λ fetch f. IfOk-weaker fetch.1 (λ found. ForSome (g.content f.before) (λ held. found ≡ get held fetch.0)) (λ found. found ≡ get held fetch.0) (λ found at. at held (f.begins.told ∙ told)) f.call.found)

  pub read_told : {T : Type 0} (result : Result T FileFault) (h : HasRead g old new s t (FileRead r) result) → ForSome (g.content old) (λ held. BeginsAs h.read (walk held r))
  read_told result h held told = file_as held r h.fetches h.read (agree held told h.fetches h.fetched) h.is

  pub gives_told : {T : Type 0} (result : Result T FileFault) → HasRead g old new s t (FileRead r) result → GivesSome (g.content old) (λ held. walk held r) result s t
  gives_told result h = go (g.content old) refl
    where
      go : (told : Option Blobs) → g.content old ≡ told → GivesSome told (λ held. walk held r) result s t
      go None is = record {
        read = h.read;
        is = λ held e. absurd (cc e);
        gives = gives_as h.read h.read result s t (record { same = λ _. refl; front = ([], sym (append-nil h.read.bytes)) }) h.why h.took;
      }
      go (Some held) is = record {
        read = walk held r;
        is = λ other e. ap (λ (b : Blobs). walk b r) (some_same held other e);
        gives = gives_as h.read (walk held r) result s t (read_told result h held is) h.why h.took;
      }

  pub number_told : (n : ℕ) → HasReadFile g old new s t r (Ok n) → ForSome (g.content old) (λ held. n ≡ length (walk held r).bytes)
  number_told n h held told =
      let begins = read_told (Ok n) h.has held told in
      h.number ∙ ap (λ (x : Read). length x.bytes) (begins.same (ap is_of_walk h.has.why))

module _ {B : Type 0} (g : ShelfGhosts B) (nothing : (a : B) → g.puts a [] a)
    (then : (a b c : B) (first second : List PutBlob) → g.puts a first b → g.puts b second c → g.puts a (first ++ second) c)
    (a b : B) (s : Option (List ℕ)) (r : List ℕ) where
  pub unopened_file : (fault : FileFault) → IsOpening g a b r (λ found. opened_file found r) (Err fault) → HasReadFile g a b s s r (Err fault)
  unopened_file fault opening = record {
    has = reads_unopened g nothing then a b s r (λ found. opened_file found r) (λ parts. PartsRead (PartRead deepest) parts 0 (total_size parts)) fault opening;
    number = tt;
  }

module _ {B : Type 0} (g : ShelfGhosts B) (nothing : (a : B) → g.puts a [] a)
    (then : (a b c : B) (first second : List PutBlob) → g.puts a first b → g.puts b second c → g.puts a (first ++ second) c)
    (a b c : B) (s t : Option (List ℕ)) (r : List ℕ) (parts slice : List Part) (size : ℕ) (same : slice ≡ parts) (total : size ≡ total_size parts)
    (opening : IsOpening g a b r (λ found. opened_file found r) (Ok parts)) (rests : Rests g b c) where
  -- the parts are those of the file, and as deep as they may be
  whole : {T : Type 0} (result : Result T FileFault) → HasRead g b c s t (PartsRead (PartRead 63) slice 0 size) result → HasRead g b c s t (PartsRead (PartRead deepest) parts 0 (total_size parts)) result
  whole result h =
      subst (λ (ps : List Part). HasRead g b c s t (PartsRead (PartRead deepest) ps 0 (total_size parts)) result) same
      (subst (λ (n : ℕ). HasRead g b c s t (PartsRead (PartRead deepest) slice 0 n) result) total
      (subst (λ (d : ℕ). HasRead g b c s t (PartsRead (PartRead d) slice 0 size) result) (sym deepest_is) h))

  pub file_unread : {T : Type 0} (fault : FileFault) → HasRead {T = T} g b c s t (PartsRead (PartRead 63) slice 0 size) (Err fault) → HasReadFile g a c s t r (Err fault)
  file_unread {T = T} fault h =
      let h = whole {T = T} (Err fault) h in
      let in_file = reads_opened g nothing then a b c s t r (λ found. opened_file found r) (λ parts. PartsRead (PartRead deepest) parts 0 (total_size parts)) parts _ opening rests h in
      let has = in_file.0 in
      record { has = record { fetches = has.fetches; read = has.read; fetched = has.fetched; is = has.is; why = has.why; took = has.took }; number = tt }

  pub file_read : {T : Type 0} (x : T) → HasRead g b c s t (PartsRead (PartRead 63) slice 0 size) (Ok x) → HasReadFile g a c s t r (Ok size)
  file_read x h =
      let h = whole (Ok x) h in
      let in_file = reads_opened g nothing then a b c s t r (λ found. opened_file found r) (λ parts. PartsRead (PartRead deepest) parts 0 (total_size parts)) parts (Ok x) opening rests h in
      let has = in_file.0 in
      let long : length h.read.bytes ≡ total_size parts = parts_length (PartRead deepest) (part_length deepest) parts 0 (total_size parts) (omega arith) h.fetches h.read h.is h.why in
      record {
        has = record { fetches = has.fetches; read = has.read; fetched = has.fetched; is = has.is; why = has.why; took = has.took };
        number = total ∙ sym long ∙ ap (λ (r : Read). length r.bytes) (sym in_file.1);
      }
