-- How a run ends that signs what it has read: as one that signs the payload that the text gives.
use Rattle.std.proofs.Common.{◌≡◌, ◌⊎◌, inl, inr, ℕ, ◌≤◌, Bool, true, Option, None, List, [], ◌∷◌, sym, ap, subst, ◌∙◌}
use Rattle.std.proofs.Common.{arith}
use Rattle.edge_base.specs.Edge.{FaultsRose, SinkTook, SinkTookFront}
use Rattle.edge_base.specs.Shelf.{Blob}
use Rattle.pack_disk.specs.Disk.{Tells}
use Rattle.pack_store.specs.Puts.{PutsAll, HoldAll}
use Rattle.top_frame.specs.declared.status.InputFault.{InputFault}
use Rattle.top_frame.specs.declared.status.Status.{Status}
use Rattle.top_frame.specs.declared.status.Status.TheVariants as status
use Rattle.top_frame.specs.Frame.{Meaning, Given, reads_first, GaveWhole, IsTime, AreRandom, IsDrawn, Always, Finishes}
use Rattle.top_frame.specs.Frame.{RefusedEarly, RefusedLate, PutsFront, EndsEarly, StopsFull, Unusable, said_badly}
use Rattle.top_frame.specs.Frame.{read_too_much, read_wrongly, found_unfit, EndsBy, Ends}
use Rattle.top_frame.specs.Limits.{limits}
use Rattle.top_notes.specs.Meanings.{Keys, unless_held, note_blobs, IsNoteOutput, RefusesNote, signed_meaning}
use Rattle.top_notes.specs.Meanings.{note_meaning}
use Rattle.top_frame.specs.Outside.{Outside, World, world}
use Rattle.top_frame.proofs.Ending.{nothing_given}

-- what was given, with the text that was read
abbrev pub with_text : List ℕ → Given → Given
with_text text given = record {
  input = text;
  date = given.date;
  date_text = given.date_text;
  random = given.random;
  pulled = given.pulled;
  lacked = given.lacked;
  had = given.had;
}

-- a run whose name is held: the text was read first, and isn't wrong; then the payload was signed that it gives
module _ {D P S K C R : Type 0} (o : Outside D P S K C R) (keys : Keys) (name : List ℕ) (held : keys.holds name ≡ true)
    (time random : Bool) (most : ℕ) (too_long : ℕ → InputFault) (wrong : List ℕ → Option InputFault)
    (payload : Given → List ℕ) (told_payload : Given → List ℕ) (text : List ℕ) (right : wrong text ≡ None)
    (same : (given : Given) → told_payload given ≡ payload (with_text text given))
    (b : World D P S K C R) (s : S) (later : o.source.faults b.source ≤ o.source.faults s)
    (read : GaveWhole most (o.source.left b.source) (o.source.left s) text) (new : World D P S K C R) where
  -- what the whole means, and what the part does that comes behind the reading
  abbrev m : Meaning
  m = signed_meaning keys name time random (reads_first most) too_long wrong payload

  abbrev n : Meaning
  n = note_meaning keys name time random told_payload

  abbrev between : World D P S K C R
  between = world b.disk b.peer s b.sink b.clock b.dice

  fit : m.bad ≡ None
  fit = ap unless_held held

  reads : new.source ≡ s → GaveWhole most (o.source.left b.source) (o.source.left new.source) text
  reads unmoved = subst (λ t. GaveWhole most (o.source.left b.source) (o.source.left t) text) (sym unmoved) read

  same_blobs : (given : Given) → n.blobs given ≡ m.blobs (with_text text given)
  same_blobs given = ap (note_blobs keys.seals name) (same given)

  timed : (given : Given) → IsTime (o.clock.time b.clock) given → IsTime (o.clock.time b.clock) (with_text text given)
  timed given is = record { range = is.range; text = is.text; clock = is.clock }

  diced : (given : Given) → AreRandom (o.dice.random b.dice) given
      → AreRandom (o.dice.random b.dice) (with_text text given)
  diced given are = record { sixteen = are.sixteen; dice = are.dice }

  drawn : (given : Given) → IsDrawn n (o.clock.time b.clock) (o.dice.random b.dice) given
      → IsDrawn m (o.clock.time b.clock) (o.dice.random b.dice) (with_text text given)
  drawn given is = (λ e. timed given (is.0 e), λ e. diced given (is.1 e))

  always : Always o n between new → Always o m b new
  always a = record {
    crash = a.crash;
    quiet = λ q. absurd (cc (q nothing_given));
    unopened = λ e. absurd (cc e);
    unmoved = λ e. absurd (cc e);
    unread = λ e. absurd (cc e);
    untimed = a.untimed;
    undiced = a.undiced;
    unmet = a.unmet;
    unsent = λ e. absurd (cc e);
    peer_later = a.peer_later;
    disk_later = a.disk_later;
    source_later = omega (arith, later, a.source_later);
    sink_later = a.sink_later;
    clock_later = a.clock_later;
    dice_later = a.dice_later;
  }

  finishes : (Wrote : List ℕ → Type 0) → Finishes o n between new Wrote → Finishes o m b new Wrote
  finishes Wrote f = record {
    given = with_text text f.given;
    bytes = f.bytes;
    fit = fit;
    drawn = drawn f.given f.drawn;
    read = reads f.read.0;
    right = right;
    exchanged = tt;
    output = subst (λ (payload : List ℕ). IsNoteOutput keys.seals name payload f.bytes) (same f.given) f.output;
    put = subst (λ (blobs : List Blob). Tells (o.disk.packs b.disk) (o.disk.packs new.disk) (PutsAll limits blobs))
        (same_blobs f.given) f.put;
    held = subst (HoldAll (o.disk.images new.disk)) (same_blobs f.given) f.held;
    wrote = f.wrote;
  }

  late : (Why Since : Given → List ℕ → Type 0)
      → ((given : Given) (bytes : List ℕ) → Why given bytes → Since (with_text text given) bytes)
      → RefusedLate o n between new Why → RefusedLate o m b new Since
  late Why Since so w = record {
    given = with_text text w.given;
    bytes = w.bytes;
    fit = fit;
    drawn = drawn w.given w.drawn;
    read = reads w.read.0;
    right = right;
    exchanged = tt;
    written = w.written;
    part = w.part;
    why = so w.given w.bytes w.why;
  }

  front : (Why Since : List Blob → List Blob → Type 0) (given : Given)
      → ((gone rest : List Blob) → Why gone rest → Since gone rest) → PutsFront o n between new Why given
      → PutsFront o m b new Since (with_text text given)
  front Why Since given so w = record {
    blobs = w.blobs;
    rest = w.rest;
    cut = sym (same_blobs given) ∙ w.cut;
    put = w.put;
    held = w.held;
    why = so w.blobs w.rest w.why;
  }

  stops : (Why Since : Given → List ℕ → List Blob → List Blob → Type 0)
      → ((given : Given) (bytes : List ℕ) (gone rest : List Blob) → Why given bytes gone rest
      → Since (with_text text given) bytes gone rest) → EndsEarly o n between new Why → EndsEarly o m b new Since
  stops Why Since so w = late (λ given bytes. PutsFront o n between new (Why given bytes) given)
      (λ given bytes. PutsFront o m b new (Since given bytes) given)
      (λ given bytes h. front (Why given bytes) (Since (with_text text given) bytes) given (so given bytes) h) w

  full : (blobs pack : ℕ) (rest : List Blob) → StopsFull o n between new blobs pack rest
      → StopsFull o m b new blobs pack rest
  full blobs pack [] w = absurd w
  full blobs pack (next ∷ more) w = w

  -- it is refused for what it finds
  refuses : (end : Status)
      → EndsEarly o n between new (λ given bytes gone rest. n.Refuses given (o.disk.packs b.disk) bytes gone end)
      → EndsEarly o m b new (λ given bytes gone rest. m.Refuses given (o.disk.packs b.disk) bytes gone end)
  refuses end w = stops (λ given bytes gone rest. n.Refuses given (o.disk.packs b.disk) bytes gone end)
      (λ given bytes gone rest. m.Refuses given (o.disk.packs b.disk) bytes gone end)
      (λ given bytes gone rest h. subst (λ (payload : List ℕ). RefusesNote payload gone end) (same given) h) w

  anywhere : EndsEarly o n between new (λ given bytes gone rest. Unit {0})
      → EndsEarly o m b new (λ given bytes gone rest. Unit {0})
  anywhere w = stops (λ given bytes gone rest. Unit {0}) (λ given bytes gone rest. Unit {0})
      (λ given bytes gone rest h. h) w

  unusable : (fault : InputFault) → Unusable o n between new fault → Unusable o m b new fault
  unusable fault (said_badly bad still) = absurd (cc (sym bad ∙ fit))
  unusable fault (read_too_much w) = absurd w
  unusable fault (read_wrongly w) = absurd w
  unusable fault (found_unfit w) = found_unfit (refuses (status.BadInput fault) w)

  no_memory : RefusedEarly o n between new (Unit {0}) ⊎ EndsEarly o n between new (λ given bytes gone rest. Unit {0})
      → RefusedEarly o m b new (Unit {0}) ⊎ EndsEarly o m b new (λ given bytes gone rest. Unit {0})
  no_memory (inl w) = inl (record { unasked = w.unasked; unwritten = w.unwritten; unsent = w.unsent; why = tt })
  no_memory (inr w) = inr (anywhere w)

  abbrev Told : List ℕ → Type 0
  Told bytes = SinkTookFront (o.sink.written b.sink) (o.sink.written new.sink) bytes

  unwritten : Finishes o n between new Told
      ⊎ ((n.streams ≡ true) × EndsEarly o n between new (λ given bytes gone rest. Unit {0}))
      → Finishes o m b new Told ⊎ ((m.streams ≡ true) × EndsEarly o m b new (λ given bytes gone rest. Unit {0}))
  unwritten (inl w) = inl (finishes Told w)
  unwritten (inr w) = inr (w.0, anywhere w.1)

  by : (end : Status) → EndsBy o n between new end → EndsBy o m b new end
  by status.Done w = finishes (SinkTook (o.sink.written b.sink) (o.sink.written new.sink)) w
  by status.WriteFault w = (w.0, unwritten w.1)
  by status.NoMemory w = no_memory w
  by status.ReadFault w = absurd w
  by (status.BadInput fault) w = unusable fault w
  by status.HandFault w = record {
    unasked = w.unasked;
    unwritten = w.unwritten;
    unsent = w.unsent;
    why = record { input = text; fit = fit; read = reads w.why.read.0; right = right; rose = w.why.rose };
  }
  by status.Disk w = late (λ given bytes. FaultsRose (o.disk.faults b.disk) (o.disk.faults new.disk))
      (λ given bytes. FaultsRose (o.disk.faults b.disk) (o.disk.faults new.disk)) (λ given bytes h. h) w
  by status.Peer w = absurd w
  by (status.BadReply why) w = absurd w
  by (status.Full blobs pack) (inl w) = inl (stops (λ given bytes gone rest. StopsFull o n between new blobs pack rest)
      (λ given bytes gone rest. StopsFull o m b new blobs pack rest) (λ given bytes gone rest h. full blobs pack rest h)
      w)
  by (status.Full blobs pack) (inr w) = absurd w
  by (status.Absent r) w = refuses (status.Absent r) w
  by (status.Damaged want is) (inl w) = inl (refuses (status.Damaged want is) w)
  by (status.Damaged want is) (inr w) = absurd w
  by status.BadWords w = absurd w
  by status.ListenerFault w = absurd w

  pub signed_after : (end : Status) → Ends o n between new end → Ends o m b new end
  signed_after end w = record { always = always w.always; ends = by end w.ends }
