-- How far a run has come, and how it ends from there: the same for every command.
use Rattle.std.proofs.Common.{◌≡◌, ◌⊎◌, inl, inr, ℕ, pos, ◌≤◌, Bool, true, false, Option, None, Some, Err, List, [], ◌∷◌, ◌++◌, length, refl, sym, ap, subst, ◌∙◌, arith}
use Rattle.std.proofs.lemmas.List.{append-nil}
use Rattle.blobref.specs.Blobref.{ref_of}
use Rattle.edge_base.specs.Edge.{FaultsRose, SinkTook, SinkTookFront}
use Rattle.edge_base.specs.Shelf.{Blob}
use Rattle.edge_base.specs.declared.answers.PutFault.{PutFault}
use Rattle.edge_base.specs.declared.answers.PutFault.TheVariants as put
use Rattle.pack_format.specs.Header.{max_size}
use Rattle.pack_disk.specs.Packs.{Packs}
use Rattle.pack_disk.specs.Disk.{Tells}
use Rattle.pack_disk.specs.Runs.{Stays}
use Rattle.pack_disk.specs.declared.disk.Disk.{Ghosts as DiskGhosts}
use Rattle.peer_base.specs.declared.peer.Peer.{Ghosts as PeerGhosts}
use Rattle.edge_base.specs.declared.edge.Source.{Ghosts as SourceGhosts}
use Rattle.edge_base.specs.declared.edge.Sink.{Ghosts as SinkGhosts}
use Rattle.edge_base.specs.declared.hand.Clock.{Ghosts as ClockGhosts}
use Rattle.edge_base.specs.declared.hand.Dice.{Ghosts as DiceGhosts}
use Rattle.pack_store.specs.Archive.{Archive}
use Rattle.pack_store.specs.Packs.{KeepsAll}
use Rattle.pack_store.specs.Puts.{PutsAll, HoldAll, Stands, PutsBlobs, PutLeaves}
use Rattle.pack_store.proofs.Moments.{keeps_itself, keeps_then, held_after, stays_itself, stays_then, stays_keeps}
use Rattle.pack_store.proofs.Runs.{puts_join, told_join, told_nothing, hold_join, hold_on}
use Rattle.top_frame.specs.declared.status.InputFault.{InputFault}
use Rattle.top_frame.specs.declared.status.InputFault.TheVariants.{BadRef, BadDate, BadNumber, BadName, TooBig, NotAFile, Short, Deep, NoKey, TooLong, BadQuery, BadChanges, Words}
use Rattle.top_frame.specs.declared.status.Status.{Status}
use Rattle.top_frame.specs.declared.status.Status.TheVariants as status
use Rattle.top_frame.specs.Faults.{put_status}
use Rattle.top_frame.specs.Frame.{leaves_alone, only_looks, opens_store, reads_nothing, reads_first, no_peer, RefusedEarly, Meaning, Given, IsDrawn, IsQuiet, ReadsAll, ReadsSome, Always, Exchanges, ExchangesSome, Finishes, WritesSome, EndsEarly, StopsFull, WhileReading, IsTooLong, ReadsTooMuch, read_too_much, found_unfit, said_badly, EndsBy, Ends}
use Rattle.top_frame.specs.Limits.{limits}
use Rattle.top_frame.specs.Outside.{Outside, World, world}
use Rattle.top_frame.specs.Steps.{RefusesInput, Finds, Writes}

-- nothing was written
pub took_nothing : (held : Option (List ℕ)) → SinkTook held held []
took_nothing None = refl
took_nothing (Some h) = ap Some (sym (append-nil h))

pub later_rose : (before between now : ℕ) → before ≤ between → FaultsRose between now → FaultsRose before now
later_rose before between now le rose = omega (arith, le, rose)

-- bytes under the ref that the program gives them
pub under_ref : {r bytes text : List ℕ} → bytes ≡ text → r ≡ ref_of text → ◌≡◌ {A = Blob} (r, bytes) (ref_of text, text)
under_ref is given = λ i. (given i, is i)

-- where nothing is drawn or copied
abbrev pub given_input : List ℕ → Given
given_input input = record { input = input; date = pos 0; date_text = []; random = []; pulled = []; lacked = 0; had = 0 }

abbrev pub nothing_given : Given
nothing_given = given_input []

-- a run of a command that leaves the peer alone: the laws of its disk, its meaning, which has nothing bad in its words, and the world
-- before
pub record Begun (D P S K C R : Type 0) : Type 1 where
  pub o : Outside D P S K C R
  pub counts_now : (d : D) (t : ℕ) (c : Packs) → t ≤ o.disk.moment d → o.disk.images d c → o.disk.images_since d t c
  pub only_now : (d : D) (c : Packs) → o.disk.images_since d (o.disk.moment d) c → o.disk.images d c
  pub m : Meaning
  pub fit : m.bad ≡ None
  pub alone : m.exchange ≡ no_peer
  pub b : World D P S K C R

abbrev pub begun : {D P S K C R : Type 0} (o : Outside D P S K C R) → ((d : D) (t : ℕ) (c : Packs) → t ≤ o.disk.moment d → o.disk.images d c → o.disk.images_since d t c)
    → ((d : D) (c : Packs) → o.disk.images_since d (o.disk.moment d) c → o.disk.images d c) → (m : Meaning) → m.bad ≡ None → m.exchange ≡ no_peer → World D P S K C R
    → Begun D P S K C R
begun o counts_now only_now m fit alone b = record { o = o; counts_now = counts_now; only_now = only_now; m = m; fit = fit; alone = alone; b = b }

-- nothing was touched
module _ {D P S K C R : Type 0} (o : Outside D P S K C R)
    (counts_now : (d : D) (t : ℕ) (c : Packs) → t ≤ o.disk.moment d → o.disk.images d c → o.disk.images_since d t c)
    (only_now : (d : D) (c : Packs) → o.disk.images_since d (o.disk.moment d) c → o.disk.images d c) (m : Meaning) (b : World D P S K C R) where
  untouched : Always o m b b
  untouched = record {
    crash = keeps_itself o.disk counts_now only_now b.disk;
    quiet = λ _. stays_itself o.disk counts_now only_now b.disk;
    unopened = λ _. refl;
    unread = λ _. refl;
    untimed = λ _. refl;
    undiced = λ _. refl;
    unmet = λ _. refl;
    unsent = λ _. refl;
    unmoved = λ _. refl;
    peer_later = omega arith;
    disk_later = omega arith;
    source_later = omega arith;
    sink_later = omega arith;
    clock_later = omega arith;
    dice_later = omega arith;
  }

  -- what the words say can't be used
  pub bad_words : (fault : InputFault) → m.bad ≡ Some fault → Ends o m b b (status.BadInput fault)
  bad_words fault bad = record { always = untouched; ends = said_badly bad refl }

  -- out of memory before anything was done
  pub memory_first : Ends o m b b status.NoMemory
  memory_first = record { always = untouched; ends = inl (record { unasked = refl; unwritten = refl; unsent = refl; why = tt }) }

module _ {D P S K C R : Type 0} (run : Begun D P S K C R) where
  abbrev disk : DiskGhosts D
  disk = run.o.disk

  abbrev peer : PeerGhosts P
  peer = run.o.peer

  abbrev source : SourceGhosts S
  source = run.o.source

  abbrev sink : SinkGhosts K
  sink = run.o.sink

  abbrev clock : ClockGhosts C
  clock = run.o.clock

  abbrev dice : DiceGhosts R
  dice = run.o.dice

  abbrev m : Meaning
  m = run.m

  abbrev b : World D P S K C R
  b = run.b

  -- what is drawn, where it is, came of the clock and the dice as they were before
  abbrev Drawn : Given → Type 0
  Drawn given = IsDrawn m (clock.time b.clock) (dice.random b.dice) given

  abbrev EndsAs : World D P S K C R → Status → Type 0
  EndsAs now end = Ends run.o m b now end

  -- it has come here, and has written these bytes
  pub record At (now : World D P S K C R) (bytes : List ℕ) : Type 0 where
    pub always : Always run.o m b now
    pub wrote : WritesSome run.o m b now m.streams bytes

  -- and it has put these blobs, and nothing else
  pub record Far (now : World D P S K C R) (blobs : List Blob) (bytes : List ℕ) : Type 0 where
    pub at : At now bytes
    pub packs : Tells (disk.packs b.disk) (disk.packs now.disk) (PutsAll limits blobs)
    pub held : HoldAll (disk.images now.disk) blobs

  -- it has read this of what it reads
  pub record Has (s : S) (given : Given) : Type 0 where
    pub read : ReadsSome source m.input b.source s given.input
    pub right : m.wrong given.input ≡ None
    pub drawn : Drawn given

  -- it copies nothing
  copies_none : (now : World D P S K C R) (given : Given) → Exchanges run.o m b now m.exchange given
  copies_none now given = subst (λ x. Exchanges run.o m b now x given) (sym run.alone) tt

  copied_none : (now : World D P S K C R) (given : Given) → ExchangesSome run.o m b now m.exchange given
  copied_none now given = subst (λ x. ExchangesSome run.o m b now x given) (sym run.alone) tt

  stays_same : (d : D) → Stays disk d d
  stays_same d = stays_itself disk run.counts_now run.only_now d

  keeps_of : (d e : D) → Stays disk d e → KeepsAll disk d e
  keeps_of d e stays = stays_keeps disk run.counts_now run.only_now d e stays

  wrote_nothing : (streams : Bool) (d : D) (s : S) → WritesSome run.o m b (world d b.peer s b.sink b.clock b.dice) streams []
  wrote_nothing false d s = refl
  wrote_nothing true d s = took_nothing (sink.written b.sink)

  -- nothing was asked of the disk
  pub far_read : (s : S) → (m.input ≡ reads_nothing → s ≡ b.source) → source.faults b.source ≤ source.faults s → Far (world b.disk b.peer s b.sink b.clock b.dice) [] []
  far_read s alone later = record {
    at = record {
      always = record {
        crash = keeps_itself disk run.counts_now run.only_now b.disk;
        quiet = λ _. stays_same b.disk;
        unopened = λ _. refl;
        unread = alone;
        disk_later = omega arith;
        source_later = later;
        sink_later = omega arith;
        untimed = λ _. refl;
        undiced = λ _. refl;
        unmet = λ _. refl;
        unsent = λ _. refl;
        unmoved = λ _. refl;
        peer_later = omega arith;
        clock_later = omega arith;
        dice_later = omega arith;
      };
      wrote = wrote_nothing m.streams b.disk s;
    };
    packs = told_nothing limits (disk.packs b.disk);
    held = tt;
  }

  pub far_start : Far b [] []
  far_start = far_read b.source (λ _. refl) (omega arith)

  -- out of memory before the disk was asked
  pub early_memory : (s : S) → Far (world b.disk b.peer s b.sink b.clock b.dice) [] [] → EndsAs (world b.disk b.peer s b.sink b.clock b.dice) status.NoMemory
  early_memory s far = record { always = far.at.always; ends = inl (record { unasked = refl; unwritten = refl; unsent = refl; why = tt }) }

  -- the clock and the dice were asked, where they are
  pub far_drawn : (s : S) (watch : C) (cup : R) → Far (world b.disk b.peer s b.sink b.clock b.dice) [] [] → (m.draws_time ≡ false → watch ≡ b.clock) → (m.draws_random ≡ false → cup ≡ b.dice)
      → clock.faults b.clock ≤ clock.faults watch → dice.faults b.dice ≤ dice.faults cup → Far (world b.disk b.peer s b.sink watch cup) [] []
  far_drawn s watch cup far untimed undiced clock_later dice_later = record {
    at = record {
      always = record {
        crash = far.at.always.crash;
        quiet = far.at.always.quiet;
        unopened = far.at.always.unopened;
        unread = far.at.always.unread;
        untimed = untimed;
        undiced = undiced;
        unmet = far.at.always.unmet;
        unsent = far.at.always.unsent;
        unmoved = far.at.always.unmoved;
        peer_later = far.at.always.peer_later;
        disk_later = far.at.always.disk_later;
        source_later = far.at.always.source_later;
        sink_later = far.at.always.sink_later;
        clock_later = clock_later;
        dice_later = dice_later;
      };
      wrote = far.at.wrote;
    };
    packs = far.packs;
    held = far.held;
  }

  -- one of them failed, before the disk was asked
  pub not_drawn : (s : S) (watch : C) (cup : R) → Far (world b.disk b.peer s b.sink watch cup) [] [] → (input : List ℕ) → ReadsSome source m.input b.source s input → m.wrong input ≡ None
      → ((m.draws_time ≡ true) × FaultsRose (clock.faults b.clock) (clock.faults watch)) ⊎ ((m.draws_random ≡ true) × FaultsRose (dice.faults b.dice) (dice.faults cup)) → EndsAs (world b.disk b.peer s b.sink watch cup) status.HandFault
  not_drawn s watch cup far input read right rose = record {
    always = far.at.always;
    ends = record { unasked = refl; unwritten = refl; unsent = refl; why = record { input = input; fit = run.fit; read = read; right = right; rose = rose } };
  }

  -- ---- a step: the objects before and after it

  -- what a step over them leaves of what always holds
  pub record Steps (now next : World D P S K C R) : Type 0 where
    pub disk_later : disk.faults now.disk ≤ disk.faults next.disk
    pub source_later : source.faults now.source ≤ source.faults next.source
    pub sink_later : sink.faults now.sink ≤ sink.faults next.sink
    pub crash : KeepsAll disk now.disk next.disk
    pub quiet : IsQuiet m → Stays disk now.disk next.disk
    pub unread : m.input ≡ reads_nothing → next.source ≡ now.source
    pub untimed : next.clock ≡ now.clock
    pub undiced : next.dice ≡ now.dice
    pub unmet : next.peer ≡ now.peer

  -- a step may ask the disk: as a store that is open there, or so that no moment of it passes
  abbrev MayAsk : D → D → Type 0
  MayAsk d e = (m.disk ≡ opens_store) ⊎ ((m.disk ≡ only_looks) × (disk.moment e ≡ disk.moment d))

  not_alone : (d e : D) → MayAsk d e → m.disk ≡ leaves_alone → ⊥
  not_alone d e (inl opens) alone = absurd (cc (opens, alone))
  not_alone d e (inr looks) alone = absurd (cc (looks.0, alone))

  unmoved_step : (d e : D) → MayAsk d e → m.disk ≡ only_looks → disk.moment e ≡ disk.moment d
  unmoved_step d e (inl opens) looks = absurd (cc (opens, looks))
  unmoved_step d e (inr same) looks = same.1

  always_asked : (now next : World D P S K C R) → MayAsk now.disk next.disk → Always run.o m b now → Steps now next → Always run.o m b next
  always_asked now next asks always step = record {
    crash = keeps_then disk run.counts_now run.only_now b.disk now.disk next.disk always.crash step.crash;
    quiet = λ q. stays_then disk run.counts_now run.only_now b.disk now.disk next.disk (always.quiet q) (step.quiet q);
    unopened = λ e. absurd (not_alone now.disk next.disk asks e);
    unread = λ e. step.unread e ∙ always.unread e;
    untimed = λ e. step.untimed ∙ always.untimed e;
    undiced = λ e. step.undiced ∙ always.undiced e;
    unmet = λ e. step.unmet ∙ always.unmet e;
    unsent = λ e. ap peer.content step.unmet ∙ always.unsent e;
    peer_later = subst (λ x. peer.faults b.peer ≤ peer.faults x) (sym step.unmet) always.peer_later;
    unmoved = λ e. unmoved_step now.disk next.disk asks e ∙ always.unmoved e;
    disk_later = omega (arith, always.disk_later, step.disk_later);
    source_later = omega (arith, always.source_later, step.source_later);
    sink_later = omega (arith, always.sink_later, step.sink_later);
    clock_later = subst (λ x. clock.faults b.clock ≤ clock.faults x) (sym step.untimed) always.clock_later;
    dice_later = subst (λ x. dice.faults b.dice ≤ dice.faults x) (sym step.undiced) always.dice_later;
  }

  -- the disk is asked, and nothing changes there, as the sink is written or not
  pub far_told : {watch : C} {cup : R} (d e : D) (s : S) (k l : K) (blobs : List Blob) (bytes written : List ℕ) → MayAsk d e → Far (world d b.peer s k watch cup) blobs bytes → Stays disk d e → disk.faults d ≤ disk.faults e → sink.faults k ≤ sink.faults l
      → WritesSome run.o m b (world e b.peer s l watch cup) m.streams written → Far (world e b.peer s l watch cup) blobs written
  far_told {watch = watch} {cup = cup} d e s k l blobs bytes written asks far stays later sink_later wrote = record {
    at = record {
      always = always_asked (world d b.peer s k watch cup) (world e b.peer s l watch cup) asks far.at.always
          (record { disk_later = later; source_later = omega arith; sink_later = sink_later; crash = keeps_of d e stays; quiet = λ _. stays; unread = λ _. refl; untimed = refl; undiced = refl; unmet = refl });
      wrote = wrote;
    };
    packs = subst (λ p. Tells (disk.packs b.disk) p (PutsAll limits blobs)) (sym stays.told) far.packs;
    held = hold_on (disk.images d) (disk.images e) (held_after disk run.counts_now run.only_now d e (keeps_of d e stays)) blobs far.held;
  }

  module _ (opens : m.disk ≡ opens_store) where
    pub always_then : (now next : World D P S K C R) → Always run.o m b now → Steps now next → Always run.o m b next
    always_then now next always step = always_asked now next (inl opens) always step

  module _ {watch : C} {cup : R} (opens : m.disk ≡ opens_store) where
    pub far_asked : (d e : D) (s : S) → Far (world d b.peer s b.sink watch cup) [] [] → Stays disk d e → disk.faults d ≤ disk.faults e → Far (world e b.peer s b.sink watch cup) [] []
    far_asked d e s far stays later = far_told d e s b.sink b.sink [] [] [] (inl opens) far stays later (omega arith) (wrote_nothing m.streams e s)

    -- blobs are put, as the source is read or not and the sink written or not
    pub far_puts : (old new : Archive D) (s t : S) (k l : K) (blobs more : List Blob) (bytes written : List ℕ) → Far (world old.disk b.peer s k watch cup) blobs bytes → Stands disk limits old → PutsBlobs disk limits old more new
        → (IsQuiet m → more ≡ []) → disk.faults old.disk ≤ disk.faults new.disk → source.faults s ≤ source.faults t → sink.faults k ≤ sink.faults l → (m.input ≡ reads_nothing → t ≡ s)
        → WritesSome run.o m b (world new.disk b.peer t l watch cup) m.streams written → Far (world new.disk b.peer t l watch cup) (blobs ++ more) written
    far_puts old new s t k l blobs more bytes written far stands puts quiet later source_later sink_later alone wrote = record {
      at = record {
        always = always_then opens (world old.disk b.peer s k watch cup) (world new.disk b.peer t l watch cup) far.at.always
            (record { disk_later = later; source_later = source_later; sink_later = sink_later; crash = puts.crash; quiet = λ q. puts.still (quiet q); unread = alone; untimed = refl; undiced = refl; unmet = refl });
        wrote = wrote;
      };
      packs = told_join (disk.packs b.disk) (disk.packs old.disk) (disk.packs new.disk) (PutsAll limits blobs) (PutsAll limits more) (PutsAll limits (blobs ++ more)) far.packs (puts.packs stands) (puts_join limits blobs more);
      held = hold_join (disk.images new.disk) blobs more
          (hold_on (disk.images old.disk) (disk.images new.disk) (held_after disk run.counts_now run.only_now old.disk new.disk puts.crash) blobs far.held) puts.held;
    }

  -- ---- the ends

  module _ (now : World D P S K C R) (bytes : List ℕ) (at : At now bytes) (given : Given) (has : Has now.source given) (part : m.IsPart given (disk.packs b.disk) bytes) where
    -- the disk failed by now
    pub failed : FaultsRose (disk.faults b.disk) (disk.faults now.disk) → EndsAs now status.Disk
    failed rose = record {
      always = at.always;
      ends = record { given = given; bytes = bytes; fit = run.fit; drawn = has.drawn; read = has.read; right = has.right; exchanged = copied_none now given; written = at.wrote; part = part; why = rose };
    }

  module _ (now : World D P S K C R) (blobs : List Blob) (bytes : List ℕ) (far : Far now blobs bytes) (given : Given) (rest : List Blob) (has : Has now.source given) (cut : m.blobs given ≡ blobs ++ rest)
      (part : m.IsPart given (disk.packs b.disk) bytes) where
    pub stops : (Why : Given → List ℕ → List Blob → List Blob → Type 0) → Why given bytes blobs rest → EndsEarly run.o m b now Why
    stops Why why = record {
      given = given;
      bytes = bytes;
      fit = run.fit;
      drawn = has.drawn;
      read = has.read;
      right = has.right;
      exchanged = copied_none now given;
      written = far.at.wrote;
      part = part;
      why = record { blobs = blobs; rest = rest; cut = cut; put = far.packs; held = far.held; why = why };
    }

    pub no_memory : EndsAs now status.NoMemory
    no_memory = record { always = far.at.always; ends = inr (stops (λ given bytes gone rest. Unit {0}) tt) }

    pub full : (count pack : ℕ) → StopsFull run.o m b now count pack rest → EndsAs now (status.Full count pack)
    full count pack why = record { always = far.at.always; ends = inl (stops (λ given bytes gone rest. StopsFull run.o m b now count pack rest) why) }

    -- a write failed as it went
    pub not_written : m.streams ≡ true → FaultsRose (sink.faults b.sink) (sink.faults now.sink) → EndsAs now status.WriteFault
    not_written streams rose = record { always = far.at.always; ends = (rose, inr (streams, stops (λ given bytes gone rest. Unit {0}) tt)) }

    pub absent : (r : List ℕ) → m.Refuses given (disk.packs b.disk) bytes blobs (status.Absent r) → EndsAs now (status.Absent r)
    absent r why = record { always = far.at.always; ends = stops (λ given bytes gone rest. m.Refuses given (disk.packs b.disk) bytes gone (status.Absent r)) why }

    -- what was found can't be used
    pub unfit : (fault : InputFault) → m.Refuses given (disk.packs b.disk) bytes blobs (status.BadInput fault) → EndsAs now (status.BadInput fault)
    unfit fault why = record {
      always = far.at.always;
      ends = found_unfit (stops (λ given bytes gone rest. m.Refuses given (disk.packs b.disk) bytes gone (status.BadInput fault)) why);
    }

    pub damaged : (want is : List ℕ) → m.Refuses given (disk.packs b.disk) bytes blobs (status.Damaged want is) → EndsAs now (status.Damaged want is)
    damaged want is why = record { always = far.at.always; ends = inl (stops (λ given bytes gone rest. m.Refuses given (disk.packs b.disk) bytes gone (status.Damaged want is)) why) }

  -- all was put and, where it streams, written
  pub done : (now : World D P S K C R) (blobs : List Blob) (bytes : List ℕ) → Always run.o m b now → Tells (disk.packs b.disk) (disk.packs now.disk) (PutsAll limits blobs) → HoldAll (disk.images now.disk) blobs
      → (given : Given) → Drawn given → ReadsAll source m.input b.source now.source given.input → m.wrong given.input ≡ None → m.IsOutput given (disk.packs b.disk) bytes → m.blobs given ≡ blobs
      → (end : Status) → Writes sink b.sink now.sink bytes end → EndsAs now end
  done now blobs bytes always packs held given drawn read right output all end writes = record { always = always; ends = by end writes }
    where
      finishes : (Wrote : List ℕ → Type 0) → Wrote bytes → Finishes run.o m b now Wrote
      finishes Wrote wrote = record {
        given = given;
        bytes = bytes;
        fit = run.fit;
        drawn = drawn;
        read = read;
        right = right;
        exchanged = copies_none now given;
        output = output;
        put = subst (λ l. Tells (disk.packs b.disk) (disk.packs now.disk) (PutsAll limits l)) (sym all) packs;
        held = subst (HoldAll (disk.images now.disk)) (sym all) held;
        wrote = wrote;
      }

      by : (end : Status) → Writes sink b.sink now.sink bytes end → EndsBy run.o m b now end
      by status.Done w = finishes (SinkTook (sink.written b.sink) (sink.written now.sink)) w
      by status.WriteFault w = (w.0, inl (finishes (SinkTookFront (sink.written b.sink) (sink.written now.sink)) w.1))
      by status.NoMemory w = absurd w
      by status.BadWords w = absurd w
      by status.ListenerFault w = absurd w
      by status.HandFault w = absurd w
      by status.Peer w = absurd w
      by (status.BadReply fault) w = absurd w
      by (status.Absent r) w = absurd w
      by (status.BadInput fault) w = absurd w
      by status.ReadFault w = absurd w
      by status.Disk w = absurd w
      by (status.Full blobs pack) w = absurd w
      by (status.Damaged want is) w = absurd w

  -- what is written stands at the end alone
  pub finished : {watch : C} {cup : R} (d : D) (s : S) (blobs : List Blob) → Far (world d b.peer s b.sink watch cup) blobs [] → (k : K) (given : Given) (bytes : List ℕ) → Drawn given → ReadsAll source m.input b.source s given.input → m.wrong given.input ≡ None
      → m.IsOutput given (disk.packs b.disk) bytes → m.blobs given ≡ blobs → (end : Status) → Writes sink b.sink k bytes end → sink.faults b.sink ≤ sink.faults k → EndsAs (world d b.peer s k watch cup) end
  finished {watch = watch} {cup = cup} d s blobs far k given bytes drawn read right output all end writes later = done (world d b.peer s k watch cup) blobs bytes (record {
    crash = far.at.always.crash;
    quiet = far.at.always.quiet;
    unopened = far.at.always.unopened;
    unread = far.at.always.unread;
    untimed = far.at.always.untimed;
    undiced = far.at.always.undiced;
    unmet = far.at.always.unmet;
    unsent = far.at.always.unsent;
    unmoved = far.at.always.unmoved;
    peer_later = far.at.always.peer_later;
    disk_later = far.at.always.disk_later;
    source_later = far.at.always.source_later;
    sink_later = later;
    clock_later = far.at.always.clock_later;
    dice_later = far.at.always.dice_later;
  }) far.packs far.held given drawn read right output all end writes

  -- what was asked of the disk, with nothing put or written so far, was refused
  pub refused : {watch : C} {cup : R} → m.disk ≡ opens_store → (d e : D) (s : S) → Far (world d b.peer s b.sink watch cup) [] [] → Stays disk d e → disk.faults d ≤ disk.faults e → (given : Given) → Has s given → m.IsPart given (disk.packs b.disk) []
      → (Why : Status → Type 0) → ((end : Status) → Why end → m.Refuses given (disk.packs b.disk) [] [] end) → (end : Status) → Finds disk d e Why end → EndsAs (world e b.peer s b.sink watch cup) end
  refused {watch = watch} {cup = cup} opens d e s far stays later given has part Why tells end why = by end why
    where
      so : Far (world e b.peer s b.sink watch cup) [] []
      so = far_asked opens d e s far stays later

      by : (end : Status) → Finds disk d e Why end → EndsAs (world e b.peer s b.sink watch cup) end
      by status.Disk w = failed (world e b.peer s b.sink watch cup) [] so.at given has part (later_rose (disk.faults b.disk) (disk.faults d) (disk.faults e) far.at.always.disk_later w)
      by status.NoMemory w = no_memory (world e b.peer s b.sink watch cup) [] [] so given (m.blobs given) has refl part
      by (status.Absent r) w = absent (world e b.peer s b.sink watch cup) [] [] so given (m.blobs given) has refl part r (tells (status.Absent r) w)
      by (status.Damaged want is) w = damaged (world e b.peer s b.sink watch cup) [] [] so given (m.blobs given) has refl part want is (tells (status.Damaged want is) w)
      by status.ReadFault w = absurd w
      by (status.BadInput fault) w = absurd w
      by status.Done w = absurd w
      by status.WriteFault w = absurd w
      by status.BadWords w = absurd w
      by status.ListenerFault w = absurd w
      by status.HandFault w = absurd w
      by status.Peer w = absurd w
      by (status.BadReply fault) w = absurd w
      by (status.Full blobs pack) w = absurd w

  -- ---- one blob that is put, and an input that isn't read before the opening

  module _ {watch : C} {cup : R} (opens : m.disk ≡ opens_store) (puts_some : IsQuiet m → ⊥) (old new : Archive D) (s : S) (k : K) (blobs : List Blob) (bytes : List ℕ) (far : Far (world old.disk b.peer s k watch cup) blobs bytes) (stands : Stands disk limits old)
      (crash : KeepsAll disk old.disk new.disk) (later : disk.faults old.disk ≤ disk.faults new.disk) (wrote : WritesSome run.o m b (world new.disk b.peer s k watch cup) m.streams bytes) where
    pub far_put : (more : List Blob) → PutsBlobs disk limits old more new → Far (world new.disk b.peer s k watch cup) (blobs ++ more) bytes
    far_put more puts = far_puts opens old new s s k k blobs more bytes bytes far stands puts (λ q. absurd (puts_some q)) later (omega arith) (omega arith) (λ _. refl) wrote

    far_same : PutsBlobs disk limits old [] new → Far (world new.disk b.peer s k watch cup) blobs bytes
    far_same puts = subst (λ l. Far (world new.disk b.peer s k watch cup) l bytes) (append-nil blobs) (far_put [] puts)

    pub not_put : (given : Given) (next : Blob) (more : List Blob) → Has s given → m.blobs given ≡ blobs ++ next ∷ more → m.IsPart given (disk.packs b.disk) bytes → length next.1 ≤ max_size
        → (e : PutFault) → PutLeaves disk limits old new next (Err e) → EndsAs (world new.disk b.peer s k watch cup) (put_status e)
    not_put given next more has cut part small (put.TooBig size) w = absurd (omega (arith, w.1, w.2, small))
    not_put given next more has cut part small (put.BadDigest said is) w = absurd w
    not_put given next more has cut part small (put.Full count pack) w = full (world new.disk b.peer s k watch cup) blobs bytes (far_same w.0) given (next ∷ more) has cut part count pack (w.1 (w.0.stands stands))
    not_put given next more has cut part small put.Disk w = failed (world new.disk b.peer s k watch cup) bytes (record {
      always = always_then opens (world old.disk b.peer s k watch cup) (world new.disk b.peer s k watch cup) far.at.always
          (record { disk_later = later; source_later = omega arith; sink_later = omega arith; crash = crash; quiet = λ q. absurd (puts_some q); unread = λ _. refl; untimed = refl; undiced = refl; unmet = refl });
      wrote = wrote;
    }) given has part (later_rose (disk.faults b.disk) (disk.faults old.disk) (disk.faults new.disk) far.at.always.disk_later w)
    not_put given next more has cut part small put.NoMemory w = no_memory (world new.disk b.peer s k watch cup) blobs bytes (far_same w) given (next ∷ more) has cut part

  pub unread_first : (most : ℕ) → m.input ≡ reads_first most → ((size : ℕ) → m.too_long size ≡ TooBig size) → (s : S) → Far (world b.disk b.peer s b.sink b.clock b.dice) [] [] → (end : Status) → RefusesInput source most b.source s end
      → EndsAs (world b.disk b.peer s b.sink b.clock b.dice) end
  unread_first most reads told s far end why = record { always = far.at.always; ends = by end why }
    where
      here : World D P S K C R
      here = world b.disk b.peer s b.sink b.clock b.dice

      early : (Why : Type 0) → Why → RefusedEarly run.o m b here Why
      early Why why = record { unasked = refl; unwritten = refl; unsent = refl; why = why }

      while_reading : (Why : ℕ → Type 0) → Why most → WhileReading run.o m b here m.input Why
      while_reading Why why = subst (λ i. WhileReading run.o m b here i Why) (sym reads) (early ((m.bad ≡ None) × Why most) (run.fit, why))

      by : (end : Status) → RefusesInput source most b.source s end → EndsBy run.o m b here end
      by status.ReadFault w = while_reading (λ most. FaultsRose (source.faults b.source) (source.faults s)) w
      by (status.BadInput (TooBig size)) w = read_too_much (subst (λ i. ReadsTooMuch run.o m b here i (TooBig size)) (sym reads)
          (early ((m.bad ≡ None) × IsTooLong run.o m b here (TooBig size) most) (run.fit, (size, sym (told size), w))))
      by status.NoMemory w = inl (early (Unit {0}) tt)
      by (status.BadInput BadRef) w = absurd w
      by (status.BadInput BadDate) w = absurd w
      by (status.BadInput BadNumber) w = absurd w
      by (status.BadInput BadName) w = absurd w
      by (status.BadInput (NotAFile r)) w = absurd w
      by (status.BadInput (Short r has wants)) w = absurd w
      by (status.BadInput (Deep r)) w = absurd w
      by (status.BadInput NoKey) w = absurd w
      by (status.BadInput (TooLong len)) w = absurd w
      by (status.BadInput (BadQuery fault)) w = absurd w
      by (status.BadInput BadChanges) w = absurd w
      by (status.BadInput (Words fault)) w = absurd w
      by status.Done w = absurd w
      by status.WriteFault w = absurd w
      by status.BadWords w = absurd w
      by status.ListenerFault w = absurd w
      by status.HandFault w = absurd w
      by status.Peer w = absurd w
      by (status.BadReply fault) w = absurd w
      by (status.Absent r) w = absurd w
      by status.Disk w = absurd w
      by (status.Full blobs pack) w = absurd w
      by (status.Damaged want is) w = absurd w
