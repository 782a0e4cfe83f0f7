-- A valid command ends with all done, or for want of memory.
use Rattle.std.proofs.Common.{◌≡◌, ◌⊎◌, ◌||◌, ◌&&◌, inl, inr, ℕ, ◌≤◌, ◌<◌, Bool, true, false, nat_le, nat_lt, Option, None, Some, IfSome, List, [], ◌∷◌, ◌++◌, length, refl, ap, subst, arith}
use Rattle.std.proofs.lemmas.Bool.{ltb-true, leb-true}
use Rattle.std.specs.FinMap.{entries}
use Rattle.edge_base.specs.Edge.{FaultsRose, SourceGaveAll}
use Rattle.edge_base.specs.Shelf.{Blob}
use Rattle.pack_disk.specs.Packs.{Packs}
use Rattle.pack_disk.specs.Disk.{Tells}
use Rattle.pack_store.specs.declared.rows.Current.{Current}
use Rattle.pack_store.specs.Opening.{next_of, current_of}
use Rattle.pack_store.specs.Putting.{pack_of}
use Rattle.pack_store.specs.Puts.{PutsAll, needs_pack_on}
use Rattle.salvage_scan.specs.Arrivals.{arrivals}
use Rattle.top_frame.specs.declared.status.InputFault.{InputFault}
use Rattle.top_frame.specs.declared.status.Status.{Status}
use Rattle.top_frame.specs.declared.status.Status.TheVariants as status
use Rattle.top_frame.specs.Complete.{IsFitInput, IsCalm, IsTold, IsToldTo, IsValid, EndsWell}
use Rattle.top_frame.specs.Frame.{Input, Exchange, Meaning, Ends, EndsEarly, StopsFull, Unusable, said_badly, read_too_much, read_wrongly, found_unfit, WhileReading, ReadsTooMuch, WhenRead, WhileExchanging, WhilePushing, WhileFetching, PeerReplied, reads_nothing, reads_first, reads_later, no_peer, pulls, pushes}
use Rattle.top_frame.specs.Limits.{limits}
use Rattle.top_frame.specs.Outside.{Outside, World}

some_none : {X : Type 0} (told : Option X) (x : X) → told ≡ Some x → told ≡ None → ⊥
some_none told x some none = absurd (cc (some, none))

some_same : {X : Type 0} (a b : X) → Some a ≡ Some b → a ≡ b
some_same a b e = cc e

-- what is told of the packs after some blobs were put
told_now : (front : List Blob) (before now : Option Packs) (held : Packs) → before ≡ Some held → Tells before now (PutsAll limits front) → (after : Packs) × (now ≡ Some after) × PutsAll limits front held after
told_now front None now held e t = absurd (cc e)
told_now front (Some x) None held e t = absurd t
told_now front (Some x) (Some y) held e t = (y, refl, subst (λ p. PutsAll limits front p y) (some_same x held e) t)

too_long : (told : Option (List ℕ)) (left : List ℕ) (most : ℕ) → told ≡ Some left → length left ≤ most → IfSome told (λ input. most < length input) → ⊥
too_long None left most e le more = absurd (cc e)
too_long (Some x) left most e le more = absurd (omega (arith, le, subst (λ (l : List ℕ). most < length l) (some_same x left e) more))

all_read : (told now : Option (List ℕ)) (left input : List ℕ) → told ≡ Some left → SourceGaveAll told now input → input ≡ left
all_read None now left input e gave = absurd (cc e)
all_read (Some x) now left input e gave = cc (e, gave.1)

-- a store isn't full that has room
not_full : (most count last next : ℕ) (needs : Bool) (current : Option Current) → count < most → pack_of needs next current ≤ last → (nat_le most count || (needs && nat_lt last next)) ≡ true → ⊥
not_full most count last next needs current few low full = by needs (nat_le most count) (nat_lt last next) refl refl low full
  where
    by : (needs over above : Bool) → nat_le most count ≡ over → nat_lt last next ≡ above → pack_of needs next current ≤ last → (over || (needs && above)) ≡ true → ⊥
    by needs true above is_over is_above low full = absurd (omega (arith, few, leb-true most count is_over))
    by true false true is_over is_above low full = absurd (omega (arith, low, ltb-true last next is_above))
    by true false false is_over is_above low full = absurd (cc full)
    by false false above is_over is_above low full = absurd (cc full)

module _ {D P S K C R : Type 0} (o : Outside D P S K C R) (m : Meaning) (old new : World D P S K C R) (held : Packs) (v : IsValid o old new m held) (calm : IsCalm o old new) where
  -- what it refuses for what it finds it doesn't refuse
  not_refused : (answer : Status) → EndsEarly o m old new (λ given bytes gone rest. m.Refuses given (o.disk.packs old.disk) bytes gone answer) → ⊥
  not_refused answer w = v.stands w.given w.bytes w.why.blobs answer w.drawn (subst (λ told. m.Refuses w.given told w.bytes w.why.blobs answer) v.tells w.why.why)

  no_read : (i : Input) → WhileReading o m old new i (λ most. FaultsRose (o.source.faults old.source) (o.source.faults new.source)) → ⊥
  no_read reads_nothing w = w
  no_read (reads_first most) w = calm.source w.why.1
  no_read (reads_later most) w = calm.source w.why.why

  not_too_much : (i : Input) (fault : InputFault) → IsFitInput m i (o.source.left old.source) → ReadsTooMuch o m old new i fault → ⊥
  not_too_much reads_nothing fault fit w = w
  not_too_much (reads_first most) fault fit w = too_long (o.source.left old.source) fit.left most fit.tells fit.within w.why.1.2.more
  not_too_much (reads_later most) fault fit w = too_long (o.source.left old.source) fit.left most fit.tells fit.within w.why.why.1

  not_wrong : (i : Input) (fault : InputFault) → IsFitInput m i (o.source.left old.source) → WhenRead o m old new i fault → ⊥
  not_wrong reads_nothing fault fit w = w
  not_wrong (reads_first most) fault fit w =
      let same = all_read (o.source.left old.source) (o.source.left new.source) fit.left w.why.1 fit.tells w.why.2.1 in
      absurd (cc (fit.right, w.why.3, ap m.wrong same))
  not_wrong (reads_later most) fault fit w = w

  usable : (fault : InputFault) → Unusable o m old new fault → ⊥
  usable fault (said_badly bad same) = absurd (cc (v.fit, bad))
  usable fault (read_too_much w) = not_too_much m.input fault v.input w
  usable fault (read_wrongly w) = not_wrong m.input fault v.input w
  usable fault (found_unfit w) = not_refused (status.BadInput fault) w

  drawn : ((m.draws_time ≡ true) × FaultsRose (o.clock.faults old.clock) (o.clock.faults new.clock)) ⊎ ((m.draws_random ≡ true) × FaultsRose (o.dice.faults old.dice) (o.dice.faults new.dice)) → ⊥
  drawn (inl r) = calm.clock r.1
  drawn (inr r) = calm.dice r.1

  while : (x : Exchange) (Why : Type 0) → (IsTold o old new → Why → ⊥) → IsToldTo o old new x → WhileExchanging o m old new x Why → ⊥
  while no_peer Why never tells w = w
  while pulls Why never tells w = never tells w.why.why
  while pushes Why never tells w = never tells w.why.why

  none_damaged : (x : Exchange) (want is : List ℕ) → IsToldTo o old new x → WhileFetching o m old new x want is → ⊥
  none_damaged no_peer want is tells w = w
  none_damaged pulls want is tells w = tells.tells w.why.why.1.0
  none_damaged pushes want is tells w = some_none (o.disk.packs old.disk) held v.tells w.why.why.1.untold

  never_full : (x : Exchange) (blobs pack : ℕ) → IsToldTo o old new x → WhilePushing o m old new x blobs pack → ⊥
  never_full no_peer blobs pack tells w = w
  never_full pulls blobs pack tells w = w
  never_full pushes blobs pack tells w = tells.empties w.why.why.0 blobs pack w.why.why.1

  has_room : (blobs pack : ℕ) → EndsEarly o m old new (λ given bytes gone rest. StopsFull o m old new blobs pack rest) → ⊥
  has_room blobs pack w = go w.why.rest w.why.cut w.why.why (told_now w.why.blobs (o.disk.packs old.disk) (o.disk.packs new.disk) held v.tells w.why.put)
    where
      go : (rest : List Blob) → m.blobs w.given ≡ w.why.blobs ++ rest → StopsFull o m old new blobs pack rest
          → (after : Packs) × (o.disk.packs new.disk ≡ Some after) × PutsAll limits w.why.blobs held after → ⊥
      go [] cut why now = why
      go (next ∷ more) cut why now =
          let full = why.1 now.0 now.1 in
          let room = v.room w.given w.drawn w.exchanged w.why.blobs more next now.0 cut now.2 full.lacking in
          not_full limits.blobs (length (arrivals (entries now.0))) limits.last_pack (next_of (entries now.0)) (needs_pack_on limits now.0) (current_of (entries now.0)) room.0 room.1 full.full

  pub ends_well : (answer : Status) → Ends o m old new answer → EndsWell answer
  ends_well status.Done e = inl refl
  ends_well status.NoMemory e = inr refl
  ends_well status.BadWords e = absurd e.ends
  ends_well status.ListenerFault e = absurd e.ends
  ends_well status.ReadFault e = absurd (no_read m.input e.ends)
  ends_well status.WriteFault e = absurd (calm.sink e.ends.0)
  ends_well status.Disk e = absurd (calm.disk e.ends.why)
  ends_well status.HandFault e = absurd (drawn e.ends.why.rose)
  ends_well (status.BadInput fault) e = absurd (usable fault e.ends)
  ends_well (status.Absent r) e = absurd (not_refused (status.Absent r) e.ends)
  ends_well status.Peer e = absurd (while m.exchange (FaultsRose (o.peer.faults old.peer) (o.peer.faults new.peer)) (λ tells rose. calm.peer rose) v.peer e.ends)
  ends_well (status.BadReply why) e = absurd (while m.exchange (PeerReplied o m old new why) (λ tells w. tells.tells w.0) v.peer e.ends)
  ends_well (status.Full blobs pack) e = absurd (full e.ends)
    where
      full : EndsEarly o m old new (λ given bytes gone rest. StopsFull o m old new blobs pack rest) ⊎ WhilePushing o m old new m.exchange blobs pack → ⊥
      full (inl w) = has_room blobs pack w
      full (inr w) = never_full m.exchange blobs pack v.peer w
  ends_well (status.Damaged want is) e = absurd (damaged e.ends)
    where
      damaged : EndsEarly o m old new (λ given bytes gone rest. m.Refuses given (o.disk.packs old.disk) bytes gone (status.Damaged want is)) ⊎ WhileFetching o m old new m.exchange want is → ⊥
      damaged (inl w) = not_refused (status.Damaged want is) w
      damaged (inr w) = none_damaged m.exchange want is v.peer w
