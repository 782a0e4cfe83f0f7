-- The calls of a disk as a store is opened, one more of them.
use Rattle.std.proofs.Common.{◌≡◌, ◌+◌, ◌≤◌, ◌<◌, ℕ, suc, List, [], ◌∷◌, ◌++◌, length, map, flat_map, Option, Some, None, inr, refl, sym, ◌∙◌, ap, subst, arith, length-append}
use Rattle.std.proofs.lemmas.Grind.{flat_map-append}
use Rattle.std.proofs.lemmas.List.{append-nil, map-append}
use Rattle.salvage_scan.specs.Salvage.{salvage}
use Rattle.pack_disk.specs.declared.disk.Disk.{Ghosts}
use Rattle.pack_store.specs.declared.arrivals.Arrivals.{Arrivals}
use Rattle.pack_store.specs.declared.onlooker.Onlooker.{Ghosts as OnlookerGhosts}
use Rattle.pack_store.specs.declared.limits.Limits.{Limits}
use Rattle.pack_store.specs.declared.rows.Row.{Row}
use Rattle.pack_store.specs.declared.rows.Current.{Current}
use Rattle.pack_store.specs.Opening.{row_of, take_rows, take_pack, next_of, current_of}
use Rattle.pack_store.specs.Onlooking.{take_rows-append}
use Rattle.pack_store.specs.Calls.{Piece, joined, PackRead, packs_of, rows_of, Reads, ReadsFront, ReadsPack, FindsPack, FindsPacks, IsReadFrom, AreReadFrom, TakesPack}
use Rattle.pack_store.proofs.Packing.{next_after, current_after}

no_bytes : (piece : List ℕ) → length piece ≡ 0 → piece ≡ []
no_bytes [] is = refl
no_bytes (b ∷ piece) is = absurd (omega (arith, is))

joined_one : {D : Type 0} (pieces : List (Piece D)) (p : Piece D) → joined (pieces ++ p ∷ []) ≡ joined pieces ++ p.bytes
joined_one {D} pieces p = flat_map-append (λ (p : Piece D). p.bytes) pieces (p ∷ []) ∙ ap (λ l. joined pieces ++ l) (append-nil p.bytes)

rows_one : (packs : List (ℕ × List ℕ)) (n : ℕ) (bytes : List ℕ) → rows_of (packs ++ (n, bytes) ∷ []) ≡ take_pack (rows_of packs) n bytes
rows_one packs n bytes =
    let found : ℕ × List ℕ → List Row = λ pack. map (row_of pack.0) (salvage pack.1) in
    ap (take_rows []) (flat_map-append found packs ((n, bytes) ∷ []) ∙ ap (λ l. flat_map found packs ++ l) (append-nil (found (n, bytes))))
    ∙ take_rows-append [] (flat_map found packs) (found (n, bytes))

module _ {D : Type 0} (g : Ghosts D) where
  reads_one : (pack at : ℕ) (old mid : D) (pieces : List (Piece D)) (n : ℕ) (p : Piece D) → Reads g pack at old pieces mid → n ≡ at + length (joined pieces) → g.gives mid pack n p.room p.bytes p.disk
      → Reads g pack at old (pieces ++ p ∷ []) p.disk
  reads_one pack at old mid [] n p is place gave =
      let here : n ≡ at = omega (arith, place) in
      (subst (λ (k : ℕ). g.gives old pack k p.room p.bytes p.disk) here (subst (λ (d : D). g.gives d pack n p.room p.bytes p.disk) is gave), refl)
  reads_one pack at old mid (q ∷ pieces) n p reads place gave =
      (reads.0, reads_one pack (at + length q.bytes) q.disk mid pieces n p reads.1 (omega (arith, place, length-append q.bytes (joined pieces))) gave)

  -- nothing of a pack was read
  pub front_begins : (old : D) (pack size : ℕ) (sized : D) → g.sizes old pack size sized → ReadsFront g old pack size [] sized
  front_begins old pack size sized asked = record { sized = sized; asked = asked; pieces = []; read = refl; are = refl }

  -- and then a piece more
  pub front_goes_on : (old mid new : D) (pack size at room : ℕ) (front piece : List ℕ) → length front ≡ at → ReadsFront g old pack size front mid → g.gives mid pack at room piece new
      → ReadsFront g old pack size (front ++ piece) new
  front_goes_on old mid new pack size at room front piece long first gave =
      let p : Piece D = record { room = room; bytes = piece; disk = new } in
      record {
        sized = first.sized;
        asked = first.asked;
        pieces = first.pieces ++ p ∷ [];
        read = reads_one pack 0 first.sized mid first.pieces at p first.read (omega (arith, long, ap (λ (l : List ℕ). length l) first.are)) gave;
        are = ap (λ l. l ++ piece) first.are ∙ sym (joined_one first.pieces p);
      }

  -- which was empty
  pub front_ends : (old mid new : D) (pack size at room : ℕ) (front piece : List ℕ) → length front ≡ at → ReadsFront g old pack size front mid → g.gives mid pack at room piece new → length piece ≡ 0 → 0 < room → at < size
      → ReadsPack g old pack (front ++ piece) new
  unfolding front_goes_on
  front_ends old mid new pack size at room front piece long first gave none roomy short = record {
    size = size;
    front = front_goes_on old mid new pack size at room front piece long first gave;
    whole = inr (
      omega (arith, length-append front piece, long, none, short),
      record {
        before = first.pieces;
        last = record { room = room; bytes = piece; disk = new };
        cut = refl;
        empty = no_bytes piece none;
        roomy = roomy;
      },
    );
  }

  -- ---- packs

  finds_one : (from : ℕ) (old mid : D) (packs : List (PackRead D)) (next after : ℕ) (p : PackRead D) → FindsPacks g from old packs next mid → FindsPack g next mid p → after ≡ suc p.number
      → FindsPacks g from old (packs ++ p ∷ []) after p.disk
  finds_one from old mid [] next after p is finds counts = (subst (λ (d : D). FindsPack g from d p) is.1 (subst (λ (n : ℕ). FindsPack g n mid p) is.0 finds), (counts, refl))
  finds_one from old mid (q ∷ packs) next after p front finds counts = (front.0, finds_one (suc q.number) q.disk mid packs next after p front.1 finds counts)

  pub none_read : (disk : D) → AreReadFrom g disk [] 0 None disk
  none_read disk = record { packs = []; finds = (refl, refl); rows_are = refl; next_is = refl; current_is = refl }

  -- one pack more
  pub one_read : {L : Type 0} (h : OnlookerGhosts L) (start old mid new : D) (before now : Arrivals L) (next pack : ℕ) (current found : Option Current) → AreReadFrom g start before.rows.items next current old
      → g.finds old next (Some pack) mid → next ≤ pack → TakesPack g h mid pack before now new found → AreReadFrom g start now.rows.items (pack + 1) found new
  one_read h start old mid new before now next pack current found are finds ge takes =
      let p : PackRead D = record { number = pack; bytes = takes.bytes; found = mid; synced = takes.synced; disk = new } in
      let sum : pack + 1 ≡ suc pack = omega arith in
      let all : packs_of (are.packs ++ p ∷ []) ≡ packs_of are.packs ++ (pack, takes.bytes) ∷ [] = map-append (λ (p : PackRead D). (p.number, p.bytes)) are.packs (p ∷ []) in
      let low : next_of (packs_of are.packs) ≤ pack = omega (arith, are.next_is, ge) in
      record {
        packs = are.packs ++ p ∷ [];
        finds = finds_one 0 start old are.packs next (pack + 1) p are.finds (record { finds = finds; syncs = takes.syncs; reads = takes.reads }) sum;
        rows_are = takes.rows ∙ ap (λ rows. take_pack rows pack takes.bytes) are.rows_are ∙ sym (ap rows_of all ∙ rows_one (packs_of are.packs) pack takes.bytes);
        next_is = sum ∙ sym (ap next_of all ∙ next_after (packs_of are.packs) pack takes.bytes low);
        current_is = takes.current_is ∙ sym (ap current_of all ∙ current_after (packs_of are.packs) pack takes.bytes);
      }

  -- all of them
  pub all_read : (start old new : D) (rows : List Row) (next : ℕ) (current : Option Current) (limits : Limits) → AreReadFrom g start rows next current old → g.finds old next None new
      → IsReadFrom g start (record { rows = rows; limits = limits; next = next; current = current; disk = new })
  all_read start old new rows next current limits are ends = record {
    packs = are.packs;
    last = old;
    finds = are.finds;
    ends = ends;
    rows = are.rows_are;
    next = are.next_is;
    current = are.current_is;
  }
