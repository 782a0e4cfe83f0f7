-- A pack that was read in pieces.
use Rattle.std.proofs.Common.{◌≡◌, ◌+◌, ◌≤◌, ◌<◌, ℕ, List, [], ◌++◌, length, map, Option, Some, refl, sym, ◌∙◌, ap, subst, arith, length-append, append_assoc}
use Rattle.std.proofs.lemmas.List.{append-nil, take_all}
use Rattle.std.proofs.Math.Seq.{take-add}
use Rattle.std.proofs.lemmas.List.Elements.{All-append, All-nil}
use Rattle.std.specs.Option.{ForSome}
use Rattle.std.specs.Prelude.{IsSome}
use Rattle.std.specs.FinMap.{get}
use Rattle.salvage_scan.specs.declared.found.Clean.TheVariants as clean
use Rattle.salvage_scan.specs.declared.found.Found.{Found}
use Rattle.salvage_scan.specs.Salvage.{Finding, salvage, broken_past}
use Rattle.salvage_scan.specs.Scan.{joined}
use Rattle.salvage_scan.specs.Pieces.{Scanning, fresh, still_found, still_clean, kept_finding, Keeps, Tells, Ends}
use Rattle.salvage_scan.proofs.Cutting.{fed_kept, findings_told, findings_end}
use Rattle.pack_disk.specs.Packs.{Packs}
use Rattle.pack_store.specs.declared.pieces.Taken.{Taken}
use Rattle.pack_store.specs.declared.takers.Taker.{Ghosts}
use Rattle.pack_store.specs.Taking.{Feeds, TookPiece, TookFront, EndsPack, TookPack}
use Rattle.pack_store.proofs.Buffers.{some_bytes}

module _ {T : Type 0} (g : Ghosts T) where
  -- what a piece tells was taken up
  pub feeds : (old new : Scanning) (piece : List ℕ) (told handed : List Found) (before now : T) → Tells old piece told new → Keeps old piece new → handed ≡ told
      → g.takes before (map (kept_finding new) handed) now → Feeds g old piece new before now
  feeds old new piece told handed before now tells keeps same took = record {
    told = told;
    tells = tells;
    took = subst (λ fs. g.takes before fs now) (ap (map (kept_finding new)) same ∙ findings_told old new piece told tells keeps) took;
    counts = fed_kept old new piece keeps;
  }

  -- and what is told at the end
  pub end_told : (old new : Scanning) (told handed : List Found) (before now : T) (taken : Taken) (size : ℕ) → Ends old (told, taken.clean) → Keeps old [] new → handed ≡ told
      → g.takes before (map (kept_finding new) handed) now → taken.size ≡ size → EndsPack g old size before now taken
  end_told old new told handed before now taken size ends keeps same took size_is = record {
    took = subst (λ fs. g.takes before fs now) (ap (map (kept_finding new)) same ∙ findings_end old new told ends.0 keeps) took;
    clean_is = ends.1;
    size_is = size_is;
  }

  module _ (nothing : (t : T) → g.ready t → g.takes t [] t) (then : (a b c : T) (xs ys : List Finding) → g.takes a xs b → g.takes b ys c → g.takes a (xs ++ ys) c) where
    -- nothing was read
    pub front_none : (told : Option Packs) (Gave : List ℕ → Type 0) (pack : ℕ) (s : Scanning) (t : T) → Gave [] → s ≡ fresh → g.ready t → TookFront g told Gave pack 0 s t t
    front_none told Gave pack s t gave is ready = subst (λ s. TookFront g told Gave pack 0 s t t) (sym is) (record {
      front = [];
      octets = All-nil (λ (b : ℕ). b < 256);
      long = refl;
      gave = gave;
      counts = refl;
      found = [];
      finds = λ more. refl;
      breaks = λ more. refl;
      took = nothing t ready;
      there = λ held is bytes at. refl;
    })

    -- and a piece more
    pub front_more : (told : Option Packs) (First More Both : List ℕ → Type 0) (pack at room count : ℕ) (old new : Scanning) (before mid now : T)
        → ((front piece : List ℕ) → length front ≡ at → length piece ≡ count → First front → More piece → Both (front ++ piece))
        → TookFront g told First pack at old before mid → TookPiece g told More pack at room count old new mid now → TookFront g told Both pack (at + count) new before now
    front_more told First More Both pack at room count old new before mid now both first more = record {
      front = first.front ++ more.piece;
      octets = All-append (λ (b : ℕ). b < 256) first.front more.piece first.octets more.octets;
      long = omega (arith, length-append first.front more.piece, first.long, more.long);
      gave = both first.front more.piece first.long more.long first.gave more.gave;
      counts = omega (arith, more.feeds.counts, first.counts, more.long);
      found = first.found ++ more.feeds.tells.found;
      finds = λ rest. ap (still_found fresh) (append_assoc first.front more.piece rest) ∙ first.finds (more.piece ++ rest) ∙ ap (λ l. first.found ++ l) (more.feeds.tells.finds rest)
          ∙ sym (append_assoc first.found more.feeds.tells.found (still_found new rest));
      breaks = λ rest. ap (still_clean fresh) (append_assoc first.front more.piece rest) ∙ first.breaks (more.piece ++ rest) ∙ more.feeds.tells.breaks rest;
      took = then before mid now first.found more.feeds.tells.found first.took more.feeds.took;
      there = λ held is bytes here. (λ i. first.there held is bytes here i ++ (more.there held is bytes here).1 i) ∙ sym (take-add at count bytes);
    }

    -- the whole pack
    pub front_whole : (told : Option Packs) (Gave All : List ℕ → Type 0) (pack at : ℕ) (s : Scanning) (before mid now : T) (taken : Taken) → ((front : List ℕ) → length front ≡ at → Gave front → All front)
        → TookFront g told Gave pack at s before mid → EndsPack g s at mid now taken
        → ForSome told (λ held. IsSome (get held pack)) → ForSome told (λ held. (bytes : List ℕ) → get held pack ≡ Some bytes → length bytes ≤ at) → TookPack g told All pack before now taken
    front_whole told Gave All pack at s before mid now taken whole took rest some all = record {
      bytes = took.front;
      octets = took.octets;
      gave = whole took.front took.long took.gave;
      took = subst (λ fs. g.takes before fs now) (sym (took.finds []) ∙ ap salvage (append-nil took.front))
          (then before mid now took.found (still_found s []) took.took rest.took);
      clean_is = rest.clean_is ∙ sym (took.breaks []) ∙ ap (λ l. joined clean.Yes (broken_past 0 0 l)) (append-nil took.front);
      size_is = rest.size_is ∙ sym took.long;
      there = λ held is.
          let pack_bytes = some_bytes (get held pack) (some held is) in
          let same : took.front ≡ pack_bytes.0 = took.there held is pack_bytes.0 pack_bytes.1 ∙ take_all at pack_bytes.0 (all held is pack_bytes.0 pack_bytes.1) in
          pack_bytes.1 ∙ ap Some (sym same);
    }

  -- the same of a disk that tells the same
  pub took_told : (told other : Option Packs) (Gave : List ℕ → Type 0) (pack at room count : ℕ) (old new : Scanning) (before now : T) → told ≡ other → TookPiece g told Gave pack at room count old new before now
      → TookPiece g other Gave pack at room count old new before now
  took_told told other Gave pack at room count old new before now is took = subst (λ t. TookPiece g t Gave pack at room count old new before now) is took
