use Rattle.std.proofs.Common.{◌≡◌, ◌++◌, ◌∙◌, ap, map}
use Rattle.salvage_scan.specs.Salvage.{salvage}
use Rattle.salvage_scan.specs.Scan.{place_of}
use Rattle.pack_store.proofs.whole.scan_pack.Goals as goal

pub returns-clause-scanned : goal.returns-clause-scanned
returns-clause-scanned g c =
    let took = c.in_ok-taken.ensures.took in
    let found : c.take_pieces.new.taker ≡ map place_of (salvage took.bytes) = took.took ∙ ap (λ l. l ++ map place_of (salvage took.bytes)) c.empty-found.ensures in
    record {
      bytes = took.bytes;
      octets = took.octets;
      is = (λ i. record { found = found i; clean = took.clean_is i; size = took.size_is i });
      there = took.there;
    }
