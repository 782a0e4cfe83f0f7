use Rattle.std.proofs.Common.{Some, Ok, sym, ap, ◌∙◌}
use Rattle.pack_store.specs.Finding.{bytes_found}
use Rattle.pack_store.proofs.StoreShelf.{content_fetched}
use Rattle.store_ahead.proofs.next.read_blob.Goals as goal

pub returns-in-Ok-Some-clause-stands : goal.returns-in-Ok-Some-clause-stands
returns-in-Ok-Some-clause-stands g c =
    record {
      arrived = λ none. absurd (cc (ap Ok (sym c.in-Ok-Some.field-0-is) ∙ sym c.in-Ok-Some.is ∙ c.find.ensures.none.1 none));
      bytes = content_fetched g.D.Disk c.args.store.now c.find.new.self c.args.r.now (Ok (Some c.in-Ok-Some.found.bytes))
          (λ held told. sym (ap bytes_found c.in-Ok-Some.field-0-is) ∙ c.in-Ok-Some.ensures.bytes held told);
    }
