use Rattle.std.proofs.Common.{ap, ◌∙◌}
use Rattle.pack_store.specs.Adding.{AddsRecord}
use Rattle.pack_store.specs.Archive.{is_filled, needs_pack}
use Rattle.pack_store.specs.Putting.{target, fill}
use Rattle.pack_store.proofs.LastPack.{goes_behind, next_behind, arrives_last, ends_current, ends_next, told_both}
use Rattle.pack_store.proofs.Still.{still_itself, still_then}
use Rattle.pack_store.proofs.opened_laws.puts_last.Goals as goal

pub returns : goal.returns
returns g c = record {
  arrived = λ s held now r bytes on own small none added.
      arrives_last held now (target s) (fill s) r bytes (goes_behind held s.next s.current (needs_pack s) on.next on.current (ap (is_filled s.limits.pack_bytes))) own small none added;
  goes_on = λ old new held now r bytes on own small before after stores.
      let added = told_both _ _ (AddsRecord (target old) r bytes) held now before after stores.added in
      let behind = goes_behind held old.next old.current (needs_pack old) on.next on.current (ap (is_filled old.limits.pack_bytes)) in
      record {
        next = ap (λ s. s.next) stores.value ∙ next_behind held old.next old.current (needs_pack old) on.next on.current (ap (is_filled old.limits.pack_bytes)) ∙ ends_next held now (target old) (fill old) r bytes behind added;
        current = ap (λ s. s.current) stores.value ∙ ends_current held now (target old) (fill old) r bytes behind own small added;
      };
  opened = λ disk limits s held opened is. record { next = opened.next held is; current = opened.current held is };
  still = λ old new held stays on. record { next = ap (λ s. s.next) stays.value ∙ on.next; current = ap (λ s. s.current) stays.value ∙ on.current };
  still_itself = λ s. still_itself g.D.Disk g.met.D.Disk.counts_now g.met.D.Disk.only_now s;
  still_joined = λ old middle new first second. still_then g.D.Disk g.met.D.Disk.counts_now g.met.D.Disk.only_now old middle new first second;
}
