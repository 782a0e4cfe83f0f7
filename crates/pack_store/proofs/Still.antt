-- A store stays sound where nothing was changed on its disk.
use Rattle.std.proofs.Common.{ℕ, ◌≤◌, List, Option, refl, sym, ◌∙◌}
use Rattle.std.specs.FinMap.{FinMap}
use Rattle.blobref.specs.Blobref.{ref_cmp}
use Rattle.pack_disk.specs.Packs.{Packs}
use Rattle.pack_disk.specs.declared.disk.Disk.{Ghosts}
use Rattle.pack_disk.specs.Runs.{Stays}
use Rattle.pack_store.specs.declared.limits.Limits.{Limits}
use Rattle.pack_store.specs.declared.rows.Row.{Row}
use Rattle.pack_store.specs.declared.rows.Current.{Current}
use Rattle.pack_store.specs.Archive.{Archive, IsSound}
use Rattle.pack_store.specs.Reading.{StaysStill}
use Rattle.pack_store.proofs.Moments.{stays_images, stays_itself, stays_then}

module _ {D : Type 0} (g : Ghosts D)
    (counts_now : (d : D) (t : ℕ) (image : Packs) → t ≤ g.moment d → g.images d image → g.images_since d t image)
    (only_now : (d : D) (image : Packs) → g.images_since d (g.moment d) image → g.images d image) where
  pub still_sound : (places : FinMap ref_cmp ℕ) (rows : List Row) (limits : Limits) (next : ℕ) (current : Option Current) (old new : D)
      → IsSound g places (record { rows = rows; limits = limits; next = next; current = current; disk = old }) → Stays g old new
      → IsSound g places (record { rows = rows; limits = limits; next = next; current = current; disk = new })
  still_sound places rows limits next current old new sound still =
      let fewer = stays_images g counts_now only_now old new still in
      record {
        limited = sound.limited;
        placed = sound.placed;
        blobs = sound.blobs;
        kept = λ held told k d lt. let row = sound.kept held (sym still.told ∙ told) k d lt in record { found = λ image is. row.found image (fewer image is); same = λ image is. row.same image (fewer image is) };
        last = sound.last;
        long = λ c is held told. sound.long c is held (sym still.told ∙ told);
        clean = λ c is image among. sound.clean c is image (fewer image among);
        unused = λ held told. sound.unused held (sym still.told ∙ told);
        numbered = sound.numbered;
      }

  -- reading again
  pub still_itself : (s : Archive D) → StaysStill g s s
  still_itself s = record { value = refl; stays = stays_itself g counts_now only_now s.disk }

  pub still_then : (a b c : Archive D) → StaysStill g a b → StaysStill g b c → StaysStill g a c
  still_then a b c first second = record {
    value = second.value ∙ (λ i. record { rows = (first.value i).rows; limits = (first.value i).limits; next = (first.value i).next; current = (first.value i).current; disk = c.disk });
    stays = stays_then g counts_now only_now a.disk b.disk c.disk first.stays second.stays;
  }
