use Rattle.std.proofs.Common.{◌≡◌, ℕ, true, List, subst, sym}
use Rattle.blobref.specs.Blobref.{is_blobref}
use Rattle.row_answers.proofs.Texts.{blobref_utf8}
use Rattle.row_answers.proofs.answers.parents.Goals as goal

pub as_text-requires : goal.as_text-requires
as_text-requires g c =
    blobref_utf8 c.as_slice-text.result.now
    (subst (λ (r : List ℕ). is_blobref r ≡ true) (sym c.as_slice-text.ensures.text) c.spell-text.ensures.form)
