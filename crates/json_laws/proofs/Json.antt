-- Reading a value from bytes that may be no text.
use Rattle.std.proofs.Common.{◌≡◌, ℕ, List, Some, None, refl, sym, ◌∙◌}
use Rattle.std.proofs.lemmas.Bool.{cond-true, cond_both}
use Rattle.std.proofs.lemmas.Str.{is_utf8-from_IsUtf8, IsUtf8-from_is_utf8}
use Rattle.std.specs.Str.{IsUtf8, is_utf8}
use Rattle.serde_json.specs.Data.{Data}
use Rattle.serde_json.specs.Read.{read}
use Rattle.json_laws.specs.Json.{json_in}

pub json_in-text : (bytes : List ℕ) (d : Data) → IsUtf8 bytes → read bytes ≡ Some d → Some d ≡ json_in bytes
json_in-text bytes d text is = sym (cond-true (is_utf8 bytes) (read bytes) None (is_utf8-from_IsUtf8 bytes text) ∙ is)

pub json_in-none : (bytes : List ℕ) → (IsUtf8 bytes → read bytes ≡ None) → None ≡ json_in bytes
json_in-none bytes h = cond_both (is_utf8 bytes) (read bytes) None (λ o. None ≡ o) (λ text. sym (h (IsUtf8-from_is_utf8 bytes text))) (λ _. refl)
