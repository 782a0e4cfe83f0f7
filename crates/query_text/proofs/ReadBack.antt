-- The law of written queries.
use Rattle.std.proofs.Common.{◌≡◌, ◌∙◌, ℕ, List, true, Some, None, option_map, if◌then◌else◌, ap}
use Rattle.std.specs.Str.{is_utf8}
use Rattle.std.proofs.lemmas.Str.{is_utf8-from_IsUtf8}
use Rattle.serde_json.specs.Read.{read}
use Rattle.json_laws.proofs.Object.{object_read}
use Rattle.json_laws.specs.Json.{json_in}
use Rattle.search_query.specs.View.{Question}
use Rattle.query_read.specs.Values.{question_of}
use Rattle.query_read.specs.Reading.{asks_for, data_fault, first_fault}
use Rattle.query_text.specs.Text.{Spelling, present, question_fields, question_item, query_text}
use Rattle.query_text.specs.Laws.{QueriesAreRead}
use Rattle.query_text.proofs.Sound.{AreSound, values_read, sound_object, sound_question}
use Rattle.query_text.proofs.Back.{question_back}

pub queries_read : QueriesAreRead
queries_read spell spells q holds valid =
    let fs = question_fields spell q in
    let sound : AreSound 126 fs = sound_question 32 29 spell spells q holds valid.most valid.depth in
    let utf8 : is_utf8 (query_text spell q) ≡ true = is_utf8-from_IsUtf8 _ (sound_object 126 fs sound).1 in
    let reads : read (query_text spell q) ≡ Some (question_item spell q).value = object_read (present fs) (values_read 126 fs sound) in
    let json : json_in (query_text spell q) ≡ Some (question_item spell q).value = ap (λ b. if b then read (query_text spell q) else None) utf8 ∙ reads in
    let back = question_back 32 spell spells q holds valid.least valid.most valid.some valid.conditions valid.depth in
    ((ap data_fault json ∙ back.0), (ap (option_map (question_of 32)) json ∙ ap Some back.1))

-- the same of the text that was written
pub read_back : (spell : Spelling) (text : List ℕ) (q : Question) → text ≡ query_text spell q
    → (first_fault (query_text spell q) ≡ None) × (asks_for (query_text spell q) ≡ Some q) → (first_fault text ≡ None) × (asks_for text ≡ Some q)
read_back spell text q is reads = (ap first_fault is ∙ reads.0, ap asks_for is ∙ reads.1)
