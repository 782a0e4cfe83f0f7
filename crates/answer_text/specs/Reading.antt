-- What the texts of answers say, over what serde_json reads (docs/formats/answers.md).
use Rattle.std.specs.Prelude.{◌≡◌, ℕ, List, [], ◌∷◌, Option, Some, None, Result, Ok, Err, codes, option_and_then, option_map, if◌then◌else◌}
use Rattle.std.specs.FinMap.{is_sorted}
use Rattle.serde_json.specs.Data.{Data, Items, no_items, item}
use Rattle.serde_json.specs.Find.{get, as_str, as_array}
use Rattle.json_laws.specs.Json.{json_in, whole_in}
use Rattle.blobref.specs.Blobref.{blobref_in, ref_cmp}
use Rattle.answer_text.specs.declared.reading.AnswerFault.{AnswerFault}
use Rattle.answer_text.specs.declared.reading.AnswerFault.TheVariants.{BadReply, NoMemory}

-- the text under a key
abbrev pub text_at : List ℕ → Data → Option (List ℕ)
text_at key d = option_and_then as_str (get key d)

-- the ref under a key: a text that is a blobref
abbrev pub ref_at : List ℕ → Data → Option (List ℕ)
ref_at key d = option_and_then blobref_in (text_at key d)

-- the whole number under a key
abbrev pub whole_at : List ℕ → Data → Option ℕ
whole_at key d = option_and_then whole_in (get key d)

-- one blob: its ref and its size
abbrev pub entry_in : Data → Option (List ℕ × ℕ)
entry_in d = option_and_then (λ r. option_map (λ size. (r, size)) (whole_at (codes "size") d)) (ref_at (codes "blobRef") d)

-- a list of blobs, where each item is one
abbrev pub entries_of : Items → Option (List (List ℕ × ℕ))
entries_of no_items = Some []
entries_of (item d ds) = option_and_then (λ e. option_map (λ es. e ∷ es) (entries_of ds)) (entry_in d)

-- the list of blobs under a key
abbrev pub entries_at : List ℕ → Data → Option (List (List ℕ × ℕ))
entries_at key d = option_and_then entries_of (option_and_then as_array (get key d))

-- the ref after which a page goes on: a text has to stand there, if anything does, and one that is no ref names none
abbrev pub more_in : Option Data → Option (Option (List ℕ))
more_in None = Some None
more_in (Some d) = option_map blobref_in (as_str d)

-- these blobs and what is under `continueAfter`, where they are a page: the refs ascend, each once
abbrev pub page_with : Option Data → List (List ℕ × ℕ) → Option (List (List ℕ × ℕ) × Option (List ℕ))
page_with after es = if is_sorted ref_cmp es then option_map (λ (more : Option (List ℕ)). (es, more)) (more_in after) else None

-- the page that an object is
abbrev pub page_of : Data → Option (List (List ℕ × ℕ) × Option (List ℕ))
page_of d = option_and_then (page_with (get (codes "continueAfter") d)) (entries_at (codes "blobs") d)

-- the blobs of the page that a text is, and the ref after which it goes on
abbrev pub page_in : List ℕ → Option (List (List ℕ × ℕ) × Option (List ℕ))
page_in text = option_and_then page_of (json_in text)

-- the blobs that a text says were received, in its order
abbrev pub received_in : List ℕ → Option (List (List ℕ × ℕ))
received_in text = option_and_then (entries_at (codes "received")) (json_in text)

-- what a text says is told, and BadReply comes exactly where it says nothing; want of memory tells nothing
abbrev pub Tells : {T : Type 0} → Option T → Result T AnswerFault → Type 0
Tells said (Ok value) = said ≡ Some value
Tells said (Err BadReply) = said ≡ None
Tells said (Err NoMemory) = Unit {0}
