-- Steps within a word.
use Rattle.std.specs.Prelude.{◌≡◌, ℕ, Some, None}
use Rattle.search_words.specs.declared.word.Onward.{Onward}
use Rattle.search_words.specs.declared.word.Onward.TheVariants.{On, Off}
use Rattle.search_words.specs.Words.{Place, word_step}

abbrev pub Moves : Place → ℕ → Onward → Type 0
Moves p x (On q) = word_step p x ≡ Some q
Moves p x (Off q) = (word_step p x ≡ None) × (q ≡ p)
