use Rattle.std.proofs.Common.{◌≡◌, ◌∙◌, Option, Some, None, option_map, refl, sym, ap}
use Rattle.search_query.specs.View.{view}
use Rattle.search_query.specs.declared.query.Constraint.{Constraint}
use Rattle.search_words.specs.Lines.{line_asks}
use Rattle.search_words.proofs.LineSound.{reading_line}
use Rattle.search_words.proofs.Walking.{ends_short}
use Rattle.words_read.specs.Seen.{seen}
use Rattle.words_read.proofs.reading.read_short.Goals as goal

pub returns-in-Some-clause-read : goal.returns-in-Some-clause-read
returns-in-Some-clause-read c =
    let asks : Some (view c.in-Some.constraint) ≡ line_asks (seen c.in_ok-reader.reader) =
    ap (λ (o : Option Constraint). option_map view o) (sym c.in-Some.is) ∙ c.in_ok-constraint.ensures in
    reading_line c.args.text.now (view c.in-Some.constraint) (ap line_asks (sym c.in_ok-reader.ensures.read) ∙ sym asks)

pub returns-in-None-clause-refused : goal.returns-in-None-clause-refused
returns-in-None-clause-refused c =
    let asks : None ≡ line_asks (seen c.in_ok-reader.reader) =
    ap (λ (o : Option Constraint). option_map view o) (sym c.in-None.is) ∙ c.in_ok-constraint.ensures in
    ends_short c.args.text.now (seen c.in_ok-reader.reader) c.utf8.text c.in_ok-reader.ensures.read refl (sym asks)
