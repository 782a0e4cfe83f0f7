-- What a contract sees of the options of a form.
use Rattle.std.specs.Prelude.{List, map}
use Rattle.perkeep_words.specs.Forms as forms
use Rattle.perkeep_words.specs.declared.forms.OptionForm.{OptionForm}

abbrev pub option_seen : OptionForm → forms.OptionForm
option_seen o = record { name = o.name.now; kind = o.kind; needed = o.needed }

abbrev pub options_seen : List OptionForm → List forms.OptionForm
options_seen options = map option_seen options
