-- Heads of replies, as they are written.
use Rattle.std.specs.Prelude.{ℕ, Bool, List, [], ◌∷◌, ◌++◌, codes, if◌then◌else◌}
use Rattle.std.specs.Option.{unwrap_or}
use Rattle.std.specs.Fmt.{decimal}
use Rattle.http.specs.StatusCode.{reason_phrase}

abbrev pub line_end : List ℕ
line_end = 13 ∷ 10 ∷ []

abbrev pub phrase_of : ℕ → List ℕ
phrase_of code = unwrap_or (reason_phrase code) []

abbrev pub status_line : ℕ → List ℕ
status_line code = codes "HTTP/1.1 " ++ decimal code ++ codes " " ++ phrase_of code ++ line_end

abbrev pub header_line : List ℕ → List ℕ → List ℕ
header_line name value = name ++ value ++ line_end

-- the methods of a route, where there are some to tell
abbrev pub allow_line : List ℕ → List ℕ
allow_line [] = []
allow_line (b ∷ bytes) = header_line (codes "Allow: ") (b ∷ bytes)

abbrev pub close_line : Bool → List ℕ
close_line closes = if closes then header_line (codes "Connection: ") (codes "close") else []

unfoldable pub reply_head_text : ℕ → List ℕ → ℕ → Bool → List ℕ → List ℕ
reply_head_text code kind len closes allow =
    status_line code ++ header_line (codes "Content-Type: ") kind ++ header_line (codes "Content-Length: ") (decimal len)
    ++ allow_line allow ++ close_line closes ++ line_end
