-- When a blob is refused by its size or its digest alone.
use Rattle.std.specs.Prelude.{ℕ, List, length, Option, Some, None, if◌then◌else◌, not, nat_lt}
use Rattle.blobref.specs.Blobref.{is_own_ref, ref_like}
use Rattle.edge_base.specs.declared.answers.PutFault.{PutFault}
use Rattle.edge_base.specs.declared.answers.PutFault.TheVariants.{TooBig, BadDigest}
use Rattle.pack_format.specs.Header.{max_size}

-- more bytes than a blob may have, or another ref than the said one, under the digest that this one names
abbrev pub put_refused : List ℕ → List ℕ → Option PutFault
put_refused said bytes =
    if nat_lt max_size (length bytes) then Some (TooBig (length bytes))
    else if not (is_own_ref said bytes) then Some (BadDigest said (ref_like said bytes))
    else None
