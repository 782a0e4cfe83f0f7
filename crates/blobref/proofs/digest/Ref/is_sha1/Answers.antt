use Rattle.std.proofs.Common.{◌∷◌, ap, ◌∙◌, nat_eq}
use Rattle.std.specs.List.{starts_with}
use Rattle.blobref.specs.Blobref.{sha1_name}
use Rattle.blobref.proofs.Spelled.{first_tells}
use Rattle.blobref.proofs.digest.Ref.is_sha1.Goals as goal

pub returns : goal.returns
returns c =
    first_tells (c.self.inside.name ∷ c.self.inside.digest) c.self.invariant ∙ ap (λ r. starts_with nat_eq r sha1_name) c.self.view_is
