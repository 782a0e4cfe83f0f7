use Rattle.std.proofs.Common.{rules}
use Rattle.form_urlencoded.specs.Form.{raw_pairs}
use Rattle.blob_routes.proofs.Gathering.{gathered_in}
use Rattle.blob_routes.proofs.places.places_of.Goals as goal

pub returns : goal.returns
returns c =
    gathered_in c.args.most c.in_ok-places.places.len c.deref_mut.result.now c.in_ok-places.places.items
    c.take_all.new.places (raw_pairs c.args.text.now) c.requires
    (search rules) (search rules) (search rules) c.in_ok-take_all.ensures
