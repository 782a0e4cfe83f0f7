use Rattle.std.proofs.Common.{◌≡◌, ◌<◌, ◌∙◌, ap, slice_index, rules}
use Rattle.std.proofs.lemmas.List.{take_rest}
use Rattle.salvage_scan.specs.Pieces.{seen}
use Rattle.salvage_scan.proofs.Looked.{seen_there}
use Rattle.salvage_scan.proofs.scanning.next_front.Goals as goal

pub returns-then-lookout-next-clause-front : goal.returns-then-lookout-next-clause-front
returns-then-lookout-next-clause-front c =
    let old = c.args.lookout.now in
    let below : old.next < old.records.count = search rules in
    let here : slice_index old.records.places old.next ≡ c.args.at = search rules in
    c.known_front.ensures ∙ seen_there c.args.last c.args.bytes.now old.records old.next c.args.at c.requires.known below here

pub returns-else-next-lookout-clause-front : goal.returns-else-next-lookout-clause-front
returns-else-next-lookout-clause-front c = c.front_at.ensures ∙ ap (seen c.args.last) (take_rest c.args.bytes.now c.args.at)
