use Rattle.std.proofs.Common.{◌∷◌, [], List, ap, sym, subst, ◌∙◌}
use Rattle.multipart_read.specs.Tokens.{Token, named, content, tokens_in}
use Rattle.blob_upload.specs.Taking.{Takes}
use Rattle.blob_upload.proofs.Telling.{name_takes, content_takes, end_takes}
use Rattle.blob_upload.proofs.parts.take_event.Goals as goal

pub returns-in-Name-clause-takes : goal.returns-in-Name-clause-takes
returns-in-Name-clause-takes g c =
    let v = g.H.Home.sight c.args.pass.now in
    let k = c.args.kept.now in
    let P : List Token → Type 0 = λ ts. Takes ts c.args.opened.now c.open.new.opened k k v v c.open.result in
    subst P (ap (λ n. named n ∷ []) c.as_slice.ensures ∙ sym (ap tokens_in c.in-Name.is))
    (name_takes c.as_slice.result.now _ c.open.new.opened k v c.open.result c.open.ensures.ok c.open.ensures.err)

pub returns-in-Content-clause-takes : goal.returns-in-Content-clause-takes
returns-in-Content-clause-takes g c =
    let v = g.H.Home.sight c.args.pass.now in
    let k = c.args.kept.now in
    let P : List Token → Type 0 = λ ts. Takes ts c.args.opened.now c.extend.new.opened k k v v c.extend.result in
    subst P (ap content c.as_slice-in-Content.ensures ∙ sym (ap tokens_in c.in-Content.is))
    (content_takes c.as_slice-in-Content.result.now c.args.opened.now c.extend.new.opened k v c.extend.result
    c.extend.ensures.ok c.extend.ensures.err)

pub returns-in-PartEnd-clause-takes : goal.returns-in-PartEnd-clause-takes
returns-in-PartEnd-clause-takes g c =
    let v = g.H.Home.sight c.args.pass.now in
    let w = g.H.Home.sight c.close.new.pass in
    let k = c.args.kept.now in
    let P : List Token → Type 0 = λ ts.
    Takes ts c.args.opened.now c.close.new.opened k c.close.new.kept v w c.close.result in
    subst P (sym (ap tokens_in c.in-PartEnd.is))
    (end_takes c.args.opened.now c.close.new.opened k c.close.new.kept v w c.close.result c.close.ensures.closed
    c.close.ensures.puts)
