use Rattle.std.proofs.Common.{[], ◌∷◌, ◌++◌, None, drop, arith, ap, ◌∙◌}
use Rattle.perkeep_words.specs.Parts.{start, parts_from}
use Rattle.perkeep_words.specs.Forms.{texts_at}
use Rattle.perkeep_words.proofs.Addresses.{one_more}
use Rattle.perkeep_words.proofs.mirroring.addresses_in.Goals as goal

pub addresses-preserved : goal.addresses-preserved
addresses-preserved c =
    let texts = texts_at None (parts_from start c.args.behind.now) in
    one_more c.addresses.addresses texts (drop 1 texts) c.push.new.self c.addresses.place
    (omega (arith, c.addresses-test.true, c.count-place-end.ensures, c.addresses.auto.place-end))
    c.addresses.invariant
    (c.in_ok-push.ensures.ok
    ∙ ap (λ t. c.addresses.addresses ++ t ∷ []) (c.in_ok-copy.ensures ∙ c.position.ensures))
