use Rattle.std.proofs.Common.{◌||◌, sym, ap, subst, ◌∙◌}
use Rattle.share_http.specs.declared.entries.ShareTold.TheVariants.{Defined}
use Rattle.share_http.specs.declared.replies.ReplyText.{ReplyText}
use Rattle.share_http.specs.Answers.{IsTold, share_refusal}
use Rattle.share_http.specs.Handling.{is_memory}
use Rattle.share_http.proofs.requests.refuse.Goals as goal

pub returns-clause-made : goal.returns-clause-made
returns-clause-made c =
    subst (λ (m : ReplyText). IsTold Defined (share_refusal c.args.closes c.args.refusal.now) m)
    (sym c.respond.ensures.made) c.refused.ensures

pub returns-clause-closes : goal.returns-clause-closes
returns-clause-closes c =
    c.respond.ensures.closes ∙ ap (λ (m : ReplyText). c.args.closes || is_memory m) (sym c.respond.ensures.made)
