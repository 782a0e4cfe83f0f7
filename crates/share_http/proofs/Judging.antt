-- The reply to a path, by the verdict on it.
use Rattle.std.proofs.Common.{◌≡◌, ◌≤◌, ℕ, List, Bool, Option, Result, Ok, Err, IfOk, refl, sym, subst, arith}
use Rattle.std.specs.Prelude.{IfSome}
use Rattle.std.specs.Option.{ForSome}
use Rattle.std.specs.FinMap.{get}
use Rattle.blobref.specs.Blobref.{IsOwnRef}
use Rattle.edge_base.specs.Shelf.{Blobs, GetCause}
use Rattle.edge_base.specs.declared.answers.GetFault.{GetFault}
use Rattle.edge_base.specs.declared.answers.GetFault.TheVariants as getting
use Rattle.edge_base.specs.declared.shelf.Shelf.{Ghosts}
use Rattle.answer_text.specs.declared.refusal.Refusal.TheVariants as refusal
use Rattle.share_model.specs.declared.verdict.Rule.{Rule}
use Rattle.share_model.specs.declared.verdict.Verdict.{Verdict}
use Rattle.share_model.specs.declared.verdict.Verdict.TheVariants.{Served, Absent, Denied}
use Rattle.share_http.specs.declared.asking.Question.TheVariants as question
use Rattle.share_http.specs.declared.entries.ShareTold.{ShareTold}
use Rattle.share_http.specs.declared.entries.ShareTold.TheVariants.{Defined}
use Rattle.share_http.specs.declared.replies.ReplyText.{ReplyText}
use Rattle.share_http.specs.declared.replies.ReplyText.TheVariants as made
use Rattle.share_http.specs.Answers.{Judge, IsFetchReply, IsReplied, IsTold, IsVerdictReply, FetchMade, denied_reply}
use Rattle.share_http.specs.Answers.{looks_by, share_refusal, entry_of, text_of}
use Rattle.share_http.specs.Handling.{Answers}
use Rattle.share_http.specs.Serving.{Fetched, with_fault}

-- a text that was made, or for which there was no memory
pub told_replied : (text : List ℕ) (m : ReplyText) → IsTold Defined text m → IsReplied text (entry_of m) (text_of m)
told_replied text made.Memory is = refl
told_replied text (made.Told entry reply) is =
    subst (λ (t : ShareTold). IsReplied text t (text_of (made.Told entry reply))) (sym is.0) is.1

-- it is no failure of the shelf
pub told_counted : (n : ℕ) (text : List ℕ) (m : ReplyText) → IsTold Defined text m → with_fault n (entry_of m) ≤ n
told_counted n text made.Memory is = let le : n ≤ n = omega arith in le
told_counted n text (made.Told entry reply) is =
    let le : n ≤ n = omega arith in subst (λ (t : ShareTold). with_fault n t ≤ n) (sym is.0) le

-- the reply to what was fetched
fetch_replied : (told : Option Blobs) (before now : ℕ) (closes : Bool) (r : List ℕ)
    (fetched : Result (Option (List ℕ)) GetFault) (m : ReplyText)
    → IfOk fetched (λ found. ForSome told (λ held. found ≡ get held r))
    → IfOk fetched (λ found. IfSome found (IsOwnRef r)) → GetCause told before now r fetched
    → FetchMade closes r fetched m → IsFetchReply told closes r (entry_of m) (text_of m)
fetch_replied told before now closes r (Ok found) made.Memory at own cause is = refl
fetch_replied told before now closes r (Ok found) (made.Told entry reply) at own cause is =
    subst (λ (t : ShareTold). IsFetchReply told closes r t (text_of (made.Told entry reply))) (sym is.0)
    (found, at, own, is.1)
fetch_replied told before now closes r (Err getting.Disk) made.Memory at own cause is = refl
fetch_replied told before now closes r (Err getting.Disk) (made.Told entry reply) at own cause is =
    subst (λ (t : ShareTold). IsFetchReply told closes r t (text_of (made.Told entry reply))) (sym is.0) is.1
fetch_replied told before now closes r (Err (getting.Damaged want was)) made.Memory at own cause is = refl
fetch_replied told before now closes r (Err (getting.Damaged want was)) (made.Told entry reply) at own cause is =
    subst (λ (t : ShareTold). IsFetchReply told closes r t (text_of (made.Told entry reply))) (sym is.0)
    (cause.0, cause.1, cause.2, is.1)
fetch_replied told before now closes r (Err getting.NoMemory) m at own cause is =
    subst (λ (z : ReplyText). IsFetchReply told closes r (entry_of z) (text_of z)) (sym is) refl

-- the shelf's failure is counted
fetch_counted : (told : Option Blobs) (before now : ℕ) (closes : Bool) (r : List ℕ)
    (fetched : Result (Option (List ℕ)) GetFault) (m : ReplyText) → GetCause told before now r fetched
    → before ≤ now → FetchMade closes r fetched m → with_fault before (entry_of m) ≤ now
fetch_counted told before now closes r (Ok found) made.Memory cause later is = later
fetch_counted told before now closes r (Ok found) (made.Told entry reply) cause later is =
    subst (λ (t : ShareTold). with_fault before t ≤ now) (sym is.0) later
fetch_counted told before now closes r (Err getting.Disk) made.Memory cause later is = later
fetch_counted told before now closes r (Err getting.Disk) (made.Told entry reply) cause later is =
    subst (λ (t : ShareTold). with_fault before t ≤ now) (sym is.0) cause
fetch_counted told before now closes r (Err (getting.Damaged want was)) made.Memory cause later is = later
fetch_counted told before now closes r (Err (getting.Damaged want was)) (made.Told entry reply) cause later is =
    subst (λ (t : ShareTold). with_fault before t ≤ now) (sym is.0) later
fetch_counted told before now closes r (Err getting.NoMemory) m cause later is =
    subst (λ (z : ReplyText). with_fault before (entry_of z) ≤ now) (sym is) later

module _ {B : Type 0} (g : Ghosts B) (judge : Judge) (shelf : B) (closes : Bool) (r : List ℕ) (via : List (List ℕ))
    (m : ReplyText) where
  pub denied_answers : (rule : Rule) → Denied rule ≡ judge r via → IsTold Defined (denied_reply closes rule) m
      → Answers g judge shelf shelf closes (question.Path r via) m
  denied_answers rule verdict is = record {
    is = subst (λ (v : Verdict). IsVerdictReply (g.content shelf) closes r v (entry_of m) (text_of m)) verdict
        (told_replied (denied_reply closes rule) m is);
    fetched = subst (λ (v : Verdict). Fetched g shelf (looks_by v r) shelf) verdict refl;
    counted = told_counted (g.faults shelf) (denied_reply closes rule) m is;
  }

  pub absent_answers : Absent ≡ judge r via → IsTold Defined (share_refusal closes (refusal.Absent r)) m
      → Answers g judge shelf shelf closes (question.Path r via) m
  absent_answers verdict is = record {
    is = subst (λ (v : Verdict). IsVerdictReply (g.content shelf) closes r v (entry_of m) (text_of m)) verdict
        (told_replied (share_refusal closes (refusal.Absent r)) m is);
    fetched = subst (λ (v : Verdict). Fetched g shelf (looks_by v r) shelf) verdict refl;
    counted = told_counted (g.faults shelf) (share_refusal closes (refusal.Absent r)) m is;
  }

  pub served_answers : (left : B) (fetched : Result (Option (List ℕ)) GetFault) → Served ≡ judge r via
      → IfOk fetched (λ found. ForSome (g.content shelf) (λ held. found ≡ get held r))
      → IfOk fetched (λ found. IfSome found (IsOwnRef r))
      → GetCause (g.content shelf) (g.faults shelf) (g.faults left) r fetched → g.faults shelf ≤ g.faults left
      → g.fetches shelf r fetched left → FetchMade closes r fetched m
      → Answers g judge shelf left closes (question.Path r via) m
  served_answers left fetched verdict at own cause later fetches is = record {
    is = subst (λ (v : Verdict). IsVerdictReply (g.content shelf) closes r v (entry_of m) (text_of m)) verdict
        (fetch_replied (g.content shelf) (g.faults shelf) (g.faults left) closes r fetched m at own cause is);
    fetched = subst (λ (v : Verdict). Fetched g shelf (looks_by v r) left) verdict (fetched, left, fetches, refl);
    counted = fetch_counted (g.content shelf) (g.faults shelf) (g.faults left) closes r fetched m cause later is;
  }
