use Rattle.std.proofs.Common.{ℕ, List, ◌≡◌, ◌+◌, ◌-◌, ◌==◌, length, drop, sym, ◌∙◌, ap, subst, arith}
use Rattle.std.specs.List.{position_or_len}
use Rattle.std.proofs.lemmas.List.{length-take, length-drop}
use Rattle.multipart_read.specs.declared.marks.Sight.{Sight}
use Rattle.multipart_read.specs.declared.marks.Mark.TheVariants.{Undecided}
use Rattle.multipart_read.specs.Marks.{first_mark, mark_from, Lies}
use Rattle.multipart_read.proofs.Cuts.{first_mark-lies}
use Rattle.multipart_read.proofs.Looking.{pass_first, pass_step, stops, ends, from_place}
use Rattle.multipart_read.proofs.marks.first_mark.Goals as goal

pub places-init : goal.places-init
places-init c = record {
  within = c.before_return-at.ensures.within;
  same = pass_first c.args.start.now c.args.bytes.now c.before_return-at.result c.requires.some c.requires.starts c.before_return-at.ensures.value;
}

pub places-preserved : goal.places-preserved
places-preserved c = record {
  within = omega (arith, c.before_return.ensures.within, length-take (length c.args.bytes.now - (c.places.at + 1)) (drop (c.places.at + 1) c.args.bytes.now), length-drop (c.places.at + 1) c.args.bytes.now);
  same = pass_step c.args.start.now c.args.bytes.now c.places.at c.before_return.result c.requires.some c.requires.starts (omega arith)
      (sym c.in-Absent.is ∙ c.mark_at.ensures ∙ ap (mark_from 0 c.args.start.now) (from_place c.args.bytes.now c.places.at))
      (c.before_return.ensures.value ∙ ap (position_or_len (λ x. x == 13)) (from_place c.args.bytes.now (c.places.at + 1))) c.places.invariant.same;
}

value_there : (start bytes : List ℕ) (s : Sight) → s ≡ first_mark start bytes → Lies (length start + 17) (length bytes) s.sure s.mark
value_there start bytes s is =
    let P : Sight → Type 0 = λ s. Lies (length start + 17) (length bytes) s.sure s.mark in
    subst P (sym is) (first_mark-lies start bytes)

pub returns-in_default : goal.returns-in_default
returns-in_default c =
    let value = stops c.args.start.now c.args.bytes.now c.places.at c.mark_at.result (omega arith)
    (c.mark_at.ensures ∙ ap (mark_from 0 c.args.start.now) (from_place c.args.bytes.now c.places.at)) c.in_default.not-Absent c.places.invariant.same in
    record { value = value; lies = value_there c.args.start.now c.args.bytes.now (record { sure = c.places.at; mark = c.mark_at.result }) value }

pub returns : goal.returns
returns c =
    let value = ends c.args.start.now c.args.bytes.now c.places.at c.places.invariant.within (omega arith) c.places.invariant.same in
    record { value = value; lies = value_there c.args.start.now c.args.bytes.now (record { sure = length c.args.bytes.now; mark = Undecided }) value }
