-- With each byte what it stands for is written, by the next number.
use Rattle.std.proofs.Common.{◌≡◌, ◌∙◌, ◌+◌, ◌++◌, [], sym, ap, refl, pos, length, get_or, drop, arith}
use Rattle.writing.proofs.Putting.{kept, more, wider, same_text, looked, unwritten}
use Rattle.template.specs.Template.{stands_for, taken, filled, width, widths}
use Rattle.template.proofs.TemplateLaws.{takes, widths_from, filled_more, filled-whole}
use Rattle.template.proofs.fill.Goals as goal
use Rattle.template.proofs.fill.Goals.{then-is_mark, else-is_mark}

pub loop-b-init : goal.loop-b-init
loop-b-init c = record {
  few = omega arith;
  spent = 0;
  text = [];
  written = unwritten c.args.line.now c.args.at (omega (arith, c.requires.0));
  room = omega arith;
  whole = refl;
}

pub put_part-place-requires : goal.put_part-place-requires
put_part-place-requires c =
    let l = c.loop-b in
    let w = l.invariant.written in
    omega (arith, w.most, kept w, l.invariant.room, widths_from c.args.template.now l.b-index (omega arith), c.requires.0)

pub loop-b-preserved : goal.loop-b-preserved
loop-b-preserved c =
    let l = c.loop-b in
    let a = c.args in
    let v = l.invariant in
    let b = get_or a.template.now l.b-index 0 in
    let from = widths_from a.template.now l.b-index (omega arith) in
    let longer = v.text ++ stands_for b (get_or a.numbers.now l.next (pos 0)) in
    let part = looked (stands_for b) c.number_at.type_inv c.number_at.ensures.answer c.put_part-place.ensures.written in
    let next : l.next + taken b ≡ c.if-is_mark.next = elim c.if-is_mark.branch [
      | then-is_mark w ↦ omega (arith, takes b (sym c.is_mark.ensures.answer ∙ w.if-is_mark.true), w.next-is)
      | else-is_mark w ↦ omega (arith, takes b (sym c.is_mark.ensures.answer ∙ w.if-is_mark.false), w.next-is)
    ] in
    record {
      few = elim c.if-is_mark.branch [ then-is_mark w ↦ omega (arith, w.next-is, v.few) | else-is_mark w ↦ omega (arith, w.next-is, v.few) ];
      spent = v.spent + width b;
      text = longer;
      written = more v.written part (omega (arith, v.room, from, c.requires.0));
      room = omega (arith, v.room, from);
      whole =
          ap (λ k. longer ++ filled (drop (l.b-index + 1) a.template.now) (drop k a.numbers.now)) (sym next)
          ∙ filled_more a.template.now l.b-index (omega arith) a.numbers.now l.next v.text v.whole;
    }

pub returns : goal.returns
returns c =
    let l = c.loop-b in
    let a = c.args in
    let v = l.invariant in
    let end : l.b-index ≡ length a.template.now = omega arith in
    record {
      written = same_text (filled-whole a.template.now (drop l.next a.numbers.now) l.b-index v.text end v.whole)
          (wider (widths a.template.now) (omega (arith, v.room)) v.written);
    }
