-- `lines::register_lines`: with each turn one register's line is written. Assumes nothing.
use Rattle.std.proofs.Common.{◌≡◌, ◌∙◌, ◌+◌, ◌*◌, List, [], ℕ, ◌++◌, sym, ap, arith, append_assoc}
use mathlib.Core.List.{append-nil}
use Rattle.writing.proofs.Putting.{kept, more, wider, same_text, unwritten}
use Rattle.why_lines.specs.RegisterLine.{register_line, register_width}
use Rattle.why_lines.proofs.CheckLaws.{house_reason}
use Rattle.why_listing.proofs.LineLaws.{lines_from, lines_turn, lines-all, lines_end}
use Rattle.why_listing.proofs.lines.register_lines.Goals as goal

pub loop-i-init : goal.loop-i-init
loop-i-init c =
    let a = c.args in
    record { text = []; written = unwritten a.line.now a.at (omega arith); rest = lines-all (house_reason a.image.now) a.first a.count }

pub register_line-place-requires : goal.register_line-place-requires
register_line-place-requires c = (omega (arith, kept c.loop-i.invariant.written), c.requires.1.0)

pub loop-i-preserved : goal.loop-i-preserved
loop-i-preserved c =
    let l = c.loop-i in
    let v = l.invariant in
    let a = c.args in
    let why = house_reason a.image.now in
    let one = register_line (a.first + l.i) (why (a.first + l.i)) in
    record {
      text = v.text ++ one;
      written = wider (register_width * (l.i + 1)) (omega arith) (more v.written c.register_line-place.ensures.written (omega arith));
      rest =
          append_assoc v.text one (lines_from why a.first a.count (l.i + 1))
          ∙ ap (λ (x : List ℕ). v.text ++ x) (sym (lines_turn why a.first a.count l.i (omega arith))) ∙ v.rest;
    }

pub returns : goal.returns
returns c =
    let v = c.loop-i.invariant in
    let a = c.args in
    let none = lines_end (house_reason a.image.now) a.first a.count c.loop-i.i (omega arith) in
    record {
      written =
          same_text (sym (append-nil v.text) ∙ ap (λ (x : List ℕ). v.text ++ x) (sym none) ∙ v.rest)
          (wider (register_width * a.count) (omega arith) v.written);
    }
