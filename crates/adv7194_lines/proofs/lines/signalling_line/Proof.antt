-- `lines::signalling_line` meets its contract: number and name, the setting and the line end in a row. Assumes nothing.
use mathlib.Core.Path.{ap}
use mathlib.Core.List.{◌++◌}
use native.Mathlib.Omega.{arith}
use Rattle.text.specs.Text.{space, line_end}
use Rattle.adv7194_table.specs.declared.blocks.Block.{Block}
use Rattle.adv7194_lines.specs.Lines.{label_text}
use Rattle.adv7194_lines.specs.Kinds.{signalling_text}
use Rattle.writing.proofs.Putting.{put, same_text}
use Rattle.adv7194_lines.proofs.LineLaws.{composed}
use borrow.Author.Rules.{rules}
use Rattle.adv7194_lines.proofs.lines.signalling_line.Statement.{statement}
use Rattle.adv7194_lines.proofs.lines.signalling_line.Tie as tie

put-signalling-requires : tie.Need-put_signalling-setting-requires
put-signalling-requires c κs =
    let b = c.block_of-block in
    (omega arith, omega (arith, ap (λ (x : Block). x.index) b.ensures))

returns : tie.Need-returns
returns c =
    let e = c in
    let v = c in
    let s = c in
    let l = c in
    let b = l.block_of-block in
    let start = c in
    let zs = start.args.numbers.now in
    let w =
    composed l.put_label-label.ensures (put s.put-spaced.ensures.0 s.put-spaced.ensures.1) v.put_signalling-setting.ensures
    (put e.put.ensures.0 e.put.ensures.1) (omega arith) start.requires in
    same_text (ap (λ (x : Block). label_text x.field ++ space ++ signalling_text zs x.index ++ line_end) b.ensures) w

pub signalling_line_spec : {M : Type 1} → statement M
signalling_line_spec =
    tie.close
    (tie.spec
    (λ c κs. search rules)
    (λ c κs. search rules)
    (λ c κs. search rules)
    put-signalling-requires
    (λ c κs. search rules)
    (λ c. search rules)
    returns)
