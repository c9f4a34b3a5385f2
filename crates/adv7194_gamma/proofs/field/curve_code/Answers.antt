-- `field::curve_code` meets its contract: the kind chooses the coding. Assumes nothing.
use mathlib.Core.Path.{sym, ap, ap₂, ◌∙◌}
use lib.Dec.{lit<}
use lib.IntN.{pos}
use lib.ListN.{get_or, drop}
use mir.Syntax.{w32}
use mir.Val.{SFits}
use mir.ValLaws.{to_z-of_z}
use borrow.Author.Rules.{rules}
use Rattle.refusals.specs.Refusal.{accepted}
use Rattle.field_table.proofs.Signed.{is_same, is_other}
use Rattle.adv7194_gamma.specs.Curve.{curve_of}
use Rattle.adv7194_gamma.proofs.ByteLaws.{bytes-set, bytes-refused}
use Rattle.adv7194_gamma.proofs.CodeLaws.{ratio_codes, byte-codes, no_codes}
use Rattle.adv7194_gamma.proofs.field.curve_code.Goals as goal

pub returns-then-numbers-eq-RATIO : goal.returns-then-numbers-eq-RATIO
returns-then-numbers-eq-RATIO c =
    let zs = c.args.numbers.now in
    let kind : SFits w32 (get_or zs 0 (pos 0)) = search rules in
    let p : SFits w32 (get_or zs 1 (pos 0)) = search rules in
    let q : SFits w32 (get_or zs 2 (pos 0)) = search rules in
    record {
      answer =
          c.curve.ensures.answer
          ∙ ap₂ curve_of (to_z-of_z w32 _ p) (to_z-of_z w32 _ q)
          ∙ sym (ratio_codes zs (is_same 0 (get_or zs 0 (pos 0)) (lit< tt) kind.sfits c.if-numbers-eq-RATIO.true));
    }

pub returns-then-all_bytes : goal.returns-then-all_bytes
returns-then-all_bytes c =
    let zs = c.args.numbers.now in
    let kind : SFits w32 (get_or zs 0 (pos 0)) = search rules in
    let ratio = is_other 0 (get_or zs 0 (pos 0)) (lit< tt) kind.sfits c.if-numbers-eq-RATIO.false in
    let bytes = is_same 1 (get_or zs 0 (pos 0)) (lit< tt) kind.sfits c.if-numbers-eq-BYTES.true in
    record { answer = ap accepted c.points.ensures.answer ∙ sym (byte-codes zs ratio bytes ∙ bytes-set (drop 3 zs) (sym c.if-all_bytes.ensures.answer)) }

pub returns-else-all_bytes : goal.returns-else-all_bytes
returns-else-all_bytes c =
    let zs = c.args.numbers.now in
    let kind : SFits w32 (get_or zs 0 (pos 0)) = search rules in
    let ratio = is_other 0 (get_or zs 0 (pos 0)) (lit< tt) kind.sfits c.if-numbers-eq-RATIO.false in
    let bytes = is_same 1 (get_or zs 0 (pos 0)) (lit< tt) kind.sfits c.if-numbers-eq-BYTES.true in
    record { answer = sym (byte-codes zs ratio bytes ∙ bytes-refused (drop 3 zs) (sym c.if-all_bytes.ensures.answer)) }

pub returns-else-numbers-eq-BYTES : goal.returns-else-numbers-eq-BYTES
returns-else-numbers-eq-BYTES c =
    let zs = c.args.numbers.now in
    let kind : SFits w32 (get_or zs 0 (pos 0)) = search rules in
    let ratio = is_other 0 (get_or zs 0 (pos 0)) (lit< tt) kind.sfits c.if-numbers-eq-RATIO.false in
    let bytes = is_other 1 (get_or zs 0 (pos 0)) (lit< tt) kind.sfits c.if-numbers-eq-BYTES.false in
    record { answer = sym (no_codes zs ratio bytes) }
