-- `checks::check_known`: the lowest field of the unknown registers fixed only in part decides row 11.
use Rattle.std.proofs.Common.{◌≡◌, ℕ, Bool, cond, not, ◌&&◌, List, eqb, eq-eqb, ne_eqb, sym, ap, ◌∙◌}
use lib.IntN.{ℤ}
use Rattle.bits.specs.Maps.{has}
use Rattle.refusals.specs.Verdict.{good, refused_at}
use Rattle.adv7194_bus.specs.declared.board.Board.{Board}
use Rattle.adv7194_bus.specs.Board.{board_of}
use Rattle.adv7194_table.specs.Table.{table, order_of}
use Rattle.adv7194_table.proofs.RegisterLaws.{same_lowest}
use Rattle.adv7194_planning.proofs.CaseLaws.{unfixed, lowest_unfixed, table-fields, by_register}
use Rattle.adv7194_planning.proofs.CheckLaws.{unknown_verdict}
use Rattle.adv7194_planning.proofs.checks.check_known.Goals as goal

-- the lowest such field decides
row_is : (b : Board) (zs : List ℤ) (found : ℕ) → found ≡ lowest_unfixed b zs → (none : Bool) → eqb found 0 ≡ none → (address limit room : ℕ)
    → cond none (good tt) (refused_at 11 found) ≡ unknown_verdict b zs address limit room
row_is b zs found is none e address limit room =
    sym
    (by_register b zs address limit room (order_of table) table-fields
    ∙ sym (ap (λ (f : ℕ). cond (eqb f 0) (good tt) (refused_at 11 f)) is)
    ∙ ap (λ (x : Bool). cond x (good tt) (refused_at 11 found)) e)

pub returns-then-field-ne-NO_FIELD : goal.returns-then-field-ne-NO_FIELD
returns-then-field-ne-NO_FIELD c =
    rw c.at.ensures.answer
    (record {
      answer =
          λ image.
          let b = board_of image c.args.known in
          let is =
          c.lowest_field-field.ensures.answer
          ∙ same_lowest (has c.unfixed_registers-unfixed.result) (unfixed b c.args.numbers.now)
          (λ r h.
          c.unfixed_registers-unfixed.ensures.answer r
          ∙ ap (λ (x : Bool). not (has c.args.known r) && x) (c.partly_fixed_registers.ensures.answer r)) in
          row_is b c.args.numbers.now c.lowest_field-field.result is _ (ne_eqb _ 0 c.if-field-ne-NO_FIELD.true);
    })

pub returns : goal.returns
returns c = record {
  answer =
      λ image.
      let b = board_of image c.args.known in
      let is =
      c.lowest_field-field.ensures.answer
      ∙ same_lowest (has c.unfixed_registers-unfixed.result) (unfixed b c.args.numbers.now)
      (λ r h.
      c.unfixed_registers-unfixed.ensures.answer r
      ∙ ap (λ (x : Bool). not (has c.args.known r) && x) (c.partly_fixed_registers.ensures.answer r)) in
      row_is b c.args.numbers.now c.lowest_field-field.result is _ (eq-eqb _ 0 c.if-field-ne-NO_FIELD.false);
}
