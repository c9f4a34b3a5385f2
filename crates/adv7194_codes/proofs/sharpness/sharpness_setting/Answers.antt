-- `sharpness::sharpness_setting` meets its contract: one test for each answer, computed at its codes. Assumes nothing.
use native.Mathlib.Omega.{arith}
use lib.IntN.{pos, ◌-ℤ◌}
use mir.Syntax.{w32}
use Rattle.rounding.specs.First.{first_from}
use Rattle.rounding.proofs.Range.{from_at, back}
use Rattle.field_table.specs.Coding.{decode, code_by}
use Rattle.field_table.proofs.Judging.{is_refused, is_refused→, is_setting, is_setting→}
use Rattle.adv7194_table.specs.Fields.{sharpness}
use Rattle.adv7194_codes.proofs.sharpness.sharpness_setting.Goals as goal

pub returns-then-code-gt-HIGHEST_CODE : goal.returns-then-code-gt-HIGHEST_CODE
unfolding decode code_by first_from
returns-then-code-gt-HIGHEST_CODE c = record {
  answer = is_refused→ 3 _ (from_at (λ k. is_refused 3 (decode sharpness k)) 13 243 tt c.args.code (omega arith) (omega arith));
}

pub returns-else-code-gt-HIGHEST_CODE : goal.returns-else-code-gt-HIGHEST_CODE
unfolding decode code_by first_from
returns-else-code-gt-HIGHEST_CODE c = record {
  answer =
      is_setting→ _ _
      (from_at (λ k. is_setting (back w32 (back w32 (pos k) -ℤ pos 6)) (decode sharpness k)) 0 13 tt c.args.code (omega arith) (omega arith));
}
