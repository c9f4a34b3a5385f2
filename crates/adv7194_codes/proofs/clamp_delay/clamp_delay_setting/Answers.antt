-- `clamp_delay::clamp_delay_setting` meets its contract: one test for each answer, computed at its codes. Assumes nothing.
use native.Mathlib.Omega.{arith}
use lib.IntN.{pos, ◌-ℤ◌}
use mir.Syntax.{w32}
use Rattle.rounding.specs.First.{first_from}
use Rattle.rounding.proofs.Range.{from_at, back}
use Rattle.field_table.specs.Coding.{decode, code_by}
use Rattle.field_table.proofs.Judging.{is_refused, is_refused→, is_setting, is_setting→}
use Rattle.adv7194_table.specs.Fields.{clamp_delay}
use Rattle.adv7194_codes.proofs.clamp_delay.clamp_delay_setting.Goals as goal

pub returns-then-code-gt-HIGHEST_CODE : goal.returns-then-code-gt-HIGHEST_CODE
unfolding decode code_by first_from
returns-then-code-gt-HIGHEST_CODE c = record {
  answer = is_refused→ 3 _ (from_at (λ k. is_refused 3 (decode clamp_delay k)) 8 248 tt c.args.code (omega arith) (omega arith));
}

pub returns-then-code-eq-SIGN_CODE : goal.returns-then-code-eq-SIGN_CODE
unfolding decode code_by first_from
returns-then-code-eq-SIGN_CODE c = record {
  answer = is_refused→ 4 _ (from_at (λ k. is_refused 4 (decode clamp_delay k)) 4 1 tt c.args.code (omega arith) (omega arith));
}

pub returns-then-code-gt-SIGN_CODE : goal.returns-then-code-gt-SIGN_CODE
unfolding decode code_by first_from
returns-then-code-gt-SIGN_CODE c = record {
  answer =
      is_setting→ _ _
      (from_at (λ k. is_setting (back w32 (pos 4 -ℤ back w32 (pos k))) (decode clamp_delay k)) 5 3 tt c.args.code (omega arith) (omega arith));
}

pub returns-else-code-gt-SIGN_CODE : goal.returns-else-code-gt-SIGN_CODE
unfolding decode code_by first_from
returns-else-code-gt-SIGN_CODE c = record {
  answer =
      is_setting→ _ _ (from_at (λ k. is_setting (back w32 (pos k)) (decode clamp_delay k)) 0 4 tt c.args.code (omega arith) (omega arith));
}
