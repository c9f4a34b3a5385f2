-- `hue::hue_setting` meets its contract: the steps of a code from the middle, computed at each code. Assumes nothing.
use mathlib.Core.Path.{ap, ◌∙◌}
use mathlib.Core.Bool.{not, ◌||◌}
use Prim.Native.Nat.{ℕ}
use native.Mathlib.Omega.{arith}
use lib.IntN.{ℤ, pos, neg_ℤ, nat_abs, ◌+ℤ◌, ◌-ℤ◌}
use lib.Signed.{lt_z}
use lib.Dec.{eqb, eqb→eq}
use mir.Syntax.{w32}
use mir.Val.{to_z}
use mir.ValLaws.{to_z-of_z}
use borrow.Author.Tests.{not-true}
use Rattle.refusals.specs.Refusal.{accepted}
use Rattle.rounding.proofs.Range.{below_at, back, T→true}
use Rattle.field_table.specs.Coding.{decode}
use Rattle.adv7194_table.specs.Fields.{hue}
use Rattle.adv7194_codes.proofs.Rounded.{hue-at}
use Rattle.adv7194_codes.proofs.hue.hue_setting.Goals as goal

-- the steps of a code
abbrev steps : ℕ → ℤ
steps k = back w32 (to_z w32 k -ℤ pos 128)

pub returns : goal.returns
returns c = record {
  answer =
      let code = c.args.code in
      let inside = below_at (λ k. not (lt_z (steps k) (neg_ℤ (pos 128)) || lt_z (pos 127) (steps k))) 256 tt code (omega arith) in
      let own = below_at (λ k. eqb (nat_abs (pos 128 +ℤ steps k)) k) 256 tt code (omega arith) in
      ap accepted (to_z-of_z w32 c.least_times.result (record { sfits = c.least_times.type_inv }))
      ∙ hue-at (steps code) c.least_times.result (not-true _ (T→true _ inside)) c.least_times.ensures.least c.least_times.ensures.sign
      ∙ ap (decode hue) (eqb→eq _ _ own);
}
