-- `brightness::brightness_setting` meets its contract: one test for each answer, computed at its codes. Assumes nothing.
use mathlib.Core.Path.{◌≡◌, refl, sym, ap, ◌∙◌, subst}
use mathlib.Core.Bool.{Bool, false, not, cond, ◌||◌, ◌&&◌}
use mathlib.Core.Logic.{⊎_elim}
use Prim.Native.Nat.{ℕ, ◌+◌, ◌-◌, ◌*◌, ◌/◌}
use native.Mathlib.Omega.{arith}
use lib.Dec.{T, leb, T_not}
use lib.IntN.{ℤ, pos, ◌-ℤ◌, nat_abs}
use mir.Syntax.{w32}
use mir.ValLaws.{to_z-of_z}
use Rattle.refusals.specs.Refusal.{accepted, refused}
use Rattle.rounding.specs.First.{first_from}
use Rattle.rounding.specs.Nearest.{nearest, LeastMultiple}
use Rattle.rounding.proofs.Range.{from_at}
use Rattle.rounding.proofs.Rounding.{nearest-is, nearest-only}
use Rattle.field_table.specs.Coding.{outside, code_of, code_by, decode}
use Rattle.field_table.proofs.Judging.{in_range, is_setting, is_setting→}
use Rattle.field_table.proofs.Decoding.{no_code, decode-outside}
use Rattle.adv7194_table.specs.Fields.{brightness}
use Rattle.adv7194_codes.specs.Signs.{with_sign}
use Rattle.adv7194_codes.proofs.brightness.brightness_setting.Goals as goal

-- every code of a setting is up to 1E or from 71 to 7F
abbrev used : ℕ → Bool
used c = leb c 30 || (leb 113 c && leb c 127)

codes-used : (z : ℤ) → outside brightness.row z ≡ false → T (used (code_of brightness z))
unfolding code_by nearest first_from
codes-used z o = in_range 75 150 (λ s. used (code_of brightness s)) tt z o

-- so no setting has another code
unused : (c : ℕ) → T (not (used c)) → refused 3 ≡ decode brightness c
unused c h =
    decode-outside brightness c refl (λ z. no_code brightness c z (λ o e. T_not (used c) h (subst (λ (k : ℕ). T (used k)) e (codes-used z o))))

pub returns-then-code-gt-HIGHEST_CODE : goal.returns-then-code-gt-HIGHEST_CODE
returns-then-code-gt-HIGHEST_CODE c = record {
  answer = unused c.args.code (from_at (λ k. not (used k)) 128 128 tt c.args.code (omega arith) (omega arith));
}

pub returns-then-code-lt-LOWEST_NEGATIVE : goal.returns-then-code-lt-LOWEST_NEGATIVE
returns-then-code-lt-LOWEST_NEGATIVE c = record {
  answer = unused c.args.code (from_at (λ k. not (used k)) 31 82 tt c.args.code (omega arith) (omega arith));
}

-- the least magnitude of a level, in one division
abbrev least : ℕ → ℕ
least q = (20000000 * q - 10000000 + 4031261) / 4031262

least_is : (q r : ℕ) → LeastMultiple 2015631 10000000 q r → r ≡ least q
least_is q r l =
    let rounds = nearest-only (2015631 * least q) 10000000 q (omega arith) (record { under = omega arith; over = omega arith }) in
    omega (arith, l.least (least q) rounds, l.rounds, (nearest-is (2015631 * r) 10000000 (omega arith)).over)

-- the setting of a level, where the code of that level is read so
read : (c : ℕ) (s r : ℤ) → LeastMultiple 2015631 10000000 (nat_abs s) (nat_abs r) → r ≡ with_sign s (nat_abs r)
    → T (is_setting (with_sign s (least (nat_abs s))) (decode brightness c)) → accepted r ≡ decode brightness c
read c s r l e t = ap accepted (e ∙ ap (with_sign s) (least_is (nat_abs s) (nat_abs r) l)) ∙ is_setting→ _ _ t

-- the level that a code stands for
abbrev level : ℕ → ℤ
level k = cond (leb 113 k) (pos k -ℤ pos 128) (pos k)

-- that level's setting is what the code is read as
abbrev good : ℕ → Bool
good k = is_setting (with_sign (level k) (least (nat_abs (level k)))) (decode brightness k)

pub returns-else-code-gt-HIGHEST_POSITIVE : goal.returns-else-code-gt-HIGHEST_POSITIVE
unfolding decode code_by nearest first_from
returns-else-code-gt-HIGHEST_POSITIVE c = record {
  answer =
      let k = c.args.code in
      let found = c.least_times in
      let t : T (good k) =
      ⊎_elim (λ h. from_at good 113 15 tt k (omega (arith, h.1)) (omega arith)) (λ h. from_at good 0 31 tt k (omega arith) (omega (arith, h)))
      c.else-code-gt-HIGHEST_POSITIVE.either in
      let is = to_z-of_z w32 c.level.result (record { sfits = c.level.type_inv }) ∙ c.level.ensures.answer in
      ap accepted (to_z-of_z w32 found.result (record { sfits = found.type_inv }))
      ∙ read k _ found.result found.ensures.least found.ensures.sign
      (subst (λ (s : ℤ). T (is_setting (with_sign s (least (nat_abs s))) (decode brightness k))) (sym is) t);
}
