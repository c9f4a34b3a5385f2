-- `brightness::brightness_code` meets its contract: the two's complement of a level is computed at each level. Assumes nothing.
use mathlib.Core.Path.{◌≡◌, refl, sym, ◌∙◌}
use mathlib.Core.Bool.{Bool, true, false, not}
use Prim.Native.Nat.{ℕ, ◌-◌}
use lib.IntN.{ℤ, pos, ◌-ℤ◌, nat_abs}
use lib.Signed.{non_neg, lt_z}
use lib.Dec.{T, lit<, ltb, ltb→lt, leb, leb→le, eqb, eqb→eq}
use mir.Syntax.{w32}
use mir.ValLaws.{to_z-of_z}
use Rattle.rounding.proofs.Range.{everywhere, back, sfitsb, fits→, imp, imp→, imp→not}
use Rattle.field_table.specs.Coding.{outside, code_by, nearest_times, twos_complement}
use Rattle.field_table.proofs.Judging.{outside-refused, inside_coded, in_range}
use Rattle.adv7194_table.specs.Fields.{brightness}
use Rattle.adv7194_codes.proofs.ScaledLaws.{rounded-in}
use Rattle.adv7194_codes.proofs.brightness.brightness_code.Goals as goal

-- the code's values
abbrev negative : ℤ → Bool
negative l = lt_z (back w32 l) (pos 0)

-- the magnitude of a negative level
abbrev opposite : ℤ → ℤ
opposite l = pos 0 -ℤ back w32 l

abbrev magnitude : ℤ → ℕ
magnitude l = nat_abs (back w32 (opposite l))

abbrev level : ℤ → ℤ
level z = nearest_times 2015631 10000000 z

-- what is computed at each level of a brightness in the range
at : (P : ℤ → Bool) → T (everywhere 15 30 P) → (z : ℤ) → outside brightness.row z ≡ false → T (P (level z))
at P t z o = in_range 15 30 P t (level z) (rounded-in 2015631 10000000 74 150 14 30 (lit< tt) (lit< tt) (lit< tt) z o)

-- and at each negative one
below : (P : ℤ → Bool) → T (everywhere 15 30 (λ l. imp (negative l) (P l))) → (z : ℤ) → outside brightness.row z ≡ false
    → negative (level z) ≡ true → T (P (level z))
below P t z o n = imp→ _ _ (at (λ l. imp (negative l) (P l)) t z o) n

pub returns-then-out_of_range : goal.returns-then-out_of_range
returns-then-out_of_range c = record {
  answer = outside-refused brightness _ (rw (to_z-of_z w32 c.args.tenths c.ranges.tenths) at (sym c.if-out_of_range.ensures.answer)) refl;
}

pub overflow_sub-level : goal.overflow_sub-level
overflow_sub-level c =
    let same = to_z-of_z w32 c.args.tenths c.ranges.tenths in
    let inside : outside brightness.row c.args.tenths ≡ false = rw same at (sym c.if-out_of_range.ensures.answer) in
    rw (c.nearest_times-level.ensures.answer, same) (fits→ w32 _ (at (λ l. sfitsb w32 (opposite l)) tt c.args.tenths inside))

pub overflow_cast-level : goal.overflow_cast-level
overflow_cast-level c =
    let same = to_z-of_z w32 c.args.tenths c.ranges.tenths in
    let inside : outside brightness.row c.args.tenths ≡ false = rw same at (sym c.if-out_of_range.ensures.answer) in
    let n : negative (level c.args.tenths) ≡ true = rw (c.nearest_times-level.ensures.answer, same) at c.if-level-lt0.true in
    rw (c.nearest_times-level.ensures.answer, same) (
      below (λ l. non_neg (back w32 (opposite l))) tt c.args.tenths inside n,
      record { fits = ltb→lt _ _ (below (λ l. ltb (magnitude l) 256) tt c.args.tenths inside n) },
    )

pub complement-requires : goal.complement-requires
complement-requires c =
    let same = to_z-of_z w32 c.args.tenths c.ranges.tenths in
    let inside : outside brightness.row c.args.tenths ≡ false = rw same at (sym c.if-out_of_range.ensures.answer) in
    let n : negative (level c.args.tenths) ≡ true = rw (c.nearest_times-level.ensures.answer, same) at c.if-level-lt0.true in
    rw (c.nearest_times-level.ensures.answer, same) (leb→le _ _ (below (λ l. leb (magnitude l) 64) tt c.args.tenths inside n))

pub returns-then-level-lt0 : goal.returns-then-level-lt0
unfolding code_by
returns-then-level-lt0 c =
    let same = to_z-of_z w32 c.args.tenths c.ranges.tenths in
    let inside : outside brightness.row c.args.tenths ≡ false = rw same at (sym c.if-out_of_range.ensures.answer) in
    let n : negative (level c.args.tenths) ≡ true = rw (c.nearest_times-level.ensures.answer, same) at c.if-level-lt0.true in
    let coded = below (λ l. eqb (128 - magnitude l) (twos_complement 7 l)) tt c.args.tenths inside n in
    let complement = rw (c.nearest_times-level.ensures.answer, same) at c.complement.ensures.answer in
    record { answer = inside_coded brightness c.args.tenths _ inside (complement ∙ eqb→eq _ _ coded) }

pub overflow_cast-result : goal.overflow_cast-result
overflow_cast-result c =
    let same = to_z-of_z w32 c.args.tenths c.ranges.tenths in
    let inside : outside brightness.row c.args.tenths ≡ false = rw same at (sym c.if-out_of_range.ensures.answer) in
    let n : negative (level c.args.tenths) ≡ false = rw (c.nearest_times-level.ensures.answer, same) at c.if-level-lt0.false in
    rw (c.nearest_times-level.ensures.answer, same) (
      imp→not _ _ (at (λ l. imp (not (negative l)) (non_neg (back w32 l))) tt c.args.tenths inside) n,
      record { fits = ltb→lt _ _ (at (λ l. ltb (nat_abs (back w32 l)) 256) tt c.args.tenths inside) },
    )

pub returns : goal.returns
unfolding code_by
returns c =
    let same = to_z-of_z w32 c.args.tenths c.ranges.tenths in
    let inside : outside brightness.row c.args.tenths ≡ false = rw same at (sym c.if-out_of_range.ensures.answer) in
    let n : negative (level c.args.tenths) ≡ false = rw (c.nearest_times-level.ensures.answer, same) at c.if-level-lt0.false in
    let coded = imp→not _ _ (at (λ l. imp (not (negative l)) (eqb (nat_abs (back w32 l)) (twos_complement 7 l))) tt c.args.tenths inside) n in
    record { answer = rw (c.nearest_times-level.ensures.answer, same) (inside_coded brightness c.args.tenths _ inside (eqb→eq _ _ coded)) }
