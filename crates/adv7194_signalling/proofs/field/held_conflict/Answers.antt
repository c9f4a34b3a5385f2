-- `field::held_conflict` meets its contract: the kind that was found, and its test. Assumes nothing.
use mathlib.Core.Path.{◌≡◌, refl, ap, ◌∙◌}
use mathlib.Core.Bool.{false}
use mathlib.Core.List.{[], ◌∷◌}
use Prim.Native.Nat.{ℕ}
use lib.Dec.{eqb, lit<}
use lib.IntN.{ℤ}
use denote.Enum.Bare.{sameb}
use Rattle.refusals.specs.declared.Refusal.{Refusal}
use Rattle.refusals.specs.declared.Refusal.TheVariants.{ImageLength, BusAddress, OutOfRange, Reserved, SquarePixelWithOversampling, PedestalWithPal}
use Rattle.refusals.specs.declared.Refusal.TheVariants.{SignallingConflict, Disagreement, PlanBytes, PlanRoom, RegisterUnknown}
use Rattle.refusals.specs.contracts.Refusal.{the_type}
use Rattle.refusals.specs.Refusal.{Judged, number_of}
use Rattle.field_table.specs.Blocks.{is}
use Rattle.field_table.proofs.Signed.{is-bits}
use Rattle.adv7194_signalling.specs.Kind.{kind_of}
use Rattle.adv7194_signalling.specs.Signalling.{held_conflict}
use Rattle.adv7194_signalling.proofs.KindLaws.{by_answer, by_answer_lem}
use Rattle.adv7194_signalling.proofs.field.held_conflict.Goals as goal

-- a refusal is that of row 7 where its number is
is_seven : (r : Refusal) → sameb the_type r SignallingConflict ≡ eqb (number_of r) 7
is_seven ImageLength = refl
is_seven BusAddress = refl
is_seven OutOfRange = refl
is_seven Reserved = refl
is_seven SquarePixelWithOversampling = refl
is_seven PedestalWithPal = refl
is_seven SignallingConflict = refl
is_seven Disagreement = refl
is_seven PlanBytes = refl
is_seven PlanRoom = refl
is_seven RegisterUnknown = refl

-- the row by the kind that was found
found : (standard : ℤ) (r19 : ℕ) (j : Judged ℕ) → j ≡ kind_of r19
    → by_answer (λ n. eqb n 7) (is 0 standard) (is 1 standard) false j ≡ held_conflict standard (r19 ∷ [])
found standard r19 j e =
    ap (by_answer (λ n. eqb n 7) (is 0 standard) (is 1 standard) false) e ∙ by_answer_lem (λ n. eqb n 7) (is 0 standard) (is 1 standard) false r19

pub returns-in-Off : goal.returns-in-Off
returns-in-Off c = record { answer = found c.args.standard c.args.r19 _ (rw c.in-Off.is at c.in-Ok.ensures.answer) }

pub returns-in-Cgms : goal.returns-in-Cgms
returns-in-Cgms c = record {
  answer =
      is-bits 1 c.args.standard (lit< tt) c.ranges.standard.sfits
      ∙ found c.args.standard c.args.r19 _ (rw c.in-Cgms.is at c.in-Ok.ensures.answer);
}

pub returns-in-Wss : goal.returns-in-Wss
returns-in-Wss c = record {
  answer =
      is-bits 0 c.args.standard (lit< tt) c.ranges.standard.sfits
      ∙ found c.args.standard c.args.r19 _ (rw c.in-Wss.is at c.in-Ok.ensures.answer);
}

pub returns-in-Err : goal.returns-in-Err
returns-in-Err c = record { answer = c.eq.ensures ∙ is_seven c.in-Err.why ∙ found c.args.standard c.args.r19 _ c.in-Err.ensures.answer }
