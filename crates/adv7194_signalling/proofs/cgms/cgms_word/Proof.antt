-- `cgms::cgms_word` meets its contract: the parts of the word add up to the number of its bits. Assumes nothing.
use Prim.Native.Nat.{◌<◌}
use native.Mathlib.Omega.{arith}
use lib.Dec.{eqb}
use borrow.Author.Rules.{rules}
use Rattle.adv7194_signalling.proofs.WordLaws.{bit-value}
use Rattle.adv7194_signalling.proofs.CgmsLaws.{check_part_lt, cgms-value}
use Rattle.adv7194_signalling.proofs.cgms.cgms_word.Statement.{statement}
use Rattle.adv7194_signalling.proofs.cgms.cgms_word.Tie as tie

small : (c : tie.After-check_bits) → c.check_bits.result < 64
small c = rw c.check_bits.ensures (check_part_lt c.args.payload)

mul-result : tie.Need-overflow_mul-result
mul-result c = record { fits = omega (arith, small c) }

add-result : tie.Need-overflow_add-result
add-result c = record { fits = omega (arith, small c) }

add-result-2 : tie.Need-overflow_add-result-2
add-result-2 c = record { fits = omega (arith, small c) }

add-result-3 : tie.Need-overflow_add-result-3
add-result-3 c = record { fits = omega (arith, small c) }

add-result-4 : tie.Need-overflow_add-result-4
add-result-4 c = record { fits = omega (arith, small c) }

returns : tie.Need-returns
returns c =
    let s = c in
    let a = s.args in
    omega (
      arith,
      c.check_bits.ensures,
      cgms-value a.payload (eqb a.odd 1) (eqb a.even 1) (eqb a.chip 1) s.requires.0,
      bit-value a.odd s.requires.1,
      bit-value a.even s.requires.2,
      bit-value a.chip s.requires.3,
    )

pub cgms_word_spec : {M : Type 1} → statement M
cgms_word_spec =
    tie.close
    (tie.spec
    (λ c κs. search rules)
    mul-result
    add-result
    (λ c. search rules)
    add-result-2
    (λ c. search rules)
    add-result-3
    (λ c. search rules)
    add-result-4
    returns)
