-- `nearest_word` meets its contract: the fraction is document 01's, and what is nearest to it has 32 bits. Assumes nothing.
use mathlib.Core.Path.{◌≡◌, ◌∙◌}
use mathlib.Core.Bool.{Bool}
use Prim.Native.Nat.{◌*◌}
use native.Mathlib.Omega.{arith}
use borrow.Author.Rules.{rules}
use Rattle.rounding.specs.Nearest.{Nearest, nearest}
use Rattle.rounding.proofs.Rounding.{nearest-is}
use Rattle.adv7194_subcarrier.specs.Subcarrier.{word_of}
use Rattle.adv7194_subcarrier.specs.Answers.{is_pal}
use Rattle.adv7194_subcarrier.proofs.Words.{numerator, denominator, sized, in_word_lem}
use Rattle.adv7194_subcarrier.proofs.nearest_word.Statement.{statement}
use Rattle.adv7194_subcarrier.proofs.nearest_word.Tie as tie

-- the arguments, where the clocks are known
abbrev pal : tie.After-clocks_per_line → Bool
pal c = is_pal c.args.standard

abbrev sq : tie.After-clocks_per_line → Bool
sq c = c.args.square

-- the code's clocks are the fraction's denominator
clocks-are : (c : tie.After-clocks_per_line) → c.divisor.result * c.clocks_per_line.result ≡ denominator (pal c) (sq c)
clocks-are c = cc

-- what the code answers is what the search finds
found : (c : tie.After-nearest) → c.nearest.result ≡ nearest (numerator (pal c.before)) (denominator (pal c.before) (sq c.before))
found c = c.nearest.ensures ∙ cc (clocks-are c.before)

-- and so nearest to the fraction
is-nearest : (c : tie.After-nearest) → Nearest (numerator (pal c.before)) (denominator (pal c.before) (sq c.before)) c.nearest.result
is-nearest c = rw (found c) (nearest-is _ _ (sized (pal c.before) (sq c.before)).positive)

mul-steps : tie.Need-overflow_mul-steps
mul-steps c = omega (arith, c.cycles-steps.ensures, (sized (is_pal c.args.standard) c.args.square).high)

mul-clocks : tie.Need-overflow_mul-clocks
mul-clocks c = omega (arith, clocks-are c, (sized (pal c) (sq c)).low)

nearest-requires : tie.Need-nearest-requires
nearest-requires c κs =
    let s = sized (pal c) (sq c) in
    rw (c.cycles-steps.ensures, clocks-are c) (s.positive, s.low, s.high)

cast-result : tie.Need-overflow_cast-result
cast-result c = record { fits = in_word_lem _ _ _ (sized (pal c.before) (sq c.before)) (is-nearest c) }

returns : tie.Need-returns
unfolding word_of
returns c = (found c, is-nearest c)

pub nearest_word_spec : {M : Type 1} → statement M
nearest_word_spec =
    tie.close
    (tie.spec
    (λ c κs. search rules)
    mul-steps
    (λ c κs. search rules)
    (λ c κs. search rules)
    mul-clocks
    nearest-requires
    cast-result
    returns)
