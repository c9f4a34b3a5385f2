-- Document 02, P7: why a register is in our plan: it was unknown, else a field's bits there changed, must-be-zero bits apart (the lowest such field), else a
-- must-be-zero bit was set, else it is a companion of a subcarrier byte, else it is a bridge between the nearest needed registers. A register that isn't in
-- the plan is not sent.
use Rattle.std.specs.Prelude.{Bool, false, cond, not, ◌&&◌, ◌||◌, ℕ, zero, suc, ◌-◌, eqb, ltb}
use mathlib.Core.List.{List, [], ◌∷◌, ◌++◌, map, foldr}
use Rattle.rounding.specs.First.{first_from}
use Rattle.bus.specs.Transactions.{Transaction, touches}
use Rattle.cutting.specs.Spans.{touched}
use Rattle.adv7194_bus.specs.Kind.{register_count}
use Rattle.adv7194_bus.specs.Board.{knows}
use Rattle.adv7194_table.specs.Table.{table, order_of}
use Rattle.adv7194_table.specs.RawCodes.{setting_bits, zero_bits}
use Rattle.adv7194_table.specs.Registers.{some_below}
use Rattle.adv7194_least.specs.Aim.{Aim, must}
use Rattle.adv7194_least.specs.Plan.{in_word}
use Rattle.adv7194_reasons.specs.First.{first_true}

-- an answer: not sent, or a reason; a field by its number, a bridge with the needed registers next below and next above
pub data Reason : Type 0 where
  not_sent : Reason
  unknown : Reason
  changed : ℕ → Reason
  zeroed : Reason
  companion : Reason
  bridge : ℕ → ℕ → Reason

-- field f's bits in register r differ between two images, must-be-zero bits apart
abbrev pub bits_differ : List ℕ → List ℕ → ℕ → ℕ → Bool
bits_differ found wanted r f = not (eqb (setting_bits found f r) (setting_bits wanted f r))

-- register r is one of the subcarrier word's, another of which passes a test
abbrev pub with_other : (ℕ → Bool) → ℕ → Bool
with_other P r = in_word r && some_below (λ q. in_word q && (not (eqb q r) && P q)) register_count

-- the needed register next below r, 0 where there is none
unfoldable pub next_below : (ℕ → Bool) → ℕ → ℕ
next_below P zero = 0
next_below P (suc r) = cond (P r) r (next_below P r)

-- the needed register next above r, or the one past the last
abbrev pub next_above : (ℕ → Bool) → ℕ → ℕ
next_above P r = first_from P (suc r) (register_count - suc r)

-- a transaction of the list touches both registers
unfoldable pub joined : List Transaction → ℕ → ℕ → Bool
joined ts i j = foldr (λ t rest. (touches t i && touches t j) || rest) false ts

-- an answer is true of register r and a list; a bridge lies between two needed registers, with no needed one between those, and all three in one transaction
abbrev pub holds : Aim → List Transaction → ℕ → Reason → Bool
holds a ts r not_sent = not (touched ts r)
holds a ts r unknown = not (knows a.board r)
holds a ts r (changed f) = bits_differ a.board.registers a.wanted r f
holds a ts r zeroed = not (eqb (zero_bits a.board.registers r) 0)
holds a ts r companion = with_other (must a) r
holds a ts r (bridge below above) =
    (ltb below r && ltb r above) && ((must a below && must a above) && (eqb (next_above (must a) below) above && joined ts below above))

-- the answers in their order
unfoldable pub answers : Aim → ℕ → List Reason
answers a r =
    not_sent ∷ unknown ∷ (map changed (order_of table)
    ++ (zeroed ∷ companion ∷ bridge (next_below (must a) r) (next_above (must a) r) ∷ []))

-- the first of them that is true; one is (theorem `some-answer` of proofs/SomeAnswer.antt)
unfoldable pub reason_of : Aim → List Transaction → ℕ → Reason
reason_of a ts r = first_true (holds a ts r) (answers a r) not_sent
