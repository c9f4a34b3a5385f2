-- Document 02, P4: reading a pair back checks 1, then 4 (field 29) for an even count of ones; the pair's number, 0 extended and 1 ordinary, is checked
-- between them: another is 3, field 29. P5: a pair with a register that is not known is 11, field 29, before its ones are counted.
use Rattle.std.specs.Prelude.{Bool, cond, not, ◌&&◌, List, [], ◌∷◌, ◌++◌, ℕ, suc, eqb, ltb, length, get_or}
use Rattle.refusals.specs.Verdict.{Verdict}
use Rattle.refusals.specs.Order.{Place, first_of, places_at}
use Rattle.adv7194_bus.specs.Kind.{register_count}
use Rattle.adv7194_bus.specs.declared.board.Board.{Board}
use Rattle.adv7194_bus.specs.Board.{knows}
use Rattle.adv7194_captions.specs.Characters.{is_odd, character_in}
use Rattle.adv7194_captions.specs.Pairs.{pair_register, caption_field}

-- row n holds of the call; there are two pairs
unfoldable pub caption_read_row : Board → ℕ → ℕ → ℕ → Bool
caption_read_row b pair n f =
    cond (eqb n 1) (not (eqb (length b.registers) register_count))
    (cond (eqb n 3) (not (ltb pair 2))
    (cond (eqb n 11) (not (knows b (pair_register pair) && knows b (suc (pair_register pair))))
    (eqb n 4 && not (is_odd (get_or b.registers (pair_register pair) 0) && is_odd (get_or b.registers (suc (pair_register pair)) 0)))))

-- the checking order
unfoldable pub caption_read_order : List Place
caption_read_order = places_at (1 ∷ []) 0 ++ places_at (3 ∷ 11 ∷ 4 ∷ []) caption_field

-- the characters of a pair
pub record Characters : Type 0 where
  pub first : ℕ
  pub second : ℕ

-- those that an image holds
abbrev pub characters_in : List ℕ → ℕ → Characters
characters_in image pair =
    record { first = character_in (get_or image (pair_register pair) 0); second = character_in (get_or image (suc (pair_register pair)) 0) }

-- what reading a pair answers
unfoldable pub caption_reading : Board → ℕ → Verdict Characters
caption_reading b pair = first_of (caption_read_row b pair) caption_read_order (characters_in b.registers pair)
