-- What planning captions answers and leaves, and what reading a pair answers, case by case in the checking order. Assumes nothing.
use mathlib.Core.Path.{◌≡◌, refl, ap}
use mathlib.Core.Bool.{Bool, true, false, ◌&&◌}
use mathlib.Core.List.{List}
use Prim.Native.Nat.{ℕ, suc, ◌≤◌, ◌<◌}
use lib.Dec.{leb}
use lib.IntN.{ℤ}
use lib.ListN.{length, get_or}
use borrow.Author.Tests.{eq-eqb, ne_eqb, lt-ltb, le-ltb, leb-true, leb-false}
use Rattle.refusals.specs.Verdict.{good, refused_at}
use Rattle.refusals.specs.Order.{first_of, places_at}
use Rattle.packing.specs.Packing.{packed}
use Rattle.planning.specs.Plan.{packing_of, packed_left, plan_after}
use Rattle.adv7194_bus.specs.Kind.{register_count}
use Rattle.adv7194_bus.specs.declared.board.Board.{Board}
use Rattle.adv7194_bus.specs.Board.{knows}
use Rattle.bus.specs.Address.{address_right}
use Rattle.adv7194_captions.specs.Characters.{is_odd}
use Rattle.adv7194_captions.specs.Pairs.{caption_field, pairs_right, caption_list, pair_register}
use Rattle.adv7194_captions.specs.Reading.{caption_read_row, caption_read_order, characters_in, caption_reading}
use Rattle.adv7194_captions.specs.Planning.{caption_row, caption_order, caption_planning, caption_plan_left}

-- ---- planning

module _ (extended ordinary : List ℤ) (address room : ℕ) where
  -- how many bytes the packed list has
  abbrev bytes : ℕ
  bytes = length (packed (caption_list extended ordinary))

  -- row 2: the address
  pub wrong_address : address_right address ≡ false → caption_planning extended ordinary address room ≡ refused_at 2 0
  unfolding caption_planning caption_order places_at first_of caption_row
  wrong_address e = rw e

  module _ (e : address_right address ≡ true) where
    -- row 3 at the captions' field: the pairs
    pub wrong_pairs : pairs_right extended ordinary ≡ false → caption_planning extended ordinary address room ≡ refused_at 3 caption_field
    unfolding caption_planning caption_order places_at first_of caption_row
    wrong_pairs p = rw (e, p)

    -- what is left is packing the list: row 10, or its numbers
    pub right_pairs : pairs_right extended ordinary ≡ true
        → caption_planning extended ordinary address room ≡ packing_of (caption_list extended ordinary) room
    unfolding caption_planning caption_order places_at first_of caption_row
    right_pairs p = by (leb bytes room) refl
      where
        by : (b : Bool) → leb bytes room ≡ b → caption_planning extended ordinary address room ≡ packing_of (caption_list extended ordinary) room
        by true l = rw (e, p, l, le-ltb room bytes (leb-true bytes room l))
        by false l = rw (e, p, l, lt-ltb room bytes (leb-false bytes room l))

module _ (extended ordinary : List ℤ) (address : ℕ) (plan : List ℕ) where
  -- a refusal leaves the lent plan
  pub refused_left : (n f : ℕ) → caption_planning extended ordinary address (length plan) ≡ refused_at n f
      → caption_plan_left extended ordinary address plan ≡ plan
  refused_left n f v = ap (packed_left (caption_list extended ordinary) plan) v

  -- right pairs leave what packing their list does
  pub packed_left_lem : address_right address ≡ true → pairs_right extended ordinary ≡ true
      → caption_plan_left extended ordinary address plan ≡ plan_after (caption_list extended ordinary) plan
  packed_left_lem e p = ap (packed_left (caption_list extended ordinary) plan) (right_pairs extended ordinary address (length plan) e p)

-- ---- reading

-- both registers of a pair are known
abbrev pub both_known : Board → ℕ → Bool
both_known b pair = knows b (pair_register pair) && knows b (suc (pair_register pair))

-- both bytes of a pair have an odd count of ones
abbrev pub both_odd : List ℕ → ℕ → Bool
both_odd image pair = is_odd (get_or image (pair_register pair) 0) && is_odd (get_or image (suc (pair_register pair)) 0)

module _ (b : Board) (pair : ℕ) where
  -- row 1: the image isn't 54 bytes
  pub wrong_length : (length b.registers ≡ register_count → ⊥) → caption_reading b pair ≡ refused_at 1 0
  unfolding caption_reading caption_read_order places_at first_of caption_read_row
  wrong_length h = rw (ne_eqb (length b.registers) register_count h)

  module _ (h : length b.registers ≡ register_count) where
    -- row 3 at the captions' field: there is no such pair
    pub wrong_pair : 2 ≤ pair → caption_reading b pair ≡ refused_at 3 caption_field
    unfolding caption_reading caption_read_order places_at first_of caption_read_row
    wrong_pair p = rw (eq-eqb (length b.registers) register_count h, le-ltb pair 2 p)

    module _ (p : pair < 2) where
      -- row 11 there: a register of the pair isn't known
      pub unknown-pair : both_known b pair ≡ false → caption_reading b pair ≡ refused_at 11 caption_field
      unfolding caption_reading caption_read_order places_at first_of caption_read_row
      unknown-pair k = rw (eq-eqb (length b.registers) register_count h, lt-ltb pair 2 p, k)

      module _ (k : both_known b pair ≡ true) where
        -- row 4 there: an even count of ones
        pub even_ones : both_odd b.registers pair ≡ false → caption_reading b pair ≡ refused_at 4 caption_field
        unfolding caption_reading caption_read_order places_at first_of caption_read_row
        even_ones o = rw (eq-eqb (length b.registers) register_count h, lt-ltb pair 2 p, k, o)

        -- no row holds
        pub odd_ones_lem : both_odd b.registers pair ≡ true → caption_reading b pair ≡ good (characters_in b.registers pair)
        unfolding caption_reading caption_read_order places_at first_of caption_read_row
        odd_ones_lem o = rw (eq-eqb (length b.registers) register_count h, lt-ltb pair 2 p, k, o)
