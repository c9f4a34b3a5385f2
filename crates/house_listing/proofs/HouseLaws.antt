-- What the text of the house setting is: an image that isn't 54 bytes is refused, any other is planned; and the text is short. Assumes nothing.
use mathlib.Core.Path.{◌≡◌, refl, ap, ◌∙◌}
use mathlib.Core.Bool.{Bool, true, false}
use mathlib.Core.Logic.{◌⊎◌, inl, inr, ⊎_elim}
use mathlib.Core.List.{List, [], ◌∷◌, flat_map}
use Prim.Native.Nat.{ℕ, ◌≤◌, ◌^◌, ◌<◌}
use native.Mathlib.Omega.{arith}
use lib.Dec.{eqb}
use lib.ListN.{length, get_or}
use borrow.Author.Tests.{eqb-true, eqb-false}
use Rattle.refusals.specs.Verdict.{good}
use Rattle.refusals.specs.Order.{first_of, places_at, places_in}
use Rattle.bus.specs.Transactions.{Transaction, bus_bytes}
use Rattle.bus.specs.Cost.{data_count}
use Rattle.bus.proofs.CostLaws.{bytes_count}
use Rattle.packing.specs.Written.{packed_bits}
use Rattle.packing.proofs.PackedLaws.{packed_bits-length}
use Rattle.text.proofs.Numerals.{decimal-most}
use Rattle.text.specs.Text.{leading, decimal}
use Rattle.listing.specs.Lines.{counts_line, refused_line}
use Rattle.plan_listing.specs.PlanText.{transaction_line}
use Rattle.plan_listing.proofs.TextLaws.{plan_text, first-length, text_length}
use Rattle.answer_listing.specs.AnswerText.{answer_text}
use Rattle.adv7194_bus.specs.Kind.{register_count}
use Rattle.adv7194_bus.specs.Kind.{board_address}
use Rattle.adv7194_bus.specs.Limit.{no_limit}
use Rattle.field_table.specs.Coding.{encode}
use Rattle.adv7194_table.specs.Fields.{number_count, timing, output, picture, dnr}
use Rattle.adv7194_table.specs.Table.{table, order_of}
use Rattle.adv7194_gamma.specs.Curve.{curve_of, curve_codes}
use Rattle.adv7194_signalling.specs.Signalling.{signalling_codes}
use Rattle.adv7194_settings.specs.Order.{order, rows_at}
use Rattle.adv7194_settings.specs.Rows.{some_of, row_holds, check_of}
use Rattle.adv7194_settings.specs.House.{house}
use Rattle.adv7194_settings.proofs.ReadingLaws.{none-unknown}
use Rattle.adv7194_least.specs.Aim.{Aim, aim_of}
use Rattle.adv7194_least.specs.Change.{Change, Told}
use Rattle.adv7194_least.specs.Demands.{wide_limit, wide_bits, wide_bytes}
use Rattle.adv7194_least.proofs.Room.{wide_bits_lem, wide_room}
use Rattle.adv7194_planning.specs.Rows.{list_of}
use Rattle.adv7194_planning.proofs.CaseLaws.{wrong_length, passed, no_row}
use Rattle.adv7194_planning.proofs.Outcomes.{Passed}
use Rattle.adv7194_planning.proofs.KnownLaws.{none_unfixed}
use Rattle.adv7194_planning.proofs.Clauses.{change, told}
use Rattle.house_listing.specs.HouseText.{board_in, house_text_in, house_text}
use Rattle.field_table.specs.Blocks.{slice}

-- the most bytes of a text
abbrev pub most_text : ℕ
most_text = 138

-- the house setting has no fault at any place
no_fault : first_of (row_holds house) (places_in rows_at (order_of table)) (tt {0}) ≡ good (tt {0})
unfolding first_of places_at places_in order_of row_holds some_of table timing output picture dnr house encode slice signalling_codes
    curve_codes curve_of flat_map
no_fault = refl

-- so it is accepted
pub house-good : check_of house ≡ good tt
unfolding check_of order
house-good = no_fault

-- and it is as many numbers as settings are
pub house-count : length house ≡ number_count
unfolding house
house-count = refl

-- an image that isn't 54 bytes is refused so
pub not_an_image : (image : List ℕ) → (length image ≡ register_count → ⊥) → house_text image ≡ refused_line 1 0
unfolding house_text_in
not_an_image image h =
    ap (answer_text transaction_line (list_of (board_in image) house no_limit)) (wrong_length (board_in image) house board_address no_limit wide_bytes h)

-- that line
refused-length : length (refused_line 1 0) ≡ 12
unfolding counts_line decimal leading
refused-length = refl

-- a list has a transaction, or no data
some_or_none : (ts : List Transaction) → (0 < length ts) ⊎ (data_count ts ≡ 0)
unfolding data_count
some_or_none [] = inr refl
some_or_none (t ∷ ts) = inl (omega arith)

-- the text of a list of at most so many bits is short
text_short : (ts : List Transaction) → length (packed_bits ts) ≤ wide_bits → length (plan_text ts) ≤ most_text
text_short ts bits =
    let tens = decimal-most 1 (length ts) (omega (arith, bits, packed_bits-length ts, bytes_count ts)) in
    let cost = decimal-most 1 (bus_bytes ts) (omega (arith, bits, packed_bits-length ts, bytes_count ts)) in
    let text = text_length ts in
    let first = first-length (length ts) (bus_bytes ts) in
    let packing = packed_bits-length ts in
    let count = bytes_count ts in
    ⊎_elim (λ h. omega arith) (λ h. omega arith) (some_or_none ts)

module _ (image : List ℕ) (bytes : (r : ℕ) → get_or image r 0 < 2 ^ 8) (h : length image ≡ register_count) where
  -- all before the room passes
  all_passed : Passed (board_in image) house no_limit
  all_passed = record { long = h; fixed = none_unfixed (board_in image) house (none-unknown image); limited = refl }

  -- what the house setting aims at is a change of the board, in which every register with a field is known or fixed
  abbrev aim : Aim
  aim = aim_of (board_in image) house no_limit

  changes : Change aim
  changes = change (board_in image) house no_limit bytes all_passed

  tells : Told aim
  tells = told (board_in image) house no_limit bytes all_passed

  -- and no limit is a wide one
  wide : wide_limit ≤ no_limit
  wide = omega arith

  -- any other image is planned
  pub an_image : house_text image ≡ plan_text (list_of (board_in image) house no_limit)
  unfolding house_text_in list_of
  an_image =
      let room = wide_room aim changes tells wide in
      ap (answer_text transaction_line (list_of (board_in image) house no_limit))
      (passed (board_in image) house board_address no_limit wide_bytes h refl refl house-count house-good
      ∙ no_row (board_in image) house board_address no_limit wide_bytes all_passed.fixed room)

  -- a plan's text is short
  planned_short : length (plan_text (list_of (board_in image) house no_limit)) ≤ most_text
  unfolding list_of
  planned_short =
      text_short (list_of (board_in image) house no_limit)
      (wide_bits_lem aim changes tells wide)

-- no text is longer
pub short : (image : List ℕ) → ((r : ℕ) → get_or image r 0 < 2 ^ 8) → length (house_text image) ≤ most_text
short image bytes = split (eqb (length image) register_count) refl
  where
    split : (b : Bool) → eqb (length image) register_count ≡ b → length (house_text image) ≤ most_text
    split true e = let h = eqb-true (length image) register_count e in rw (an_image image bytes h) (planned_short image bytes h)
    split false e = rw (not_an_image image (eqb-false (length image) register_count e)) (omega (arith, refused-length))
