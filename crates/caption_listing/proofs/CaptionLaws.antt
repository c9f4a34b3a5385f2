-- What the text of captions is: right pairs are planned, others refused; and the text is short. Assumes nothing.
use mathlib.Core.Path.{◌≡◌, refl, ap, ◌∙◌}
use mathlib.Core.Bool.{Bool, true, false, cond}
use mathlib.Core.List.{List, [], ◌∷◌, map}
use Prim.Native.Nat.{ℕ, ◌*◌, ◌≤◌}
use native.Mathlib.Omega.{arith}
use lib.Dec.{eqb}
use lib.IntN.{ℤ, pos}
use lib.ListN.{length, take, drop}
use borrow.Author.Tests.{le-leb}
use Rattle.bus.specs.Transactions.{Transaction, size, bus_bytes}
use Rattle.bus.specs.Cost.{data_count}
use Rattle.bus.proofs.CostLaws.{bytes_count}
use Rattle.packing.specs.Packing.{packed}
use Rattle.packing.proofs.PackedLaws.{packed-length}
use Rattle.text.proofs.Numerals.{decimal-most}
use Rattle.text.specs.Text.{leading, decimal}
use Rattle.listing.specs.Lines.{counts_line, refused_line}
use Rattle.plan_listing.specs.PlanText.{transaction_line}
use Rattle.plan_listing.proofs.TextLaws.{plan_text, first-length, text_length}
use Rattle.answer_listing.specs.AnswerText.{answer_text}
use Rattle.adv7194_bus.specs.Kind.{board_address}
use Rattle.adv7194_captions.specs.Pairs.{caption_field, pairs_right, caption_list}
use Rattle.adv7194_captions.specs.Plans.{pair_size}
use Rattle.adv7194_captions.proofs.ListLaws.{captions-length, captions_sized}
use Rattle.adv7194_captions.proofs.RowLaws.{wrong_pairs, right_pairs}
use Rattle.adv7194_caption_planning.specs.Demands.{caption_bytes}
use Rattle.caption_listing.specs.CaptionText.{pairs_text, caption_text}
use Rattle.bits.specs.Lists.{Every}

-- the most bytes of a text
abbrev pub most_text : ℕ
most_text = 27

-- the line of the refusal
refused-length : length (refused_line 3 caption_field) ≡ 13
unfolding counts_line decimal leading
refused-length = refl

-- the data of pairs
data_of : (ts : List Transaction) → Every (λ t. size t ≡ pair_size) ts → data_count ts ≡ pair_size * length ts
unfolding data_count
data_of [] h = refl
data_of (t ∷ ts) h = omega (arith, h.0, data_of ts h.1)

module _ (extended ordinary : List ℤ) where
  -- right pairs are planned
  pub right_text : pairs_right extended ordinary ≡ true → pairs_text extended ordinary ≡ plan_text (caption_list extended ordinary)
  unfolding pairs_text
  right_text h =
      let ts = caption_list extended ordinary in
      ap (answer_text transaction_line ts) (right_pairs extended ordinary board_address caption_bytes refl h)
      ∙ rw (le-leb (length (packed ts)) caption_bytes (captions-length extended ordinary h))

  -- others are refused
  pub wrong_text : pairs_right extended ordinary ≡ false → pairs_text extended ordinary ≡ refused_line 3 caption_field
  unfolding pairs_text
  wrong_text h = ap (answer_text transaction_line (caption_list extended ordinary)) (wrong_pairs extended ordinary board_address caption_bytes refl h)

  -- a plan's text is short
  planned_short : pairs_right extended ordinary ≡ true → length (plan_text (caption_list extended ordinary)) ≤ most_text
  planned_short h =
      let ts = caption_list extended ordinary in
      let few : length ts ≤ 2 = omega (arith, captions-length extended ordinary h, packed-length ts, data_of ts (captions_sized extended ordinary h)) in
      let pairs = data_of ts (captions_sized extended ordinary h) in
      let cost = bytes_count ts in
      omega (
        arith,
        text_length ts,
        first-length (length ts) (bus_bytes ts),
        decimal-most 0 (length ts) (omega arith),
        decimal-most 0 (bus_bytes ts) (omega arith),
      )

  -- no text of pairs is longer
  pairs_short : length (pairs_text extended ordinary) ≤ most_text
  pairs_short = split (pairs_right extended ordinary) refl
    where
      split : (b : Bool) → pairs_right extended ordinary ≡ b → length (pairs_text extended ordinary) ≤ most_text
      split true h = rw (right_text h) (planned_short h)
      split false h = rw (wrong_text h) (omega (arith, refused-length))

-- no text is longer
pub short : (input : List ℕ) → length (caption_text input) ≤ most_text
unfolding caption_text
short input = split (eqb (length input) pair_size) (eqb (length input) (2 * pair_size))
  where
    split : (a b : Bool)
        → length (cond a (pairs_text [] (map pos input))
        (cond b (pairs_text (map pos (take pair_size input)) (map pos (drop pair_size input))) (refused_line 3 caption_field))) ≤ most_text
    split true b = pairs_short [] (map pos input)
    split false true = pairs_short (map pos (take pair_size input)) (map pos (drop pair_size input))
    split false false = omega (arith, refused-length)
