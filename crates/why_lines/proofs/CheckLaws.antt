-- The checks find no fault of the house setting over an image of 54 bytes that is known in full. Assumes nothing.
use mathlib.Core.Path.{◌≡◌, refl, ap, ◌∙◌}
use mathlib.Core.List.{List}
use Prim.Native.Nat.{ℕ}
use lib.ListN.{length}
use borrow.Author.Tests.{eq-eqb}
use Rattle.refusals.specs.Verdict.{Verdict, good, after}
use Rattle.adv7194_bus.specs.Kind.{register_count}
use Rattle.adv7194_bus.specs.Kind.{board_address}
use Rattle.adv7194_bus.specs.Limit.{no_limit}
use Rattle.adv7194_table.specs.Table.{table, order_of}
use Rattle.adv7194_settings.specs.House.{house}
use Rattle.adv7194_settings.proofs.ReadingLaws.{none-unknown}
use Rattle.adv7194_planning.proofs.CaseLaws.{table-fields, lowest_unfixed, by_register}
use Rattle.adv7194_planning.proofs.CheckLaws.{verdict, unknown_verdict, check_settings}
use Rattle.adv7194_planning.proofs.KnownLaws.{none_unfixed}
use Rattle.adv7194_reasons.specs.Reasons.{Reason}
use Rattle.adv7194_reasons.specs.Why.{reason_in, why_of}
use Rattle.adv7194_reasons.proofs.WhyLaws.{why_checks}
use Rattle.house_listing.specs.HouseText.{board_in}
use Rattle.house_listing.proofs.HouseLaws.{house-good, house-count}

-- the reason of a register in the plan of the house setting over an image
abbrev pub house_reason : List ℕ → ℕ → Reason
house_reason image = reason_in (board_in image) house no_limit

module _ (image : List ℕ) where
  -- no register is unknown
  none-refused : unknown_verdict (board_in image) house board_address no_limit 0 ≡ good tt
  none-refused =
      by_register (board_in image) house board_address no_limit 0 (order_of table) table-fields
      ∙ rw (eq-eqb (lowest_unfixed (board_in image) house) 0 (none_unfixed (board_in image) house (none-unknown image)))

  -- the checks after the image's length find no fault
  no_fault : verdict (board_in image) house board_address no_limit 0 ≡ good tt
  no_fault =
      check_settings (board_in image) house board_address no_limit 0 refl house-count
      ∙ ap (λ (v : Verdict (Unit {0})). after v (unknown_verdict (board_in image) house board_address no_limit 0)) house-good ∙ none-refused

  -- so the answer is the reason
  pub house-passes : (r : ℕ) → length image ≡ register_count → why_of (board_in image) house no_limit r ≡ good (house_reason image r)
  house-passes r h =
      why_checks (board_in image) house no_limit r h ∙ ap (λ (v : Verdict (Unit {0})). after v (good (house_reason image r))) no_fault
