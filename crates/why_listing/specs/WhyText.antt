-- Document 02, P7, for the front desk: the house setting planned over an image that is known in full, as `house_plan` prints it, and under each transaction's
-- line one line for each register sent: its number, and the reason in plain words.
use Rattle.std.specs.Prelude.{List, [], ◌++◌, ℕ, zero, suc}
use Rattle.bus.specs.Transactions.{Transaction, size}
use Rattle.plan_listing.specs.PlanText.{transaction_line}
use Rattle.answer_listing.specs.AnswerText.{answer_text}
use Rattle.adv7194_bus.specs.Kind.{board_address}
use Rattle.adv7194_bus.specs.Limit.{no_limit}
use Rattle.adv7194_settings.specs.House.{house}
use Rattle.adv7194_least.specs.Demands.{wide_bytes}
use Rattle.adv7194_planning.specs.Rows.{list_of}
use Rattle.adv7194_planning.specs.Planning.{planning_of}
use Rattle.adv7194_reasons.specs.Reasons.{Reason}
use Rattle.adv7194_reasons.specs.Why.{reason_in}
use Rattle.house_listing.specs.HouseText.{board_in}
use Rattle.why_lines.specs.RegisterLine.{register_line}

-- the lines of k registers from r on, by the reason of each
unfoldable pub register_lines : (ℕ → Reason) → ℕ → ℕ → List ℕ
register_lines why zero r = []
register_lines why (suc k) r = register_line r (why r) ++ register_lines why k (suc r)

-- a transaction's line, and under it a line for each register sent
abbrev pub transaction_text : (ℕ → Reason) → Transaction → List ℕ
transaction_text why t = transaction_line t ++ register_lines why (size t) t.subaddress

-- the text of the house setting planned over an image
unfoldable pub house_why_text : List ℕ → List ℕ
house_why_text image =
    answer_text (transaction_text (reason_in (board_in image) house no_limit)) (list_of (board_in image) house no_limit)
    (planning_of (board_in image) house board_address no_limit wide_bytes)
