-- Document 01, "Cases on each side": the program plans the house setting over an image and prints transactions, bus bytes, then a line a
-- transaction; or the refusal, by its number and its field. The image is known in full. Document 02, P6: it plans with 54.
use Rattle.std.specs.Prelude.{List, ℕ}
use Rattle.plan_listing.specs.PlanText.{transaction_line}
use Rattle.answer_listing.specs.AnswerText.{answer_text}
use Rattle.adv7194_bus.specs.Kind.{board_address}
use Rattle.adv7194_bus.specs.Limit.{no_limit}
use Rattle.adv7194_bus.specs.declared.board.Board.{Board}
use Rattle.adv7194_bus.specs.Board.{board_of, all_known}
use Rattle.adv7194_settings.specs.House.{house}
use Rattle.adv7194_least.specs.Demands.{wide_bytes}
use Rattle.adv7194_planning.specs.Rows.{list_of}
use Rattle.adv7194_planning.specs.Planning.{planning_of}

-- the board of an image: every register is known
abbrev pub board_in : List ℕ → Board
board_in image = board_of image all_known

-- the text of the house setting planned over an image, with a lent plan of that many bytes
unfoldable pub house_text_in : List ℕ → ℕ → List ℕ
house_text_in image room =
    answer_text transaction_line (list_of (board_in image) house no_limit) (planning_of (board_in image) house board_address no_limit room)

-- the text with room for the longest plan: what the program prints
abbrev pub house_text : List ℕ → List ℕ
house_text image = house_text_in image wide_bytes
