-- What the text is written from, and the most bytes of each part.
use Rattle.std.specs.Prelude.{◌≡◌, List, ℕ, ◌+◌, ◌*◌, ◌≤◌, length}
use Rattle.refusals.specs.Verdict.{Verdict, good}
use Rattle.planning.specs.Plan.{Counts}
use Rattle.answer_listing.specs.AnswerText.{Holds}
use Rattle.adv7194_bus.specs.Kind.{register_count}
use Rattle.adv7194_least.specs.Demands.{wide_bytes}
use Rattle.why_lines.specs.RegisterLine.{register_width}

-- a lent plan holds what planning answered, and an image that was planned over has 54 bytes
pub record Ready (image plan : List ℕ) (v : Verdict Counts) : Type 0 where
  pub holds : Holds plan v
  pub most : length plan ≤ wide_bytes
  pub whole : (n : Counts) → v ≡ good n → length image ≡ register_count

-- ---- the most bytes of each

-- a transaction's line and those of its registers, by how many data bytes it has
abbrev pub transaction_width : ℕ → ℕ
transaction_width n = 3 * (n + 1) + register_width * n

-- the lines of a plan, for each byte of it
abbrev pub byte_width : ℕ
byte_width = 3 + register_width

-- the whole text: the first line's 50, and 36 for each of the 44 bytes of the longest plan
abbrev pub text_width : ℕ
text_width = 1_634
