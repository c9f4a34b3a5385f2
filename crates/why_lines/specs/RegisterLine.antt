-- Document 02, P7, for the front desk: the line of a register sent, its number and the reason in plain words; and the most bytes of each.
use Rattle.std.specs.Prelude.{List, [], ◌++◌, ℕ, ◌+◌}
use Rattle.refusals.specs.Verdict.{Verdict, good, refused_at}
use Rattle.text.specs.Text.{space, line_end, hex_byte}
use Rattle.writing.specs.Ascii.{ascii}
use Rattle.adv7194_names.specs.Names.{named}
use Rattle.adv7194_reasons.specs.Reasons.{Reason, not_sent, unknown, changed, zeroed, companion, bridge}

-- a reason in plain words
unfoldable pub reason_text : Reason → List ℕ
reason_text not_sent = ascii "not sent"
reason_text unknown = ascii "not known"
reason_text (changed f) = ascii (named f).name ++ ascii " changed"
reason_text zeroed = ascii "must be zero"
reason_text companion = ascii "sent with the subcarrier word"
reason_text (bridge i j) = ascii "between " ++ hex_byte i ++ ascii " and " ++ hex_byte j

-- a register's line: its number and the reason
unfoldable pub register_line : ℕ → Reason → List ℕ
register_line r k = hex_byte r ++ space ++ reason_text k ++ line_end

-- an answer in plain words: those of the reason, none for a refusal
abbrev pub answer_words : Verdict Reason → List ℕ
answer_words (good k) = reason_text k
answer_words (refused_at n f) = []

-- ---- the most bytes of each

-- a reason
abbrev pub reason_width : ℕ
reason_width = 29

-- a register's line: its number, a space, the reason and the line end
abbrev pub register_width : ℕ
register_width = 2 + 1 + reason_width + 1
