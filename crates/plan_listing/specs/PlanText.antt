-- Document 01, "Cases on each side": the program prints a line a transaction: subaddress and data in two-digit capital hexadecimal, one space between.
use Rattle.std.specs.Prelude.{List, ◌++◌, ℕ}
use Rattle.bus.specs.Transactions.{Transaction}
use Rattle.text.specs.Text.{line_end, hex_byte, hex_text}

-- a transaction's line: subaddress and data
unfoldable pub transaction_line : Transaction → List ℕ
transaction_line t = hex_byte t.subaddress ++ hex_text t.bytes ++ line_end
