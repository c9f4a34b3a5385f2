-- A line that was written: its text is within its bytes, and is the part of them that its length says. Assumes nothing.
use mathlib.Core.Path.{◌≡◌}
use mathlib.Core.List.{List}
use Prim.Native.Nat.{ℕ, ◌-◌, ◌≤◌}
use native.Mathlib.Nat.{sub-zero}
use native.Mathlib.Omega.{arith}
use lib.ListN.{length, take, length-append}
use lib.Seq.{take-append_seam}
use Rattle.text.specs.Line.{zeros}
use Rattle.listing.specs.declared.Line.{Line}
use Rattle.listing.specs.Written.{line_width, line_of}

module _ (line : Line) (text : List ℕ) (e : line ≡ line_of text) where
  pub line_long : line.length ≤ length line.bytes
  unfolding line_of
  line_long = rw e (omega (arith, length-append text (zeros (line_width - length text))))

  pub line_part : take (line.length - 0) line.bytes ≡ text
  unfolding line_of
  line_part = rw (sub-zero, e) (take-append_seam text (zeros (line_width - length text)))

  pub line_front : take line.length line.bytes ≡ text
  unfolding line_of
  line_front = rw e (take-append_seam text (zeros (line_width - length text)))
