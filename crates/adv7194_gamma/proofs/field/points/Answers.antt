-- `field::points` meets its contract: each number is a byte, and the machine keeps it. Assumes nothing.
use mathlib.Core.Path.{◌≡◌, sym, ap}
use mathlib.Core.List.{List, map}
use mathlib.Core.Bool.{true}
use Prim.Native.Nat.{ℕ, ◌+◌}
use lib.IntN.{ℤ, pos, nat_abs}
use lib.ListN.{get_or, drop}
use mir.Syntax.{w32}
use Rattle.rounding.proofs.Range.{back}
use Rattle.adv7194_gamma.specs.Curve.{all_bytes}
use Rattle.adv7194_gamma.proofs.ByteLaws.{byte_at, byte-back, seven}
use Rattle.adv7194_gamma.proofs.field.points.Goals as goal

kept : (zs : List ℤ) → all_bytes (drop 3 zs) ≡ true → (i : ℕ) → back w32 (get_or zs (3 + i) (pos 0)) ≡ get_or zs (3 + i) (pos 0)
kept zs e i = byte-back _ (byte_at zs e i)

pub returns : goal.returns
returns c =
    let k = kept c.args.numbers.now c.requires.1 in
    record { answer = rw (k 0, k 1, k 2, k 3, k 4, k 5, k 6) (sym (ap (map nat_abs) (seven c.args.numbers.now c.requires.0))) }
