-- Document 01, "Codings", gamma ratio p/q, p and q each 1 to 3: at n = 32, 64, 96, 128, 160, 192, 224 the byte is 16 plus
-- the whole number nearest to 224 times ((n-16)/224) to the power p/q. Another p or q is refusal 3.
use Rattle.std.specs.Prelude.{Bool, true, ◌&&◌, cond, ℕ, ◌+◌, ◌-◌, ◌≤◌, ◌<◌, ℤ, pos, nat_abs, length, get_or, drop}
use mathlib.Core.List.{List, [], ◌∷◌, map, foldr}
use Rattle.refusals.specs.Refusal.{Judged, accepted, refused}
use Rattle.field_table.specs.Blocks.{is, between}
use Rattle.adv7194_gamma.specs.Power.{nearest_power, NearestPower}

-- the places n of a curve's bytes
abbrev pub places : List ℕ
places = 32 ∷ 64 ∷ 96 ∷ 128 ∷ 160 ∷ 192 ∷ 224 ∷ []

-- the bytes of the ratio p/q, one at each n
unfoldable pub bytes_of : ℕ → ℕ → List ℕ
bytes_of p q = map (λ n. 16 + nearest_power (n - 16) p q) places

-- the curve of p/q: its bytes, or refusal 3
unfoldable pub curve_of : ℤ → ℤ → Judged (List ℕ)
curve_of p q = cond (between 1 3 p && between 1 3 q) (accepted (bytes_of (nat_abs p) (nat_abs q))) (refused 3)

-- the byte b at n is 16 plus a number that is nearest
pub record NearestByte (p q n b : ℕ) : Type 0 where
  pub base : 16 ≤ b
  pub nearest : NearestPower (n - 16) p q (b - 16)

-- where a curve is accepted, each of its bytes is nearest at its place
abbrev pub NearestBytes : ℤ → ℤ → Judged (List ℕ) → Type 0
NearestBytes p q (accepted bytes) = (k : ℕ) → k < length places → NearestByte (nat_abs p) (nat_abs q) (get_or places k 0) (get_or bytes k 0)
NearestBytes p q (refused n) = Unit {0}

-- ---- a curve's setting: ten numbers

-- each of some numbers is a byte
abbrev pub all_bytes : List ℤ → Bool
all_bytes zs = foldr (λ z rest. between 0 255 z && rest) true zs

-- the bytes of a curve by its numbers: kind (0 a ratio, 1 seven bytes), p, q, the seven bytes. Refused 3 where one is outside its range
unfoldable pub curve_codes : List ℤ → Judged (List ℕ)
curve_codes zs =
    cond (is 0 (get_or zs 0 (pos 0))) (curve_of (get_or zs 1 (pos 0)) (get_or zs 2 (pos 0)))
    (cond (is 1 (get_or zs 0 (pos 0)) && all_bytes (drop 3 zs)) (accepted (map nat_abs (drop 3 zs))) (refused 3))

-- the numbers of a curve that is read: seven bytes
abbrev pub curve_numbers : List ℕ → List ℤ
curve_numbers bytes = pos 1 ∷ pos 0 ∷ pos 0 ∷ map pos bytes
