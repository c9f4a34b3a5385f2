-- The lines of the registers that differ; and how many differences there are, by the ones of their map. Assumes nothing.
use mathlib.Core.Path.{◌≡◌, refl, sym, ap, ap₂, ◌∙◌}
use mathlib.Core.Bool.{Bool, true, false, cond}
use mathlib.Core.List.{List, [], ◌∷◌, ◌++◌, flat_map}
use Prim.Native.Nat.{ℕ, zero, suc, ◌+◌, ◌*◌, ◌/◌, ◌%◌, ◌^◌, ◌<◌}
use native.Mathlib.Nat.{pow-suc}
use native.Mathlib.Omega.{arith}
use lib.Count.{ones, ones_step}
use lib.ListN.{length}
use mir.Syntax.{w32}
use mir.Val.{to_z}
use Rattle.text.specs.Text.{line_end, hex_byte}
use Rattle.writing.specs.Ascii.{ascii}
use Rattle.template.specs.Template.{stands_for, filled}
use Rattle.template.proofs.TemplateLaws.{byte-number, byte-code}
use Rattle.adv7194_bus.specs.Kind.{register_count}
use Rattle.adv7194_table.specs.RawCodes.{outside_bits}
use Rattle.adv7194_table.proofs.TableLaws.{order_is}
use Rattle.adv7194_compare.specs.Differences.{those, field_differs, fields_differing, register_differs, registers_differing, map_of}
use Rattle.adv7194_compare.proofs.DifferenceLaws.{map_from, map_next, map-none, fields_map}
use Rattle.compare_fields.proofs.LineLaws.{those_from, lines_from}
use Rattle.compare_listing.specs.CompareText.{register_line}

-- the lines of the registers that differ
pub register-lines-all : (a b : List ℕ) (f : ℕ → List ℕ) → lines_from (register_differs a b) f 0 register_count ≡ flat_map f (registers_differing a b)
unfolding registers_differing
register-lines-all a b f = refl

-- a register's line by a template
pub register-filled : (a b : List ℕ) (r : ℕ) {x y : ℕ} → x ≡ outside_bits a r → y ≡ outside_bits b r → r < 256 → x < 256 → y < 256
    → filled (ascii "register # # | #" ++ line_end) (to_z w32 r ∷ to_z w32 x ∷ to_z w32 y ∷ []) ≡ register_line a b r
unfolding filled stands_for register_line hex_byte
register-filled a b r {x} {y} e f h k l =
    rw (byte-number r h, byte-number x k, byte-number y l, byte-code r h, byte-code x k, byte-code y l) (rw (e, f))

-- ---- how many there are

-- a map of one more than each number is twice the map
twice : (P : ℕ → Bool) (k n : ℕ) → map_from P (suc n) k ≡ 2 * map_from (λ i. P (suc i)) n k
twice P zero n = omega (arith, map-none P (suc n), map-none (λ i. P (suc i)) n)
twice P (suc k) n =
    omega (arith, map_next P (suc n) k, map_next (λ i. P (suc i)) n k, twice P k (suc n), doubled (P (suc n)))
  where
    doubled : (t : Bool) → cond t (2 ^ suc n) 0 ≡ 2 * cond t (2 ^ n) 0
    doubled true = omega (arith, pow-suc 2 n)
    doubled false = omega arith

-- as many of them
moved : (P : ℕ → Bool) (k n : ℕ) → length (those_from P (suc n) k) ≡ length (those_from (λ i. P (suc i)) n k)
unfolding those
moved P zero n = refl
moved P (suc k) n = split (P (suc n)) _ _ (moved P k (suc n))
  where
    split : (t : Bool) (x y : List ℕ) → length x ≡ length y → length (cond t (suc n ∷ x) x) ≡ length (cond t (n ∷ y) y)
    split true x y e = ap suc e
    split false x y e = e

-- a digit and the ones above it
ones_digit : (t : Bool) (m : ℕ) → ones (cond t 1 0 + 2 * m) ≡ cond t 1 0 + ones m
ones_digit true m =
    let e : (1 + 2 * m) % 2 ≡ 1 = omega arith in
    let f : (1 + 2 * m) / 2 ≡ m = omega arith in
    ones_step (1 + 2 * m) ∙ ap₂ (λ (x y : ℕ). x + ones y) e f
ones_digit false m =
    let e : (0 + 2 * m) % 2 ≡ 0 = omega arith in
    let f : (0 + 2 * m) / 2 ≡ m = omega arith in
    ones_step (0 + 2 * m) ∙ ap₂ (λ (x y : ℕ). x + ones y) e f

-- the ones of a map are as many as the numbers in it
map_ones : (k : ℕ) (P : ℕ → Bool) → ones (map_from P 0 k) ≡ length (those_from P 0 k)
unfolding those map_of ones
map_ones zero P = refl
map_ones (suc k) P =
    ap ones (map_next P 0 k ∙ ap (λ (m : ℕ). cond (P 0) 1 0 + m) (twice P k 0)) ∙ ones_digit (P 0) (map_from (λ i. P (suc i)) 0 k)
    ∙ ap (λ (n : ℕ). cond (P 0) 1 0 + n) (map_ones k (λ i. P (suc i)) ∙ sym (moved P k 0)) ∙ split (P 0) (those_from P 1 k)
  where
    split : (t : Bool) (rest : List ℕ) → cond t 1 0 + length rest ≡ length (cond t (0 ∷ rest) rest)
    split true rest = omega arith
    split false rest = omega arith

pub field-count : (a b : List ℕ) → ones (map_of (fields_differing a b)) ≡ length (fields_differing a b)
unfolding fields_differing
field-count a b =
    let P = field_differs a b in
    ap ones (fields_map a b ∙ twice P 28 0 ∙ omega arith) ∙ ones_digit false (map_from (λ i. P (suc i)) 0 28) ∙ omega (arith, map_ones 28 (λ i. P (suc i)))
    ∙ sym (moved P 28 0) ∙ ap (λ (l : List ℕ). length (those P l)) (sym order_is)

pub register-count : (a b : List ℕ) → ones (map_of (registers_differing a b)) ≡ length (registers_differing a b)
unfolding registers_differing
register-count a b = map_ones register_count (register_differs a b)
