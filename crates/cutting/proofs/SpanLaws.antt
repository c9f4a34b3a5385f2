-- The map of a span of registers, and the maps of a list with one transaction more. Assumes nothing.
use mathlib.Core.Path.{◌≡◌, refl, sym, ap, ◌∙◌}
use mathlib.Core.Bool.{Bool, true, false, not, ◌&&◌, ◌||◌}
use mathlib.Core.List.{List, ◌∷◌}
use Prim.Native.Nat.{ℕ, ◌+◌, ◌-◌, ◌*◌, ◌%◌, ◌^◌, ◌≤◌, ◌<◌}
use native.Mathlib.Nat.{mod-lt, mod-eq_of_lt, lt_of_lt_of_le}
use native.Mathlib.Omega.{arith}
use lib.Bits.{bit_and, bit_or}
use lib.Dec.{leb, ltb, eqb}
use lib.ListN.{length}
use lib.Pow.{pow_pos, pow_mono, ones_lt, shl_lt}
use borrow.Author.Tests.{ltb-true, ltb-false, leb-true, leb-false, eq-eqb, ne_eqb}
use Rattle.bits.specs.Maps.{has}
use Rattle.bits.proofs.DigitLaws.{one_shl}
use Rattle.bits.proofs.SetLaws.{has_and, has_or, has_not, has_span}
use Rattle.bus.specs.Transactions.{Transaction}
use Rattle.cutting.specs.Spans.{touched, begun, MapsSoFar}

-- ---- the map of a span

-- the map of one register isn't empty
pub some_power : (n : ℕ) → n < 64 → 1 ≤ (1 * 2 ^ n) % 2 ^ 64
some_power n h = rw (one_shl n 64 h) (pow_pos n)

-- n registers from s on, in a map of 64
span_has : (s n x : ℕ) → s + n ≤ 64 → has (((2 ^ n - 1) * 2 ^ s) % 2 ^ 64) x ≡ (leb s x && ltb x (s + n))
span_has s n x h =
    let fits : (2 ^ n - 1) * 2 ^ s < 2 ^ 64 = lt_of_lt_of_le (shl_lt n s (ones_lt n)) (pow_mono {i = n + s} {j = 64} (omega arith)) in
    ap (λ (m : ℕ). has m x) (mod-eq_of_lt fits) ∙ has_span s n x

-- the map with a span more
pub span_taken : (m s e x : ℕ) → s < e → e < 64
    → has (bit_or m ((((1 * 2 ^ (e - s)) % 2 ^ 64 - 1) * 2 ^ s) % 2 ^ 64)) x ≡ (has m x || (leb s x && ltb x e))
span_taken m s e x h k =
    let q : s + (e - s) ≡ e = omega arith in
    has_or m ((((1 * 2 ^ (e - s)) % 2 ^ 64 - 1) * 2 ^ s) % 2 ^ 64) x
    ∙ ap (λ (b : Bool). has m x || b)
    (ap (λ (n : ℕ). has (((n - 1) * 2 ^ s) % 2 ^ 64) x) (one_shl (e - s) 64 (omega arith))
    ∙ span_has s (e - s) x (omega arith) ∙ ap (λ (n : ℕ). leb s x && ltb x n) q)

-- the map of one register
pub one_has : (s x : ℕ) → s < 64 → has ((1 * 2 ^ s) % 2 ^ 64) x ≡ eqb s x
one_has s x h = span_has s 1 x (omega arith) ∙ same (leb s x) refl (ltb x (s + 1)) refl
  where
    same : (a : Bool) → leb s x ≡ a → (b : Bool) → ltb x (s + 1) ≡ b → (a && b) ≡ eqb s x
    same true e true f = let d = leb-true s x e in let g = ltb-true x (s + 1) f in sym (eq-eqb s x (omega arith))
    same true e false f = let g = ltb-false x (s + 1) f in sym (ne_eqb s x (omega arith))
    same false e b f = let d = leb-false s x e in sym (ne_eqb s x (omega arith))

-- a map with one register more
pub one_more : (m s x : ℕ) → s < 64 → has (bit_or m ((1 * 2 ^ s) % 2 ^ 64)) x ≡ (has m x || eqb s x)
one_more m s x h = has_or m ((1 * 2 ^ s) % 2 ^ 64) x ∙ ap (λ (b : Bool). has m x || b) (one_has s x h)

-- and with one less
pub one_less : (m s x : ℕ) → s < 64 → x < 64 → has (bit_and m (2 ^ 64 - 1 - (1 * 2 ^ s) % 2 ^ 64)) x ≡ (has m x && not (eqb s x))
one_less m s x h k =
    has_and m (2 ^ 64 - 1 - (1 * 2 ^ s) % 2 ^ 64) x
    ∙ ap (λ (b : Bool). has m x && b) (has_not 64 ((1 * 2 ^ s) % 2 ^ 64) x (mod-lt (1 * 2 ^ s) (pow_pos 64)) k ∙ ap not (one_has s x h))

-- ---- a list with one transaction less to come

-- either of three
or_assoc : (a b c : Bool) → (a || (b || c)) ≡ ((a || b) || c)
or_assoc true b c = refl
or_assoc false b c = refl

-- the maps with that transaction
pub sofar_more : (ts rest : List Transaction) (taken starts taken' starts' a e : ℕ) (bytes : List ℕ) → a + length bytes ≡ e
    → ((x : ℕ) → has taken' x ≡ (has taken x || (leb a x && ltb x e))) → ((x : ℕ) → has starts' x ≡ (has starts x || eqb a x))
    → MapsSoFar ts (record { subaddress = a; bytes = bytes } ∷ rest) taken starts → MapsSoFar ts rest taken' starts'
unfolding touched begun
sofar_more ts rest taken starts taken' starts' a e bytes n t s h = record {
  touches = λ x.
      h.touches x ∙ or_assoc (has taken x) (leb a x && ltb x (a + length bytes)) (touched rest x)
      ∙ ap (λ (b : Bool). b || touched rest x) (ap (λ (k : ℕ). has taken x || (leb a x && ltb x k)) n ∙ sym (t x));
  begins = λ x. h.begins x ∙ or_assoc (has starts x) (eqb a x) (begun rest x) ∙ ap (λ (b : Bool). b || begun rest x) (sym (s x));
}
