-- The test that a play call makes of a list whose starts ascend holds exactly for the lists of right pairs. Assumes nothing.
use mathlib.Core.Path.{◌≡◌, refl, sym, ap, ap₂, ◌∙◌, subst⁻¹}
use mathlib.Core.Logic.{◌⊎◌, inl, inr, ⊎_elim, ◌↔◌}
use mathlib.Core.Bool.{true, ◌&&◌, ◌||◌}
use mathlib.Core.List.{List, [], ◌∷◌, ◌++◌}
use Prim.Native.Nat.{ℕ, ◌+◌, ◌^◌, ◌≤◌, ◌<◌}
use native.Mathlib.Nat.{mod-lt}
use native.Mathlib.Omega.{arith}
use lib.Dec.{T, eqb, leb, ltb, eqb→eq, leb→le}
use lib.IntN.{ℤ, pos, nat_abs}
use lib.ListN.{length, get_or}
use lib.Pow.{pow_pos}
use borrow.Author.Tests.{le-leb, lt-ltb}
use Rattle.bits.proofs.FlagLaws.{both, first, second, either, holds}
use Rattle.bits.proofs.ParityLaws.{parity_odd, parity_only}
use Rattle.bus.specs.Transactions.{Transaction, size, end}
use Rattle.packing.specs.Packing.{encodable, arranged, ascending}
use Rattle.unpacking.proofs.Tests.{encodable_facts}
use Rattle.adv7194_captions.specs.Characters.{is_character, caption_byte, is_odd, character_in}
use Rattle.adv7194_captions.specs.Pairs.{pair_right, pairs_right, pair_at, caption_list}
use Rattle.adv7194_captions.specs.Plans.{extended_pair, ordinary_pair, pair_size, all_odd, is_pair, all_pairs, Captions, are_captions}
use Rattle.adv7194_captions.proofs.PairLaws.{Character, Right, ordinary-alone, extended-alone, both_given, right}

-- ---- a transaction that passes the test writes a right pair

-- a byte with an odd count of ones is that of a character
record Byte (b : ℕ) : Type 0 where
  character : ℤ
  is_one : is_character character ≡ true
  leaves : b ≡ caption_byte character

byte : (b : ℕ) → b < 2 ^ 8 → T (is_odd b) → Byte b
byte b h odd =
    let low : character_in b < 2 ^ 7 = mod-lt b (pow_pos 7) in
    record {
      character = pos (character_in b);
      is_one = rw (le-leb 0 (character_in b) (omega arith), le-leb (character_in b) 127 (omega arith));
      leaves = sym (parity_only 7 b h (holds (is_odd b) odd));
    }

-- data of two such bytes are those of a right pair
record Data (bytes : List ℕ) : Type 0 where
  pair : List ℤ
  given : 0 < length pair
  is_right : pair_right pair ≡ true
  leave : (r : ℕ) → record { subaddress = r; bytes = bytes } ∷ [] ≡ pair_at r pair

two_data : (bytes : List ℕ) → length bytes ≡ pair_size → T (all_odd bytes) → ((i : ℕ) → get_or bytes i 0 < 2 ^ 8) → Data bytes
unfolding all_odd pair_at
two_data [] n odd h = absurd (omega arith)
two_data (a ∷ []) n odd h = absurd (omega arith)
two_data (a ∷ b ∷ []) n odd h =
    let p = byte a (h 0) (first (is_odd a) (is_odd b && true) odd) in
    let q = byte b (h 1) (first (is_odd b) true (second (is_odd a) (is_odd b && true) odd)) in
    record {
      pair = p.character ∷ q.character ∷ [];
      given = omega arith;
      is_right = rw (p.is_one, q.is_one);
      leave = λ r. ap₂ (λ (x y : ℕ). record { subaddress = r; bytes = x ∷ y ∷ [] } ∷ []) p.leaves q.leaves;
    }
two_data (a ∷ b ∷ c ∷ bs) n odd h = absurd (omega arith)

-- ---- the list

-- the first transaction of a list that passes the test, and the others
record First (free : ℕ) (t : Transaction) (ts : List Transaction) : Type 0 where
  from : free ≤ t.subaddress
  place : (t.subaddress ≡ extended_pair) ⊎ (t.subaddress ≡ ordinary_pair)
  two : size t ≡ pair_size
  holds-pair : Data t.bytes
  others : T (ascending (end t) ts)
  pairs : T (all_pairs ts)

-- the tests of it taken apart
first_of : (free : ℕ) (t : Transaction) (ts : List Transaction) → T (ascending free (t ∷ ts)) → T (all_pairs (t ∷ ts)) → First free t ts
unfolding arranged all_pairs
first_of free t ts o h =
    let s = t.subaddress in
    let place = eqb s extended_pair || eqb s ordinary_pair in
    let two = eqb (size t) pair_size in
    let odd = all_odd t.bytes in
    let next = ascending (end t) ts in
    let o₁ = second (leb free s) (encodable t && next) o in
    let h₁ = first (is_pair t) (all_pairs ts) h in
    let h₂ = first (place && two) odd h₁ in
    let n = eqb→eq (size t) pair_size (second place two h₂) in
    record {
      from = leb→le free s (first (leb free s) (encodable t && next) o);
      place = at (either (eqb s extended_pair) (eqb s ordinary_pair) (first place two h₂));
      two = n;
      holds-pair = two_data t.bytes n (second (place && two) odd h₁) (encodable_facts t (first (encodable t) next o₁)).bytes;
      others = second (encodable t) next o₁;
      pairs = second (is_pair t) (all_pairs ts) h;
    }
  where
    at : T (eqb t.subaddress extended_pair) ⊎ T (eqb t.subaddress ordinary_pair) → (t.subaddress ≡ extended_pair) ⊎ (t.subaddress ≡ ordinary_pair)
    at (inl p) = inl (eqb→eq t.subaddress extended_pair p)
    at (inr p) = inr (eqb→eq t.subaddress ordinary_pair p)

-- none comes past the ordinary pair
none-past : (free : ℕ) (ts : List Transaction) → ordinary_pair < free → T (ascending free ts) → T (all_pairs ts) → ts ≡ []
none-past free [] h o a = refl
none-past free (t ∷ ts) h o a = let f = first_of free t ts o a in absurd (⊎_elim (λ p. omega (arith, f.from)) (λ p. omega (arith, f.from)) f.place)

-- an ordinary pair that may be given, as the rest of a list
record Ordinary (ts : List Transaction) : Type 0 where
  pair : List ℤ
  is_right : pair_right pair ≡ true
  rest : ts ≡ pair_at ordinary_pair pair

-- the list of one at the ordinary pair's register
alone : {free : ℕ} {t : Transaction} {ts : List Transaction} (f : First free t ts) → t.subaddress ≡ ordinary_pair
    → t ∷ ts ≡ pair_at ordinary_pair f.holds-pair.pair
alone {t = t} {ts = ts} f p =
    ap (λ (us : List Transaction). t ∷ us) (none-past (end t) ts (omega (arith, f.two)) f.others f.pairs)
    ∙ f.holds-pair.leave t.subaddress ∙ ap (λ (r : ℕ). pair_at r f.holds-pair.pair) p

-- past the extended pair that is all that may come
ordinary-past : (free : ℕ) (ts : List Transaction) → extended_pair < free → T (ascending free ts) → T (all_pairs ts) → Ordinary ts
unfolding pair_at
ordinary-past free [] h o a = record { pair = []; is_right = refl; rest = refl }
ordinary-past free (t ∷ ts) h o a = let f = first_of free t ts o a in by f f.place
  where
    by : First free t ts → (t.subaddress ≡ extended_pair) ⊎ (t.subaddress ≡ ordinary_pair) → Ordinary (t ∷ ts)
    by f (inl p) = absurd (omega (arith, f.from))
    by f (inr p) = record { pair = f.holds-pair.pair; is_right = f.holds-pair.is_right; rest = alone f p }

-- right pairs, one of them given
pairs_right_lem : (es os : List ℤ) → pair_right es ≡ true → pair_right os ≡ true → 0 < length es + length os → pairs_right es os ≡ true
pairs_right_lem es os p q n = rw (p, q) (lt-ltb 0 (length es + length os) n)

-- so a list that passes the test is one of right pairs
only : (ts : List Transaction) → T (ascending 0 ts) → T (are_captions ts) → Captions ts
unfolding caption_list pair_at
only [] o a = absurd a
only (t ∷ ts) o a =
    let f = first_of 0 t ts o (second (ltb 0 (length (t ∷ ts))) (all_pairs (t ∷ ts)) a) in
    by f f.place
  where
    by : First 0 t ts → (t.subaddress ≡ extended_pair) ⊎ (t.subaddress ≡ ordinary_pair) → Captions (t ∷ ts)
    by f (inl p) =
        let d = f.holds-pair in
        let w = ordinary-past (end t) ts (omega (arith, f.two)) f.others f.pairs in
        record {
          extended = d.pair;
          ordinary = w.pair;
          right = pairs_right_lem d.pair w.pair d.is_right w.is_right (omega (arith, d.given));
          list = ap₂ (λ (us vs : List Transaction). us ++ vs) (d.leave t.subaddress ∙ ap (λ (r : ℕ). pair_at r d.pair) p) w.rest;
        }
    by f (inr p) =
        let d = f.holds-pair in
        record { extended = []; ordinary = d.pair; right = pairs_right_lem [] d.pair refl d.is_right (omega (arith, d.given)); list = alone f p }

-- ---- a list of right pairs passes the test

-- the bytes of a pair have odd counts of ones
odd_data : (a b : ℤ) → Character a → Character b → all_odd (caption_byte a ∷ caption_byte b ∷ []) ≡ true
unfolding all_odd
odd_data a b p q = rw (parity_odd 7 (nat_abs a) p.small, parity_odd 7 (nat_abs b) q.small)

passes : {es os : List ℤ} → Right es os → are_captions (caption_list es os) ≡ true
unfolding caption_list pair_at all_pairs
passes (ordinary-alone {c} {d} p q) = rw (odd_data c d p q)
passes (extended-alone {a} {b} p q) = rw (odd_data a b p q)
passes (both_given {a} {b} {c} {d} p q p' q') = rw (odd_data a b p q, odd_data c d p' q')

-- ---- both

-- where starts ascend, a play call takes exactly the lists of right pairs
pub just_these : (ts : List Transaction) → T (ascending 0 ts) → (are_captions ts ≡ true) ↔ Captions ts
just_these ts o = (
  λ e. only ts o (subst⁻¹ T e tt),
  λ w. ap are_captions w.list ∙ passes (right w.extended w.ordinary w.right),
)
