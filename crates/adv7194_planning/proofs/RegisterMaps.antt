-- The maps of the registers that must and may be written, that are needed, and before which no transaction may end.
-- Assumes nothing.
use mathlib.Core.Path.{◌≡◌, refl, sym, ap, ap₂, ◌∙◌}
use mathlib.Core.Logic.{inr}
use mathlib.Core.Bool.{Bool, true, false, cond, not, ◌&&◌, ◌||◌, and-true, and-false, or-true, or-false}
use Prim.Native.Nat.{ℕ, ◌^◌, ◌<◌}
use native.Mathlib.Omega.{arith}
use lib.Bits.{bit_and, bit_or, and_le_l}
use lib.Count.{count_trailing_zeros}
use lib.Dec.{eqb, lit<}
use borrow.Author.Tests.{le-ltb, eqb-true, ne_eqb}
use Rattle.bits.specs.Maps.{has, complement}
use Rattle.bits.proofs.MapLaws.{least}
use Rattle.bits.proofs.FlagLaws.{both_true}
use Rattle.bits.proofs.Checks.{agrees, below, map_is}
use Rattle.bits.proofs.SetLaws.{has_and, has_or, none_has, has-without, same_map}
use Rattle.adv7194_bus.specs.Kind.{register_count}
use Rattle.bus.specs.Registers.{among}
use Rattle.adv7194_least.specs.Plan.{writable, in_word, word_in, with_word}
use Rattle.bus.proofs.RegisterLaws.{among_true, among_out}
use Rattle.adv7194_least.proofs.TaskLaws.{need-word, must-needed}

-- the word's registers
abbrev pub word_map : ℕ
word_map = 0xF000

pub word-is : (i : ℕ) → has word_map i ≡ in_word i
unfolding below agrees
word-is = map_is word_map in_word (lit< tt) tt (λ i h. among_out 0x0c 0x0f i (inr (omega arith)))

-- the registers that a byte may be written to
writable-is : (i : ℕ) → has 0x2F_FFFF_FFE1_FFFF i ≡ writable i
unfolding below agrees
writable-is = map_is 0x2F_FFFF_FFE1_FFFF writable (lit< tt) tt (λ i h. rw (le-ltb i register_count (omega arith)))

-- ---- by which registers are known

-- not known and fixed only in part
pub unfixed_has : (partly known : ℕ) → partly < 2 ^ 64 → known < 2 ^ 64
    → (i : ℕ) → has (bit_and partly (complement known)) i ≡ (not (has known i) && has partly i)
unfixed_has partly known hp hk i = has-without partly known i hp hk

-- known ones that changed, and others that are fixed
pub must-has : (changed known fixed : ℕ) → known < 2 ^ 64 → fixed < 2 ^ 64
    → (i : ℕ) → has (bit_or (bit_and changed known) (bit_and fixed (complement known))) i ≡ cond (has known i) (has changed i) (has fixed i)
must-has changed known fixed hk hf i =
    has_or (bit_and changed known) (bit_and fixed (complement known)) i
    ∙ ap₂ (λ (x y : Bool). x || y) (has_and changed known i) (has-without fixed known i hf hk)
    ∙ by (has known i) (has changed i) (has fixed i)
  where
    by : (k c f : Bool) → ((c && k) || (not k && f)) ≡ cond k c f
    by true true f = refl
    by true false f = refl
    by false true f = refl
    by false false f = refl

-- those that may be written and are known or fixed
pub allowed-has : (known fixed i : ℕ) → has (bit_and 0x2F_FFFF_FFE1_FFFF (bit_or known fixed)) i ≡ (writable i && (has known i || has fixed i))
allowed-has known fixed i =
    has_and 0x2F_FFFF_FFE1_FFFF (bit_or known fixed) i ∙ ap₂ (λ (x y : Bool). x && y) (writable-is i) (has_or known fixed i)

-- ---- the needed registers

module _ (d : ℕ) where
  pub in_both : (i : ℕ) → has (bit_and d word_map) i ≡ (has d i && in_word i)
  in_both i = has_and d word_map i ∙ ap (λ (b : Bool). has d i && b) (word-is i)

  -- where no register of the word differs
  pub none_in_word : bit_and d word_map ≡ 0 → (i : ℕ) → has d i ≡ with_word (has d) i
  none_in_word e i = split (in_word i) refl
    where
      none : (r : ℕ) → (has d r && in_word r) ≡ false
      none r = sym (in_both r) ∙ ap (λ (m : ℕ). has m r) e ∙ none_has r

      out : (a : Bool) → (a && true) ≡ false → a ≡ false
      out true p = p
      out false p = refl

      no_word : word_in (has d) ≡ false
      no_word = rw (out (has d 0x0c) (none 0x0c), out (has d 0x0d) (none 0x0d), out (has d 0x0e) (none 0x0e), out (has d 0x0f) (none 0x0f))

      split : (b : Bool) → in_word i ≡ b → has d i ≡ cond b (word_in (has d)) (has d i)
      split true p = out (has d i) (sym (ap (λ (b : Bool). has d i && b) p) ∙ none i) ∙ sym no_word
      split false p = refl

  -- where one does
  pub some_in_word : d < 2 ^ 64 → (bit_and d word_map ≡ 0 → ⊥) → (i : ℕ) → has (bit_or d word_map) i ≡ with_word (has d) i
  some_in_word h n i = has_or d word_map i ∙ ap (λ (b : Bool). has d i || b) (word-is i) ∙ split (in_word i)
    where
      word : word_in (has d) ≡ true
      word =
          let m = bit_and d word_map in
          let r = count_trailing_zeros 64 m in
          let l = least 64 m (omega arith) (omega (arith, and_le_l d word_map)) in
          let q = both_true (has d r) (in_word r) (sym (in_both r) ∙ rw l.isset) in
          let a = among_true 0x0c 0x0f r q.1 in
          sym (need-word (has d) r a.0 a.1) ∙ must-needed (has d) r q.0

      split : (b : Bool) → (has d i || b) ≡ cond b (word_in (has d)) (has d i)
      split true = or-true (has d i) ∙ sym word
      split false = or-false (has d i)

-- ---- the registers before which no transaction may end

-- the word's first register, and the others
first-is : (i : ℕ) → has 0x1000 i ≡ eqb i 0x0c
unfolding below agrees
first-is = map_is 0x1000 (λ i. eqb i 0x0c) (lit< tt) tt (λ i h. ne_eqb i 0x0c (omega arith))

rest-is : (i : ℕ) → has 0xE000 i ≡ among 0x0d 0x0f i
unfolding below agrees
rest-is = map_is 0xE000 (among 0x0d 0x0f) (lit< tt) tt (λ i h. among_out 0x0d 0x0f i (inr (omega arith)))

module _ (n : ℕ) where
  -- where the first is not needed
  pub held_none : bit_and n 0x1000 ≡ 0 → (i : ℕ) → has 0 i ≡ (among 0x0d 0x0f i && has n 0x0c)
  held_none e i =
      let w = sym (and-true (has n 0x0c)) ∙ sym (has_and n 0x1000 0x0c) ∙ ap (λ (m : ℕ). has m 0x0c) e in
      none_has i ∙ sym (rw w (and-false (among 0x0d 0x0f i)))

  -- where it is
  pub held-some : (bit_and n 0x1000 ≡ 0 → ⊥) → (i : ℕ) → has 0xE000 i ≡ (among 0x0d 0x0f i && has n 0x0c)
  held-some e i = by (has n 0x0c) refl
    where
      -- a map without it
      without : has n 0x0c ≡ false → (x : ℕ) (b : Bool) → eqb x 0x0c ≡ b → (has n x && b) ≡ false
      without w x true u = rw (eqb-true x 0x0c u, w)
      without w x false u = and-false (has n x)

      by : (b : Bool) → has n 0x0c ≡ b → has 0xE000 i ≡ (among 0x0d 0x0f i && b)
      by true w = rest-is i ∙ sym (and-true (among 0x0d 0x0f i))
      by false w =
          absurd
          (e
          (same_map (bit_and n 0x1000) 0
          (λ x. has_and n 0x1000 x ∙ ap (λ (b : Bool). has n x && b) (first-is x) ∙ without w x (eqb x 0x0c) refl ∙ sym (none_has x))))
