-- The check register: it keeps within its six bits; what some payload bits make of it with its bits reversed, from one computed test over its 64 values
-- and theirs; and the payload's fourteen bits in steps of five, five and four. Assumes nothing.
use mathlib.Core.Path.{◌≡◌, refl, sym, ap, ◌∙◌}
use mathlib.Core.Bool.{Bool, true, false, xor}
use mathlib.Core.List.{List, [], ◌∷◌, foldl, foldl-append}
use Prim.Native.Nat.{ℕ, ◌/◌, ◌%◌, ◌^◌, ◌<◌}
use native.Mathlib.Nat.{mod-lt, mod-mod}
use lib.Bits.{bit_xor, xor_mod}
use lib.Dec.{T, eqb, eqb→eq, ltb, ltb→lt, lit<}
use lib.Pow.{pow_pos, shr-shr}
use Rattle.bits.specs.Strings.{lsb_first, msb_first, lsb_value}
use Rattle.bits.proofs.StringLaws.{lsb_cat, msb_length, lsb_value-lt, lsb_low}
use Rattle.rounding.proofs.Range.{below, below_at}
use Rattle.adv7194_signalling.specs.Check.{after_bit, check_of, reversed}

-- a test at each register and each number below n
abbrev each : ℕ → (ℕ → ℕ → Bool) → Bool
each n P = below (λ r. below (P r) n) 64

at : (n : ℕ) (P : ℕ → ℕ → Bool) → T (each n P) → (r b : ℕ) → r < 64 → b < n → T (P r b)
at n P t r b hr hb = below_at (P r) n (below_at (λ r. below (P r) n) 64 t r hr) b hb

-- ---- the register keeps within its six bits

small : (r b : ℕ) → r < 64 → b < 2 → after_bit r (eqb b 1) < 64
unfolding after_bit xor
small r b hr hb = ltb→lt _ _ (at 2 (λ r b. ltb (after_bit r (eqb b 1)) 64) tt r b hr hb)

after_bit-lt : (r : ℕ) (b : Bool) → r < 64 → after_bit r b < 64
after_bit-lt r true h = small r 1 h (lit< tt)
after_bit-lt r false h = small r 0 h (lit< tt)

after_bits_lt : (bs : List Bool) (r : ℕ) → r < 64 → foldl after_bit r bs < 64
after_bits_lt [] r h = h
after_bits_lt (b ∷ bs) r h = after_bits_lt bs (after_bit r b) (after_bit-lt r b h)

-- ---- the register with its bits reversed

-- it has six bits
pub reversed-lt : (r : ℕ) → reversed r < 64
reversed-lt r = rw (msb_length 6 r) at (lsb_value-lt (msb_first 6 r))

-- twice is as it was
reversed_twice : (r : ℕ) → r < 64 → reversed (reversed r) ≡ r
unfolding msb_first lsb_value
reversed_twice r h = eqb→eq _ _ (below_at (λ r. eqb (reversed (reversed r)) r) 64 tt r h)

-- six ones are as they were at once
reversed_ones : reversed 0b111111 ≡ 0b111111
unfolding msb_first lsb_value
reversed_ones = refl

-- whether w payload bits make of a register with its bits reversed what f makes of it and their feedback
abbrev goes_at : ℕ → (ℕ → ℕ → ℕ) → ℕ → ℕ → Bool
goes_at w f check bits = eqb (f check (bit_xor check bits % 2 ^ w)) (reversed (foldl after_bit (reversed check) (lsb_first w bits)))

-- they do at each register
abbrev pub Goes : ℕ → (ℕ → ℕ → ℕ) → Type 0
Goes w f = T (each (2 ^ w) (goes_at w f))

-- and so do the w lowest bits of any number
pub by_feedback : (w : ℕ) (f : ℕ → ℕ → ℕ) → Goes w f → (check bits : ℕ) → check < 64
    → f check (bit_xor check bits % 2 ^ w) ≡ reversed (foldl after_bit (reversed check) (lsb_first w bits))
by_feedback w f t check bits h =
    let low : bit_xor check bits % 2 ^ w ≡ bit_xor check (bits % 2 ^ w) % 2 ^ w =
    xor_mod check bits w ∙ ap (λ (b : ℕ). bit_xor (check % 2 ^ w) b) (sym (mod-mod bits (2 ^ w))) ∙ sym (xor_mod check (bits % 2 ^ w) w) in
    ap (λ (feedback : ℕ). f check feedback) low
    ∙ eqb→eq _ _ (at (2 ^ w) (goes_at w f) t check (bits % 2 ^ w) h (mod-lt bits (pow_pos w)))
    ∙ ap (λ (bs : List Bool). reversed (foldl after_bit (reversed check) bs)) (lsb_low w bits)

-- ---- the payload's bits in steps

-- the payload's fourteen are five, five and four
steps : (payload : ℕ)
    → check_of payload ≡ foldl after_bit (foldl after_bit (foldl after_bit 0b111111 (lsb_first 5 payload)) (lsb_first 5 (payload / 32))) (lsb_first 4 (payload / 1024))
unfolding check_of
steps payload = rw (lsb_cat 5 9 payload, lsb_cat 5 4 (payload / 32), foldl-append, foldl-append, shr-shr payload 5 5)

-- the register's reversed form after some bits, reversed back for the next
reversed-back : (check r : ℕ) (bs : List Bool) → reversed check ≡ r → r < 64 → reversed (reversed (foldl after_bit (reversed check) bs)) ≡ foldl after_bit r bs
reversed-back check r bs e h = rw e (reversed_twice (foldl after_bit r bs) (after_bits_lt bs r h))

-- the steps with the register reversed between them
pub check_reversed : (payload five ten : ℕ) → five ≡ reversed (foldl after_bit (reversed 0b111111) (lsb_first 5 payload))
    → ten ≡ reversed (foldl after_bit (reversed five) (lsb_first 5 (payload / 32)))
    → reversed (foldl after_bit (reversed ten) (lsb_first 4 (payload / 1024))) ≡ reversed (check_of payload)
check_reversed payload five ten e f =
    let one = foldl after_bit 0b111111 (lsb_first 5 payload) in
    let at_five : reversed five ≡ one = ap reversed e ∙ reversed-back 0b111111 0b111111 (lsb_first 5 payload) reversed_ones (lit< tt) in
    let at-ten = ap reversed f ∙ reversed-back five one (lsb_first 5 (payload / 32)) at_five (after_bits_lt (lsb_first 5 payload) 0b111111 (lit< tt)) in
    rw (at-ten, steps payload)
