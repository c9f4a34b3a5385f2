-- An image after writes, bit by bit. Assumes nothing.
use mathlib.Core.Path.{◌≡◌, refl, sym, ap, ◌∙◌, subst}
use mathlib.Core.Bool.{Bool, true, false, cond, ◌&&◌}
use mathlib.Core.Logic.{◌⊎◌, inl, inr}
use mathlib.Core.List.{List, [], ◌∷◌, ◌++◌}
use Prim.Native.Nat.{ℕ, ◌+◌, ◌-◌, ◌^◌, ◌≤◌, ◌<◌}
use native.Mathlib.Omega.{arith}
use lib.Dec.{eqb, leb, ltb}
use lib.ListN.{length, get_or, set, length-set}
use lib.Seq.{get_or-set_same, get_or-set_other}
use borrow.Author.Tests.{eqb-true, eqb-false, leb-true, leb-false, ltb-true, ltb-false}
use Rattle.bits.specs.Fields.{bit, with_field}
use Rattle.bits.proofs.FieldLaws.{bit-inside, bit-outside, under}
use Rattle.field_table.specs.Writes.{Write, put, puts, sets, bit_after}

-- one more write
pub then_put : {l m n : List ℕ} (w : Write) → l ≡ put m w → m ≡ n → l ≡ put n w
then_put w e p = e ∙ ap (λ (x : List ℕ). put x w) p

-- writes after others
puts-append : (image : List ℕ) (vs ws : List Write) → puts image (vs ++ ws) ≡ puts (puts image vs) ws
unfolding puts
puts-append image [] ws = refl
puts-append image (v ∷ vs) ws = puts-append (put image v) vs ws

-- some more writes
pub then_puts : {l : List ℕ} (m n : List ℕ) (vs ws : List Write) → l ≡ puts m ws → m ≡ puts n vs → l ≡ puts n (vs ++ ws)
then_puts m n vs ws e p = e ∙ ap (λ (x : List ℕ). puts x ws) p ∙ sym (puts-append n vs ws)

-- ---- bit by bit

-- each write is to a register of the image, and its value fits its bits or there are none above them
abbrev pub AllFit : ℕ → List Write → Type 0
AllFit size [] = Unit {0}
AllFit size (w ∷ ws) = ((w.register < size) × ((w.value < 2 ^ w.width) ⊎ (8 ≤ w.place + w.width))) × AllFit size ws

pub fit_append : (size : ℕ) (vs ws : List Write) → AllFit size vs → AllFit size ws → AllFit size (vs ++ ws)
fit_append size [] ws p q = q
fit_append size (v ∷ vs) ws p q = (p.0, fit_append size vs ws p.1 q)

-- writes keep the number of registers
pub puts-length : (image : List ℕ) (ws : List Write) → length (puts image ws) ≡ length image
unfolding puts
puts-length image [] = refl
puts-length image (w ∷ ws) = puts-length (put image w) ws ∙ length-set image w.register _

-- a bit outside a write's bits
outside-bit : (w : Write) (old i : ℕ) → i < 8 → (w.value < 2 ^ w.width) ⊎ (8 ≤ w.place + w.width) → (i < w.place) ⊎ (w.place + w.width ≤ i)
    → bit i (with_field w.place w.width old w.value) ≡ bit i old
outside-bit w old i hi (inl hv) side = bit-outside w.place w.width old w.value i hv side
outside-bit w old i hi (inr full) (inl below) = under w.place w.width old w.value i 1 (omega arith)
outside-bit w old i hi (inr full) (inr above) = absurd (omega arith)

-- one write
put-bit : (image : List ℕ) (w : Write) (r i : ℕ) → i < 8 → w.register < length image → (w.value < 2 ^ w.width) ⊎ (8 ≤ w.place + w.width)
    → bit i (get_or (put image w) r 0) ≡ cond (sets w r i) (bit (i - w.place) w.value) (bit i (get_or image r 0))
put-bit image w r i hi hr hv = by (eqb r w.register) (leb w.place i) (ltb i (w.place + w.width)) refl refl refl
  where
    old : ℕ
    old = get_or image w.register 0

    new : ℕ
    new = with_field w.place w.width old w.value

    here : r ≡ w.register → get_or (set image w.register new) r 0 ≡ new
    here e = ap (λ (k : ℕ). get_or (set image w.register new) k 0) e ∙ get_or-set_same image w.register new 0 hr

    by : (a b d : Bool) → eqb r w.register ≡ a → leb w.place i ≡ b → ltb i (w.place + w.width) ≡ d
        → bit i (get_or (set image w.register new) r 0) ≡ cond (a && (b && d)) (bit (i - w.place) w.value) (bit i (get_or image r 0))
    by false b d p q s = ap (bit i) (get_or-set_other image w.register r new 0 (eqb-false r w.register p))
    by true true true p q s =
        ap (bit i) (here (eqb-true r w.register p))
        ∙ bit-inside w.place w.width old w.value i (leb-true w.place i q) (ltb-true i (w.place + w.width) s)
    by true true false p q s =
        ap (bit i) (here (eqb-true r w.register p)) ∙ outside-bit w old i hi hv (inr (ltb-false i (w.place + w.width) s))
        ∙ ap (λ (k : ℕ). bit i (get_or image k 0)) (sym (eqb-true r w.register p))
    by true false d p q s =
        ap (bit i) (here (eqb-true r w.register p)) ∙ outside-bit w old i hi hv (inl (leb-false w.place i q))
        ∙ ap (λ (k : ℕ). bit i (get_or image k 0)) (sym (eqb-true r w.register p))

-- all of them
pub puts-bit : (image : List ℕ) (ws : List Write) (r i : ℕ) → i < 8 → AllFit (length image) ws
    → bit i (get_or (puts image ws) r 0) ≡ bit_after (bit i (get_or image r 0)) ws r i
unfolding puts bit_after
puts-bit image [] r i hi h = refl
puts-bit image (w ∷ ws) r i hi h =
    puts-bit (put image w) ws r i hi (subst (λ (n : ℕ). AllFit n ws) (sym (length-set image w.register _)) h.1)
    ∙ ap (λ (b : ℕ). bit_after b ws r i) (put-bit image w r i hi h.0.0 h.0.1)
