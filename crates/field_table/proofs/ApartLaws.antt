-- Writes of which no two set the same bit are all read back; writes of what an image holds leave it as it is. Assumes nothing.
use mathlib.Core.Path.{◌≡◌, refl, sym, ap, ◌∙◌, subst}
use mathlib.Core.Bool.{Bool, true, false, not, ◌&&◌, ◌||◌}
use mathlib.Core.Logic.{◌⊎◌, inl, inr}
use mathlib.Core.List.{List, [], ◌∷◌}
use Prim.Native.Nat.{ℕ, ◌+◌, ◌*◌, ◌/◌, ◌%◌, ◌^◌, ◌≤◌, ◌<◌}
use native.Mathlib.Nat.{mod-lt, mul-add-mod_self_right}
use native.Mathlib.Omega.{arith}
use lib.Dec.{T, eqb, leb, ltb, leb→le, ltb→lt}
use lib.ListN.{length, get_or, set, length-set}
use lib.Pow.{pow_pos, high}
use lib.Seq.{get_or-set_same, get_or-set_other, set-get_or}
use borrow.Author.Tests.{eqb-true, eqb-false}
use Rattle.bits.specs.Fields.{field, with_field}
use Rattle.bits.proofs.FieldLaws.{above, under, write_back}
use Rattle.bits.proofs.FlagLaws.{first, second, either}
use Rattle.field_table.specs.Writes.{Write, put, puts, held, AllHeld}
use Rattle.field_table.proofs.WriteLaws.{AllFit}
use Rattle.bits.specs.Lists.{Every}

-- ---- no two set the same bit

-- a write's bits lie below another's
abbrev pub lower : Write → Write → Bool
lower w v = leb (w.place + w.width) v.place

-- two writes have no bit of a register in common
abbrev pub apart : Write → Write → Bool
apart w v = not (eqb w.register v.register) || (lower w v || lower v w && ltb w.place 8)

-- a write has none in common with any of some
abbrev pub apart_from : Write → List Write → Bool
apart_from w [] = true
apart_from w (v ∷ vs) = apart w v && apart_from w vs

-- no two of some have one in common
abbrev pub all_apart : List Write → Bool
all_apart [] = true
all_apart (w ∷ ws) = apart_from w ws && all_apart ws

-- what a write puts is read back, of a value that doesn't fit the lowest bits
put_back : (k j b v : ℕ) → field k j (with_field k j b v) ≡ v % 2 ^ j
put_back k j b v =
    let top = b / 2 ^ (k + j) in
    ap (λ (x : ℕ). x % 2 ^ j) (high (top * 2 ^ j + v) k (mod-lt b (pow_pos k))) ∙ mul-add-mod_self_right top (2 ^ j) v

-- another write leaves it
put-kept : (image : List ℕ) (w v : Write) → T (apart w v) → v.register < length image → (v.value < 2 ^ v.width) ⊎ (8 ≤ v.place + v.width)
    → held (put image v) w ≡ held image w
put-kept image w v t hr hv = by (eqb w.register v.register) refl t
  where
    old : ℕ
    old = get_or image v.register 0

    new : ℕ
    new = with_field v.place v.width old v.value

    higher : (v.value < 2 ^ v.width) ⊎ (8 ≤ v.place + v.width) → v.place + v.width ≤ w.place → w.place < 8
        → field w.place w.width new ≡ field w.place w.width old
    higher (inl fits) le lt = above v.place v.width old v.value w.place w.width fits le
    higher (inr full) le lt = absurd (omega arith)

    beside : T (lower w v) ⊎ T (lower v w && ltb w.place 8)
        → field w.place w.width new ≡ field w.place w.width old
    beside (inl l) = under v.place v.width old v.value w.place w.width (leb→le (w.place + w.width) v.place l)
    beside (inr h) =
        higher hv (leb→le (v.place + v.width) w.place (first (lower v w) (ltb w.place 8) h))
        (ltb→lt w.place 8 (second (lower v w) (ltb w.place 8) h))

    by : (b : Bool) → eqb w.register v.register ≡ b → T (not b || (lower w v || lower v w && ltb w.place 8))
        → held (put image v) w ≡ held image w
    by false e h = ap (field w.place w.width) (get_or-set_other image v.register w.register new 0 (eqb-false w.register v.register e))
    by true e h =
        let same = eqb-true w.register v.register e in
        ap (λ (r : ℕ). field w.place w.width (get_or (put image v) r 0)) same
        ∙ ap (field w.place w.width) (get_or-set_same image v.register new 0 hr)
        ∙ beside (either (lower w v) (lower v w && ltb w.place 8) h)
        ∙ ap (λ (r : ℕ). field w.place w.width (get_or image r 0)) (sym same)

-- and so do all the others
puts-kept : (image : List ℕ) (w : Write) (vs : List Write) → T (apart_from w vs) → AllFit (length image) vs → held (puts image vs) w ≡ held image w
unfolding puts
puts-kept image w [] t h = refl
puts-kept image w (v ∷ vs) t h =
    puts-kept (put image v) w vs (second (apart w v) (apart_from w vs) t) (subst (λ (n : ℕ). AllFit n vs) (sym (length-set image v.register _)) h.1)
    ∙ put-kept image w v (first (apart w v) (apart_from w vs) t) h.0.0 h.0.1

-- so all of them are read back
pub puts-held : (image : List ℕ) (ws : List Write) → T (all_apart ws) → AllFit (length image) ws → AllHeld (puts image ws) ws
unfolding puts
puts-held image [] t h = tt
puts-held image (w ∷ ws) t h =
    let rest = subst (λ (n : ℕ). AllFit n ws) (sym (length-set image w.register _)) h.1 in (
      puts-kept (put image w) w ws (first (apart_from w ws) (all_apart ws) t) rest
          ∙ ap (field w.place w.width) (get_or-set_same image w.register _ 0 h.0.0)
          ∙ put_back w.place w.width (get_or image w.register 0) w.value,
      puts-held (put image w) ws (second (apart_from w ws) (all_apart ws) t) rest,
    )

-- ---- what is there already

-- the bits of each write are its value already
abbrev pub AllThere : List ℕ → List Write → Type 0
AllThere image ws = Every (λ w. held image w ≡ w.value) ws

-- such writes leave the image
pub puts_there : (image : List ℕ) (ws : List Write) → AllThere image ws → puts image ws ≡ image
unfolding puts
puts_there image [] h = refl
puts_there image (w ∷ ws) h =
    let old = get_or image w.register 0 in
    let same : put image w ≡ image =
    ap (λ (x : ℕ). set image w.register (with_field w.place w.width old x)) (sym h.0)
    ∙ ap (set image w.register) (write_back w.place w.width old) ∙ set-get_or image w.register 0 in
    ap (λ (l : List ℕ). puts l ws) same ∙ puts_there image ws h.1
