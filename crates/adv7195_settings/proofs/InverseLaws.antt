-- The table's numbers of settings are these settings', and the settings of the table's numbers have these. Assumes nothing.
use mathlib.Core.Path.{◌≡◌, sym, ap, ap₂, ◌∙◌}
use mathlib.Core.Bool.{false, ◌&&◌}
use mathlib.Core.List.{List, ◌∷◌, ◌++◌}
use Prim.Native.Nat.{suc, ◌+◌, ◌*◌, ◌/◌, ◌%◌, ◌^◌}
use native.Mathlib.Omega.{arith}
use lib.Dec.{T, ltb, ltb→lt}
use lib.IntN.{ℤ, pos, negsuc}
use lib.ListN.{length, take, drop}
use lib.Seq.{drop-cons, split_at}
use borrow.Author.Tests.{lt-ltb}
use Rattle.bits.proofs.FlagLaws.{first, second}
use Rattle.adv7195_settings.specs.Numbers.{number_count, part_count, cgms, cgms_bits, part_of, cgms_data, parts_of, joined, cgms_part, numbers_of, in_bits, joins}
use Rattle.adv7195_settings.proofs.NumberLaws.{parts_first, parts_last, part_first, part_second, part_third}
use Rattle.adv7195_settings.proofs.NumberLaws.{numbers-first, numbers_last, number-joined}

-- ---- the CGMS data

-- joined from their parts
joined_parts : (z : ℤ) → T (in_bits cgms_bits z) → joined (part_of 0 8 z) (part_of 8 8 z) (part_of 16 4 z) ≡ z
joined_parts (pos n) t =
    let h = ltb→lt n (2 ^ cgms_bits) t in
    let e : n / 2 ^ 0 % 2 ^ 8 + 2 ^ 8 * (n / 2 ^ 8 % 2 ^ 8) + 2 ^ 16 * (n / 2 ^ 16 % 2 ^ 4) ≡ n = omega arith in
    rw (lt-ltb n (2 ^ cgms_bits) h) (ap pos e)
joined_parts (negsuc n) t = absurd t

-- the parts of joined ones
record Parts (a b c : ℤ) : Type 0 where
  low : part_of 0 8 (joined a b c) ≡ a
  middle : part_of 8 8 (joined a b c) ≡ b
  high : part_of 16 4 (joined a b c) ≡ c

parts_joined : (a b c : ℤ) → T (in_bits 8 a && (in_bits 8 b && in_bits 4 c)) → Parts a b c
parts_joined (pos a) (pos b) (pos c) t =
    let p = ltb a (2 ^ 8) in
    let q = ltb b (2 ^ 8) in
    let r = ltb c (2 ^ 4) in
    let rest = second p (q && r) t in
    let h = ltb→lt a (2 ^ 8) (first p (q && r) t) in
    let k = ltb→lt b (2 ^ 8) (first q r rest) in
    let l = ltb→lt c (2 ^ 4) (second q r rest) in
    let n = a + 2 ^ 8 * b + 2 ^ 16 * c in
    let small = lt-ltb n (2 ^ cgms_bits) (omega arith) in
    let x : n / 2 ^ 0 % 2 ^ 8 ≡ a = omega arith in
    let above : n / 2 ^ 8 ≡ b + 2 ^ 8 * c = omega arith in
    let top : n / 2 ^ 16 ≡ c = omega arith in
    let y : n / 2 ^ 8 % 2 ^ 8 ≡ b = rw above (omega arith) in
    let z : n / 2 ^ 16 % 2 ^ 4 ≡ c = rw top (omega arith) in
    record { low = rw small (ap pos x); middle = rw small (ap pos y); high = rw small (ap pos z) }
parts_joined (negsuc a) b c t = absurd t
parts_joined (pos a) (negsuc b) c t = absurd (second (ltb a (2 ^ 8)) false t)
parts_joined (pos a) (pos b) (negsuc c) t = absurd (second (ltb b (2 ^ 8)) false (second (ltb a (2 ^ 8)) (ltb b (2 ^ 8) && false) t))

-- ---- whole lists

-- settings of which the CGMS data are a number of 20 bits
pub numbers_again : (zs : List ℤ) → length zs ≡ number_count → T (in_bits cgms_bits (cgms_data zs)) → numbers_of (parts_of zs) ≡ zs
unfolding numbers_of
numbers_again zs size t =
    let d = cgms_data zs in
    let e : joined (cgms_part (parts_of zs) 0) (cgms_part (parts_of zs) 1) (cgms_part (parts_of zs) 2) ≡ d =
    ap (λ (x : ℤ). joined x (cgms_part (parts_of zs) 1) (cgms_part (parts_of zs) 2)) (sym (part_first zs size))
    ∙ ap₂ (λ (y z : ℤ). joined (part_of 0 8 d) y z) (sym (part_second zs size)) (sym (part_third zs size)) ∙ joined_parts d t in
    ap₂ (λ (xs ys : List ℤ). xs ++ (joined (cgms_part (parts_of zs) 0) (cgms_part (parts_of zs) 1) (cgms_part (parts_of zs) 2) ∷ ys))
    (parts_first zs size) (parts_last zs size)
    ∙ ap (λ (x : ℤ). take cgms zs ++ (x ∷ drop (suc cgms) zs)) e ∙ sym (split_at zs cgms (pos 0) (omega arith))

-- the last three of four parts of a list
split_three : (ps : List ℤ) → length ps ≡ part_count → ps ≡ take cgms ps ++ (cgms_part ps 0 ∷ cgms_part ps 1 ∷ cgms_part ps 2 ∷ drop (cgms + 3) ps)
split_three ps size =
    split_at ps cgms (pos 0) (omega arith)
    ∙ ap (λ (l : List ℤ). take cgms ps ++ (cgms_part ps 0 ∷ l))
    (drop-cons ps 35 (pos 0) (omega arith) ∙ ap (λ (l : List ℤ). cgms_part ps 1 ∷ l) (drop-cons ps 36 (pos 0) (omega arith)))

-- the table's numbers of which those of the CGMS data have 8, 8 and 4 bits
pub parts_again : (ps : List ℤ) → length ps ≡ part_count → T (joins ps) → parts_of (numbers_of ps) ≡ ps
unfolding parts_of
parts_again ps size t =
    let d = cgms_data (numbers_of ps) in
    let each = parts_joined (cgms_part ps 0) (cgms_part ps 1) (cgms_part ps 2) t in
    let same = sym (number-joined ps size) in
    ap₂ (λ (xs ys : List ℤ). xs ++ (part_of 0 8 d ∷ part_of 8 8 d ∷ part_of 16 4 d ∷ ys)) (numbers-first ps size) (numbers_last ps size)
    ∙ ap (λ (x : ℤ). take cgms ps ++ (x ∷ part_of 8 8 d ∷ part_of 16 4 d ∷ drop (cgms + 3) ps)) (ap (part_of 0 8) same ∙ each.low)
    ∙ ap₂ (λ (y z : ℤ). take cgms ps ++ (cgms_part ps 0 ∷ y ∷ z ∷ drop (cgms + 3) ps)) (ap (part_of 8 8) same ∙ each.middle) (ap (part_of 16 4) same ∙ each.high)
    ∙ sym (split_three ps size)
