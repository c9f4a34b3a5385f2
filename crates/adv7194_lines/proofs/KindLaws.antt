-- Laws of signalling's and curves' text: the templates that the kinds choose, filled, are the texts. Assumes nothing.
use mathlib.Core.Path.{◌≡◌, refl, ap, ap₂, ◌∙◌}
use mathlib.Core.Bool.{Bool, true, false, cond}
use mathlib.Core.List.{List, [], ◌++◌, append-nil, flat_map}
use Prim.Native.Nat.{ℕ, zero, suc, ◌+◌, ◌≤◌}
use native.Mathlib.Nat.{add-zero}
use native.Mathlib.Omega.{arith}
use lib.IntN.{ℤ, pos}
use lib.ListN.{get_or, drop}
use lib.Seq.{get_or-drop, drop-drop}
use Rattle.text.specs.Text.{space, signed}
use Rattle.field_table.specs.Blocks.{is, slice}
use Rattle.writing.specs.Ascii.{ascii}
use Rattle.writing.specs.Codes.{code}
use Rattle.template.specs.Columns.{column_in}
use Rattle.template.specs.Template.{stands_for, filled, widths}
use Rattle.adv7194_names.specs.Widths.{signalling_width, curve_width}
use Rattle.adv7194_names.specs.Values.{number}
use Rattle.adv7194_lines.specs.declared.kinds.Template.{Template}
use Rattle.adv7194_lines.specs.Kinds.{number_at, cgms_text, signalling_text, curve_text}
use Rattle.adv7194_lines.specs.Templates.{signalling_table, signalling_template, curve_table, curve_template}

-- a template
abbrev chosen : ℕ → ℕ → Template
chosen column skipped = record { column = column; skipped = skipped }

-- ---- numbers from a place on

module _ (zs : List ℤ) where
  first_of : (k : ℕ) → get_or (drop k zs) 0 (pos 0) ≡ number_at zs k
  first_of k = get_or-drop k zs 0 (pos 0) ∙ ap (number_at zs) (add-zero k)

  next_of : (k j : ℕ) → k + 1 ≡ j → get_or (drop 1 (drop k zs)) 0 (pos 0) ≡ number_at zs j
  next_of k j e = ap (λ (ys : List ℤ). get_or ys 0 (pos 0)) (drop-drop 1 k zs) ∙ first_of (k + 1) ∙ ap (number_at zs) e

-- n bytes, each after a space
abbrev bytes_of : List ℤ → ℕ → List ℕ
bytes_of ys zero = []
bytes_of ys (suc n) = space ++ code (get_or ys 0 (pos 0)) ++ bytes_of (drop 1 ys) n

bytes_from : (zs : List ℤ) (n k : ℕ) → bytes_of (drop k zs) n ≡ flat_map (λ z. space ++ code z) (slice (pos 0) zs k n)
unfolding flat_map slice
bytes_from zs zero k = refl
bytes_from zs (suc n) k =
    let one : k + 1 ≡ suc k = omega arith in
    ap₂ (λ (z : ℤ) (t : List ℕ). space ++ code z ++ t) (first_of zs k)
    (ap (λ (ys : List ℤ). bytes_of ys n) (drop-drop 1 k zs ∙ ap (λ (j : ℕ). drop j zs) one) ∙ bytes_from zs n (suc k))

-- ---- the templates filled

module _ (zs : List ℤ) (k : ℕ) where
  -- a curve's ratio, and its seven bytes
  abbrev ratio_text : List ℕ
  ratio_text = number "ratio " (number_at zs (k + 1)) ++ number "/" (number_at zs (k + 2))

  abbrev seven_text : List ℕ
  seven_text = code (number_at zs (k + 3)) ++ flat_map (λ z. space ++ code z) (slice (pos 0) zs (k + 4) 6)

  plain : filled (ascii "%") (drop (k + 0) zs) ≡ signed (number_at zs k)
  unfolding filled stands_for
  plain = append-nil (signed (get_or (drop (k + 0) zs) 0 (pos 0))) ∙ ap signed (first_of zs (k + 0) ∙ ap (number_at zs) (add-zero k))

  wss : filled (ascii "WSS %") (drop (k + 1) zs) ≡ number "WSS " (number_at zs (k + 1))
  unfolding filled stands_for
  wss = ap (λ (t : List ℕ). ascii "WSS " ++ t) (append-nil (signed (get_or (drop (k + 1) zs) 0 (pos 0))) ∙ ap signed (first_of zs (k + 1)))

  ratio : filled (ascii "ratio %/%") (drop (k + 1) zs) ≡ ratio_text
  unfolding filled stands_for
  ratio =
      let two : k + 1 + 1 ≡ k + 2 = omega arith in
      ap₂ (λ (x y : List ℕ). (ascii "ratio " ++ x) ++ (ascii "/" ++ y)) (ap signed (first_of zs (k + 1)))
      (append-nil (signed (get_or (drop 1 (drop (k + 1) zs)) 0 (pos 0))) ∙ ap signed (next_of zs (k + 1) (k + 2) two))

  seven : filled (ascii "# # # # # # #") (drop (k + 3) zs) ≡ seven_text
  unfolding filled stands_for
  seven =
      let four : k + 3 + 1 ≡ k + 4 = omega arith in
      ap₂ (λ (z : ℤ) (t : List ℕ). code z ++ t) (first_of zs (k + 3))
      (ap (λ (ys : List ℤ). bytes_of ys 6) (drop-drop 1 (k + 3) zs ∙ ap (λ (j : ℕ). drop j zs) four) ∙ bytes_from zs 6 (k + 4))

  -- ---- by the kind

  pub cgms-is : number_at zs k ≡ pos 1 → cgms_text zs k ≡ signalling_text zs k
  unfolding signalling_text
  cgms-is e = rw e

  pub signalling-filled : is 1 (number_at zs k) ≡ false → (let t = signalling_template (number_at zs k) in
      filled (column_in signalling_table t.column) (drop (k + t.skipped) zs) ≡ signalling_text zs k)
  unfolding signalling_template signalling_text column_in filled stands_for
  signalling-filled e = rw e (split (is 0 (number_at zs k)) (is 2 (number_at zs k)))
    where
      split : (a b : Bool) → (let t = cond a (chosen 0 0) (cond b (chosen 1 1) (chosen 2 0)) in
          filled (column_in signalling_table t.column) (drop (k + t.skipped) zs)
          ≡ cond a (ascii "off") (cond b (number "WSS " (number_at zs (k + 1))) (signed (number_at zs k))))
      split true b = refl
      split false true = wss
      split false false = plain

  pub curve-filled : (let t = curve_template (number_at zs k) in
      filled (column_in curve_table t.column) (drop (k + t.skipped) zs) ≡ curve_text zs k)
  unfolding curve_template curve_text column_in
  curve-filled = split (is 0 (number_at zs k)) (is 1 (number_at zs k))
    where
      split : (a b : Bool) → (let t = cond a (chosen 0 1) (cond b (chosen 1 3) (chosen 2 0)) in
          filled (column_in curve_table t.column) (drop (k + t.skipped) zs) ≡ cond a ratio_text (cond b seven_text (signed (number_at zs k))))
      split true b = ratio
      split false true = seven
      split false false = plain

-- ---- room, and how many numbers are passed over

pub signalling-room : (z : ℤ) → (let t = signalling_template z in (widths (column_in signalling_table t.column) ≤ signalling_width) × (t.skipped ≤ 3))
unfolding signalling_template column_in widths
signalling-room z = split (is 0 z) (is 2 z)
  where
    split : (a b : Bool) → (let t = cond a (chosen 0 0) (cond b (chosen 1 1) (chosen 2 0)) in
        (widths (column_in signalling_table t.column) ≤ signalling_width) × (t.skipped ≤ 3))
    split true b = (omega arith, omega arith)
    split false true = (omega arith, omega arith)
    split false false = (omega arith, omega arith)

pub curve-room : (z : ℤ) → (let t = curve_template z in (widths (column_in curve_table t.column) ≤ curve_width) × (t.skipped ≤ 3))
unfolding curve_template column_in widths
curve-room z = split (is 0 z) (is 1 z)
  where
    split : (a b : Bool) → (let t = cond a (chosen 0 1) (cond b (chosen 1 3) (chosen 2 0)) in
        (widths (column_in curve_table t.column) ≤ curve_width) × (t.skipped ≤ 3))
    split true b = (omega arith, omega arith)
    split false true = (omega arith, omega arith)
    split false false = (omega arith, omega arith)
