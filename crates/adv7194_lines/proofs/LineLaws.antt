-- Laws of lines: their parts in a row, which entries of the table have one, and the lines of rows that are packed in numbers. Assumes nothing.
use mathlib.Core.Path.{◌≡◌, refl, sym, ap, ap₂, ◌∙◌}
use mathlib.Core.List.{List, [], ◌∷◌, ◌++◌, append_assoc, append-nil, map, flat_map}
use Prim.Native.Nat.{ℕ, zero, suc, ◌+◌, ◌≤◌, ◌<◌}
use native.Mathlib.Numerals.{add-one}
use native.Mathlib.Omega.{arith}
use lib.IntN.{ℤ}
use lib.ListN.{length, get_or, take, drop}
use lib.Seq.{take-suc}
use borrow.Author.Tests.{lt-ltb, le-ltb}
use Rattle.text.specs.Text.{space, line_end}
use Rattle.field_table.specs.declared.row.Row.{Row}
use Rattle.field_table.specs.Rows.{row_of}
use Rattle.field_table.specs.Coding.{Field, plain_of, plain_fields}
use Rattle.field_table.specs.Walk.{given}
use Rattle.adv7194_table.specs.Fields.{number_count, timing, pedestal, output, picture, dnr}
use Rattle.adv7194_table.specs.Blocks.{signalling, curve_a, curve_b, word}
use Rattle.adv7194_table.specs.Table.{Entry, single, whole, signals, curve, subcarrier, table, single_fields, rows_in, rows_of}
use Rattle.writing.specs.Put.{Put}
use Rattle.writing.proofs.Putting.{more, wider}
use Rattle.adv7194_names.specs.Names.{named}
use Rattle.adv7194_names.specs.Values.{number_text}
use Rattle.adv7194_names.specs.Widths.{curve_width, label_width, line_width}
use Rattle.adv7194_lines.specs.Lines.{label_text}
use Rattle.adv7194_lines.specs.Lines.{line_of}

-- a line in its four parts: number and name, a space, the setting, the line end
pub composed : {n : ℕ} {line : List ℕ} {at : ℕ} {label value l1 l2 l3 l4 : List ℕ} {p1 p2 p3 p4 : ℕ} → Put label_width line at label l1 p1
    → Put 1 l1 p1 space l2 p2
    → Put n l2 p2 value l3 p3 → Put 1 l3 p3 line_end l4 p4 → n ≤ curve_width → at + line_width ≤ length line
    → Put line_width line at (label ++ space ++ value ++ line_end) l4 p4
composed a b c d h r = wider line_width (omega arith) (more (more (more a b (omega arith)) c (omega arith)) d (omega arith))

-- ---- the line of a row

module _ (zs : List ℤ) {r : Row} (s : Row) (e : r ≡ s) where
  -- must-be-zero bits have none
  pub unlisted : number_count ≤ r.index → [] ≡ line_of zs (single (plain_of s))
  unlisted h = rw (← e, le-ltb r.index number_count h)

  -- a field has one
  pub listed-row : r.index < number_count
      → label_text r.field ++ space ++ number_text (named r.field) (given zs r) ++ line_end ≡ line_of zs (single (plain_of s))
  listed-row h = rw (← e, lt-ltb r.index number_count h)

-- ---- the lines of rows

-- one row more
row_more : (zs : List ℤ) (ps : List ℕ) (p : ℕ)
    → flat_map (line_of zs) (map single (plain_fields ps)) ++ line_of zs (single (plain_of (row_of p)))
    ≡ flat_map (line_of zs) (map single (plain_fields (ps ++ (p ∷ []))))
unfolding flat_map plain_fields
row_more zs [] p = sym (append-nil (line_of zs (single (plain_of (row_of p)))))
row_more zs (q ∷ ps) p =
    append_assoc (line_of zs (single (plain_of (row_of q)))) (flat_map (line_of zs) (map single (plain_fields ps))) (line_of zs (single (plain_of (row_of p))))
    ∙ ap (λ (t : List ℕ). line_of zs (single (plain_of (row_of q))) ++ t) (row_more zs ps p)

pub rows_more : (zs : List ℤ) (ps : List ℕ) (i : ℕ) → i < length ps
    → flat_map (line_of zs) (map single (plain_fields (take i ps))) ++ line_of zs (single (plain_of (row_of (get_or ps i 0))))
    ≡ flat_map (line_of zs) (map single (plain_fields (take (i + 1) ps)))
rows_more zs ps i h =
    row_more zs (take i ps) (get_or ps i 0)
    ∙ ap (λ (qs : List ℕ). flat_map (line_of zs) (map single (plain_fields qs))) (sym (take-suc ps i 0 h) ∙ ap (λ (j : ℕ). take j ps) (sym (add-one i)))

-- ---- the lines of the table

-- a line is its row's alone: packed rows have the lines of fields with the same rows
same_lines : (zs : List ℤ) (fs : List Field) (ps : List ℕ) (es : List Entry) → rows_of ps ≡ rows_in fs
    → flat_map (line_of zs) (map single fs ++ es) ≡ flat_map (line_of zs) (map single (plain_fields ps)) ++ flat_map (line_of zs) es
unfolding flat_map plain_fields rows_of rows_in
same_lines zs [] [] es e = refl
same_lines zs (f ∷ fs) (p ∷ ps) es e =
    let first : f.row ≡ row_of p = cc in
    let rest : rows_of ps ≡ rows_in fs = cc in
    ap₂ (λ (r : Row) (t : List ℕ). line_of zs (single (plain_of r)) ++ t) first (same_lines zs fs ps es rest)
    ∙ sym (append_assoc (line_of zs (single (plain_of (row_of p)))) (flat_map (line_of zs) (map single (plain_fields ps))) (flat_map (line_of zs) es))
same_lines zs [] (p ∷ ps) es e = cc
same_lines zs (f ∷ fs) [] es e = cc

-- a part is at most as long as asked
pub take-most : (n : ℕ) (ps : List ℕ) → length (take n ps) ≤ n
take-most zero ps = omega arith
take-most (suc n) [] = omega arith
take-most (suc n) (p ∷ ps) = omega (arith, take-most n ps)

-- rows taken and dropped
take_rows : (n : ℕ) (ps : List ℕ) → rows_of (take n ps) ≡ take n (rows_of ps)
unfolding rows_of
take_rows zero ps = refl
take_rows (suc n) [] = refl
take_rows (suc n) (p ∷ ps) = ap (λ (rs : List Row). row_of p ∷ rs) (take_rows n ps)

drop_rows : (n : ℕ) (ps : List ℕ) → rows_of (drop n ps) ≡ drop n (rows_of ps)
unfolding rows_of
drop_rows zero ps = refl
drop_rows (suc n) [] = refl
drop_rows (suc n) (p ∷ ps) = drop_rows n ps

-- the fields of one number before signalling and after it
unfoldable front : List Field
front = timing ++ (pedestal ∷ output)

unfoldable back : List Field
back = picture ++ dnr

-- the table, in its parts
in_parts : table
    ≡ map single front ++ (whole signals signalling ∷ (map single back ++ (whole curve curve_a ∷ whole curve curve_b ∷ whole subcarrier word ∷ [])))
unfolding table front back timing output picture dnr
in_parts = refl

front_rows : take 10 (rows_in (single_fields table)) ≡ rows_in front
unfolding table single_fields rows_in front back timing output picture dnr
front_rows = refl

back_rows : take 16 (drop 10 (rows_in (single_fields table))) ≡ rows_in back
unfolding table single_fields rows_in front back timing output picture dnr
back_rows = refl

-- the lines of the table are those of its parts, one after the other
pub table-lines : (zs : List ℤ) (ps : List ℕ) → rows_of ps ≡ rows_in (single_fields table)
    → flat_map (line_of zs) (map single (plain_fields (take 10 ps))) ++ line_of zs (whole signals signalling)
    ++ flat_map (line_of zs) (map single (plain_fields (take 16 (drop 10 ps))))
    ++ line_of zs (whole curve curve_a) ++ line_of zs (whole curve curve_b)
    ≡ flat_map (line_of zs) table
unfolding flat_map
table-lines zs ps e =
    let f = flat_map (line_of zs) (map single (plain_fields (take 10 ps))) in
    let s = line_of zs (whole signals signalling) in
    let b = flat_map (line_of zs) (map single (plain_fields (take 16 (drop 10 ps)))) in
    let a = line_of zs (whole curve curve_a) in
    let c = line_of zs (whole curve curve_b) in
    let first : rows_of (take 10 ps) ≡ rows_in front = take_rows 10 ps ∙ ap (take 10) e ∙ front_rows in
    let second : rows_of (take 16 (drop 10 ps)) ≡ rows_in back =
    take_rows 16 (drop 10 ps) ∙ ap (take 16) (drop_rows 10 ps ∙ ap (drop 10) e) ∙ back_rows in
    let curves = whole curve curve_a ∷ whole curve curve_b ∷ whole subcarrier word ∷ [] in
    let regroup : f ++ s ++ b ++ a ++ c ≡ f ++ (s ++ (b ++ (a ++ (c ++ [])))) = simp (append_assoc, append-nil) in
    regroup
    ∙ ap (λ (t : List ℕ). f ++ (s ++ t)) (sym (same_lines zs back (take 16 (drop 10 ps)) curves second))
    ∙ sym (same_lines zs front (take 10 ps) (whole signals signalling ∷ (map single back ++ curves)) first)
    ∙ ap (flat_map (line_of zs)) (sym in_parts)
