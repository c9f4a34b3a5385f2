-- `columns::put_column` meets its contract: the part found is the column, and is put. Assumes nothing.
use mathlib.Core.Path.{◌≡◌, ap, ◌∙◌}
use mathlib.Core.List.{List}
use Prim.Native.Nat.{ℕ, ◌+◌, ◌-◌, ◌*◌, ◌<◌}
use native.Mathlib.Omega.{arith}
use lib.ListN.{length, take, drop}
use borrow.Author.Rules.{rules}
use Rattle.adv7194_names.specs.Names.{names, named}
use Rattle.template.specs.Columns.{column_in}
use Rattle.adv7194_names.specs.Columns.{columns_text, column_of}
use Rattle.adv7194_names.specs.Widths.{column_width}
use Rattle.adv7194_names.proofs.TableLaws.{field_column, field-width}
use Rattle.writing.proofs.Putting.{put, wider, same_text}
use Rattle.adv7194_names.proofs.columns.put_column.Statement.{statement}
use Rattle.adv7194_names.proofs.columns.put_column.Tie as tie

-- the part of the table found is the column
found : (table : List ℕ) (start end f k : ℕ) → table ≡ columns_text names → k < 4 → column_in (drop start table) 0 ≡ column_in table (4 * f + k)
    → take (end - start) (drop start table) ≡ column_in (drop start table) 0 → take (end - start) (drop start table) ≡ column_of (named f) k
found table start end f k t h s e = e ∙ s ∙ ap (λ (l : List ℕ). column_in l (4 * f + k)) t ∙ field_column f k h

-- so it is after the search
part : (c : tie.After-column_end-end) → (let s = c in let n = c in let a = n.args in
    take (c.column_end-end.result - s.column_start-start.result) (drop s.column_start-start.result n.names-table.result) ≡ column_of (named a.field) a.column)
part c =
    let s = c in
    let n = c in
    let start = c in
    let a = start.args in
    found n.names-table.result s.column_start-start.result c.column_end-end.result a.field a.column n.names-table.ensures start.requires.1
    s.column_start-start.ensures.1 c.column_end-end.ensures.1

put-requires : tie.Need-put-requires
put-requires c κs =
    let e = c.before.before in
    let start = c in
    omega (arith, ap length (part e), field-width start.args.field start.args.column, start.requires.0)

returns : tie.Need-returns
returns c =
    let p = c in
    let e = c.before.before.before.before.before in
    let a = e.args in
    let w = same_text (part e) (put p.put.ensures.0 p.put.ensures.1) in
    wider column_width (omega (arith, ap length (part e), field-width a.field a.column)) w

pub put_column_spec : {M : Type 1} → statement M
put_column_spec =
    tie.close
    (tie.spec
    (λ c κs. search rules)
    (λ c. search rules)
    (λ c. search rules)
    (λ c. search rules)
    (λ c κs. search rules)
    (λ c. search rules)
    (λ c κs. search rules)
    (λ c. search rules)
    (λ c. search rules)
    (λ c. search rules)
    put-requires
    (λ c. search rules)
    returns)
