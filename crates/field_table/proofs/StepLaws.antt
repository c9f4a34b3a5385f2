-- What a field's own coder or reader answered, as the table's step. Assumes nothing.
use mathlib.Core.Path.{◌≡◌, ap, ◌∙◌}
use mathlib.Core.List.{List}
use Prim.Native.Nat.{ℕ}
use lib.IntN.{ℤ, pos}
use lib.ListN.{set}
use Rattle.refusals.specs.Refusal.{Judged, value_or}
use Rattle.refusals.specs.Verdict.{Verdict, after, fault_of}
use Rattle.field_table.specs.Coding.{Field}
use Rattle.field_table.specs.Writes.{put}
use Rattle.field_table.specs.Walk.{coding_of, coding_fault, row_write, write_of, reading_of, reading_fault, store}

-- what a coder answered is the field's coding
pub coded_step : (zs : List ℤ) (f : Field) (v : Verdict (Unit {0})) (image : List ℕ) {x : Verdict (Unit {0})} {l : List ℕ} {j : Judged ℕ} → j ≡ coding_of zs f
    → (x ≡ after v (fault_of f.row.field j)) × (l ≡ put image (row_write f.row (value_or 0 j)))
    → (x ≡ after v (coding_fault zs f)) × (l ≡ put image (write_of zs f))
coded_step zs f v image e h =
    (h.0 ∙ ap (λ k. after v (fault_of f.row.field k)) e, h.1 ∙ ap (λ k. put image (row_write f.row (value_or 0 k))) e)

-- what a reader answered is the field's reading
pub decoded_step : (image : List ℕ) (f : Field) (v : Verdict (Unit {0})) (zs : List ℤ) {x : Verdict (Unit {0})} {l : List ℤ} {j : Judged ℤ}
    → j ≡ reading_of image f
    → (x ≡ after v (fault_of f.row.field j)) × (l ≡ set zs f.row.index (value_or (pos 0) j))
    → (x ≡ after v (reading_fault image f)) × (l ≡ store image zs f)
decoded_step image f v zs e h =
    (h.0 ∙ ap (λ k. after v (fault_of f.row.field k)) e, h.1 ∙ ap (λ k. set zs f.row.index (value_or (pos 0) k)) e)
