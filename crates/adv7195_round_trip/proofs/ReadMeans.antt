-- What is read from an image means that image. Assumes nothing.
use mathlib.Core.Path.{◌≡◌, sym, ap, ◌∙◌, subst}
use mathlib.Core.List.{List}
use Prim.Native.Nat.{ℕ}
use lib.Dec.{T}
use lib.IntN.{ℤ, pos}
use lib.ListN.{replicate, length-replicate}
use Rattle.refusals.specs.Verdict.{good}
use Rattle.field_table.specs.Writes.{puts}
use Rattle.field_table.specs.Walk as table
use Rattle.field_table.specs.Walk.{writes_of}
use Rattle.field_table.specs.RoundTrip.{own_numbers}
use Rattle.field_table.proofs.RoundTripLaws as laws
use Rattle.adv7195_settings.specs.Fields.{fields}
use Rattle.adv7195_settings.specs.Numbers.{part_count, parts_of}
use Rattle.adv7195_settings.specs.Wanted.{wanted_by}
use Rattle.adv7195_settings.specs.Rows.{judge_of, settings_held}
use Rattle.adv7195_settings.proofs.TableLaws.{fields_own, check_walk, judge_walk}
use Rattle.adv7195_settings.proofs.InverseLaws.{parts_again}
use Rattle.adv7195_settings.proofs.ReadingLaws.{parts_held, held-joins, held_parts_length}
use Rattle.adv7195_round_trip.specs.RoundTrip.{MeansItself}

-- the parts of the settings that an image holds are the table's numbers that it holds
parts_held_lem : (image : List ℕ) → parts_of (settings_held image) ≡ parts_held image
unfolding settings_held
parts_held_lem image = parts_again (parts_held image) (held_parts_length image) (held-joins image)

-- what is read from an image means that image
pub means_itself : (image : List ℕ) → judge_of image ≡ good tt → MeansItself image (settings_held image)
unfolding wanted_by
means_itself image e =
    let none : List ℤ = replicate part_count (pos 0) in
    let own = subst (λ (n : ℕ). T (own_numbers n fields)) (sym (length-replicate part_count (pos 0))) fields_own in
    let means = laws.means_itself image none fields own (judge_walk image ∙ e) in
    record {
      passes = sym (check_walk (settings_held image)) ∙ ap (λ (ps : List ℤ). table.check_of ps fields) (parts_held_lem image) ∙ means.passes;
      same = ap (λ (ps : List ℤ). puts image (writes_of ps fields)) (parts_held_lem image) ∙ means.same;
    }
