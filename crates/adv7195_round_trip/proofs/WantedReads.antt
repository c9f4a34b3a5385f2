-- The image that settings want is read back, as these settings. Assumes nothing.
use mathlib.Core.Path.{◌≡◌, sym, ap, ◌∙◌, subst}
use mathlib.Core.Bool.{Bool, true, false, cond}
use mathlib.Core.List.{List}
use Prim.Native.Nat.{ℕ, ◌/◌, ◌%◌, ◌^◌}
use lib.Dec.{T, ltb}
use lib.IntN.{ℤ, pos, negsuc}
use lib.ListN.{length, replicate, length-replicate}
use Rattle.refusals.specs.Verdict.{good}
use Rattle.field_table.specs.Walk.{within}
use Rattle.field_table.specs.RoundTrip.{all_numbered}
use Rattle.field_table.proofs.RoundTripLaws.{plain-reads-back}
use Rattle.adv7195_bus.specs.Kind.{register_count}
use Rattle.adv7195_settings.specs.Fields.{fields}
use Rattle.adv7195_settings.specs.Numbers.{number_count, part_count, cgms_bits, part_of, no_setting, cgms_data, parts_of, numbers_of, in_bits, joins}
use Rattle.adv7195_settings.specs.Wanted.{wanted_by}
use Rattle.adv7195_settings.specs.Rows.{check_of, settings_held}
use Rattle.adv7195_settings.proofs.NumberLaws.{parts_length, part_first}
use Rattle.adv7195_settings.proofs.PartLaws.{three}
use Rattle.adv7195_settings.proofs.TableLaws.{fields-plain, fields_within, fields-apart, fields-all, check_walk, judge_walk}
use Rattle.adv7195_settings.proofs.InverseLaws.{numbers_again}
use Rattle.adv7195_settings.proofs.ReadingLaws.{parts_held, held-joins}
use Rattle.adv7195_round_trip.specs.RoundTrip.{ReadsBack}

-- CGMS data whose first part is a setting are a number of 20 bits
data_fits : (z : ℤ) → T (in_bits 8 (part_of 0 8 z)) → T (in_bits cgms_bits z)
data_fits (pos n) t = by (ltb n (2 ^ cgms_bits)) t
  where
    by : (b : Bool) → T (in_bits 8 (cond b (pos (n / 2 ^ 0 % 2 ^ 8)) no_setting)) → T b
    by true t = tt
    by false t = t
data_fits (negsuc n) t = t

-- what settings want over an image is read back
pub reads-back : (image : List ℕ) (zs : List ℤ) → length image ≡ register_count → length zs ≡ number_count → check_of zs ≡ good tt → ReadsBack image zs
unfolding wanted_by settings_held
reads-back image zs size count e =
    let ps = parts_of zs in
    let inside = subst (λ (n : ℕ). T (within n fields)) (sym size) fields_within in
    let all = subst (λ (n : ℕ). T (all_numbered n fields)) (sym (parts_length zs count)) fields-all in
    let back = plain-reads-back image ps fields fields-plain inside fields-apart all (check_walk zs ∙ e) in
    let long = length-replicate part_count (pos 0) ∙ sym (parts_length zs count) in
    let held : parts_held (wanted_by image zs) ≡ ps = back.same (replicate part_count (pos 0)) long in
    let bytes = three ps (subst (λ (qs : List ℤ). T (joins qs)) held (held-joins (wanted_by image zs))) in
    let fits = data_fits (cgms_data zs) (subst (λ (z : ℤ). T (in_bits 8 z)) (sym (part_first zs count)) bytes.low) in
    record { reads = sym (judge_walk (wanted_by image zs)) ∙ back.passes; same = ap numbers_of held ∙ numbers_again zs count fits }
