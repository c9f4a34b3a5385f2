-- `wanting::want_second` meets its contract: a step after the other.
use Rattle.std.proofs.Common.{sym, ap, ◌∙◌}
use mathlib.Core.List.{flat_map}
use Rattle.refusals.specs.Verdict.{after, verdict_as}
use Rattle.field_table.specs.Walk.{writes_of}
use Rattle.adv7194_table.specs.Fields.{picture, dnr}
use Rattle.adv7194_table.specs.Blocks.{signalling, curve_a, curve_b}
use Rattle.adv7194_table.specs.Table.{signals, curve, whole}
use Rattle.adv7194_settings.specs.Wanted.{entry_writes, writes_of as entries_writes}
use Rattle.adv7194_wanted.specs.Parts.{second_part}
use Rattle.adv7194_wanted.proofs.CheckLaws.{signal_fault, curve_fault, second_faults, second_part_lem}
use Rattle.adv7194_wanted.proofs.StepLaws.{Step, none, step, writes, and_then}
use Rattle.adv7194_wanted.proofs.wanting.want_second.Goals as goal

pub returns : goal.returns
unfolding entries_writes second_part picture dnr writes_of flat_map
returns c =
    let zs = c.args.numbers.now in
    let s1 : Step _ _ (signal_fault zs) (entry_writes zs (whole signals signalling)) _ _ =
    step c.want_signalling-signalling.ensures.answer c.want_signalling-signalling.ensures.memory in
    let s2 = step c.want_picture-picture.ensures.answer c.want_picture-picture.ensures.memory in
    let s3 = step c.want_dnr-dnr.ensures.answer c.want_dnr-dnr.ensures.memory in
    let s4 : Step _ _ (curve_fault zs curve_a) (entry_writes zs (whole curve curve_a)) _ _ =
    step c.want_curve-curve_a.ensures.answer c.want_curve-curve_a.ensures.memory in
    let s5 : Step _ _ (curve_fault zs curve_b) (entry_writes zs (whole curve curve_b)) _ _ =
    step c.want_curve-curve_b.ensures.answer c.want_curve-curve_b.ensures.memory in
    let s6 = writes c.want_word.ensures.memory in
    let all : Step (verdict_as c.args.before) c.args.image.now (second_faults zs) (entries_writes zs second_part) (verdict_as c.want_curve-curve_b.result)
    c.want_word.new.image = and_then s1 (and_then s2 (and_then s3 (and_then s4 (and_then s5 (and_then s6 none))))) in
    record { answer = all.verdict ∙ ap (after (verdict_as c.args.before)) (sym (second_part_lem zs c.requires)); memory = all.registers }
