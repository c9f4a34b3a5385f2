-- `wanting::want_first` meets its contract: a step after the other.
use Rattle.std.proofs.Common.{sym, ap, ◌∙◌, [], ◌∷◌}
use mathlib.Core.List.{flat_map}
use Rattle.refusals.specs.Verdict.{after, verdict_as}
use Rattle.field_table.specs.Walk.{coding_fault, write_of, writes_of}
use Rattle.adv7194_table.specs.Fields.{pedestal, timing, output}
use Rattle.adv7194_settings.specs.Wanted.{writes_of as entries_writes}
use Rattle.adv7194_wanted.specs.Parts.{first_part}
use Rattle.adv7194_wanted.proofs.CheckLaws.{first_faults, first_part_lem}
use Rattle.adv7194_wanted.proofs.StepLaws.{Step, step, checks, one, and_then}
use Rattle.adv7194_wanted.proofs.wanting.want_first.Goals as goal

pub returns : goal.returns
unfolding entries_writes first_part timing output writes_of flat_map
returns c =
    let zs = c.args.numbers.now in
    let s1 = step c.want_timing-timing.ensures.answer c.want_timing-timing.ensures.memory in
    let s2 = checks c.square_with_oversampling-square.ensures.answer in
    let s3 : Step _ _ (coding_fault zs pedestal) (write_of zs pedestal ∷ []) _ _ = one c.want_row-pedestal.ensures.answer c.want_row-pedestal.ensures.memory in
    let s4 = checks c.pedestal_with_pal-pal.ensures.answer in
    let s5 = step c.want_output.ensures.answer c.want_output.ensures.memory in
    let all : Step (verdict_as c.args.before) c.args.image.now (first_faults zs) (entries_writes zs first_part) (verdict_as c.want_output.result) c.want_output.new.image =
    and_then s1 (and_then s2 (and_then s3 (and_then s4 s5))) in
    record { answer = all.verdict ∙ ap (after (verdict_as c.args.before)) (sym (first_part_lem zs)); memory = all.registers }
