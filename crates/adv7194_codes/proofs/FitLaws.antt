-- The code of every field of one number fits its bits, whatever the setting. Assumes nothing.
use mathlib.Core.Path.{refl}
use Prim.Native.Nat.{◌^◌, ◌<◌}
use lib.Dec.{T, ltb, ltb→lt, lit≤}
use lib.IntN.{ℤ}
use Rattle.field_table.specs.declared.row.Row.{Row}
use Rattle.field_table.specs.Coding.{plain_of, code_by, code_of, encode}
use Rattle.field_table.specs.Walk.{row_fits}
use Rattle.field_table.proofs.PlainLaws.{row_fits_lem, code_fits}
use Rattle.field_table.proofs.RoundTripLaws.{All, CodesFit}
use Rattle.field_table.proofs.Judging.{fits-inside, in_range}
use Rattle.adv7194_table.specs.Fields.{clamp_delay, contrast, u_scale, v_scale, brightness, sharpness, timing, output, picture, dnr}
use Rattle.adv7194_table.specs.Table.{single_fields, table}
use Rattle.rounding.specs.First.{first_from}
use Rattle.rounding.specs.Nearest.{nearest}
use Rattle.adv7194_codes.proofs.Rounded.{hue-fits, thousandths_fit}
use Rattle.refusals.specs.Refusal.{value_or}

pub clamp_delay-fits : (z : ℤ) → value_or 0 (encode clamp_delay z) < 2 ^ 3
unfolding code_by
clamp_delay-fits = fits-inside clamp_delay (λ z o. ltb→lt (code_of clamp_delay z) 8 (in_range 3 3 (λ s. ltb (code_of clamp_delay s) 8) tt z o))

pub brightness-fits : (z : ℤ) → value_or 0 (encode brightness z) < 2 ^ 7
unfolding code_by nearest first_from
brightness-fits = fits-inside brightness (λ z o. ltb→lt (code_of brightness z) 128 (in_range 75 150 (λ s. ltb (code_of brightness s) 128) tt z o))

pub sharpness-fits : (z : ℤ) → value_or 0 (encode sharpness z) < 2 ^ 4
unfolding code_by
sharpness-fits = fits-inside sharpness (λ z o. ltb→lt (code_of sharpness z) 16 (in_range 6 6 (λ s. ltb (code_of sharpness s) 16) tt z o))

-- a field whose setting is its code
plain_fits : (r : Row) → T (row_fits r) → CodesFit (plain_of r)
plain_fits r t = code_fits r (row_fits_lem r t)

-- contrast and the scales
contrast-fits : CodesFit contrast
contrast-fits = thousandths_fit contrast.row (record { bit = refl; width = refl; low = refl; high = refl; most = lit≤ tt; outside = refl })

u_scale_fits : CodesFit u_scale
u_scale_fits = thousandths_fit u_scale.row (record { bit = refl; width = refl; low = refl; high = refl; most = lit≤ tt; outside = refl })

v_scale_fits : CodesFit v_scale
v_scale_fits = thousandths_fit v_scale.row (record { bit = refl; width = refl; low = refl; high = refl; most = lit≤ tt; outside = refl })

-- every field of the table
pub codes_fit : All CodesFit (single_fields table)
unfolding single_fields table timing output picture dnr
codes_fit = (
  plain_fits _ tt,
  (
    plain_fits _ tt,
    (
      plain_fits _ tt,
      (
        plain_fits _ tt,
        (
          plain_fits _ tt,
          (
            plain_fits _ tt,
            (
              plain_fits _ tt,
              (
                clamp_delay-fits,
                (
                  plain_fits _ tt,
                  (
                    plain_fits _ tt,
                    (
                      contrast-fits,
                      (
                        u_scale_fits,
                        (
                          v_scale_fits,
                          (
                            hue-fits,
                            (
                              brightness-fits,
                              (
                                plain_fits _ tt,
                                (
                                  sharpness-fits,
                                  (
                                    plain_fits _ tt,
                                    (
                                      plain_fits _ tt,
                                      (
                                        plain_fits _ tt,
                                        (
                                          plain_fits _ tt,
                                          (
                                            plain_fits _ tt,
                                            (
                                              plain_fits _ tt,
                                              (
                                                plain_fits _ tt,
                                                (
                                                  plain_fits _ tt,
                                                  (
                                                    plain_fits _ tt,
                                                    tt,
                                                  ),
                                                ),
                                              ),
                                            ),
                                          ),
                                        ),
                                      ),
                                    ),
                                  ),
                                ),
                              ),
                            ),
                          ),
                        ),
                      ),
                    ),
                  ),
                ),
              ),
            ),
          ),
        ),
      ),
    ),
  ),
)
