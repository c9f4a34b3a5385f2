-- The coding of field 11 by its kind. Assumes nothing.
use mathlib.Core.Path.{◌≡◌}
use mathlib.Core.Bool.{true, false}
use mathlib.Core.List.{List, []}
use lib.IntN.{ℤ}
use Rattle.refusals.specs.Refusal.{accepted, refused}
use Rattle.field_table.specs.Blocks.{is}
use Rattle.adv7194_signalling.specs.Cgms.{cgms_of}
use Rattle.adv7194_signalling.specs.Wss.{wss_of}
use Rattle.adv7194_signalling.specs.Signalling.{number_of, signalling_codes}

-- off
pub off_codes : (zs : List ℤ) → is 0 (number_of zs 0) ≡ true → signalling_codes zs ≡ accepted []
unfolding signalling_codes
off_codes zs off = rw off

-- CGMS
pub cgms-codes : (zs : List ℤ) → is 0 (number_of zs 0) ≡ false → is 1 (number_of zs 0) ≡ true
    → signalling_codes zs ≡ cgms_of (number_of zs 1) (number_of zs 2) (number_of zs 3) (number_of zs 4)
unfolding signalling_codes
cgms-codes zs off cgms = rw (off, cgms)

-- WSS
pub wss_codes : (zs : List ℤ) → is 0 (number_of zs 0) ≡ false → is 1 (number_of zs 0) ≡ false → is 2 (number_of zs 0) ≡ true
    → signalling_codes zs ≡ wss_of (number_of zs 1)
unfolding signalling_codes
wss_codes zs off cgms wss = rw (off, cgms, wss)

-- no kind
pub no_codes : (zs : List ℤ) → is 0 (number_of zs 0) ≡ false → is 1 (number_of zs 0) ≡ false → is 2 (number_of zs 0) ≡ false
    → signalling_codes zs ≡ refused 3
unfolding signalling_codes
no_codes zs off cgms wss = rw (off, cgms, wss)
