-- Plans from the values after power-up (001, Table XI; registers that it doesn't list are 00), with their packings; and the largest plan. Assumes nothing.
use mathlib.Core.Path.{◌≡◌, refl}
use mathlib.Core.Bool.{Bool, not, xor, ◌||◌}
use mathlib.Core.List.{List, [], ◌∷◌, ◌++◌, flat_map}
use Prim.Native.Nat.{ℕ, ◌≤◌}
use native.Mathlib.Omega.{arith}
use lib.Dec.{T, eqb, eqb→eq}
use lib.ListN.{length, get_or, replicate, set}
use Rattle.bits.specs.Strings.{msb_first, byte_bits, msb_value, first_bytes, bytes_of}
use Rattle.bits.proofs.Checks.{below, at-below}
use Rattle.bus.specs.Transactions.{Transaction}
use Rattle.bus.specs.Cost.{data_count}
use Rattle.bus.proofs.RegisterLaws.{among_true}
use Rattle.packing.specs.Packing.{transaction_bits, packed}
use Rattle.packing.specs.Written.{packed_bits}
use Rattle.packing.proofs.PackedLaws.{packed-length}
use Rattle.unpacking.proofs.Tests.{bytes_lt}
use Rattle.least_cost.specs.Weight.{weights}
use Rattle.least_cost.specs.Plan.{joins, scan, greedy_plan}
use Rattle.cutting.specs.Cuts.{first_least}
use Rattle.adv7195_bus.specs.Kind.{register_count, unnamed}
use Rattle.adv7195_bus.specs.Order.{interpolation}
use Rattle.adv7195_least.specs.Reaching.{Change}
use Rattle.adv7195_least.specs.Plan.{task_for, plan_for, beside, preparing, flip_plan, preparing_start, plan_of}
use Rattle.adv7195_least.specs.Demands.{most_bytes}

-- an image with one register set
abbrev with : ℕ → ℕ → List ℕ → List ℕ
with r b image = set image r b

-- an image of zeros
abbrev blank : List ℕ
blank = replicate register_count 0

-- the values after power-up
abbrev power_up : List ℕ
power_up =
    with 0x03 0x38 (with 0x06 0xa0 (with 0x07 0x80 (with 0x08 0x80 (with 0x22 0xac (with 0x23 0x9a (with 0x24 0x88
    (with 0x25 0x28 (with 0x26 0x3f (with 0x27 0x64 blank)))))))))

-- the same with MR36 set
abbrev interpolating : List ℕ
interpolating = with 0x03 0x78 power_up

-- and with another byte in each register from 00 to 08
abbrev changed : List ℕ
changed =
    with 0x00 0x01 (with 0x01 0x02 (with 0x02 0x03 (with 0x04 0x05 (with 0x05 0x06 (with 0x06 0x07 (with 0x07 0x08 (with 0x08 0x09 interpolating)))))))

-- a transaction
abbrev writing : ℕ → List ℕ → Transaction
writing r bs = record { subaddress = r; bytes = bs }

-- ---- the plans

-- a test pattern, of Table XII
abbrev hatch : List Transaction
hatch = writing 0x01 (0x05 ∷ []) ∷ writing 0x09 (0x3e ∷ []) ∷ []

-- MR36 set, with 3E left in 09
abbrev flips : List Transaction
flips = writing 0x09 (0x3e ∷ []) ∷ writing 0x03 (0x78 ∷ []) ∷ []

-- and with 09 written once more
abbrev restores : List Transaction
restores = writing 0x09 (0x3e ∷ []) ∷ writing 0x03 (0x78 ∷ []) ∷ writing 0x09 (0x00 ∷ []) ∷ []

-- colours on the way to 09
abbrev colours : List Transaction
colours = writing 0x07 (0xf0 ∷ 0x5a ∷ 0x3e ∷ []) ∷ writing 0x03 (0x78 ∷ []) ∷ writing 0x09 (0x00 ∷ []) ∷ []

-- a colour, where the lowest of two starts that weigh the same is taken
abbrev lowest : List Transaction
lowest = writing 0x06 (0x51 ∷ 0x80 ∷ 0x80 ∷ 0x3e ∷ []) ∷ writing 0x03 (0x78 ∷ []) ∷ []

-- a colour, where the flipping transaction goes on to 09
abbrev joined : List Transaction
joined = writing 0x09 (0x3e ∷ []) ∷ writing 0x03 (0x78 ∷ 0x00 ∷ 0x00 ∷ 0x51 ∷ 0x80 ∷ 0x80 ∷ 0x00 ∷ []) ∷ []

-- 00 to 08, cut after 03
abbrev cut : List Transaction
cut = writing 0x04 (0x05 ∷ 0x06 ∷ 0x07 ∷ 0x08 ∷ 0x09 ∷ 0x3e ∷ []) ∷ writing 0x00 (0x01 ∷ 0x02 ∷ 0x03 ∷ 0x78 ∷ []) ∷ []

-- 00 to 09
abbrev whole : List Transaction
whole = writing 0x09 (0x3e ∷ []) ∷ writing 0x00 (0x01 ∷ 0x02 ∷ 0x03 ∷ 0x78 ∷ 0x05 ∷ 0x06 ∷ 0x07 ∷ 0x08 ∷ 0x09 ∷ 0x00 ∷ []) ∷ []

-- a register past 0F too
abbrev high : List Transaction
high = writing 0x09 (0x3e ∷ []) ∷ writing 0x00 (0x10 ∷ 0x00 ∷ 0x00 ∷ 0x78 ∷ []) ∷ writing 0x27 (0x65 ∷ []) ∷ []

-- a DAC off, with MR36 as it was
abbrev stays : List Transaction
stays = writing 0x03 (0x18 ∷ []) ∷ []

-- what they are the plans for: 09 is to hold 3E, also where it held that; or what it held, or 00 where it held 3E
pub record Cases : Type 0 where
  pub for_hatch : plan_of power_up (with 0x01 0x05 (with 0x09 0x3e power_up)) ≡ hatch
  pub for_3e : plan_of power_up (with 0x09 0x3e interpolating) ≡ flips
  pub for_3e_held : plan_of (with 0x09 0x3e power_up) (with 0x09 0x3e interpolating) ≡ flips
  pub for_interpolation : plan_of power_up interpolating ≡ restores
  pub for_00 : plan_of (with 0x09 0x3e power_up) interpolating ≡ restores
  pub for_colours : plan_of power_up (with 0x07 0xf0 (with 0x08 0x5a interpolating)) ≡ colours
  pub for_colour_3e : plan_of power_up (with 0x06 0x51 (with 0x09 0x3e interpolating)) ≡ lowest
  pub for_colour : plan_of power_up (with 0x06 0x51 interpolating) ≡ joined
  pub for_all_3e : plan_of power_up (with 0x09 0x3e changed) ≡ cut
  pub for_all : plan_of power_up changed ≡ whole
  pub for_high : plan_of power_up (with 0x00 0x10 (with 0x09 0x3e (with 0x27 0x65 interpolating))) ≡ high
  pub for_output : plan_of power_up (with 0x03 0x18 power_up) ≡ stays

-- they are
pub cases : Cases
unfolding xor interpolation plan_of plan_for task_for greedy_plan scan joins beside preparing flip_plan first_least preparing_start weights
cases = record {
  for_hatch = refl;
  for_3e = refl;
  for_3e_held = refl;
  for_interpolation = refl;
  for_00 = refl;
  for_colours = refl;
  for_colour_3e = refl;
  for_colour = refl;
  for_all_3e = refl;
  for_all = refl;
  for_high = refl;
  for_output = refl;
}

-- their packings
pub record Packings : Type 0 where
  pub of_hatch : packed hatch ≡ 0x08 ∷ 0x10 ∷ 0x41 ∷ 0x49 ∷ 0x04 ∷ 0xf8 ∷ []
  pub of_flips : packed flips ≡ 0x08 ∷ 0x90 ∷ 0x4f ∷ 0x83 ∷ 0x05 ∷ 0xe0 ∷ []
  pub of_restores : packed restores ≡ 0x0c ∷ 0x90 ∷ 0x4f ∷ 0x83 ∷ 0x05 ∷ 0xe0 ∷ 0x90 ∷ 0x40 ∷ 0x00 ∷ []
  pub of_colours : packed colours ≡ 0x0c ∷ 0x70 ∷ 0xfc ∷ 0x16 ∷ 0x8f ∷ 0x83 ∷ 0x05 ∷ 0xe0 ∷ 0x90 ∷ 0x40 ∷ 0x00 ∷ []
  pub of_lowest : packed lowest ≡ 0x08 ∷ 0x61 ∷ 0x14 ∷ 0x60 ∷ 0x20 ∷ 0x0f ∷ 0x83 ∷ 0x05 ∷ 0xe0 ∷ []
  pub of_joined : packed joined ≡ 0x08 ∷ 0x90 ∷ 0x4f ∷ 0x83 ∷ 0x1d ∷ 0xe0 ∷ 0x00 ∷ 0x01 ∷ 0x46 ∷ 0x02 ∷ 0x00 ∷ 0x00 ∷ []
  pub of_stays : packed stays ≡ 0x04 ∷ 0x30 ∷ 0x46 ∷ 0x00 ∷ []

-- they are
pub packings : Packings
unfolding packed packed_bits flat_map transaction_bits msb_first byte_bits msb_value first_bytes bytes_of
packings = record {
  of_hatch = refl;
  of_flips = refl;
  of_restores = refl;
  of_colours = refl;
  of_lowest = refl;
  of_joined = refl;
  of_stays = refl;
}

-- ---- the largest plan

-- every register that 001 names set, but for 09
abbrev full : List ℕ
full = replicate 9 0xff ++ replicate 7 0 ++ replicate 24 0xff

-- both images agree where a register has no name, by one test
abbrev named : ℕ → Bool
named r = not (unnamed r) || eqb (get_or full r 0) (get_or blank r 0)

-- which passes
all_named : T (below register_count named)
unfolding below
all_named = tt

-- so planning may be asked for the one from the other
full_change : Change blank full
full_change = record {
  found = refl;
  wants = refl;
  bytes = bytes_lt full tt;
  kept = λ r e. eqb→eq (get_or full r 0) (get_or blank r 0)
      (rw e at (at-below register_count named all_named r (omega (arith, (among_true 0x0a 0x0f r e).1))));
}

-- its plan has the most bytes
largest : length (packed (plan_of blank full)) ≡ most_bytes
unfolding xor interpolation plan_of plan_for task_for greedy_plan scan joins beside preparing flip_plan first_least preparing_start weights data_count
largest = packed-length (plan_of blank full)

-- so room for fewer is not enough for every plan
pub room-least : (room : ℕ) → ((image wanted : List ℕ) → Change image wanted → length (packed (plan_of image wanted)) ≤ room) → most_bytes ≤ room
room-least room h = omega (arith, largest, h blank full full_change)
