-- Where the wanted image is the starting one the plan is empty, and its packing is the byte 00. Assumes nothing.
use mathlib.Core.Path.{◌≡◌, ap, ◌∙◌}
use mathlib.Core.List.{List, [], ◌∷◌}
use Prim.Native.Nat.{ℕ}
use lib.ListN.{get_or}
use Rattle.bus.specs.Registers.{differs}
use Rattle.bus.proofs.RegisterLaws.{no_difference}
use Rattle.packing.specs.Packing.{packed}
use Rattle.packing.proofs.PackedLaws.{nothing as nothing-packed}
use Rattle.least_cost.specs.Plan.{joining, greedy_plan}
use Rattle.least_cost.proofs.Nothing.{scan_nothing}
use Rattle.adv7195_bus.specs.Kind.{register_count}
use Rattle.adv7195_bus.specs.Rules.{writable}
use Rattle.adv7195_bus.specs.Order.{interpolation}
use Rattle.adv7195_least.specs.Plan.{task_for, plan_for, plan_of}
use Rattle.adv7195_least.proofs.Orders.{xor_self}

module _ (image : List ℕ) where
  -- no register differs
  nothing_needed : plan_for (differs image image) image ≡ []
  unfolding plan_for greedy_plan task_for
  nothing_needed =
      scan_nothing (task_for (differs image image)) (joining (task_for (differs image image)) writable) (λ r. get_or image r 0) (no_difference image)
      register_count 0

  -- and MR36 stays, so the plan is empty
  pub plan_nothing : plan_of image image ≡ []
  unfolding plan_of
  plan_nothing = rw (xor_self (interpolation image)) nothing_needed

  -- and its packing is 00
  pub packed_nothing : packed (plan_of image image) ≡ 0x00 ∷ []
  packed_nothing = ap packed plan_nothing ∙ nothing-packed
