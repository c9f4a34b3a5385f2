-- What reading leaves for an image, planned over that image at any right address, with a lent plan of at least one byte, is the empty plan. Assumes nothing.
use mathlib.Core.Path.{◌≡◌, sym, ap, ap₂, ◌∙◌, subst}
use mathlib.Core.Bool.{true}
use mathlib.Core.List.{List, [], ◌++◌}
use Prim.Native.Nat.{ℕ, ◌≤◌}
use lib.IntN.{ℤ}
use lib.ListN.{length, drop}
use borrow.Author.Tests.{le-leb}
use Rattle.refusals.specs.Verdict.{Verdict, good, after, left_by}
use Rattle.bus.specs.Transactions.{Transaction, bus_bytes}
use Rattle.bus.specs.Address.{address_right}
use Rattle.packing.proofs.PackedLaws.{nothing}
use Rattle.planning.specs.Plan.{Counts, packing_of, packed_left, done}
use Rattle.adv7195_bus.specs.Kind.{register_count}
use Rattle.adv7195_settings.specs.Numbers.{number_count}
use Rattle.adv7195_settings.specs.Rows.{settings_held}
use Rattle.adv7195_settings.specs.Reading.{read_of, read_left}
use Rattle.adv7195_settings.proofs.ReadingLaws.{held-length, is_read}
use Rattle.adv7195_least.specs.Plan.{plan_of}
use Rattle.adv7195_least.proofs.Nothing.{plan_nothing}
use Rattle.adv7195_planning.specs.Planning.{list_of}
use Rattle.adv7195_planning.proofs.CaseLaws.{right-count}
use Rattle.adv7195_round_trip.specs.RoundTrip.{MeansItself}
use Rattle.adv7195_round_trip.specs.EmptyPlan.{EmptyPlan}
use Rattle.adv7195_round_trip.proofs.ReadMeans.{means_itself}

-- packing the empty list into a lent plan of at least one byte
packing_nothing : (room : ℕ) → 1 ≤ room → packing_of [] room ≡ done 1 0 0
unfolding bus_bytes
packing_nothing room h = rw (nothing, le-leb 1 room h)

-- settings that mean an image
module _ (image : List ℕ) (zs : List ℤ) (means : MeansItself image zs) where
  -- the list is empty
  no_list : list_of image zs ≡ []
  unfolding list_of
  no_list = ap (plan_of image) means.same ∙ plan_nothing image

  meant : length image ≡ register_count → length zs ≡ number_count → (address : ℕ) (plan : List ℕ) → address_right address ≡ true → 1 ≤ length plan
      → EmptyPlan image zs address plan
  meant size count address plan right room =
      let planned =
      right-count image zs address (length plan) size right count
      ∙ ap₂ (λ (v : Verdict (Unit {0})) (ts : List Transaction). after v (packing_of ts (length plan))) means.passes no_list
      ∙ packing_nothing (length plan) room in
      record {
        answer = planned;
        memory =
            ap₂ (λ (ts : List Transaction) (v : Verdict Counts). packed_left ts plan v) no_list planned
            ∙ ap (λ (bytes : List ℕ). bytes ++ drop (length bytes) plan) nothing;
      }

-- the theorem, of whatever numbers were lent to reading
pub nothing_to_do : (image : List ℕ) (lent : List ℤ) → read_of image (length lent) ≡ good tt → (address : ℕ) (plan : List ℕ) → address_right address ≡ true
    → 1 ≤ length plan → EmptyPlan image (read_left image lent) address plan
nothing_to_do image lent read address plan right room =
    let r = is_read image (length lent) read in
    subst (λ (zs : List ℤ). EmptyPlan image zs address plan) (sym (ap (left_by lent (settings_held image)) read))
    (meant image (settings_held image) (means_itself image r.judged) r.size (held-length image) address plan right room)
