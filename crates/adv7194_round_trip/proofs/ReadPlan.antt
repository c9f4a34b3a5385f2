-- What reading leaves for a board, planned over that board at any right address and with any right limit, with a lent plan of at least one byte, is the empty
-- plan. Assumes nothing.
use mathlib.Core.Path.{◌≡◌, refl, sym, ap, ◌∙◌, subst}
use mathlib.Core.Bool.{false, true}
use mathlib.Core.List.{List, [], ◌∷◌, ◌++◌}
use Prim.Native.Nat.{ℕ, ◌≤◌}
use native.Mathlib.Omega.{arith}
use lib.IntN.{ℤ}
use lib.ListN.{length, drop}
use Rattle.refusals.specs.Verdict.{good, left_by}
use Rattle.field_table.specs.Blocks.{store_from, slice}
use Rattle.bus.specs.Transactions.{Transaction, bus_bytes}
use Rattle.packing.specs.Packing.{packed}
use Rattle.planning.specs.Plan.{counts_of, done}
use Rattle.adv7194_bus.specs.Kind.{register_count}
use Rattle.bus.specs.Address.{address_right}
use Rattle.adv7194_bus.specs.Limit.{limit_right}
use Rattle.adv7194_bus.specs.declared.board.Board.{Board}
use Rattle.adv7194_table.specs.Fields.{number_count, timing, output, picture, dnr}
use Rattle.adv7194_table.specs.Table.{table}
use Rattle.adv7194_table.specs.Registers.{lowest_field}
use Rattle.adv7194_settings.specs.Held.{settings_held}
use Rattle.adv7194_settings.specs.Reading.{read_of, read_left}
use Rattle.adv7194_settings.proofs.ReadingLaws.{is_read}
use Rattle.adv7194_least.specs.Aim.{must, aim_of}
use Rattle.adv7194_least.proofs.Nothing.{none-must, plan-empty, packed-empty}
use Rattle.adv7194_planning.specs.Rows.{list_of}
use Rattle.adv7194_planning.proofs.CaseLaws.{passed, no_row, accept}
use Rattle.adv7194_round_trip.specs.RoundTrip.{Bytes, MeansItself}
use Rattle.adv7194_round_trip.specs.EmptyPlan.{EmptyPlan}
use Rattle.adv7194_round_trip.proofs.ReadMeans.{means_itself}
use Rattle.adv7194_planning.proofs.KnownLaws.{all_known_lem, none_unfixed}
use Rattle.adv7194_settings.proofs.Names.{unknown}

-- 49 settings are read
held-length : (image : List ℕ) → length (settings_held image) ≡ number_count
unfolding settings_held store_from slice table timing output picture dnr
held-length image = refl

-- ---- the plan

-- the numbers of the empty list
no_counts : packed [] ≡ 0x00 ∷ [] → good (counts_of []) ≡ done 1 0 0
unfolding bus_bytes
no_counts e = ap (λ (bytes : List ℕ). good (record { length = length bytes; transactions = 0; bus_bytes = 0 })) e

module _ (b : Board) (zs : List ℤ) (means : MeansItself b.registers zs) (known : lowest_field (unknown b) ≡ 0)
    (limit : ℕ) where
  -- nothing must be written
  none_written : (r : ℕ) → must (aim_of b zs limit) r ≡ false
  none_written = none-must (aim_of b zs limit) (sym means.same) (all_known_lem b zs known)

  -- so the list is empty
  no_list : list_of b zs limit ≡ []
  unfolding list_of
  no_list = plan-empty (aim_of b zs limit) none_written

  -- and the packed plan is 00
  one_byte : packed (list_of b zs limit) ≡ 0x00 ∷ []
  unfolding list_of
  one_byte = packed-empty (aim_of b zs limit) none_written

  -- settings that mean the board's image
  meant : length b.registers ≡ register_count → length zs ≡ number_count → (address : ℕ) (plan : List ℕ) → address_right address ≡ true
      → limit_right limit ≡ true → 1 ≤ length plan → EmptyPlan b zs address limit plan
  meant size count address plan right limited room =
      let fits : length (packed (list_of b zs limit)) ≤ length plan = omega (arith, ap length one_byte, room) in
      let planned =
      passed b zs address limit (length plan) size right limited count means.passes
      ∙ no_row b zs address limit (length plan) (none_unfixed b zs known) fits in
      record {
        answer = planned ∙ ap (λ (ts : List Transaction). good (counts_of ts)) no_list ∙ no_counts (ap packed (sym no_list) ∙ one_byte);
        memory = accept b zs address limit plan planned ∙ ap (λ (bs : List ℕ). bs ++ drop (length bs) plan) one_byte;
      }

-- the theorem, of whatever numbers were lent to reading
pub nothing_to_do : (b : Board) (lent : List ℤ) → Bytes b.registers → read_of b (length lent) ≡ good tt → (address limit : ℕ)
    (plan : List ℕ) → address_right address ≡ true → limit_right limit ≡ true → 1 ≤ length plan → EmptyPlan b (read_left b lent) address limit plan
nothing_to_do b lent bytes read address limit plan right limited room =
    let r = is_read b (length lent) read in
    subst (λ zs. EmptyPlan b zs address limit plan) (sym (ap (left_by lent (settings_held b.registers)) read))
    (meant b (settings_held b.registers) (means_itself b.registers bytes r.judged) r.known limit r.size (held-length b.registers) address
    plan right limited room)
