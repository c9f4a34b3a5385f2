-- The lists that a play call takes, by its test and in document 01's and 02's words. Assumes nothing.
use mathlib.Core.Path.{◌≡◌, subst⁻¹}
use mathlib.Core.Logic.{◌↔◌}
use mathlib.Core.Bool.{true}
use mathlib.Core.List.{List}
use Prim.Native.Nat.{ℕ}
use lib.Dec.{T}
use Rattle.bits.proofs.FlagLaws.{holds}
use Rattle.refusals.specs.Refusal.{accepted}
use Rattle.bus.specs.Transactions.{Transaction}
use Rattle.packing.specs.Packing.{behind}
use Rattle.unpacking.specs.Unpacking.{unpack}
use Rattle.unpacking.proofs.Exact.{unpacks_packed, in_order}
use Rattle.adv7194_bus.proofs.RuleLaws.{agree_all}
use Rattle.adv7194_captions.proofs.JustThese.{just_these}
use Rattle.adv7194_playing.specs.declared.PlanKind.{PlanKind}
use Rattle.adv7194_playing.specs.declared.PlanKind.TheVariants.{Settings, Captions}
use Rattle.playing.specs.Playing.{JudgedBy}
use Rattle.playing.proofs.Judging.{judged_by}
use Rattle.adv7194_bus.specs.declared.board.Board.{Board}
use Rattle.adv7194_playing.specs.Playing.{Takes, takes, call_of}

-- of a list that was unpacked, the test holds exactly where it is one that the play call takes
pub test_holds : (kind : PlanKind) (plan : List ℕ) (ts : List Transaction) → unpack plan ≡ accepted ts → (takes kind ts ≡ true) ↔ Takes kind ts
test_holds Settings plan ts p = (λ e. (agree_all ts).0 (subst⁻¹ T e tt), λ k. holds (takes Settings ts) ((agree_all ts).1 k))
test_holds Captions plan ts p = just_these ts (in_order behind ts (unpacks_packed behind plan ts p).0)

-- so a plan is judged by those
pub plan-judged : (kind : PlanKind) (b : Board) (used own : ℕ) (plan : List ℕ) → JudgedBy (Takes kind) (call_of (takes kind) b used own plan)
plan-judged kind b used own plan = judged_by (Takes kind) (call_of (takes kind) b used own plan) (test_holds kind plan)
