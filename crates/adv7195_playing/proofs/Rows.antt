-- The lists that playing takes, by its test and in document 02's words. Assumes nothing.
use mathlib.Core.Path.{◌≡◌, subst⁻¹}
use mathlib.Core.Logic.{◌↔◌}
use mathlib.Core.Bool.{true}
use mathlib.Core.List.{List}
use Prim.Native.Nat.{ℕ}
use lib.Dec.{T}
use lib.ListN.{length}
use Rattle.bits.proofs.FlagLaws.{holds, both_true}
use Rattle.bus.specs.Transactions.{Transaction}
use Rattle.bus.specs.Run.{idle_at}
use Rattle.adv7195_bus.specs.Kind.{register_count}
use Rattle.adv7195_bus.specs.Rules.{all_keep_rules}
use Rattle.adv7195_bus.specs.Order.{keeps_order}
use Rattle.adv7195_bus.proofs.RuleLaws.{agree_all}
use Rattle.adv7195_bus.proofs.OrderLaws.{order-agrees}
use Rattle.playing.specs.Playing.{JudgedBy}
use Rattle.playing.proofs.Judging.{judged_by}
use Rattle.adv7195_playing.specs.Playing.{Takes, takes, call_of}

-- the test of a list holds exactly where it keeps the rule and the order
pub test_holds : (own : ℕ) (image : List ℕ) (ts : List Transaction) → length image ≡ register_count → (takes image ts ≡ true) ↔ Takes own image ts
test_holds own image ts h = (
  λ e. let q = both_true (all_keep_rules ts) (keeps_order image ts) e in
      let rules = (agree_all ts).0 (subst⁻¹ T q.0 tt) in
      (rules, (order-agrees own ts (idle_at 0 image) rules h).0 q.1),
  λ k. rw (holds (all_keep_rules ts) ((agree_all ts).1 k.0), (order-agrees own ts (idle_at 0 image) k.0 h).1 k.1),
)

-- so a plan is judged by those
pub plan-judged : (image : List ℕ) (used own : ℕ) (plan : List ℕ) → length image ≡ register_count → JudgedBy (Takes own image) (call_of image used own plan)
plan-judged image used own plan h = judged_by (Takes own image) (call_of image used own plan) (λ ts e. test_holds own image ts h)
