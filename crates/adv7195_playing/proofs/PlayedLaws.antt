-- What playing a plan that is accepted answers and leaves at the chip's own address: it is acknowledged throughout, and its data are left. Assumes nothing.
use mathlib.Core.Path.{◌≡◌, refl, ◌∙◌, subst⁻¹}
use mathlib.Core.Bool.{Bool, true}
use mathlib.Core.List.{List, [], ◌∷◌}
use Prim.Native.Nat.{ℕ}
use native.Mathlib.Omega.{arith}
use lib.Dec.{T}
use lib.ListN.{length}
use Rattle.bits.proofs.FlagLaws.{both_true}
use Rattle.refusals.specs.Refusal.{Judged, accepted, refused}
use Rattle.refusals.specs.Verdict.{Verdict, good}
use Rattle.bus.specs.Transactions.{Transaction}
use Rattle.bus.specs.Address.{address_right}
use Rattle.bus.proofs.Play.{Kept}
use Rattle.unpacking.specs.Unpacking.{counted}
use Rattle.playing.specs.Playing.{Call, judged_if, play_of, registers_left}
use Rattle.playing.proofs.Judging.{was_taken}
use Rattle.playing.proofs.Faults.{Left}
use Rattle.playing.proofs.Played.{played_own}
use Rattle.adv7195_bus.specs.Kind.{register_count, adv7195}
use Rattle.adv7195_bus.specs.Rules.{Rules, all_keep_rules}
use Rattle.adv7195_bus.specs.Order.{keeps_order}
use Rattle.adv7195_bus.proofs.RuleLaws.{agree_all, rules-kept}
use Rattle.adv7195_playing.specs.Playing.{unpacked, takes, call_of}
use Rattle.adv7195_playing.specs.Written.{Written}
use Rattle.bits.specs.Lists.{Every}

-- no register of this chip is unknown
abbrev pub no_map : ℕ
no_map = 0

-- what is answered, and the registers that are left
pub as_left : {c : Call} {v : Verdict Bool} {registers : List ℕ} {map : ℕ} → Left c no_map v registers map → (v ≡ play_of c) × (registers ≡ registers_left c)
as_left l = (l.answer, l.stored)

-- a list that keeps the rule writes to registers that the chip keeps
all-kept : (own : ℕ) (ts : List Transaction) → Every Rules ts → Every (Kept (adv7195 own)) ts
all-kept own [] h = tt
all-kept own (t ∷ ts) h = (rules-kept own t h.0, all-kept own ts h.1)

module _ (image : List ℕ) (used own : ℕ) (same : used ≡ own) (plan : List ℕ) (h : length image ≡ register_count) (e : address_right used ≡ true)
    (f : address_right own ≡ true) where
  -- playing a plan that is accepted answers, and leaves what was written
  pub own_played : (n : ℕ) (after : List ℕ) → counted (judged_if (takes image) (unpacked plan)) ≡ accepted n
      → Written (judged_if (takes image) (unpacked plan)) image after
      → (good true ≡ play_of (call_of image used own plan)) × (after ≡ registers_left (call_of image used own plan))
  own_played n after c w = go (judged_if (takes image) (unpacked plan)) refl c w
    where
      go : (j : Judged (List Transaction)) → judged_if (takes image) (unpacked plan) ≡ j → counted j ≡ accepted n → Written j image after
          → (good true ≡ play_of (call_of image used own plan)) × (after ≡ registers_left (call_of image used own plan))
      go (accepted ts) p c w =
          let k = was_taken (takes image) (unpacked plan) ts p in
          let kept = all-kept own ts ((agree_all ts).0 (subst⁻¹ T (both_true (all_keep_rules ts) (keeps_order image ts) k.1).0 tt)) in
          let o = as_left (played_own (call_of image used own plan) no_map h e f same ts kept p) in
          (o.0, w ∙ o.1)
      go (refused m) p c w = let z : ◌≡◌ {A = ℕ} 0 1 = cc in absurd (omega arith)
