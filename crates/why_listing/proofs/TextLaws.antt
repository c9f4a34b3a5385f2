-- The text of what planning answered, by the plan that it left. Assumes nothing.
use mathlib.Core.Path.{◌≡◌, sym, ap}
use mathlib.Core.List.{List, ◌++◌, flat_map}
use Prim.Native.Nat.{ℕ}
use Rattle.refusals.specs.Verdict.{good}
use Rattle.listing.specs.Lines.{plan_line}
use Rattle.planning.specs.Plan.{Counts}
use Rattle.answer_listing.specs.AnswerText.{first_line, answer_text, list_in, Holds}
use Rattle.adv7194_reasons.specs.Reasons.{Reason}
use Rattle.why_listing.specs.WhyText.{transaction_text}

module _ (why : ℕ → Reason) where
  -- the first line, and the lines of the plan
  pub planned_text : (plan : List ℕ) (n : Counts) → Holds plan (good n) → (let ts = list_in plan (good n) in
      first_line (good n) ++ flat_map (transaction_text why) ts ≡ answer_text (transaction_text why) ts (good n))
  planned_text plan n h =
      let ts = list_in plan (good n) in
      ap (λ (k : Counts). plan_line k.transactions k.bus_bytes ++ flat_map (transaction_text why) ts) (sym h.counts)
