-- Document 01, "Promises with no slack": the result, and the contents of the memory lent, for all inputs. A plan that does not unpack is refused, and
-- writes nothing; of any other a heading and its lines stand at the front of the lent memory; memory too short has no place after them, and stays as it was.
use mathlib.Core.List.{List, ◌++◌, flat_map}
use Rattle.std.specs.Prelude.{ℕ, Option}
use Rattle.refusals.specs.Refusal.{Judged, accepted, refused}
use Rattle.bus.specs.Transactions.{Transaction}
use Rattle.text.specs.Line.{place_after, appended}
use Rattle.plan_listing.specs.PlanText.{transaction_line}

-- what listing answers: the place after the heading and the lines, or none: the memory is too short for them; or the refusal
abbrev pub listing_of : List ℕ → Judged (List Transaction) → List ℕ → Judged (Option ℕ)
listing_of heading (accepted ts) out = accepted (place_after out 0 (heading ++ flat_map transaction_line ts))
listing_of heading (refused n) out = refused n

-- what listing leaves in the memory: heading and lines at its front where they fit, else what was there
abbrev pub listing_in : List ℕ → Judged (List Transaction) → List ℕ → List ℕ
listing_in heading (accepted ts) out = appended out 0 (heading ++ flat_map transaction_line ts)
listing_in heading (refused n) out = out
