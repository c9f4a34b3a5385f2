-- Document 02, P4: planning captions is refused by 2, 3 (field 29: a character that is none, or neither pair), 10, in that order; else it answers the
-- packed plan's length, its transactions and its bus bytes. The packing is document 01's.
use Rattle.std.specs.Prelude.{Bool, cond, not, ◌&&◌, List, [], ◌∷◌, ◌++◌, ℕ, eqb, ltb, ℤ, length}
use Rattle.refusals.specs.Verdict.{Verdict}
use Rattle.refusals.specs.Order.{Place, first_of, places_at}
use Rattle.packing.specs.Packing.{packed}
use Rattle.planning.specs.Plan.{Counts, counts_of, packed_left}
use Rattle.bus.specs.Address.{address_right}
use Rattle.adv7194_captions.specs.Pairs.{caption_field, pairs_right, caption_list}

-- row n holds of the call, with a lent plan of that many bytes
unfoldable pub caption_row : List ℤ → List ℤ → ℕ → ℕ → ℕ → ℕ → Bool
caption_row extended ordinary address room n f =
    cond (eqb n 2) (not (address_right address))
    (cond (eqb n 3) (not (pairs_right extended ordinary))
    (eqb n 10 && ltb room (length (packed (caption_list extended ordinary)))))

-- the checking order
unfoldable pub caption_order : List Place
caption_order = places_at (2 ∷ []) 0 ++ (places_at (3 ∷ []) caption_field ++ places_at (10 ∷ []) 0)

-- what planning captions answers
unfoldable pub caption_planning : List ℤ → List ℤ → ℕ → ℕ → Verdict Counts
caption_planning extended ordinary address room =
    first_of (caption_row extended ordinary address room) caption_order (counts_of (caption_list extended ordinary))

-- the lent plan that it leaves
abbrev pub caption_plan_left : List ℤ → List ℤ → ℕ → List ℕ → List ℕ
caption_plan_left extended ordinary address plan =
    packed_left (caption_list extended ordinary) plan (caption_planning extended ordinary address (length plan))
