-- Reading goes by the coding: registers hold the setting whose coding they are, and are refused where they are no setting's.
use Rattle.std.specs.Prelude.{◌≡◌, List, ℕ}
use Rattle.refusals.specs.Refusal.{Judged, accepted, refused}

-- an answer to what setting three bytes hold under a coding: one that is coded so, or the refusal of this number where none is
abbrev pub Held : {S : Type 0} → (S → Judged (List ℕ)) → ℕ → List ℕ → Judged S → Type 0
Held {S} code number bytes (accepted s) = code s ≡ accepted bytes
Held {S} code number bytes (refused n) = (n ≡ number) × ((s : S) → code s ≡ accepted bytes → ⊥)
