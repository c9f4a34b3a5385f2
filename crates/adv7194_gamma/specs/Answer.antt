-- What the program's answer says, in document 01's number and values.
use Rattle.std.specs.Prelude.{List, [], ◌∷◌, ℕ, Result, Ok, Err}
use Rattle.refusals.specs.declared.Refusal.{Refusal}
use Rattle.refusals.specs.Refusal.{Judged, accepted, refused, number_of}
use Rattle.adv7194_gamma.specs.declared.Points.{Points}

-- the bytes in the order of their registers
abbrev pub bytes_in : Points → List ℕ
bytes_in c = c.b0 ∷ c.b1 ∷ c.b2 ∷ c.b3 ∷ c.b4 ∷ c.b5 ∷ c.b6 ∷ []

-- a curve is accepted with its bytes, a refusal has its number
abbrev pub judged : Result Points Refusal → Judged (List ℕ)
judged (Ok c) = accepted (bytes_in c)
judged (Err why) = refused (number_of why)
