-- Document 01, "Refusals": playing takes the address used and the chip's own, checks 1, 2 for either, then 9, and answers the image and whether every byte was
-- acknowledged. A refusal writes nothing. Document 02, P5: a stored byte makes its register known. For any chip, any order of its packing, and whatever lists
-- a play call takes.
use Rattle.std.specs.Prelude.{◌≡◌, ◌↔◌, Bool, cond, not, ◌&&◌, List, [], ◌∷◌, ℕ, eqb, length}
use Rattle.refusals.specs.Refusal.{Judged, accepted, refused, refused_by, value_or}
use Rattle.refusals.specs.Verdict.{Verdict, left_by}
use Rattle.refusals.specs.Order.{Place, places_at, first_of}
use Rattle.bus.specs.Transactions.{Transaction}
use Rattle.bus.specs.Address.{address_right}
use Rattle.bus.specs.Chip.{Kind}
use Rattle.bus.specs.Run.{idle_at, run, all_acknowledged, list_events}
use Rattle.bus.specs.Known.{known_after}
use Rattle.packing.specs.Packing.{Packs}
use Rattle.unpacking.specs.Unpacking.{unpack_by}

-- what is handed to a play call: the chip with its own address; by the end of a transaction, where the next one may start in its packing; the lists that the
-- call takes; the image that the chip holds; the address used; the plan's bytes
pub record Call : Type 0 where
  pub kind : Kind
  pub next : ℕ → ℕ
  pub takes : List Transaction → Bool
  pub image : List ℕ
  pub used : ℕ
  pub plan : List ℕ

-- a list that was unpacked is taken, or refused by 9
abbrev pub judged_if : (List Transaction → Bool) → Judged (List Transaction) → Judged (List Transaction)
judged_if takes (accepted ts) = cond (takes ts) (accepted ts) (refused 9)
judged_if takes (refused n) = refused n

-- the plan's list, or 9: for its packing, or because the call doesn't take it
abbrev pub judged : Call → Judged (List Transaction)
judged c = judged_if c.takes (unpack_by c.next c.plan)

-- what that is in the papers' words: a list is the plan's exactly where the bytes pack it and it is one of those that the call takes; else the refusal is 9
pub record JudgedBy (Takes : List Transaction → Type 0) (c : Call) : Type 0 where
  pub accepts : (ts : List Transaction) → (judged c ≡ accepted ts) ↔ (Packs c.next c.plan ts × Takes ts)
  pub refuses : (n : ℕ) → judged c ≡ refused n → n ≡ 9

-- row n holds of the call
unfoldable pub row_played : Call → ℕ → ℕ → Bool
row_played c n f =
    cond (eqb n 1) (not (eqb (length c.image) c.kind.count))
    (cond (eqb n 2) (not (address_right c.used && address_right c.kind.address))
    (refused_by n (judged c)))

-- the checking order of playing
unfoldable pub play_order : List Place
play_order = places_at (1 ∷ 2 ∷ 9 ∷ []) 0

-- whether a fresh chip with the image acknowledges every byte of the plan's
abbrev pub acknowledged : Call → Bool
acknowledged c = all_acknowledged c.kind (idle_at 0 c.image) (list_events c.used (value_or [] (judged c)))

-- what playing answers: row n at no field where it is the first of the checking order that holds; else whether every byte is acknowledged
unfoldable pub play_of : Call → Verdict Bool
play_of c = first_of (row_played c) play_order (acknowledged c)

-- the registers that playing leaves: those of the fresh chip after the same events
unfoldable pub registers_left : Call → List ℕ
registers_left c = left_by c.image (run c.kind (idle_at 0 c.image) (list_events c.used (value_or [] (judged c)))).registers (play_of c)

-- the registers that are known after it, where those of a map were before
unfoldable pub known_left : Call → ℕ → ℕ
known_left c known = left_by known (known_after c.kind (idle_at 0 c.image) known (list_events c.used (value_or [] (judged c)))) (play_of c)
