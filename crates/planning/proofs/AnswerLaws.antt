-- What packing a list into a lent plan answers tells of the list and of the plan. Assumes nothing.
use mathlib.Core.Path.{◌≡◌, refl, sym, ap, ◌∙◌}
use mathlib.Core.Bool.{Bool, true, false, cond}
use mathlib.Core.List.{List, ◌++◌}
use Prim.Native.Nat.{ℕ, ◌<◌}
use lib.Dec.{leb, ltb}
use lib.ListN.{length, take, drop}
use lib.Seq.{take-append_seam}
use borrow.Author.Tests.{leb-true, leb-false, le-ltb, lt-ltb}
use Rattle.refusals.specs.Verdict.{good, refused_at}
use Rattle.bus.specs.Transactions.{Transaction}
use Rattle.packing.specs.Packing.{packed}
use Rattle.planning.specs.Plan.{Counts, counts_of, packing_of, packed_left, done}

-- the row of the room alone answers what packing a list does
pub by_room_lem : (ts : List Transaction) (room : ℕ)
    → cond (ltb room (length (packed ts))) (refused_at 10 0) (good (counts_of ts)) ≡ packing_of ts room
by_room_lem ts room = by (leb (length (packed ts)) room) refl
  where
    by : (x : Bool) → leb (length (packed ts)) room ≡ x
        → cond (ltb room (length (packed ts))) (refused_at 10 0) (good (counts_of ts)) ≡ packing_of ts room
    by true p = let q = le-ltb room (length (packed ts)) (leb-true (length (packed ts)) room p) in rw (p, q)
    by false p = let q = lt-ltb room (length (packed ts)) (leb-false (length (packed ts)) room p) in rw (p, q)

-- the numbers of a packed list are its own
pub done-counts : (ts : List Transaction) (room l t b : ℕ) → packing_of ts room ≡ done l t b
    → counts_of ts ≡ record { length = l; transactions = t; bus_bytes = b }
done-counts ts room l t b e = by (leb (length (packed ts)) room) e
  where
    by : (x : Bool) → cond x (good (counts_of ts)) (refused_at 10 0) ≡ done l t b → counts_of ts ≡ record { length = l; transactions = t; bus_bytes = b }
    by true e = cc
    by false e = absurd cc

-- where packing is refused, the lent plan is shorter than the packed one
pub refused-short : (ts : List Transaction) (room n f : ℕ) → packing_of ts room ≡ refused_at n f → room < length (packed ts)
refused-short ts room n f e = by (leb (length (packed ts)) room) refl e
  where
    by : (x : Bool) → leb (length (packed ts)) room ≡ x → cond x (good (counts_of ts)) (refused_at 10 0) ≡ refused_at n f → room < length (packed ts)
    by true p e = absurd cc
    by false p e = leb-false (length (packed ts)) room p

-- the bytes answered are the packed list
pub left_packed : (ts : List Transaction) (plan after : List ℕ) (l t b : ℕ) → counts_of ts ≡ record { length = l; transactions = t; bus_bytes = b }
    → after ≡ packed_left ts plan (done l t b) → take l after ≡ packed ts
left_packed ts plan after l t b same e =
    let n : l ≡ length (packed ts) = sym (ap (λ (n : Counts). n.length) same) in
    ap (take l) e ∙ ap (λ (k : ℕ). take k (packed ts ++ drop (length (packed ts)) plan)) n ∙ take-append_seam (packed ts) (drop (length (packed ts)) plan)
