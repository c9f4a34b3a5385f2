-- A walk through a well-formed plan that writes the line of each transaction. Assumes nothing.
use mathlib.Core.Path.{◌≡◌, ap, ◌∙◌, subst}
use mathlib.Core.List.{List, [], ◌∷◌, ◌++◌, flat_map}
use mathlib.Core.Logic.{⊎_elim}
use Prim.Native.Nat.{ℕ, ◌+◌, ◌*◌, ◌^◌, ◌≤◌, ◌<◌}
use native.Mathlib.Omega.{arith}
use lib.ListN.{length, take, drop, get_or, length-append}
use lib.Seq.{sets-eq, take_at}
use Rattle.refusals.specs.Refusal.{accepted, refused}
use Rattle.bits.specs.Strings.{first_bytes}
use Rattle.bits.proofs.ByteLaws.{first_bytes-length}
use Rattle.bus.specs.Transactions.{Transaction}
use Rattle.unpacking.specs.declared.places.Place.{Place}
use Rattle.unpacking.specs.declared.steps.Order.TheVariants.{Ascending}
use Rattle.unpacking.specs.declared.steps.Cursor.{Cursor}
use Rattle.unpacking.specs.Unpacking.{unpack}
use Rattle.unpacking.specs.Places.{left_at, data_copied}
use Rattle.unpacking.specs.Steps.{beginning, transaction_at}
use Rattle.unpacking.specs.Listed.{listed, Accepted}
use Rattle.unpacking.proofs.PlaceLaws.{data_copied_lem}
use Rattle.unpacking.proofs.StepLaws.{Went, rest_of}
use Rattle.unpacking.proofs.Walking.{Walked, walk_begins, walk_goes, walk_ends, walk_fails, walk_so_far}
use Rattle.text.specs.Line.{zeros, appended}
use Rattle.text.proofs.Appending.{Written, begun, next}
use Rattle.text.proofs.Zeros.{length-zeros}
use Rattle.plan_listing.specs.PlanText.{transaction_line}
use Rattle.plan_listing.proofs.TextLaws.{line_length, lines-append, lines_more}

-- the transactions passed, and their lines written
pub record Listing (out₀ : List ℕ) (at : ℕ) (plan out : List ℕ) (cursor : Cursor) (end : ℕ) : Type 0 where
  pub done : List Transaction
  pub walked : Walked plan Ascending done cursor
  pub written : Written out₀ at (flat_map transaction_line done) out end

-- none was
pub listing_begins : (out plan : List ℕ) (at : ℕ) (c : Cursor) → c ≡ beginning plan Ascending → ((i : ℕ) → get_or plan i 0 < 2 ^ 8) → at ≤ length out
    → Listing out at plan out c at
unfolding flat_map
listing_begins out plan at c e bytes h = record { done = []; walked = rw e (walk_begins plan Ascending bytes); written = begun out at h }

-- ---- the data of a transaction that was found

module _ {plan : List ℕ} {c : Cursor} {subaddress count : ℕ} {first : Place} {after : Cursor} (g : Went plan c subaddress count first after) where
  -- its data, copied to the front of zeros, of which there are enough for any
  pub data_in_front : (copy : List ℕ) → copy ≡ data_copied plan first (zeros 63) 0 count
      → (take count copy ≡ first_bytes count (left_at plan first)) × (count ≤ length copy)
  data_in_front copy e =
      let bytes = zeros 63 in
      let h = length-zeros 63 in
      let ds = first_bytes count (left_at plan first) in
      let long = first_bytes-length count (left_at plan first) in
      let stored : copy ≡ ds ++ drop (0 + length ds) bytes =
      e ∙ data_copied_lem plan first bytes 0 count g.placed g.room (omega (arith, g.few)) ∙ sets-eq ds bytes 0 (omega (arith, g.few)) in
      let rest = drop (0 + length ds) bytes in
      (ap (take count) stored ∙ take_at ds rest count long, omega (arith, ap length stored, length-append ds rest))

-- ---- a well-formed plan

module _ {plan : List ℕ} {done : List Transaction} {c : Cursor} (w : Walked plan Ascending done c) (e : Accepted plan) where
  -- it is not refused
  not_refused : {n : ℕ} → unpack plan ≡ refused n → ⊥
  not_refused f = let z : ◌≡◌ {A = ℕ} 0 1 = cc in omega arith

  -- transactions passed are the first of the plan's
  pub passed_first : (us : List Transaction) × (listed (unpack plan) ≡ done ++ us)
  passed_first = ⊎_elim (λ f. absurd (not_refused f)) (λ p. (p.0, ap listed p.1)) (walk_so_far w)

  -- after the last transaction all were passed
  pub all_passed : rest_of plan c ≡ accepted [] → listed (unpack plan) ≡ done
  all_passed s = ap listed (walk_ends w s)

  -- and no fault is found
  pub no_fault : {n : ℕ} → rest_of plan c ≡ refused n → ⊥
  no_fault s = not_refused (walk_fails w s)

-- the lines of transactions passed are no longer than those of all
passed_lines : {plan : List ℕ} {done : List Transaction} {c : Cursor} → Walked plan Ascending done c → Accepted plan
    → length (flat_map transaction_line done) ≤ length (flat_map transaction_line (listed (unpack plan)))
passed_lines {plan} {done} w e =
    let p = passed_first w e in
    let all = ap (λ (ts : List Transaction). length (flat_map transaction_line ts)) p.1 in
    omega (arith, all, ap length (lines-append transaction_line done p.0), length-append (flat_map transaction_line done) (flat_map transaction_line p.0))

-- ---- the lines of a well-formed plan

module _ {out₀ : List ℕ} {at : ℕ} {plan out : List ℕ} {c : Cursor} {end : ℕ} (l : Listing out₀ at plan out c end) (e : Accepted plan)
    (room : at + length (flat_map transaction_line (listed (unpack plan))) ≤ length out₀) {subaddress count : ℕ} {first : Place} {after : Cursor}
    (g : Went plan c subaddress count first after) where
  abbrev found : Transaction
  found = transaction_at plan subaddress count first

  long : length (transaction_line found) ≡ 3 * (count + 1)
  long = omega (arith, line_length found, first_bytes-length count (left_at plan first))

  -- there is room for one more line
  pub line_room : end + 3 * (count + 1) ≤ length out₀
  line_room =
      let passed = passed_lines (walk_goes l.walked g) e in
      let both = ap length (lines_more transaction_line l.done found) in
      omega (arith, long, passed, both, length-append (flat_map transaction_line l.done) (transaction_line found), l.written.here, room)

  -- which was written
  pub listing_goes : (now : List ℕ) (place : ℕ) → now ≡ appended out end (transaction_line found) → place ≡ end + 3 * (count + 1)
      → Listing out₀ at plan now after place
  listing_goes now place m p =
      let past : place ≡ end + length (transaction_line found) = omega (arith, p, long) in
      let more = next l.written (transaction_line found) (omega (arith, line_room, long)) m past in
      record {
        done = l.done ++ (found ∷ []);
        walked = walk_goes l.walked g;
        written = subst (λ (t : List ℕ). Written out₀ at t now place) (lines_more transaction_line l.done found) more;
      }
