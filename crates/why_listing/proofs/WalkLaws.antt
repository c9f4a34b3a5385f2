-- A walk through a well-formed plan that writes the lines of each transaction. Assumes nothing.
use mathlib.Core.Path.{◌≡◌, ap}
use mathlib.Core.List.{List, [], ◌∷◌, ◌++◌, flat_map}
use Prim.Native.Nat.{ℕ, ◌+◌, ◌*◌, ◌^◌, ◌≤◌, ◌<◌}
use native.Mathlib.Omega.{arith}
use lib.ListN.{length, get_or}
use Rattle.bits.proofs.ByteLaws.{first_bytes-length}
use Rattle.bus.specs.Transactions.{Transaction, size}
use Rattle.unpacking.specs.declared.places.Place.{Place}
use Rattle.unpacking.specs.declared.steps.Order.TheVariants.{Ascending}
use Rattle.unpacking.specs.declared.steps.Cursor.{Cursor}
use Rattle.unpacking.specs.Places.{left_at}
use Rattle.unpacking.specs.Steps.{beginning, transaction_at}
use Rattle.unpacking.specs.Listed.{Accepted}
use Rattle.unpacking.proofs.StepLaws.{Went}
use Rattle.unpacking.proofs.Walking.{Walked, walk_begins, walk_goes}
use Rattle.plan_listing.proofs.TextLaws.{lines_more}
use Rattle.plan_listing.proofs.WalkLaws.{passed_first}
use Rattle.writing.specs.Put.{Put}
use Rattle.writing.proofs.Putting.{more, wider, same_text, unwritten}
use Rattle.adv7194_reasons.specs.Reasons.{Reason}
use Rattle.why_listing.specs.WhyText.{transaction_text}
use Rattle.why_listing.specs.Parts.{transaction_width, byte_width}
use Rattle.why_listing.proofs.LineLaws.{list_width, width-append, width-more, plan-width}

-- the transactions passed, and their lines written
pub record Listing (why : ℕ → Reason) (line₀ : List ℕ) (at : ℕ) (plan line : List ℕ) (cursor : Cursor) (place : ℕ) : Type 0 where
  pub done : List Transaction
  pub walked : Walked plan Ascending done cursor
  pub written : Put (list_width done) line₀ at (flat_map (transaction_text why) done) line place

-- none was
pub listing_begins : (why : ℕ → Reason) (line plan : List ℕ) (at : ℕ) (c : Cursor) → c ≡ beginning plan Ascending → ((i : ℕ) → get_or plan i 0 < 2 ^ 8)
    → at ≤ length line → Listing why line at plan line c at
unfolding flat_map
listing_begins why line plan at c e bytes h = record { done = []; walked = rw e (walk_begins plan Ascending bytes); written = unwritten line at h }

-- a transaction was found
module _ {why : ℕ → Reason} {line₀ : List ℕ} {at : ℕ} {plan line : List ℕ} {c : Cursor} {place : ℕ} (l : Listing why line₀ at plan line c place)
    (e : Accepted plan) (room : at + byte_width * length plan ≤ length line₀) {subaddress count : ℕ} {first : Place} {after : Cursor}
    (g : Went plan c subaddress count first after) where
  abbrev found : Transaction
  found = transaction_at plan subaddress count first

  as_many : size found ≡ count
  as_many = first_bytes-length count (left_at plan first)

  -- the lines passed and its own have room
  both_room : at + (list_width l.done + transaction_width count) ≤ length line₀
  both_room =
      let p = passed_first (walk_goes l.walked g) e in
      omega (arith, room, plan-width plan e, ap list_width p.1, width-append (l.done ++ (found ∷ [])) p.0, width-more l.done found, as_many)

  pub lines-room : place + transaction_width count ≤ length line₀
  lines-room = omega (arith, both_room, l.written.most)

  -- which were written
  pub listing_goes : {now : List ℕ} {next : ℕ} → Put (transaction_width count) line place (transaction_text why found) now next
      → Listing why line₀ at plan now after next
  listing_goes p =
      record {
        done = l.done ++ (found ∷ []);
        walked = walk_goes l.walked g;
        written =
            wider (list_width (l.done ++ (found ∷ []))) (omega (arith, width-more l.done found, as_many))
            (same_text (lines_more (transaction_text why) l.done found) (more l.written p both_room));
      }
