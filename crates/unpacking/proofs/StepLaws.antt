-- What a step through a plan says of the rest of it: a fault, the end, or a transaction and what follows it. Assumes nothing.
use mathlib.Core.Path.{◌≡◌, refl, sym, ap, ap₂, ◌∙◌, subst⁻¹}
use mathlib.Core.Bool.{Bool, true, false, cond, ◌&&◌}
use mathlib.Core.List.{List, [], ◌∷◌}
use Prim.Native.Nat.{ℕ, zero, suc, ◌+◌, ◌*◌, ◌^◌, ◌≤◌, ◌<◌}
use native.Mathlib.Omega.{arith}
use lib.Dec.{T, leb, leb→le, le→leb}
use lib.ListN.{length, take, drop, get_or, length-drop}
use Rattle.bits.specs.Strings.{byte_bits, first_bytes, bytes_of}
use Rattle.bits.proofs.ByteLaws.{byte_bits-length}
use Rattle.bits.proofs.FlagLaws.{holds, same_test}
use Rattle.bus.specs.Transactions.{Transaction}
use Rattle.std.specs.Prelude.{Option, Some, None, Ok, Err}
use Rattle.refusals.specs.declared.Refusal.{Refusal}
use Rattle.refusals.specs.declared.Refusal.TheVariants.{PlanBytes}
use Rattle.refusals.specs.Refusal.{number_of, Judged, accepted, refused}
use Rattle.unpacking.specs.declared.places.Place.{Place}
use Rattle.unpacking.specs.declared.steps.Order.{Order}
use Rattle.unpacking.specs.declared.steps.Cursor.{Cursor}
use Rattle.unpacking.specs.declared.steps.Transaction.{Transaction as Found}
use Rattle.unpacking.specs.Unpacking.{number, named, candidate, unpack_by}
use Rattle.unpacking.specs.Places.{taken, place_after, left_at, Placed, inside}
use Rattle.unpacking.specs.Steps.{start_after, beginning, filling, subaddress_in, count_in, past_first, in_front, Step, first_at, step_at, next_of, transaction_at}
use Rattle.unpacking.proofs.FrontLaws.{number_lt, bytes-taken}
use Rattle.unpacking.proofs.Reader.{Front, front_facts, valid}
use Rattle.unpacking.proofs.Exact.{valid_plan, read_plan}
use Rattle.unpacking.proofs.PlaceLaws.{inside-placed, placed-inside, after-placed, after_left, further_placed, further_left}

-- ---- the rest of a plan

-- transactions, where the place is in the plan and the reader accepts what is left
abbrev rest_by : Bool → Bool → List Transaction → Judged (List Transaction)
rest_by i v ts = cond (i && v) (accepted ts) (refused 9)

-- what is still to be unpacked at a cursor
unfoldable pub rest_of : List ℕ → Cursor → Judged (List Transaction)
rest_of plan c =
    rest_by (inside plan c.place) (valid (start_after c.order) c.left c.free (left_at plan c.place)) (named c.left (left_at plan c.place))

-- a transaction, and then what follows it
abbrev pub prefixed : Transaction → Judged (List Transaction) → Judged (List Transaction)
prefixed t (accepted ts) = accepted (t ∷ ts)
prefixed t (refused n) = refused n

-- a transaction was found, with its data in the plan, and the rest follows it
pub record Went (plan : List ℕ) (c : Cursor) (subaddress count : ℕ) (first : Place) (after : Cursor) : Type 0 where
  pub rest : rest_of plan c ≡ prefixed (transaction_at plan subaddress count first) (rest_of plan after)
  pub low : subaddress < 64
  pub some : 0 < count
  pub few : count < 64
  pub placed : Placed plan first
  pub room : first.at + count ≤ length plan
  pub left : c.left ≡ suc after.left
  pub order : after.order ≡ c.order

-- what a step says of the rest
abbrev pub Stepped : List ℕ → Cursor → Step → Type 0
Stepped plan c (Ok (Some t)) = Went plan c t.subaddress t.count t.«data» t.after
Stepped plan c (Ok None) = rest_of plan c ≡ accepted []
Stepped plan c (Err r) = rest_of plan c ≡ refused (number_of r)

-- ---- the steps

prefixed_rest : (t : Transaction) (i v : Bool) (ts : List Transaction) → rest_by i v (t ∷ ts) ≡ prefixed t (rest_by i v ts)
prefixed_rest t true true ts = refl
prefixed_rest t true false ts = refl
prefixed_rest t false v ts = refl

module _ (plan : List ℕ) (c : Cursor) where
  abbrev p : Place
  p = c.place

  abbrev bs : List Bool
  bs = left_at plan p

  abbrev next : ℕ → ℕ
  next = start_after c.order

  -- no place in the plan
  outside : inside plan p ≡ false → rest_of plan c ≡ refused 9
  unfolding rest_of
  outside e = ap (λ (b : Bool). rest_by b (valid next c.left c.free bs) (named c.left bs)) e

  module _ (i : inside plan p ≡ true) where
    -- by what the reader says of what is left
    by_reader : (n : ℕ) → c.left ≡ n → rest_of plan c ≡ rest_by true (valid next n c.free bs) (named n bs)
    unfolding rest_of
    by_reader n l = ap₂ (λ (b : Bool) (k : ℕ). rest_by b (valid next k c.free bs) (named k bs)) i l

    -- none is to come: the filling decides
    filled : (b : Bool) → c.left ≡ 0 → filling bs ≡ b → rest_of plan c ≡ rest_by true b []
    unfolding valid named
    filled b l f = by_reader 0 l ∙ ap (λ (x : Bool). rest_by true x []) f

    -- one is, and isn't there
    faulty : (n : ℕ) → c.left ≡ suc n → in_front c.free bs ≡ false → rest_of plan c ≡ refused 9
    unfolding valid
    faulty n l f =
        by_reader (suc n) l
        ∙ ap (λ (x : Bool). rest_by true (x && valid next n (next (subaddress_in bs + count_in bs)) (past_first bs)) (named (suc n) bs)) f

    module _ (n : ℕ) (l : c.left ≡ suc n) (f : in_front c.free bs ≡ true) where
      abbrev k : ℕ
      k = count_in bs

      abbrev first : Place
      first = place_after (taken p + 12)

      abbrev past : Place
      past = record { at = first.at + k; held = first.held }

      front : Front c.free bs
      front = front_facts c.free bs (rw f tt)

      -- how many bits are left
      long : 12 + k * 8 + taken p ≤ length plan * 8
      long = omega (arith, front.long, front.held, length-drop 12 bs, length-drop (taken p) (byte_bits plan), byte_bits-length plan)

      first-placed : Placed plan first
      first-placed = after-placed plan (taken p + 12) (omega arith) (omega (arith, long))

      room : first.at + k ≤ length plan
      room = omega (arith, long)

      -- what is left past its data
      past_left : left_at plan past ≡ past_first bs
      past_left = further_left plan first k first-placed ∙ ap (drop (k * 8)) (after_left plan p 12)

      -- its data
      bytes : bytes_of (take (k * 8) (drop 12 bs)) ≡ first_bytes k (left_at plan first)
      bytes = bytes-taken k (drop 12 bs) front.held ∙ ap (first_bytes k) (sym (after_left plan p 12))

      -- the rest is that transaction and what follows it
      found-rest : rest_of plan c ≡ prefixed (transaction_at plan (subaddress_in bs) k first)
          (rest_of plan (record { place = past; left = n; free = next (subaddress_in bs + k); order = c.order }))
      unfolding rest_of valid named
      found-rest =
          let t = transaction_at plan (subaddress_in bs) k first in
          let v = valid next n (next (subaddress_in bs + k)) in
          by_reader (suc n) l
          ∙ ap₂ (λ (b : Bool) (d : List ℕ). rest_by true (b && v (past_first bs)) (record { subaddress = subaddress_in bs; bytes = d } ∷ named n (past_first bs)))
          f bytes
          ∙ prefixed_rest t true (v (past_first bs)) (named n (past_first bs))
          ∙ ap₂ (λ (b : Bool) (l : List Bool). prefixed t (rest_by b (v l) (named n l)))
          (sym (placed-inside plan past (further_placed plan first k first-placed room))) (sym past_left)

      found : Stepped plan c (Ok (Some (first_at p n c.order bs)))
      found =
          record {
            rest = found-rest;
            low = number_lt 6 bs;
            some = front.some;
            few = number_lt 6 (drop 6 bs);
            placed = first-placed;
            room = room;
            left = l;
            order = refl;
          }

  -- a step says what it should
  pub stepped : Stepped plan c (next_of plan c)
  unfolding next_of
  stepped = by_place (inside plan p) refl
    where
      by_filling : inside plan p ≡ true → c.left ≡ 0 → (b : Bool) → filling bs ≡ b → Stepped plan c (cond b (Ok None) (Err PlanBytes))
      by_filling i l true f = filled i true l f
      by_filling i l false f = filled i false l f

      by_front : inside plan p ≡ true → (n : ℕ) → c.left ≡ suc n → (b : Bool) → in_front c.free bs ≡ b
          → Stepped plan c (cond b (Ok (Some (first_at p n c.order bs))) (Err PlanBytes))
      by_front i n l true f = found i n l f
      by_front i n l false f = faulty i n l f

      by_left : inside plan p ≡ true → (n : ℕ) → c.left ≡ n → Stepped plan c (step_at p n c.free c.order bs)
      by_left i zero l = by_filling i l (filling bs) refl
      by_left i (suc n) l = by_front i n l (in_front c.free bs) refl

      by_place : (b : Bool) → inside plan p ≡ b → Stepped plan c (cond b (step_at p c.left c.free c.order bs) (Err PlanBytes))
      by_place true i = by_left i c.left refl
      by_place false i = outside i

-- ---- a walk, of which each turn takes a step: what that says of the turn

-- a transaction was found
pub found_step : (plan : List ℕ) (c : Cursor) {o : Option Found} {t : Found} → Ok o ≡ next_of plan c → o ≡ Some t
    → Went plan c t.subaddress t.count t.«data» t.after
found_step plan c e f = subst⁻¹ (Stepped plan c) (sym (ap Ok f) ∙ e) (stepped plan c)

-- the end was reached
pub last_step : (plan : List ℕ) (c : Cursor) {o : Option Found} → Ok o ≡ next_of plan c → o ≡ None → rest_of plan c ≡ accepted []
last_step plan c e f = subst⁻¹ (Stepped plan c) (sym (ap Ok f) ∙ e) (stepped plan c)

-- the bytes break the packing
pub faulty_step : (plan : List ℕ) (c : Cursor) {r : Refusal} → Err r ≡ next_of plan c → rest_of plan c ≡ refused (number_of r)
faulty_step plan c e = subst⁻¹ (Stepped plan c) e (stepped plan c)

-- ---- the beginning

-- unpacking a plan is what is to be unpacked at its beginning
pub opened : (plan : List ℕ) (order : Order) → ((i : ℕ) → get_or plan i 0 < 2 ^ 8) → unpack_by (start_after order) plan ≡ rest_of plan (beginning plan order)
unfolding rest_of valid_plan
opened plan order bytes =
    let bits = byte_bits plan in
    let there : leb 6 (length bits) ≡ inside plan (place_after 6) =
    same_test (leb 6 (length bits)) (inside plan (place_after 6))
    (λ h. subst⁻¹ T (placed-inside plan (place_after 6) (after-placed plan 6 (omega arith) (omega (arith, leb→le 6 (length bits) h, byte_bits-length plan)))) tt)
    (λ h. le→leb 6 (length bits) (omega (arith, (inside-placed plan (place_after 6) (holds (inside plan (place_after 6)) h)).inside, byte_bits-length plan))) in
    read_plan (start_after order) plan bytes
    ∙ ap (λ (b : Bool). cond (b && valid (start_after order) (number 6 bits) 0 (drop 6 bits)) (accepted (candidate plan)) (refused 9)) there
