-- Reading over a board: lengths, then the judgement of the image up to the first field with an unknown register. Assumes nothing.
use mathlib.Core.Path.{◌≡◌, refl, sym, ap, ap₂, ◌∙◌, subst}
use mathlib.Core.Logic.{◌⊎◌, ⊎_elim}
use mathlib.Core.Bool.{Bool, true, false, not, cond, ◌&&◌, ◌||◌, and-false, or-true}
use mathlib.Core.List.{List, [], ◌∷◌, ◌++◌, flat_map}
use Prim.Native.Nat.{ℕ, zero, suc, ◌^◌, ◌≤◌, ◌<◌}
use native.Mathlib.Omega.{arith}
use lib.Dec.{T, eqb, ltb}
use lib.ListN.{length}
use borrow.Author.Tests.{eq-eqb, ne_eqb, lt-ltb, le-ltb, not-true, eqb-true}
use Rattle.bits.specs.Maps.{map_width, has, complement}
use Rattle.bits.proofs.FlagLaws.{first, second, holds}
use Rattle.bits.proofs.SetLaws.{has_not}
use Rattle.refusals.specs.Verdict.{Verdict, good, refused_at, after}
use Rattle.refusals.specs.Order.{first_of, places_at, places_in}
use Rattle.refusals.proofs.OrderLaws.{first-append}
use Rattle.adv7194_bus.specs.Kind.{register_count}
use Rattle.adv7194_bus.specs.declared.board.Board.{Board}
use Rattle.adv7194_bus.specs.Board.{board_of, all_known}
use Rattle.bits.proofs.Checks.{below, at-below}
use Rattle.adv7194_table.specs.Fields.{number_count}
use Rattle.adv7194_table.specs.Blocks.{signalling}
use Rattle.adv7194_table.specs.Table.{table, order_of}
use Rattle.adv7194_table.specs.Masks.{each}
use Rattle.adv7194_table.specs.Registers.{has_bits, field_among, lowest_in, lowest_field}
use Rattle.adv7194_table.proofs.TableLaws.{order_is}
use Rattle.adv7194_table.proofs.RegisterLaws.{lowest_from, lowest_here, lowest_next, lowest_from_lem, none_below, none_lowest, same_lowest}
use Rattle.adv7194_settings.specs.Known.{not_known}
use Rattle.adv7194_settings.specs.Order.{rows_at, order}
use Rattle.adv7194_settings.specs.Rows.{row_held, judge_of}
use Rattle.adv7194_settings.specs.Reading.{row_read, read_order, read_of, with_unknown}
use Rattle.adv7194_settings.proofs.Names.{unknown}

abbrev Found : Type 0
Found = Verdict (Unit {0})

-- ---- where a fault is

-- at a field, where it is one
abbrev At : ℕ → Found → Type 0
At f (good u) = Unit {0}
At f (refused_at n g) = g ≡ f

-- at a field from k on
abbrev From : ℕ → Found → Type 0
From k (good u) = Unit {0}
From k (refused_at n g) = k ≤ g

-- rows of one field
rows_at_lem : (holds : ℕ → ℕ → Bool) (ns : List ℕ) (f : ℕ) → At f (first_of holds (places_at ns f) tt)
unfolding first_of places_at
rows_at_lem holds [] f = tt
rows_at_lem holds (n ∷ ns) f = split (holds n f) (rows_at_lem holds ns f)
  where
    split : (b : Bool) → At f (first_of holds (places_at ns f) tt) → At f (cond b (refused_at n f) (first_of holds (places_at ns f) tt))
    split true h = refl
    split false h = h

-- a field's fault before those of later ones
after_from : (k : ℕ) (v w : Found) → At k v → From (suc k) w → From k (after v w)
after_from k (good a) (good c) h g = tt
after_from k (good a) (refused_at n f) h g = omega arith
after_from k (refused_at n f) w h g = omega arith

-- ---- row 11 among the others

-- a board known in the fields that are judged
pub all-judged : (v : Found) → with_unknown 0 v ≡ v
all-judged (good a) = refl
all-judged (refused_at n f) = refl

-- the first field has an unknown register
unknown-here : (k : ℕ) (v : Found) → 0 < k → From k v → refused_at 11 k ≡ with_unknown k v
unknown-here k (good a) p h = let z : eqb k 0 ≡ false = ne_eqb k 0 (omega arith) in rw z
unknown-here k (refused_at n f) p h =
    let z : eqb k 0 ≡ false = ne_eqb k 0 (omega arith) in
    let l : ltb f k ≡ false = le-ltb f k h in
    rw (z, l)

-- only a later one has
unknown-later : (k u : ℕ) (v w : Found) → At k v → (u ≡ 0) ⊎ (suc k ≤ u) → after v (with_unknown u w) ≡ with_unknown u (after v w)
unknown-later k u (good a) w h l = refl
unknown-later k u (refused_at n f) w h l = let e = ⊎_elim first-none later l in rw e
  where
    first-none : u ≡ 0 → (eqb u 0 || ltb f u) ≡ true
    first-none e = let z : eqb u 0 ≡ true = eq-eqb u 0 e in rw z

    later : suc k ≤ u → (eqb u 0 || ltb f u) ≡ true
    later e = let z : ltb f u ≡ true = lt-ltb f u (omega arith) in rw z (or-true (eqb u 0))

module _ (b : Board) (count : ℕ) where
  -- the faults of some fields: by reading, of the image alone, and of one field
  abbrev read_from : List ℕ → Found
  read_from fs = first_of (row_read b count) (places_in (λ f. 11 ∷ rows_at f) fs) tt

  abbrev judged_from : List ℕ → Found
  judged_from fs = first_of (row_held b.registers) (places_in rows_at fs) tt

  abbrev fault : ℕ → Found
  fault f = first_of (row_held b.registers) (places_at (rows_at f) f) tt

  -- a field before others, judged
  judged-first : (f : ℕ) (fs : List ℕ) → judged_from (f ∷ fs) ≡ after (fault f) (judged_from fs)
  unfolding places_in flat_map
  judged-first f fs = first-append (row_held b.registers) (places_at (rows_at f) f) (places_in rows_at fs) tt

  judged_from_lem : (k n : ℕ) → From k (judged_from (each (λ f. f) k n))
  unfolding places_in first_of flat_map
  judged_from_lem k zero = tt
  judged_from_lem k (suc n) =
      subst (From k) (sym (judged-first k (each (λ f. f) (suc k) n)))
      (after_from k (fault k) (judged_from (each (λ f. f) (suc k) n)) (rows_at_lem (row_held b.registers) (rows_at k) k) (judged_from_lem (suc k) n))

  -- rows other than 11
  abbrev others : List ℕ → Bool
  others [] = true
  others (n ∷ ns) = not (eqb n 11) && others ns

  others-at : (f : ℕ) → T (others (rows_at f))
  others-at f = split (eqb f signalling.field)
    where
      split : (t : Bool) → T (others (cond t (7 ∷ 3 ∷ 4 ∷ 8 ∷ []) (3 ∷ 4 ∷ 5 ∷ 6 ∷ 8 ∷ [])))
      split true = tt
      split false = tt

  -- they are those of the image
  rows_held : (f : ℕ) (ns : List ℕ) → eqb f 0 ≡ false → T (others ns)
      → first_of (row_read b count) (places_at ns f) (tt {0}) ≡ first_of (row_held b.registers) (places_at ns f) tt
  unfolding first_of places_at row_read
  rows_held f [] z h = refl
  rows_held f (n ∷ ns) z h =
      let e : eqb n 11 ≡ false = not-true _ (holds _ (first (not (eqb n 11)) (others ns) h)) in
      rw (z, e) (ap (λ (v : Found). cond (row_held b.registers n f) (refused_at n f) v) (rows_held f ns z (second (not (eqb n 11)) (others ns) h)))

  -- a field before others, read: row 11 and then its other rows
  read_first : (f : ℕ) (fs : List ℕ) → eqb f 0 ≡ false → read_from (f ∷ fs) ≡ cond (not_known b f) (refused_at 11 f) (after (fault f) (read_from fs))
  unfolding first_of places_at places_in row_read flat_map
  read_first f fs z =
      let rest : first_of (row_read b count) (places_at (rows_at f) f ++ places_in (λ f. 11 ∷ rows_at f) fs) (tt {0}) ≡ after (fault f) (read_from fs) =
      first-append (row_read b count) (places_at (rows_at f) f) (places_in (λ f. 11 ∷ rows_at f) fs) tt
      ∙ ap (λ (v : Found). after v (read_from fs)) (rows_held f (rows_at f) z (others-at f)) in
      rw z (ap (λ (v : Found). cond (not_known b f) (refused_at 11 f) v) rest)

  -- n fields from k on
  read_from_lem : (k n : ℕ) → 0 < k → read_from (each (λ f. f) k n) ≡ with_unknown (lowest_from (unknown b) k n) (judged_from (each (λ f. f) k n))
  unfolding places_in first_of lowest_in flat_map
  read_from_lem k zero p = refl
  read_from_lem k (suc n) p =
      read_first k later (ne_eqb k 0 (omega arith))
      ∙ ap (λ (v : Found). cond (not_known b k) (refused_at 11 k) (after (fault k) v)) (read_from_lem (suc k) n (omega arith))
      ∙ split (not_known b k) refl
    where
      later : List ℕ
      later = each (λ f. f) (suc k) n

      u : ℕ
      u = lowest_from (unknown b) (suc k) n

      split : (t : Bool) → not_known b k ≡ t
          → cond t (refused_at 11 k) (after (fault k) (with_unknown u (judged_from later)))
          ≡ with_unknown (lowest_from (unknown b) k (suc n)) (judged_from (k ∷ later))
      split true e =
          unknown-here k (judged_from (k ∷ later)) p (judged_from_lem k (suc n))
          ∙ ap (λ (m : ℕ). with_unknown m (judged_from (k ∷ later))) (sym (lowest_here (unknown b) k n e))
      split false e =
          unknown-later k u (fault k) (judged_from later) (rows_at_lem (row_held b.registers) (rows_at k) k) (lowest_from_lem (unknown b) (suc k) n)
          ∙ ap₂ with_unknown (sym (lowest_next (unknown b) k n e)) (sym (judged-first k later))

  -- all fields
  read_fields : read_from (order_of table) ≡ with_unknown (lowest_field (unknown b)) (judge_of b.registers)
  unfolding judge_of order
  read_fields =
      ap read_from order_is ∙ read_from_lem 1 28 (omega arith)
      ∙ sym (ap (λ (fs : List ℕ). with_unknown (lowest_in (unknown b) fs) (judged_from fs)) order_is)

  -- ---- what reading answers

  -- row 1, row 3 at field 0, then the fields
  pub read_parts : read_of b count
      ≡ cond (not (eqb (length b.registers) register_count)) (refused_at 1 0)
      (cond (not (eqb count number_count)) (refused_at 3 0) (with_unknown (lowest_field (unknown b)) (judge_of b.registers)))
  unfolding read_of read_order first_of places_at row_read
  read_parts =
      ap (λ (v : Found). cond (not (eqb (length b.registers) register_count)) (refused_at 1 0) (cond (not (eqb count number_count)) (refused_at 3 0) v))
      read_fields

  pub image-length : (length b.registers ≡ register_count → ⊥) → refused_at 1 0 ≡ read_of b count
  image-length h = sym (read_parts ∙ rw (ne_eqb (length b.registers) register_count h))

  pub numbers-length : length b.registers ≡ register_count → (count ≡ number_count → ⊥) → refused_at 3 0 ≡ read_of b count
  numbers-length e h = sym (read_parts ∙ rw (eq-eqb (length b.registers) register_count e, ne_eqb count number_count h))

  pub judged_read : length b.registers ≡ register_count → count ≡ number_count
      → with_unknown (lowest_field (unknown b)) (judge_of b.registers) ≡ read_of b count
  judged_read e d = sym (read_parts ∙ rw (eq-eqb (length b.registers) register_count e, eq-eqb count number_count d))

-- the unknown registers as the complement of the map of known ones
pub lowest_unknown : (b : Board) → b.known < 2 ^ map_width → lowest_field (has (complement b.known)) ≡ lowest_field (unknown b)
lowest_unknown b h = same_lowest (has (complement b.known)) (unknown b) (λ r k. has_not map_width b.known r h (omega arith))

-- ---- what is read

-- a board that is read has an image of the right length that is good, and every register of its fields is known
pub record IsRead (b : Board) (count : ℕ) : Type 0 where
  pub size : length b.registers ≡ register_count
  pub numbers : count ≡ number_count
  pub known : lowest_field (unknown b) ≡ 0
  pub judged : judge_of b.registers ≡ good tt

-- a refusal isn't good
never : {n f : ℕ} → ◌≡◌ {A = Found} (refused_at n f) (good tt) → ⊥
never e = let z : ◌≡◌ {A = ℕ} 0 1 = cc in omega arith

-- no register was unknown, and no field at fault
known-good : (u : ℕ) (v : Found) → with_unknown u v ≡ good tt → (u ≡ 0) × (v ≡ good tt)
known-good u (good a) e = by (eqb u 0) refl e
  where
    by : (t : Bool) → eqb u 0 ≡ t → cond t (good a) (refused_at 11 u) ≡ good tt → (u ≡ 0) × (good a ≡ good tt)
    by true q e = (eqb-true u 0 q, e)
    by false q e = absurd (never e)
known-good u (refused_at n f) e = by (eqb u 0 || ltb f u) e
  where
    by : (t : Bool) → cond t (refused_at n f) (refused_at 11 u) ≡ good (tt {0}) → (u ≡ 0) × (refused_at n f ≡ good (tt {0}))
    by true e = absurd (never e)
    by false e = absurd (never e)

pub is_read : (b : Board) (count : ℕ) → read_of b count ≡ good tt → IsRead b count
is_read b count e = by (eqb (length b.registers) register_count) (eqb count number_count) refl refl (sym (read_parts b count) ∙ e)
  where
    fields : Found
    fields = with_unknown (lowest_field (unknown b)) (judge_of b.registers)

    by : (s t : Bool) → eqb (length b.registers) register_count ≡ s → eqb count number_count ≡ t
        → cond (not s) (refused_at 1 0) (cond (not t) (refused_at 3 0) fields) ≡ good tt → IsRead b count
    by true true p q e =
        let k = known-good (lowest_field (unknown b)) (judge_of b.registers) e in
        record { size = eqb-true _ _ p; numbers = eqb-true _ _ q; known = k.0; judged = k.1 }
    by true false p q e = absurd (never e)
    by false t p q e = absurd (never e)

-- ---- a board known in full

-- no field has an unknown register
pub none-unknown : (image : List ℕ) → lowest_field (unknown (board_of image all_known)) ≡ 0
unfolding field_among below
none-unknown image =
    none_lowest (unknown (board_of image all_known))
    (λ f. none_below (λ r. has_bits f r && not (has all_known r)) register_count (λ r h. here f r (at-below register_count (has all_known) tt r h)))
    (order_of table)
  where
    here : (f r : ℕ) → T (has all_known r) → (has_bits f r && not (has all_known r)) ≡ false
    here f r t = let e : has all_known r ≡ true = holds (has all_known r) t in rw e (and-false (has_bits f r))

-- it is read as its image: by 1, by 3 at field 0, or as that is judged
pub read_known : (image : List ℕ) (count : ℕ) → read_of (board_of image all_known) count
    ≡ cond (not (eqb (length image) register_count)) (refused_at 1 0) (cond (not (eqb count number_count)) (refused_at 3 0) (judge_of image))
read_known image count =
    read_parts (board_of image all_known) count
    ∙ ap (λ (v : Found). cond (not (eqb (length image) register_count)) (refused_at 1 0) (cond (not (eqb count number_count)) (refused_at 3 0) v))
    (ap (λ (u : ℕ). with_unknown u (judge_of image)) (none-unknown image) ∙ all-judged (judge_of image))
