-- What the kinds of plans ask: of a list it is what they ask of each transaction and of how many there are; data that they take are for registers that
-- the chip keeps, and those of a pair are read from the registers that they were written to. Assumes nothing.
use mathlib.Core.Path.{◌≡◌, refl, sym, ap, ap₂, ◌∙◌, subst⁻¹}
use mathlib.Core.Logic.{⊎_elim, ◌≢◌}
use mathlib.Core.Bool.{Bool, true, false, cond, not, ◌&&◌, ◌||◌, and-true, false≢true}
use mathlib.Core.List.{List, [], ◌∷◌, ◌++◌, append_assoc}
use Prim.Native.Nat.{ℕ, suc, ◌+◌, ◌*◌, ◌%◌, ◌^◌, ◌≤◌, ◌<◌}
use native.Mathlib.Numerals.{add-one}
use native.Mathlib.Omega.{arith}
use lib.Dec.{T, eqb, leb, eqb→eq}
use lib.ListN.{length, take, drop, get_or}
use lib.Seq.{drop-cons, take_at, drop_at, length-take-le, sets, length-sets, sets-eq}
use borrow.Author.Tests.{leb-true, le-leb, lt-ltb, ne_eqb}
use Rattle.bits.specs.Maps.{has}
use Rattle.bits.proofs.FlagLaws.{first, second, either}
use Rattle.bits.proofs.SetLaws.{none_has}
use Rattle.bus.specs.Transactions.{Transaction, size}
use Rattle.bus.specs.Known.{marks, marks_of}
use Rattle.bus.proofs.Play.{Kept}
use Rattle.bus.proofs.KnownLaws.{has-marks}
use Rattle.unpacking.proofs.Writing.{Turns, passes, state_after}
use Rattle.adv7194_bus.specs.Kind.{register_count, read_only, adv7194}
use Rattle.adv7194_bus.specs.Rules.{keeps_rules, all_keep_rules}
use Rattle.adv7194_bus.proofs.RuleLaws.{agree}
use Rattle.adv7194_captions.specs.Characters.{is_odd}
use Rattle.adv7194_captions.specs.Plans.{extended_pair, ordinary_pair, pair_size, at_pair, all_odd, all_pairs}
use Rattle.adv7194_playing.specs.declared.PlanKind.{PlanKind}
use Rattle.adv7194_playing.specs.declared.PlanKind.TheVariants.{Settings, Captions}
use Rattle.adv7194_playing.specs.Kinds.{needs_transaction, takes_header, takes_data, pair_from, PairThere}
use Rattle.adv7194_playing.specs.Playing.{takes}
use Rattle.bits.specs.Lists.{Every}

-- ---- lists

-- what a kind asks of a transaction
abbrev pub takes_one : PlanKind → Transaction → Bool
takes_one kind t = takes_header kind t.subaddress (size t) && takes_data kind t.bytes

-- at its turn, whatever was before it; the registers known go on
abbrev pub turns : PlanKind → Turns ℕ
turns kind = record { asks = λ map l t. takes_one kind t; goes = λ map l t. marks map t.subaddress (size t) }

-- and of how many there are
abbrev pub enough : PlanKind → ℕ → Bool
enough kind n = not (eqb n 0 && needs_transaction kind)

-- the rules of each
each_settings : (ts : List Transaction) (map : ℕ) (l : List ℕ) → all_keep_rules ts ≡ passes (turns Settings) map l ts
unfolding all_keep_rules passes
each_settings [] map l = refl
each_settings (t ∷ ts) map l =
    ap₂ (λ (x y : Bool). x && y) (sym (and-true (keeps_rules t.subaddress (size t))))
    (each_settings ts (marks map t.subaddress (size t)) (sets l t.subaddress t.bytes))

-- each a pair
each-captions : (ts : List Transaction) (map : ℕ) (l : List ℕ) → all_pairs ts ≡ passes (turns Captions) map l ts
unfolding all_pairs passes
each-captions [] map l = refl
each-captions (t ∷ ts) map l =
    ap (λ (b : Bool). takes_one Captions t && b) (each-captions ts (marks map t.subaddress (size t)) (sets l t.subaddress t.bytes))

-- what a play call takes
pub takes_parts : (kind : PlanKind) (ts : List Transaction) (map : ℕ) (l : List ℕ) → takes kind ts ≡ enough kind (length ts) && passes (turns kind) map l ts
takes_parts Settings ts map l = go (eqb (length ts) 0)
  where
    go : (b : Bool) → all_keep_rules ts ≡ not (b && false) && passes (turns Settings) map l ts
    go true = each_settings ts map l
    go false = each_settings ts map l
takes_parts Captions [] map l = refl
takes_parts Captions (t ∷ ts) map l =
    rw (lt-ltb 0 (length (t ∷ ts)) (omega arith), ne_eqb (length (t ∷ ts)) 0 (λ p. omega arith)) (each-captions (t ∷ ts) map l)

-- the registers known after a list
pub marks_state : (kind : PlanKind) (ts : List Transaction) (map : ℕ) (l : List ℕ) → state_after (turns kind) map l ts ≡ marks_of map ts
unfolding state_after marks_of
marks_state kind [] map l = refl
marks_state kind (t ∷ ts) map l = marks_state kind ts (marks map t.subaddress (size t)) (sets l t.subaddress t.bytes)

-- ---- a transaction

-- a pair's subaddress and data count
pub pair-at : (subaddress count : ℕ) → T (at_pair subaddress count) → (subaddress ≤ ordinary_pair) × (count ≡ pair_size)
pair-at subaddress count h =
    let x = eqb subaddress extended_pair in
    let o = eqb subaddress ordinary_pair in
    let two = eqb count pair_size in (
      ⊎_elim (λ p. omega (arith, eqb→eq subaddress extended_pair p)) (λ p. omega (arith, eqb→eq subaddress ordinary_pair p)) (either x o (first (x || o) two h)),
      eqb→eq count pair_size (second (x || o) two h),
    )

-- the map of a pair's registers
pub pair-marks : (subaddress count : ℕ) → T (at_pair subaddress count) → marks 0 subaddress count ≡ (3 * 2 ^ subaddress) % 2 ^ 64
unfolding marks
pair-marks subaddress count h =
    let x = eqb subaddress extended_pair in
    let o = eqb subaddress ordinary_pair in
    let two : count ≡ pair_size = (pair-at subaddress count h).1 in
    ⊎_elim (λ p. rw (eqb→eq subaddress extended_pair p, two)) (λ p. rw (eqb→eq subaddress ordinary_pair p, two))
    (either x o (first (x || o) (eqb count pair_size) h))

-- the map of a transaction's registers is that of some: so it tells whether the header is taken
pub not_touched : (b : Bool) (subaddress count : ℕ) → 0 < count → cond b (marks 0 subaddress count) 0 ≡ 0 → b ≡ false
not_touched false subaddress count h z = refl
not_touched true subaddress count h z =
    let there : has 0 subaddress ≡ true =
    sym (ap (λ (m : ℕ). has m subaddress) z) ∙ has-marks count subaddress 0 subaddress
    ∙ rw (none_has subaddress, le-leb subaddress subaddress (omega arith), lt-ltb subaddress (subaddress + count) (omega arith)) in
    absurd (false≢true (sym (none_has subaddress) ∙ there))

pub is-touched : (b : Bool) (subaddress count : ℕ) → cond b (marks 0 subaddress count) 0 ≢ 0 → b ≡ true
is-touched false subaddress count h = absurd (h refl)
is-touched true subaddress count h = refl

-- data that a kind takes are for registers that the chip has
pub room : (kind : PlanKind) (subaddress count : ℕ) → 0 < count → takes_header kind subaddress count ≡ true → subaddress + count ≤ register_count
unfolding keeps_rules
room Settings subaddress count h e = go (leb (subaddress + count) register_count) refl
  where
    go : (b : Bool) → leb (subaddress + count) register_count ≡ b → subaddress + count ≤ register_count
    go true p = leb-true (subaddress + count) register_count p
    go false p = let z : false ≡ true = rw (ne_eqb count 0 (λ q. omega arith), p) at e in absurd (subst⁻¹ T z tt)
room Captions subaddress count h e = let p = pair-at subaddress count (subst⁻¹ T e tt) in omega (arith, p.0, p.1)

module _ (own : ℕ) where
  -- data that a kind takes are for registers that the chip keeps
  one_kept : (kind : PlanKind) (t : Transaction) → T (takes_one kind t) → Kept (adv7194 own) t
  one_kept Settings t h r m =
      let k = ((agree t).0 (first (keeps_rules t.subaddress (size t)) true h)).inside r m in
      (k.0, rw (ne_eqb r read_only k.1))
  one_kept Captions t h r m =
      let p = pair-at t.subaddress (size t) (first (at_pair t.subaddress (size t)) (all_odd t.bytes) h) in
      (omega (arith, p.0, p.1, m.1), rw (ne_eqb r read_only (λ z. omega (arith, p.0, p.1, m.1))))

  -- and so is each of a list
  each-kept : (kind : PlanKind) (ts : List Transaction) (map : ℕ) (l : List ℕ) → T (passes (turns kind) map l ts) → Every (Kept (adv7194 own)) ts
  unfolding passes
  each-kept kind [] map l h = tt
  each-kept kind (t ∷ ts) map l h =
      let map' = marks map t.subaddress (size t) in
      let l' = sets l t.subaddress t.bytes in
      let rest = passes (turns kind) map' l' ts in
      (one_kept kind t (first (takes_one kind t) rest h), each-kept kind ts map' l' (second (takes_one kind t) rest h))

  pub all-kept : (kind : PlanKind) (ts : List Transaction) → takes kind ts ≡ true → Every (Kept (adv7194 own)) ts
  all-kept kind ts e =
      each-kept kind ts 0 [] (second (enough kind (length ts)) (passes (turns kind) 0 [] ts) (subst⁻¹ T (sym (takes_parts kind ts 0 []) ∙ e) tt))

-- ---- data in registers

-- two bytes that registers hold
pub pair_held : (l : List ℕ) (i : ℕ) → i + pair_size ≤ length l → all_odd (pair_from i l) ≡ is_odd (get_or l i 0) && is_odd (get_or l (i + 1) 0)
unfolding all_odd
pair_held l i h =
    rw (add-one, drop-cons l i 0 (omega arith), drop-cons l (suc i) 0 (omega arith))
    (ap (λ (b : Bool). is_odd (get_or l i 0) && b) (and-true (is_odd (get_or l (suc i) 0))))

-- two bytes that were written are held
read_pair : (l bytes : List ℕ) (i : ℕ) → i + length bytes ≤ length l → length bytes ≡ pair_size → pair_from i (sets l i bytes) ≡ bytes
read_pair l bytes i h e =
    ap (pair_from i) (sets-eq bytes l i h ∙ append_assoc (take i l) bytes (drop (i + length bytes) l))
    ∙ ap (take pair_size) (drop_at (take i l) (bytes ++ drop (i + length bytes) l) i (length-take-le i l (omega arith)))
    ∙ take_at bytes (drop (i + length bytes) l) pair_size e

-- so data that were written are judged where they stand
module _ (l bytes : List ℕ) (i : ℕ) (h : i + length bytes ≤ length l) where
  pub pair_there : (kind : PlanKind) → takes_header kind i (length bytes) ≡ true → PairThere kind i (sets l i bytes)
  pair_there Settings e = tt
  pair_there Captions e = omega (arith, (pair-at i (length bytes) (subst⁻¹ T e tt)).1, length-sets l i bytes)

  pub pair-judged : (kind : PlanKind) → takes_header kind i (length bytes) ≡ true → takes_data kind (pair_from i (sets l i bytes)) ≡ takes_data kind bytes
  pair-judged Settings e = refl
  pair-judged Captions e = ap all_odd (read_pair l bytes i h (pair-at i (length bytes) (subst⁻¹ T e tt)).1)
