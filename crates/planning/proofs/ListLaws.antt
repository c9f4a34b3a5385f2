-- An ascending list of transactions with data is the list of its two maps. Assumes nothing.
use mathlib.Core.Path.{◌≡◌, refl, sym, ap, ap₂, ◌∙◌}
use mathlib.Core.Bool.{Bool, true, false, not, ◌&&◌, ◌||◌, or-true, false≢true}
use mathlib.Core.List.{List, [], ◌∷◌}
use Prim.Native.Nat.{ℕ, zero, suc, ◌+◌, ◌-◌, ◌≤◌, ◌<◌}
use native.Mathlib.Omega.{arith}
use lib.Dec.{leb, ltb, eqb}
use lib.ListN.{length, get_or, take}
use lib.Seq.{slice, length-slice, get_or-take, get_or-drop}
use borrow.Author.Tests.{ltb-true, lt-ltb, le-ltb, leb-true, leb-false, le-leb, lt-leb, eq-eqb, ne_eqb, eqb-true}
use Rattle.bits.specs.Maps.{map_width, has}
use Rattle.bus.specs.Transactions.{Transaction, size, end}
use Rattle.least_cost.specs.Order.{Ascending, Holds}
use Rattle.least_cost.specs.Plan.{scan}
use Rattle.least_cost.proofs.Spans.{same_transaction}
use Rattle.least_cost.proofs.Rounds.{scan_skips, scan-run}
use Rattle.cutting.specs.Spans.{touched, begun}
use Rattle.cutting.specs.Task.{map_task}
use Rattle.planning.specs.Registers.{before}
use Rattle.planning.specs.Plan.{list_from}
use Rattle.bits.specs.Lists.{Every}

-- a transaction with data, which are the wanted bytes
pub record Good (w : List ℕ) (t : Transaction) : Type 0 where
  pub some : 0 < size t
  pub ends : end t ≤ length w
  pub holds : Holds (λ r. get_or w r 0) t

-- ---- what the maps of an ascending list have

-- nothing before its start
untouched : (i x : ℕ) (ts : List Transaction) → Ascending i ts → x < i → (touched ts x ≡ false) × (begun ts x ≡ false)
unfolding touched begun
untouched i x [] a h = (refl, refl)
untouched i x (t ∷ ts) a h =
    let ih = untouched (end t) x ts a.1 (omega arith) in
    (rw (lt-leb t.subaddress x (omega arith)) ih.0, rw (ne_eqb t.subaddress x (omega arith)) ih.1)

-- a register that it begins to touch is a start
starts_at : (w : List ℕ) (i : ℕ) (ts : List Transaction) → Ascending i ts → Every (Good w) ts → touched ts i ≡ true → begun ts i ≡ true
unfolding touched begun
starts_at w i [] a g e = e
starts_at w i (t ∷ ts) a g e = go (leb t.subaddress i) refl e
  where
    go : (b : Bool) → leb t.subaddress i ≡ b → ((leb t.subaddress i && ltb i (end t)) || touched ts i) ≡ true
        → (eqb t.subaddress i || begun ts i) ≡ true
    go true l u = let d = leb-true t.subaddress i l in rw (eq-eqb t.subaddress i (omega arith))
    go false l u = absurd (false≢true (sym (untouched (end t) i ts a.1 (omega arith)).0 ∙ rw l at u))

module _ (w : List ℕ) (i : ℕ) (t : Transaction) (ts : List Transaction) (a : Ascending i (t ∷ ts)) (g : Every (Good w) (t ∷ ts)) where
  -- the first transaction's registers are touched
  in_first : (x : ℕ) → t.subaddress ≤ x → x < end t → touched (t ∷ ts) x ≡ true
  unfolding touched
  in_first x h k = rw (le-leb t.subaddress x h, lt-ltb x (end t) k)

  -- and but for the first of them no transaction starts there
  not_begun : (x : ℕ) → t.subaddress < x → x < end t → begun (t ∷ ts) x ≡ false
  unfolding begun
  not_begun x h k = rw (ne_eqb t.subaddress x (omega arith)) (untouched (end t) x ts a.1 k).1

  -- past it there are the other transactions alone
  past_first_lem : (x : ℕ) → end t ≤ x → (touched (t ∷ ts) x ≡ touched ts x) × (begun (t ∷ ts) x ≡ begun ts x)
  unfolding touched begun
  past_first_lem x h =
      let s = g.0.some in
      (rw (le-leb t.subaddress x (omega arith), le-ltb x (end t) h), rw (ne_eqb t.subaddress x (omega arith)))

  -- it doesn't go on past its end
  ended : (touched (t ∷ ts) (end t) && not (begun (t ∷ ts) (end t))) ≡ false
  ended =
      let p = past_first_lem (end t) (omega arith) in
      rw (p.0, p.1) (go (touched ts (end t)) refl)
    where
      go : (b : Bool) → touched ts (end t) ≡ b → (touched ts (end t) && not (begun ts (end t))) ≡ false
      go true e = rw (e, starts_at w (end t) ts a.1 g.1 e)
      go false e = rw e

-- a part of the wanted bytes
part_holds : (w : List ℕ) (a e : ℕ) → e ≤ length w → Holds (λ r. get_or w r 0) (record { subaddress = a; bytes = slice a e w })
part_holds w a e l x u =
    let n = length-slice a e w l in
    let q : a + (x - a) ≡ x = omega arith in
    get_or-drop a (take e w) (x - a) 0 ∙ ap (λ (i : ℕ). get_or (take e w) i 0) q ∙ get_or-take e w x 0 (omega arith)

-- ---- the list of the maps

-- past the last register there is none
none : (taken goes : ℕ) (w : List ℕ) → scan (map_task (length w) taken taken 0 map_width) (λ k x s. has goes x) (λ r. get_or w r 0) 0 (length w) ≡ []
unfolding scan
none taken goes w = refl

-- it is the list
pub list-is : (taken goes : ℕ) (w : List ℕ) (ts : List Transaction) (i : ℕ) → i ≤ length w → Ascending i ts → Every (Good w) ts
    → ((x : ℕ) → i ≤ x → has taken x ≡ touched ts x) → ((x : ℕ) → i ≤ x → has goes x ≡ (touched ts x && not (begun ts x)))
    → list_from taken goes w i ≡ ts
unfolding touched
list-is taken goes w [] i h a g m o =
    scan_skips (map_task (length w) taken taken 0 map_width) (λ k x s. has goes x) w (length w - i) i 0 (length w) (omega arith) h (λ x u v. m x u)
    ∙ none taken goes w
list-is taken goes w (t ∷ ts) i h a g m o =
    let s = g.0.some in
    let e = g.0.ends in
    let b = t.subaddress in
    let a₀ = a.0 in
    scan-run (map_task (length w) taken taken 0 map_width) (λ k x s. has goes x) w (length w - i) i (length w - b - 1) b (length w - end t) (end t)
    (omega arith) (omega arith) a₀ (omega arith) e
    (λ x u v. m x u ∙ (untouched b x (t ∷ ts) (omega arith, a.1) v).0)
    (m b a₀ ∙ in_first w i t ts a g b (omega arith) (omega arith))
    (λ k x u v z. o x (omega arith) ∙ ap₂ (λ (y z : Bool). y && not z) (in_first w i t ts a g x (omega arith) z) (not_begun w i t ts a g x v z))
    (λ k u. o (end t) (omega arith) ∙ ended w i t ts a g)
    ∙ ap₂ ◌∷◌ same
    (list-is taken goes w ts (end t) e a.1 g.1
    (λ x u. m x (omega arith) ∙ (past_first_lem w i t ts a g x u).0)
    (λ x u. o x (omega arith) ∙ ap₂ (λ (y z : Bool). y && not z) (past_first_lem w i t ts a g x u).0 (past_first_lem w i t ts a g x u).1))
  where
    same : record { subaddress = t.subaddress; bytes = slice t.subaddress (end t) w } ≡ t
    same =
        let n = length-slice t.subaddress (end t) w g.0.ends in
        same_transaction (λ r. get_or w r 0) (record { subaddress = t.subaddress; bytes = slice t.subaddress (end t) w }) t refl (omega arith)
        (part_holds w t.subaddress (end t) g.0.ends) g.0.holds

-- ---- its maps are those of a list

-- a start is touched
pub begun-touched : (w : List ℕ) (ts : List Transaction) (x : ℕ) → Every (Good w) ts → begun ts x ≡ true → touched ts x ≡ true
unfolding touched begun
begun-touched w [] x g e = e
begun-touched w (t ∷ ts) x g e = go (eqb t.subaddress x) refl e (λ u. begun-touched w ts x g.1 u)
  where
    go : (b : Bool) → eqb t.subaddress x ≡ b → (eqb t.subaddress x || begun ts x) ≡ true → (begun ts x ≡ true → touched ts x ≡ true)
        → ((leb t.subaddress x && ltb x (end t)) || touched ts x) ≡ true
    go true l u ih =
        let d = eqb-true t.subaddress x l in
        let s = g.0.some in
        rw (le-leb t.subaddress x (omega arith), lt-ltb x (end t) (omega arith))
    go false l u ih = rw (ih (rw l at u)) (or-true (leb t.subaddress x && ltb x (end t)))

-- neither of two
neither : (a b : Bool) → (a || b) ≡ false → (a ≡ false) × (b ≡ false)
neither true b e = (e, absurd (false≢true (sym e)))
neither false b e = (refl, e)

-- the register before one is touched by the same transactions
before_both : (t : Transaction) (ts : List Transaction) (x : ℕ) → before (touched (t ∷ ts)) x ≡ false
    → (before (touched ts) x ≡ false) × (leb t.subaddress x ≡ true → ltb x (end t) ≡ true → t.subaddress ≡ x)
unfolding touched
before_both t ts zero f = (refl, λ l u. let d = leb-true t.subaddress 0 l in omega arith)
before_both t ts (suc y) f = ((neither (leb t.subaddress y && ltb y (end t)) (touched ts y) f).1, λ l u. go (leb t.subaddress y) refl l u)
  where
    go : (b : Bool) → leb t.subaddress y ≡ b → leb t.subaddress (suc y) ≡ true → ltb (suc y) (end t) ≡ true → t.subaddress ≡ suc y
    go true k l u =
        let d = ltb-true (suc y) (end t) u in
        absurd (false≢true (sym (neither (leb t.subaddress y && ltb y (end t)) (touched ts y) f).0 ∙ rw (k, lt-ltb y (end t) (omega arith))))
    go false k l u = let c = leb-false t.subaddress y k in let d = leb-true t.subaddress (suc y) l in omega arith

-- and what is touched where the register before it isn't is a start
pub touched-begun : (ts : List Transaction) (x : ℕ) → touched ts x ≡ true → before (touched ts) x ≡ false → begun ts x ≡ true
unfolding touched begun
touched-begun [] x e f = e
touched-begun (t ∷ ts) x e f =
    let q = before_both t ts x f in
    go (leb t.subaddress x) refl (ltb x (end t)) refl e q.1 (λ u. touched-begun ts x u q.0)
  where
    go : (b : Bool) → leb t.subaddress x ≡ b → (c : Bool) → ltb x (end t) ≡ c → ((leb t.subaddress x && ltb x (end t)) || touched ts x) ≡ true
        → (leb t.subaddress x ≡ true → ltb x (end t) ≡ true → t.subaddress ≡ x) → (touched ts x ≡ true → begun ts x ≡ true)
        → (eqb t.subaddress x || begun ts x) ≡ true
    go true l true u v at ih = rw (eq-eqb t.subaddress x (at l u))
    go true l false u v at ih = rw (ih (rw (l, u) at v)) (or-true (eqb t.subaddress x))
    go false l c u v at ih = rw (ih (rw l at v)) (or-true (eqb t.subaddress x))
