-- A refusal is answered exactly when its row holds and none earlier in the checking order does. Assumes nothing.
use mathlib.Core.Path.{◌≡◌, refl, sym, ap, ap₂, ◌∙◌, subst}
use mathlib.Core.Logic.{◌↔◌}
use mathlib.Core.Bool.{Bool, true, false, cond}
use mathlib.Core.List.{List, [], ◌∷◌, ◌++◌, append-nil, append_assoc, flat_map}
use Prim.Native.Nat.{ℕ}
use native.Mathlib.Omega.{arith}
use Rattle.refusals.specs.Verdict.{Verdict, good, refused_at, after, fault_where}
use Rattle.refusals.specs.Order.{Place, first_of, places_at, places_in, NoneHolds, FirstAt, Exactly}
use Rattle.refusals.proofs.VerdictLaws.{after_assoc, row_before}

-- ---- places before others

-- the places of some fields before those of others
pub places-append : (rows : ℕ → List ℕ) (fs gs : List ℕ) → places_in rows (fs ++ gs) ≡ places_in rows fs ++ places_in rows gs
unfolding places_in flat_map
places-append rows [] gs = refl
places-append rows (f ∷ fs) gs =
    ap (λ (l : List Place). places_at (rows f) f ++ l) (places-append rows fs gs)
    ∙ sym (append_assoc (places_at (rows f) f) (places_in rows fs) (places_in rows gs))

-- the places of one list before those of another
pub first-append : {A : Type 0} (holds : ℕ → ℕ → Bool) (ps qs : List Place) (a : A)
    → first_of holds (ps ++ qs) a ≡ after (first_of holds ps (tt {0})) (first_of holds qs a)
unfolding first_of
first-append holds [] qs a = refl
first-append holds (p ∷ ps) qs a =
    let here = fault_where (holds p.row p.field) p.row p.field in
    row_before (holds p.row p.field) p.row p.field (first_of holds (ps ++ qs) a)
    ∙ ap (after here) (first-append holds ps qs a)
    ∙ sym (after_assoc here (first_of holds ps (tt {0})) (first_of holds qs a))
    ∙ ap (λ (v : Verdict (Unit {0})). after v (first_of holds qs a))
    (sym (row_before (holds p.row p.field) p.row p.field (first_of holds ps (tt {0}))))

-- a value where there is no fault
pub with_value : {A : Type 0} (holds : ℕ → ℕ → Bool) (ps : List Place) (a : A) → after (first_of holds ps (tt {0})) (good a) ≡ first_of holds ps a
unfolding first_of
with_value holds ps a = sym (ap (λ (l : List Place). first_of holds l a) (sym (append-nil ps)) ∙ first-append holds ps [] a)

-- ---- the first that holds

-- the first is answered
given : {A : Type 0} (holds : ℕ → ℕ → Bool) (es ls : List Place) (n f : ℕ) (a : A) → holds n f ≡ true → NoneHolds holds es
    → first_of holds (es ++ (record { row = n; field = f } ∷ ls)) a ≡ refused_at n f
unfolding first_of
given holds [] ls n f a h e = rw h
given holds (p ∷ es) ls n f a h e = rw e.0 (given holds es ls n f a h e.1)

-- what is answered is the first
found : {A : Type 0} (holds : ℕ → ℕ → Bool) (ps : List Place) (n f : ℕ) (a : A) → first_of holds ps a ≡ refused_at n f → FirstAt holds ps n f
unfolding first_of
found holds [] n f a e = let z : ◌≡◌ {A = ℕ} 0 1 = cc in absurd (omega arith)
found holds (p ∷ ps) n f a e = by (holds p.row p.field) refl e (λ r. found holds ps n f a r)
  where
    by : (b : Bool) → holds p.row p.field ≡ b → cond b (refused_at p.row p.field) (first_of holds ps a) ≡ refused_at n f
        → (first_of holds ps a ≡ refused_at n f → FirstAt holds ps n f) → FirstAt holds (p ∷ ps) n f
    by true h e r =
        let hn : p.row ≡ n = cc in
        let hf : p.field ≡ f = cc in
        record {
          earlier = [];
          later = ps;
          place = ap₂ (λ (x y : ℕ). record { row = x; field = y } ∷ ps) hn hf;
          here = sym (ap₂ holds hn hf) ∙ h;
          none = tt;
        }
    by false h e r =
        let w = r e in
        record { earlier = p ∷ w.earlier; later = w.later; place = ap (λ (l : List Place). p ∷ l) w.place; here = w.here; none = (h, w.none) }

-- a row is answered at a field exactly when it holds there and none earlier does
pub refused_exactly : {A : Type 0} (holds : ℕ → ℕ → Bool) (ps : List Place) (a : A) (n f : ℕ) → (first_of holds ps a ≡ refused_at n f) ↔ FirstAt holds ps n f
refused_exactly holds ps a n f = (
  found holds ps n f a,
  λ w. ap (λ (l : List Place). first_of holds l a) w.place ∙ given holds w.earlier w.later n f a w.here w.none,
)

-- ---- none that holds

-- where no row holds the value is answered
pub none-good : {A : Type 0} (holds : ℕ → ℕ → Bool) (ps : List Place) (a : A) → NoneHolds holds ps → first_of holds ps a ≡ good a
unfolding first_of
none-good holds [] a h = refl
none-good holds (p ∷ ps) a h = rw h.0 (none-good holds ps a h.1)

-- what is accepted is the value that was due, and no row holds
pub good_none : {A : Type 0} (holds : ℕ → ℕ → Bool) (ps : List Place) (a b : A) → first_of holds ps a ≡ good b → (a ≡ b) × NoneHolds holds ps
unfolding first_of
good_none holds [] a b e = ((cc), tt)
good_none holds (p ∷ ps) a b e = by (holds p.row p.field) refl e (λ r. good_none holds ps a b r)
  where
    by : (t : Bool) → holds p.row p.field ≡ t → cond t (refused_at p.row p.field) (first_of holds ps a) ≡ good b
        → (first_of holds ps a ≡ good b → (a ≡ b) × NoneHolds holds ps) → (a ≡ b) × NoneHolds holds (p ∷ ps)
    by true h e r = let z : ◌≡◌ {A = ℕ} 0 1 = cc in absurd (omega arith)
    by false h e r = let w = r e in (w.0, (h, w.1))

-- the value is answered exactly when no row of the order holds
pub accepted_exactly : {A : Type 0} (holds : ℕ → ℕ → Bool) (ps : List Place) (a : A) → (first_of holds ps a ≡ good a) ↔ NoneHolds holds ps
accepted_exactly holds ps a = (λ e. (good_none holds ps a a e).1, none-good holds ps a)

-- both, of whatever answer is the first that holds or the value
pub exactly : {A : Type 0} (holds : ℕ → ℕ → Bool) (ps : List Place) (a : A) {v : Verdict A} → v ≡ first_of holds ps a → Exactly holds ps a v
exactly holds ps a e =
    subst (Exactly holds ps a) (sym e) (record { refuses = refused_exactly holds ps a; accepts = accepted_exactly holds ps a })
