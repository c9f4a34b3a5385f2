-- A walk through a plan that writes the data of each transaction over registers, as long as each passes a test at its turn. A state goes on from turn to
-- turn. Assumes nothing.
use mathlib.Core.Path.{◌≡◌, refl, sym, ap, ap₂, ◌∙◌, subst⁻¹}
use mathlib.Core.Logic.{◌⊎◌, inl, inr, ⊎_elim}
use mathlib.Core.Bool.{Bool, true, false, ◌&&◌, and-true, and-false}
use mathlib.Core.List.{List, [], ◌∷◌, ◌++◌}
use Prim.Native.Nat.{ℕ, ◌+◌, ◌^◌, ◌≤◌, ◌<◌}
use lib.Dec.{T}
use lib.ListN.{length, get_or}
use lib.Seq.{sets}
use Rattle.bits.proofs.ByteLaws.{first_bytes-length}
use Rattle.refusals.specs.Refusal.{accepted, refused}
use Rattle.bus.specs.Transactions.{Transaction, size}
use Rattle.bus.specs.Written.{all_written}
use Rattle.bus.proofs.Acknowledged.{and_assoc}
use Rattle.bus.proofs.WrittenRun.{written-more, written-length}
use Rattle.unpacking.specs.declared.places.Place.{Place}
use Rattle.unpacking.specs.declared.steps.Order.{Order}
use Rattle.unpacking.specs.declared.steps.Cursor.{Cursor}
use Rattle.unpacking.specs.Unpacking.{unpack_by}
use Rattle.unpacking.specs.Places.{left_at, data_copied}
use Rattle.unpacking.specs.Steps.{start_after, beginning, transaction_at}
use Rattle.unpacking.proofs.PlaceLaws.{data_copied_lem}
use Rattle.unpacking.proofs.StepLaws.{Went}
use Rattle.unpacking.proofs.Walking.{one_more, Walked, walk_begins, walk_goes, walk_so_far}

-- ---- lists

-- what is asked of a transaction at its turn, by the state and the registers before it, and the state after it
pub record Turns (S : Type 0) : Type 0 where
  pub asks : S → List ℕ → Transaction → Bool
  pub goes : S → List ℕ → Transaction → S

module _ {S : Type 0} (τ : Turns S) where
  -- each transaction of a list passes its turn, from a state and some registers on
  unfoldable pub passes : S → List ℕ → List Transaction → Bool
  passes s l [] = true
  passes s l (t ∷ ts) = τ.asks s l t && passes (τ.goes s l t) (sets l t.subaddress t.bytes) ts

  -- the state after the list
  unfoldable pub state_after : S → List ℕ → List Transaction → S
  state_after s l [] = s
  state_after s l (t ∷ ts) = state_after (τ.goes s l t) (sets l t.subaddress t.bytes) ts

  -- one more is asked last
  passes-more : (ts : List Transaction) (s : S) (l : List ℕ) (t : Transaction)
      → passes s l (ts ++ (t ∷ [])) ≡ passes s l ts && τ.asks (state_after s l ts) (all_written l ts) t
  unfolding passes state_after all_written
  passes-more [] s l t = and-true (τ.asks s l t)
  passes-more (u ∷ ts) s l t =
      let s' = τ.goes s l u in
      let l' = sets l u.subaddress u.bytes in
      ap (λ (b : Bool). τ.asks s l u && b) (passes-more ts s' l' t)
      ∙ and_assoc (τ.asks s l u) (passes s' l' ts) (τ.asks (state_after s' l' ts) (all_written l' ts) t)

  state_more : (ts : List Transaction) (s : S) (l : List ℕ) (t : Transaction)
      → state_after s l (ts ++ (t ∷ [])) ≡ τ.goes (state_after s l ts) (all_written l ts) t
  unfolding state_after all_written
  state_more [] s l t = refl
  state_more (u ∷ ts) s l t = state_more ts (τ.goes s l u) (sets l u.subaddress u.bytes) t

  -- a list that begins with one that doesn't pass doesn't either
  passes_broken : (ts us : List Transaction) (s : S) (l : List ℕ) → passes s l ts ≡ false → passes s l (ts ++ us) ≡ false
  unfolding passes
  passes_broken [] us s l e = absurd (subst⁻¹ T (sym e) tt)
  passes_broken (t ∷ ts) us s l e =
      go (τ.asks s l t) e (passes_broken ts us (τ.goes s l t) (sets l t.subaddress t.bytes))
    where
      rest : List Transaction → Bool
      rest vs = passes (τ.goes s l t) (sets l t.subaddress t.bytes) vs

      go : (b : Bool) → b && rest ts ≡ false → (rest ts ≡ false → rest (ts ++ us) ≡ false) → b && rest (ts ++ us) ≡ false
      go true p f = f p
      go false p f = refl

-- ---- the walk

-- some transactions of the plan passed their turns, and their data were written: from state s₀ and registers l₀ on, to state s and registers l
pub record Writing {S : Type 0} (τ : Turns S) (plan : List ℕ) (order : Order) (s₀ : S) (l₀ : List ℕ) (s : S) (l : List ℕ) (c : Cursor) (transactions : ℕ) : Type
    0 where
  pub done : List Transaction
  pub walked : Walked plan order done c
  pub counts : transactions ≡ length done
  pub passed : passes τ s₀ l₀ done ≡ true
  pub state : s ≡ state_after τ s₀ l₀ done
  pub written : l ≡ all_written l₀ done

-- none was
pub writing_begins : {S : Type 0} (τ : Turns S) (plan : List ℕ) (order : Order) (s : S) (l : List ℕ) (c : Cursor) → c ≡ beginning plan order
    → ((i : ℕ) → get_or plan i 0 < 2 ^ 8) → Writing τ plan order s l s l c 0
unfolding passes state_after all_written
writing_begins τ plan order s l c e bytes =
    record { done = []; walked = rw e (walk_begins plan order bytes); counts = refl; passed = refl; state = refl; written = refl }

module _ {S : Type 0} {τ : Turns S} {plan : List ℕ} {order : Order} {s₀ : S} {l₀ : List ℕ} {s : S} {l : List ℕ} {c : Cursor} {transactions : ℕ}
    (w : Writing τ plan order s₀ l₀ s l c transactions) where
  -- the registers are as many
  pub as_many : length l ≡ length l₀
  as_many = ap length w.written ∙ written-length l₀ w.done

  module _ {subaddress count : ℕ} {first : Place} {after : Cursor} (g : Went plan c subaddress count first after) where
    -- the transaction found
    abbrev pub found : Transaction
    found = transaction_at plan subaddress count first

    -- its data are as many as its header says
    pub sized : size found ≡ count
    sized = first_bytes-length count (left_at plan first)

    -- they are written where there are registers for them
    pub data_stored : subaddress + count ≤ length l → {registers : List ℕ} → registers ≡ data_copied plan first l subaddress count
        → registers ≡ sets l subaddress found.bytes
    data_stored fits h = h ∙ data_copied_lem plan first l subaddress count g.placed g.room fits

    -- at its turn
    asked : τ.asks (state_after τ s₀ l₀ w.done) (all_written l₀ w.done) found ≡ τ.asks s l found
    asked = ap₂ (λ (x : S) (y : List ℕ). τ.asks x y found) (sym w.state) (sym w.written)

    -- it passes, and its data are written
    pub writing_goes : τ.asks s l found ≡ true → {s' : S} {l' : List ℕ} → s' ≡ τ.goes s l found → l' ≡ sets l subaddress found.bytes
        → Writing τ plan order s₀ l₀ s' l' after (transactions + 1)
    writing_goes e p q =
        record {
          done = w.done ++ (found ∷ []);
          walked = walk_goes w.walked g;
          counts = ap (λ (n : ℕ). n + 1) w.counts ∙ sym (one_more w.done found);
          passed = passes-more τ w.done s₀ l₀ found ∙ ap₂ (λ (x y : Bool). x && y) w.passed (asked ∙ e);
          state = p ∙ ap₂ (λ (x : S) (y : List ℕ). τ.goes x y found) w.state w.written ∙ sym (state_more τ w.done s₀ l₀ found);
          written = q ∙ ap (λ (y : List ℕ). sets y subaddress found.bytes) w.written ∙ sym (written-more l₀ w.done found);
        }

    -- it doesn't: the plan is refused, or unpacks to a list of which a transaction doesn't pass
    pub writing_breaks : τ.asks s l found ≡ false
        → (unpack_by (start_after order) plan ≡ refused 9)
        ⊎ ((us : List Transaction) × ((unpack_by (start_after order) plan ≡ accepted us) × (passes τ s₀ l₀ us ≡ false)))
    writing_breaks e =
        let ts = w.done ++ (found ∷ []) in
        let broken =
        passes-more τ w.done s₀ l₀ found ∙ ap (λ (b : Bool). passes τ s₀ l₀ w.done && b) (asked ∙ e) ∙ and-false (passes τ s₀ l₀ w.done) in
        ⊎_elim inl (λ u. inr (ts ++ u.0, (u.1, passes_broken τ ts u.0 s₀ l₀ broken))) (walk_so_far (walk_goes w.walked g))
