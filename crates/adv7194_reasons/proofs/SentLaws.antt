-- The registers that a list sends: the test says which its transactions touch, and registers of one transaction are joined. Assumes nothing.
use mathlib.Core.Path.{◌≡◌, refl, sym, ap, ◌∙◌, subst}
use mathlib.Core.Logic.{inl, inr}
use mathlib.Core.Bool.{Bool, true, ◌&&◌, ◌||◌, or-true}
use mathlib.Core.List.{List, [], ◌∷◌}
use Prim.Native.Nat.{ℕ}
use lib.Dec.{T}
use borrow.Author.Tests.{le-leb, lt-ltb}
use Rattle.bus.specs.Transactions.{Transaction, end, Touches, Touched, touches}
use Rattle.bus.proofs.KnownLaws.{touched_by, touched_agree}
use Rattle.cutting.specs.Spans.{touched}
use Rattle.adv7194_reasons.specs.Reasons.{joined}
use Rattle.bits.specs.Lists.{Every}

-- the two tests of a register that a list touches are one
same_tests : (ts : List Transaction) (r : ℕ) → touched ts r ≡ touched_by ts r
unfolding touched
same_tests [] r = refl
same_tests (t ∷ ts) r = ap (λ (b : Bool). touches t r || b) (same_tests ts r)

-- where it holds the list touches the register
pub sent_touched : (ts : List Transaction) (r : ℕ) → touched ts r ≡ true → Touched ts r
sent_touched ts r e = (touched_agree ts r).0 (subst T (sym (sym (same_tests ts r) ∙ e)) tt)

-- a transaction of a list that touches a register, and is as each of the list is
pub record TouchedIn (P : Transaction → Type 0) (ts : List Transaction) (r : ℕ) : Type 0 where
  pub at : Transaction
  pub is : P at
  pub has : Touches at r
  pub sends : (x : ℕ) → Touches at x → Touched ts x
  pub joins : (i j : ℕ) → Touches at i → Touches at j → joined ts i j ≡ true

-- there is one
pub touched_in : (P : Transaction → Type 0) (ts : List Transaction) (r : ℕ) → Every P ts → Touched ts r → TouchedIn P ts r
unfolding joined
touched_in P [] r h x = elim x [ ]
touched_in P (t ∷ ts) r h (inl u) = record {
  at = t;
  is = h.0;
  has = u;
  sends = λ x v. inl v;
  joins = λ i j v w.
      rw (le-leb t.subaddress i v.0, lt-ltb i (end t) v.1, le-leb t.subaddress j w.0, lt-ltb j (end t) w.1);
}
touched_in P (t ∷ ts) r h (inr u) =
    let q = touched_in P ts r h.1 u in
    record {
      at = q.at;
      is = q.is;
      has = q.has;
      sends = λ x v. inr (q.sends x v);
      joins = λ i j v w. rw (q.joins i j v w) (or-true (touches t i && touches t j));
    }
