-- What holds of each entry of a table, and the rows that the entries' codings and readings are. Assumes nothing.
use mathlib.Core.Path.{◌≡◌, refl}
use mathlib.Core.Bool.{Bool, true, false, ◌&&◌}
use mathlib.Core.List.{List, [], ◌∷◌, map, ◌++◌}
use Prim.Native.Nat.{ℕ}
use lib.Dec.{T, eqb}
use borrow.Author.Tests.{eq-eqb}
use Rattle.bits.proofs.FlagLaws.{first, second}
use Rattle.field_table.specs.Coding.{Field}
use Rattle.field_table.proofs.Judging.{neither_l, neither_r}
use Rattle.adv7194_table.specs.Fields.{standard, square_pixel, oversampling, pedestal, timing, output}
use Rattle.adv7194_table.specs.Blocks.{signalling}
use Rattle.adv7194_table.specs.Table.{signals, Entry, single, whole, table, field_of}
use Rattle.adv7194_settings.specs.Rows.{some_of}
use Rattle.adv7194_round_trip.proofs.FirstLaws.{and_fails, or_fails}

-- it holds of each of some entries
abbrev pub All : (Entry → Type 0) → List Entry → Type 0
All P [] = Unit {0}
All P (e ∷ es) = P e × All P es

-- what follows from it does too
pub all_map : (P Q : Entry → Type 0) → ((e : Entry) → P e → Q e) → (es : List Entry) → All P es → All Q es
all_map P Q h [] a = tt
all_map P Q h (e ∷ es) a = (h e a.0, all_map P Q h es a.1)

-- and what follows from two
pub all_zip : (P Q R : Entry → Type 0) → ((e : Entry) → P e → Q e → R e) → (es : List Entry) → All P es → All Q es → All R es
all_zip P Q R h [] a b = tt
all_zip P Q R h (e ∷ es) a b = (h e a.0 b.0, all_zip P Q R h es a.1 b.1)

-- of single fields before others
pub all_singles : (P : Entry → Type 0) → ((f : Field) → P (single f)) → (fs : List Field) (es : List Entry) → All P es → All P (map single fs ++ es)
all_singles P h [] es a = a
all_singles P h (f ∷ fs) es a = (h f, all_singles P h fs es a)

-- of fields 1 to 4, and of signalling
module _ (P : Entry → Type 0) (a : All P table) where
  pub at-standard : P (single standard)
  unfolding table timing
  at-standard = a.0

  pub at_square_pixel : P (single square_pixel)
  unfolding table timing
  at_square_pixel = a.1.0

  pub at-oversampling : P (single oversampling)
  unfolding table timing
  at-oversampling = a.1.1.0

  pub at-pedestal : P (single pedestal)
  unfolding table timing
  at-pedestal = a.1.1.1.0

  pub at-signalling : P (whole signals signalling)
  unfolding table timing output
  at-signalling = a.1.1.1.1.1.1.1.1.1.1.0

-- ---- an entry of some field

-- a test of every entry's field
abbrev pub every_field : (ℕ → Bool) → List Entry → Bool
every_field ok [] = true
every_field ok (e ∷ es) = ok (field_of e) && every_field ok es

-- where no entry of a field meets a test, for each field that some entry has, none does
pub none_meets : (P : Entry → Bool) (ok : ℕ → Bool) (es : List Entry) → T (every_field ok es) → ((f : ℕ) → T (ok f) → some_of P f es ≡ false)
    → All (λ e. P e ≡ false) es
unfolding some_of
none_meets P ok [] t h = tt
none_meets P ok (e ∷ es) t h =
    let own = h (field_of e) (first (ok (field_of e)) (every_field ok es) t) in (
      neither_l (P e) (some_of P (field_of e) es) (rw (eq-eqb (field_of e) (field_of e) refl) at own),
      none_meets P ok es (second (ok (field_of e)) (every_field ok es) t) (λ f o. neither_r (eqb f (field_of e) && P e) (some_of P f es) (h f o)),
    )

-- where none does, none of any field does
pub meets_none : (P : Entry → Bool) (f : ℕ) (es : List Entry) → All (λ e. P e ≡ false) es → some_of P f es ≡ false
unfolding some_of
meets_none P f [] h = refl
meets_none P f (e ∷ es) h = or_fails (and_fails (eqb f (field_of e)) h.0) (meets_none P f es h.1)
