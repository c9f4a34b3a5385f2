-- Laws of a table's columns: those of its text are those of its rows, and none is longer than the longest. Assumes nothing.
use mathlib.Core.Path.{◌≡◌, refl, ap, ◌∙◌}
use mathlib.Core.Bool.{Bool, true, false, cond, ◌&&◌}
use mathlib.Core.List.{List, [], ◌∷◌, ◌++◌}
use Prim.Native.Nat.{ℕ, zero, suc, ◌+◌, ◌*◌, ◌≤◌, ◌<◌}
use native.Mathlib.Omega.{arith}
use lib.Dec.{eqb, leb}
use lib.ListN.{length, get_or}
use borrow.Author.Tests.{leb-true}
use Rattle.writing.specs.Ascii.{ascii}
use Rattle.adv7194_names.specs.Names.{Named}
use Rattle.template.specs.Columns.{column_in, comma, newline}
use Rattle.template.proofs.ColumnLaws.{clean, both, here, past}
use Rattle.adv7194_names.specs.Columns.{columns_text, column_of}

-- ---- the columns of rows

-- a row that has no end in a column
abbrev clean_row : Named → Bool
clean_row n = (clean (ascii n.name) && clean (ascii n.zero)) && (clean (ascii n.one) && clean (ascii n.unit))

-- some rows that have none
abbrev pub clean_rows : List Named → Bool
clean_rows [] = true
clean_rows (n ∷ ns) = clean_row n && clean_rows ns

-- column c of row k, among all
abbrev index : ℕ → ℕ → ℕ
index zero c = c
index (suc k) c = suc (suc (suc (suc (index k c))))

index_is : (k c : ℕ) → 4 * k + c ≡ index k c
index_is zero c = omega arith
index_is (suc k) c = omega (arith, index_is k c)

module _ (n : Named) (ns : List Named) (e : clean_row n ≡ true) where
  abbrev front : (clean (ascii n.name) ≡ true) × (clean (ascii n.zero) ≡ true)
  front =
      both (clean (ascii n.name)) (clean (ascii n.zero))
      (both (clean (ascii n.name) && clean (ascii n.zero)) (clean (ascii n.one) && clean (ascii n.unit)) e).0

  abbrev back : (clean (ascii n.one) ≡ true) × (clean (ascii n.unit) ≡ true)
  back =
      both (clean (ascii n.one)) (clean (ascii n.unit))
      (both (clean (ascii n.name) && clean (ascii n.zero)) (clean (ascii n.one) && clean (ascii n.unit)) e).1

  -- the text after the name, after the word of 0, after the word of 1
  abbrev rest1 : List ℕ
  rest1 = ascii n.zero ++ (comma ∷ (ascii n.one ++ (comma ∷ (ascii n.unit ++ (newline ∷ columns_text ns)))))

  abbrev rest2 : List ℕ
  rest2 = ascii n.one ++ (comma ∷ (ascii n.unit ++ (newline ∷ columns_text ns)))

  abbrev rest3 : List ℕ
  rest3 = ascii n.unit ++ (newline ∷ columns_text ns)

  -- past the name, the word of 0, the word of 1, the unit
  past1 : (k : ℕ) → column_in (columns_text (n ∷ ns)) (suc k) ≡ column_in rest1 k
  unfolding columns_text
  past1 k = past (ascii n.name) comma rest1 k front.0 refl

  past2 : (k : ℕ) → column_in (columns_text (n ∷ ns)) (suc (suc k)) ≡ column_in rest2 k
  past2 k = past1 (suc k) ∙ past (ascii n.zero) comma rest2 k front.1 refl

  past3 : (k : ℕ) → column_in (columns_text (n ∷ ns)) (suc (suc (suc k))) ≡ column_in rest3 k
  past3 k = past2 (suc k) ∙ past (ascii n.one) comma rest3 k back.0 refl

  past4 : (k : ℕ) → column_in (columns_text (n ∷ ns)) (suc (suc (suc (suc k)))) ≡ column_in (columns_text ns) k
  past4 k = past3 (suc k) ∙ past (ascii n.unit) newline (columns_text ns) k back.1 refl

  -- the columns of the first row
  first : (c : ℕ) → c < 4 → column_in (columns_text (n ∷ ns)) c ≡ column_of n c
  unfolding columns_text column_of
  first zero h = here (ascii n.name) comma rest1 front.0 refl
  first (suc zero) h = past1 0 ∙ here (ascii n.zero) comma rest2 front.1 refl
  first (suc (suc zero)) h = past2 0 ∙ here (ascii n.one) comma rest3 back.0 refl
  first (suc (suc (suc zero))) h = past3 0 ∙ here (ascii n.unit) newline (columns_text ns) back.1 refl
  first (suc (suc (suc (suc c)))) h = absurd (omega arith)

-- a row of empty columns
abbrev pub none : Named
none = record { name = ""; zero = ""; one = ""; unit = "" }

none_of : (b c d : Bool) → [] ≡ cond b (ascii "") (cond c (ascii "") (cond d (ascii "") (ascii "")))
none_of true c d = refl
none_of false true d = refl
none_of false false true = refl
none_of false false false = refl

at_index : (ns : List Named) (k c : ℕ) → clean_rows ns ≡ true → c < 4 → column_in (columns_text ns) (index k c) ≡ column_of (get_or ns k none) c
unfolding column_in columns_text column_of
at_index [] k c e h = none_of (eqb c 0) (eqb c 1) (eqb c 2)
at_index (n ∷ ns) zero c e h = first n ns (both (clean_row n) (clean_rows ns) e).0 c h
at_index (n ∷ ns) (suc k) c e h =
    let t = both (clean_row n) (clean_rows ns) e in
    past4 n ns t.0 (index k c) ∙ at_index ns k c t.1 h

-- column c of row k
pub column_at : (ns : List Named) (k c : ℕ) → clean_rows ns ≡ true → c < 4 → column_in (columns_text ns) (4 * k + c) ≡ column_of (get_or ns k none) c
column_at ns k c e h = ap (column_in (columns_text ns)) (index_is k c) ∙ at_index ns k c e h

-- ---- the longest column

-- a row whose columns have at most w bytes
abbrev narrow_row : ℕ → Named → Bool
narrow_row w n =
    (leb (length (ascii n.name)) w && leb (length (ascii n.zero)) w) && (leb (length (ascii n.one)) w && leb (length (ascii n.unit)) w)

-- some such rows
abbrev pub narrow_rows : ℕ → List Named → Bool
narrow_rows w [] = true
narrow_rows w (n ∷ ns) = narrow_row w n && narrow_rows w ns

narrow_of : (w : ℕ) (n : Named) (b c d : Bool) → narrow_row w n ≡ true
    → length (cond b (ascii n.name) (cond c (ascii n.zero) (cond d (ascii n.one) (ascii n.unit)))) ≤ w
narrow_of w n b c d e =
    let halves =
    both (leb (length (ascii n.name)) w && leb (length (ascii n.zero)) w) (leb (length (ascii n.one)) w && leb (length (ascii n.unit)) w) e in
    let f = both (leb (length (ascii n.name)) w) (leb (length (ascii n.zero)) w) halves.0 in
    let g = both (leb (length (ascii n.one)) w) (leb (length (ascii n.unit)) w) halves.1 in
    pick (leb-true (length (ascii n.name)) w f.0) (leb-true (length (ascii n.zero)) w f.1) (leb-true (length (ascii n.one)) w g.0)
    (leb-true (length (ascii n.unit)) w g.1) b c d
  where
    pick : length (ascii n.name) ≤ w → length (ascii n.zero) ≤ w → length (ascii n.one) ≤ w → length (ascii n.unit) ≤ w → (b c d : Bool)
        → length (cond b (ascii n.name) (cond c (ascii n.zero) (cond d (ascii n.one) (ascii n.unit)))) ≤ w
    pick p q r s true c d = p
    pick p q r s false true d = q
    pick p q r s false false true = r
    pick p q r s false false false = s

-- no column of a row is longer
pub narrow_at : (w : ℕ) (ns : List Named) (k c : ℕ) → narrow_rows w ns ≡ true → length (column_of (get_or ns k none) c) ≤ w
unfolding column_of
narrow_at w [] k c e = rw (← none_of (eqb c 0) (eqb c 1) (eqb c 2)) (omega arith)
narrow_at w (n ∷ ns) zero c e = narrow_of w n (eqb c 0) (eqb c 1) (eqb c 2) (both (narrow_row w n) (narrow_rows w ns) e).0
narrow_at w (n ∷ ns) (suc k) c e = narrow_at w ns k c (both (narrow_row w n) (narrow_rows w ns) e).1
