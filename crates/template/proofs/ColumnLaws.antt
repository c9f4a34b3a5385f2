-- Laws of a table's columns: one that ends is found and passed, the words of a table of one column, and a text from a place on. Assumes nothing.
use mathlib.Core.Path.{◌≡◌, refl, sym, ap, ap₂, ◌∙◌}
use mathlib.Core.Bool.{Bool, true, false, not, cond, ◌&&◌}
use mathlib.Core.List.{List, [], ◌∷◌, ◌++◌}
use Prim.Native.Nat.{ℕ, zero, suc, ◌+◌, ◌-◌, ◌≤◌, ◌<◌}
use native.Mathlib.Numerals.{add-one, one-add}
use native.Mathlib.Omega.{arith}
use Prim.Native.String.{String}
use borrow.Author.Tests.{not-true, ltb-false}
use Rattle.std.specs.Prelude.{Some, None, unwrap_or}
use Rattle.std.specs.List.{position_or_len}
use Rattle.writing.specs.Ascii.{ascii}
use lib.ListN.{length, get_or, take, drop, length-drop}
use lib.Dec.{ltb}
use lib.Seq.{take_all, drop-cons, take-suc, get_or-drop, append_snoc}
use Rattle.template.specs.Columns.{column_in, ends, newline, words_text}

-- ---- a column that ends

-- a text that no byte ends
abbrev pub clean : List ℕ → Bool
clean [] = true
clean (b ∷ bs) = not (ends b) && clean bs

-- two tests that hold
pub both : (a b : Bool) → (a && b) ≡ true → (a ≡ true) × (b ≡ true)
both true b e = (refl, e)
both false true e = (e, refl)
both false false e = (e, e)

-- a column that ends is found
pub here : (w : List ℕ) (e : ℕ) (rest : List ℕ) → clean w ≡ true → ends e ≡ true → column_in (w ++ (e ∷ rest)) 0 ≡ w
unfolding column_in
here [] e rest c t = rw t
here (b ∷ w) e rest c t =
    let h = both (not (ends b)) (clean w) c in
    rw (not-true (ends b) h.0) (ap (λ (l : List ℕ). b ∷ l) (here w e rest h.1 t))

-- and passed
pub past : (w : List ℕ) (e : ℕ) (rest : List ℕ) (k : ℕ) → clean w ≡ true → ends e ≡ true → column_in (w ++ (e ∷ rest)) (suc k) ≡ column_in rest k
unfolding column_in
past [] e rest k c t = rw t
past (b ∷ w) e rest k c t =
    let h = both (not (ends b)) (clean w) c in
    rw (not-true (ends b) h.0) (past w e rest k h.1 t)

-- ---- a table of one column

-- some words that no byte ends
abbrev pub clean_words : List String → Bool
clean_words [] = true
clean_words (w ∷ ws) = clean (ascii w) && clean_words ws

-- word k
pub word_at : (ws : List String) (k : ℕ) → clean_words ws ≡ true → column_in (words_text ws) k ≡ ascii (get_or ws k "")
unfolding column_in words_text
word_at [] k e = refl
word_at (w ∷ ws) zero e = here (ascii w) newline (words_text ws) (both (clean (ascii w)) (clean_words ws) e).0 refl
word_at (w ∷ ws) (suc k) e =
    let h = both (clean (ascii w)) (clean_words ws) e in
    past (ascii w) newline (words_text ws) k h.0 refl ∙ word_at ws k h.1

-- ---- a text from a place on

-- at the text's end there is no column
pub at-end : (text : List ℕ) (at k : ℕ) → at ≡ length text → column_in (drop at text) k ≡ []
unfolding column_in
at-end [] at k e = rw e refl
at-end (b ∷ text) (suc at) k e = at-end text at k (omega arith)
at-end (b ∷ text) zero k e = absurd (omega arith)

module _ (text : List ℕ) (at : ℕ) (h : at < length text) where
  -- a byte that ends a column is passed, with the column
  pub ended : (k : ℕ) → ends (get_or text at 0) ≡ true → column_in (drop at text) (suc k) ≡ column_in (drop (suc at) text) k
  unfolding column_in
  ended k e = ap (λ (l : List ℕ). column_in l (suc k)) (drop-cons text at 0 h) ∙ rw e

  -- another byte is passed
  pub going : (k : ℕ) → ends (get_or text at 0) ≡ false → column_in (drop at text) (suc k) ≡ column_in (drop (suc at) text) (suc k)
  unfolding column_in
  going k e = ap (λ (l : List ℕ). column_in l (suc k)) (drop-cons text at 0 h) ∙ rw e

  -- a byte of the column
  pub taken : ends (get_or text at 0) ≡ false → column_in (drop at text) 0 ≡ get_or text at 0 ∷ column_in (drop (suc at) text) 0
  unfolding column_in
  taken e = ap (λ (l : List ℕ). column_in l 0) (drop-cons text at 0 h) ∙ rw e

  -- the byte that ends it
  pub closed : ends (get_or text at 0) ≡ true → column_in (drop at text) 0 ≡ []
  unfolding column_in
  closed e = ap (λ (l : List ℕ). column_in l 0) (drop-cons text at 0 h) ∙ rw e

-- one byte more of a column
pub grown : (text : List ℕ) (start at : ℕ) → start ≤ at → at < length text → ends (get_or text at 0) ≡ false
    → take (at - start) (drop start text) ++ column_in (drop at text) 0 ≡ take (at + 1 - start) (drop start text) ++ column_in (drop (at + 1) text) 0
grown text start at l h e =
    let j = at - start in
    let front = take j (drop start text) in
    let there : start + j ≡ at = omega arith in
    let more : at + 1 - start ≡ suc j = omega arith in
    let byte : get_or (drop start text) j 0 ≡ get_or text at 0 = get_or-drop start text j 0 ∙ ap (λ (i : ℕ). get_or text i 0) there in
    let longer : take (at + 1 - start) (drop start text) ≡ front ++ (get_or text at 0 ∷ []) =
    ap (λ (i : ℕ). take i (drop start text)) more
    ∙ take-suc (drop start text) j 0 (omega (arith, length-drop start text))
    ∙ ap (λ (b : ℕ). front ++ (b ∷ [])) byte in
    ap (λ (r : List ℕ). front ++ r) (taken text at h e)
    ∙ sym (append_snoc front (get_or text at 0) (column_in (drop (suc at) text) 0))
    ∙ ap (λ (i : ℕ). (front ++ (get_or text at 0 ∷ [])) ++ column_in (drop i text) 0) (sym (add-one at))
    ∙ ap (λ (t : List ℕ). t ++ column_in (drop (at + 1) text) 0) (sym longer)

-- the first column ends at the first byte that ends one
pub first_column : (text : List ℕ) → take (position_or_len ends text) text ≡ column_in text 0
unfolding column_in
first_column [] = refl
first_column (b ∷ text) = go (ends b) refl (first_column text)
  where
    go : (e : Bool) → ends b ≡ e → take (position_or_len ends text) text ≡ column_in text 0
        → take (position_or_len ends (b ∷ text)) (b ∷ text) ≡ column_in (b ∷ text) 0
    go true e h = rw e refl
    go false e h = rw (e, one-add) (ap (λ (l : List ℕ). b ∷ l) h)

-- so it is the bytes before the place of the first byte that ends one, or all
pub before_end : (text : List ℕ) (n : ℕ)
    → n ≡ unwrap_or (cond (ltb (position_or_len ends text) (length text)) (Some (position_or_len ends text)) None) (length text)
    → take n text ≡ column_in text 0
before_end text n e = go (ltb (position_or_len ends text) (length text)) refl e
  where
    go : (b : Bool) → ltb (position_or_len ends text) (length text) ≡ b → n ≡ unwrap_or (cond b (Some (position_or_len ends text)) None) (length text)
        → take n text ≡ column_in text 0
    go true t e = ap (λ (k : ℕ). take k text) e ∙ first_column text
    go false t e =
        let far = ltb-false (position_or_len ends text) (length text) t in
        take_all n text (omega (arith, e)) ∙ sym (take_all (position_or_len ends text) text far) ∙ first_column text

-- a byte that ends a column passed, with some to go
pub one_less : (text : List ℕ) (at left : ℕ) → at < length text → 0 < left → ends (get_or text at 0) ≡ true
    → column_in (drop at text) left ≡ column_in (drop (at + 1) text) (left - 1)
one_less text at (suc left) h l e =
    let less : left ≡ suc left - 1 = omega arith in
    ended text at h left e ∙ ap₂ (λ (i k : ℕ). column_in (drop i text) k) (sym (add-one at)) less
one_less text at zero h l e = absurd (omega arith)

-- another byte passed
pub as_many : (text : List ℕ) (at left : ℕ) → at < length text → 0 < left → ends (get_or text at 0) ≡ false
    → column_in (drop at text) left ≡ column_in (drop (at + 1) text) left
as_many text at (suc left) h l e = going text at h left e ∙ ap (λ (i : ℕ). column_in (drop i text) (suc left)) (sym (add-one at))
as_many text at zero h l e = absurd (omega arith)
