-- A line for each number that passes a test, number by number. Assumes nothing.
use mathlib.Core.Path.{◌≡◌, refl, sym, ap, ◌∙◌}
use mathlib.Core.Bool.{Bool, true, false, cond}
use mathlib.Core.List.{List, [], ◌∷◌, ◌++◌, flat_map, append_assoc, append-nil}
use Prim.Native.Nat.{ℕ, suc, ◌+◌, ◌-◌, ◌*◌, ◌≤◌, ◌<◌}
use native.Mathlib.Nat.{mul-suc, mul-le-mul_left}
use native.Mathlib.Numerals.{add-one}
use native.Mathlib.Omega.{arith}
use lib.ListN.{length}
use Rattle.writing.specs.Put.{Put}
use Rattle.writing.proofs.Putting.{kept, more, wider, same_text, unwritten}
use Rattle.adv7194_table.specs.Masks.{each}
use Rattle.adv7194_table.proofs.TableLaws.{order_is}
use Rattle.adv7194_compare.specs.Differences.{those, field_differs, fields_differing}

-- those of k numbers from n on that pass a test
abbrev pub those_from : (ℕ → Bool) → ℕ → ℕ → List ℕ
those_from P n k = those P (each (λ r. r) n k)

module _ (P : ℕ → Bool) (f : ℕ → List ℕ) where
  -- the lines of those below an end
  abbrev pub lines_from : ℕ → ℕ → List ℕ
  lines_from n end = flat_map f (those_from P n (end - n))

  -- the first one's, and the others'
  lines_turn : (n end : ℕ) → n < end → lines_from n end ≡ cond (P n) (f n) [] ++ lines_from (n + 1) end
  unfolding flat_map those
  lines_turn n end h =
      let c : end - n ≡ suc (end - (n + 1)) = omega arith in
      ap (λ (k : ℕ). flat_map f (those_from P n k)) c ∙ split (P n) (those_from P (suc n) (end - (n + 1)))
      ∙ ap (λ (k : ℕ). cond (P n) (f n) [] ++ flat_map f (those_from P k (end - (n + 1)))) (sym (add-one n))
    where
      split : (t : Bool) (rest : List ℕ) → flat_map f (cond t (n ∷ rest) rest) ≡ cond t (f n) [] ++ flat_map f rest
      split true rest = refl
      split false rest = refl

  lines_end : (n end : ℕ) → end ≤ n → lines_from n end ≡ []
  unfolding flat_map those
  lines_end n end h = let c : end - n ≡ 0 = omega arith in ap (λ (k : ℕ). flat_map f (those_from P n k)) c

-- what a loop wrote and the lines of the numbers that are left are those of all from the first to an end; each has at most so many bytes
pub record Lining (P : ℕ → Bool) (f : ℕ → List ℕ) (first end width : ℕ) (line₀ : List ℕ) (at : ℕ) (line : List ℕ) (place n : ℕ) : Type 0 where
  pub from : first ≤ n
  pub inside : n ≤ end
  pub text : List ℕ
  pub written : Put (width * (n - first)) line₀ at text line place
  pub rest : text ++ lines_from P f n end ≡ lines_from P f first end

pub lining_begins : (P : ℕ → Bool) (f : ℕ → List ℕ) (first end width : ℕ) (line : List ℕ) (at : ℕ) → first ≤ end → at ≤ length line
    → Lining P f first end width line at line at first
lining_begins P f first end width line at h r = record { from = omega arith; inside = h; text = []; written = unwritten line at r; rest = refl }

module _ {P : ℕ → Bool} {f : ℕ → List ℕ} {first end width : ℕ} {line₀ : List ℕ} {at : ℕ} {line : List ℕ} {place n : ℕ}
    (g : Lining P f first end width line₀ at line place n) where
  module _ (h : n < end) (r : at + width * (end - first) ≤ length line₀) where
    -- the bytes after one more line
    one_more : width * (n + 1 - first) ≡ width * (n - first) + width
    one_more = let k : n + 1 - first ≡ suc (n - first) = omega (arith, g.from) in ap (λ (x : ℕ). width * x) k ∙ mul-suc width (n - first)

    within : at + (width * (n - first) + width) ≤ length line₀
    within =
        let below : width * (n + 1 - first) ≤ width * (end - first) = mul-le-mul_left width (omega arith) in
        omega (arith, one_more)

    -- there is room for it
    pub line_room : place + width ≤ length line
    line_room = let w = g.written in omega (arith, w.answer, w.most, kept w, within)

    -- it is put
    pub line_put : {line' : List ℕ} {place' : ℕ} → Put width line place (cond (P n) (f n) []) line' place'
        → Lining P f first end width line₀ at line' place' (n + 1)
    line_put p =
        record {
          from = omega (arith, g.from);
          inside = omega arith;
          text = g.text ++ cond (P n) (f n) [];
          written = wider (width * (n + 1 - first)) (omega (arith, one_more)) (more g.written p within);
          rest =
              append_assoc g.text (cond (P n) (f n) []) (lines_from P f (n + 1) end)
              ∙ ap (λ (x : List ℕ). g.text ++ x) (sym (lines_turn P f n end h)) ∙ g.rest;
        }

  -- all are
  pub all-put : end ≤ n → Put (width * (end - first)) line₀ at (lines_from P f first end) line place
  all-put h =
      same_text (sym (append-nil g.text) ∙ ap (λ (x : List ℕ). g.text ++ x) (sym (lines_end P f n end h)) ∙ g.rest)
      (wider (width * (end - first)) (mul-le-mul_left width (omega (arith, g.inside))) g.written)

-- a line that stands or not, by a test that was found
pub line_shown : {t p : Bool} (x : List ℕ) → t ≡ p → t ≡ true → x ≡ cond p x []
line_shown {t} {p} x e h = let g : p ≡ true = sym e ∙ h in rw g

pub line_left_out : {t p : Bool} (x : List ℕ) → t ≡ p → t ≡ false → [] ≡ cond p x []
line_left_out {t} {p} x e h = let g : p ≡ false = sym e ∙ h in rw g

-- the lines of the fields that differ
pub field-lines-all : (a b : List ℕ) (f : ℕ → List ℕ) → lines_from (field_differs a b) f 1 29 ≡ flat_map f (fields_differing a b)
unfolding fields_differing
field-lines-all a b f = ap (λ (l : List ℕ). flat_map f (those (field_differs a b) l)) (sym order_is)
