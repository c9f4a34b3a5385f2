-- Laws of texts written one after the other into a line that has room for them. Assumes nothing.
use mathlib.Core.Path.{◌≡◌, refl, sym, ap, ◌∙◌, subst}
use mathlib.Core.List.{List, [], ◌∷◌, ◌++◌}
use Prim.Native.Nat.{ℕ, ◌+◌, ◌-◌, ◌^◌, ◌≤◌, ◌<◌}
use native.Mathlib.Omega.{arith}
use lib.IntN.{ℤ}
use lib.ListN.{length, take, length-append}
use lib.Signed.{mag}
use Rattle.std.specs.Prelude.{Some, None, unwrap_or}
use mir.Syntax.{w32}
use mir.ValLaws.{to_z-of_z}
use Rattle.rounding.proofs.Range.{back}
use Rattle.text.specs.Line.{place_after, appended}
use Rattle.text.proofs.Appending.{front, in_a_row, length-appended, nothing, after-fits, short-over}
use Rattle.text.proofs.Appending.{placed as placed_at}
use Rattle.writing.specs.Put.{Put}

module _ {line : List ℕ} {at : ℕ} {text after : List ℕ} {place : ℕ} where
  -- a text that was put
  pub put : place ≡ at + length text → after ≡ appended line at text → Put (length text) line at text after place
  put a m = record { answer = a; memory = m; most = omega arith }

  -- a text whose append answered a place
  pub placed : {n : ℕ} → length text ≤ n → place_after line at text ≡ Some place → after ≡ appended line at text → Put n line at text after place
  placed h e m = let a = (after-fits line at text place e).1 in record { answer = a; memory = m; most = omega arith }

  -- a text whose append has room, so that the place after it is answered
  pub given : {n : ℕ} → length text ≤ n → at + n ≤ length line → place ≡ unwrap_or (place_after line at text) at → after ≡ appended line at text
      → Put n line at text after place
  given h r e m =
      let a : place ≡ at + length text = rw (placed_at line at text (omega arith)) at e in
      record { answer = a; memory = m; most = omega arith }

  -- a text has no more bytes than a wider one may have
  pub wider : {n : ℕ} (k : ℕ) → n ≤ k → Put n line at text after place → Put k line at text after place
  wider k h p = record { answer = p.answer; memory = p.memory; most = omega arith }

  -- the same text, by another term
  pub same_text : {n : ℕ} {same : List ℕ} → text ≡ same → Put n line at text after place → Put n line at same after place
  same_text {n} e p = subst (λ (t : List ℕ). Put n line at t after place) e p

  -- the line keeps its length
  pub kept : {n : ℕ} → Put n line at text after place → length after ≡ length line
  kept p = ap length p.memory ∙ length-appended line at text

  -- a further text
  pub more : {n m : ℕ} {second after' : List ℕ} {place' : ℕ} → Put n line at text after place → Put m after place second after' place'
      → at + (n + m) ≤ length line → Put (n + m) line at (text ++ second) after' place'
  more {n} {m} {second} {after'} {place'} p q h =
      let both : length (text ++ second) ≡ length text + length second = length-append text second in
      let a = p.answer in
      let b = q.answer in
      record {
        answer = omega arith;
        memory =
            q.memory
            ∙ ap (λ (l : List ℕ). appended l place second) p.memory
            ∙ ap (λ (k : ℕ). appended (appended line at text) k second) a
            ∙ in_a_row line at text second (omega (arith, p.most, q.most));
        most = omega (arith, p.most, q.most);
      }

-- the part that holds a text put at the front
pub part : {n : ℕ} {line text after : List ℕ} {place : ℕ} → Put n line 0 text after place → n ≤ length line → take (place - 0) after ≡ text
part {n} {line} {text} {after} {place} p h =
    let a = p.answer in
    let m = p.most in
    let k : place - 0 ≡ length text = omega arith in
    ap (λ (j : ℕ). take j after) k ∙ ap (take (length text)) p.memory ∙ front line text (omega arith)

-- nothing was put
pub unwritten : (line : List ℕ) (at : ℕ) {n : ℕ} → at ≤ length line → Put n line at [] line at
unwritten line at h = record { answer = omega arith; memory = sym (nothing line at h); most = omega arith }

-- a text that has room is not answered to have none
pub roomy : (line : List ℕ) (at : ℕ) (text : List ℕ) {n : ℕ} → length text ≤ n → at + n ≤ length line → place_after line at text ≡ None → ⊥
roomy line at text h r e = omega (arith, short-over line at text e)

-- a number as the machine passes it
pub same : (z : ℤ) → mag z < 2 ^ 31 → back w32 z ≡ z
same z h = to_z-of_z w32 z (record { sfits = h })

-- a number that was passed is the setting
pub passed : {n : ℕ} {line : List ℕ} {at : ℕ} {after : List ℕ} {place : ℕ} (text : ℤ → List ℕ) (z : ℤ) → mag z < 2 ^ 31
    → Put n line at (text (back w32 z)) after place → Put n line at (text z) after place
passed text z h p = same_text (ap text (same z h)) p

-- a text of no bytes is empty
pub empty : (text : List ℕ) → length text ≤ 0 → text ≡ []
empty [] h = refl
empty (b ∷ text) h = absurd (omega arith)

-- a text written where nothing was before
pub instead : {n m : ℕ} {line : List ℕ} {at : ℕ} {text after : List ℕ} {place : ℕ} {second after' : List ℕ} {place' : ℕ} → Put n line at text after place
    → length text ≤ 0 → at ≤ length line → Put m after at second after' place' → Put m line at second after' place'
instead {n} {m} {line} {at} {text} {after} {place} {second} {after'} {place'} p e h q =
    let same : after ≡ line = p.memory ∙ ap (appended line at) (empty text e) ∙ nothing line at h in
    subst (λ (l : List ℕ). Put m l at second after' place') same q

-- a number that was looked up, and then passed
pub looked : {n : ℕ} {line : List ℕ} {at : ℕ} {after : List ℕ} {place : ℕ} (text : ℤ → List ℕ) {z y : ℤ} → mag z < 2 ^ 31 → z ≡ y
    → Put n line at (text (back w32 z)) after place → Put n line at (text y) after place
looked text {z} h e p = same_text (ap text (same z h ∙ e)) p
