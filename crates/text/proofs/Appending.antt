-- Laws of a text appended to a line: what is written where it fits, that nothing is where it does not, that the line keeps its length, and that
-- two texts in a row are their concatenation.
use mathlib.Core.Path.{◌≡◌, refl, sym, ap, ◌∙◌}
use mathlib.Core.Bool.{Bool, true, false}
use mathlib.Core.List.{List, [], ◌∷◌, ◌++◌, append_assoc, append-nil}
use Prim.Native.Nat.{ℕ, suc, ◌+◌, ◌<◌, ◌≤◌}
use native.Mathlib.Nat.{add_assoc, add-zero}
use mathlib.Core.Logic.{◌⊎◌, inl, inr, ⊎_elim}
use native.Mathlib.Numerals.{add-one}
use native.Mathlib.Omega.{arith}
use Rattle.std.specs.Prelude.{Option, Some, None, unwrap_or}
use Rattle.std.specs.Option.{ForSome}
use lib.ListN.{length, take, drop, set, length-append, length-drop, take-append-drop}
use lib.Seq.{length-take-le, take_at, drop_at, drop-drop, set_split, append_snoc, take-append_seam}
use borrow.Author.Tests.{le-leb, lt-leb, leb-true, leb-false}
use Rattle.text.specs.Line.{room, place_after, appended}

-- where the text fits it is written
pub fitting : (line : List ℕ) (at : ℕ) (text : List ℕ) → at + length text ≤ length line
    → appended line at text ≡ take at line ++ text ++ drop (at + length text) line
unfolding appended
fitting line at text h = rw (le-leb (at + length text) (length line) h)

-- where it does not the line stays as it was
pub unwritten : (line : List ℕ) (at : ℕ) (text : List ℕ) → length line < at + length text → appended line at text ≡ line
unfolding appended
unwritten line at text h = rw (lt-leb (at + length text) (length line) h)

-- where the text fits the place is the one after it
pub placed : (line : List ℕ) (at : ℕ) (text : List ℕ) → at + length text ≤ length line → place_after line at text ≡ Some (at + length text)
unfolding place_after
placed line at text h = rw (le-leb (at + length text) (length line) h)

-- so the answer taken as a place is that one
pub settled : (line : List ℕ) (at : ℕ) (text : List ℕ) {answer : Option ℕ} {place : ℕ} → at + length text ≤ length line
    → answer ≡ place_after line at text → place ≡ unwrap_or answer at → place ≡ at + length text
settled line at text h a p = rw (a, placed line at text h) at p

-- where it does not that is the answer
pub unplaced : (line : List ℕ) (at : ℕ) (text : List ℕ) → length line < at + length text → place_after line at text ≡ None
unfolding place_after
unplaced line at text h = rw (lt-leb (at + length text) (length line) h)

-- a text fits or does not
pub room_or_not : (line : List ℕ) (at n : ℕ) → (at + n ≤ length line) ⊎ (length line < at + n)
room_or_not line at n = go (room line at n) refl
  where
    go : (b : Bool) → room line at n ≡ b → (at + n ≤ length line) ⊎ (length line < at + n)
    go true e = inl (leb-true (at + n) (length line) e)
    go false e = inr (leb-false (at + n) (length line) e)

-- the line keeps its length
pub length-appended : (line : List ℕ) (at : ℕ) (text : List ℕ) → length (appended line at text) ≡ length line
length-appended line at text = ⊎_elim within over (room_or_not line at (length text))
  where
    over : length line < at + length text → length (appended line at text) ≡ length line
    over h = ap length (unwritten line at text h)

    within : at + length text ≤ length line → length (appended line at text) ≡ length line
    within h =
        let front : length (take at line) ≡ at = length-take-le at line (omega arith) in
        ap length (fitting line at text h) ∙ simp (length-append, front, length-drop) (omega arith)

-- no text changes nothing
pub nothing : (line : List ℕ) (at : ℕ) → at ≤ length line → appended line at [] ≡ line
nothing line at h = fitting line at [] (omega arith) ∙ simp (append-nil, add-zero, take-append-drop)

-- two texts in a row are their concatenation
pub in_a_row : (line : List ℕ) (at : ℕ) (first second : List ℕ) → at + (length first + length second) ≤ length line
    → appended (appended line at first) (at + length first) second ≡ appended line at (first ++ second)
in_a_row line at first second h =
    let front = take at line ++ first in
    let whole = front ++ drop (at + length first) line in
    let long : length front ≡ at + length first =
    length-append (take at line) first ∙ ap (λ (k : ℕ). k + length first) (length-take-le at line (omega arith)) in
    let same : length whole ≡ length line = ap length (sym (fitting line at first (omega arith))) ∙ length-appended line at first in
    let there : at + length first + length second ≤ length whole = omega arith in
    let both : at + length (first ++ second) ≤ length line = omega (arith, length-append first second) in
    let rest : drop (at + length first + length second) whole ≡ drop (at + length (first ++ second)) line =
    sym (drop-drop (length second) (at + length first) whole)
    ∙ ap (drop (length second)) (drop_at front (drop (at + length first) line) (at + length first) long)
    ∙ drop-drop (length second) (at + length first) line
    ∙ ap (λ (k : ℕ). drop k line) (add_assoc at (length first) (length second) ∙ ap (λ (k : ℕ). at + k) (sym (length-append first second))) in
    ap (λ (l : List ℕ). appended l (at + length first) second) (fitting line at first (omega arith))
    ∙ fitting whole (at + length first) second there
    ∙ ap (λ (p : List ℕ). p ++ second ++ drop (at + length first + length second) whole)
    (take_at front (drop (at + length first) line) (at + length first) long)
    ∙ ap (λ (r : List ℕ). front ++ second ++ r) rest
    ∙ ap (λ (p : List ℕ). p ++ drop (at + length (first ++ second)) line) (append_assoc (take at line) first second)
    ∙ sym (fitting line at (first ++ second) both)

-- a byte stored is a text of one byte appended
pub stored : (line : List ℕ) (at byte : ℕ) → at < length line → set line at byte ≡ appended line at (byte ∷ [])
stored line at byte h =
    set_split line at byte h
    ∙ sym (append_snoc (take at line) byte (drop (suc at) line))
    ∙ ap (λ (k : ℕ). take at line ++ (byte ∷ []) ++ drop k line) (sym (add-one at))
    ∙ sym (fitting line at (byte ∷ []) (omega arith))

-- the line and the place after a text was appended that fits
pub record Written (line : List ℕ) (at : ℕ) (text after : List ℕ) (place : ℕ) : Type 0 where
  pub fit : at + length text ≤ length line
  pub memory : after ≡ appended line at text
  pub here : place ≡ at + length text

module _ {line : List ℕ} {at : ℕ} {text after : List ℕ} {place : ℕ} (w : Written line at text after place) where
  -- the line kept its length
  pub kept : length after ≡ length line
  kept = ap length w.memory ∙ length-appended line at text

  -- what a function that wrote the text answers
  pub answered : (Some place ≡ place_after line at text) × (after ≡ appended line at text)
  answered = (ap Some w.here ∙ sym (placed line at text w.fit), w.memory)

  -- a further text that fits
  pub next : (more : List ℕ) {after' : List ℕ} {place' : ℕ} → place + length more ≤ length line → after' ≡ appended after place more
      → place' ≡ place + length more
      → Written line at (text ++ more) after' place'
  next more {after'} {place'} h m p =
      let both : length (text ++ more) ≡ length text + length more = length-append text more in
      let e = w.here in
      record {
        fit = omega arith;
        memory =
            m
            ∙ ap (λ (l : List ℕ). appended l place more) w.memory
            ∙ ap (λ (k : ℕ). appended (appended line at text) k more) w.here
            ∙ in_a_row line at text more (omega arith);
        here = omega arith;
      }

-- nothing written yet
pub begun : (line : List ℕ) (at : ℕ) → at ≤ length line → Written line at [] line at
begun line at h = record { fit = omega arith; memory = sym (nothing line at h); here = sym (add-zero at) }

-- an answered place tells that the text fits
pub after-fits : (line : List ℕ) (at : ℕ) (text : List ℕ) (place : ℕ) → place_after line at text ≡ Some place
    → (at + length text ≤ length line) × (place ≡ at + length text)
after-fits line at text place e = ⊎_elim within over (room_or_not line at (length text))
  where
    within : at + length text ≤ length line → (at + length text ≤ length line) × (place ≡ at + length text)
    within h = let p = placed line at text h in (h, cc)

    over : length line < at + length text → (at + length text ≤ length line) × (place ≡ at + length text)
    over h = let u = unplaced line at text h in let z : ◌≡◌ {A = ℕ} 0 1 = cc in absurd (omega arith)

-- an answered place is within the line
pub place-within : (line text : List ℕ) {after : List ℕ} {place : Option ℕ} → place ≡ place_after line 0 text → after ≡ appended line 0 text
    → ForSome place (λ n. n ≤ length after)
place-within line text e m n p =
    let f = after-fits line 0 text n (sym e ∙ p) in
    omega (arith, f.0, f.1, ap length m ∙ length-appended line 0 text)

-- that the line is too short tells that the text does not fit
pub short-over : (line : List ℕ) (at : ℕ) (text : List ℕ) → place_after line at text ≡ None → length line < at + length text
short-over line at text e = ⊎_elim within (λ h. h) (room_or_not line at (length text))
  where
    within : at + length text ≤ length line → length line < at + length text
    within h = let p = placed line at text h in let z : ◌≡◌ {A = ℕ} 0 1 = cc in absurd (omega arith)

-- a line begins with a text appended at its front
pub front : (line text : List ℕ) → length text ≤ length line → take (length text) (appended line 0 text) ≡ text
front line text h = ap (take (length text)) (fitting line 0 text (omega arith)) ∙ take-append_seam text (drop (0 + length text) line)

-- what a function that has no room for the text answers
pub refused : (line : List ℕ) (at : ℕ) (text : List ℕ) → length line < at + length text → (None ≡ place_after line at text) × (line ≡ appended line at text)
refused line at text h = (sym (unplaced line at text h), sym (unwritten line at text h))
