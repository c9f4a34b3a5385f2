-- `field::word_setting` meets its contract: the bytes are the word's where joined they are the word. Assumes nothing.
use mathlib.Core.Path.{◌≡◌, sym, ap, ap₂, ◌∙◌}
use mathlib.Core.List.{[], ◌∷◌}
use Prim.Native.Nat.{ℕ}
use lib.Dec.{eqb}
use lib.IntN.{ℤ}
use mir.Syntax.{w32}
use mir.ValLaws.{to_z-of_z}
use borrow.Author.Rules.{rules}
use borrow.Author.Tests.{eq-eqb, ne_eqb}
use Rattle.bits.specs.Bytes.{same_bytes}
use Rattle.field_table.specs.Blocks.{is}
use Rattle.adv7194_subcarrier.specs.Subcarrier.{word_of, word_bytes, word_codes}
use Rattle.adv7194_subcarrier.proofs.ByteLaws.{joined_of, joined_same}
use Rattle.adv7194_subcarrier.proofs.field.word_setting.Statement.{statement}
use Rattle.adv7194_subcarrier.proofs.field.word_setting.Tie as tie

-- the code's test is the definition's
tested : (c : tie.After-word_set)
    → (let a = c.args in
    eqb (joined_of a.b0 a.b1 a.b2 a.b3) c.word_set.result ≡ same_bytes (a.b0 ∷ a.b1 ∷ a.b2 ∷ a.b3 ∷ []) (word_codes a.standard a.square))
unfolding word_codes
tested c =
    let s = c in
    let a = s.args in
    joined_same c.word_set.result a.b0 a.b1 a.b2 a.b3 s.ranges.b0.fits s.ranges.b1.fits s.ranges.b2.fits
    ∙ ap (λ (w : ℕ). same_bytes (a.b0 ∷ a.b1 ∷ a.b2 ∷ a.b3 ∷ []) (word_bytes w))
    (c.word_set.ensures
    ∙ ap₂ (λ (x y : ℤ). word_of (is 1 x) (is 1 y)) (to_z-of_z w32 a.standard s.ranges.standard) (to_z-of_z w32 a.square s.ranges.square))

returns : tie.Need-returns-then-held-word_set
returns c = rw (sym (tested c.before) ∙ eq-eqb _ _ c.if-held-word_set.true)

returns-2 : tie.Need-returns
returns-2 c = rw (sym (tested c.before) ∙ ne_eqb _ _ c.if-held-word_set.false)

pub word_setting_spec : {M : Type 1} → statement M
word_setting_spec =
    tie.close
    (tie.spec
    (λ c. search rules)
    (λ c. search rules)
    (λ c. search rules)
    (λ c. search rules)
    (λ c. search rules)
    (λ c. search rules)
    (λ c κs. search rules)
    returns
    returns-2)
