-- `parts::put_word` meets its contract: the word's four registers, the last one first. Assumes nothing.
use mathlib.Core.Path.{◌≡◌, ap}
use native.Mathlib.Omega.{arith}
use borrow.Author.Rules.{rules}
use Rattle.adv7194_table.specs.declared.blocks.Block.{Block}
use Rattle.adv7194_table.specs.Blocks.{word}
use Rattle.writing.proofs.Putting.{same_text, wider}
use Rattle.template.specs.Template.{widths}
use Rattle.adv7194_names.specs.Widths.{curve_width}
use Rattle.compare_fields.proofs.PartLaws.{word-filled}
use Rattle.compare_fields.proofs.parts.put_word.Statement.{statement}
use Rattle.compare_fields.proofs.parts.put_word.Tie as tie

-- the word's first register
first : (c : tie.After-block_of-first) → c.block_of-first.result.register ≡ word.register
first c = ap (λ (b : Block). b.register) c.block_of-first.ensures

add-byte-at : tie.Need-overflow_add-first
add-byte-at c = omega (arith, first c)

add-byte-at-2 : tie.Need-overflow_add-first-2
add-byte-at-2 c = omega (arith, first c.before)

add-byte-at-3 : tie.Need-overflow_add-first-3
add-byte-at-3 c = omega (arith, first c.before.before)

fill-requires : tie.Need-fill-requires
unfolding widths
fill-requires c κs = (omega (arith, c.requires), omega arith)

returns : tie.Need-returns
unfolding widths
returns c =
    let p = c in
    let w = c in
    let x = c in
    let y = c in
    let z = c in
    let b = c.before.before.before.before.before.before.before.before.before.before.before in
    let a = b.args in
    same_text
    (word-filled a.image.now (first b) z.byte_at.ensures y.byte_at-2.ensures x.byte_at-3.ensures w.byte_at-4.ensures (search rules)
    (search rules) (search rules) (search rules))
    (wider curve_width (omega arith) p.fill.ensures)

pub put_word_spec : {M : Type 1} → statement M
put_word_spec =
    tie.close
    (tie.spec
    (λ c κs. search rules)
    add-byte-at
    (λ c κs. search rules)
    (λ c. search rules)
    add-byte-at-2
    (λ c κs. search rules)
    (λ c. search rules)
    add-byte-at-3
    (λ c κs. search rules)
    (λ c. search rules)
    (λ c κs. search rules)
    (λ c. search rules)
    (λ c. search rules)
    fill-requires
    (λ c. search rules)
    returns)
