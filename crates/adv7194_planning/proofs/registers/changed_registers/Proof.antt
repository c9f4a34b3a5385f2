-- `registers::changed_registers` meets its contract: each half has what differs in it among the registers with a bit, and no other differs. Assumes nothing.
use mathlib.Core.Path.{ap, ◌∙◌}
use mathlib.Core.List.{List}
use Prim.Native.Nat.{ℕ}
use borrow.Author.Rules.{rules}
use lib.ListN.{take, drop}
use Rattle.planning.specs.Registers.{differs_in}
use Rattle.adv7194_planning.proofs.ComparedLaws.{both_halves}
use Rattle.adv7194_planning.proofs.registers.changed_registers.Statement.{statement}
use Rattle.adv7194_planning.proofs.registers.changed_registers.Tie as tie

returns : tie.Need-returns
returns c =
    let low = c in
    let table = low.field_masks-masks in
    let start = c in
    let image = start.args.image.now in
    let wanted = start.args.wanted.now in
    both_halves image wanted start.requires low.differing-low.result c.differing-high.result (search rules)
    (λ j. low.differing-low.ensures j ∙ ap (λ (m : List ℕ). differs_in (take 0x1b m) (take 0x1b image) (take 0x1b wanted) j) table.ensures)
    (λ j.
    c.differing-high.ensures j
    ∙ ap (λ (m : List ℕ). differs_in (take 0x1b (drop 0x1b m)) (take 0x1b (drop 0x1b image)) (take 0x1b (drop 0x1b wanted)) j) table.ensures)

pub changed_registers_spec : {M : Type 1} → statement M
changed_registers_spec =
    tie.close
    (tie.spec
    (λ c κs. search rules)
    (λ c. search rules)
    (λ c. search rules)
    (λ c. search rules)
    (λ c. search rules)
    (λ c. search rules)
    (λ c. search rules)
    (λ c. search rules)
    (λ c. search rules)
    (λ c. search rules)
    (λ c κs. search rules)
    (λ c. search rules)
    (λ c. search rules)
    (λ c. search rules)
    (λ c. search rules)
    (λ c. search rules)
    (λ c. search rules)
    (λ c. search rules)
    (λ c. search rules)
    (λ c. search rules)
    (λ c κs. search rules)
    (λ c. search rules)
    returns)
