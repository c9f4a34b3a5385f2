-- `registers::sends` meets its contract: the first number of signalling is compared. Assumes nothing.
use mathlib.Core.Path.{◌≡◌, ap, ◌∙◌}
use mathlib.Core.Bool.{not}
use Prim.Native.Nat.{ℕ}
use native.Mathlib.Omega.{arith}
use lib.Dec.{lit<}
use lib.IntN.{pos}
use lib.ListN.{get_or}
use borrow.Author.Rules.{rules}
use Rattle.field_table.specs.Blocks.{is, slice}
use Rattle.field_table.proofs.Signed.{is-bits}
use Rattle.adv7194_table.specs.declared.blocks.Block.{Block}
use Rattle.adv7194_table.specs.Blocks.{block_of}
use Rattle.adv7194_planning.proofs.registers.sends.Statement.{statement}
use Rattle.adv7194_planning.proofs.registers.sends.Tie as tie

-- where the numbers begin
at : (c : tie.After-block_of-kind) → c.block_of-kind.result.index ≡ (block_of 0x0B_0A_05_19_03).index
at c = ap (λ (b : Block). b.index) c.block_of-kind.ensures

mul-result : tie.Need-offset_bounds-numbers-kind
mul-result c = let e = at c in record { fits = omega arith }

inside : tie.Need-bounds-numbers-kind
inside c = let e = at c in let h = c.requires in omega arith

returns : tie.Need-returns
unfolding slice
returns c =
    let numbers = c.args.numbers.now in
    let k = c.block_of-kind.result.index in
    ap not (is-bits 0 (get_or numbers k (pos 0)) (lit< tt) c.result-1.given ∙ ap (λ (j : ℕ). is 0 (get_or numbers j (pos 0))) (at c.before))

pub sends_spec : {M : Type 1} → statement M
sends_spec = tie.close (tie.spec
    (λ c κs. search rules)
    mul-result
    inside
    returns)
