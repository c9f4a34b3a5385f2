-- `nearest::with_other` meets its contract: the map of the word's other registers has one of the map's, or none. Assumes nothing.
use mathlib.Core.Path.{◌≡◌, sym, ap, ◌∙◌}
use mathlib.Core.Bool.{Bool, not, ◌&&◌}
use Prim.Native.Nat.{ℕ}
use lib.Dec.{eqb}
use borrow.Author.Rules.{rules}
use Rattle.bits.specs.Maps.{has}
use Rattle.adv7194_bus.specs.Kind.{register_count}
use Rattle.adv7194_table.specs.Registers.{some_below}
use Rattle.adv7194_least.specs.Plan.{in_word}
use Rattle.adv7194_planning.proofs.RegisterMaps.{word-is}
use Rattle.adv7194_reasons.proofs.OtherLaws.{some_other}
use Rattle.adv7194_reasons.proofs.nearest.with_other.Statement.{statement}
use Rattle.adv7194_reasons.proofs.nearest.with_other.Tie as tie

-- whether the register is one of the word's
module _ (c : tie.After-has) where
  abbrev register : ℕ
  register = c.before.args.register

  -- another of them is in the map
  abbrev another : Bool
  another = some_below (λ q. in_word q && (not (eqb q register) && has c.before.args.map q)) register_count

  in_word_lem : c.has.result ≡ in_word register
  in_word_lem = c.has.ensures ∙ word-is register

returns : tie.Need-returns-then-not-has
returns c = let h = c.before in sym (ap (λ (b : Bool). b && another h) (sym (in_word_lem h) ∙ c.if-not-has.true))

returns-2 : tie.Need-returns
returns-2 c =
    let h = c.before in
    some_other h.args.map (register h) h.requires
    ∙ sym (ap (λ (b : Bool). b && another h) (sym (in_word_lem h) ∙ c.if-not-has.false))

pub with_other_spec : {M : Type 1} → statement M
with_other_spec = tie.close (tie.spec
    (λ c κs. search rules)
    returns
    (λ c. search rules)
    returns-2)
