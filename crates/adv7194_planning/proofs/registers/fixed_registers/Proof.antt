-- `registers::fixed_registers` meets its contract, by whether signalling is sent. Assumes nothing.
use mathlib.Core.Path.{sym, ◌∙◌}
use borrow.Author.Rules.{rules}
use borrow.Author.Tests.{not-true, not-false}
use Rattle.adv7194_planning.proofs.FixedMaps.{fixed_off, fixed_sent}
use Rattle.adv7194_planning.proofs.registers.fixed_registers.Statement.{statement}
use Rattle.adv7194_planning.proofs.registers.fixed_registers.Tie as tie

returns : tie.Need-returns-then-sends
returns c =
    let s = c in
    fixed_sent s.args.numbers.now s.requires (not-true _ (sym c.sends.ensures ∙ c.if-sends.true))

returns-2 : tie.Need-returns
returns-2 c =
    let s = c in
    fixed_off s.args.numbers.now s.requires (not-false _ (sym c.sends.ensures ∙ c.if-sends.false))

pub fixed_registers_spec : {M : Type 1} → statement M
fixed_registers_spec = tie.close (tie.spec
    (λ c κs. search rules)
    returns
    returns-2)
