-- `registers::register_maps` meets its contract: each map by the one before it. Assumes nothing.
use borrow.Author.Rules.{rules}
use Rattle.adv7194_planning.proofs.MapPlan.{maps_are}
use Rattle.adv7194_planning.proofs.registers.register_maps.Statement.{statement}
use Rattle.adv7194_planning.proofs.registers.register_maps.Tie as tie

returns : tie.Need-returns
returns c =
    let w = c in
    let n = c in
    let d = c in
    let a = d.args in
    λ limit.
    maps_are a.board a.wanted.now a.fixed limit _ _ _ _ _ d.changed_registers.ensures n.must_registers-must.ensures
    n.needed_registers-needed.ensures w.allowed_registers.ensures c.held_registers.ensures

pub register_maps_spec : {M : Type 1} → statement M
register_maps_spec =
    tie.close
    (tie.spec
    (λ c. search rules)
    (λ c κs. c.requires)
    (λ c κs. tt)
    (λ c κs. tt)
    (λ c κs. tt)
    (λ c κs. tt)
    returns)
