-- The first field that has a register of the map.
use Rattle.std.proofs.Common.{Option, ℕ, not, eqb, bit_and, unwrap_or, sym, ap, ◌∙◌, rules, tests}
use Rattle.std.proofs.lemmas.Iterator.{YieldsList-from_slice}
use Rattle.std.proofs.lemmas.Iterator.Search.{position_from_yields_List}
use Rattle.std.proofs.lemmas.Iterator.Adapters.{position_from-zero}
use Rattle.adv7194_table.proofs.RegisterLaws.{first_field, none_of_map}
use Rattle.adv7194_table.proofs.registers.lowest_field.Goals as goal

pub returns-then-map-eq0 : goal.returns-then-map-eq0
returns-then-map-eq0 c = record { answer = sym (none_of_map c.args.map c.if-map-eq0.true) }

pub returns : goal.returns
returns c =
    let fields = c.field_registers.result in
    let test = λ (m : ℕ). not (eqb (bit_and m c.args.map) 0) in
    record {
      answer =
          c.unwrap_or.ensures ∙ ap (λ (o : Option ℕ). unwrap_or o 0)
          (position_from_yields_List test _ _ _ c.position.ensures.ran (YieldsList-from_slice fields cc) (λ x b q k. search (rules, tests))
          ∙ position_from-zero test fields)
          ∙ rw c.field_registers.ensures.answer (first_field c.args.map);
    }
