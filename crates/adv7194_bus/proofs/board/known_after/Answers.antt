-- A chip that is handed the map of dropped registers is the ADV7194.
use Rattle.std.proofs.Common.{refl, ap, ◌∙◌}
use Rattle.bus.specs.Chip.{Kind}
use Rattle.bus.specs.Known.{known_by}
use Rattle.bus.specs.Lent.{chip_at}
use Rattle.adv7194_bus.specs.Kind.{register_count}
use Rattle.adv7194_bus.proofs.KindLaws.{kind-map}
use Rattle.adv7194_bus.proofs.board.known_after.Goals as goal

pub returns : goal.returns
returns c =
    let a = c.args in
    record {
      answer = λ own bytes.
          c.known_by.ensures.answer own bytes
          ∙ ap (λ (κ : Kind). known_by κ (chip_at a.state.phase a.state.pointer bytes) a.known a.event) (kind-map own register_count refl);
    }
