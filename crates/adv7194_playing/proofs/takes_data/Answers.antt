-- Of captions both bytes of the pair are tested.
use Rattle.std.proofs.Common.{◌&&◌, sym, ap, ap₂, ◌∙◌, subst}
use Rattle.adv7194_playing.specs.declared.PlanKind.{PlanKind}
use Rattle.adv7194_playing.specs.Kinds.{takes_data, pair_from, PairThere}
use Rattle.adv7194_playing.proofs.KindLaws.{pair_held}
use Rattle.adv7194_playing.proofs.takes_data.Goals as goal

pub returns-in-Captions : goal.returns-in-Captions
returns-in-Captions c =
    let s = c.args.subaddress in
    let registers = c.args.registers.now in
    let there = subst (λ (k : PlanKind). PairThere k s registers) c.in-Captions.is c.requires in
    record {
      answer =
          ap₂ ◌&&◌ c.is_odd.ensures.answer c.is_odd-in-Captions.ensures.answer
          ∙ sym (ap (λ (k : PlanKind). takes_data k (pair_from s registers)) c.in-Captions.is ∙ pair_held registers s there);
    }
