-- `wanting::want` meets its contract: the two parts are the table.
use Rattle.std.proofs.Common.{sym, ap, ◌∙◌, subst}
use Rattle.refusals.specs.Verdict.{after}
use Rattle.refusals.proofs.OrderLaws.{exactly}
use Rattle.adv7194_settings.specs.Demand.{Demanded}
use Rattle.adv7194_settings.specs.Order.{order}
use Rattle.adv7194_settings.specs.Rows.{row_holds, check_of}
use Rattle.adv7194_settings.proofs.DemandLaws.{demanded}
use Rattle.adv7194_wanted.specs.Parts.{second_part, fault_in}
use Rattle.adv7194_wanted.proofs.RowLaws.{Found}
use Rattle.adv7194_wanted.proofs.CheckLaws.{check_parts}
use Rattle.adv7194_wanted.proofs.PartLaws.{wanted_parts}
use Rattle.adv7194_wanted.proofs.wanting.want.Goals as goal

pub returns : goal.returns
unfolding check_of
returns c =
    let zs = c.args.numbers.now in
    let start = c.args.image.now in
    let first = c.want_first-first in
    let verdict = c.want_second.ensures.answer ∙ ap (λ (v : Found). after v (fault_in zs second_part)) first.ensures.answer ∙ check_parts zs in
    let image = wanted_parts zs start first.new.image c.want_second.ensures.memory first.ensures.memory in
    record {
      answer = verdict;
      memory = image;
      exactly = exactly (row_holds zs) order tt verdict;
      demanded = subst (Demanded start zs) (sym image) (demanded start zs c.requires.1);
    }
