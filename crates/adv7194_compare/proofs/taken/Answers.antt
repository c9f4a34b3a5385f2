-- `taken`: an image is taken where reading answers good, and its settings are then left.
use Rattle.std.proofs.Common.{length, ap, ◌∙◌}
use Rattle.adv7194_compare.specs.Compare.{is_good}
use Rattle.adv7194_compare.proofs.ReadableLaws.{good_ok, taken-good, taken_left}
use Rattle.adv7194_compare.proofs.taken.Goals as goal

pub returns : goal.returns
returns c =
    let a = c.args in
    record {
      answer = c.is_ok.ensures.value ∙ good_ok c.read.result ∙ ap is_good c.read.ensures.answer ∙ taken-good a.image.now (length a.numbers.now);
      memory = c.read.ensures.memory ∙ taken_left a.image.now a.numbers.now;
    }
