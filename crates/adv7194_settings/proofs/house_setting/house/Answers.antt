-- `house_setting::house` meets its contract: a number after the other.
use Rattle.adv7194_settings.specs.House.{house}
use Rattle.adv7194_settings.proofs.house_setting.house.Goals as goal

pub returns : goal.returns
unfolding house
returns c =
    record {
      answer = simp (
        c.put_ratio-2.ensures.memory,
        c.put_ratio.ensures.memory,
        c.put_number-6.ensures.memory,
        c.put_number-5.ensures.memory,
        c.put_number-4.ensures.memory,
        c.put_number-3.ensures.memory,
        c.put_number-2.ensures.memory,
        c.put_number.ensures.memory,
      );
    }
