-- `settings_text`: the part composed is the text, and is appended. Assumes nothing.
use Rattle.std.proofs.Common.{◌∙◌, ap, arith, rules}
use Rattle.text.specs.Line.{place_after, appended}
use Rattle.writing.proofs.Putting.{part}
use Rattle.adv7194_listing.proofs.settings_text.Goals as goal

pub returns : goal.returns
returns c =
    let w = c.compose-end.ensures.written in
    let e = part w (search rules) in
    record {
      answer = c.append.ensures.answer ∙ ap (place_after c.args.out.now 0) e;
      memory = c.append.ensures.memory ∙ ap (appended c.args.out.now 0) e;
      most = omega arith;
    }
