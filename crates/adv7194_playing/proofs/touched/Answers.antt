-- Of a pair the map is that of its registers.
use mathlib.Core.Path.{subst⁻¹}
use Rattle.std.proofs.Common.{Bool, T, cond, sym, ap, ◌∙◌}
use Rattle.bus.specs.Known.{marks}
use Rattle.adv7194_playing.specs.declared.PlanKind.{PlanKind}
use Rattle.adv7194_playing.specs.Kinds.{takes_header}
use Rattle.adv7194_playing.proofs.KindLaws.{pair-marks}
use Rattle.adv7194_playing.proofs.touched.Goals as goal

pub returns-then-at_pair : goal.returns-then-at_pair
returns-then-at_pair c =
    let s = c.args.subaddress in
    let n = c.args.count in
    let e = sym c.at_pair.ensures.answer ∙ c.if-at_pair.true in
    record {
      answer =
          sym
          (ap (λ (k : PlanKind). cond (takes_header k s n) (marks 0 s n) 0) c.in-Captions.is ∙ ap (λ (b : Bool). cond b (marks 0 s n) 0) e
          ∙ pair-marks s n (subst⁻¹ T e tt));
    }
