-- `copy_bytes`: the bytes shifted by the bits held are the first bytes of the bits left.
use Rattle.std.proofs.Common.{◌≡◌, ℕ, ◌+◌, ◌-◌, ◌∙◌, sym, ap, take, drop, get_or, arith}
use Rattle.std.proofs.lemmas.List.Edits.{sets}
use Rattle.shifting.specs.Shifted.{shifted}
use Rattle.unpacking.proofs.PlaceLaws.{data_shifted}
use Rattle.unpacking.proofs.places.copy_bytes.Goals as goal

pub returns : goal.returns
returns c =
    let plan = c.args.plan.now in
    let p = c.args.place in
    let count = c.args.count in
    let n : p.at + count - p.at ≡ count = omega arith in
    let to = sets c.args.registers.now c.args.subaddress in
    record {
      memory = c.shift.ensures.memory ∙ ap (λ (m : ℕ). to (shifted p.held (get_or plan (p.at - 1) 0) (take m (drop p.at plan)))) n
          ∙ ap to (sym (data_shifted count plan p c.requires.0 c.requires.1 (λ i. (c.type_inv.plan i).fits)));
    }
