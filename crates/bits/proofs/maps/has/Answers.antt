-- No register past a map's width is in it.
use Rattle.std.proofs.Common.{sym, ◌∙◌}
use borrow.Author.Tests.{le-ltb}
use Rattle.bits.proofs.SetLaws.{has-past}
use Rattle.bits.proofs.maps.has.Goals as goal

pub returns-else-k-lt-MAP_WIDTH : goal.returns-else-k-lt-MAP_WIDTH
returns-else-k-lt-MAP_WIDTH c =
    let past = c.if-k-lt-MAP_WIDTH.false in
    record { answer = le-ltb _ _ past ∙ sym (has-past 64 c.args.m c.args.k c.ranges.m.fits past) }
