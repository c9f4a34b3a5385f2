-- `with_span`: the map of a span is added to the registers touched, and its first register to those started at.
use Rattle.std.proofs.Common.{arith}
use Rattle.cutting.proofs.SpanLaws.{span_taken, one_more}
use Rattle.cutting.proofs.spans.with_span.Goals as goal

pub returns-clause-taken : goal.returns-clause-taken
returns-clause-taken c = λ x. span_taken c.args.spans.taken c.args.start c.args.end x c.requires.0 c.requires.1

pub returns-clause-starts : goal.returns-clause-starts
returns-clause-starts c = λ x. one_more c.args.spans.starts c.args.start x (omega arith)
