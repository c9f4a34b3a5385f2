-- `lines::register_lines`: the lines that were written and those of the registers that are left are all.
use Rattle.std.proofs.Common.{◌≡◌, ◌*◌, List, ℕ, ◌++◌}
use Rattle.writing.specs.Put.{Put}
use Rattle.why_lines.specs.RegisterLine.{register_width}
use Rattle.why_lines.proofs.CheckLaws.{house_reason}
use Rattle.why_listing.specs.WhyText.{register_lines}
use Rattle.why_listing.proofs.LineLaws.{lines_from}
use Rattle.why_listing.proofs.lines.register_lines.Given as goal

abbrev pub invariant-loop-i : goal.invariant-loop-i
invariant-loop-i l = record {
  text : List ℕ;
  written : Put (register_width * l.i) l.initial.line l.at text l.line l.place;
  rest : text ++ lines_from (house_reason l.image) l.first l.count l.i ≡ register_lines (house_reason l.image) l.count l.first;
}
