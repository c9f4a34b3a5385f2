-- `parts::put_raw`: what was written and what the registers that are left add are the whole raw code.
use Rattle.std.proofs.Common.{◌≡◌, ◌*◌, List, ℕ, ◌++◌}
use Rattle.writing.specs.Put.{Put}
use Rattle.compare_fields.proofs.PartLaws.{raw_text}
use Rattle.compare_fields.proofs.parts.put_raw.Given as goal

abbrev pub invariant-loop-register : goal.invariant-loop-register
invariant-loop-register l = record {
  text : List ℕ;
  written : Put (3 * l.register) l.initial.line l.at text l.line l.place;
  rest : text ++ raw_text l.image l.field l.register ≡ raw_text l.image l.field 0;
}
