-- With each turn one datum is written, and writing what is left ends in the whole line.
use Rattle.std.proofs.Common.{◌≡◌, ◌+◌, ◌*◌, ◌≤◌, length, drop}
use Rattle.text.specs.Line.{appended}
use Rattle.plan_listing.proofs.TextLaws.{data_text}
use Rattle.plan_listing.proofs.put_line.Given as goal

abbrev pub invariant-loop-byte : goal.invariant-loop-byte
invariant-loop-byte l = record {
  here : l.end ≡ l.initial.end + 3 * l.byte-index;
  kept : length l.out ≡ length l.initial.out;
  room : l.initial.end + (3 * length l.bytes + 1) ≤ length l.initial.out;
  goes : appended l.initial.out l.initial.end (data_text l.bytes) ≡ appended l.out l.end (data_text (drop l.byte-index l.bytes));
}
