-- `put` meets its contract: the text is copied into the part of the line from the place on. Assumes nothing.
use mathlib.Core.Path.{◌≡◌, sym, ap, ◌∙◌}
use mathlib.Core.List.{List, ◌++◌, append_assoc}
use Prim.Native.Nat.{ℕ, ◌+◌, ◌-◌, ◌≤◌}
use native.Mathlib.Omega.{arith}
use lib.ListN.{length, take, drop}
use lib.Seq.{drop-drop}
use borrow.Rule.Slice.PartMut.{post_of, put_mid}
use Rattle.text.specs.Line.{appended}
use Rattle.text.proofs.Appending.{fitting}
use Rattle.text.proofs.put.Goals as goal

-- a text in place of the part of a line that is as long is appended there
copied : (line : List ℕ) (at k : ℕ) (text : List ℕ) → k ≡ length text → at + length text ≤ length line → put_mid at k line text ≡ appended line at text
copied line at k text long h =
    let rest : post_of at k line ≡ drop (at + length text) line = drop-drop k at line ∙ ap (λ (n : ℕ). drop (at + n) line) long in
    ap (λ (r : List ℕ). take at line ++ (text ++ r)) rest
    ∙ sym (append_assoc (take at line) text (drop (at + length text) line)) ∙ sym (fitting line at text h)

pub returns-clause-memory : goal.returns-clause-memory
returns-clause-memory c =
    let a = c.args in
    ap (λ (last : List ℕ). put_mid a.at (a.at + length a.text.now - a.at) a.line.now last) c.copy_from_slice.ensures.after
    ∙ copied a.line.now a.at (a.at + length a.text.now - a.at) a.text.now (omega arith) c.requires
