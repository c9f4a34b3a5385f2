-- What the bytes passed stand for was written, and with what the others stand for it is the whole text.
use Rattle.std.proofs.Common.{◌≡◌, ◌+◌, ◌≤◌, ◌++◌, ℕ, ℤ, List, drop}
use Rattle.writing.specs.Put.{Put}
use Rattle.template.specs.Template.{filled, widths}
use Rattle.template.proofs.fill.Given as goal

pub record Filling (line₀ : List ℕ) (at : ℕ) (template : List ℕ) (zs : List ℤ) (first : ℕ) (line : List ℕ) (place next i : ℕ) : Type 0 where
  pub few : next ≤ first + i
  pub spent : ℕ
  pub text : List ℕ
  pub written : Put spent line₀ at text line place
  pub room : spent + widths (drop i template) ≡ widths template
  pub whole : text ++ filled (drop i template) (drop next zs) ≡ filled template (drop first zs)

abbrev pub invariant-loop-b : goal.invariant-loop-b
invariant-loop-b l = Filling l.initial.line l.at l.template l.numbers l.first l.line l.place l.next l.b-index
