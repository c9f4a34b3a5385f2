-- `list_refusal` meets its contract: the part of the line that holds the refusal is appended. Assumes nothing.
use mathlib.Core.Path.{◌≡◌, ap, ◌∙◌}
use Prim.Native.Nat.{ℕ}
use borrow.Author.Rules.{rules}
use Rattle.text.specs.Line.{place_after, appended}
use Rattle.listing.specs.Lines.{refused_line}
use Rattle.listing.proofs.LineLaws.{line_long, line_part}
use Rattle.listing.specs.Written.{line_of}
use Rattle.compare_listing.proofs.list_refusal.Statement.{statement}
use Rattle.compare_listing.proofs.list_refusal.Tie as tie

-- the line that was made
made : (c : tie.After-refused_line-line) → c.refused_line-line.result ≡ line_of (refused_line 1 0)
made c = c.refused_line-line.ensures ∙ ap (λ (n : ℕ). line_of (refused_line n 0)) c.number.ensures

part-append-end : tie.Need-slice_bounds-append-end
part-append-end c = let l = c.before.before in line_long l.refused_line-line.result (refused_line 1 0) (made l)

returns : tie.Need-returns
returns c =
    let p = c in
    let l = c.before.before.before.before.before.before in
    let out = l.args.out.now in
    let e = line_part l.refused_line-line.result (refused_line 1 0) (made l) in
    (p.append.ensures.0 ∙ ap (place_after out 0) e, p.append.ensures.1 ∙ ap (appended out 0) e)

pub list_refusal_spec : {M : Type 1} → statement M
list_refusal_spec =
    tie.close
    (tie.spec
    (λ c κs. search rules)
    (λ c κs. search rules)
    (λ c. search rules)
    (λ c. search rules)
    part-append-end
    (λ c κs. search rules)
    (λ c. search rules)
    returns)
