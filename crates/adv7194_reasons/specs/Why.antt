-- Document 02, P7: for an image, settings, a limit and a register the answer is a refusal by planning's checks without 2 and 10, by its number and field, or
-- that the register isn't sent, or one reason.
use Rattle.std.specs.Prelude.{Bool, List, [], ◌∷◌, ◌++◌, ℕ, ℤ, Result, Ok, Err}
use Rattle.refusals.specs.Refusal.{number_of}
use Rattle.refusals.specs.Verdict.{Verdict, good, refused_at}
use Rattle.refusals.specs.Order.{Place, places_at, first_of, places_in}
use Rattle.adv7194_bus.specs.declared.board.Board.{Board}
use Rattle.adv7194_bus.specs.Kind.{board_address}
use Rattle.adv7194_table.specs.Table.{table, order_of}
use Rattle.adv7194_settings.specs.Order.{order}
use Rattle.adv7194_least.specs.Aim.{aim_of}
use Rattle.adv7194_planning.specs.Rows.{list_of, row_planned}
use Rattle.refusals.specs.declared.Fault.{Fault}
use Rattle.adv7194_reasons.specs.declared.Reason as declared
use Rattle.adv7194_reasons.specs.declared.Reason.TheVariants.{NotSent, Unknown, Changed, Zeroed, Companion, Bridge}
use Rattle.adv7194_reasons.specs.Reasons.{Reason, not_sent, unknown, changed, zeroed, companion, bridge, reason_of}

-- planning's checking order without the address (2) and the room (10)
unfoldable pub why_order : List Place
why_order = places_at (1 ∷ 3 ∷ []) 0 ++ (order ++ places_in (λ f. 11 ∷ []) (order_of table))

-- row n holds at field f: planning's rows; those that look at an address and a room aren't in the order
abbrev pub row_why : Board → List ℤ → ℕ → ℕ → ℕ → Bool
row_why b zs limit n f = row_planned b zs board_address limit 0 n f

-- the reason of register r in the list that planning packs
abbrev pub reason_in : Board → List ℤ → ℕ → ℕ → Reason
reason_in b zs limit r = reason_of (aim_of b zs limit) (list_of b zs limit) r

-- the answer: the first row that holds, or else the reason
unfoldable pub why_of : Board → List ℤ → ℕ → ℕ → Verdict Reason
why_of b zs limit r = first_of (row_why b zs limit) why_order (reason_in b zs limit r)

-- what each reason found stands for
abbrev pub reason_as : declared.Reason → Reason
reason_as NotSent = not_sent
reason_as Unknown = unknown
reason_as (Changed f) = changed f
reason_as Zeroed = zeroed
reason_as Companion = companion
reason_as (Bridge i j) = bridge i j

-- and each answer
abbrev pub why_as : Result declared.Reason Fault → Verdict Reason
why_as (Ok k) = good (reason_as k)
why_as (Err e) = refused_at (number_of e.refusal) e.field
