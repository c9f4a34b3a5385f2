-- Document 01, "The bus and its three rules": a register is needed where the two images differ; a transaction that touches one of 0C-0F
-- holds all four; none touches 11-14 or 34. Document 02, P6: none has more data than the limit. The plan is the list over the registers so needed that
-- weighs least, and the first of those.
use Rattle.std.specs.Prelude.{Bool, cond, not, ◌&&◌, ◌||◌, List, ℕ, ◌-◌, ltb, eqb, get_or}
use Rattle.bus.specs.Registers.{among}
use Rattle.bus.specs.Transactions.{Transaction}
use Rattle.adv7194_bus.specs.Kind.{register_count, read_only}
use Rattle.least_cost.specs.Task.{Task}
use Rattle.least_cost.specs.Plan.{plan, greedy_plan}
use Rattle.adv7194_least.specs.Aim.{Aim, must, compared}

-- a byte may be written to register r: the chip has it, it isn't the read-only one, and it isn't a caption register
abbrev pub writable : ℕ → Bool
writable r = ltb r register_count && (not (eqb r read_only) && not (among 0x11 0x14 r))

-- register r is one of the subcarrier word's
abbrev pub in_word : ℕ → Bool
in_word r = among 0x0c 0x0f r

-- one of the word's registers must be written
abbrev pub word_in : (ℕ → Bool) → Bool
word_in must = must 0x0c || (must 0x0d || (must 0x0e || must 0x0f))

-- register r has to be touched where some must be written: if it is one of those, or in the word with one of those
abbrev pub with_word : (ℕ → Bool) → ℕ → Bool
with_word must r = cond (in_word r) (word_in must) (must r)

-- the task of a planner with a limit that must write some registers and may write others: a transaction may take these, as many as the limit says, and may
-- not end inside the word where that is needed
unfoldable pub task_for : ℕ → (ℕ → Bool) → (ℕ → Bool) → Task
task_for limit must may = record {
  count = register_count;
  need = with_word must;
  takes = λ s r. may r && ltb (r - s) limit;
  cut = λ r. not (among 0x0d 0x0f r && word_in must);
}

-- a list may write register r: a byte may be written there, and it is known or needed
abbrev pub may : Aim → ℕ → Bool
may a r = writable r && compared a r

-- register r is needed, by itself or as one of the word's
abbrev pub needed : Aim → ℕ → Bool
needed a r = with_word (must a) r

-- the task of planning
abbrev pub task : Aim → Task
task a = task_for a.limit (must a) (may a)

-- the byte that is wanted in register r
abbrev pub byte_of : Aim → ℕ → ℕ
byte_of a r = get_or a.wanted r 0

-- the plan's transactions, with the wanted image's bytes
unfoldable pub plan_of : Aim → List Transaction
plan_of a = plan (task a) (byte_of a)

-- the plan that joins gaps of one and two registers and knows no limit: each of its transactions is a run of registers
unfoldable pub joined_plan : Aim → List Transaction
joined_plan a = greedy_plan (task a) (may a) (byte_of a)
