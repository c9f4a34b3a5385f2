-- Document 02, P4: what each kind of plan asks of a transaction, its header and its data apart, and of how many there are. Together they are what a
-- play call takes (theorem `takes_parts` of proofs/KindLaws.antt).
use Rattle.std.specs.Prelude.{Bool, true, false, List, ℕ, ◌+◌, ◌≤◌, length, take, drop}
use Rattle.adv7194_bus.specs.Rules.{keeps_rules}
use Rattle.adv7194_captions.specs.Plans.{pair_size, at_pair, all_odd}
use Rattle.adv7194_playing.specs.declared.PlanKind.{PlanKind}
use Rattle.adv7194_playing.specs.declared.PlanKind.TheVariants.{Settings, Captions}

-- whether a plan must have a transaction: none of captions is empty
abbrev pub needs_transaction : PlanKind → Bool
needs_transaction Settings = false
needs_transaction Captions = true

-- whether a subaddress and a data count are taken: those that keep the three rules, or a pair's
abbrev pub takes_header : PlanKind → ℕ → ℕ → Bool
takes_header Settings subaddress count = keeps_rules subaddress count
takes_header Captions subaddress count = at_pair subaddress count

-- whether data are taken: any, or bytes with an odd count of ones
abbrev pub takes_data : PlanKind → List ℕ → Bool
takes_data Settings bytes = true
takes_data Captions bytes = all_odd bytes

-- the bytes of a pair that registers hold from a subaddress on
abbrev pub pair_from : ℕ → List ℕ → List ℕ
pair_from subaddress registers = take pair_size (drop subaddress registers)

-- the registers are there whose data are judged: a pair of captions
abbrev pub PairThere : PlanKind → ℕ → List ℕ → Type 0
PairThere Settings subaddress registers = Unit {0}
PairThere Captions subaddress registers = subaddress + pair_size ≤ length registers
