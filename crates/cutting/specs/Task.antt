-- Document 01, "The bus and its three rules", document 02, P6: the plan for the needed registers, with a limit on the data of a transaction; registers are
-- maps.
use Rattle.std.specs.Prelude.{◌≡◌, true, false, not, ◌&&◌, List, ℕ, suc, ◌-◌, ◌≤◌, ◌<◌, ltb, length, get_or}
use Rattle.bits.specs.Maps.{map_width, has}
use Rattle.bus.specs.Transactions.{Transaction}
use Rattle.least_cost.specs.Task.{Task, Stop}
use Rattle.least_cost.specs.Plan.{scan, best, plan}

-- the largest number that a 6-bit count of a packed plan can hold
abbrev pub largest_count : ℕ
largest_count = 63

-- the needed registers may be written, no register past those that a count can hold may be, and the limit is no more than a map's registers
pub record Bounded (needed allowed limit : ℕ) : Type 0 where
  pub writable : (i : ℕ) → has needed i ≡ true → has allowed i ≡ true
  pub small : (i : ℕ) → has allowed i ≡ true → i < largest_count
  pub some : 0 < limit
  pub most : limit ≤ map_width

-- the task of three maps and a limit: to write the needed registers, with no register written that is not allowed, no transaction that ends before a
-- register of the third map, and none with more data than the limit
abbrev pub map_task : ℕ → ℕ → ℕ → ℕ → ℕ → Task
map_task count needed allowed held limit = record {
  count = count;
  need = has needed;
  takes = λ s i. has allowed i && ltb (i - s) limit;
  cut = λ i. not (has held i);
}

-- the task of a run of registers
abbrev pub run_task : ℕ → ℕ → ℕ → ℕ → Task
run_task needed held limit end = record { count = end; need = has needed; takes = λ s i. ltb (i - s) limit; cut = λ i. not (has held i) }

-- there is a plan: the needed registers may be written, each that may be written has a wanted byte, there are no more than a count can hold; where no
-- transaction may end both neighbours are needed; and from each needed register one can come to an end
pub record Plannable (needed allowed held limit : ℕ) (wanted : List ℕ) : Type 0 where
  pub writable : (i : ℕ) → has needed i ≡ true → has allowed i ≡ true
  pub inside : (i : ℕ) → has allowed i ≡ true → i < length wanted
  pub small : length wanted ≤ largest_count
  pub some : 0 < limit
  pub most : limit ≤ map_width
  pub first : has held 0 ≡ false
  pub before : (i : ℕ) → has held (suc i) ≡ true → has needed i ≡ true
  pub after : (i : ℕ) → has held i ≡ true → has needed i ≡ true
  pub stop : (i : ℕ) → has needed i ≡ true → Stop (map_task (length wanted) needed allowed held limit) i

-- the plan, with the wanted bytes
abbrev pub plan_by : ℕ → ℕ → ℕ → ℕ → List ℕ → List Transaction
plan_by needed allowed held limit wanted = plan (map_task (length wanted) needed allowed held limit) (λ r. get_or wanted r 0)

-- what is left of it from a register on, with no transaction open
abbrev pub plan_from : ℕ → ℕ → ℕ → ℕ → List ℕ → ℕ → List Transaction
plan_from needed allowed held limit wanted i =
    scan (map_task (length wanted) needed allowed held limit) (best (map_task (length wanted) needed allowed held limit)) (λ r. get_or wanted r 0)
    (length wanted - i) i
