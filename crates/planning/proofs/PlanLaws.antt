-- The plan of three maps and a limit is the list of the maps found, and what packing it answers and leaves. Assumes nothing.
use mathlib.Core.Path.{◌≡◌, refl, sym, ap, ap₂, ◌∙◌, subst}
use mathlib.Core.Bool.{Bool, true, false, not, ◌&&◌, ◌||◌, and-false, false≢true}
use mathlib.Core.List.{List, [], ◌∷◌, ◌++◌}
use Prim.Native.Nat.{ℕ, zero, suc, ◌-◌, ◌^◌, ◌≤◌, ◌<◌}
use native.Mathlib.Omega.{arith}
use lib.Bits.{bit_and}
use lib.Dec.{leb, ltb}
use lib.ListN.{length, get_or, drop}
use borrow.Author.Tests.{ltb-true, ltb-false, le-leb, lt-leb}
use Rattle.bits.specs.Maps.{has}
use Rattle.bits.proofs.SetLaws.{has_and}
use Rattle.refusals.specs.Verdict.{Verdict, refused_at}
use Rattle.bus.specs.Transactions.{Transaction, end, bus_bytes}
use Rattle.bus.proofs.CostLaws.{bytes_count}
use Rattle.packing.specs.declared.Pending.{Pending}
use Rattle.packing.specs.Packing.{packed}
use Rattle.packing.specs.Written.{list_bits, Sound as SoundPending, Room, written, finished_with}
use Rattle.packing.proofs.PackedLaws.{list_bits-length, packed-length}
use Rattle.packing.proofs.PutLaws.{begun as begun-with, finished_packed}
use Rattle.least_cost.specs.Order.{Ascending}
use Rattle.least_cost.specs.Task.{Task, Sound}
use Rattle.least_cost.proofs.Attained.{Right, planned}
use Rattle.least_cost.proofs.Cheapest.{map_every}
use Rattle.cutting.specs.Spans.{touched, begun}
use Rattle.cutting.specs.Task.{largest_count, map_task, Plannable, plan_by}
use Rattle.cutting.proofs.CutLaws.{map-sound}
use Rattle.planning.specs.Registers.{before}
use Rattle.planning.specs.Plan.{Counts, list_of, Mapped, packing_of, plan_after, done}
use Rattle.planning.proofs.ShiftLaws.{has-past, has_not}
use Rattle.planning.proofs.ListLaws.{Good, list-is, begun-touched, touched-begun}
use Rattle.planning.proofs.CountLaws.{Maps, list_counted, count-le, no_start}
use Rattle.bits.specs.Lists.{Every}

-- ---- the maps of the plan

-- a map without the registers of another
pub has-without : (m s x : ℕ) → m < 2 ^ 64 → s < 2 ^ 64 → has (bit_and m (2 ^ 64 - 1 - s)) x ≡ (has m x && not (has s x))
has-without m s x hm hs = has_and m (2 ^ 64 - 1 - s) x ∙ go (ltb x 64) refl
  where
    go : (b : Bool) → ltb x 64 ≡ b → (has m x && has (2 ^ 64 - 1 - s) x) ≡ (has m x && not (has s x))
    go true e = ap (λ (y : Bool). has m x && y) (has_not 64 s x hs (ltb-true x 64 e))
    go false e = let n = has-past 64 m x hm (ltb-false x 64 e) in rw n

-- a transaction of a plan has data, which are the wanted bytes
right-good : (p : Task) (w : List ℕ) → Sound p → p.count ≡ length w → (t : Transaction) → Right p (λ r. get_or w r 0) t → Good w t
right-good p w σ e t h =
    let s = h.some in
    record { some = s; ends = omega (arith, σ.need_in (end t - 1) h.last); holds = h.holds }

-- the register before one, in sets that agree
before_same : (f g : ℕ → Bool) → ((x : ℕ) → f x ≡ g x) → (x : ℕ) → before f x ≡ before g x
before_same f g e zero = refl
before_same f g e (suc x) = e x

-- two maps are a list's where the list of the maps is that list, and what it touches has a wanted byte
pub mapped_list : (ts : List Transaction) (w : List ℕ) (taken starts goes : ℕ) → taken < 2 ^ 64 → starts < 2 ^ 64 → Maps taken starts goes
    → ((i : ℕ) → has taken i ≡ true → i < length w) → list_of taken goes w ≡ ts → Mapped ts w taken starts goes
mapped_list ts w taken starts goes ht hs μ inside same =
    let off : (x : ℕ) → length w ≤ x → has taken x ≡ false = λ x h. none x h (has taken x) refl in
    let c = list_counted taken starts goes w ht hs off μ in
    record {
      list = same;
      inside = inside;
      over = λ x e. taken_of (has taken x) (has starts x) (sym (μ.goes x) ∙ e);
      transactions = c.0;
      bytes = c.1;
      few = count-le (length w) starts hs (λ x h. no_start (length w) taken starts goes (λ r. get_or w r 0) μ x (off x h));
      short = count-le (length w) taken ht off;
    }
  where
    none : (x : ℕ) → length w ≤ x → (b : Bool) → has taken x ≡ b → has taken x ≡ false
    none x h true e = absurd (omega (arith, inside x e))
    none x h false e = e

    taken_of : (a b : Bool) → (a && not b) ≡ true → a ≡ true
    taken_of true b e = refl
    taken_of false b e = e

module _ (needed allowed held limit : ℕ) (w : List ℕ) (taken starts : ℕ) (π : Plannable needed allowed held limit w)
    (ht : taken < 2 ^ 64) (hs : starts < 2 ^ 64) (touches : (x : ℕ) → has taken x ≡ touched (plan_by needed allowed held limit w) x)
    (begins : (x : ℕ) → has starts x ≡ begun (plan_by needed allowed held limit w) x) where
  -- the plan
  abbrev ts : List Transaction
  ts = plan_by needed allowed held limit w

  -- the registers that its transactions go on over
  abbrev goes : ℕ
  goes = bit_and taken (2 ^ 64 - 1 - starts)

  -- its transactions have data
  good : Every (Good w) ts
  good =
      let p = map_task (length w) needed allowed held limit in
      let σ = map-sound needed allowed held limit w π in
      map_every (Right p (λ r. get_or w r 0)) (Good w) (right-good p w σ refl) ts (planned p (λ r. get_or w r 0) σ).right

  -- they ascend
  ascends : Ascending 0 ts
  ascends = (planned (map_task (length w) needed allowed held limit) (λ r. get_or w r 0) (map-sound needed allowed held limit w π)).ascending

  -- their maps
  maps : Maps taken starts goes
  maps = record {
    goes = λ x. has-without taken starts x ht hs;
    only = λ x e. touches x ∙ begun-touched w ts x good (sym (begins x) ∙ e);
    begins = λ x e f. begins x ∙ touched-begun ts x (sym (touches x) ∙ e) (sym (before_same (has taken) (touched ts) touches x) ∙ f);
  }

  -- the list of the maps is the plan
  same : list_of taken goes w ≡ ts
  same =
      list-is taken goes w ts 0 (omega arith) ascends good (λ x h. touches x)
      (λ x h. has-without taken starts x ht hs ∙ ap₂ (λ (a b : Bool). a && not b) (touches x) (begins x))

  -- what is touched has a wanted byte
  touched_in : (us : List Transaction) → Every (Good w) us → (x : ℕ) → touched us x ≡ true → x < length w
  unfolding touched
  touched_in [] g x e = absurd (false≢true e)
  touched_in (t ∷ us) g x e = go (ltb x (end t)) refl e (λ u. touched_in us g.1 x u)
    where
      go : (b : Bool) → ltb x (end t) ≡ b → ((leb t.subaddress x && ltb x (end t)) || touched us x) ≡ true → (touched us x ≡ true → x < length w)
          → x < length w
      go true l u ih = let d = ltb-true x (end t) l in omega (arith, g.0.ends)
      go false l u ih = ih (sym (rw (l, and-false (leb t.subaddress x))) ∙ u)

  -- they are the plan's maps
  pub mapped : Mapped ts w taken starts goes
  mapped = mapped_list ts w taken starts goes ht hs maps (λ x e. touched_in ts good x (sym (touches x) ∙ e)) same

-- ---- answers

-- what packing a list answers, and what it leaves in the lent plan
abbrev pub Answers : List Transaction → List ℕ → Verdict Counts → List ℕ → Type 0
Answers ts plan answer after = (answer ≡ packing_of ts (length plan)) × (after ≡ plan_after ts plan)

-- the lent plan is shorter than the packed one
pub too_short : (us ts : List Transaction) (plan : List ℕ) → us ≡ ts → length plan < length (packed us) → Answers ts plan (refused_at 10 0) plan
too_short us ts plan same h =
    let no = lt-leb (length (packed us)) (length plan) h in
    subst (λ (l : List Transaction). Answers l plan (refused_at 10 0) plan) same (rw no, rw no)

-- it has room
pub has_room : (us ts : List Transaction) (plan after : List ℕ) (l t b : ℕ) → us ≡ ts → length (packed us) ≤ length plan
    → l ≡ length (packed us) → t ≡ length us → b ≡ bus_bytes us → after ≡ packed us ++ drop (length (packed us)) plan
    → Answers ts plan (done l t b) after
has_room us ts plan after l t b same h el et eb e =
    let yes = le-leb (length (packed us)) (length plan) h in
    let answer = done l t b in
    subst (λ (x : List Transaction). Answers x plan answer after) same (rw (yes, el, et, eb), rw yes e)

-- ---- after the transaction count

-- the pending bits of a plan begun with its transaction count
abbrev pub opening : ℕ → Pending
opening n = record { at = 0; count = 6; bits = n }

module _ (ts : List Transaction) (plan : List ℕ) (first : Pending) (n : ℕ) (few : n ≤ largest_count) (told : n ≡ length ts) (is : first ≡ opening n) where
  -- a list can be packed after it
  pub begun-sound : SoundPending first
  begun-sound = subst SoundPending (sym is) (begun-with plan n (omega arith)).0

  -- it has room where its packing has
  pub begun-room : length (packed ts) ≤ length plan → Room plan first (length (list_bits ts))
  begun-room h =
      subst (λ (p : Pending). Room plan p (length (list_bits ts))) (sym is) (omega (arith, packed-length ts, list_bits-length ts, bytes_count ts))

  -- and then the plan is its packing
  pub begun-done : (after : List ℕ) → after ≡ finished_with plan (written plan first ++ list_bits ts) → after ≡ packed ts ++ drop (length (packed ts)) plan
  begun-done after e =
      e ∙ ap (λ (p : Pending). finished_with plan (written plan p ++ list_bits ts)) (is ∙ ap opening told) ∙ finished_packed plan ts (omega arith)
