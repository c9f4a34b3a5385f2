-- What writing a plan's data into registers answers and leaves: at a fault, at the end, and where a transaction isn't taken, by its header or by its
-- data. Assumes nothing.
use mathlib.Core.Path.{◌≡◌, refl, sym, ap, ap₂, ◌∙◌, subst⁻¹}
use mathlib.Core.Logic.{⊎_elim}
use mathlib.Core.Bool.{Bool, true, false, ◌&&◌, and-true, and-false}
use mathlib.Core.List.{List, []}
use Prim.Native.Nat.{ℕ, ◌+◌, ◌≤◌}
use native.Mathlib.Omega.{arith}
use lib.ListN.{length}
use lib.Seq.{sets, length-sets}
use Rattle.refusals.specs.Refusal.{Judged, accepted, refused}
use Rattle.bus.specs.Transactions.{Transaction, size}
use Rattle.bus.specs.Known.{marks}
use Rattle.bus.proofs.WrittenRun.{written-length}
use Rattle.unpacking.specs.declared.places.Place.{Place}
use Rattle.unpacking.specs.declared.steps.Order.TheVariants.{Ascending}
use Rattle.unpacking.specs.declared.steps.Cursor.{Cursor}
use Rattle.unpacking.specs.Unpacking.{unpack, counted}
use Rattle.unpacking.specs.Places.{data_copied}
use Rattle.unpacking.specs.Steps.{transaction_at}
use Rattle.unpacking.proofs.StepLaws.{rest_of, Went}
use Rattle.unpacking.proofs.Walking.{walk_ends, walk_fails}
use Rattle.unpacking.proofs.Writing.{passes, Writing, as_many, sized, data_stored, writing_goes, writing_breaks}
use Rattle.adv7194_bus.specs.Kind.{register_count}
use Rattle.adv7194_bus.specs.declared.board.Board.{Board}
use Rattle.adv7194_bus.specs.Board.{board_of}
use Rattle.adv7194_playing.specs.declared.PlanKind.{PlanKind}
use Rattle.adv7194_playing.specs.Kinds.{takes_header, takes_data, pair_from, PairThere}
use Rattle.playing.specs.Playing.{judged_if}
use Rattle.playing.proofs.Judging.{by_test}
use Rattle.adv7194_playing.specs.Playing.{takes}
use Rattle.adv7194_playing.specs.Written.{Written}
use Rattle.adv7194_playing.proofs.KindLaws.{takes_one, turns, enough, takes_parts, marks_state, room, pair_there, pair-judged}

-- the registers are as many, also where the plan was refused
pub left_as_many : (j : Judged (List Transaction)) (before after : Board) → Written j before after → length after.registers ≡ length before.registers
left_as_many (accepted ts) before after w = ap (λ (b : Board). length b.registers) w ∙ written-length before.registers ts
left_as_many (refused n) before after w = w

-- what is answered, and left of the board
abbrev pub Answers : PlanKind → List ℕ → Board → Board → Judged ℕ → Type 0
Answers kind plan before after answer = (answer ≡ counted (judged_if (takes kind) (unpack plan))) × Written (judged_if (takes kind) (unpack plan)) before after

-- by the judgement
answers : (kind : PlanKind) (plan : List ℕ) (before after : Board) {answer : Judged ℕ} {j : Judged (List Transaction)} → judged_if (takes kind) (unpack plan) ≡ j
    → answer ≡ counted j → Written j before after → Answers kind plan before after answer
answers kind plan before after e p w = (p ∙ sym (ap counted e), subst⁻¹ (λ (j : Judged (List Transaction)). Written j before after) e w)

-- some transactions of the plan were passed, taken and written: from registers l₀ on, of which those in map₀ were known
abbrev pub Passed : PlanKind → List ℕ → ℕ → List ℕ → ℕ → List ℕ → Cursor → ℕ → Type 0
Passed kind plan map₀ l₀ map l c transactions = Writing (turns kind) plan Ascending map₀ l₀ map l c transactions

module _ (kind : PlanKind) {plan : List ℕ} {map₀ : ℕ} {l₀ : List ℕ} {map : ℕ} {l : List ℕ} {c : Cursor} {transactions : ℕ}
    (w : Passed kind plan map₀ l₀ map l c transactions) where
  -- a refusal, whatever is answered as known
  refuse : (left : List ℕ) (m : ℕ) → judged_if (takes kind) (unpack plan) ≡ refused 9 → length left ≡ length l₀
      → Answers kind plan (board_of l₀ map₀) (board_of left m) (refused 9)
  refuse left m e h = answers kind plan (board_of l₀ map₀) (board_of left m) e refl h

  -- the plan has a fault
  pub fault_answered : (m : ℕ) {n : ℕ} → rest_of plan c ≡ refused n → Answers kind plan (board_of l₀ map₀) (board_of l m) (refused n)
  fault_answered m e =
      answers kind plan (board_of l₀ map₀) (board_of l m) (ap (judged_if (takes kind)) (walk_fails w.walked e)) refl (as_many w)

  -- at its end, its list is taken if there are enough
  at-end : (b : Bool) → enough kind transactions ≡ b → takes kind w.done ≡ b
  at-end b e =
      takes_parts kind w.done map₀ l₀ ∙ ap₂ (λ (n : ℕ) (x : Bool). enough kind n && x) (sym w.counts) w.passed
      ∙ and-true (enough kind transactions) ∙ e

  -- it ends too early
  pub empty_answered : (m : ℕ) → rest_of plan c ≡ accepted [] → enough kind transactions ≡ false
      → Answers kind plan (board_of l₀ map₀) (board_of l m) (refused 9)
  empty_answered m e f = refuse l m (by_test (takes kind) (walk_ends w.walked e) (at-end false f)) (as_many w)

  -- it ends
  pub end_answered : rest_of plan c ≡ accepted [] → enough kind transactions ≡ true
      → Answers kind plan (board_of l₀ map₀) (board_of l map) (accepted transactions)
  end_answered e f =
      answers kind plan (board_of l₀ map₀) (board_of l map) (by_test (takes kind) (walk_ends w.walked e) (at-end true f)) (ap accepted w.counts)
      (ap₂ board_of w.written (w.state ∙ marks_state kind w.done map₀ l₀))

  module _ {subaddress count : ℕ} {first : Place} {after : Cursor} (g : Went plan c subaddress count first after) where
    -- the transaction found
    abbrev t : Transaction
    t = transaction_at plan subaddress count first

    -- it isn't taken: nor is the list, whatever comes after it
    breaks : (us : List Transaction) → passes (turns kind) map₀ l₀ us ≡ false → takes kind us ≡ false
    breaks us e =
        takes_parts kind us map₀ l₀ ∙ ap (λ (b : Bool). enough kind (length us) && b) e ∙ and-false (enough kind (length us))

    not_taken : (left : List ℕ) (m : ℕ) → length left ≡ length l₀ → takes_one kind t ≡ false
        → Answers kind plan (board_of l₀ map₀) (board_of left m) (refused 9)
    not_taken left m h e =
        refuse left m (⊎_elim (λ r. ap (judged_if (takes kind)) r) (λ u. by_test (takes kind) u.1.0 (breaks u.0 u.1.1)) (writing_breaks w g e)) h

    -- for its header
    pub header_answered : (m : ℕ) → takes_header kind subaddress count ≡ false → Answers kind plan (board_of l₀ map₀) (board_of l m) (refused 9)
    header_answered m e = not_taken l m (as_many w) (rw (sized w g, e))

    -- its header is taken, so its registers are there
    module _ (long : length l₀ ≡ register_count) (e : takes_header kind subaddress count ≡ true) where
      fits : subaddress + count ≤ register_count
      fits = room kind subaddress count g.some e

      -- its data are written
      module _ {registers : List ℕ} (h : registers ≡ data_copied plan first l subaddress count) where
        fit : subaddress + size t ≤ length l
        fit = omega (arith, sized w g, as_many w, long, fits)

        header : takes_header kind subaddress (size t) ≡ true
        header = ap (takes_header kind subaddress) (sized w g) ∙ e

        stored : registers ≡ sets l subaddress t.bytes
        stored = data_stored w g (omega (arith, sized w g, fit)) h

        -- they are there to be judged
        pub data_there : PairThere kind subaddress registers
        data_there = rw stored (pair_there l t.bytes subaddress fit kind header)

        -- and judged as the transaction is
        judged_there : {b : Bool} → takes_data kind (pair_from subaddress registers) ≡ b → takes_one kind t ≡ b
        judged_there {b} d =
            ap₂ (λ (x y : Bool). x && y) header
            (sym (pair-judged l t.bytes subaddress fit kind header) ∙ sym (ap (λ (x : List ℕ). takes_data kind (pair_from subaddress x)) stored) ∙ d)

        -- the registers are as many
        pub still_as_many : length registers ≡ length l₀
        still_as_many = ap length stored ∙ length-sets l subaddress t.bytes ∙ as_many w

        -- they aren't taken
        pub data_answered : (m : ℕ) → takes_data kind (pair_from subaddress registers) ≡ false
            → Answers kind plan (board_of l₀ map₀) (board_of registers m) (refused 9)
        data_answered m d = not_taken registers m still_as_many (judged_there d)

        -- they are, and their registers are marked
        pub written_on : takes_data kind (pair_from subaddress registers) ≡ true → {m : ℕ} → m ≡ marks map subaddress count
            → Passed kind plan map₀ l₀ m registers after (transactions + 1)
        written_on d m = writing_goes w g (judged_there d) (m ∙ ap (marks map subaddress) (sym (sized w g))) stored
