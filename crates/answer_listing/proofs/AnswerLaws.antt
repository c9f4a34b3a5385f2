-- What the text of a planner's answer is, from the answer and what is left of the lent plan. Assumes nothing.
use mathlib.Core.Path.{◌≡◌, refl, sym, ap, ◌∙◌}
use mathlib.Core.List.{List, ◌++◌, append-nil, flat_map}
use Prim.Native.Nat.{ℕ, ◌≤◌}
use native.Mathlib.Omega.{arith}
use lib.ListN.{length, take, drop, length-append}
use lib.Seq.{take-append_seam}
use Rattle.refusals.specs.Refusal.{Judged, accepted}
use Rattle.refusals.specs.Verdict.{Verdict, good, refused_at}
use Rattle.bus.specs.Transactions.{Transaction}
use Rattle.packing.specs.Packing.{packed}
use Rattle.unpacking.specs.Unpacking.{unpack}
use Rattle.unpacking.specs.Listed.{listed, Accepted}
use Rattle.listing.specs.declared.Word.{Word}
use Rattle.listing.specs.declared.Word.TheVariants.{Plan}
use Rattle.listing.specs.Lines.{plan_line, refused_line}
use Rattle.listing.specs.Written.{word_of}
use Rattle.listing.proofs.Beginning.{plan-word, refused-word}
use Rattle.plan_listing.specs.PlanText.{transaction_line}
use Rattle.planning.specs.Plan.{Counts, counts_of, packed_left}
use Rattle.answer_listing.specs.AnswerText.{first_line, packed_bytes, lines_below, text_below, answer_text, list_in, Holds}

-- ---- a plan that holds an answer

module _ (plan : List ℕ) where
  -- the length answered is within the plan
  pub within : (v : Verdict Counts) → Holds plan v → packed_bytes v ≤ length plan
  within (good n) h = h.within
  within (refused_at n f) h = omega arith

  -- below the word PLAN the bytes answered are well-formed
  pub is_well_formed : (v : Verdict Counts) → Holds plan v → word_of (first_line v) ≡ Plan → Accepted (take (packed_bytes v) plan)
  is_well_formed (good n) h e = h.is_well_formed
  is_well_formed (refused_at n f) h e =
      let w = refused-word n f in
      let z : ◌≡◌ {A = ℕ} 0 1 = cc in
      absurd (omega arith)

  -- the first line and those that follow its word are the answer's text
  pub text : (v : Verdict Counts) → Holds plan v → text_below (first_line v) (list_in plan v) ≡ answer_text transaction_line (list_in plan v) v
  text (good n) h =
      let ts = list_in plan (good n) in
      ap (λ (w : Word). plan_line n.transactions n.bus_bytes ++ lines_below w ts) (plan-word n.transactions n.bus_bytes)
      ∙ ap (λ (k : Counts). plan_line k.transactions k.bus_bytes ++ flat_map transaction_line ts) (sym h.counts)
  text (refused_at n f) h =
      let line = refused_line n f in
      ap (λ (w : Word). line ++ lines_below w (list_in plan (refused_at n f))) (refused-word n f) ∙ append-nil line

-- ---- a planner of a list

-- what a planner of a list answers and leaves of the lent plan: the list's counts and its bytes, which unpack to it, or a refusal
pub record Plans (ts : List Transaction) (plan after : List ℕ) (v : Verdict Counts) : Type 0 where
  pub left : after ≡ packed_left ts plan v
  pub counts : (n : Counts) → v ≡ good n → counts_of ts ≡ n
  pub unpacks : (n : Counts) → v ≡ good n → unpack (packed ts) ≡ accepted ts

module _ (ts : List Transaction) (plan after : List ℕ) where
  -- the bytes answered are the packed list
  first-bytes : (n : Counts) → Plans ts plan after (good n) → take n.length after ≡ packed ts
  first-bytes n p =
      ap (take n.length) p.left
      ∙ ap (λ (k : Counts). take k.length (packed ts ++ drop (length (packed ts)) plan)) (sym (p.counts n refl))
      ∙ take-append_seam (packed ts) (drop (length (packed ts)) plan)

  -- they unpack to the list
  unpacked : (n : Counts) → Plans ts plan after (good n) → unpack (take n.length after) ≡ accepted ts
  unpacked n p = ap unpack (first-bytes n p) ∙ p.unpacks n refl

  -- so the transactions of the answer are the list
  pub list-is : (n : Counts) → Plans ts plan after (good n) → list_in after (good n) ≡ ts
  list-is n p = ap listed (unpacked n p)

  -- what is left of the lent plan holds the answer
  pub holds : (v : Verdict Counts) → Plans ts plan after v → Holds after v
  holds (good n) p =
      let u = unpacked n p in
      let long : n.length ≡ length (packed ts) = sym (ap (λ (k : Counts). k.length) (p.counts n refl)) in
      record {
        within = omega (arith, long, ap length p.left, length-append (packed ts) (drop (length (packed ts)) plan));
        is_well_formed = rw u;
        counts = ap (λ (j : Judged (List Transaction)). counts_of (listed j)) u ∙ p.counts n refl;
      }
  holds (refused_at n f) p = tt

  -- and the answer's text is the list's
  pub text_of : (text : Transaction → List ℕ) (v : Verdict Counts) → Plans ts plan after v → answer_text text (list_in after v) v ≡ answer_text text ts v
  text_of text (good n) p = ap (λ (us : List Transaction). answer_text text us (good n)) (list-is n p)
  text_of text (refused_at n f) p = refl
