-- What the packed list of right pairs does: it unpacks, is acknowledged at the chip's own address alone, and leaves bytes that are known and read back as
-- the characters. Assumes nothing.
use mathlib.Core.Path.{◌≡◌, refl, sym, ap, ap₂, ◌∙◌}
use mathlib.Core.Logic.{◌≢◌, inl, inr, ⊎_elim}
use mathlib.Core.Bool.{Bool, true, false, or-true, or-false}
use mathlib.Core.List.{List, [], ◌∷◌}
use Prim.Native.Nat.{ℕ, suc, ◌<◌}
use native.Mathlib.Omega.{arith}
use lib.Dec.{eqb}
use lib.IntN.{ℤ, nat_abs}
use lib.ListN.{length, get_or}
use borrow.Author.Tests.{eqb-true, eqb-false, eq-eqb, ne_eqb}
use Rattle.bits.specs.Maps.{has}
use Rattle.bits.proofs.FlagLaws.{holds, fails}
use Rattle.bits.proofs.ParityLaws.{parity_odd, parity_low}
use Rattle.refusals.specs.Refusal.{accepted}
use Rattle.refusals.specs.Verdict.{good}
use Rattle.bus.specs.Transactions.{Transaction, size, Touches, Touched}
use Rattle.bus.specs.Chip.{Chip}
use Rattle.bus.specs.Run.{idle_at, all_acknowledged, list_events, after}
use Rattle.bus.specs.Known.{known_after}
use Rattle.bus.proofs.Play.{touched_or_same, list-elsewhere}
use Rattle.bus.proofs.KnownLaws.{touched_by, touched_agree, known-list, known-elsewhere}
use Rattle.bus.proofs.WrittenRun.{run-acknowledged}
use Rattle.bus.proofs.Acknowledged.{unacknowledged_elsewhere}
use Rattle.bus.proofs.Unanswered.{none_elsewhere}
use Rattle.packing.specs.Packing.{packed, behind}
use Rattle.unpacking.proofs.Exact.{in_order}
use Rattle.least_cost.specs.Order.{Ascending, Holds}
use Rattle.least_cost.proofs.Cheapest.{map_every}
use Rattle.bus.proofs.After.{length-after}
use Rattle.least_cost.proofs.Ends.{Kept, ascending-holds}
use Rattle.adv7194_bus.specs.Kind.{register_count, read_only, adv7194}
use Rattle.adv7194_bus.specs.declared.board.Board.{Board}
use Rattle.adv7194_bus.specs.Board.{knows}
use Rattle.bus.specs.Address.{address_right}
use Rattle.bus.proofs.AddressLaws.{not_read}
use Rattle.adv7194_captions.specs.Characters.{caption_byte}
use Rattle.adv7194_captions.specs.Pairs.{pairs_right, pair_at, caption_list, pair_register}
use Rattle.adv7194_captions.specs.Plans.{pair_size, are_captions}
use Rattle.adv7194_captions.specs.Reading.{caption_reading}
use Rattle.adv7194_captions.proofs.PairLaws.{Character, Right, ordinary-alone, extended-alone, both_given, right}
use Rattle.adv7194_captions.proofs.ListLaws.{captions_formed, captions-unpack, captions-some, captions-inside, captions_sized}
use Rattle.adv7194_captions.proofs.JustThese.{just_these}
use Rattle.adv7194_captions.proofs.RowLaws.{odd_ones_lem}
use Rattle.unpacking.specs.Unpacking.{unpack}
use Rattle.playing.specs.Playing.{judged_if, play_of}
use Rattle.playing.proofs.Judging.{by_test}
use Rattle.playing.proofs.Faults.{plan_played}
use Rattle.adv7194_playing.specs.Playing.{call_of}
use Rattle.adv7194_caption_planning.specs.Demands.{Leaves, ReadsBack, MakesKnown, CaptionsPlayed}
use Rattle.bits.specs.Lists.{Every}

-- ---- the list

-- it ascends
ascends : {e o : List ℤ} → Right e o → Ascending 0 (caption_list e o)
unfolding caption_list pair_at
ascends (ordinary-alone p q) = (omega arith, tt)
ascends (extended-alone p q) = (omega arith, tt)
ascends (both_given p q p' q') = (omega arith, (omega arith, tt))

-- ---- reading back

module _ (left : Board) (h : length left.registers ≡ register_count) where
  -- a pair's registers, which are known, with the bytes of two characters
  read_pair : (pair : ℕ) (x y : ℤ) → pair < 2 → Character x → Character y
      → caption_byte x ≡ get_or left.registers (pair_register pair) 0 → caption_byte y ≡ get_or left.registers (suc (pair_register pair)) 0
      → knows left (pair_register pair) ≡ true → knows left (suc (pair_register pair)) ≡ true
      → caption_reading left pair ≡ good (record { first = nat_abs x; second = nat_abs y })
  read_pair pair x y p u v m n k l =
      odd_ones_lem left pair h p (rw (k, l))
      (rw (← m, ← n) (rw (parity_odd 7 (nat_abs x) u.small, parity_odd 7 (nat_abs y) v.small)))
      ∙ ap₂ (λ (m n : ℕ). good (record { first = m; second = n }))
      (rw (← m) (parity_low 7 (nat_abs x) u.small))
      (rw (← n) (parity_low 7 (nat_abs y) v.small))

  -- registers that hold the list's data, and are known
  read_back : {e o : List ℤ} → Right e o → Every (Holds (λ r. get_or left.registers r 0)) (caption_list e o)
      → ((r : ℕ) → Touched (caption_list e o) r → knows left r ≡ true) → ReadsBack left 0 e × ReadsBack left 1 o
  unfolding caption_list pair_at
  read_back (ordinary-alone {c} {d} p q) k l = (
    λ s. absurd (omega arith),
    λ s. read_pair 1 c d (omega arith) p q (k.0 0x13 (omega arith)) (k.0 0x14 (omega arith)) (l 0x13 (inl (omega arith))) (l 0x14 (inl (omega arith))),
  )
  read_back (extended-alone {a} {b} p q) k l = (
    λ s. read_pair 0 a b (omega arith) p q (k.0 0x11 (omega arith)) (k.0 0x12 (omega arith)) (l 0x11 (inl (omega arith))) (l 0x12 (inl (omega arith))),
    λ s. absurd (omega arith),
  )
  read_back (both_given {a} {b} {c} {d} p q p' q') k l = (
    λ s. read_pair 0 a b (omega arith) p q (k.0 0x11 (omega arith)) (k.0 0x12 (omega arith)) (l 0x11 (inl (omega arith))) (l 0x12 (inl (omega arith))),
    λ s. read_pair 1 c d (omega arith) p' q' (k.1.0 0x13 (omega arith)) (k.1.0 0x14 (omega arith))
        (l 0x13 (inr (inl (omega arith)))) (l 0x14 (inr (inl (omega arith)))),
  )

-- ---- the chip

module _ (extended ordinary : List ℤ) (h : pairs_right extended ordinary ≡ true) where
  abbrev list : List Transaction
  list = caption_list extended ordinary

  -- its data are for registers that keep a byte
  kept : (own : ℕ) → Every (Kept (adv7194 own)) list
  kept own =
      map_every (λ t. (r : ℕ) → Touches t r → (r < register_count) × (r ≢ read_only)) (Kept (adv7194 own))
      (λ t k r u. ((k r u).0, rw (ne_eqb r read_only (k r u).1))) list (captions-inside extended ordinary h)

  -- at the chip's own address every byte is acknowledged
  acknowledged : (own : ℕ) (c : Chip) → all_acknowledged (adv7194 own) c (list_events own list) ≡ true
  acknowledged own c =
      run-acknowledged (adv7194 own) list c (kept own)
      (map_every (λ t. size t ≡ pair_size) (λ t. 0 < size t) (λ t e. omega arith) list (captions_sized extended ordinary h))

  -- and the data are left
  leaves : (own : ℕ) (c : Chip) → length c.registers ≡ register_count → Leaves list c.registers (after (adv7194 own) c list).registers
  leaves own c n = record {
    size = length-after (adv7194 own) list c;
    held = ascending-holds (adv7194 own) list c 0 (ascends (right extended ordinary h)) (kept own) (omega arith);
    kept = λ r u. ⊎_elim (λ v. absurd (u v)) (λ v. v) (touched_or_same (adv7194 own) list c r);
  }

  -- in registers that are known then, every other flag as it was
  makes_known : (own : ℕ) (c : Chip) (known : ℕ) → MakesKnown list known (known_after (adv7194 own) c known (list_events own list))
  makes_known own c known = record {
    touched = λ r u.
        known-list (adv7194 own) list c known (kept own) r
        ∙ rw (holds (touched_by list r) ((touched_agree list r).1 u)) (or-true (has known r));
    kept = λ r u.
        known-list (adv7194 own) list c known (kept own) r
        ∙ rw (fails (touched_by list r) (λ t. u ((touched_agree list r).0 t))) (or-false (has known r));
  }

  -- at another it isn't
  unanswered : (used own : ℕ) (c : Chip) → used ≢ own → address_right used ≡ true → address_right own ≡ true
      → all_acknowledged (adv7194 own) c (list_events used list) ≡ false
  unanswered used own c w e f = some list (captions-some extended ordinary h)
    where
      some : (ts : List Transaction) → 0 < length ts → all_acknowledged (adv7194 own) c (list_events used ts) ≡ false
      some [] n = absurd (omega arith)
      some (t ∷ ts) n = unacknowledged_elsewhere (adv7194 own) used w (not_read used own e f) t ts c

  -- the call that plays captions takes the packed list
  taken : judged_if are_captions (unpack (packed list)) ≡ accepted list
  taken =
      let order = in_order behind list (captions_formed extended ordinary h) in
      let all = (just_these list order).1 (record { extended = extended; ordinary = ordinary; right = h; list = refl }) in
      by_test are_captions (captions-unpack extended ordinary h) all

  -- and answers whether it was sent to the chip's own address
  answer : (b : Board) (used own : ℕ) → length b.registers ≡ register_count → address_right used ≡ true → address_right own ≡ true
      → play_of (call_of are_captions b used own (packed list)) ≡ good (eqb used own)
  answer b used own n e f =
      sym (plan_played (call_of are_captions b used own (packed list)) b.known n e f list taken).answer ∙ ap good (by (eqb used own) refl)
    where
      by : (t : Bool) → eqb used own ≡ t → all_acknowledged (adv7194 own) (idle_at 0 b.registers) (list_events used list) ≡ eqb used own
      by true p = rw (eqb-true used own p) (acknowledged own (idle_at 0 b.registers) ∙ sym (eq-eqb own own refl))
      by false p = unanswered used own (idle_at 0 b.registers) (eqb-false used own p) e f ∙ sym p

  -- what the packed list does
  pub captions_played : CaptionsPlayed extended ordinary (packed list)
  captions_played = record {
    packs = (captions_formed extended ordinary h, refl);
    answer = answer;
    acknowledged = acknowledged;
    leaves = leaves;
    known = makes_known;
    reads = λ own c known n.
        let l = leaves own c n in
        let m = makes_known own c known in
        read_back _ (l.size ∙ n) (right extended ordinary h) l.held m.touched;
    elsewhere = λ used own c known w e f. (
      none_elsewhere (adv7194 own) used w (not_read used own e f) list c,
      (
        list-elsewhere (adv7194 own) used w (not_read used own e f) list c,
        known-elsewhere (adv7194 own) used w (not_read used own e f) list c known,
      ),
    );
  }
