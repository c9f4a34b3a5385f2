-- What a list makes known: the registers that it touches, at the chip's own address, and none at another. Assumes nothing.
use mathlib.Core.Path.{◌≡◌, refl, sym, ap, ap₂, ◌∙◌}
use mathlib.Core.Logic.{◌⊎◌, inl, inr, ⊎_elim, ◌≢◌, ◌↔◌}
use mathlib.Core.Bool.{Bool, true, false, cond, ◌&&◌, ◌||◌, or-false, or_assoc, false≢true}
use mathlib.Core.List.{List, [], ◌∷◌, ◌++◌, flat_map}
use Prim.Native.Nat.{ℕ, zero, suc, ◌+◌, ◌-◌, ◌*◌, ◌/◌, ◌%◌, ◌^◌, ◌≤◌, ◌<◌, max}
use native.Mathlib.Nat.{mod-lt, pow-suc, add-mul, mul_assoc, mul_comm, one-mul}
use native.Mathlib.Omega.{arith}
use lib.Bits.{bit_or, or_step, or_block, or_zero_r, or_shifted_r}
use lib.Dec.{T, leb, ltb, eqb, leb→le, le→leb, ltb→lt, lt→ltb}
use lib.ListN.{length}
use lib.Pow.{pow_pos, pow-lt, split}
use borrow.Author.Tests.{ltb-true, ltb-false, lt-ltb}
use Rattle.bits.specs.Maps.{has}
use Rattle.bits.proofs.DigitLaws.{digit}
use Rattle.bits.proofs.FlagLaws.{both, first, second, either, left, right}
use Rattle.bits.proofs.SetLaws.{has_or, has_span, or_assoc as joined-assoc}
use Rattle.bus.specs.declared.chip.Phase.{Phase}
use Rattle.bus.specs.declared.chip.Phase.TheVariants.{Idle, AwaitAddress, AwaitSubaddress, AwaitData, Sending}
use Rattle.bus.specs.declared.chip.Event.{Event}
use Rattle.bus.specs.declared.chip.Event.TheVariants.{Start, FromMaster}
use Rattle.bus.specs.Transactions.{Transaction, size, end, Touches, Touched, touches}
use Rattle.bus.specs.Chip.{Kind, Chip, entering, accepted, refused, from_master, to_master, step}
use Rattle.bus.specs.Run.{run, transaction_events, list_events}
use Rattle.bus.specs.Known.{mark, marks, marks_of, known_by, known_after}
use Rattle.bus.proofs.Play.{data_events, store, writing, idle, step_in, opened, called, not_called, opened_in, opened_elsewhere, Kept}
use Rattle.bits.specs.Lists.{Every}

-- ---- marked registers, as a number

module _ (m r : ℕ) where
  -- a map's registers from r on, and those below
  abbrev from : ℕ
  from = m / 2 ^ r

  abbrev below : ℕ
  below = m % 2 ^ r

  -- with register r in it
  joined : bit_or m (2 ^ r) ≡ (from / 2 * 2 + max (from % 2) 1) * 2 ^ r + below
  joined =
      let one : 2 ^ r ≡ 1 * 2 ^ r + 0 = omega arith in
      ap₂ bit_or (sym (split m r)) one ∙ or_block r from 1 below 0 (mod-lt m (pow_pos r)) (pow_pos r)
      ∙ ap₂ (λ (x y : ℕ). x * 2 ^ r + y) (or_step from 1 ∙ ap (λ (x : ℕ). x * 2 + max (from % 2) 1) (or_zero_r (from / 2))) (or_zero_r below)

  pub mark_or : mark m r ≡ bit_or m (2 ^ r)
  mark_or = by (digit from) ∙ sym joined
    where
      by : (from % 2 ≡ 0) ⊎ (from % 2 ≡ 1) → mark m r ≡ (from / 2 * 2 + max (from % 2) 1) * 2 ^ r + below
      by (inl e) =
          let more : from / 2 * 2 + max (from % 2) 1 ≡ from + 1 = omega arith in
          rw (more, e) (omega (arith, add-mul from 1 (2 ^ r), split m r))
      by (inr e) =
          let same : from / 2 * 2 + max (from % 2) 1 ≡ from = omega arith in
          rw (same, e) (sym (split m r))

-- one register and the n after it
one_more : (n s : ℕ) → (2 ^ n - 1) * 2 ^ suc s + 2 ^ s ≡ (2 ^ suc n - 1) * 2 ^ s
one_more n s =
    let a = 2 ^ n - 1 in
    let ones : a * 2 + 1 ≡ 2 ^ suc n - 1 = omega (arith, pow-suc 2 n, pow_pos n) in
    let up : a * 2 ^ suc s ≡ a * 2 * 2 ^ s = ap (λ (x : ℕ). a * x) (pow-suc 2 s ∙ mul_comm (2 ^ s) 2) ∙ sym (mul_assoc a 2 (2 ^ s)) in
    ap₂ (λ (x y : ℕ). x + y) up (sym (one-mul (2 ^ s))) ∙ sym (add-mul (a * 2) 1 (2 ^ s)) ∙ ap (λ (x : ℕ). x * 2 ^ s) ones

-- n registers from s on, marked one after the other, are joined to the map at once
pub marks_or : (n s m : ℕ) → marks m s n ≡ bit_or m ((2 ^ n - 1) * 2 ^ s)
unfolding marks
marks_or zero s m = sym (or_zero_r m) ∙ ap (bit_or m) (omega arith)
marks_or (suc n) s m =
    let rest = (2 ^ n - 1) * 2 ^ suc s in
    marks_or n (suc s) (mark m s) ∙ ap (λ (x : ℕ). bit_or x rest) (mark_or m s) ∙ joined-assoc m (2 ^ s) rest
    ∙ ap (bit_or m) (or_shifted_r (2 ^ n - 1) (suc s) (2 ^ s) (pow-lt (omega arith)) ∙ one_more n s)

-- so they are the map of theirs, joined
pub marks-joined : (n s m : ℕ) → marks m s n ≡ bit_or m (marks 0 s n)
marks-joined n s m = marks_or n s m ∙ ap (bit_or m) (sym (marks_or n s 0))

-- they are in the map, with those that were
pub has-marks : (n s m r : ℕ) → has (marks m s n) r ≡ (has m r || (leb s r && ltb r (s + n)))
has-marks n s m r =
    ap (λ (x : ℕ). has x r) (marks_or n s m) ∙ has_or m ((2 ^ n - 1) * 2 ^ s) r ∙ ap (λ (x : Bool). has m r || x) (has_span s n r)

-- ---- touched registers, as a test

-- some transaction of a list does
abbrev pub touched_by : List Transaction → ℕ → Bool
touched_by [] r = false
touched_by (t ∷ ts) r = touches t r || touched_by ts r

-- the tests hold exactly where the transaction or the list touches the register
touches_agree : (t : Transaction) (r : ℕ) → T (touches t r) ↔ Touches t r
touches_agree t r =
    let a = leb t.subaddress r in
    let b = ltb r (end t) in (
      λ h. (leb→le t.subaddress r (first a b h), ltb→lt r (end t) (second a b h)),
      λ h. both a b (le→leb t.subaddress r h.0) (lt→ltb r (end t) h.1),
    )

pub touched_agree : (ts : List Transaction) (r : ℕ) → T (touched_by ts r) ↔ Touched ts r
touched_agree [] r = (λ h. h, λ h. h)
touched_agree (t ∷ ts) r =
    let a = touches t r in
    let b = touched_by ts r in (
      λ h. ⊎_elim (λ p. inl ((touches_agree t r).0 p)) (λ p. inr ((touched_agree ts r).0 p)) (either a b h),
      λ h. ⊎_elim (λ p. left a b ((touches_agree t r).1 p)) (λ p. right a b ((touched_agree ts r).1 p)) h,
    )

-- a list's registers are in the map that they are marked in, with those that were
pub has-marks_of : (ts : List Transaction) (m r : ℕ) → has (marks_of m ts) r ≡ (has m r || touched_by ts r)
unfolding marks_of
has-marks_of [] m r = sym (or-false (has m r))
has-marks_of (t ∷ ts) m r =
    has-marks_of ts (marks m t.subaddress (size t)) r
    ∙ ap (λ (x : Bool). x || touched_by ts r) (has-marks (size t) t.subaddress m r)
    ∙ or_assoc (has m r) (touches t r) (touched_by ts r)

-- ---- known registers

-- an address is not stored, nor a subaddress, nor what the chip sends
pub address_not_stored : (κ : Kind) (c : Chip) (b : ℕ) → (from_master κ AwaitAddress c b).stored ≡ false
unfolding from_master
address_not_stored κ c b = by (eqb b κ.address) (eqb b (κ.address + 1))
  where
    by : (x y : Bool) → (cond x (accepted (entering AwaitSubaddress c) false) (cond y (accepted (entering Sending c) false) (refused c))).stored ≡ false
    by true y = refl
    by false true = refl
    by false false = refl

pub subaddress_not_stored : (κ : Kind) (c : Chip) (b : ℕ) → (from_master κ AwaitSubaddress c b).stored ≡ false
unfolding from_master
subaddress_not_stored κ c b = by (ltb b κ.count)
  where
    by : (x : Bool) → (cond x (accepted (writing b c.registers) false) (refused c)).stored ≡ false
    by true = refl
    by false = refl

pub sent_not_stored : (n : ℕ) (p : Phase) (c : Chip) (more : Bool) → (to_master n p c more).stored ≡ false
unfolding to_master
sent_not_stored n Idle c more = refl
sent_not_stored n AwaitAddress c more = refl
sent_not_stored n AwaitSubaddress c more = refl
sent_not_stored n AwaitData c more = refl
sent_not_stored n Sending c more = refl

-- a byte is stored in a register that the chip has
pub stored-below : (κ : Kind) (p : Phase) (c : Chip) (b : ℕ) → (from_master κ p c b).stored ≡ true → c.pointer < κ.count
unfolding from_master
stored-below κ AwaitData c b s = by (ltb c.pointer κ.count) refl s
  where
    by : (x : Bool) → ltb c.pointer κ.count ≡ x → (from_master κ AwaitData c b).stored ≡ true → c.pointer < κ.count
    by true e h = ltb-true c.pointer κ.count e
    by false e h = absurd (false≢true (rw e at h))
stored-below κ Idle c b e = absurd (false≢true e)
stored-below κ AwaitAddress c b e = absurd (false≢true (sym (address_not_stored κ c b) ∙ e))
stored-below κ AwaitSubaddress c b e = absurd (false≢true (sym (subaddress_not_stored κ c b) ∙ e))
stored-below κ Sending c b e = absurd (false≢true e)

module _ (κ : Kind) where
  -- events one after the other
  pub known-append : (es fs : List Event) (c : Chip) (known : ℕ)
      → known_after κ c known (es ++ fs) ≡ known_after κ (run κ c es) (known_after κ c known es) fs
  unfolding known_after run
  known-append [] fs c known = refl
  known-append (e ∷ es) fs c known = known-append es fs (step κ c e).chip (known_by κ c known e)

  -- data and a stop make nothing known at an idle chip
  known_idle : (bs : List ℕ) (i : ℕ) (l : List ℕ) (known : ℕ) → known_after κ (idle i l) known (data_events bs) ≡ known
  unfolding known_after known_by step from_master
  known_idle [] i l known = refl
  known_idle (b ∷ bs) i l known = known_idle bs i l known

  -- data make known the registers that they are for, where the chip has these and they keep a byte
  known_data : (bs : List ℕ) (i : ℕ) (l : List ℕ) (known : ℕ)
      → ((x : ℕ) → i ≤ x → x < i + length bs → (x < κ.count) × (κ.keeps x ≡ true))
      → known_after κ (writing i l) known (data_events bs) ≡ marks known i (length bs)
  unfolding known_after known_by step from_master marks
  known_data [] i l known h = refl
  known_data (b ∷ bs) i l known h =
      let here = h i (omega arith) (omega arith) in
      let inside = lt-ltb i κ.count here.0 in
      let kept : (step κ (writing i l) (FromMaster b)).stored ≡ true = rw (inside, here.1) in
      ap₂ (λ d (x : ℕ). known_after κ d x (data_events bs)) (step_in κ i b l inside) (ap (λ (t : Bool). cond t (mark known i) known) kept)
      ∙ known_data bs (suc i) (store κ.keeps l i b) (mark known i) (λ x u v. h x (omega arith) (omega arith))

  -- start, an address and a subaddress make nothing known
  known_opened : (a i : ℕ) (es : List Event) (c d : Chip) (known : ℕ)
      → (step κ (step κ c Start).chip (FromMaster a)).chip ≡ d → (step κ d (FromMaster i)).stored ≡ false
      → known_after κ c known (Start ∷ FromMaster a ∷ FromMaster i ∷ es) ≡ known_after κ (opened κ c a i) known es
  unfolding known_after known_by step
  known_opened a i es c d known e f =
      let called = (step κ (step κ c Start).chip (FromMaster a)).chip in
      ap₂ (λ (x y : Bool).
      let k = cond x (mark known c.pointer) known in
      known_after κ (opened κ c a i) (cond y (mark k called.pointer) k) es)
      (address_not_stored κ (entering AwaitAddress c) a) (ap (λ k. (step κ k (FromMaster i)).stored) e ∙ f)

  -- a transaction makes known the registers that it touches
  known_transaction : (c : Chip) (known : ℕ) (t : Transaction) → Kept κ t
      → known_after κ c known (transaction_events κ.address t) ≡ marks known t.subaddress (size t)
  unfolding known_after known_by transaction_events step marks
  known_transaction c known t h =
      let i = t.subaddress in
      known_opened κ.address i (data_events t.bytes) c (entering AwaitSubaddress c) known (called κ c)
      (subaddress_not_stored κ (entering AwaitSubaddress c) i)
      ∙ by (ltb i κ.count) refl t.bytes h
    where
      by : (b : Bool) → ltb t.subaddress κ.count ≡ b → (bs : List ℕ) → Kept κ (record { subaddress = t.subaddress; bytes = bs })
          → known_after κ (opened κ c κ.address t.subaddress) known (data_events bs) ≡ marks known t.subaddress (length bs)
      by true e bs k =
          ap (λ d. known_after κ d known (data_events bs)) (opened_in κ c t.subaddress e)
          ∙ known_data bs t.subaddress c.registers known (λ x u v. k x (u, v))
      by false e [] k = refl
      by false e (b ∷ bs) k = absurd (omega (arith, ltb-false t.subaddress κ.count e, (k t.subaddress (omega arith, omega arith)).0))

  -- a list makes known the registers that it touches, as a number
  pub known-marks : (ts : List Transaction) (c : Chip) (known : ℕ) → Every (Kept κ) ts
      → known_after κ c known (list_events κ.address ts) ≡ marks_of known ts
  unfolding known_after list_events flat_map marks_of
  known-marks [] c known h = refl
  known-marks (t ∷ ts) c known h =
      let es = transaction_events κ.address t in
      known-append es (list_events κ.address ts) c known
      ∙ ap (λ (x : ℕ). known_after κ (run κ c es) x (list_events κ.address ts)) (known_transaction c known t h.0)
      ∙ known-marks ts (run κ c es) (marks known t.subaddress (size t)) h.1

  -- and register by register
  pub known-list : (ts : List Transaction) (c : Chip) (known : ℕ) → Every (Kept κ) ts → (r : ℕ)
      → has (known_after κ c known (list_events κ.address ts)) r ≡ (has known r || touched_by ts r)
  known-list ts c known h r = ap (λ (x : ℕ). has x r) (known-marks ts c known h) ∙ has-marks_of ts known r

  -- at an address that is not the chip's a list makes nothing known
  module _ (a : ℕ) (w : a ≢ κ.address) (r : a ≢ κ.address + 1) where
    nothing_known : (c : Chip) (known : ℕ) (t : Transaction) → known_after κ c known (transaction_events a t) ≡ known
    unfolding transaction_events step from_master
    nothing_known c known t =
        let i = t.subaddress in
        known_opened a i (data_events t.bytes) c (entering Idle c) known (not_called κ c a w r) refl
        ∙ ap (λ d. known_after κ d known (data_events t.bytes)) (opened_elsewhere κ c a i w r)
        ∙ known_idle t.bytes c.pointer c.registers known

    pub known-elsewhere : (ts : List Transaction) (c : Chip) (known : ℕ) → known_after κ c known (list_events a ts) ≡ known
    unfolding known_after list_events flat_map
    known-elsewhere [] c known = refl
    known-elsewhere (t ∷ ts) c known =
        let es = transaction_events a t in
        known-append es (list_events a ts) c known
        ∙ ap (λ (x : ℕ). known_after κ (run κ c es) x (list_events a ts)) (nothing_known c known t)
        ∙ known-elsewhere ts (run κ c es) known
