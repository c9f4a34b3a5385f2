-- A reader of bit strings that stops at the first fault, and what it accepts: exactly the bits of transactions, with zero bits after them.
-- The code runs this reader. Assumes nothing.
use mathlib.Core.Path.{◌≡◌, refl, sym, ap, ap₂, ◌∙◌, subst}
use mathlib.Core.Bool.{Bool, false, ◌&&◌}
use mathlib.Core.List.{List, [], ◌∷◌, ◌++◌, append_assoc, flat_map}
use Prim.Native.Nat.{ℕ, zero, suc, ◌+◌, ◌*◌, ◌≤◌, ◌<◌}
use native.Mathlib.Omega.{arith}
use lib.Dec.{T, leb, ltb, eqb, leb→le, le→leb, ltb→lt, lt→ltb, eqb→eq}
use lib.ListN.{length, take, drop, replicate, length-append, length-drop, length-replicate, take-append-drop}
use lib.Pow.{pow_pos}
use lib.Seq.{drop-drop, length-take-le}
use Rattle.bits.specs.Strings.{msb_first, msb_value, byte_bits, bytes_of}
use Rattle.bits.proofs.StringLaws.{msb_value_lem, msb_bits}
use Rattle.bits.proofs.ByteLaws.{byte_bits-length, bytes_of-length, bytes_of_lt}
use Rattle.bus.specs.Transactions.{Transaction, size, end}
use Rattle.packing.specs.Packing.{transaction_bits, encodable, arranged}
use Rattle.packing.specs.Written.{list_bits}
use Rattle.packing.proofs.FillLaws.{msb_zero}
use Rattle.packing.proofs.PackedLaws.{transaction_bits-length}
use Rattle.unpacking.specs.Unpacking.{number, named}
use Rattle.unpacking.specs.Steps.{filling, subaddress_in, count_in, past_first, in_front}
use Rattle.bits.proofs.FlagLaws.{both, first, second}
use Rattle.unpacking.proofs.Tests.{Encodable, encodable_facts, encodable_from}
use Rattle.unpacking.proofs.FrontLaws.{number_lt, number-bits, subaddress_front, count_front, data_front, bytes_front, past_front, whole-bytes}

-- ---- the transaction in front

-- what it has
pub record Front (free : ℕ) (bs : List Bool) : Type 0 where
  pub long : 12 ≤ length bs
  pub some : 0 < count_in bs
  pub from : free ≤ subaddress_in bs
  pub held : count_in bs * 8 ≤ length (drop 12 bs)

module _ (free : ℕ) (bs : List Bool) where
  pub front_facts : T (in_front free bs) → Front free bs
  front_facts h =
      let a = subaddress_in bs in
      let k = count_in bs in
      let held = leb (k * 8) (length (drop 12 bs)) in
      let h₁ = second (leb 12 (length bs)) (ltb 0 k && (leb free a && held)) h in
      let h₂ = second (ltb 0 k) (leb free a && held) h₁ in
      record {
        long = leb→le 12 (length bs) (first (leb 12 (length bs)) (ltb 0 k && (leb free a && held)) h);
        some = ltb→lt 0 k (first (ltb 0 k) (leb free a && held) h₁);
        from = leb→le free a (first (leb free a) held h₂);
        held = leb→le (k * 8) (length (drop 12 bs)) (second (leb free a) held h₂);
      }

  -- and what makes one
  pub front_from : Front free bs → T (in_front free bs)
  front_from s =
      let a = subaddress_in bs in
      let k = count_in bs in
      let held = leb (k * 8) (length (drop 12 bs)) in
      both (leb 12 (length bs)) (ltb 0 k && (leb free a && held)) (le→leb 12 (length bs) s.long)
      (both (ltb 0 k) (leb free a && held) (lt→ltb 0 k s.some)
      (both (leb free a) held (le→leb free a s.from) (le→leb (k * 8) (length (drop 12 bs)) s.held)))

-- ---- the reader

-- clear bits are those whose number is 0
clear : (bs : List Bool) → msb_value bs ≡ 0 → bs ≡ replicate (length bs) false
clear bs e = sym (msb_bits bs) ∙ ap (msb_first (length bs)) e ∙ msb_zero (length bs)

clear-value : (n : ℕ) → msb_value (replicate n false) ≡ 0
clear-value n = ap msb_value (sym (msb_zero n)) ∙ msb_value_lem n 0 (pow_pos n)

-- the transaction that the bits name
abbrev head : List Bool → Transaction
head bs = record { subaddress = number 6 bs; bytes = bytes_of (take (number 6 (drop 6 bs) * 8) (drop 12 bs)) }

module _ (bs : List Bool) (long : 12 ≤ length bs) (data-long : number 6 (drop 6 bs) * 8 ≤ length (drop 12 bs)) where
  -- its data are as many as the count says
  head_size : size (head bs) ≡ number 6 (drop 6 bs)
  head_size = bytes_of-length (take (number 6 (drop 6 bs) * 8) (drop 12 bs)) ∙ omega (arith, length-take-le (number 6 (drop 6 bs) * 8) (drop 12 bs) data-long)

  -- its bits stand in front
  head_bits : transaction_bits (head bs) ++ drop (number 6 (drop 6 bs) * 8) (drop 12 bs) ≡ bs
  unfolding transaction_bits
  head_bits =
      let n = number 6 (drop 6 bs) in
      let ds = take (n * 8) (drop 12 bs) in
      let six : msb_first 6 (size (head bs)) ≡ take 6 (drop 6 bs) = ap (msb_first 6) head_size ∙ number-bits 6 (drop 6 bs) (omega (arith, length-drop 6 bs)) in
      let all : byte_bits (bytes_of ds) ≡ ds = whole-bytes n ds (length-take-le (n * 8) (drop 12 bs) data-long) in
      let rest = drop (n * 8) (drop 12 bs) in
      ap₂ (λ (x y : List Bool). (x ++ y) ++ rest) (number-bits 6 bs (omega arith)) (ap₂ (λ (x y : List Bool). x ++ y) six all)
      ∙ append_assoc (take 6 bs) (take 6 (drop 6 bs) ++ ds) rest
      ∙ ap (λ (l : List Bool). take 6 bs ++ l) (append_assoc (take 6 (drop 6 bs)) ds rest
      ∙ ap (λ (l : List Bool). take 6 (drop 6 bs) ++ l) (take-append-drop (n * 8) (drop 12 bs) ∙ sym (drop-drop 6 6 bs))
      ∙ take-append-drop 6 (drop 6 bs))
      ∙ take-append-drop 6 bs

-- next gives the first register that a transaction may start at, by the end of the one before it
module _ (next : ℕ → ℕ) where
  -- n transactions from the register free on, and the filling
  unfoldable pub valid : ℕ → ℕ → List Bool → Bool
  valid zero free bs = filling bs
  valid (suc n) free bs = in_front free bs && valid n (next (subaddress_in bs + count_in bs)) (past_first bs)

  -- ---- what it accepts

  -- the bit string is n transactions from the register free on, and fewer than eight zero bits
  pub record Holds (n free : ℕ) (bs : List Bool) (ts : List Transaction) : Type 0 where
    pub count : length ts ≡ n
    pub order : T (arranged next free ts)
    pub fill : ℕ
    pub few : fill < 8
    pub bits : bs ≡ list_bits ts ++ replicate fill false

  -- what the reader accepts holds the transactions that it names
  pub sound : (n free : ℕ) (bs : List Bool) → T (valid n free bs) → Holds n free bs (named n bs)
  unfolding valid named flat_map arranged
  sound zero free bs h =
      record {
        count = refl;
        order = tt;
        fill = length bs;
        few = ltb→lt (length bs) 8 (first (ltb (length bs) 8) (eqb (msb_value bs) 0) h);
        bits = clear bs (eqb→eq (msb_value bs) 0 (second (ltb (length bs) 8) (eqb (msb_value bs) 0) h));
      }
  sound (suc n) free bs h =
      let a = number 6 bs in
      let k = number 6 (drop 6 bs) in
      let rest = drop (k * 8) (drop 12 bs) in
      let m = valid n (next (a + k)) rest in
      let s = front_facts free bs (first (in_front free bs) m h) in
      let ih = sound n (next (a + k)) rest (second (in_front free bs) m h) in
      let e = head_size bs s.long s.held in
      record {
        count = ap suc ih.count;
        order = both (leb free a) (encodable (head bs) && arranged next (next (end (head bs))) (named n rest)) (le→leb free a s.from)
            (both (encodable (head bs)) (arranged next (next (end (head bs))) (named n rest))
            (encodable_from (head bs) (record {
              subaddress = number_lt 6 bs;
              some = subst (λ (x : ℕ). 0 < x) (sym e) s.some;
              count =
                  subst (λ (x : ℕ). x < 64) (sym e) (number_lt 6 (drop 6 bs));
              bytes = bytes_of_lt (take (k * 8) (drop 12 bs));
            }))
            (subst (λ (x : ℕ). T (arranged next (next (a + x)) (named n rest))) (sym e) ih.order));
        fill = ih.fill;
        few = ih.few;
        bits = sym (head_bits bs s.long s.held) ∙ ap (λ (l : List Bool). transaction_bits (head bs) ++ l) ih.bits
            ∙ sym (append_assoc (transaction_bits (head bs)) (list_bits (named n rest)) (replicate ih.fill false));
      }

-- ---- what it doesn't refuse

module _ (t : Transaction) (rest : List Bool) (s : Encodable t) where
  -- a transaction in front is accepted where what follows it is
  valid_step : (next : ℕ → ℕ) (n free : ℕ) → free ≤ t.subaddress → T (valid next n (next (end t)) rest)
      → T (valid next (suc n) free (transaction_bits t ++ rest))
  unfolding valid
  valid_step next n free h more =
      let bs = transaction_bits t ++ rest in
      let ds = byte_bits t.bytes ++ rest in
      let held : size t * 8 ≤ length ds = omega (arith, length-append (byte_bits t.bytes) rest, byte_bits-length t.bytes) in
      both (in_front free bs) (valid next n (next (subaddress_in bs + count_in bs)) (past_first bs))
      (front_from free bs
      (record {
        long = omega (arith, length-append (transaction_bits t) rest, transaction_bits-length t);
        some = rw (count_front t rest s) s.some;
        from = rw (subaddress_front t rest s) h;
        held = rw (count_front t rest s, data_front t rest) held;
      }))
      (rw (subaddress_front t rest s, count_front t rest s, data_front t rest, past_front t rest) more)

  -- and is named
  named_step : (n : ℕ) → named (suc n) (transaction_bits t ++ rest) ≡ t ∷ named n rest
  unfolding named
  named_step n = rw (subaddress_front t rest s, count_front t rest s, data_front t rest, bytes_front t rest s, past_front t rest)

-- zero bits alone are accepted
filling_valid : (next : ℕ → ℕ) (free fill : ℕ) → fill < 8 → T (valid next 0 free (replicate fill false))
unfolding valid
filling_valid next free fill few =
    let zs = replicate fill false in
    both (ltb (length zs) 8) (eqb (msb_value zs) 0) (lt→ltb (length zs) 8 (omega (arith, length-replicate fill false))) (rw (clear-value fill) tt)

named_none : (bs : List Bool) → named 0 bs ≡ []
unfolding named
named_none bs = refl

-- the bits of transactions, and zero bits after them, are accepted, and the transactions named
pub complete : (next : ℕ → ℕ) (free : ℕ) (ts : List Transaction) (fill : ℕ) → fill < 8 → T (arranged next free ts)
    → T (valid next (length ts) free (list_bits ts ++ replicate fill false)) × (named (length ts) (list_bits ts ++ replicate fill false) ≡ ts)
unfolding arranged flat_map
complete next free [] fill few h = (filling_valid next free fill few, named_none (replicate fill false))
complete next free (t ∷ ts) fill few h =
    let h₁ = second (leb free t.subaddress) (encodable t && arranged next (next (end t)) ts) h in
    let s = encodable_facts t (first (encodable t) (arranged next (next (end t)) ts) h₁) in
    let rest = list_bits ts ++ replicate fill false in
    let ih = complete next (next (end t)) ts fill few (second (encodable t) (arranged next (next (end t)) ts) h₁) in
    let from : free ≤ t.subaddress = leb→le free t.subaddress (first (leb free t.subaddress) (encodable t && arranged next (next (end t)) ts) h) in
    rw (append_assoc (transaction_bits t) (list_bits ts) (replicate fill false))
    (valid_step t rest s next (length ts) free from ih.0, named_step t rest s (length ts) ∙ ap (λ (l : List Transaction). t ∷ l) ih.1)

-- as many are named as are asked for
pub named-length : (n : ℕ) (bs : List Bool) → length (named n bs) ≡ n
unfolding named
named-length zero bs = refl
named-length (suc n) bs = ap suc (named-length n (drop (number 6 (drop 6 bs) * 8) (drop 12 bs)))
