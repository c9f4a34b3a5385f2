-- Packing and unpacking are inverse: a plan is accepted with ts exactly when ts is well-formed and the plan is its packing. Assumes nothing.
use mathlib.Core.Path.{◌≡◌, refl, sym, ap, ap₂, ◌∙◌, subst, subst⁻¹}
use mathlib.Core.Bool.{Bool, true, false, cond, ◌&&◌}
use mathlib.Core.List.{List, [], ◌∷◌, ◌++◌, append_assoc}
use mathlib.Core.Logic.{◌↔◌}
use Prim.Native.Nat.{ℕ, ◌+◌, ◌-◌, ◌*◌, ◌/◌, ◌^◌, ◌≤◌, ◌<◌}
use native.Mathlib.Omega.{arith}
use lib.Dec.{T, leb, ltb, le→leb, lt→ltb, leb→le, ltb→lt}
use lib.ListN.{length, take, drop, get_or, replicate, take-append-drop, length-append}
use Rattle.bits.specs.Strings.{msb_first, byte_bits}
use Rattle.bits.specs.Bytes.{same_bytes}
use Rattle.bits.proofs.StringLaws.{msb_length}
use Rattle.bits.proofs.ByteLaws.{byte_bits-bytes_of}
use Rattle.bus.specs.Transactions.{Transaction, end}
use Rattle.refusals.specs.Refusal.{Judged, accepted, refused}
use Rattle.packing.specs.Packing.{packed, encodable, behind, arranged, well_formed_by, Packs}
use Rattle.packing.specs.Written.{list_bits, packed_bits}
use Rattle.packing.proofs.FillLaws.{filled-bytes}
use Rattle.unpacking.specs.Unpacking.{UnpacksBy, packs, packs_none, number, candidate, unpack_by, unpack}
use Rattle.bits.proofs.FlagLaws.{both, first, second, same_test, holds}
use Rattle.bits.proofs.SameLaws.{same_bytes_lem, same_self}
use Rattle.unpacking.proofs.Tests.{encodable_facts}
use Rattle.unpacking.proofs.FrontLaws.{number_front, rest_front, number_lt, number-bits}
use Rattle.unpacking.proofs.Reader.{valid, sound, complete}
use Rattle.bits.specs.Lists.{Every}

-- ---- what was packed

-- the bits of a packed plan: the transaction count, the transactions, fewer than eight zero bits
pub record PackedFrom (plan : List ℕ) (ts : List Transaction) : Type 0 where
  pub fill : ℕ
  pub few : fill < 8
  pub bits : byte_bits plan ≡ msb_first 6 (length ts) ++ (list_bits ts ++ replicate fill false)

pub packed-bits : (ts : List Transaction) → PackedFrom (packed ts) ts
unfolding packed packed_bits
packed-bits ts =
    record {
      fill = (length (packed_bits ts) + 7) / 8 * 8 - length (packed_bits ts);
      few = omega arith;
      bits = byte_bits-bytes_of (packed_bits ts) ∙ append_assoc (msb_first 6 (length ts)) (list_bits ts)
          (replicate ((length (packed_bits ts) + 7) / 8 * 8 - length (packed_bits ts)) false);
    }

-- next gives the first register that a transaction may start at, by the end of the one before it
module _ (next : ℕ → ℕ) where
  module _ (ts : List Transaction) (h : T (well_formed_by next ts)) where
    pub few-transactions : length ts < 64
    unfolding well_formed_by
    few-transactions = ltb→lt (length ts) 64 (first (ltb (length ts) 64) (arranged next 0 ts) h)

    pub in_order : T (arranged next 0 ts)
    unfolding well_formed_by
    in_order = second (ltb (length ts) 64) (arranged next 0 ts) h

    -- what the reader finds in the packed plan
    count-packed : number 6 (byte_bits (packed ts)) ≡ length ts
    count-packed =
        let p = packed-bits ts in
        ap (number 6) p.bits ∙ number_front 6 (length ts) (list_bits ts ++ replicate p.fill false) few-transactions

    rest-packed : drop 6 (byte_bits (packed ts)) ≡ list_bits ts ++ replicate (packed-bits ts).fill false
    rest-packed = let p = packed-bits ts in ap (drop 6) p.bits ∙ rest_front 6 (length ts) (list_bits ts ++ replicate p.fill false)

    candidate-packed : candidate (packed ts) ≡ ts
    candidate-packed = rw (count-packed, rest-packed) (complete next 0 ts (packed-bits ts).fill (packed-bits ts).few in_order).1

  -- unpacking what was packed gives the transactions again
  pub packed_unpacks : (ts : List Transaction) → T (well_formed_by next ts) → unpack_by next (packed ts) ≡ accepted ts
  unfolding unpack_by
  packed_unpacks ts h =
      let e = candidate-packed ts h in
      rw e (ap (λ (b : Bool). cond b (accepted ts) (refused 9))
      (holds (well_formed_by next ts && same_bytes (packed ts) (packed ts))
      (both (well_formed_by next ts) (same_bytes (packed ts) (packed ts)) h (subst⁻¹ T (same_self (packed ts)) tt))))

  -- packing what was unpacked gives the bytes again
  pub unpacks_packed : (plan : List ℕ) (ts : List Transaction) → unpack_by next plan ≡ accepted ts → Packs next plan ts
  unfolding unpack_by
  unpacks_packed plan ts e = go (well_formed_by next us && same_bytes plan (packed us)) refl e
    where
      us : List Transaction
      us = candidate plan

      go : (b : Bool) → well_formed_by next us && same_bytes plan (packed us) ≡ b → cond b (accepted us) (refused 9) ≡ accepted ts → T (well_formed_by next ts)
          × (plan ≡ packed ts)
      go true d f =
          let same-list : us ≡ ts = cc in
          let h = subst T (sym d) tt in
          subst (λ (l : List Transaction). T (well_formed_by next l) × (plan ≡ packed l)) same-list (
            first (well_formed_by next us) (same_bytes plan (packed us)) h,
            same_bytes_lem plan (packed us) (second (well_formed_by next us) (same_bytes plan (packed us)) h),
          )
      go false d f = absurd cc

  -- the two as one: a plan is accepted with ts exactly when ts is well-formed and the plan is its packing
  pub exact : (plan : List ℕ) (ts : List Transaction) → (unpack_by next plan ≡ accepted ts) ↔ Packs next plan ts
  exact plan ts = (unpacks_packed plan ts, λ h. ap (unpack_by next) h.1 ∙ packed_unpacks ts h.0)

  -- every refusal is 9
  pub refused_nine : (plan : List ℕ) (n : ℕ) → unpack_by next plan ≡ refused n → 9 ≡ n
  unfolding unpack_by
  refused_nine plan n e = go (well_formed_by next (candidate plan) && same_bytes plan (packed (candidate plan))) e
    where
      go : (b : Bool) → cond b (accepted (candidate plan)) (refused 9) ≡ refused n → 9 ≡ n
      go true f = absurd cc
      go false f = cc

  -- so unpacking answers what it should
  pub judges : (plan : List ℕ) → UnpacksBy next plan (unpack_by next plan)
  judges plan = go (unpack_by next plan) refl
    where
      go : (j : Judged (List Transaction)) → unpack_by next plan ≡ j → UnpacksBy next plan j
      go (accepted ts) e = packs (unpacks_packed plan ts e)
      go (refused n) e = subst (λ (m : ℕ). UnpacksBy next plan (refused m)) (refused_nine plan n e)
          (packs_none (λ ts h. never ts ((exact plan ts).1 h) e))
        where
          never : (ts : List Transaction) → unpack_by next plan ≡ accepted ts → unpack_by next plan ≡ refused n → ⊥
          never ts p q = cc

  -- and nothing else
  pub unique : (plan : List ℕ) (j : Judged (List Transaction)) → UnpacksBy next plan j → unpack_by next plan ≡ j
  unique plan j (packs {ts} h) = (exact plan ts).1 h
  unique plan j (packs_none f) = go (unpack_by next plan) refl
    where
      go : (i : Judged (List Transaction)) → unpack_by next plan ≡ i → unpack_by next plan ≡ refused 9
      go (accepted ts) e = absurd (f ts ((exact plan ts).0 e))
      go (refused n) e = e ∙ ap refused (sym (refused_nine plan n e))

  -- ---- the reader of the code

  -- the reader accepts the plan
  unfoldable pub valid_plan : List ℕ → Bool
  valid_plan plan = leb 6 (length (byte_bits plan)) && valid next (number 6 (byte_bits plan)) 0 (drop 6 (byte_bits plan))

  -- it accepts what was packed
  valid_packed : (ts : List Transaction) → T (well_formed_by next ts) → T (valid_plan (packed ts))
  unfolding valid_plan
  valid_packed ts h =
      let p = packed-bits ts in
      let long : 6 ≤ length (byte_bits (packed ts)) =
      subst (λ (l : List Bool). 6 ≤ length l) (sym p.bits)
      (omega (arith, length-append (msb_first 6 (length ts)) (list_bits ts ++ replicate p.fill false), msb_length 6 (length ts))) in
      both (leb 6 (length (byte_bits (packed ts)))) (valid next (number 6 (byte_bits (packed ts))) 0 (drop 6 (byte_bits (packed ts))))
      (le→leb 6 (length (byte_bits (packed ts))) long)
      (rw (count-packed ts h, rest-packed ts h) (complete next 0 ts p.fill p.few (in_order ts h)).0)

  -- and nothing else
  packed_valid : (plan : List ℕ) → ((i : ℕ) → get_or plan i 0 < 2 ^ 8) → T (valid_plan plan) → T (well_formed_by next (candidate plan))
      × (plan ≡ packed (candidate plan))
  unfolding valid_plan well_formed_by packed packed_bits
  packed_valid plan bytes h =
      let bs = byte_bits plan in
      let n = number 6 bs in
      let us = candidate plan in
      let h₁ = second (leb 6 (length bs)) (valid next n 0 (drop 6 bs)) h in
      let long : 6 ≤ length bs = leb→le 6 (length bs) (first (leb 6 (length bs)) (valid next n 0 (drop 6 bs)) h) in
      let s = sound next n 0 (drop 6 bs) h₁ in
      let front : msb_first 6 (length us) ≡ take 6 bs = ap (msb_first 6) s.count ∙ number-bits 6 bs long in
      let bits : bs ≡ (msb_first 6 (length us) ++ list_bits us) ++ replicate s.fill false =
      sym (take-append-drop 6 bs) ∙ ap₂ (λ (x y : List Bool). x ++ y) (sym front) s.bits
      ∙ sym (append_assoc (msb_first 6 (length us)) (list_bits us) (replicate s.fill false)) in (
        both (ltb (length us) 64) (arranged next 0 us) (lt→ltb (length us) 64 (subst (λ (m : ℕ). m < 64) (sym s.count) (number_lt 6 bs))) s.order,
        filled-bytes plan (msb_first 6 (length us) ++ list_bits us) s.fill bytes s.few bits,
      )

  -- so the reader's test is that of unpacking
  agree : (plan : List ℕ) → ((i : ℕ) → get_or plan i 0 < 2 ^ 8) → well_formed_by next (candidate plan) && same_bytes plan (packed (candidate plan)) ≡ valid_plan plan
  agree plan bytes = same_test (well_formed_by next us && same_bytes plan (packed us)) (valid_plan plan) to from
    where
      us : List Transaction
      us = candidate plan

      to : T (well_formed_by next us && same_bytes plan (packed us)) → T (valid_plan plan)
      to h = subst (λ (l : List ℕ). T (valid_plan l)) (sym (same_bytes_lem plan (packed us) (second (well_formed_by next us) (same_bytes plan (packed us)) h)))
          (valid_packed us (first (well_formed_by next us) (same_bytes plan (packed us)) h))

      from : T (valid_plan plan) → T (well_formed_by next us && same_bytes plan (packed us))
      from h =
          let p = packed_valid plan bytes h in
          both (well_formed_by next us) (same_bytes plan (packed us)) p.0 (subst (λ (l : List ℕ). T (same_bytes plan l)) p.1 (subst⁻¹ T (same_self plan) tt))

  -- what the reader finds is what unpacking answers
  pub read_plan : (plan : List ℕ) → ((i : ℕ) → get_or plan i 0 < 2 ^ 8) → unpack_by next plan ≡ cond (valid_plan plan) (accepted (candidate plan)) (refused 9)
  unfolding unpack_by
  read_plan plan bytes = ap (λ (b : Bool). cond b (accepted (candidate plan)) (refused 9)) (agree plan bytes)

-- ascending transactions that lie in so many registers are no more than those
few-within : (registers free : ℕ) (ts : List Transaction) → free ≤ registers → T (arranged behind free ts) → Every (λ t. end t ≤ registers) ts
    → length ts + free ≤ registers
unfolding arranged
few-within registers free [] h o e = omega arith
few-within registers free (t ∷ ts) h o e =
    let o₁ = second (leb free t.subaddress) (encodable t && arranged behind (end t) ts) o in
    let s = encodable_facts t (first (encodable t) (arranged behind (end t) ts) o₁) in
    omega (
      arith,
      s.some,
      leb→le free t.subaddress (first (leb free t.subaddress) (encodable t && arranged behind (end t) ts) o),
      few-within registers (end t) ts e.0 (second (encodable t) (arranged behind (end t) ts) o₁) e.1,
    )

-- for every register count up to 63: ascending transactions in those registers come back from their packing, and whatever unpacks to them is it
pub round_trip : (registers : ℕ) → registers ≤ 63 → (ts : List Transaction) → T (arranged behind 0 ts) → Every (λ t. end t ≤ registers) ts
    → (unpack (packed ts) ≡ accepted ts) × ((plan : List ℕ) → unpack plan ≡ accepted ts → packed ts ≡ plan)
unfolding well_formed_by
round_trip registers h ts o e = (
  packed_unpacks behind ts (both (ltb (length ts) 64) (arranged behind 0 ts)
      (lt→ltb (length ts) 64 (omega (arith, few-within registers 0 ts (omega arith) o e))) o),
  λ plan p. sym (unpacks_packed behind plan ts p).1,
)
