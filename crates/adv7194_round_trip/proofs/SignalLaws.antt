-- Field 11 of an image: what is read is coded as the codes that the image holds, and an image that has a setting's codes holds them. Assumes nothing.
use mathlib.Core.Path.{◌≡◌, refl, sym, ap, ◌∙◌, subst}
use mathlib.Core.Bool.{Bool, true, false, cond}
use mathlib.Core.Logic.{◌⊎◌, inl, inr}
use mathlib.Core.List.{List, [], ◌∷◌}
use Prim.Native.Nat.{ℕ, ◌<◌}
use native.Mathlib.Omega.{arith}
use lib.Dec.{T, eqb}
use lib.IntN.{ℤ}
use lib.ListN.{length, get_or}
use borrow.Author.Tests.{eqb-true, eq-eqb}
use Rattle.bits.specs.Fields.{field}
use Rattle.refusals.specs.Refusal.{accepted}
use Rattle.adv7194_signalling.specs.Signalling.{signalling_codes, signalling_conflict, no_signalling, signalling_held, held_conflict}
use Rattle.adv7194_signalling.proofs.SettingLaws.{Three, coded_bytes, held_back, coded_back, off_back, off_free}

-- the codes that three bytes hold: none where bits 7-4 of the first are zero, as under off
abbrev pub signal_codes : List ℕ → List ℕ
signal_codes bytes = cond (eqb (field 4 4 (get_or bytes 0 0)) 0) [] bytes

-- off is coded as nothing
off_coded : (ns : List ℤ) → no_signalling ≡ ns → signalling_codes ns ≡ accepted []
unfolding signalling_codes
off_coded ns e = ap signalling_codes (sym e)

-- ---- what is read

-- is coded as those
pub read_codes : (bytes : List ℕ) (ns : List ℤ) → get_or bytes 0 0 < 256 → signalling_held bytes ≡ accepted ns
    → signalling_codes ns ≡ accepted (signal_codes bytes)
read_codes bytes ns small e = by (eqb (field 4 4 (get_or bytes 0 0)) 0) refl (held_back bytes small ns e)
  where
    by : (t : Bool) → eqb (field 4 4 (get_or bytes 0 0)) 0 ≡ t
        → (signalling_codes ns ≡ accepted bytes) ⊎ ((ns ≡ no_signalling) × (field 4 4 (get_or bytes 0 0) ≡ 0))
        → signalling_codes ns ≡ accepted (cond t [] bytes)
    by true p h =
        let o = off_back bytes small (eqb-true (field 4 4 (get_or bytes 0 0)) 0 p) in
        let q : no_signalling ≡ ns = cc in
        off_coded ns q
    by false p (inl h) = h
    by false p (inr h) = absurd (subst T (sym (eq-eqb (field 4 4 (get_or bytes 0 0)) 0 h.1) ∙ p) tt)

-- ---- what was coded

-- three bytes have the codes of a setting: off sets bits 7-4 of the first
abbrev pub Has : List ℕ → List ℕ → Type 0
Has bytes [] = field 4 4 (get_or bytes 0 0) ≡ 0
Has bytes (c ∷ cs) = length (c ∷ cs) ≡ 3 → bytes ≡ c ∷ cs

-- they hold them, are read, and go with the standard
pub record SignalBack (standard : ℤ) (cs bytes : List ℕ) : Type 0 where
  pub held : signal_codes bytes ≡ cs
  pub read : (ns : List ℤ) × (signalling_held bytes ≡ accepted ns)
  pub free : held_conflict standard bytes ≡ false

-- bytes that are a setting's codes
sent_back : (standard : ℤ) (zs : List ℤ) (c : ℕ) (cs : List ℕ) → signalling_codes zs ≡ accepted (c ∷ cs) → signalling_conflict standard zs ≡ false → c < 256
    → SignalBack standard (c ∷ cs) (c ∷ cs)
sent_back standard zs c cs e free small =
    let b = coded_back standard zs c cs e free in
    record { held = by (eqb (field 4 4 c) 0) refl b.numbers b.reads b.coded; read = (b.numbers, b.reads); free = b.free }
  where
    by : (t : Bool) → eqb (field 4 4 c) 0 ≡ t → (ns : List ℤ) → signalling_held (c ∷ cs) ≡ accepted ns → signalling_codes ns ≡ accepted (c ∷ cs)
        → cond t [] (c ∷ cs) ≡ c ∷ cs
    by true p ns r h =
        let o = off_back (c ∷ cs) small (eqb-true (field 4 4 c) 0 p) in
        let q : no_signalling ≡ ns = cc in
        let n = off_coded ns q in
        let x : ◌≡◌ {A = ℕ} 0 1 = cc in
        absurd (omega arith)
    by false p ns r h = refl

-- bytes that have them
pub signal_back : (standard : ℤ) (zs : List ℤ) (cs bytes : List ℕ) → signalling_codes zs ≡ accepted cs → signalling_conflict standard zs ≡ false
    → get_or bytes 0 0 < 256 → Has bytes cs → SignalBack standard cs bytes
signal_back standard zs [] bytes e free small h =
    record {
      held = ap (λ t. cond t [] bytes) (eq-eqb (field 4 4 (get_or bytes 0 0)) 0 h);
      read = (no_signalling, off_back bytes small h);
      free = off_free bytes small h standard;
    }
signal_back standard zs (c ∷ cs) bytes e free small h = by (coded_bytes zs (c ∷ cs) e)
  where
    by : (c ∷ cs ≡ []) ⊎ Three (c ∷ cs) → SignalBack standard (c ∷ cs) bytes
    by (inl p) = let x : ◌≡◌ {A = ℕ} 0 1 = cc in absurd (omega arith)
    by (inr t) =
        let same : c ∷ cs ≡ bytes = sym (h (ap length t.same)) in
        let first : get_or bytes 0 0 ≡ c = ap (λ l. get_or l 0 0) (sym same) in
        subst (SignalBack standard (c ∷ cs)) same (sent_back standard zs c cs e free (omega arith))
