-- What was put: one string after another, into a part of a plan, and the last byte. Assumes nothing.
use mathlib.Core.Path.{◌≡◌, refl, sym, ap, ap₂, ◌∙◌, subst}
use mathlib.Core.Bool.{Bool, false}
use mathlib.Core.List.{List, [], ◌∷◌, ◌++◌, append_assoc, append-nil}
use Prim.Native.Nat.{ℕ, suc, ◌+◌, ◌-◌, ◌*◌, ◌/◌, ◌%◌, ◌^◌, ◌≤◌, ◌<◌}
use native.Mathlib.Nat.{add-zero, add_comm, mod-lt, mod-eq_of_lt}
use native.Mathlib.Omega.{arith}
use lib.Arith.{digits_lt}
use lib.ListN.{length, take, drop, set, get_or, replicate, length-append, length-drop, length-set, take-append-drop, drop_of_length-le}
use lib.Pow.{pow_pos, pow-add, pow_mono, shr_lt, split, low, field, mod-mod-pow}
use lib.Seq.{sets, drop-set-lt, drop-drop, take_all, take-append-add, drop-append-add, length-take-le}
use borrow.Rule.Slice.PartMut.{put_mid}
use Rattle.bits.specs.Strings.{msb_first, byte_bits, bytes_of}
use Rattle.bits.proofs.StringLaws.{msb_length, msb_cat, msb_cut}
use Rattle.bits.proofs.ByteLaws.{byte_bits-append, byte_bits-length, stored, bytes_of-length}
use Rattle.shifting.specs.Shifted.{between, shifted, last_from}
use Rattle.bus.specs.Transactions.{Transaction}
use Rattle.packing.proofs.FillLaws.{msb_zero, take-bytes, filled-bytes}
use Rattle.packing.specs.declared.Pending.{Pending}
use Rattle.packing.specs.Packing.{packed}
use Rattle.packing.specs.Written.{list_bits, packed_bits, Sound, Room, Put, written, finished_with}

-- ---- one string after another

-- a plan that begins: its first number is pending
pub begun : (plan : List ℕ) (n : ℕ) → n < 64 → Sound (record { at = 0; count = 6; bits = n })
    × (written plan (record { at = 0; count = 6; bits = n }) ≡ msb_first 6 n)
unfolding byte_bits
begun plan n h = (record { few = omega arith; low = h }, refl)

-- nothing was put
pub put-none : (plan : List ℕ) (p : Pending) → Sound p → Put plan plan p [] p
put-none plan p h = record { sound = h; wrote = sym (append-nil (written plan p)); past = refl; more = omega arith }

-- what is the same from k on is the same from further on
drop_further : (a b : List ℕ) (k n : ℕ) → k ≤ n → drop k a ≡ drop k b → drop n a ≡ drop n b
drop_further a b k n h e =
    let on : k + (n - k) ≡ n = omega arith in
    ap (λ (m : ℕ). drop m a) (sym on) ∙ sym (drop-drop (n - k) k a) ∙ ap (drop (n - k)) e ∙ drop-drop (n - k) k b ∙ ap (λ (m : ℕ). drop m b) on

-- two strings, one after the other
pub put_then : {a b c : List ℕ} {p q r : Pending} {xs ys : List Bool} → Put a b p xs q → Put b c q ys r → Put a c p (xs ++ ys) r
put_then {a} {b} {c} {p} {q} {r} {xs} {ys} h k =
    record {
      sound = k.sound;
      wrote = k.wrote ∙ ap (λ (l : List Bool). l ++ ys) h.wrote ∙ append_assoc (written a p) xs ys;
      past = k.past ∙ drop_further b a q.at r.at (omega (arith, h.sound.few, k.more)) h.past;
      more = omega (arith, h.more, k.more, length-append xs ys);
    }

-- ---- into a part of a plan

-- what was put into the part of a plan from p's full bytes on, holds of the whole plan
pub put_part : (plan last : List ℕ) (p r : Pending) (bs : List Bool) → p.at ≤ length plan
    → Put (take (length plan - p.at) (drop p.at plan)) last (record { at = 0; count = p.count; bits = p.bits }) bs r
    → Put plan (put_mid p.at (length plan - p.at) plan last) p bs (record { at = p.at + r.at; count = r.count; bits = r.bits })
unfolding byte_bits
put_part plan last p r bs h k =
    let whole : take (length plan - p.at) (drop p.at plan) ≡ drop p.at plan =
    take_all (length plan - p.at) (drop p.at plan) (simp length-drop (omega arith)) in
    let none : drop (length plan - p.at) (drop p.at plan) ≡ [] =
    drop_of_length-le (drop p.at plan) {i = length plan - p.at} (simp length-drop (omega arith)) in
    let all : put_mid p.at (length plan - p.at) plan last ≡ take p.at plan ++ last = simp (none, append-nil) in
    let front : length (take p.at plan) ≡ p.at = length-take-le p.at plan h in
    let taken : take (p.at + r.at) (take p.at plan ++ last) ≡ take p.at plan ++ take r.at last =
    ap (λ (n : ℕ). take (n + r.at) (take p.at plan ++ last)) (sym front) ∙ take-append-add (take p.at plan) last r.at in
    let left : drop (p.at + r.at) (take p.at plan ++ last) ≡ drop r.at last =
    ap (λ (n : ℕ). drop (n + r.at) (take p.at plan ++ last)) (sym front) ∙ drop-append-add (take p.at plan) last r.at in
    let full = byte_bits (take p.at plan) in
    let pend = msb_first p.count p.bits in
    rw all
    (record {
      sound = record { few = k.sound.few; low = k.sound.low };
      wrote = ap (λ (l : List ℕ). byte_bits l ++ msb_first r.count r.bits) taken
          ∙ ap (λ (l : List Bool). l ++ msb_first r.count r.bits) (byte_bits-append (take p.at plan) (take r.at last))
          ∙ append_assoc full (byte_bits (take r.at last)) (msb_first r.count r.bits)
          ∙ ap (λ (l : List Bool). full ++ l) k.wrote
          ∙ sym (append_assoc full pend bs);
      past = left ∙ k.past ∙ ap (drop r.at) whole ∙ drop-drop r.at p.at plan;
      more = omega (arith, k.more);
    })

-- ---- one number

-- pending bits and w bits more are a number of that many bits
pub joined-lt : (n w : ℕ) {a v : ℕ} → a < 2 ^ n → v < 2 ^ w → a * 2 ^ w + v < 2 ^ (n + w)
joined-lt n w {a} {v} ha hv = subst (λ (x : ℕ). a * 2 ^ w + v < x) (sym (pow-add 2 n w)) (digits_lt ha hv)

-- and fit two bytes
pub joined-fits : (p : Pending) (w v : ℕ) → Sound p → w ≤ 8 → v < 2 ^ w → p.bits * 2 ^ w + v < 2 ^ 16
joined-fits p w v s hw hv = omega (arith, joined-lt p.count w s.low hv, pow_mono {i = p.count + w} {j = 16} (omega (arith, s.few)))

-- fewer than eight bits are pending
pub put_pending : (plan : List ℕ) (p : Pending) (w v : ℕ) → Sound p → v < 2 ^ w → p.count + w < 8
    → Put plan plan p (msb_first w v) (record { at = p.at; count = p.count + w; bits = p.bits * 2 ^ w + v })
put_pending plan p w v s hv few =
    record {
      sound = record { few = few; low = joined-lt p.count w s.low hv };
      wrote = ap (λ (l : List Bool). byte_bits (take p.at plan) ++ l) (msb_cat p.count w p.bits v hv)
          ∙ sym (append_assoc (byte_bits (take p.at plan)) (msb_first p.count p.bits) (msb_first w v));
      past = refl;
      more = omega (arith, msb_length w v);
    }

-- the byte that is full is one
pub full_lt : (p : Pending) (w v : ℕ) → Sound p → v < 2 ^ w → 8 ≤ p.count + w → (p.bits * 2 ^ w + v) / 2 ^ (p.count + w - 8) < 2 ^ 8
full_lt p w v s hv h =
    let r = p.count + w - 8 in
    let e : p.count + w ≡ 8 + r = omega arith in
    shr_lt 8 r (subst (λ (k : ℕ). p.bits * 2 ^ w + v < 2 ^ k) e (joined-lt p.count w s.low hv))

-- a byte is full
pub put_full : (plan : List ℕ) (p : Pending) (w v : ℕ) → Sound p → w ≤ 8 → v < 2 ^ w → 8 ≤ p.count + w → p.at < length plan
    → Put plan (set plan p.at ((p.bits * 2 ^ w + v) / 2 ^ (p.count + w - 8))) p (msb_first w v)
    (record { at = p.at + 1; count = p.count + w - 8; bits = (p.bits * 2 ^ w + v) % 2 ^ (p.count + w - 8) })
put_full plan p w v s hw hv h room =
    let r = p.count + w - 8 in
    let e : p.count + w ≡ 8 + r = omega arith in
    let x = p.bits * 2 ^ w + v in
    let full = byte_bits (take p.at plan) in
    record {
      sound = record { few = omega (arith, s.few); low = mod-lt x (pow_pos r) };
      wrote = ap (λ (l : List Bool). l ++ msb_first r (x % 2 ^ r)) (stored plan p.at (x / 2 ^ r) room)
          ∙ append_assoc full (msb_first 8 (x / 2 ^ r)) (msb_first r (x % 2 ^ r))
          ∙ ap (λ (l : List Bool). full ++ l) (sym (msb_cut p.count w 8 r p.bits v e hv))
          ∙ sym (append_assoc full (msb_first p.count p.bits) (msb_first w v));
      past = drop-set-lt (p.at + 1) plan p.at (x / 2 ^ r) (omega arith);
      more = omega (arith, msb_length w v);
    }

-- ---- bytes

-- bits above the n pending do not count in the byte that these and a byte after them fill
byte_cut : (n before v : ℕ) → v < 2 ^ 8 → (before % 2 ^ n * 2 ^ 8 + v) / 2 ^ n ≡ (before * 0x100 + v) / 2 ^ n % 0x100
byte_cut n before v h =
    let a = before / 2 ^ n in
    let x = before % 2 ^ n * 2 ^ 8 + v in
    let fits : x < 2 ^ (8 + n) = subst (λ (k : ℕ). x < 2 ^ k) (add_comm n 8) (joined-lt n 8 (mod-lt before (pow_pos n)) h) in
    let whole : a * 2 ^ (8 + n) + x ≡ before * 0x100 + v = omega (arith, ap (λ (k : ℕ). a * k) (pow-add 2 8 n), split before n) in
    ap (λ (y : ℕ). y / 2 ^ n) (sym (low a (8 + n) fits)) ∙ ap (λ (y : ℕ). y % 2 ^ (8 + n) / 2 ^ n) whole ∙ field (before * 0x100 + v) 8 n

-- nor do those before a byte in what it leaves
byte_left : (n a v : ℕ) → n < 8 → v < 2 ^ 8 → (a * 2 ^ 8 + v) % 2 ^ n ≡ v % 2 ^ n
byte_left n a v few h =
    let x = a * 2 ^ 8 + v in
    let e : 8 - n + n ≡ 8 = omega arith in
    sym (mod-mod-pow x (8 - n) n) ∙ ap (λ (k : ℕ). x % 2 ^ k % 2 ^ n) e ∙ ap (λ (y : ℕ). y % 2 ^ n) (low a 8 h)

-- a byte: the pending bits are the lowest of a number before it
put_byte : (plan : List ℕ) (at count before v : ℕ) → count < 8 → v < 2 ^ 8 → at < length plan
    → Put plan (set plan at (between count before v)) (record { at = at; count = count; bits = before % 2 ^ count }) (msb_first 8 v)
    (record { at = at + 1; count = count; bits = v % 2 ^ count })
put_byte plan at count before v few h room =
    let x = before % 2 ^ count * 2 ^ 8 + v in
    let p : Pending = record { at = at; count = count; bits = before % 2 ^ count } in
    let e : count + 8 - 8 ≡ count = omega arith in
    let byte : x / 2 ^ (count + 8 - 8) ≡ between count before v = cc (byte_cut count before v h) in
    let next : ◌≡◌ {A = Pending} (record { at = at + 1; count = count + 8 - 8; bits = x % 2 ^ (count + 8 - 8) })
    (record { at = at + 1; count = count; bits = v % 2 ^ count }) =
    cc (byte_left count (before % 2 ^ count) v few h) in
    subst (λ (y : ℕ). Put plan (set plan at y) p (msb_first 8 v) (record { at = at + 1; count = count; bits = v % 2 ^ count })) byte
    (subst (λ (r : Pending). Put plan (set plan at (x / 2 ^ (count + 8 - 8))) p (msb_first 8 v) r) next
    (put_full plan p 8 v (record { few = few; low = mod-lt before (pow_pos count) }) (omega arith) h (omega arith) room))

-- bytes, one after the other, each shifted by the pending bits
pub put_all : (bytes plan : List ℕ) (at count before : ℕ) → count < 8 → ((k : ℕ) → get_or bytes k 0 < 2 ^ 8) → at + length bytes ≤ length plan
    → Put plan (sets plan at (shifted count before bytes)) (record { at = at; count = count; bits = before % 2 ^ count }) (byte_bits bytes)
    (record { at = at + length bytes; count = count; bits = last_from before bytes % 2 ^ count })
unfolding shifted byte_bits
put_all [] plan at count before few h room =
    let p : Pending = record { at = at; count = count; bits = before % 2 ^ count } in
    subst (λ (k : ℕ). Put plan plan p [] (record { at = k; count = count; bits = before % 2 ^ count })) (sym (add-zero at))
    (put-none plan p (record { few = few; low = mod-lt before (pow_pos count) }))
put_all (b ∷ bs) plan at count before few h room =
    let after = set plan at (between count before b) in
    let one : at + 1 ≡ suc at = omega arith in
    let all : at + 1 + length bs ≡ at + suc (length bs) = omega arith in
    put_then (put_byte plan at count before b few (h 0) (omega arith)) (
    subst (λ (k : ℕ). Put after (sets after k (shifted count b bs)) (record { at = at + 1; count = count; bits = b % 2 ^ count }) (byte_bits bs)
    (record { at = at + suc (length bs); count = count; bits = last_from b bs % 2 ^ count })) one
    (subst (λ (k : ℕ). Put after (sets after (at + 1) (shifted count b bs)) (record { at = at + 1; count = count; bits = b % 2 ^ count }) (byte_bits bs)
    (record { at = k; count = count; bits = last_from b bs % 2 ^ count })) all
    (put_all bs after (at + 1) count b few (λ k. h (suc k)) (omega (arith, length-set plan at (between count before b))))))

-- bytes shifted by the pending bits were put
pub put_shifted : (plan after bytes : List ℕ) (p : Pending) (last m : ℕ) → Sound p → ((k : ℕ) → get_or bytes k 0 < 2 ^ 8) → p.at + length bytes ≤ length plan
    → after ≡ sets plan p.at (shifted p.count p.bits bytes) → last ≡ last_from p.bits bytes → m ≡ 2 ^ p.count
    → Put plan after p (byte_bits bytes) (record { at = p.at + length bytes; count = p.count; bits = last % m })
put_shifted plan after bytes p last m s h room e f g =
    rw (e, f, g)
    (subst (λ (b : ℕ). Put plan (sets plan p.at (shifted p.count p.bits bytes)) (record { at = p.at; count = p.count; bits = b }) (byte_bits bytes)
    (record { at = p.at + length bytes; count = p.count; bits = last_from p.bits bytes % 2 ^ p.count })) (mod-eq_of_lt s.low)
    (put_all bytes plan p.at p.count p.bits s.few h room))

-- ---- the last byte

-- zero bits up to a full byte were put: the bytes written are those of the bits before
pub put_fill : (before after : List ℕ) (p r : Pending) (w : ℕ) → ((i : ℕ) → get_or after i 0 < 2 ^ 8) → Sound p → w ≡ (8 - p.count) % 8
    → Put before after p (msb_first w 0) r → take r.at after ≡ bytes_of (written before p)
unfolding msb_first
put_fill before after p r w h s e k =
    let none : r.count ≡ 0 = omega (arith, s.few, k.sound.few, k.more, msb_length w 0) in
    let bits : byte_bits (take r.at after) ≡ written before p ++ replicate w false =
    sym (append-nil (byte_bits (take r.at after))) ∙ ap (λ (n : ℕ). byte_bits (take r.at after) ++ msb_first n r.bits) (sym none)
    ∙ k.wrote ∙ ap (λ (l : List Bool). written before p ++ l) (msb_zero w) in
    filled-bytes (take r.at after) (written before p) w (take-bytes r.at after h) (omega arith) bits

-- so the plan's bytes are those of its bits, and past them it is as it was
pub put_finished : (before after : List ℕ) (p r : Pending) → ((i : ℕ) → get_or after i 0 < 2 ^ 8) → Sound p → Room before p 0 → length after ≡ length before
    → Put before after p (msb_first ((8 - p.count) % 8) 0) r
    → (r.at ≡ length (bytes_of (written before p))) × (after ≡ bytes_of (written before p) ++ drop r.at before)
put_finished before after p r h s room same k =
    let fill = (8 - p.count) % 8 in
    let bytes = put_fill before after p r fill h s refl k in
    let inside : r.at ≤ length after = omega (arith, s.few, room, same, k.more, msb_length fill 0) in (
      sym (length-take-le r.at after inside) ∙ ap length bytes,
      sym (take-append-drop r.at after) ∙ ap₂ (λ (x y : List ℕ). x ++ y) bytes k.past,
    )

-- ---- the whole plan

-- a plan into which a string was put after what was written before, and that was finished: what a planner leaves in the lent plan
pub finished : (before mid after : List ℕ) (p : Pending) (bs : List Bool) (r : Pending) (n : ℕ) → r.at ≤ length mid → Put before mid p bs r
    → n ≡ length (bytes_of (written mid r)) → after ≡ bytes_of (written mid r) ++ drop n mid → after ≡ finished_with before (written before p ++ bs)
finished before mid after p bs r n room k e f =
    let size : length (written mid r) ≡ r.at * 8 + r.count =
    omega (
      arith,
      length-append (byte_bits (take r.at mid)) (msb_first r.count r.bits),
      byte_bits-length (take r.at mid),
      length-take-le r.at mid room,
      msb_length r.count r.bits,
    ) in
    let past : drop n mid ≡ drop n before = drop_further mid before r.at n (omega (arith, bytes_of-length (written mid r))) k.past in
    let long : n ≡ length (bytes_of (written before p ++ bs)) = e ∙ ap (λ (l : List Bool). length (bytes_of l)) k.wrote in
    f ∙ ap₂ (λ (l : List Bool) (d : List ℕ). bytes_of l ++ d) k.wrote past ∙ ap (λ (m : ℕ). bytes_of (written before p ++ bs) ++ drop m before) long

-- a plan begun with its transaction count and finished with its transactions is the packed plan
pub finished_packed : (before : List ℕ) (ts : List Transaction) → length ts < 64
    → finished_with before (written before (record { at = 0; count = 6; bits = length ts }) ++ list_bits ts) ≡ packed ts ++ drop (length (packed ts)) before
unfolding packed packed_bits
finished_packed before ts few = ap (λ (l : List Bool). finished_with before (l ++ list_bits ts)) (begun before (length ts) few).1
