-- `pair_bytes` meets its contract: a right pair that is given is two characters, and the machine keeps them. Assumes nothing.
use mathlib.Core.Path.{◌≡◌, sym, ap, ap₂, ◌∙◌}
use mathlib.Core.List.{[], ◌∷◌}
use Prim.Native.Nat.{ℕ, ◌^◌, ◌<◌}
use native.Mathlib.Omega.{arith}
use lib.IntN.{ℤ, pos}
use lib.ListN.{get_or}
use lib.Signed.{mag}
use mir.Syntax.{w32}
use mir.Val.{to_z, of_z}
use mir.ValLaws.{to_z-of_z}
use borrow.Author.Rules.{rules}
use Rattle.adv7194_captions.specs.Characters.{is_character, caption_byte}
use Rattle.adv7194_caption_planning.proofs.PairCounts.{Given, given}
use Rattle.adv7194_caption_planning.proofs.pairs.pair_bytes.Statement.{statement}
use Rattle.adv7194_caption_planning.proofs.pairs.pair_bytes.Tie as tie

-- what is known of the pair
known : (c : tie.Start) → Given c.args.pair.now
known c = given c.args.pair.now c.requires.0 c.requires.1

-- the characters
abbrev first : tie.Start → ℤ
first c = get_or c.args.pair.now 0 (pos 0)

abbrev second : tie.Start → ℤ
second c = get_or c.args.pair.now 1 (pos 0)

-- the machine's number is the pair's
same : (z : ℤ) → mag z < 2 ^ 31 → to_z w32 (of_z w32 z) ≡ z
same z h = to_z-of_z w32 z (record { sfits = h })

caption-byte-requires : tie.Need-caption_byte-first-requires
caption-byte-requires c κs = ap is_character (same (first c.before) c.caption_byte-arg-1.given) ∙ (known c.before).front

caption-byte-requires-2 : tie.Need-caption_byte-second-requires
caption-byte-requires-2 c κs =
    let s = c.before.before.before in
    ap is_character (same (second s) c.caption_byte-arg-2-1.given) ∙ (known s).back

returns : tie.Need-returns
returns c =
    let b = c in
    let s = c.before.before.before.before in
    ap₂ (λ (x y : ℕ). x ∷ y ∷ []) (b.caption_byte-first.ensures ∙ ap caption_byte (same (first s) b.caption_byte-arg-1.given))
    (c.caption_byte-second.ensures ∙ ap caption_byte (same (second s) c.caption_byte-arg-2-1.given))
    ∙ sym (known s).bytes

pub pair_bytes_spec : {M : Type 1} → statement M
pair_bytes_spec =
    tie.close
    (tie.spec
    (λ c. search rules)
    caption-byte-requires
    (λ c. omega (arith, (known c.before.before).two))
    caption-byte-requires-2
    returns)
