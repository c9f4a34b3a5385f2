-- `pack_pair` meets its contract: a pair that is given is one transaction. Assumes nothing.
use mathlib.Core.Path.{◌≡◌, sym, ap, ◌∙◌}
use mathlib.Core.List.{List}
use Prim.Native.Nat.{ℕ}
use native.Mathlib.Omega.{arith}
use lib.ListN.{length}
use borrow.Author.Rules.{rules}
use Rattle.bus.specs.Transactions.{Transaction}
use Rattle.packing.specs.Packing.{transaction_bits}
use Rattle.packing.specs.Written.{list_bits}
use Rattle.packing.proofs.PackedLaws.{transaction_bits-length}
use Rattle.packing.proofs.PutLaws.{put-none}
use Rattle.adv7194_captions.specs.Pairs.{pair_at}
use Rattle.adv7194_caption_planning.proofs.PairCounts.{none-bits, pair-bits}
use Rattle.adv7194_caption_planning.proofs.pairs.pack_pair.Statement.{statement}
use Rattle.adv7194_caption_planning.proofs.pairs.pack_pair.Tie as tie

returns : tie.Need-returns-then-pair-eq0
returns c =
    let s = c in
    rw (none-bits s.args.register s.args.pair.now c.if-pair-eq0.true) (put-none s.args.plan.now s.args.pending s.requires.0)

-- where the function was entered
abbrev start : tie.After-pair_bytes-bytes → tie.Start
start c = c.before.before.before

-- the transaction that is packed
abbrev packs : tie.After-pair_bytes-bytes → Transaction
packs c = record { subaddress = (start c).args.register; bytes = c.pair_bytes-bytes.result }

-- it is the pair's
bits : (c : tie.After-pair_bytes-bytes) → list_bits (pair_at (start c).args.register (start c).args.pair.now) ≡ transaction_bits (packs c)
bits c =
    let a = (start c).args in
    pair-bits a.register a.pair.now (omega (arith, c.if-pair-eq0.false))
    ∙ ap (λ (l : List ℕ). transaction_bits (record { subaddress = a.register; bytes = l })) (sym c.pair_bytes-bytes.ensures)

pack-transaction-requires : tie.Need-pack_transaction-requires
pack-transaction-requires c κs =
    let p = c.before.before in
    let s = start p in
    (s.requires.0, s.requires.1, search rules, omega (arith, s.requires.3, ap length (bits p), transaction_bits-length (packs p)))

returns-2 : tie.Need-returns
returns-2 c =
    let t = c in
    rw (bits c.before.before.before.before.before) t.pack_transaction.ensures

pub pack_pair_spec : {M : Type 1} → statement M
pack_pair_spec =
    tie.close
    (tie.spec
    returns
    (λ c κs. search rules)
    (λ c. search rules)
    pack-transaction-requires
    (λ c. search rules)
    returns-2)
