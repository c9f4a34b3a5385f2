-- `pack_pairs` meets its contract: both pairs were put after the transaction count, and the plan was finished. Assumes nothing.
use mathlib.Core.Path.{refl, sym}
use mathlib.Core.List.{List, [], append-nil}
use Prim.Native.Nat.{◌≤◌}
use native.Mathlib.Omega.{arith}
use lib.ListN.{length}
use borrow.Author.Rules.{rules}
use Rattle.bus.specs.Transactions.{Transaction}
use Rattle.packing.specs.Written.{list_bits, Sound, Room}
use Rattle.planning.proofs.PlanLaws.{begun-sound, begun-room, begun-done}
use Rattle.planning.proofs.ProgressLaws.{Progress, progress_none, several_room, several_more, progress_last, progress_done}
use Rattle.adv7194_captions.specs.Pairs.{pair_at, caption_list}
use Rattle.adv7194_captions.specs.Plans.{extended_pair, ordinary_pair}
use Rattle.adv7194_caption_planning.proofs.PairCounts.{counted, both_right}
use Rattle.adv7194_caption_planning.proofs.pairs.pack_pairs.Statement.{statement}
use Rattle.adv7194_caption_planning.proofs.pairs.pack_pairs.Tie as tie

-- the list, and the part of it that each pair is
abbrev list : tie.Start → List Transaction
list s = caption_list s.args.extended.now s.args.ordinary.now

abbrev front : tie.Start → List Transaction
front s = pair_at extended_pair s.args.extended.now

abbrev back : tie.Start → List Transaction
back s = pair_at ordinary_pair s.args.ordinary.now

-- it has one transaction or two
few : (s : tie.Start) → s.args.transactions ≤ 63
few s =
    let k = counted s.args.extended.now s.args.ordinary.now s.requires.right in
    omega (arith, k.few, k.transactions, s.requires.counted)

-- where the plan was begun with its count
abbrev entry : tie.After-begin-begun → tie.Start
entry c = c.before.before

-- the list can be packed after it
sound : (c : tie.After-begin-begun) → Sound c.begin-begun.result
sound c =
    let s = entry c in
    begun-sound (list s) s.args.plan.now c.begin-begun.result s.args.transactions (few s) s.requires.counted c.begin-begun.ensures

room : (c : tie.After-begin-begun) → Room (entry c).args.plan.now c.begin-begun.result (length (list_bits (list (entry c))))
room c =
    let s = entry c in
    begun-room (list s) s.args.plan.now c.begin-begun.result s.args.transactions (few s) s.requires.counted c.begin-begun.ensures s.requires.fits

-- nothing was packed yet
begun : (c : tie.After-begin-begun)
    → Progress (list (entry c)) c.begin-begun.result (entry c).args.plan.now (entry c).args.plan.now c.begin-begun.result (list (entry c))
begun c = progress_none (list (entry c)) c.begin-begun.result (entry c).args.plan.now (sound c) (room c)

-- the extended pair was
first : (c : tie.After-pack_pair-first) → (let b = c.before.before in
    Progress (list (entry b)) b.begin-begun.result (entry b).args.plan.now c.pack_pair-first.new.plan c.pack_pair-first.result (back (entry b)))
unfolding caption_list
first c =
    let b = c.before.before in
    let s = entry b in
    several_more (list s) b.begin-begun.result s.args.plan.now (sound b) (room b) (begun b) (front s) (back s) refl
    c.pack_pair-first.new.plan c.pack_pair-first.result c.pack_pair-first.auto.plan c.pack_pair-first.ensures

-- both were
second : (c : tie.After-pack_pair-both) → (let b = c.before.before.before.before.before.before in
    Progress (list (entry b)) b.begin-begun.result (entry b).args.plan.now c.pack_pair-both.new.plan c.pack_pair-both.result [])
second c =
    let f = c.before.before.before.before in
    let b = c.before.before.before.before.before.before in
    let s = entry b in
    several_more (list s) b.begin-begun.result s.args.plan.now (sound b) (room b) (first f) (back s) [] (sym (append-nil (back s)))
    c.pack_pair-both.new.plan c.pack_pair-both.result c.pack_pair-both.auto.plan c.pack_pair-both.ensures

pack-pair-requires : tie.Need-pack_pair-first-requires
unfolding caption_list
pack-pair-requires c κs =
    let b = c.before in
    let s = entry b in
    let g = begun b in (
      g.sofar.sound,
      omega arith,
      (both_right s.args.extended.now s.args.ordinary.now s.requires.right).0,
      several_room (list s) b.begin-begun.result s.args.plan.now (sound b) (room b) g (front s) (back s) refl,
    )

pack-pair-requires-2 : tie.Need-pack_pair-both-requires
pack-pair-requires-2 c κs =
    let f = c.before.before.before in
    let b = c.before.before.before.before.before in
    let s = entry b in
    let g = first f in (
      g.sofar.sound,
      omega arith,
      (both_right s.args.extended.now s.args.ordinary.now s.requires.right).1,
      several_room (list s) b.begin-begun.result s.args.plan.now (sound b) (room b) g (back s) [] (sym (append-nil (back s))),
    )

finish-requires : tie.Need-finish-requires
finish-requires c κs =
    let f = c.before.before.before in
    let b = c.before.before.before.before.before.before.before.before.before in
    let s = entry b in
    let g = second f in
    (g.sofar.sound, progress_last (list s) b.begin-begun.result s.args.plan.now (sound b) (room b) g refl)

returns : tie.Need-returns
returns c =
    let n = c in
    let f = c.before.before.before.before.before.before in
    let b = c.before.before.before.before.before.before.before.before.before.before.before.before in
    let s = entry b in
    let done = progress_done (list s) b.begin-begun.result s.args.plan.now (sound b) (room b) (second f) refl
    n.finish.new.plan n.finish.result n.finish.ensures.0 n.finish.ensures.1 in
    begun-done (list s) s.args.plan.now b.begin-begun.result s.args.transactions (few s) s.requires.counted b.begin-begun.ensures
    n.finish.new.plan done

pub pack_pairs_spec : {M : Type 1} → statement M
pack_pairs_spec =
    tie.close (tie.spec
    (λ c κs. tt)
    pack-pair-requires
    pack-pair-requires-2
    finish-requires
    (λ c. search rules)
    returns)
