-- The plan of the maps that planning makes of a board, a wanted image and the fixed registers is the plan of those. Assumes nothing.
use mathlib.Core.Path.{◌≡◌, sym, ap, ap₂, ◌∙◌, fun_ext}
use mathlib.Core.Bool.{Bool, true, false, cond, not, ◌&&◌, ◌||◌}
use mathlib.Core.List.{List}
use Prim.Native.Nat.{ℕ, suc, ◌-◌}
use native.Mathlib.Omega.{arith}
use lib.Dec.{ltb}
use lib.IntN.{ℤ}
use lib.ListN.{length}
use Rattle.bits.specs.Maps.{has}
use Rattle.bus.specs.Registers.{differs, among}
use Rattle.least_cost.specs.Task.{Task, Stop}
use Rattle.least_cost.proofs.Alike.{plan_alike}
use Rattle.cutting.specs.Task.{Bounded, Plannable, map_task, plan_by}
use Rattle.adv7194_bus.specs.declared.board.Board.{Board}
use Rattle.adv7194_bus.proofs.LimitLaws.{right-limit}
use Rattle.adv7194_settings.specs.Wanted.{wanted_by}
use Rattle.adv7194_settings.specs.Known.{fixes_all}
use Rattle.adv7194_least.specs.Aim.{Aim, must, aim_of}
use Rattle.adv7194_least.specs.Change.{Change}
use Rattle.adv7194_least.specs.Plan.{writable, with_word, may, needed, task, task_for, byte_of, plan_of}
use Rattle.adv7194_least.proofs.TaskLaws.{need-word, needed-may, may_facts}
use Rattle.adv7194_least.proofs.Differing.{differs-settable, permits}
use Rattle.adv7194_least.proofs.Reached.{task-sound}
use Rattle.adv7194_planning.specs.declared.registers.RegisterMaps.{RegisterMaps}
use Rattle.adv7194_planning.specs.Aims.{aim_by, Comparable, MapsOf}

-- the aim of a map is the settings', where the map has what they fix
pub same_aim : (b : Board) (zs : List ℤ) (wanted : List ℕ) (fixed limit : ℕ) → wanted ≡ wanted_by b.registers zs
    → ((i : ℕ) → has fixed i ≡ fixes_all zs i) → aim_by b wanted fixed limit ≡ aim_of b zs limit
same_aim b zs wanted fixed limit e h =
    ap₂ (λ (w : List ℕ) (f : ℕ → Bool). record { board = b; wanted = w; fixes = f; limit = limit }) e (fun_ext h)

-- the maps that are made one after the other are the aim's
pub maps_are : (b : Board) (wanted : List ℕ) (fixed limit c m n w h : ℕ) → ((i : ℕ) → has c i ≡ differs b.registers wanted i)
    → ((i : ℕ) → has m i ≡ cond (has b.known i) (has c i) (has fixed i)) → ((i : ℕ) → has n i ≡ with_word (has m) i)
    → ((i : ℕ) → has w i ≡ (writable i && (has b.known i || has fixed i))) → ((i : ℕ) → has h i ≡ (among 0x0d 0x0f i && has n 0x0c))
    → MapsOf (aim_by b wanted fixed limit) (record { must = m; needed = n; allowed = w; held = h })
maps_are b wanted fixed limit c m n w h changed musts need mays holds = record {
  musts = written;
  needs = needs;
  mays = mays;
  holds = λ i. holds i ∙ ap (λ (x : Bool). among 0x0d 0x0f i && x) (needs 0x0c ∙ need-word (must a) 0x0c (omega arith) (omega arith));
}
  where
    a : Aim
    a = aim_by b wanted fixed limit

    written : (i : ℕ) → has m i ≡ must a i
    written i = musts i ∙ ap (λ (x : Bool). cond (has b.known i) x (has fixed i)) (changed i)

    needs : (i : ℕ) → has n i ≡ needed a i
    needs i = need i ∙ rw (written 0x0c, written 0x0d, written 0x0e, written 0x0f, written i)

module _ (b : Board) (wanted : List ℕ) (fixed limit : ℕ) (χ : Change (aim_by b wanted fixed limit)) where
  abbrev a : Aim
  a = aim_by b wanted fixed limit

  -- the two images can be compared
  pub comparable : Comparable b.registers wanted
  comparable = record { found = χ.found.size; wants = χ.wants.size; settable_only = differs-settable a χ }

  module _ (maps : RegisterMaps) (μ : MapsOf a maps) where
    -- the task of the maps, in which a transaction takes and ends as in the aim's
    abbrev p : Task
    p = map_task (length wanted) maps.needed maps.allowed maps.held limit

    takes : (s i : ℕ) → p.takes s i ≡ (task a).takes s i
    unfolding task_for
    takes s i = ap (λ (x : Bool). x && ltb (i - s) limit) (μ.mays i)

    cut : (i : ℕ) → p.cut i ≡ (task a).cut i
    unfolding task_for
    cut i = ap not (μ.holds i)

    -- from a needed register one comes to an end
    stop : (i : ℕ) → has maps.needed i ≡ true → Stop p i
    unfolding task_for
    stop i e =
        let q = (task-sound a χ).stop i (sym (μ.needs i) ∙ e) in
        record { at = q.at; after = q.after; takes = λ x u v. takes i x ∙ q.takes x u v; cut = cut q.at ∙ q.cut }

    -- before a register of the map none ends
    uncut : (i : ℕ) → has maps.held i ≡ true → (task a).cut i ≡ false
    uncut i e = sym (cut i) ∙ ap not e

    -- a plan can be made for the maps
    pub plannable : Plannable maps.needed maps.allowed maps.held limit wanted
    unfolding task_for
    plannable =
        let right = right-limit limit χ.limited in
        record {
          writable = λ i e. μ.mays i ∙ needed-may limit (must a) (may a) (permits a χ) i (sym (μ.needs i) ∙ e);
          inside = λ i e. let f = may_facts limit (must a) (may a) (permits a χ) i (sym (μ.mays i) ∙ e) in omega (arith, χ.wants.size, f.inside);
          small = omega (arith, χ.wants.size);
          some = omega (arith, right.0);
          most = omega (arith, right.1);
          first = μ.holds 0;
          before = λ i e. μ.needs i ∙ (task-sound a χ).cut_before i (uncut (suc i) e);
          after = λ i e. μ.needs i ∙ (task-sound a χ).cut_after i (uncut i e);
          stop = stop;
        }

    -- its registers can be held in a map
    pub bounded : Bounded maps.needed maps.allowed limit
    bounded = record {
      writable = plannable.writable;
      small = λ i e. omega (arith, plannable.inside i e, plannable.small);
      some = plannable.some;
      most = plannable.most;
    }

    -- and it is the aim's
    pub plan-is : plan_by maps.needed maps.allowed maps.held limit wanted ≡ plan_of a
    unfolding plan_of task_for
    plan-is = plan_alike p (task a) (byte_of a) μ.needs takes cut χ.wants.size
