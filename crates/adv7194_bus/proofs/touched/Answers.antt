-- By the definition where the data end past the registers, and else by the law of the map's test.
use Rattle.std.proofs.Common.{◌≡◌, Bool, cond, ℕ, zero, suc, ◌+◌, ◌-◌, ◌*◌, ◌^◌, ◌≤◌, ◌<◌, refl, sym, ap₂, ◌∙◌, arith}
use lib.Bits.{or_zero_l}
use borrow.Author.Tests.{eq-eqb, ne_eqb, lt-leb}
use Rattle.bus.specs.Known.{marks}
use Rattle.bus.proofs.KnownLaws.{marks_or}
use Rattle.adv7194_bus.specs.Kind.{register_count}
use Rattle.adv7194_bus.specs.Rules.{keeps_rules}
use Rattle.adv7194_bus.proofs.MapRules.{map_keeps, by_map}
use Rattle.adv7194_bus.proofs.touched.Goals as goal

-- data that end past the registers: there are some, so a rule is broken; or there are none, so no register is touched
past : (subaddress count : ℕ) → register_count < subaddress + count → cond (keeps_rules subaddress count) (marks 0 subaddress count) 0 ≡ 0
unfolding keeps_rules marks
past subaddress zero h = refl
past subaddress (suc n) h = rw (ne_eqb (suc n) 0 (λ q. omega arith), lt-leb (subaddress + suc n) register_count h)

-- within the registers it is the test on the map of those touched
on-map : (subaddress count map : ℕ) → subaddress + count ≤ register_count → map ≡ (2 ^ count - 1) * 2 ^ subaddress
    → cond (keeps_rules subaddress count) (marks 0 subaddress count) 0 ≡ cond (map_keeps map) map 0
on-map subaddress count map h e =
    let all : marks 0 subaddress count ≡ map = marks_or count subaddress 0 ∙ or_zero_l _ ∙ sym e in
    ap₂ (λ (b : Bool) (m : ℕ). cond b m 0) (by_map subaddress count h ∙ rw e) all

pub returns-then-end-gt-REGISTERS : goal.returns-then-end-gt-REGISTERS
returns-then-end-gt-REGISTERS c = record { answer = sym (past c.args.subaddress c.args.count c.if-end-gt-REGISTERS.true) }

pub returns-then-map-ne0 : goal.returns-then-map-ne0
returns-then-map-ne0 c =
    record {
      answer = rw (on-map c.args.subaddress c.args.count c.span-map.result c.if-end-gt-REGISTERS.false c.span-map.ensures.answer, ne_eqb _ _ c.if-map-ne0.true);
    }

pub returns-then-word : goal.returns-then-word
returns-then-word c =
    record {
      answer = rw (
        on-map c.args.subaddress c.args.count c.span-map.result c.if-end-gt-REGISTERS.false c.span-map.ensures.answer,
        eq-eqb _ _ c.if-map-ne0.false,
        c.if-word.true,
      );
    }

pub returns : goal.returns
returns c =
    record {
      answer = rw (
        on-map c.args.subaddress c.args.count c.span-map.result c.if-end-gt-REGISTERS.false c.span-map.ensures.answer,
        eq-eqb _ _ c.if-map-ne0.false,
        c.if-word.false,
      );
    }
