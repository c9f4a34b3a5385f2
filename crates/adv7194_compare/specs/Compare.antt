-- Document 02, P1: two images side by side. Refusal 1 for either image; else whether reading takes both, so that settings are shown and not raw codes, the
-- fields that differ, and the registers that do outside all fields.
use Rattle.std.specs.Prelude.{◌≡◌, Bool, true, false, cond, ◌&&◌, List, ℕ, eqb, ℤ, length, Result, Ok, Err}
use Rattle.refusals.specs.Refusal.{number_of}
use Rattle.refusals.specs.Verdict.{Verdict, good, refused_at}
use Rattle.adv7194_bus.specs.Kind.{register_count}
use Rattle.adv7194_table.specs.Fields.{number_count}
use Rattle.adv7194_settings.specs.Held.{settings_held}
use Rattle.adv7194_settings.specs.Rows.{judge_of}
use Rattle.refusals.specs.declared.Fault.{Fault}
use Rattle.adv7194_compare.specs.declared.differences.Differences as declared
use Rattle.adv7194_compare.specs.Differences.{fields_differing, registers_differing, map_of, Equal}

-- what two images of the right length are, side by side: fields and registers as maps
pub record Comparison : Type 0 where
  pub readable : Bool
  pub fields : ℕ
  pub registers : ℕ

-- what each case of the answer stands for
abbrev pub compared_as : Result declared.Differences Fault → Verdict Comparison
compared_as (Ok d) = good (record { readable = d.readable; fields = d.fields; registers = d.registers })
compared_as (Err e) = refused_at (number_of e.refusal) e.field

-- a verdict is good
abbrev pub is_good : Verdict (Unit {0}) → Bool
is_good (good u) = true
is_good (refused_at n f) = false

-- an image has the right length
abbrev pub whole : List ℕ → Bool
whole image = eqb (length image) register_count

-- reading takes an image, of which every register is known: it has the right length, and nothing in it is at fault
abbrev pub can_be_read : List ℕ → Bool
can_be_read image = whole image && is_good (judge_of image)

-- reading takes it, and leaves its settings in so many lent numbers
abbrev pub is_taken : List ℕ → ℕ → Bool
is_taken image count = eqb count number_count && can_be_read image

-- the lent numbers then: its settings where it is taken
abbrev pub taken_into : List ℕ → List ℤ → List ℤ
taken_into image zs = cond (is_taken image (length zs)) (settings_held image) zs

-- two images side by side, readable or not
unfoldable pub compare_by : Bool → List ℕ → List ℕ → Verdict Comparison
compare_by both a b =
    cond (whole a && whole b)
    (good (record { readable = both; fields = map_of (fields_differing a b); registers = map_of (registers_differing a b) }))
    (refused_at 1 0)

-- two images side by side
abbrev pub compare_of : List ℕ → List ℕ → Verdict Comparison
compare_of a b = compare_by (can_be_read a && can_be_read b) a b

-- a comparison lists nothing
abbrev pub ListsNothing : Verdict Comparison → Type 0
ListsNothing (good c) = (c.fields ≡ 0) × (c.registers ≡ 0)
ListsNothing (refused_at n f) = ⊥

-- equal images give an empty list, and only they do
pub record OnlyEqual (a b : List ℕ) (answer : Verdict Comparison) : Type 0 where
  pub empty : Equal a b → ListsNothing answer
  pub only : ListsNothing answer → Equal a b
