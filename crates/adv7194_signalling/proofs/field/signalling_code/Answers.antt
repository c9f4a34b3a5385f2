-- `field::signalling_code` meets its contract: the kind chooses the coding. Assumes nothing.
use mathlib.Core.Path.{◌≡◌, ap, ◌∙◌}
use mathlib.Core.List.{List, []}
use Prim.Native.Nat.{ℕ}
use lib.IntN.{ℤ}
use mir.Syntax.{w32}
use borrow.Author.Rules.{rules}
use Rattle.std.proofs.Common.{Option, Some, Result, Ok, Err, MatchResult, IsOkAnd}
use Rattle.std.proofs.lemmas.Result.{err_from_is_err_and}
use Rattle.refusals.specs.declared.Refusal.{Refusal}
use Rattle.refusals.specs.Refusal.{Judged, accepted, refused}
use Rattle.rounding.proofs.Range.{back}
use Rattle.adv7194_signalling.specs.declared.registers.Registers.{Registers}
use Rattle.adv7194_signalling.specs.Word.{coded_as}
use Rattle.adv7194_signalling.specs.Kind.{kind_named}
use Rattle.adv7194_signalling.specs.Signalling.{number_of, signalling_codes}
use Rattle.adv7194_signalling.specs.Answers.{numbers_of, code_as}
use Rattle.adv7194_signalling.specs.Cgms.{cgms_of}
use Rattle.adv7194_signalling.specs.Wss.{wss_of}
use Rattle.adv7194_signalling.proofs.KindLaws.{by_answer, codes-named}
use Rattle.adv7194_signalling.proofs.field.signalling_code.Goals as goal

-- the coding by the kind that was found
found : (zs : List ℤ) (j : Judged ℕ) → j ≡ kind_named (number_of zs 0)
    → by_answer refused (wss_of (number_of zs 1)) (cgms_of (number_of zs 1) (number_of zs 2) (number_of zs 3) (number_of zs 4)) (accepted []) j
    ≡ signalling_codes zs
found zs j e =
    ap (by_answer refused (wss_of (number_of zs 1)) (cgms_of (number_of zs 1) (number_of zs 2) (number_of zs 3) (number_of zs 4)) (accepted [])) e
    ∙ codes-named zs

-- a coding made the field's
coded : (r : Result Registers Refusal) (m : Result (Option Registers) Refusal)
    → MatchResult r (λ x. IsOkAnd m (λ o. o ≡ Some x)) (λ e. m ≡ Err e) → code_as m ≡ coded_as r
coded (Ok x) (Ok o) h = ap (λ p. code_as (Ok p)) h
coded (Ok x) (Err e) h = absurd h
coded (Err e) m h = ap code_as h

pub returns-in_err-try_from : goal.returns-in_err-try_from
returns-in_err-try_from c =
    let p = err_from_is_err_and c.from_residual.result c.from_residual.ensures.1 in
    let same : back w32 c.args.setting.kind ≡ c.args.setting.kind = search rules in
    record { answer = rw (p.1, p.2) (found (numbers_of c.args.setting) _ (rw same at c.in_err-try_from.ensures)) }

pub returns-in-Off : goal.returns-in-Off
returns-in-Off c =
    let same : back w32 c.args.setting.kind ≡ c.args.setting.kind = search rules in
    let named = rw (c.in-Off.is, same) at c.in_ok-try_from.ensures in
    record { answer = found (numbers_of c.args.setting) _ named }

pub returns-in-Cgms : goal.returns-in-Cgms
returns-in-Cgms c =
    let s = c.args.setting in
    let kind : back w32 s.kind ≡ s.kind = search rules in
    let number : back w32 s.number ≡ s.number = search rules in
    let odd : back w32 s.odd ≡ s.odd = search rules in
    let even : back w32 s.even ≡ s.even = search rules in
    let chip : back w32 s.chip_check ≡ s.chip_check = search rules in
    let named = rw (c.in-Cgms.is, kind) at c.in_ok-try_from.ensures in
    record {
      answer =
          coded c.cgms_code.result c.map.result (search rules) ∙ (rw (number, odd, even, chip) at c.cgms_code.ensures.answer)
          ∙ found (numbers_of s) _ named;
    }

pub returns-in-Wss : goal.returns-in-Wss
returns-in-Wss c =
    let s = c.args.setting in
    let kind : back w32 s.kind ≡ s.kind = search rules in
    let number : back w32 s.number ≡ s.number = search rules in
    let named = rw (c.in-Wss.is, kind) at c.in_ok-try_from.ensures in
    record {
      answer =
          coded c.wss_code.result c.map-in-Wss.result (search rules) ∙ (rw number at c.wss_code.ensures.answer)
          ∙ found (numbers_of s) _ named;
    }
