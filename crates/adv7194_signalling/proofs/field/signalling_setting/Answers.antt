-- `field::signalling_setting` meets its contract: the kind that was found, and its reader. Assumes nothing.
use mathlib.Core.Path.{◌≡◌, ap, ◌∙◌}
use mathlib.Core.List.{[], ◌∷◌}
use Prim.Native.Nat.{ℕ}
use lib.IntN.{ℤ, pos}
use borrow.Author.Rules.{rules}
use Rattle.std.proofs.Common.{Result, Ok, Err, MatchResult, IsOkAnd}
use Rattle.std.proofs.lemmas.Result.{err_from_is_err_and}
use Rattle.refusals.specs.declared.Refusal.{Refusal}
use Rattle.refusals.specs.Refusal.{Judged, accepted, refused, judged_as}
use Rattle.adv7194_signalling.specs.declared.cgms.CgmsSetting.{CgmsSetting}
use Rattle.adv7194_signalling.specs.declared.field.Signalling.{Signalling}
use Rattle.adv7194_signalling.specs.Answers.{numbers_of, cgms_setting_numbers, cgms_numbers, wss_numbers, read_as}
use Rattle.adv7194_signalling.specs.declared.registers.Registers.{Registers}
use Rattle.adv7194_signalling.specs.Word.{three_bytes}
use Rattle.adv7194_signalling.specs.Kind.{kind_of}
use Rattle.adv7194_signalling.specs.Signalling.{no_signalling, cgms_held, wss_held, signalling_held}
use Rattle.adv7194_signalling.proofs.KindLaws.{by_answer, by_answer_lem}
use Rattle.adv7194_signalling.proofs.field.signalling_setting.Goals as goal

-- the reading by the kind that was found
found : (r : Registers) (j : Judged ℕ) → j ≡ kind_of r.r19
    → by_answer refused (wss_held (three_bytes r)) (cgms_held (three_bytes r)) (accepted no_signalling) j ≡ signalling_held (three_bytes r)
unfolding signalling_held
found r j e =
    let bs = three_bytes r in
    ap (by_answer refused (wss_held bs) (cgms_held bs) (accepted no_signalling)) e ∙ by_answer_lem refused (wss_held bs) (cgms_held bs) (accepted no_signalling) r.r19

-- a setting of CGMS made the field's
cgms_read : (r : Result CgmsSetting Refusal) (m : Result Signalling Refusal)
    → MatchResult r (λ x. IsOkAnd m (λ s. numbers_of s ≡ cgms_setting_numbers x)) (λ e. m ≡ Err e) → read_as m ≡ cgms_numbers (judged_as r)
cgms_read (Ok x) (Ok s) h = ap accepted h
cgms_read (Ok x) (Err e) h = absurd h
cgms_read (Err e) m h = ap read_as h

-- a number of WSS made the field's
wss_read : (r : Result ℤ Refusal) (m : Result Signalling Refusal)
    → MatchResult r (λ z. IsOkAnd m (λ s. numbers_of s ≡ pos 2 ∷ z ∷ pos 0 ∷ pos 0 ∷ pos 0 ∷ [])) (λ e. m ≡ Err e) → read_as m ≡ wss_numbers (judged_as r)
wss_read (Ok z) (Ok s) h = ap accepted h
wss_read (Ok z) (Err e) h = absurd h
wss_read (Err e) m h = ap read_as h

pub returns-in_err-kind : goal.returns-in_err-kind
returns-in_err-kind c =
    let p = err_from_is_err_and c.from_residual.result c.from_residual.ensures.1 in
    record { answer = rw (p.1, p.2) (found c.args.registers _ c.in_err-kind.ensures.answer) }

pub returns-in-Off : goal.returns-in-Off
returns-in-Off c = record { answer = ap accepted c.plain.ensures.answer ∙ found c.args.registers _ (rw c.in-Off.is at c.in_ok-kind.ensures.answer) }

pub returns-in-Cgms : goal.returns-in-Cgms
returns-in-Cgms c = record {
  answer =
      cgms_read _ _ (search rules) ∙ c.cgms_setting.ensures.answer
      ∙ found c.args.registers _ (rw c.in-Cgms.is at c.in_ok-kind.ensures.answer);
}

pub returns-in-Wss : goal.returns-in-Wss
returns-in-Wss c = record {
  answer =
      wss_read _ _ (search rules) ∙ c.wss_setting.ensures.answer
      ∙ found c.args.registers _ (rw c.in-Wss.is at c.in_ok-kind.ensures.answer);
}
