-- `parts::put_raw`: each turn puts what one register more adds. Assumes nothing.
use Rattle.std.proofs.Common.{◌≡◌, List, [], ℕ, ◌+◌, ◌*◌, ◌++◌, arith, refl, sym, ap, ◌∙◌, append_assoc}
use mathlib.Core.List.{append-nil}
use Rattle.writing.proofs.Putting.{kept, more, wider, same_text, unwritten}
use Rattle.compare_fields.specs.Widths.{raw_width}
use Rattle.compare_fields.specs.Values.{own_text}
use Rattle.compare_fields.proofs.PartLaws.{raw_text, raw_turn, raw_end}
use Rattle.compare_fields.proofs.parts.put_raw.Goals as goal

pub loop-register-init : goal.loop-register-init
loop-register-init c = record { text = []; written = unwritten _ _ (omega arith); rest = refl }

pub put_own-place-requires : goal.put_own-place-requires
put_own-place-requires c = (omega (arith, kept c.loop-register.invariant.written), omega arith)

pub loop-register-preserved : goal.loop-register-preserved
loop-register-preserved c =
    let l = c.loop-register in
    let image = c.args.image.now in
    let n = c.args.field in
    record {
      text = l.invariant.text ++ own_text image n l.register;
      written = wider (3 * (l.register + 1)) (omega arith) (more l.invariant.written c.put_own-place.ensures.written (omega arith));
      rest =
          append_assoc l.invariant.text (own_text image n l.register) (raw_text image n (l.register + 1))
          ∙ ap (λ (x : List ℕ). l.invariant.text ++ x) (sym (raw_turn image n l.register c.loop-register-test.true))
          ∙ l.invariant.rest;
    }

pub returns : goal.returns
returns c =
    let l = c.loop-register in
    let e = raw_end c.args.image.now c.args.field l.register c.loop-register-test.false in
    record {
      written =
          same_text (sym (append-nil l.invariant.text) ∙ ap (λ (x : List ℕ). l.invariant.text ++ x) (sym e) ∙ l.invariant.rest)
          (wider raw_width (omega arith) l.invariant.written);
    }
