-- the number chooses between two digits and signed decimal
use Rattle.std.proofs.Common.{◌≡◌, arith, w32}
use Rattle.std.proofs.lemmas.Int.{to_z-of_z}
use Rattle.text.specs.Text.{signed}
use Rattle.writing.specs.Put.{number_width}
use Rattle.writing.specs.Codes.{code}
use Rattle.writing.proofs.NumberLaws.{code-negative, code_large, code-byte}
use Rattle.writing.proofs.Putting.{same_text, passed, wider}
use Rattle.writing.proofs.put_code.Goals as goal
use Rattle.writing.proofs.put_code.Goals.{then-n-lt0-via-then-n-lt0, then-n-lt0-via-else-n-lt0+then-n-gt-LARGEST_BYTE}

pub returns-then-n-lt0 : goal.returns-then-n-lt0
returns-then-n-lt0 c =
    let z = c.args.n in
    let same = to_z-of_z w32 z c.ranges.n in
    let no_byte : signed z ≡ code z = elim c.then-n-lt0.branch [
      | then-n-lt0-via-then-n-lt0 w ↦ code-negative z (rw same at w.if-n-lt0.true)
      | then-n-lt0-via-else-n-lt0+then-n-gt-LARGEST_BYTE w ↦ code_large z (rw same at w.if-n-gt-LARGEST_BYTE.true)
    ] in
    record { written = same_text no_byte (passed signed z c.ranges.n.sfits c.put_signed.ensures.written) }

pub returns : goal.returns
returns c =
    let same = to_z-of_z w32 c.args.n c.ranges.n in
    let byte = (code-byte c.args.n (rw same at c.if-n-lt0.false) (rw same at c.if-n-gt-LARGEST_BYTE.false)).1 in
    record { written = same_text byte (wider number_width (omega arith) (rw same at c.put_hex.ensures.written)) }
