-- The words are compared in turn.
use Rattle.std.proofs.Common.{◌≡◌, ◌∙◌, sym, refl, true, false}
use Rattle.listing.specs.Lines.{plan_word, refused_word, begins}
use Rattle.listing.specs.Written.{word_of}
use Rattle.listing.proofs.Beginning.{starts_begins}
use Rattle.listing.proofs.first_word.Goals as goal

pub returns-then-starts_with : goal.returns-then-starts_with
unfolding word_of
returns-then-starts_with c =
    let plan : begins plan_word c.args.line.now ≡ true = sym (c.if-starts_with.ensures.value ∙ starts_begins plan_word c.args.line.now) in
    record { answer = rw plan refl }

pub returns-then-starts_with-2 : goal.returns-then-starts_with-2
unfolding word_of
returns-then-starts_with-2 c =
    let plan : begins plan_word c.args.line.now ≡ false = sym (c.if-starts_with.ensures.value ∙ starts_begins plan_word c.args.line.now) in
    let refused : begins refused_word c.args.line.now ≡ true = sym (c.if-starts_with-2.ensures.value ∙ starts_begins refused_word c.args.line.now) in
    record { answer = rw (plan, refused) refl }

pub returns-else-starts_with-2 : goal.returns-else-starts_with-2
unfolding word_of
returns-else-starts_with-2 c =
    let plan : begins plan_word c.args.line.now ≡ false = sym (c.if-starts_with.ensures.value ∙ starts_begins plan_word c.args.line.now) in
    let refused : begins refused_word c.args.line.now ≡ false = sym (c.if-starts_with-2.ensures.value ∙ starts_begins refused_word c.args.line.now) in
    record { answer = rw (plan, refused) refl }
