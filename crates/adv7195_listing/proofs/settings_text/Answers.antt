-- What reading answers chooses what is listed.
use Rattle.std.proofs.Common.{refl, pos, replicate, ap, ◌∙◌}
use Rattle.text.specs.Line.{place_after, appended}
use Rattle.adv7195_settings.specs.Numbers.{number_count}
use Rattle.adv7195_listing.proofs.TextLaws.{text_read, text_refused}
use Rattle.adv7195_listing.proofs.settings_text.Goals as goal

pub returns-in-Ok : goal.returns-in-Ok
returns-in-Ok c =
    let out = c.args.out.now in
    let e = text_read c.args.image.now (replicate number_count (pos 0)) refl c.in-Ok.ensures.answer c.in-Ok.ensures.memory in
    record {
      answer = c.list_settings.ensures.answer ∙ ap (place_after out 0) e;
      memory = c.list_settings.ensures.memory ∙ ap (appended out 0) e;
      most = rw e at c.list_settings.ensures.most;
    }

pub returns-in-Err : goal.returns-in-Err
returns-in-Err c =
    let out = c.args.out.now in
    let e = text_refused c.args.image.now (replicate number_count (pos 0)) refl _ _ c.in-Err.ensures.answer in
    record {
      answer = c.list_refusal.ensures.answer ∙ ap (place_after out 0) e;
      memory = c.list_refusal.ensures.memory ∙ ap (appended out 0) e;
      most = rw e at c.list_refusal.ensures.most;
    }
