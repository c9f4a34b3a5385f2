-- The place answered is within the memory lent.
use Rattle.text.proofs.Appending.{place-within}
use Rattle.progressive_settings.proofs.main.Goals as goal

pub print_text-requires : goal.print_text-requires
print_text-requires c = record { within = place-within _ _ c.settings_text-end.ensures.answer c.settings_text-end.ensures.memory }
