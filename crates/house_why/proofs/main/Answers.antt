-- The place answered is within the memory lent.
use Rattle.text.proofs.Appending.{place-within}
use Rattle.house_why.proofs.main.Goals as goal

pub print_text-requires : goal.print_text-requires
print_text-requires c = record { within = place-within _ _ c.why_listing-end.ensures.answer c.why_listing-end.ensures.memory }
