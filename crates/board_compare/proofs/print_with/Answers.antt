-- The place answered is within the memory lent.
use Rattle.text.proofs.Appending.{place-within}
use Rattle.board_compare.proofs.print_with.Goals as goal

pub print_text-requires : goal.print_text-requires
print_text-requires g c = record { within = place-within _ _ c.compare_listing-end.ensures.answer c.compare_listing-end.ensures.memory }
