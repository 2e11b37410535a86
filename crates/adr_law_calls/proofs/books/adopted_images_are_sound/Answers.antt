use Rattle.adr_law_calls.proofs.Woken.{adopted_is_sound}
use Rattle.adr_law_calls.proofs.books.adopted_images_are_sound.Goals as goal

pub returns : goal.returns
returns c = adopted_is_sound
