use Rattle.adr_law_calls.proofs.Empty.{new_is_sound}
use Rattle.adr_law_calls.proofs.books.new_controllers_are_sound.Goals as goal

pub returns : goal.returns
returns c = new_is_sound
