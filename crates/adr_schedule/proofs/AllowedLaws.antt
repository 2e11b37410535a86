-- An event that a line spells is allowed, and the program does it.
use Rattle.std.proofs.Common.{◌≡◌, ℕ, List, [], ◌∷◌, Some}
use Rattle.adr_values.specs.Assignments.{Given}
use Rattle.adr_call.specs.declared.event.Event.{Event}
use Rattle.adr_call.specs.declared.write.Write.TheVariants.{Add, Modify}
use Rattle.adr_call.specs.declared.call.Call.TheVariants.{Write}
use Rattle.adr_call.specs.declared.event.Event.TheVariants.{Calls}
use Rattle.adr_schedule.specs.Sets.{rising}
use Rattle.adr_schedule.specs.Grammar.{Token, given_by, tokens_behind, tokens_in, AreSpelled, HaveSpellings, SpelledEventsAreAllowed}
use Rattle.adr_schedule.proofs.RisingLemmas.{spelled_rising}

have_spellings : (tokens : List Token) (bytes : List ℕ) → AreSpelled tokens bytes → HaveSpellings tokens
have_spellings [] bytes h = tt
have_spellings (token ∷ tokens) bytes h = ((h.1.0, h.1.1), have_spellings tokens h.0 h.2)

-- the tokens of an event, its sets in rising order
in_rising_order : (order : List Given) (e : Event) → rising order ≡ Some (given_by e) → HaveSpellings (tokens_in order e) → HaveSpellings (tokens_in (given_by e) e)
unfolding tokens_behind
in_rising_order order (Calls name (Write (Add guid class parent text values))) r h =
    (h.0, (h.1.0, (h.1.1.0, (h.1.1.1.0, (h.1.1.1.1.0, (h.1.1.1.1.1.0, spelled_rising order values r h.1.1.1.1.1.1))))))
in_rising_order order (Calls name (Write (Modify guid values))) r h = (h.0, (h.1.0, (h.1.1.0, spelled_rising order values r h.1.1.1)))
in_rising_order order e r h = h

pub spelled_allowed : SpelledEventsAreAllowed
spelled_allowed line e s = (s.0, in_rising_order s.1.0 e s.1.1 (have_spellings (tokens_in s.1.0 e) line s.1.2))
