-- Which lines have one answer.
use Rattle.adr_call.specs.declared.event.Event.{Event}
use Rattle.adr_call.specs.declared.event.Event.TheVariants.{Time, Goes}

-- a line that has one answer, and is done whole or not at all, but for a start's sync
abbrev pub HasOneAnswer : Event → Type 0
HasOneAnswer (Time now) = ⊥
HasOneAnswer (Goes name what) = ⊥
HasOneAnswer e = Unit {0}
