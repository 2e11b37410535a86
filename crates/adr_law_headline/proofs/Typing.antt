-- What lines may say is typed, and whole.
use Rattle.std.proofs.Common.{ℕ, List, [], ◌∷◌, inl, inr, sym, subst, arith}
use Rattle.adr_call.specs.declared.write.Write.{Write}
use Rattle.adr_call.specs.declared.write.Write.TheVariants.{Add, Modify, Rename, Delete, Link, Unlink}
use Rattle.adr_call.specs.declared.call.Call.TheVariants as calls
use Rattle.adr_call.specs.declared.event.Event.{Event}
use Rattle.adr_call.specs.declared.event.Event.TheVariants as events
use Rattle.adr_call.specs.declared.event.Use.TheVariants as uses
use Rattle.adr_call.specs.declared.event.Made.TheVariants as mades
use Rattle.adr_call.specs.declared.event.Exchange.{Exchange}
use Rattle.adr_call.specs.declared.event.Exchange.TheVariants as exchanges
use Rattle.adr_values.specs.Assignments.{Given}
use Rattle.adr_values.specs.declared.content.Value.{Value as Item}
use Rattle.adr_values.specs.declared.content.Value.TheVariants.{Text, Number, Flag, Octets, Ref}
use Rattle.adr_token.specs.Spelled.{SpellsValue}
use Rattle.adr_schedule.specs.Grammar.{given_in, tokens_written, tokens_behind, sets, HaveSpellings, HasLine, IsLimit, IsAllowed}
use Rattle.adr_schedule.specs.Seen.{Seen, nothing_seen, seen_after, IsFollowing}
use Rattle.adr_wire.specs.Ranges.{IsU32}
use Rattle.adr_model.specs.Member.{Each}
use Rattle.adr_model.specs.Write.{write_meant}
use Rattle.adr_law_recorded.specs.Typed.{IsTyped, AreTyped}
use Rattle.adr_answers.specs.Laws.{IsWholeReference}
use Rattle.adr_law_lines.proofs.Typing.{given_so, event_typed}
use Rattle.adr_law_headline.specs.Formed.{most_pulled, HasTypedNumbers, AreAllTyped}
use Rattle.adr_law_headline.specs.Printable.{AreWholeValues, IsWholeEvent, IsWholeWrite, WriteWhole}

-- ---- types

-- what each allowed event is, all events that may follow are
module _ (Q : Event → Type 0) (of_event : (e : Event) → IsAllowed e → Q e) where
  all_so : (es : List Event) (seen : Seen) → IsFollowing seen es → Each Q es
  all_so [] seen follow e m = absurd m
  all_so (x ∷ es) seen follow e (inl is) = subst Q (sym is) (of_event x follow.1)
  all_so (x ∷ es) seen follow e (inr m) = all_so es (seen_after seen x) follow.2 e m

-- what may follow from the beginning on is typed
pub following_typed : (es : List Event) → IsFollowing nothing_seen es → AreTyped es
following_typed es follow = all_so IsTyped event_typed es nothing_seen follow

-- ---- numbers

number_small : (n : ℕ) → IsLimit n → IsU32 n
number_small n limit = let few = limit.1 in omega (arith, few)

most_small : (name : List ℕ) (what : Exchange) → HasLine (events.Goes name what) → IsU32 (most_pulled what)
most_small name (exchanges.Pull source max) has = number_small max has
most_small name (exchanges.Cycle source max) has = number_small max has
most_small name (exchanges.Ring others rounds max) has = number_small max has.1

event_numbers : (e : Event) → IsAllowed e → HasTypedNumbers e
unfolding tokens_behind
event_numbers (events.Time now) (line, (verb, (of_now, end))) = of_now.1.0
event_numbers (events.Binds name (mades.Ask partner max version) bind) allowed = number_small max allowed.0.0
event_numbers (events.Goes name what) allowed = most_small name what allowed.0
event_numbers _ allowed = tt

-- what may follow from the beginning on is so, as the types of events say
pub following_all_typed : (es : List Event) → IsFollowing nothing_seen es → AreAllTyped es
following_all_typed es follow = all_so (λ e. IsTyped e × HasTypedNumbers e) (λ e allowed. (event_typed e allowed, event_numbers e allowed)) es nothing_seen follow

-- ---- identifiers

reference_whole : (v : Item) (bytes : List ℕ) → SpellsValue v bytes → IsWholeReference v
reference_whole (Text text) bytes q = tt
reference_whole (Number number) bytes q = tt
reference_whole (Flag flag) bytes q = tt
reference_whole (Octets octets) bytes q = tt
reference_whole (Ref id) bytes q = q.0

given_whole : (gs : List Given) → HaveSpellings (sets gs) → AreWholeValues gs
given_whole = given_so IsWholeReference reference_whole

write_whole : (what : Write) → HaveSpellings (tokens_written (given_in what) what) → IsWholeWrite (write_meant what)
write_whole (Add guid class parent text values) (of_guid, (of_class, (of_parent, (of_text, given)))) = (of_guid.1.0, of_parent.1.0, given_whole values given)
write_whole (Modify guid values) (of_guid, given) = (of_guid.1.0, given_whole values given)
write_whole (Rename guid parent text) (of_guid, (of_parent, more)) = (of_guid.1.0, of_parent.1.0)
write_whole (Delete guid) (of_guid, end) = of_guid.1.0
write_whole (Link from attr to) (of_from, (of_attr, (of_to, end))) = (of_from.1.0, of_to.1.0)
write_whole (Unlink from attr to) (of_from, (of_attr, (of_to, end))) = (of_from.1.0, of_to.1.0)

event_whole : (e : Event) → IsAllowed e → IsWholeEvent e
unfolding tokens_behind
event_whole (events.Uses name (uses.Revive guid parent text) image) (line, (verb, (to, (of_guid, (of_image, (of_parent, more)))))) = (of_guid.1.0, of_parent.1.0)
event_whole (events.Calls name (calls.Write what)) (line, (verb, (to, behind))) = write_whole what behind
event_whole _ allowed = tt

-- what may follow from the beginning on is whole
pub following_whole : (es : List Event) → IsFollowing nothing_seen es → WriteWhole es
following_whole es follow = all_so IsWholeEvent event_whole es nothing_seen follow
