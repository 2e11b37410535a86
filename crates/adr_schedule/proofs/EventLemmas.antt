-- One line among others.
use Rattle.std.proofs.Common.{◌≡◌, ℕ, ◌+◌, ◌≤◌, List, [], ◌∷◌, ◌++◌, length, arith, Option, Result, Ok, Err, refl, sym, ap, subst, ◌∙◌, append_assoc}
use Rattle.std.specs.Option.{option_to_list}
use Rattle.std.proofs.lemmas.Bool.{le-ltb}
use Rattle.std.proofs.lemmas.List.{append-nil}
use Rattle.adr_call.specs.declared.event.Event.{Event}
use Rattle.adr_schedule.specs.declared.fault.ScheduleFault.{ScheduleFault}
use Rattle.adr_schedule.specs.Seen.{Seen, nothing_seen}
use Rattle.adr_schedule.specs.Limits.{text_limit}
use Rattle.adr_schedule.specs.Lines.{lines_of}
use Rattle.adr_schedule.specs.Events.{before, line_after, seen_with, on_line, events_from, events_of}

-- events put before, one after another
before_more : (events more : List Event) (r : Result (List Event) ScheduleFault) → before (events ++ more) r ≡ before events (before more r)
before_more events more (Ok later) = ap Ok (append_assoc events more later)
before_more events more (Err fault) = refl

-- one line moves from what is left to what is told
pub moved : (events events' : List Event) (told : Option Event) (seen next : Seen) (k : ℕ) (line : List ℕ) (ls : List (List ℕ)) (rest : List (List ℕ)) (all : Result (List Event) ScheduleFault)
    → before events (events_from seen k rest) ≡ all → rest ≡ line ∷ ls → line_after seen line ≡ Ok told → next ≡ seen_with seen told → events' ≡ events ++ option_to_list told
    → before events' (events_from next (k + 1) ls) ≡ all
moved events events' told seen next k line ls rest all same first says after grown =
    let here : before events (events_from seen k (line ∷ ls)) ≡ all = subst (λ (xs : List (List ℕ)). before events (events_from seen k xs) ≡ all) first same in
    let one : events_from seen k (line ∷ ls) ≡ before (option_to_list told) (events_from (seen_with seen told) (k + 1) ls) =
    ap (λ r. on_line k seen r (λ next. events_from next (k + 1) ls)) says in
    rw (grown, after) (before_more events (option_to_list told) (events_from (seen_with seen told) (k + 1) ls) ∙ ap (before events) (sym one) ∙ here)

-- where nothing is left, all is told
pub all_told : (text rest : List ℕ) (events : List Event) (seen : Seen) (k : ℕ) → length text ≤ text_limit → length rest ≤ 0
    → before events (events_from seen k (lines_of rest)) ≡ events_from nothing_seen 1 (lines_of text) → events_of text ≡ Ok events
unfolding events_of
all_told text [] events seen k small none same = rw (le-ltb text_limit (length text) small) (sym same ∙ ap Ok (append-nil events))
all_told text (b ∷ bs) events seen k small none same = absurd (omega arith)
