-- A schedule is read as its events, and what was read is a schedule; a text that is refused has the fault.
use Rattle.std.proofs.Common.{◌≡◌, ℕ, ◌+◌, ◌≤◌, Bool, true, false, not, cond, List, [], ◌∷◌, ◌++◌, length, Option, Some, None, Result, Ok, Err, refl, sym, ap, subst, inl, inr}
use Rattle.std.specs.Prelude.{◌||◌, nat_lt, nat_le}
use Rattle.std.specs.Bool.{then_some}
use Rattle.std.specs.Str.{is_utf8}
use Rattle.std.proofs.lemmas.Bool.{le-ltb, lt-ltb, ltb-false, ltb-true}
use Rattle.adr_call.specs.declared.event.Event.{Event}
use Rattle.adr_call.specs.declared.event.Coming.{Coming}
use Rattle.adr_call.specs.declared.event.Made.{Made}
use Rattle.adr_call.specs.declared.event.Exchange.{Exchange}
use Rattle.adr_call.specs.declared.event.Event.TheVariants.{Time, Comes, Calls, Uses, Binds, Asks, Goes, Meets}
use Rattle.adr_call.specs.declared.event.Coming.TheVariants.{Fresh, Installed, Restored}
use Rattle.adr_call.specs.declared.event.Made.TheVariants.{Ask, Serve, Backup, Snapshot}
use Rattle.adr_call.specs.declared.event.Exchange.TheVariants.{Pull, Cycle, Ring}
use Rattle.adr_schedule.specs.declared.fault.Cause.{Cause}
use Rattle.adr_schedule.specs.declared.fault.Cause.TheVariants.{NotUtf8, NoCommand, UnknownName, NameUsed, IdentifierUsed, TooMany, TooLong}
use Rattle.adr_schedule.specs.declared.fault.ScheduleFault.{ScheduleFault}
use Rattle.adr_schedule.specs.Limits.{controller_limit, text_limit}
use Rattle.adr_schedule.specs.Lines.{lines_of}
use Rattle.adr_schedule.specs.Commands.{event_of, is_passed}
use Rattle.adr_schedule.specs.Grammar.{Spells}
use Rattle.adr_values.specs.First.{first_of}
use Rattle.adr_schedule.specs.Seen.{Seen, nothing_seen, cause_after, cause_of_coming, cause_of_going, cause_of_making, names_used, if_bound, if_full, if_given, if_inv_given, is_any_unbound, is_bound, seen_after, unless_all_bound, unless_bound, IsFollowing}
use Rattle.adr_schedule.specs.Events.{bad, before, events_from, events_of, followed, line_after, on_line, unless}
use Rattle.adr_schedule.specs.Schedules.{FaultyTextsAreRefused, IsCause, IsFault, IsFirstFault, LinesSay, ReadTextsAreSchedules, RefusedTextsHaveTheFault, Says, SchedulesAreRead}
use Rattle.adr_schedule.proofs.AllowedLaws.{spelled_allowed}
use Rattle.adr_schedule.proofs.EventLaws.{lines_read, lines_spelled}

-- ---- what a line said

unless_was : (c : Option Cause) (x e : Event) → unless c x ≡ Ok (Some e) → (c ≡ None) × (x ≡ e)
unless_was None x e h = (refl, cc)
unless_was (Some cause) x e h = absurd (cc)

unless_some : (c : Option Cause) (x : Event) → unless c x ≡ Ok None → ⊥
unless_some None x h = absurd (cc)
unless_some (Some cause) x h = absurd (cc)

unless_bad : (c : Option Cause) (x : Event) (cause : Cause) → unless c x ≡ Err cause → c ≡ Some cause
unless_bad None x cause h = absurd (cc)
unless_bad (Some found) x cause h = cc

passed_by : (seen : Seen) (p u : Bool) (o : Option Event) → cond p (Ok None) (cond u (followed seen o) (Err NotUtf8)) ≡ Ok None → p ≡ true
passed_by seen true u o h = refl
passed_by seen false false o h = absurd (cc)
passed_by seen false true None h = absurd (cc)
passed_by seen false true (Some x) h = absurd (unless_some (cause_after seen x) x h)

-- a line that said an event
record Told (seen : Seen) (p u : Bool) (o : Option Event) (e : Event) : Type 0 where
  not_passed : p ≡ false
  utf8 : u ≡ true
  event : o ≡ Some e
  follows : cause_after seen e ≡ None

told_by : (seen : Seen) (e : Event) (p u : Bool) (o : Option Event) → cond p (Ok None) (cond u (followed seen o) (Err NotUtf8)) ≡ Ok (Some e) → Told seen p u o e
told_by seen e true u o h = absurd (cc)
told_by seen e false false o h = absurd (cc)
told_by seen e false true None h = absurd (cc)
told_by seen e false true (Some x) h =
    let w = unless_was (cause_after seen x) x e h in
    record { not_passed = refl; utf8 = refl; event = ap Some w.1; follows = subst (λ (y : Event). cause_after seen y ≡ None) w.1 w.0 }

said_by : (seen : Seen) (line : List ℕ) (e : Event) → line_after seen line ≡ Ok (Some e) → Says seen line e
said_by seen line e at =
    let t = told_by seen e (is_passed line) (is_utf8 line) (event_of line) at in
    record { not_passed = t.not_passed; utf8 = t.utf8; spells = lines_spelled line e t.event; follows = t.follows }

before_was : (es events : List Event) (r : Result (List Event) ScheduleFault) → before es r ≡ Ok events → (more : List Event) × (r ≡ Ok more) × (es ++ more ≡ events)
before_was es events (Ok more) h = (more, refl, cc)
before_was es events (Err fault) h = absurd (cc)

one_was : (seen : Seen) (k : ℕ) (line : List ℕ) (lines : List (List ℕ)) (r : Result (Option Event) Cause) (go : Seen → Result (List Event) ScheduleFault) (events : List Event)
    → line_after seen line ≡ r → ((next : Seen) (es : List Event) → go next ≡ Ok es → LinesSay next lines es) → on_line k seen r go ≡ Ok events → LinesSay seen (line ∷ lines) events
one_was seen k line lines (Err cause) go events at more h = absurd (cc)
one_was seen k line lines (Ok None) go events at more h =
    let b = before_was [] events (go seen) h in
    inl (passed_by seen (is_passed line) (is_utf8 line) (event_of line) at, subst (λ (es : List Event). LinesSay seen lines es) b.2 (more seen b.0 b.1))
one_was seen k line lines (Ok (Some e)) go events at more h =
    let b = before_was (e ∷ []) events (go (seen_after seen e)) h in
    inr (e, b.0, said_by seen line e at, more (seen_after seen e) b.0 b.1, sym b.2)

from_was : (seen : Seen) (k : ℕ) (lines : List (List ℕ)) (events : List Event) → events_from seen k lines ≡ Ok events → LinesSay seen lines events
from_was seen k [] events h = cc
from_was seen k (line ∷ lines) events h =
    one_was seen k line lines (line_after seen line) (λ next. events_from next (k + 1) lines) events refl (λ next es g. from_was next (k + 1) lines es g) h

text_was : (text : List ℕ) (events : List Event) (fault : ScheduleFault) (t : Bool) → nat_lt text_limit (length text) ≡ t → cond t (Err fault) (events_from nothing_seen 1 (lines_of text)) ≡ Ok events
    → (length text ≤ text_limit) × LinesSay nothing_seen (lines_of text) events
text_was text events fault true at h = absurd (cc)
text_was text events fault false at h = (ltb-false text_limit (length text) at, from_was nothing_seen 1 (lines_of text) events h)

pub read_texts : ReadTextsAreSchedules
unfolding events_of
read_texts text events h = text_was text events (record { line = 0; cause = TooLong }) (nat_lt text_limit (length text)) refl h

-- what lines say, one after the other, may follow
lines_follow : (seen : Seen) (lines : List (List ℕ)) (es : List Event) → LinesSay seen lines es → IsFollowing seen es
lines_follow seen [] es none = subst (IsFollowing seen) (sym none) tt
lines_follow seen (line ∷ lines) es (inl passed) = lines_follow seen lines es passed.1
lines_follow seen (line ∷ lines) es (inr said) =
    subst (IsFollowing seen) (sym said.4) (said.2.follows, spelled_allowed line said.0 said.2.spells, lines_follow (seen_after seen said.0) lines said.1 said.3)

-- the events of a text may follow one another
pub text_follows : (text : List ℕ) (es : List Event) → events_of text ≡ Ok es → IsFollowing nothing_seen es
text_follows text es is = lines_follow nothing_seen (lines_of text) es (read_texts text es is).1

-- ---- what lines say is read

one_read : (seen : Seen) (line : List ℕ) (event : Event) → Says seen line event → line_after seen line ≡ Ok (Some event)
one_read seen line event h = rw (h.not_passed, h.utf8, lines_read line event h.spells, h.follows) refl

from_read : (seen : Seen) (k : ℕ) (lines : List (List ℕ)) (events : List Event) → LinesSay seen lines events → events_from seen k lines ≡ Ok events
from_read seen k [] events h = ap Ok (sym h)
from_read seen k (line ∷ lines) events (inl h) = rw (h.0, from_read seen (k + 1) lines events h.1) refl
from_read seen k (line ∷ lines) events (inr h) =
    rw (one_read seen line h.0 h.2, from_read (seen_after seen h.0) (k + 1) lines h.1 h.3) (ap Ok (sym h.4))

pub schedules_read : SchedulesAreRead
unfolding events_of
schedules_read text events h = rw (le-ltb text_limit (length text) h.0) (from_read nothing_seen 1 (lines_of text) events h.1)

-- ---- the fault

-- the causes that are looked for once the line spells an event
abbrev is_late : Cause → Bool
is_late NotUtf8 = false
is_late NoCommand = false
is_late cause = true

abbrev AreLate : List (Option Cause) → Type 0
AreLate [] = Unit {0}
AreLate (c ∷ cs) = ((x : Cause) → c ≡ Some x → is_late x ≡ true) × AreLate cs

first_late : (cs : List (Option Cause)) → AreLate cs → (x : Cause) → first_of cs ≡ Some x → is_late x ≡ true
first_late [] h x e = absurd (cc)
first_late (None ∷ cs) h x e = first_late cs h.1 x e
first_late (Some c ∷ cs) h x e = h.0 x e

then_late : (b : Bool) (cause : Cause) → is_late cause ≡ true → (x : Cause) → then_some b cause ≡ Some x → is_late x ≡ true
then_late true cause h x e = let same : cause ≡ x = cc in subst (λ (c : Cause). is_late c ≡ true) same h
then_late false cause h x e = absurd (cc)

unless_late : (names : List (List ℕ)) (name : List ℕ) (x : Cause) → unless_bound names name ≡ Some x → is_late x ≡ true
unless_late names name x e = then_late (not (is_bound names name)) UnknownName refl x e

all_late : (names used : List (List ℕ)) (x : Cause) → unless_all_bound names used ≡ Some x → is_late x ≡ true
all_late names used x e = then_late (is_any_unbound names used) UnknownName refl x e

bound_late : (names : List (List ℕ)) (name : List ℕ) (x : Cause) → if_bound names name ≡ Some x → is_late x ≡ true
bound_late names name x e = then_late (is_bound names name) NameUsed refl x e

inv_late : (seen : Seen) (inv : List ℕ) (x : Cause) → if_inv_given seen inv ≡ Some x → is_late x ≡ true
inv_late seen inv x e = then_late (is_bound seen.invs inv) IdentifierUsed refl x e

given_late : (seen : Seen) (dsa inv : List ℕ) (x : Cause) → if_given seen dsa inv ≡ Some x → is_late x ≡ true
given_late seen dsa inv x e = then_late (is_bound seen.dsas dsa || is_bound seen.invs inv) IdentifierUsed refl x e

full_late : (seen : Seen) (x : Cause) → if_full seen ≡ Some x → is_late x ≡ true
full_late seen x e = then_late (nat_le controller_limit (length seen.controllers)) TooMany refl x e

coming_late : (seen : Seen) (name inv : List ℕ) (how : Coming) (x : Cause) → cause_of_coming seen name inv how ≡ Some x → is_late x ≡ true
coming_late seen name inv (Fresh dsa) x c =
    first_late (if_bound seen.controllers name ∷ if_given seen dsa inv ∷ if_full seen ∷ []) (bound_late seen.controllers name, (given_late seen dsa inv, (full_late seen, tt))) x c
coming_late seen name inv (Installed dsa image) x c =
    first_late (unless_bound seen.images image ∷ if_bound seen.controllers name ∷ if_given seen dsa inv ∷ if_full seen ∷ [])
    (unless_late seen.images image, (bound_late seen.controllers name, (given_late seen dsa inv, (full_late seen, tt)))) x c
coming_late seen name inv (Restored image) x c =
    first_late (unless_bound seen.controllers name ∷ unless_bound seen.images image ∷ if_inv_given seen inv ∷ [])
    (unless_late seen.controllers name, (unless_late seen.images image, (inv_late seen inv, tt))) x c

-- a controller and what it uses
both_late : (seen : Seen) (name : List ℕ) (names : List (List ℕ)) (used : List ℕ) (x : Cause)
    → first_of (unless_bound seen.controllers name ∷ unless_bound names used ∷ []) ≡ Some x → is_late x ≡ true
both_late seen name names used x c =
    first_late (unless_bound seen.controllers name ∷ unless_bound names used ∷ []) (unless_late seen.controllers name, (unless_late names used, tt)) x c

-- a controller, and what it binds
binding_late : (seen : Seen) (name : List ℕ) (names : List (List ℕ)) (bound : List ℕ) (x : Cause)
    → first_of (unless_bound seen.controllers name ∷ if_bound names bound ∷ []) ≡ Some x → is_late x ≡ true
binding_late seen name names bound x c =
    first_late (unless_bound seen.controllers name ∷ if_bound names bound ∷ []) (unless_late seen.controllers name, (bound_late names bound, tt)) x c

making_late : (seen : Seen) (name : List ℕ) (what : Made) (bound : List ℕ) (x : Cause) → cause_of_making seen name what bound ≡ Some x → is_late x ≡ true
making_late seen name (Ask partner max version) bound x c =
    first_late (unless_bound seen.controllers name ∷ unless_bound seen.controllers partner ∷ if_bound seen.requests bound ∷ [])
    (unless_late seen.controllers name, (unless_late seen.controllers partner, (bound_late seen.requests bound, tt))) x c
making_late seen name (Serve request) bound x c =
    first_late (unless_bound seen.controllers name ∷ unless_bound seen.requests request ∷ if_bound seen.replies bound ∷ [])
    (unless_late seen.controllers name, (unless_late seen.requests request, (bound_late seen.replies bound, tt))) x c
making_late seen name Backup bound x c = binding_late seen name seen.images bound x c
making_late seen name Snapshot bound x c = binding_late seen name seen.snapshots bound x c

going_late : (seen : Seen) (name : List ℕ) (what : Exchange) (x : Cause) → cause_of_going seen name what ≡ Some x → is_late x ≡ true
going_late seen name (Pull source max) x c = both_late seen name seen.controllers source x c
going_late seen name (Cycle source max) x c = both_late seen name seen.controllers source x c
going_late seen name (Ring others rounds max) x c = all_late seen.controllers (name ∷ others) x c

cause_late : (seen : Seen) (e : Event) (x : Cause) → cause_after seen e ≡ Some x → is_late x ≡ true
cause_late seen (Time now) x c = absurd (cc)
cause_late seen (Comes name inv how) x c = coming_late seen name inv how x c
cause_late seen (Calls name what) x c = unless_late seen.controllers name x c
cause_late seen (Uses name what bound) x c = both_late seen name (names_used seen what) bound x c
cause_late seen (Binds name what bound) x c = making_late seen name what bound x c
cause_late seen (Asks name what) x c = unless_late seen.controllers name x c
cause_late seen (Goes name what) x c = going_late seen name what x c
cause_late seen (Meets name what) x c = unless_late seen.controllers name x c

late_cause : (seen : Seen) (line : List ℕ) (e : Event) (cause : Cause) → is_utf8 line ≡ true → Spells line e → cause_after seen e ≡ Some cause → is_late cause ≡ true → IsCause seen line cause
late_cause seen line e NotUtf8 u s c l = absurd (cc)
late_cause seen line e NoCommand u s c l = absurd (cc)
late_cause seen line e UnknownName u s c l = (u, (e, s, c))
late_cause seen line e NameUsed u s c l = (u, (e, s, c))
late_cause seen line e IdentifierUsed u s c l = (u, (e, s, c))
late_cause seen line e TooMany u s c l = (u, (e, s, c))
late_cause seen line e TooLong u s c l = (u, (e, s, c))

not_spelled : (line : List ℕ) → event_of line ≡ None → (e : Event) → Spells line e → ⊥
not_spelled line n e s = let some = lines_read line e s in absurd (cc)

cause_by : (seen : Seen) (line : List ℕ) (cause : Cause) (p u : Bool) (o : Option Event) → is_utf8 line ≡ u → event_of line ≡ o
    → cond p (Ok None) (cond u (followed seen o) (Err NotUtf8)) ≡ Err cause → (p ≡ false) × IsCause seen line cause
cause_by seen line cause true u o at is h = absurd (cc)
cause_by seen line cause false false o at is h = let same : NotUtf8 ≡ cause = cc in (refl, subst (λ (c : Cause). IsCause seen line c) same at)
cause_by seen line cause false true None at is h = let same : NoCommand ≡ cause = cc in (refl, subst (λ (c : Cause). IsCause seen line c) same (at, not_spelled line is))
cause_by seen line cause false true (Some e) at is h =
    let c = unless_bad (cause_after seen e) e cause h in
    let s = lines_spelled line e is in
    (refl, late_cause seen line e cause at s c (cause_late seen e cause c))

before_bad : (es : List Event) (r : Result (List Event) ScheduleFault) (fault : ScheduleFault) → before es r ≡ Err fault → r ≡ Err fault
before_bad es (Ok more) fault h = absurd (cc)
before_bad es (Err found) fault h = h

-- one result, for a fault
abbrev err_of : ScheduleFault → Result (List Event) ScheduleFault
err_of fault = Err fault

err_is : (a b : ScheduleFault) → err_of a ≡ err_of b → a ≡ b
err_is a b h = cc

one_bad : (seen : Seen) (k : ℕ) (line : List ℕ) (lines : List (List ℕ)) (r : Result (Option Event) Cause) (go : Seen → Result (List Event) ScheduleFault) (fault : ScheduleFault)
    → line_after seen line ≡ r → ((next : Seen) → go next ≡ Err fault → IsFirstFault next (k + 1) lines fault) → on_line k seen r go ≡ Err fault → IsFirstFault seen k (line ∷ lines) fault
one_bad seen k line lines (Err cause) go fault at more h =
    let same : record { line = k; cause = cause } ≡ fault = err_is _ fault h in
    let c = cause_by seen line cause (is_passed line) (is_utf8 line) (event_of line) refl refl at in
    inr (inr (c.0, ap (λ f. f.line) (sym same), subst (λ (f : ScheduleFault). IsCause seen line f.cause) same c.1))
one_bad seen k line lines (Ok None) go fault at more h =
    inl (passed_by seen (is_passed line) (is_utf8 line) (event_of line) at, more seen (before_bad [] (go seen) fault h))
one_bad seen k line lines (Ok (Some e)) go fault at more h =
    inr (inl (e, said_by seen line e at, more (seen_after seen e) (before_bad (e ∷ []) (go (seen_after seen e)) fault h)))

from_bad : (seen : Seen) (k : ℕ) (lines : List (List ℕ)) (fault : ScheduleFault) → events_from seen k lines ≡ Err fault → IsFirstFault seen k lines fault
from_bad seen k [] fault h = absurd (cc)
from_bad seen k (line ∷ lines) fault h =
    one_bad seen k line lines (line_after seen line) (λ next. events_from next (k + 1) lines) fault refl (λ next g. from_bad next (k + 1) lines fault g) h

text_bad : (text : List ℕ) (fault : ScheduleFault) (t : Bool) → nat_lt text_limit (length text) ≡ t → cond t (bad 0 TooLong) (events_from nothing_seen 1 (lines_of text)) ≡ Err fault → IsFault text fault
text_bad text fault true at h = inl (ltb-true text_limit (length text) at, sym (err_is _ fault h))
text_bad text fault false at h = inr (ltb-false text_limit (length text) at, from_bad nothing_seen 1 (lines_of text) fault h)

pub refused_texts : RefusedTextsHaveTheFault
unfolding events_of
refused_texts text fault h = text_bad text fault (nat_lt text_limit (length text)) refl h

-- ---- a text with a fault is refused

unread_by : (line : List ℕ) (o : Option Event) → event_of line ≡ o → ((e : Event) → Spells line e → ⊥) → event_of line ≡ None
unread_by line None at h = at
unread_by line (Some e) at h = absurd (h e (lines_spelled line e at))

spelled_bad : (seen : Seen) (line : List ℕ) (e : Event) (cause : Cause) → is_passed line ≡ false → is_utf8 line ≡ true → Spells line e → cause_after seen e ≡ Some cause → line_after seen line ≡ Err cause
spelled_bad seen line e cause p u s c = rw (p, u, lines_read line e s, c) refl

line_bad : (seen : Seen) (line : List ℕ) (cause : Cause) → is_passed line ≡ false → IsCause seen line cause → line_after seen line ≡ Err cause
line_bad seen line NotUtf8 p h = rw (p, h) refl
line_bad seen line NoCommand p h = rw (p, h.0, unread_by line (event_of line) refl h.1) refl
line_bad seen line UnknownName p h = spelled_bad seen line h.1.0 UnknownName p h.0 h.1.1 h.1.2
line_bad seen line NameUsed p h = spelled_bad seen line h.1.0 NameUsed p h.0 h.1.1 h.1.2
line_bad seen line IdentifierUsed p h = spelled_bad seen line h.1.0 IdentifierUsed p h.0 h.1.1 h.1.2
line_bad seen line TooMany p h = spelled_bad seen line h.1.0 TooMany p h.0 h.1.1 h.1.2
line_bad seen line TooLong p h = spelled_bad seen line h.1.0 TooLong p h.0 h.1.1 h.1.2

from_refused : (seen : Seen) (k : ℕ) (lines : List (List ℕ)) (fault : ScheduleFault) → IsFirstFault seen k lines fault → events_from seen k lines ≡ Err fault
from_refused seen k [] fault h = absurd h
from_refused seen k (line ∷ lines) fault (inl h) = rw (h.0, from_refused seen (k + 1) lines fault h.1) refl
from_refused seen k (line ∷ lines) fault (inr (inl h)) = rw (one_read seen line h.0 h.1, from_refused (seen_after seen h.0) (k + 1) lines fault h.2) refl
from_refused seen k (line ∷ lines) fault (inr (inr h)) =
    rw (line_bad seen line fault.cause h.0 h.2) (ap (λ n. err_of (record { line = n; cause = fault.cause })) (sym h.1))

text_refused : (text : List ℕ) (fault : ScheduleFault) → IsFault text fault → cond (nat_lt text_limit (length text)) (bad 0 TooLong) (events_from nothing_seen 1 (lines_of text)) ≡ Err fault
text_refused text fault (inl h) = rw (lt-ltb text_limit (length text) h.0) (ap err_of (sym h.1))
text_refused text fault (inr h) = rw (le-ltb text_limit (length text) h.0) (from_refused nothing_seen 1 (lines_of text) fault h.1)

pub faults_refused : FaultyTextsAreRefused
unfolding events_of
faults_refused text fault h = text_refused text fault h
