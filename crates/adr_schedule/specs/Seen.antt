-- What earlier lines bound and gave, and whether an event may follow them.
use Rattle.std.specs.Prelude.{◌≡◌, ℕ, List, [], ◌∷◌, ◌++◌, length, Bool, not, ◌||◌, nat_le, Option, None}
use Rattle.std.specs.Bool.{then_some}
use Rattle.std.specs.List.{list_any}
use Rattle.std.specs.Str.{bytes_eq}
use Rattle.adr_values.specs.First.{first_of}
use Rattle.adr_call.specs.declared.event.Event.{Event}
use Rattle.adr_call.specs.declared.event.Coming.{Coming}
use Rattle.adr_call.specs.declared.event.Use.{Use}
use Rattle.adr_call.specs.declared.event.Made.{Made}
use Rattle.adr_call.specs.declared.event.Exchange.{Exchange}
use Rattle.adr_call.specs.declared.event.Event.TheVariants.{Time, Comes, Calls, Uses, Binds, Asks, Goes, Meets}
use Rattle.adr_call.specs.declared.event.Coming.TheVariants.{Fresh, Installed, Restored}
use Rattle.adr_call.specs.declared.event.Use.TheVariants.{Deliver, Revive, Rollback}
use Rattle.adr_call.specs.declared.event.Made.TheVariants.{Ask, Serve, Backup, Snapshot}
use Rattle.adr_call.specs.declared.event.Exchange.TheVariants.{Pull, Cycle, Ring}
use Rattle.adr_schedule.specs.declared.fault.Cause.{Cause}
use Rattle.adr_schedule.specs.declared.fault.Cause.TheVariants.{UnknownName, NameUsed, IdentifierUsed, TooMany}
use Rattle.adr_schedule.specs.Limits.{controller_limit}
use Rattle.adr_schedule.specs.Grammar.{IsAllowed}

-- the names that lines bound, by kind, and the identifiers that they gave, in order
pub record Seen : Type 0 where
  pub controllers : List (List ℕ)
  pub requests : List (List ℕ)
  pub replies : List (List ℕ)
  pub images : List (List ℕ)
  pub snapshots : List (List ℕ)
  pub dsas : List (List ℕ)
  pub invs : List (List ℕ)

abbrev pub nothing_seen : Seen
nothing_seen = record { controllers = []; requests = []; replies = []; images = []; snapshots = []; dsas = []; invs = [] }

abbrev pub is_bound : List (List ℕ) → List ℕ → Bool
is_bound names name = list_any (λ bound. bytes_eq bound name) names

-- a name that a line uses was bound
abbrev pub unless_bound : List (List ℕ) → List ℕ → Option Cause
unless_bound names name = then_some (not (is_bound names name)) UnknownName

-- a name that a line binds was bound before
abbrev pub if_bound : List (List ℕ) → List ℕ → Option Cause
if_bound names name = then_some (is_bound names name) NameUsed

-- an invocation identifier that a line gives was given before
abbrev pub if_inv_given : Seen → List ℕ → Option Cause
if_inv_given seen inv = then_some (is_bound seen.invs inv) IdentifierUsed

-- one of the identifiers that a line gives was given before
abbrev pub if_given : Seen → List ℕ → List ℕ → Option Cause
if_given seen dsa inv = then_some (is_bound seen.dsas dsa || is_bound seen.invs inv) IdentifierUsed

-- there are as many controllers as there may be
abbrev pub if_full : Seen → Option Cause
if_full seen = then_some (nat_le controller_limit (length seen.controllers)) TooMany

abbrev pub is_any_unbound : List (List ℕ) → List (List ℕ) → Bool
is_any_unbound names used = list_any (λ (name : List ℕ). not (is_bound names name)) used

-- why names that a line uses are not all bound
abbrev pub unless_all_bound : List (List ℕ) → List (List ℕ) → Option Cause
unless_all_bound names used = then_some (is_any_unbound names used) UnknownName

-- why a controller may not come to be, or come back, so
abbrev pub cause_of_coming : Seen → List ℕ → List ℕ → Coming → Option Cause
cause_of_coming seen name inv (Fresh dsa) = first_of (if_bound seen.controllers name ∷ if_given seen dsa inv ∷ if_full seen ∷ [])
cause_of_coming seen name inv (Installed dsa image) =
    first_of (unless_bound seen.images image ∷ if_bound seen.controllers name ∷ if_given seen dsa inv ∷ if_full seen ∷ [])
cause_of_coming seen name inv (Restored image) =
    first_of (unless_bound seen.controllers name ∷ unless_bound seen.images image ∷ if_inv_given seen inv ∷ [])

-- the names of what is used
abbrev pub names_used : Seen → Use → List (List ℕ)
names_used seen Deliver = seen.replies
names_used seen (Revive guid parent text) = seen.images
names_used seen Rollback = seen.snapshots

-- why a controller may not make this and bind it to a name
abbrev pub cause_of_making : Seen → List ℕ → Made → List ℕ → Option Cause
cause_of_making seen name (Ask partner max version) bound =
    first_of (unless_bound seen.controllers name ∷ unless_bound seen.controllers partner ∷ if_bound seen.requests bound ∷ [])
cause_of_making seen name (Serve request) bound =
    first_of (unless_bound seen.controllers name ∷ unless_bound seen.requests request ∷ if_bound seen.replies bound ∷ [])
cause_of_making seen name Backup bound = first_of (unless_bound seen.controllers name ∷ if_bound seen.images bound ∷ [])
cause_of_making seen name Snapshot bound = first_of (unless_bound seen.controllers name ∷ if_bound seen.snapshots bound ∷ [])

-- why controllers may not pull so
abbrev pub cause_of_going : Seen → List ℕ → Exchange → Option Cause
cause_of_going seen name (Pull source max) = first_of (unless_bound seen.controllers name ∷ unless_bound seen.controllers source ∷ [])
cause_of_going seen name (Cycle source max) = first_of (unless_bound seen.controllers name ∷ unless_bound seen.controllers source ∷ [])
cause_of_going seen name (Ring others rounds max) = unless_all_bound seen.controllers (name ∷ others)

-- why an event may not follow, if it may not
abbrev pub cause_after : Seen → Event → Option Cause
cause_after seen (Time now) = None
cause_after seen (Comes name inv how) = cause_of_coming seen name inv how
cause_after seen (Calls name what) = unless_bound seen.controllers name
cause_after seen (Uses name what bound) = first_of (unless_bound seen.controllers name ∷ unless_bound (names_used seen what) bound ∷ [])
cause_after seen (Binds name what bound) = cause_of_making seen name what bound
cause_after seen (Asks name what) = unless_bound seen.controllers name
cause_after seen (Goes name what) = cause_of_going seen name what
cause_after seen (Meets name what) = unless_bound seen.controllers name

-- one more controller, with the identifiers that its line gives
abbrev pub with_controller : Seen → List ℕ → List ℕ → List ℕ → Seen
with_controller seen name dsa inv =
    record seen { controllers = seen.controllers ++ name ∷ []; dsas = seen.dsas ++ dsa ∷ []; invs = seen.invs ++ inv ∷ [] }

abbrev pub with_coming : Seen → List ℕ → List ℕ → Coming → Seen
with_coming seen name inv (Fresh dsa) = with_controller seen name dsa inv
with_coming seen name inv (Installed dsa image) = with_controller seen name dsa inv
with_coming seen name inv (Restored image) = record seen { invs = seen.invs ++ inv ∷ [] }

-- one more name of what is made
abbrev pub with_bound : Seen → Made → List ℕ → Seen
with_bound seen (Ask partner max version) bound = record seen { requests = seen.requests ++ bound ∷ [] }
with_bound seen (Serve request) bound = record seen { replies = seen.replies ++ bound ∷ [] }
with_bound seen Backup bound = record seen { images = seen.images ++ bound ∷ [] }
with_bound seen Snapshot bound = record seen { snapshots = seen.snapshots ++ bound ∷ [] }

abbrev pub seen_after : Seen → Event → Seen
seen_after seen (Comes name inv how) = with_coming seen name inv how
seen_after seen (Binds name what bound) = with_bound seen what bound
seen_after seen _ = seen

-- each event may follow those before it
abbrev pub IsFollowing : Seen → List Event → Type 0
IsFollowing seen [] = Unit {0}
IsFollowing seen (e ∷ es) = (cause_after seen e ≡ None) × IsAllowed e × IsFollowing (seen_after seen e) es
