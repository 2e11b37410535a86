-- What lines may say, one after the other, may happen.
use Rattle.std.proofs.Common.{◌≡◌, ◌∙◌, ◌⊎◌, inl, inr, refl, sym, ap, subst, ℕ, List, [], ◌∷◌, ◌++◌, Bool, true, false, ◌||◌, Option, Some, None}
use Rattle.std.specs.Str.{bytes_eq}
use Rattle.std.proofs.lemmas.List.{append-nil, map-append}
use Rattle.adr_call.specs.declared.outcome.Outcome.TheVariants as outcomes
use Rattle.adr_call.specs.declared.event.Event.{Event}
use Rattle.adr_call.specs.declared.event.Event.TheVariants as events
use Rattle.adr_call.specs.declared.event.Coming.{Coming}
use Rattle.adr_call.specs.declared.event.Coming.TheVariants as comings
use Rattle.adr_call.specs.declared.event.Made.{Made}
use Rattle.adr_call.specs.declared.event.Made.TheVariants as mades
use Rattle.adr_values.proofs.ExactCalls.{not_then}
use Rattle.adr_schedule.specs.declared.fault.Cause.{Cause}
use Rattle.adr_schedule.specs.Grammar.{IsAllowed}
use Rattle.adr_values.specs.First.{first_of}
use Rattle.adr_schedule.specs.Seen.{Seen, nothing_seen, is_bound, if_bound, if_inv_given, if_given, if_full, unless_bound, cause_after, with_controller, seen_after, IsFollowing}
use Rattle.adr_model.specs.Member.{Member, Each}
use Rattle.adr_model.specs.Client.{call_meant}
use Rattle.adr_model.specs.Store.{empty_state}
use Rattle.adr_model.specs.Collect.{backup, adopt}
use Rattle.adr_model.specs.Replica.{Replica, Book, on_new_disk, begun}
use Rattle.adr_model.specs.World.{Name, World, empty_world, nothing, bound, bound_at, replica_at, of_made, of_controller, asks, serves_request, backed_up, reported}
use Rattle.adr_model.specs.Step.{gives, step}
use Rattle.adr_model.specs.Convergence.{IsNewName, IsNewDsa, IsNewInv, IsUnbound, MayHappen, MayAllHappen}
use Rattle.adr_model.proofs.Members.{member_of_either}
use Rattle.adr_law_convergence.proofs.Found.{same_name_tests}
use Rattle.adr_law_headline.proofs.Naming.{names_of, Stays, adopted_case, does_stay, uses_stay, asks_stay, serves_stay, backups_stay, snapshots_stay, restores_stay, reports_stay, goes_stay, meets_stay}
use Rattle.adr_law_lines.proofs.Asking.{well_asked}

-- what is bound to names is among what lines bound
abbrev AreAmong : {A : Type 0} → List (Name × A) → List Name → Type 0
AreAmong {A} xs names = Each (λ (x : Name × A). Member x.0 names) xs

-- these names are among what lines bound
abbrev AreNamed : List Name → List Name → Type 0
AreNamed ns names = Each (λ n. Member n names) ns

-- what lines bound and gave is what the world has; a line that was answered otherwise than ok bound nothing
record Agrees (seen : Seen) (w : World) : Type 0 where
  controllers : AreNamed (names_of w.replicas) seen.controllers
  dsas : w.given.dsas ≡ seen.dsas
  invs : w.given.invs ≡ seen.invs
  requests : AreAmong w.requests seen.requests
  replies : AreAmong w.replies seen.replies
  images : AreAmong w.images seen.images
  snapshots : AreAmong w.snapshots seen.snapshots

-- a world of the same names and identifiers, with the same bound
agrees_on : (seen : Seen) (w v : World) → Agrees seen w → Stays w v → Agrees seen v
agrees_on seen w v agrees stays = record {
  controllers = subst (λ ns. AreNamed ns seen.controllers) (sym stays.names) agrees.controllers;
  dsas = ap (λ g. g.dsas) stays.given ∙ agrees.dsas;
  invs = ap (λ g. g.invs) stays.given ∙ agrees.invs;
  requests = subst (λ xs. AreAmong xs seen.requests) (sym stays.requests) agrees.requests;
  replies = subst (λ xs. AreAmong xs seen.replies) (sym stays.replies) agrees.replies;
  images = subst (λ xs. AreAmong xs seen.images) (sym stays.images) agrees.images;
  snapshots = subst (λ xs. AreAmong xs seen.snapshots) (sym stays.snapshots) agrees.snapshots;
}

in_front : (xs ys : List Name) (x : Name) → Member x xs → Member x (xs ++ ys)
in_front [] ys x m = absurd m
in_front (y ∷ xs) ys x (inl e) = inl e
in_front (y ∷ xs) ys x (inr m) = inr (in_front xs ys x m)

at_end : (xs : List Name) (x y : Name) → x ≡ y → Member x (xs ++ y ∷ [])
at_end [] x y e = inl e
at_end (z ∷ xs) x y e = inr (at_end xs x y e)

-- names that stay, and one more, where one more is bound
still_named : (ns names : List Name) (name : Name) → AreNamed ns names → AreNamed ns (names ++ name ∷ [])
still_named ns names name among n m = in_front names (name ∷ []) n (among n m)

one_more_named : (rs : List Replica) (r : Replica) (names : List Name) → AreNamed (names_of rs) names → AreNamed (names_of (rs ++ r ∷ [])) (names ++ r.name ∷ [])
one_more_named rs r names among n m =
    by (member_of_either (names_of rs) (r.name ∷ []) n (subst (λ (ns : List Name). Member n ns) (map-append (λ (q : Replica). q.name) rs (r ∷ [])) m))
  where
    by : Member n (names_of rs) ⊎ Member n (r.name ∷ []) → Member n (names ++ r.name ∷ [])
    by (inl o) = in_front names (r.name ∷ []) n (among n o)
    by (inr (inl e)) = at_end names n r.name e
    by (inr (inr o)) = absurd o

-- a name that is bound, or would be
one_more : {A : Type 0} (xs : List (Name × A)) (names : List Name) (name : Name) (o : Option A) → AreAmong xs names → AreAmong (bound xs name o) (names ++ name ∷ [])
one_more xs names name None among x m = in_front names (name ∷ []) x.0 (among x m)
one_more {A = A} xs names name (Some y) among x m = by (member_of_either xs ((name, y) ∷ []) x m)
  where
    by : Member x xs ⊎ Member x ((name, y) ∷ []) → Member x.0 (names ++ name ∷ [])
    by (inl n) = in_front names (name ∷ []) x.0 (among x n)
    by (inr (inl e)) = at_end names x.0 name (ap (λ (z : Name × A). z.0) e)
    by (inr (inr n)) = absurd n

-- ---- causes

neither : (a b : Bool) → (a || b) ≡ false → (a ≡ false) × (b ≡ false)
neither true b h = absurd (cc)
neither false b h = (refl, h)

no_member : (names : List Name) (name : Name) → is_bound names name ≡ false → Member name names → ⊥
no_member [] name h m = m
no_member (n ∷ ns) name h (inl e) = let is : bytes_eq n name ≡ true = same_name_tests n name (sym e) in absurd (cc)
no_member (n ∷ ns) name h (inr m) = no_member ns name (neither (bytes_eq n name) (is_bound ns name) h).1 m

none_of : (cause : Option Cause) (causes : List (Option Cause)) → first_of (cause ∷ causes) ≡ None → (cause ≡ None) × (first_of causes ≡ None)
none_of None causes h = (refl, h)
none_of (Some cause) causes h = absurd (cc)

-- a controller that may come
record IsNew (seen : Seen) (n d i : Name) : Type 0 where
  name : is_bound seen.controllers n ≡ false
  dsa : is_bound seen.dsas d ≡ false
  inv : is_bound seen.invs i ≡ false

new_controller : (seen : Seen) (name dsa inv : Name) → first_of (if_bound seen.controllers name ∷ if_given seen dsa inv ∷ if_full seen ∷ []) ≡ None → IsNew seen name dsa inv
new_controller seen name dsa inv h =
    let first = none_of (if_bound seen.controllers name) (if_given seen dsa inv ∷ if_full seen ∷ []) h in
    let second = none_of (if_given seen dsa inv) (if_full seen ∷ []) first.1 in
    let given = neither (is_bound seen.dsas dsa) (is_bound seen.invs inv) (not_then (is_bound seen.dsas dsa || is_bound seen.invs inv) _ second.0) in
    record { name = not_then (is_bound seen.controllers name) _ first.0; dsa = given.0; inv = given.1 }

-- nothing is bound to a name that no line bound
unbound : {A : Type 0} (xs : List (Name × A)) (names : List Name) (name : Name) → AreAmong xs names → is_bound names name ≡ false → IsUnbound xs name
unbound xs names name among none x m e = no_member names name none (subst (λ n. Member n names) e (among x m))

new_request : (seen : Seen) (name partner bind : Name) (max version : ℕ) → cause_after seen (events.Binds name (mades.Ask partner max version) bind) ≡ None → is_bound seen.requests bind ≡ false
new_request seen name partner bind max version h =
    let first = none_of (unless_bound seen.controllers name) (unless_bound seen.controllers partner ∷ if_bound seen.requests bind ∷ []) h in
    let second = none_of (unless_bound seen.controllers partner) (if_bound seen.requests bind ∷ []) first.1 in
    not_then (is_bound seen.requests bind) _ (none_of (if_bound seen.requests bind) [] second.1).0

new_reply : (seen : Seen) (name request bind : Name) → cause_after seen (events.Binds name (mades.Serve request) bind) ≡ None → is_bound seen.replies bind ≡ false
new_reply seen name request bind h =
    let first = none_of (unless_bound seen.controllers name) (unless_bound seen.requests request ∷ if_bound seen.replies bind ∷ []) h in
    let second = none_of (unless_bound seen.requests request) (if_bound seen.replies bind ∷ []) first.1 in
    not_then (is_bound seen.replies bind) _ (none_of (if_bound seen.replies bind) [] second.1).0

new_image : (seen : Seen) (name bind : Name) → cause_after seen (events.Binds name mades.Backup bind) ≡ None → is_bound seen.images bind ≡ false
new_image seen name bind h =
    let first = none_of (unless_bound seen.controllers name) (if_bound seen.images bind ∷ []) h in
    not_then (is_bound seen.images bind) _ (none_of (if_bound seen.images bind) [] first.1).0

new_snapshot : (seen : Seen) (name bind : Name) → cause_after seen (events.Binds name mades.Snapshot bind) ≡ None → is_bound seen.snapshots bind ≡ false
new_snapshot seen name bind h =
    let first = none_of (unless_bound seen.controllers name) (if_bound seen.snapshots bind ∷ []) h in
    not_then (is_bound seen.snapshots bind) _ (none_of (if_bound seen.snapshots bind) [] first.1).0

new_inv : (seen : Seen) (name image inv : Name) → cause_after seen (events.Comes name inv (comings.Restored image)) ≡ None → is_bound seen.invs inv ≡ false
new_inv seen name image inv h =
    let first = none_of (unless_bound seen.controllers name) (unless_bound seen.images image ∷ if_inv_given seen inv ∷ []) h in
    let second = none_of (unless_bound seen.images image) (if_inv_given seen inv ∷ []) first.1 in
    not_then (is_bound seen.invs inv) _ (none_of (if_inv_given seen inv) [] second.1).0

installed : (seen : Seen) (name dsa image inv : Name) → cause_after seen (events.Comes name inv (comings.Installed dsa image)) ≡ None → IsNew seen name dsa inv
installed seen name dsa image inv h =
    new_controller seen name dsa inv (none_of (unless_bound seen.images image) (if_bound seen.controllers name ∷ if_given seen dsa inv ∷ if_full seen ∷ []) h).1

-- ---- events

name_among : (rs : List Replica) (r : Replica) → Member r rs → Member r.name (names_of rs)
name_among [] r m = absurd m
name_among (q ∷ qs) r (inl e) = inl (ap (λ x. x.name) e)
name_among (q ∷ qs) r (inr m) = inr (name_among qs r m)

-- a name and identifiers that no line bound or gave are new
new_name : (seen : Seen) (w : World) (name dsa inv : Name) → Agrees seen w → IsNew seen name dsa inv → IsNewName w name
new_name seen w name dsa inv agrees is r m e = no_member seen.controllers name is.name (subst (λ n. Member n seen.controllers) e (agrees.controllers r.name (name_among w.replicas r m)))

is_new : (seen : Seen) (w : World) (name dsa inv : Name) → Agrees seen w → IsNew seen name dsa inv → IsNewName w name × (IsNewDsa w dsa × IsNewInv w inv)
is_new seen w name dsa inv agrees is = (
  new_name seen w name dsa inv agrees is,
  ((λ m. no_member seen.dsas dsa is.dsa (subst (λ xs. Member dsa xs) agrees.dsas m)), (λ m. no_member seen.invs inv is.inv (subst (λ xs. Member inv xs) agrees.invs m))),
)

-- the identifiers that a line gives with a controller, whoever is there then
coming : (seen : Seen) (w : World) (name dsa inv : Name) (book : Book) (rs : List Replica) → Agrees seen w → AreNamed (names_of rs) (seen.controllers ++ name ∷ [])
    → Agrees (with_controller seen name dsa inv) (record (gives w (dsa ∷ []) (inv ∷ [])) { book = book; replicas = rs })
coming seen w name dsa inv book rs agrees named = record {
  controllers = named;
  dsas = ap (λ xs. xs ++ dsa ∷ []) agrees.dsas;
  invs = ap (λ xs. xs ++ inv ∷ []) agrees.invs;
  requests = agrees.requests;
  replies = agrees.replies;
  images = agrees.images;
  snapshots = agrees.snapshots;
}

-- a controller that a line gives has come, or hasn't
came : (seen : Seen) (w : World) (r : Replica) (dsa inv : Name) (book : Book) → Agrees seen w
    → Agrees (with_controller seen r.name dsa inv) (record (gives w (dsa ∷ []) (inv ∷ [])) { book = book; replicas = w.replicas ++ r ∷ [] })
came seen w r dsa inv book agrees =
    coming seen w r.name dsa inv book (w.replicas ++ r ∷ []) agrees (one_more_named w.replicas r seen.controllers agrees.controllers)

came_not : (seen : Seen) (w : World) (name dsa inv : Name) → Agrees seen w → Agrees (with_controller seen name dsa inv) (gives w (dsa ∷ []) (inv ∷ []))
came_not seen w name dsa inv agrees =
    coming seen w name dsa inv w.book w.replicas agrees (still_named (names_of w.replicas) seen.controllers name agrees.controllers)

-- one more invocation identifier is given
inv_given : (seen : Seen) (w : World) (inv : Name) → Agrees seen w → Agrees (record seen { invs = seen.invs ++ inv ∷ [] }) (gives w [] (inv ∷ []))
inv_given seen w inv agrees = record {
  controllers = agrees.controllers;
  dsas = append-nil w.given.dsas ∙ agrees.dsas;
  invs = ap (λ xs. xs ++ inv ∷ []) agrees.invs;
  requests = agrees.requests;
  replies = agrees.replies;
  images = agrees.images;
  snapshots = agrees.snapshots;
}

abbrev Goes : Seen → World → Event → Type 0
Goes seen w e = MayHappen w e × Agrees (seen_after seen e) (step w e).0

comes_so : (seen : Seen) (w : World) (name inv : Name) (how : Coming) → Agrees seen w → cause_after seen (events.Comes name inv how) ≡ None → Goes seen w (events.Comes name inv how)
comes_so seen w name inv (comings.Fresh dsa) agrees cause =
    (is_new seen w name dsa inv agrees (new_controller seen name dsa inv cause), came seen w (on_new_disk name (empty_state dsa inv)) dsa inv _ agrees)
comes_so seen w name inv (comings.Installed dsa image) agrees cause =
    let v = gives w (dsa ∷ []) (inv ∷ []) in (
      is_new seen w name dsa inv agrees (installed seen name dsa image inv cause),
      adopted_case (λ g. Agrees (with_controller seen name dsa inv) g.0) v (λ r. v.replicas ++ r ∷ []) name (bound_at v.images image) (λ i. adopt i dsa inv)
          (λ o. came_not seen w name dsa inv agrees) (λ s. came seen w (on_new_disk name s) dsa inv (begun w.book s) agrees),
    )
comes_so seen w name inv (comings.Restored image) agrees cause =
    let v = gives w [] (inv ∷ []) in (
      (λ m. no_member seen.invs inv (new_inv seen name image inv cause) (subst (λ xs. Member inv xs) agrees.invs m)),
      agrees_on (record seen { invs = seen.invs ++ inv ∷ [] }) v (step w (events.Comes name inv (comings.Restored image))).0 (inv_given seen w inv agrees)
          (restores_stay v name (bound_at v.images image) (λ r i. adopt i r.safe.dsa inv)),
    )

binds_so : (seen : Seen) (w : World) (name : Name) (what : Made) (bind : Name) → Agrees seen w → cause_after seen (events.Binds name what bind) ≡ None → Goes seen w (events.Binds name what bind)
binds_so seen w name (mades.Ask partner max version) bind agrees cause =
    let t = asks w name partner max version in let a = agrees_on seen w t.0 agrees (asks_stay w name partner max version) in (
      unbound w.requests seen.requests bind agrees.requests (new_request seen name partner bind max version cause),
      record { controllers = a.controllers; dsas = a.dsas; invs = a.invs; requests = one_more t.0.requests seen.requests bind t.2 a.requests; replies = a.replies; images = a.images; snapshots = a.snapshots },
    )
binds_so seen w name (mades.Serve request) bind agrees cause =
    let t = serves_request w name (bound_at w.requests request) in let a = agrees_on seen w t.0 agrees (serves_stay w name (bound_at w.requests request)) in (
      unbound w.replies seen.replies bind agrees.replies (new_reply seen name request bind cause),
      record { controllers = a.controllers; dsas = a.dsas; invs = a.invs; requests = a.requests; replies = one_more t.0.replies seen.replies bind t.2 a.replies; images = a.images; snapshots = a.snapshots },
    )
binds_so seen w name mades.Backup bind agrees cause =
    let t = of_controller w name (nothing w) (λ r. backed_up w (backup r.safe)) in let a = agrees_on seen w t.0 agrees (backups_stay w name) in (
      unbound w.images seen.images bind agrees.images (new_image seen name bind cause),
      record { controllers = a.controllers; dsas = a.dsas; invs = a.invs; requests = a.requests; replies = a.replies; images = one_more t.0.images seen.images bind t.2 a.images; snapshots = a.snapshots },
    )
binds_so seen w name mades.Snapshot bind agrees cause =
    let t = of_made (nothing w) (replica_at w name) (λ r. (w, outcomes.Ok, Some (record { state = r.read; log = r.device.read_log }))) in
    let a = agrees_on seen w t.0 agrees (snapshots_stay w name (λ r. record { state = r.read; log = r.device.read_log })) in (
      unbound w.snapshots seen.snapshots bind agrees.snapshots (new_snapshot seen name bind cause),
      record { controllers = a.controllers; dsas = a.dsas; invs = a.invs; requests = a.requests; replies = a.replies; images = a.images; snapshots = one_more t.0.snapshots seen.snapshots bind t.2 a.snapshots },
    )

event_may : (seen : Seen) (w : World) (e : Event) → Agrees seen w → cause_after seen e ≡ None → IsAllowed e → Goes seen w e
event_may seen w (events.Time now) agrees cause allowed =
    (tt, record { controllers = agrees.controllers; dsas = agrees.dsas; invs = agrees.invs; requests = agrees.requests; replies = agrees.replies; images = agrees.images; snapshots = agrees.snapshots })
event_may seen w (events.Comes name inv how) agrees cause allowed = comes_so seen w name inv how agrees cause
event_may seen w (events.Calls name what) agrees cause allowed =
    (well_asked what allowed.0, agrees_on seen w (step w (events.Calls name what)).0 agrees (does_stay w name (call_meant what w.time)))
event_may seen w (events.Uses name what bind) agrees cause allowed = (tt, agrees_on seen w (step w (events.Uses name what bind)).0 agrees (uses_stay w name what bind))
event_may seen w (events.Binds name what bind) agrees cause allowed = binds_so seen w name what bind agrees cause
event_may seen w (events.Asks name what) agrees cause allowed =
    (tt, agrees_on seen w (step w (events.Asks name what)).0 agrees (reports_stay w name (λ r. reported w r.safe what)))
event_may seen w (events.Goes name what) agrees cause allowed = (tt, agrees_on seen w (step w (events.Goes name what)).0 agrees (goes_stay w name what))
event_may seen w (events.Meets name what) agrees cause allowed = (tt, agrees_on seen w (step w (events.Meets name what)).0 agrees (meets_stay w name what))

all_may : (es : List Event) (seen : Seen) (w : World) → Agrees seen w → IsFollowing seen es → MayAllHappen w es
all_may [] seen w agrees follow = tt
all_may (e ∷ es) seen w agrees follow = let t = event_may seen w e agrees follow.0 follow.1 in (t.0, all_may es (seen_after seen e) (step w e).0 t.1 follow.2)

-- what may follow from the beginning on may happen
pub following_may : (es : List Event) → IsFollowing nothing_seen es → MayAllHappen empty_world es
following_may es follow = all_may es nothing_seen empty_world (record { controllers = λ n m. absurd m; dsas = refl; invs = refl; requests = λ x m. absurd m; replies = λ x m. absurd m; images = λ x m. absurd m; snapshots = λ x m. absurd m }) follow
