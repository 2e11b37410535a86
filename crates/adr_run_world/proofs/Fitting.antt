-- Each answer of a line fits in the room that was made for it, but for a report and the answer of a ring.
use Rattle.std.proofs.Common.{◌≡◌, ◌⊎◌, inl, inr, ℕ, zero, suc, ◌+◌, ◌≤◌, Bool, true, false, List, [], ◌∷◌, ◌++◌, length, Option, Some, None, refl, sym, subst, arith}
use Rattle.std.specs.Prelude.{All, codes, nat_le}
use Rattle.std.proofs.lemmas.Bool.{leb-true}
use Rattle.std.proofs.lemmas.List.Elements.{All-append, All-cons, All-nil}
use Rattle.adr_call.specs.declared.answer.Answer.{Answer}
use Rattle.adr_call.specs.declared.event.Event.{Event}
use Rattle.adr_call.specs.declared.event.Event.TheVariants as events
use Rattle.adr_call.specs.declared.event.Coming.{Coming}
use Rattle.adr_call.specs.declared.event.Coming.TheVariants as comings
use Rattle.adr_call.specs.declared.event.Use.{Use}
use Rattle.adr_call.specs.declared.event.Use.TheVariants as used
use Rattle.adr_call.specs.declared.event.Made.{Made}
use Rattle.adr_call.specs.declared.event.Made.TheVariants as mades
use Rattle.adr_call.specs.declared.event.Exchange.{Exchange}
use Rattle.adr_call.specs.declared.event.Exchange.TheVariants as exchanges
use Rattle.adr_call.specs.declared.event.Meeting.{Meeting}
use Rattle.adr_call.specs.declared.event.Meeting.TheVariants as meetings
use Rattle.adr_call.specs.declared.verb.Verb.{Verb}
use Rattle.adr_call.specs.declared.verb.Verb.TheVariants as verbs
use Rattle.adr_call.specs.Verbs.{verb_of_call, verb_of_coming, verb_of_made, verb_of_meeting, verb_of_use, word_of}
use Rattle.adr_call.specs.declared.outcome.Outcome.{Outcome}
use Rattle.adr_call.specs.declared.outcome.Outcome.TheVariants as outcomes
use Rattle.adr_model.specs.Client.{call_meant}
use Rattle.adr_model.specs.Collect.{adopt}
use Rattle.adr_model.specs.Cycles.{Pulled, and_then, pull, pull_asked, pull_served, pull_version, pulls, reply_limit}
use Rattle.adr_model.specs.Serve.{Reply, Request}
use Rattle.adr_model.specs.Store.{Store}
use Rattle.adr_model.specs.Replica.{Replica, ToWrite}
use Rattle.adr_model.specs.Step.{comes, gives, goes, makes, meets, step, told, uses}
use Rattle.adr_model.specs.World.{Gone, Name, Snapshot, World, answer, asks, bound_at, does, nothing, of_made, replica_at, serves_request, stays, with_replica}
use Rattle.adr_model.specs.Write.{Revive}
use Rattle.adr_answers.specs.Room.{IsWithin, result_room}
use Rattle.adr_run_world.specs.Pulls.{IsCycleTurn, IsTurn}
use Rattle.adr_run_world.specs.Room.{names_room, parties_room, room_beside}
use Rattle.adr_run_world.proofs.Brief.{IsBrief, IsBriefly, IsSentBriefly, adopts_brief, asks_brief, backup_brief, called_brief, delivers_brief, does_brief, gone_otherwise, image_brief, made_brief, more_brief, ok_brief, put_back_brief, sent_otherwise, serves_brief, starts_brief}

-- a report may have any length, and the answer of a ring may have another's name
abbrev pub MayLack : Event → Type 0
MayLack (events.Asks name what) = Unit {0}
MayLack (events.Goes name (exchanges.Ring others rounds max)) = Unit {0}
MayLack e = ⊥

-- by the words alone, whatever verbs there are
word_passes : (v : Verb) → nat_le (length (word_of v)) 46 ≡ true
word_passes verbs.Controller = refl
word_passes v = refl

word_short : (v : Verb) → length (word_of v) ≤ 46
word_short v = leb-true (length (word_of v)) 46 (word_passes v)

module _ (names room : ℕ) (enough : names + room_beside ≤ room) where
  fits : (verb name : List ℕ) (o : Outcome) → length verb ≤ 46 → length name ≤ names → IsBrief o → IsWithin room (answer verb name o)
  fits verb name o short known is =
      let small : result_room o ≤ 400 = is.small in
      record { alone = is.alone; enough = omega arith }

  one : (verb name : List ℕ) (o : Outcome) → length verb ≤ 46 → length name ≤ names → IsBrief o → All (IsWithin room) (answer verb name o ∷ [])
  one verb name o short known is = All-cons (IsWithin room) (answer verb name o) [] (fits verb name o short known is) (All-nil (IsWithin room))

  -- the answers of a pull
  module _ (dest source : Name) (dest_known : length dest ≤ names) (source_known : length source ≤ names) where
    served_fits : (w : World) (reply : Option Reply) → All (IsWithin room) (pull_served dest w reply).1
    served_fits w None = All-nil (IsWithin room)
    served_fits w (Some reply) = one (codes "deliver") dest _ (word_short verbs.Deliver) dest_known (delivers_brief w dest (Some reply))

    asked_fits : (w : World) (q : Option Request) → All (IsWithin room) (pull_asked dest source w q).1
    asked_fits w None = All-nil (IsWithin room)
    asked_fits w (Some q) =
        let t = serves_request w source (Some q) in
        All-cons (IsWithin room) (answer (codes "serve") source t.1) (pull_served dest t.0 t.2).1 (fits (codes "serve") source t.1 (word_short verbs.Serve) source_known (serves_brief w source (Some q))) (served_fits t.0 t.2)

    pull_fits : (w : World) (max : ℕ) → All (IsWithin room) (pull w dest source max).1
    pull_fits w max =
        let t = asks w dest source max pull_version in
        All-cons (IsWithin room) (answer (codes "ask") dest t.1) (pull_asked dest source t.0 t.2).1 (fits (codes "ask") dest t.1 (word_short verbs.Ask) dest_known (asks_brief w dest source max pull_version)) (asked_fits t.0 t.2)

    more_fits : All (IsWithin room) (answer (codes "cycle") dest outcomes.More ∷ [])
    more_fits = one (codes "cycle") dest outcomes.More (word_short verbs.Cycle) dest_known more_brief

    then_fits : (p : World × List Answer × Bool) (go : World → World × List Answer) → All (IsWithin room) p.1 → ((v : World) → All (IsWithin room) (go v).1) → All (IsWithin room) (and_then p go).1
    then_fits (v, told, true) go before behind = All-append (IsWithin room) told (go v).1 before (behind v)
    then_fits (v, told, false) go before behind = before

    pulls_fit : (n : ℕ) (w : World) (max : ℕ) → All (IsWithin room) (pulls n w dest source max).1
    pulls_fit zero w max = more_fits
    pulls_fit (suc n) w max = then_fits (pull w dest source max) (λ v. pulls n v dest source max) (pull_fits w max) (λ v. pulls_fit n v max)

    cycle_turn_fits : (turn : ℕ) (w : World) (max : ℕ) (p : Pulled) → IsCycleTurn turn w dest source max p → All (IsWithin room) p.1
    cycle_turn_fits turn w max p (inl is) = subst (λ (q : Pulled). All (IsWithin room) q.1) (sym is.1) (pull_fits w max)
    cycle_turn_fits turn w max p (inr is) = subst (λ (q : Pulled). All (IsWithin room) q.1) (sym is.1) more_fits

-- how each kind of line goes

coming_brief : (w : World) (name : Name) (inv : List ℕ) (how : Coming) → IsBriefly (comes w name inv how)
coming_brief w name inv (comings.Fresh dsa) = ok_brief
coming_brief w name inv (comings.Installed dsa image) =
    let v = gives w (dsa ∷ []) (inv ∷ []) in
    image_brief v (bound_at v.images image) _ (λ i. adopts_brief v (λ r. v.replicas ++ r ∷ []) name (adopt i dsa inv))
coming_brief w name inv (comings.Restored image) =
    let v = gives w [] (inv ∷ []) in
    made_brief IsBriefly (stays v) (gone_otherwise v) (replica_at v name) _ (λ r. image_brief v (bound_at v.images image) _ (λ i. adopts_brief v (with_replica v.replicas) name (adopt i r.safe.dsa inv)))

use_brief : (w : World) (name : Name) (what : Use) (bind : Name) → IsBriefly (uses w name what bind)
use_brief w name used.Deliver bind = delivers_brief w name (bound_at w.replies bind)
use_brief w name (used.Revive guid parent text) bind = image_brief w (bound_at w.images bind) _ (λ i. does_brief w name (ToWrite (Revive i guid parent text) w.time))
use_brief w name used.Rollback bind = made_brief IsBriefly (stays w) (gone_otherwise w) (replica_at w name) _ (λ r. put_back_brief w name (bound_at w.snapshots bind))

making_brief : (w : World) (name : Name) (what : Made) (bind : Name) → IsBriefly (makes w name what bind)
making_brief w name (mades.Ask partner max version) bind = asks_brief w name partner max version
making_brief w name (mades.Serve request) bind = serves_brief w name (bound_at w.requests request)
making_brief w name mades.Backup bind = called_brief IsSentBriefly (nothing w) (sent_otherwise w Store) w name _ (λ r. backup_brief w _)
making_brief w name mades.Snapshot bind = made_brief IsSentBriefly (nothing w) (sent_otherwise w Snapshot) (replica_at w name) _ (λ r. ok_brief)

meeting_brief : (w : World) (r : Replica) (what : Meeting) → IsBriefly (meets w r what)
meeting_brief w r meetings.Stop = ok_brief
meeting_brief w r meetings.Start = starts_brief w r r.standing
meeting_brief w r (meetings.StopAfter calls how) = ok_brief
meeting_brief w r (meetings.Fail calls) = ok_brief

module _ (room : ℕ) where
  -- a line with one answer
  one_fits : (v : Verb) (name : Name) (g : Gone) → length name + room_beside ≤ room → IsBriefly g → All (IsWithin room) (told (word_of v) name g).1
  one_fits v name g enough brief = one (length name) room enough (word_of v) name g.1 (word_short v) (omega arith) brief

  going_fits : (w : World) (name : Name) (what : Exchange) → parties_room name what + room_beside ≤ room → MayLack (events.Goes name what) ⊎ All (IsWithin room) (goes w name what).1
  going_fits w name (exchanges.Pull source max) enough = inr (pull_fits (length name + length source) room enough name source (omega arith) (omega arith) w max)
  going_fits w name (exchanges.Cycle source max) enough = inr (pulls_fit (length name + length source) room enough name source (omega arith) (omega arith) reply_limit w max)
  going_fits w name (exchanges.Ring others rounds max) enough = inl tt

  step_fits : (w : World) (e : Event) → names_room e + room_beside ≤ room → MayLack e ⊎ All (IsWithin room) (step w e).1
  step_fits w (events.Time now) enough = inr (All-nil (IsWithin room))
  step_fits w (events.Comes name inv how) enough = inr (one_fits (verb_of_coming how) name (comes w name inv how) enough (coming_brief w name inv how))
  step_fits w (events.Calls name what) enough = inr (one_fits (verb_of_call what) name (does w name (call_meant what w.time)) enough (does_brief w name (call_meant what w.time)))
  step_fits w (events.Uses name what bind) enough = inr (one_fits (verb_of_use what) name (uses w name what bind) enough (use_brief w name what bind))
  step_fits w (events.Binds name what bind) enough = inr (one_fits (verb_of_made what) name (makes w name what bind) enough (making_brief w name what bind))
  step_fits w (events.Asks name what) enough = inl tt
  step_fits w (events.Goes name what) enough = going_fits w name what enough
  step_fits w (events.Meets name what) enough =
      inr (one_fits (verb_of_meeting what) name (of_made (stays w) (replica_at w name) (λ r. meets w r what)) enough
      (made_brief IsBriefly (stays w) (gone_otherwise w) (replica_at w name) _ (λ r. meeting_brief w r what)))

  whole_fits : (w : World) (e : Event) (p : Pulled) → p ≡ ((step w e).0, (step w e).1, false) → MayLack e ⊎ All (IsWithin room) (step w e).1 → MayLack e ⊎ All (IsWithin room) p.1
  whole_fits w e p is (inl may) = inl may
  whole_fits w e p is (inr all) = inr (subst (λ (q : Pulled). All (IsWithin room) q.1) (sym is) all)

  -- the answers of a turn
  pub turn_fits : (turn : ℕ) (w : World) (e : Event) (p : Pulled) → names_room e + room_beside ≤ room → IsTurn turn w e p → MayLack e ⊎ All (IsWithin room) p.1
  turn_fits turn w (events.Goes name (exchanges.Cycle source max)) p enough is =
      inr (cycle_turn_fits (length name + length source) room enough name source (omega arith) (omega arith) turn w max p is)
  turn_fits turn w e p enough is = whole_fits w e p is (step_fits w e enough)
