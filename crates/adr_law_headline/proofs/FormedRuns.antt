-- Every line that may happen leaves every state in form, with whatever writes keep of rows, and so does all that stands on its way.
use Rattle.std.proofs.Common.{◌≡◌, inl, inr, ℕ, zero, suc, List, [], ◌∷◌, Bool, true, false, Option, Some, None, refl, sym, subst, arith}
use Rattle.std.specs.Prelude.{IfSome}
use Rattle.std.specs.Str.{is_utf8}
use Rattle.adr_call.specs.declared.answer.Answer.{Answer}
use Rattle.adr_call.specs.declared.outcome.Outcome.TheVariants as outcomes
use Rattle.adr_call.specs.declared.call.Call.{Call}
use Rattle.adr_call.specs.declared.call.Call.TheVariants as calls
use Rattle.adr_call.specs.declared.event.Event.{Event}
use Rattle.adr_call.specs.declared.event.Event.TheVariants as events
use Rattle.adr_call.specs.declared.event.Coming.{Coming}
use Rattle.adr_call.specs.declared.event.Coming.TheVariants as comings
use Rattle.adr_call.specs.declared.event.Use.{Use}
use Rattle.adr_call.specs.declared.event.Use.TheVariants as used
use Rattle.adr_call.specs.declared.event.Made.{Made}
use Rattle.adr_call.specs.declared.event.Made.TheVariants as mades
use Rattle.adr_call.specs.declared.event.Exchange.{Exchange}
use Rattle.adr_call.specs.declared.event.Exchange.TheVariants as exchanges
use Rattle.adr_wire.specs.Ranges.{IsId, IsU32}
use Rattle.adr_model.specs.Member.{Each}
use Rattle.adr_model.specs.Update.{Identifier, Update}
use Rattle.adr_model.specs.Store.{Store, State, updates_of}
use Rattle.adr_model.specs.Serve.{Request, Reply}
use Rattle.adr_model.specs.Write.{Write, Revive, write_meant}
use Rattle.adr_model.specs.Given.{IsWellGiven}
use Rattle.adr_model.specs.Client.{IsWellAsked, call_meant}
use Rattle.adr_model.specs.Collect.{backup}
use Rattle.adr_model.specs.Replica.{ToWrite}
use Rattle.adr_model.specs.World.{World, Name, Snapshot, Sent, empty_world, nothing, bound, bound_at, replica_at, of_made, of_controller, of_image, does, asks, serves_request, backed_up, reported}
use Rattle.adr_model.specs.Cycles.{Pulled, pull_served, pull_asked, pull, and_then, pulls, cycle, reply_limit, pull_version}
use Rattle.adr_model.specs.Rings.{Connection, ring, times, rings}
use Rattle.adr_model.specs.Step.{ClientWrite, write_of, gives, comes, uses, makes, goes, step, after_lines}
use Rattle.adr_model.specs.Convergence.{MayHappen, MayAllHappen, IsAmidCycles, IsOnTheWay}
use Rattle.adr_model.proofs.Ringing.{behind_is_amid}
use Rattle.adr_law_convergence.proofs.Found.{bound_member, each_bound}
use Rattle.adr_law_recorded.specs.Typed.{IsTypedWrite, IsTypedCall, IsTyped}
use Rattle.adr_law_recorded.specs.Ranged.{IsRangedRequest}
use Rattle.adr_law_headline.specs.Throughout.{HoldsAlways}
use Rattle.adr_law_headline.specs.Formed.{most_pulled, HasTypedNumbers, AreAllTyped, RunsAreFormed}
use Rattle.adr_law_headline.specs.Printable.{WritesSo}
use Rattle.adr_law_headline.proofs.Throughout.{follows_always, always_so}
use Rattle.adr_law_headline.proofs.StayingFormed.{IsInForm, IsImageInForm, IsReplyInForm, written_by}
use Rattle.adr_law_headline.proofs.FormedCalls.{IsWorldInForm, MakesInForm, writes_in_form, asks_in_form, serves_in_form, delivers_in_form, collects_in_form, upgrades_in_form, backups_in_form, copies_in_form, meets_in_form, reports_in_form, restores_in_form, installs_in_form, puts_back_in_form, begins_in_form}

-- what is so written keeps what holds of all rows
abbrev pub AreKeptByWrites : (Update → Type 0) → (Write → Type 0) → Type 0
AreKeptByWrites P Q = (s : State) (what : Write) (now : ℕ) → Each P (updates_of s.store.rows) → Q what → Each P (written_by s what now)

-- what a line writes is so: a revival what it writes of any image that is in form, as its own isn't the line's
abbrev pub SaysSo : (Update → Type 0) → (Write → Type 0) → Event → Type 0
SaysSo P Q (events.Uses name (used.Revive guid parent text) image) = (i : Store) → IsImageInForm P i → Q (Revive i guid parent text)
SaysSo P Q e = WritesSo Q e

-- what is asked of a line
record IsLine (P : Update → Type 0) (Q : Write → Type 0) (e : Event) : Type 0 where
  typed : IsTyped e × HasTypedNumbers e
  writes : SaysSo P Q e

module _ (P : Update → Type 0) where
  -- ---- pulls, of a number of items in range

  module _ (dest source : Name) (max : ℕ) (few : IsU32 max) where
    served : (w : World) (o : Option Reply) → IsWorldInForm P w → ((r : Reply) → o ≡ Some r → IsReplyInForm P r) → IsWorldInForm P (pull_served dest w o).0
    served w None is all = is
    served w (Some r) is all = delivers_in_form P w is dest (Some r) all

    asked : (w : World) (o : Option Request) → IsWorldInForm P w → ((q : Request) → o ≡ Some q → IsRangedRequest q) → IsWorldInForm P (pull_asked dest source w o).0
    asked w None is all = is
    asked w (Some q) is all =
        let t = serves_in_form P w is source (Some q) all in served (serves_request w source (Some q)).0 (serves_request w source (Some q)).2 t.0 t.1

    pull_in_form : (w : World) → IsWorldInForm P w → IsWorldInForm P (pull w dest source max).0
    pull_in_form w is = let t = asks_in_form P w is dest source max pull_version few refl in asked (asks w dest source max pull_version).0 (asks w dest source max pull_version).2 t.0 t.1

    then_in_form : (p : Pulled) (go : World → World × List Answer) → IsWorldInForm P p.0 → ((v : World) → IsWorldInForm P v → IsWorldInForm P (go v).0) → IsWorldInForm P (and_then p go).0
    then_in_form p go is goes = by p.2
      where
        by : (b : Bool) → IsWorldInForm P (and_then (p.0, p.1, b) go).0
        by true = goes p.0 is
        by false = is

    pulls_in_form : (n : ℕ) (w : World) → IsWorldInForm P w → IsWorldInForm P (pulls n w dest source max).0
    pulls_in_form zero w is = is
    pulls_in_form (suc n) w is = then_in_form (pull w dest source max) (λ v. pulls n v dest source max) (pull_in_form w is) (λ v h. pulls_in_form n v h)

  amid_in_form : (cs : List Connection) (max : ℕ) → IsU32 max → (w : World) → IsWorldInForm P w → (v : World) → IsAmidCycles cs max w v → IsWorldInForm P v
  amid_in_form [] max few w is v way = subst (IsWorldInForm P) (sym way) is
  amid_in_form (c ∷ cs) max few w is v (inl (n, e)) = subst (IsWorldInForm P) (sym e) (pulls_in_form c.0 c.1 max few n w is)
  amid_in_form (c ∷ cs) max few w is v (inr way) = amid_in_form cs max few (cycle w c.0 c.1 max).0 (pulls_in_form c.0 c.1 max few reply_limit w is) v way

  goes_in_form : (w : World) → IsWorldInForm P w → (name : Name) (what : Exchange) → IsU32 (most_pulled what) → IsWorldInForm P (goes w name what).0
  goes_in_form w is name (exchanges.Pull source max) few = pull_in_form name source max few w is
  goes_in_form w is name (exchanges.Cycle source max) few = pulls_in_form name source max few reply_limit w is
  goes_in_form w is name (exchanges.Ring others rounds max) few = amid_in_form (times rounds (ring name others)) max few w is (rings w name others rounds max).0 (behind_is_amid name others rounds max w)

  -- ---- what is bound

  with_bound : (w : World) (requests : List (Name × Request)) (replies : List (Name × Reply)) (images : List (Name × Store)) (snapshots : List (Name × Snapshot)) → IsWorldInForm P w
      → Each (λ (q : Name × Request). IsRangedRequest q.1) requests → Each (λ (r : Name × Reply). IsReplyInForm P r.1) replies
      → Each (λ (i : Name × Store). IsImageInForm P i.1) images → Each (λ (s : Name × Snapshot). IsInForm P s.1.state) snapshots
      → IsWorldInForm P (record w { requests = requests; replies = replies; images = images; snapshots = snapshots })
  with_bound w requests replies images snapshots is q r i s = record { time = is.time; replicas = is.replicas; requests = q; replies = r; images = i; snapshots = s }

  bound_request : (t : Sent Request) (bind : Name) → MakesInForm P IsRangedRequest t → IsWorldInForm P (record t.0 { requests = bound t.0.requests bind t.2 })
  bound_request t bind makes = let is = makes.0 in
      with_bound t.0 (bound t.0.requests bind t.2) t.0.replies t.0.images t.0.snapshots is (each_bound IsRangedRequest t.0.requests bind t.2 is.requests makes.1) is.replies is.images is.snapshots

  bound_reply : (t : Sent Reply) (bind : Name) → MakesInForm P (IsReplyInForm P) t → IsWorldInForm P (record t.0 { replies = bound t.0.replies bind t.2 })
  bound_reply t bind makes = let is = makes.0 in
      with_bound t.0 t.0.requests (bound t.0.replies bind t.2) t.0.images t.0.snapshots is is.requests (each_bound (IsReplyInForm P) t.0.replies bind t.2 is.replies makes.1) is.images is.snapshots

  bound_image : (t : Sent Store) (bind : Name) → MakesInForm P (IsImageInForm P) t → IsWorldInForm P (record t.0 { images = bound t.0.images bind t.2 })
  bound_image t bind makes = let is = makes.0 in
      with_bound t.0 t.0.requests t.0.replies (bound t.0.images bind t.2) t.0.snapshots is is.requests is.replies (each_bound (IsImageInForm P) t.0.images bind t.2 is.images makes.1) is.snapshots

  bound_snapshot : (t : Sent Snapshot) (bind : Name) → MakesInForm P (λ (s : Snapshot). IsInForm P s.state) t → IsWorldInForm P (record t.0 { snapshots = bound t.0.snapshots bind t.2 })
  bound_snapshot t bind makes = let is = makes.0 in
      with_bound t.0 t.0.requests t.0.replies t.0.images (bound t.0.snapshots bind t.2) is is.requests is.replies is.images
      (each_bound (λ (s : Snapshot). IsInForm P s.state) t.0.snapshots bind t.2 is.snapshots makes.1)

  -- ---- lines

  -- a world of the same controllers, replies, images and snapshots
  given_more : (w : World) (dsas invs : List Name) → IsWorldInForm P w → IsWorldInForm P (gives w dsas invs)
  given_more w dsas invs is = record { time = is.time; replicas = is.replicas; requests = is.requests; replies = is.replies; images = is.images; snapshots = is.snapshots }

  module _ (Q : Write → Type 0) (keeps : AreKeptByWrites P Q) where
    written : (w : World) → IsWorldInForm P w → (name : Name) (what : Write) → IsWellGiven what → IsTypedWrite what → Q what → IsWorldInForm P (does w name (ToWrite what w.time)).0
    written w is name what given typed so = writes_in_form P w is name what given typed (λ r m. keeps r.safe what w.time (is.replicas r m).0.rows so)

    revived : (w : World) → IsWorldInForm P w → (name : Name) (guid parent : Identifier) (text : List ℕ) → IsId guid × IsId parent × (is_utf8 text ≡ true)
        → ((i : Store) → IsImageInForm P i → Q (Revive i guid parent text)) → (o : Option Store) → ((i : Store) → o ≡ Some i → IsImageInForm P i)
        → IsWorldInForm P (of_image w o (λ i. does w name (ToWrite (Revive i guid parent text) w.time))).0
    revived w is name guid parent text typed so None all = is
    revived w is name guid parent text typed so (Some i) all =
        let image = all i refl in written w is name (Revive i guid parent text) image.formed (image.spelled, typed.0, typed.1, typed.2) (so i image)

    -- a controller comes to be, or comes back
    comes_in_form : (w : World) → IsWorldInForm P w → (name : Name) (inv : Identifier) (how : Coming) → IsTyped (events.Comes name inv how) → IsWorldInForm P (comes w name inv how).0
    comes_in_form w is name inv (comings.Fresh dsa) typed = begins_in_form P (gives w (dsa ∷ []) (inv ∷ [])) (given_more w (dsa ∷ []) (inv ∷ []) is) name dsa inv typed.0 typed.1
    comes_in_form w is name inv (comings.Installed dsa image) typed = installs_in_form P (gives w (dsa ∷ []) (inv ∷ [])) (given_more w (dsa ∷ []) (inv ∷ []) is) name image dsa inv typed.0 typed.1
    comes_in_form w is name inv (comings.Restored image) typed = restores_in_form P (gives w [] (inv ∷ [])) (given_more w [] (inv ∷ []) is) name image inv typed

    calls_in_form : (w : World) → IsWorldInForm P w → (name : Name) (what : Call) → IsWellAsked what → IsTypedCall what → SaysSo P Q (events.Calls name what) → IsWorldInForm P (does w name (call_meant what w.time)).0
    calls_in_form w is name (calls.Write what) may typed so = written w is name (write_meant what) may typed so
    calls_in_form w is name (calls.Collect lifetime) may typed so = collects_in_form P w is name lifetime
    calls_in_form w is name calls.Upgrade may typed so = upgrades_in_form P w is name

    -- a controller uses what is bound to a name, and binds what it makes
    uses_in_form : (w : World) → IsWorldInForm P w → (name : Name) (what : Use) (bind : Name) → IsTyped (events.Uses name what bind) → SaysSo P Q (events.Uses name what bind) → IsWorldInForm P (uses w name what bind).0
    uses_in_form w is name used.Deliver bind typed so = delivers_in_form P w is name (bound_at w.replies bind) (λ r e. bound_member (IsReplyInForm P) w.replies bind r is.replies e)
    uses_in_form w is name (used.Revive guid parent text) bind typed so = revived w is name guid parent text typed so (bound_at w.images bind) (λ i e. bound_member (IsImageInForm P) w.images bind i is.images e)
    uses_in_form w is name used.Rollback bind typed so = puts_back_in_form P w is name bind

    makes_in_form : (w : World) → IsWorldInForm P w → (name : Name) (what : Made) (bind : Name) → IsTyped (events.Binds name what bind) → HasTypedNumbers (events.Binds name what bind) → IsWorldInForm P (makes w name what bind).0
    makes_in_form w is name (mades.Ask partner max version) bind typed numbers = bound_request (asks w name partner max version) bind (asks_in_form P w is name partner max version numbers typed)
    makes_in_form w is name (mades.Serve request) bind typed numbers =
        bound_reply (serves_request w name (bound_at w.requests request)) bind (serves_in_form P w is name (bound_at w.requests request) (λ q e. bound_member IsRangedRequest w.requests request q is.requests e))
    makes_in_form w is name mades.Backup bind typed numbers = bound_image (of_controller w name (nothing w) (λ r. backed_up w (backup r.safe))) bind (backups_in_form P w is name)
    makes_in_form w is name mades.Snapshot bind typed numbers =
        bound_snapshot (of_made (nothing w) (replica_at w name) (λ r. (w, outcomes.Ok, Some (record { state = r.read; log = r.device.read_log })))) bind (copies_in_form P w is name)

    event_in_form : (w : World) (is : IsWorldInForm P w) (e : Event) → MayHappen w e → IsTyped e × HasTypedNumbers e → SaysSo P Q e → IsWorldInForm P (step w e).0
    event_in_form w is (events.Time now) may typed so = record { time = typed.1; replicas = is.replicas; requests = is.requests; replies = is.replies; images = is.images; snapshots = is.snapshots }
    event_in_form w is (events.Comes name inv how) may typed so = comes_in_form w is name inv how typed.0
    event_in_form w is (events.Calls name what) may typed so = calls_in_form w is name what may typed.0 so
    event_in_form w is (events.Uses name what bind) may typed so = uses_in_form w is name what bind typed.0 so
    event_in_form w is (events.Binds name what bind) may typed so = makes_in_form w is name what bind typed.0 typed.1
    event_in_form w is (events.Asks name what) may typed so = reports_in_form P w is name (λ r. reported w r.safe what)
    event_in_form w is (events.Goes name what) may typed so = goes_in_form w is name what typed.1
    event_in_form w is (events.Meets name what) may typed so = meets_in_form P w is name what

    -- ---- runs

    way_in_form : (w : World) (e : Event) → IsWorldInForm P w → MayHappen w e → IsLine P Q e → (v : World) → IsOnTheWay w e v → IsWorldInForm P v
    way_in_form w (events.Goes name (exchanges.Cycle source max)) is may so v way = subst (IsWorldInForm P) (sym way.1) (pulls_in_form name source max so.typed.1 way.0 w is)
    way_in_form w (events.Goes name (exchanges.Ring others rounds max)) is may so v way = amid_in_form (times rounds (ring name others)) max so.typed.1 w is v way
    way_in_form w e is may so v way = subst (IsWorldInForm P) (sym way) (event_in_form w is e may so.typed so.writes)

    lines_in_form : (es : List Event) (w : World) → IsWorldInForm P w → MayAllHappen w es → Each (IsLine P Q) es → IsWorldInForm P (after_lines w es)
    lines_in_form [] w is may so = is
    lines_in_form (e ∷ es) w is may so = let t = so e (inl refl) in lines_in_form es (step w e).0 (event_in_form w is e may.0 t.typed t.writes) may.1 (λ x m. so x (inr m))

    pub runs_in_form : (es : List Event) → MayAllHappen empty_world es → AreAllTyped es → Each (SaysSo P Q) es → HoldsAlways es (IsWorldInForm P)
    runs_in_form es may typed so =
        always_so es may (IsWorldInForm P) (IsLine P Q) (λ e m. record { typed = typed e m; writes = so e m }) (λ fs all each. lines_in_form fs empty_world empty all each) way_in_form
      where
        empty : IsWorldInForm P empty_world
        empty = record { time = omega arith; replicas = λ r m. absurd m; requests = λ q m. absurd m; replies = λ r m. absurd m; images = λ i m. absurd m; snapshots = λ s m. absurd m }

-- nothing is asked of writes
any_write : (o : Option ClientWrite) → IfSome o (λ (x : ClientWrite). Unit {0})
any_write None = tt
any_write (Some x) = tt

any_said : (P : Update → Type 0) (e : Event) → SaysSo P (λ what. Unit {0}) e
any_said P (events.Uses name (used.Revive guid parent text) image) = λ i is. tt
any_said P e = any_write (write_of empty_world e)

pub runs_are_formed : RunsAreFormed
runs_are_formed es may typed = follows_always es form (λ w is r m. let both = is.replicas r m in (both.0.logged, both.1.logged))
  where
    form : HoldsAlways es (IsWorldInForm (λ u. Unit {0}))
    form = runs_in_form (λ u. Unit {0}) (λ what. Unit {0}) (λ s what now each so u n. tt) es may typed (λ e n. any_said (λ u. Unit {0}) e)
