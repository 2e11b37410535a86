-- Every line that may happen keeps a world sound, as long as it stays clean.
use Rattle.std.proofs.Common.{◌≡◌, ℕ, true, [], ◌∷◌, Option, Some, None, refl, sym, subst}
use Rattle.adr_call.specs.declared.outcome.Outcome.{Outcome}
use Rattle.adr_call.specs.declared.outcome.Outcome.TheVariants as outcomes
use Rattle.adr_call.specs.declared.call.Call.{Call as Asked}
use Rattle.adr_call.specs.declared.call.Call.TheVariants as calls
use Rattle.adr_call.specs.declared.event.Event.{Event}
use Rattle.adr_call.specs.declared.event.Event.TheVariants as events
use Rattle.adr_call.specs.declared.event.Coming.{Coming}
use Rattle.adr_call.specs.declared.event.Coming.TheVariants as comings
use Rattle.adr_call.specs.declared.event.Use.{Use}
use Rattle.adr_call.specs.declared.event.Use.TheVariants as used
use Rattle.adr_call.specs.declared.event.Made.{Made}
use Rattle.adr_call.specs.declared.event.Made.TheVariants as mades
use Rattle.adr_model.specs.Member.{Member}
use Rattle.adr_model.specs.Update.{Identifier}
use Rattle.adr_model.specs.Serve.{Request, Reply}
use Rattle.adr_model.specs.Client.{IsWellAsked, call_meant, done}
use Rattle.adr_model.specs.Write.{Revive}
use Rattle.adr_model.specs.Collect.{backup}
use Rattle.adr_model.specs.Replica.{Book, Call, ToWrite, Up, Down, Replica, device_settled}
use Rattle.adr_model.specs.World.{Name, World, Snapshot, Gone, Sent, stays, nothing, bound, bound_at, does, asks, serves_request, delivered, delivers, after_call, backed_up, of_made, put_back, of_controller, replica_at, reported}
use Rattle.adr_model.specs.Cycles.{pull, pulls, pull_version}
use Rattle.adr_model.specs.Step.{comes, uses, made_bound, makes, step}
use Rattle.adr_model.specs.Sound.{IsSoundCall, IsSoundRequest, IsSoundReply, IsSoundStore, IsSoundWorld, IsTraced}
use Rattle.adr_model.specs.Convergence.{MayCome, MayHappen}
use Rattle.adr_law_convergence.proofs.Found.{bound_member}
use Rattle.adr_law_convergence.proofs.Reached.{made_case, reached_case, image_case, installs_case, restores_case, meets_case}
use Rattle.adr_law_convergence.proofs.Acting.{planned, stopped, started_sound, call_sound, take_sound}
use Rattle.adr_law_convergence.proofs.Binding.{Makes, only_made, IsRequest, IsReply, IsImage, asks_sound, serves_sound, backups_sound, requested, replied, imaged, aside, telling, telling_sound, replies_are_sound}
use Rattle.adr_law_convergence.proofs.Exchanges.{Sends, IsKeptByCalls, pull_so, pulls_so, goes_so}
use Rattle.adr_law_convergence.proofs.Coming.{given_sound, new_comes, installed, restored}

asked_sound : (book : Book) (what : Asked) (now : ℕ) → IsWellAsked what → IsSoundCall book (call_meant what now)
asked_sound book (calls.Write what) now is = is
asked_sound book (calls.Collect lifetime) now is = tt
asked_sound book calls.Upgrade now is = tt

module _ (w : World) (sound : IsSoundWorld w) where
  abbrev Sound : Gone → Type 0
  Sound g = IsSoundWorld g.0

  same : (x : Outcome) → Sound (w, x)
  same x = sound

  does_sound : (name : Name) (call : Call) → IsSoundCall w.book call → Sound (does w name call)
  does_sound name call is = reached_case Sound w name (stays w) same (λ r. after_call w r call (done r.safe call)) (λ r reached up. call_sound w sound r reached.there up call is)

  -- what is bound to a name is a sound message, or a sound image
  request_bound : (name : Name) (q : Request) → bound_at w.requests name ≡ Some q → IsSoundRequest w.book q
  request_bound name q e = bound_member (IsSoundRequest w.book) w.requests name q sound.requests e

  reply_bound : (name : Name) (r : Reply) → bound_at w.replies name ≡ Some r → IsSoundReply w.book r
  reply_bound name r e = bound_member (IsSoundReply w.book) w.replies name r sound.replies e

  pub delivers_sound : (name : Name) (o : Option Reply) → ((r : Reply) → o ≡ Some r → IsReply w r) → Sound (delivers w name o)
  delivers_sound name o all = reached_case Sound w name (stays w) same (λ r. delivered w r o) (λ r called up. by r called.there up o all)
    where
      by : (r : Replica) → Member r w.replicas → r.standing ≡ Up → (p : Option Reply) → ((q : Reply) → p ≡ Some q → IsReply w q) → Sound (delivered w r p)
      by r there up None given = sound
      by r there up (Some q) given = take_sound w sound r there up q (given q refl).0 (given q refl).1

-- ---- pulls

-- the calls of a pull keep worlds sound, by what holds of their answers
pub calls_sound : (P : Outcome → Type 0) → ((w : World) (name partner : Name) (max : ℕ) → IsSoundWorld w → P (asks w name partner max pull_version).1)
    → ((w : World) (name : Name) (q : Request) → IsSoundWorld w → IsSoundRequest w.book q → P (serves_request w name (Some q)).1)
    → ((w : World) (name : Name) (r : Reply) → IsSoundWorld w → IsSoundReply w.book r → P (delivers w name (Some r)).1)
    → P outcomes.More → IsKeptByCalls IsSoundWorld IsRequest IsReply P
calls_sound P asking serving delivering more = record {
  asks = λ w name partner max sound. made w IsRequest (asks w name partner max pull_version) (asks_sound w sound name partner max pull_version) sound (asking w name partner max sound);
  serves = λ w name q sound is. made w IsReply (serves_request w name (Some q)) (serves_sound w sound name (Some q) (only_made (IsSoundRequest w.book) q is.0)) sound (serving w name q sound is.0);
  delivers = λ w name r sound is. (delivers_sound w sound name (Some r) (only_made (IsReply w) r is), delivering w name r sound is.0);
  more = more;
}
  where
    made : {A : Type 0} (w : World) (M : World → A → Type 0) (t : Sent A) → Makes w M t → IsSoundWorld w → P t.1 → Sends IsSoundWorld M P t
    made w M t makes sound is = (subst IsSoundWorld (sym makes.2) (telling_sound w sound makes.0 makes.1), (is, λ x e. subst (λ (v : World). M v x) (sym makes.2) (makes.3 x e)))

only_worlds : IsKeptByCalls IsSoundWorld IsRequest IsReply (λ o. Unit {0})
only_worlds = calls_sound (λ o. Unit {0}) (λ w name partner max sound. tt) (λ w name q sound is. tt) (λ w name r sound is. tt) tt

pub pull_sound : (w : World) → IsSoundWorld w → (dest source : Name) (max : ℕ) → IsSoundWorld (pull w dest source max).0
pull_sound w sound dest source max = (pull_so IsSoundWorld IsRequest IsReply (λ o. Unit {0}) only_worlds dest source max w sound).0

pub pulls_sound : (w : World) → IsSoundWorld w → (dest source : Name) (max n : ℕ) → IsSoundWorld (pulls n w dest source max).0
pulls_sound w sound dest source max n = (pulls_so IsSoundWorld IsRequest IsReply (λ o. Unit {0}) only_worlds dest source max n w sound).0

-- ---- lines

module _ (w : World) (sound : IsSoundWorld w) where
  abbrev SoundBehind : Gone → Type 0
  SoundBehind g = IsSoundWorld g.0

  comes_sound : (name : Name) (inv : Identifier) (how : Coming) → MayCome w name inv how → SoundBehind (comes w name inv how)
  comes_sound name inv (comings.Fresh dsa) may = new_comes w sound inv may.1.1 name dsa may.0 may.1.0
  comes_sound name inv (comings.Installed dsa image) may = installs_case SoundBehind w name inv image dsa (given_sound w (dsa ∷ []) (inv ∷ []) sound)
      (λ i e. installed w sound inv may.1.1 name i (bound_member (IsSoundStore w.book) w.images image i sound.images e) (bound_member (IsTraced w) w.images image i sound.identifiers.images e) dsa may.0 may.1.0)
  comes_sound name inv (comings.Restored image) may = restores_case SoundBehind w name inv image (λ o plain. given_sound w [] (inv ∷ []) sound)
      (λ r called i e. restored w sound inv may name i (bound_member (IsSoundStore w.book) w.images image i sound.images e) (bound_member (IsTraced w) w.images image i sound.identifiers.images e) r called.there called.name)

  -- a world into which a snapshot was put back isn't clean
  put_back_so : (name : Name) (o : Option Snapshot) → (put_back w name o).0.clean ≡ true → SoundBehind (put_back w name o)
  put_back_so name None clean = sound
  put_back_so name (Some s) clean = absurd (cc)

  uses_sound : (name bind : Name) (what : Use) → (uses w name what bind).0.clean ≡ true → SoundBehind (uses w name what bind)
  uses_sound name bind used.Deliver clean = delivers_sound w sound name (bound_at w.replies bind) (λ r e. bound_member (IsReply w) w.replies bind r (replies_are_sound w sound) e)
  uses_sound name bind (used.Revive guid parent text) clean =
      image_case SoundBehind w (bound_at w.images bind) (λ i. does w name (ToWrite (Revive i guid parent text) w.time)) sound
      (λ i e. does_sound w sound name (ToWrite (Revive i guid parent text) w.time) (bound_member (IsSoundStore w.book) w.images bind i sound.images e).formed)
  uses_sound name bind used.Rollback clean =
      made_case (λ (g : Gone). g.0.clean ≡ true → SoundBehind g) w name (stays w) (λ x is. sound) (λ r. put_back w name (bound_at w.snapshots bind)) (λ r called is. put_back_so name (bound_at w.snapshots bind) is) clean

  -- what is made is bound in the world in which it was made
  bound_sound : {A : Type 0} (P : World → A → Type 0) (t : Sent A) (binds : World → Option A → World) → Makes w P t
      → ((v : World) → IsSoundWorld v → ((x : A) → t.2 ≡ Some x → P v x) → IsSoundWorld (binds v t.2)) → SoundBehind (made_bound t binds)
  bound_sound P t binds m binding = subst (λ (v : World). IsSoundWorld (binds v t.2)) (sym m.2) (binding (telling w m.0) (telling_sound w sound m.0 m.1) m.3)

  abbrev copied : (name : Name) → Sent Snapshot
  copied name = of_made (nothing w) (replica_at w name) (λ r. (w, outcomes.Ok, Some (record { state = r.read; log = r.device.read_log })))

  snapshot_makes : (name : Name) → (copied name).0 ≡ w
  snapshot_makes name = made_case (λ (t : Sent Snapshot). t.0 ≡ w) w name (nothing w) (λ x. refl) (λ r. (w, outcomes.Ok, Some (record { state = r.read; log = r.device.read_log }))) (λ r called. refl)

  makes_sound : (name bind : Name) (what : Made) → SoundBehind (makes w name what bind)
  makes_sound name bind (mades.Ask partner max version) = bound_sound IsRequest (asks w name partner max version) (λ v q. record v { requests = bound v.requests bind q }) (asks_sound w sound name partner max version)
      (λ v is all. requested v is bind (asks w name partner max version).2 all)
  makes_sound name bind (mades.Serve request) = bound_sound IsReply (serves_request w name (bound_at w.requests request)) (λ v r. record v { replies = bound v.replies bind r }) (serves_sound w sound name (bound_at w.requests request) (request_bound w sound request))
      (λ v is all. replied v is bind (serves_request w name (bound_at w.requests request)).2 all)
  makes_sound name bind mades.Backup = bound_sound IsImage (of_controller w name (nothing w) (λ r. backed_up w (backup r.safe))) (λ v i. record v { images = bound v.images bind i }) (backups_sound w sound name)
      (λ v is all. imaged v is bind (of_controller w name (nothing w) (λ r. backed_up w (backup r.safe))).2 all)
  makes_sound name bind mades.Snapshot =
      subst (λ (v : World). IsSoundWorld (record v { snapshots = bound v.snapshots bind (copied name).2 })) (sym (snapshot_makes name)) (aside w sound w.time (bound w.snapshots bind (copied name).2))

  pub step_sound : (e : Event) → MayHappen w e → (step w e).0.clean ≡ true → IsSoundWorld (step w e).0
  step_sound (events.Time now) may clean = aside w sound now w.snapshots
  step_sound (events.Comes name inv how) may clean = comes_sound name inv how may
  step_sound (events.Calls name what) may clean = does_sound w sound name (call_meant what w.time) (asked_sound w.book what w.time may)
  step_sound (events.Uses name what bind) may clean = uses_sound name bind what clean
  step_sound (events.Binds name what bind) may clean = makes_sound name bind what
  step_sound (events.Asks name what) may clean = reached_case SoundBehind w name (stays w) (λ x. sound) (λ r. (w, reported w r.safe what)) (λ r called up. sound)
  step_sound (events.Goes name what) may clean = (goes_so IsSoundWorld IsRequest IsReply (λ o. Unit {0}) only_worlds (λ n d e. tt) name what w sound).0
  step_sound (events.Meets name what) may clean = meets_case SoundBehind w name (λ o plain. sound) (λ r is. stopped w sound r is.there Down (device_settled r))
      (λ r is not_up. started_sound w sound r is.there not_up outcomes.Ok) (λ r is plan. planned w sound r is.there plan) what
