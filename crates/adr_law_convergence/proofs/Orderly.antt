-- What holds always: names and identifiers are those of lines, what is held is formed, replies are spelled, and nothing is bound to a name twice.
use Rattle.std.proofs.Common.{◌≡◌, ◌≢◌, ◌⊎◌, inl, inr, ℕ, List, [], ◌∷◌, ◌++◌, Bool, true, false, Option, Some, None, Result, Ok, Err, refl, sym, ap, ◌∙◌, subst, fold, if◌then◌else◌, arith}
use Rattle.adr_call.specs.declared.outcome.Outcome.TheVariants as outcomes
use Rattle.adr_call.specs.declared.event.Event.{Event}
use Rattle.adr_call.specs.declared.event.Event.TheVariants as events
use Rattle.adr_call.specs.declared.event.Coming.{Coming}
use Rattle.adr_call.specs.declared.event.Coming.TheVariants as comings
use Rattle.adr_call.specs.declared.event.Use.{Use}
use Rattle.adr_call.specs.declared.event.Use.TheVariants as used
use Rattle.adr_call.specs.declared.event.Made.{Made}
use Rattle.adr_call.specs.declared.event.Made.TheVariants as mades
use Rattle.adr_call.specs.declared.refusal.AdoptRefusal.{AdoptRefusal}
use Rattle.adr_call.specs.declared.refusal.ServeRefusal.{ServeRefusal}
use Rattle.adr_call.specs.declared.refusal.ServeRefusal.TheVariants as serves
use Rattle.adr_model.specs.Member.{Member, Each}
use Rattle.adr_model.specs.Update.{Identifier}
use Rattle.adr_model.specs.Store.{Store, State, empty_state}
use Rattle.adr_model.specs.Spelled.{IsSpelledReply}
use Rattle.adr_model.specs.Lengths.{new_log, area_fits}
use Rattle.adr_model.specs.Serve.{Request, Reply, is_quarantined, serve}
use Rattle.adr_model.specs.Client.{call_meant}
use Rattle.adr_model.specs.Write.{Revive}
use Rattle.adr_model.specs.Collect.{adopt, backup}
use Rattle.adr_disk.specs.declared.memory.Mishap.TheVariants.{Fails}
use Rattle.adr_model.specs.Replica.{Call, ToWrite, Standing, Up, Down, Failed, Replica, on_disk, on_new_disk, Book, begun, Move, Settle, moved, Went, Met, moves_of_commit, moves_of_start, standing_after, Device, commit_goes, start_goes, device_after_commit, device_after_start, device_settled}
use Rattle.adr_model.specs.World.{Name, World, Given, LastReply, Snapshot, Gone, Sent, stays, nothing, noted, bound, bound_at, replica_at, with_replica, of_made, of_controller, does, asks, after_serve, served, serves_request, delivers, backed_up, adopts, put_back, after_moves, reported}
use Rattle.adr_model.specs.Cycles.{pulls, pull_version}
use Rattle.adr_model.specs.Step.{gives, comes, uses, makes, step}
use Rattle.adr_model.specs.Sound.{IsOrderlyStore, IsOrderlyState, IsOrderlyReplica, IsOrderlySnapshot, AreBoundOnce, IsOrderlyWorld}
use Rattle.adr_model.specs.Convergence.{IsNewName, IsUnbound, MayCome, MayBind, MayHappen}
use Rattle.adr_model.proofs.Members.{member_left, member_right, member_of_either}
use Rattle.adr_law_calls.proofs.Served.{served_is_spelled}
use Rattle.adr_law_calls.proofs.Still.{new_is_formed}
use Rattle.adr_law_convergence.proofs.Found.{bound_member, each_bound, in_place}
use Rattle.adr_law_convergence.proofs.Reached.{made_case, reached_case, fits_case, image_case, installs_case, restores_case}
use Rattle.adr_law_convergence.proofs.Binding.{only_made}
use Rattle.adr_law_convergence.proofs.OrderlyLogs.{new_log_orderly}
use Rattle.adr_law_convergence.proofs.OrderlyReplicas.{IsGivenCall, asked_given, call_orderly, woken_orderly, replica_in, on_disk_orderly, plan_orderly, stop_orderly, start_orderly, commit_orderly}
use Rattle.adr_law_convergence.proofs.Called.{IsKeptBehind, calls_so, asks_so, serves_so, delivers_so, meets_so, reports_so}
use Rattle.adr_law_convergence.proofs.Exchanges.{IsKeptByCalls, pulls_so, goes_so}

-- ---- controllers

-- controllers that may stand in a world
pub record AreOrderly (w : World) (rs : List Replica) : Type 0 where
  pub names : Each (λ r. Each (λ q. r.name ≡ q.name → r ≡ q) rs) rs
  pub replicas : Each (IsOrderlyReplica w) rs

-- a world in which the book, the controllers and what last replies were made are others
pub record IsBehindCall (w v : World) : Type 0 where
  pub book : Book
  pub replicas : List Replica
  pub told : List LastReply
  pub is : v ≡ record w { book = book; replicas = replicas; last_replies = told }
  pub orderly : AreOrderly w replicas

given_orderly : (w : World) (dsas invs : List Identifier) (s : State) → IsOrderlyState w s → IsOrderlyState (gives w dsas invs) s
given_orderly w dsas invs s is = record { dsa = member_left w.given.dsas dsas s.dsa is.dsa; inv = member_left w.given.invs invs s.inv is.inv; formed = is.formed; store = is.store }

module _ (w : World) (rs : List Replica) (are : AreOrderly w rs) (new : Replica) (is : IsOrderlyReplica w new) where
  -- where the new one is one of its name, or stands in place of it
  abbrev Stand : List Replica → Type 0
  Stand qs = (q : Replica) → Member q qs → (q ≡ new) ⊎ (Member q rs × (q.name ≢ new.name))

  with_it : (qs : List Replica) → Stand qs → AreOrderly w qs
  with_it qs who = record { names = λ p m q n e. by p q (who p m) (who q n) e; replicas = λ q m. on q (who q m) }
    where
      by : (p q : Replica) → (p ≡ new) ⊎ (Member p rs × (p.name ≢ new.name)) → (q ≡ new) ⊎ (Member q rs × (q.name ≢ new.name)) → p.name ≡ q.name → p ≡ q
      by p q (inl a) (inl b) e = a ∙ sym b
      by p q (inl a) (inr b) e = absurd (b.1 (sym e ∙ ap (λ (r : Replica). r.name) a))
      by p q (inr a) (inl b) e = absurd (a.1 (e ∙ ap (λ (r : Replica). r.name) b))
      by p q (inr a) (inr b) e = are.names p a.0 q b.0 e

      on : (q : Replica) → (q ≡ new) ⊎ (Member q rs × (q.name ≢ new.name)) → IsOrderlyReplica w q
      on q (inl e) = subst (IsOrderlyReplica w) (sym e) is
      on q (inr t) = are.replicas q t.0

  pub placed : AreOrderly w (with_replica rs new)
  placed = with_it (with_replica rs new) (λ q m. in_place rs new q m)

  pub joined : Each (λ q. q.name ≢ new.name) rs → AreOrderly w (rs ++ new ∷ [])
  joined apart = with_it (rs ++ new ∷ []) (λ q m. by q (member_of_either rs (new ∷ []) q m))
    where
      by : (q : Replica) → Member q rs ⊎ Member q (new ∷ []) → (q ≡ new) ⊎ (Member q rs × (q.name ≢ new.name))
      by q (inl n) = inr (n, apart q n)
      by q (inr (inl e)) = inl e
      by q (inr (inr n)) = absurd n

-- ---- what is bound

bound_once : {A : Type 0} (xs : List (Name × A)) (name : Name) (o : Option A) → IsUnbound xs name → AreBoundOnce xs → AreBoundOnce (bound xs name o)
bound_once xs name None free once = once
bound_once {A = A} xs name (Some x) free once = λ y m z n e. by y z (member_of_either xs ((name, x) ∷ []) y m) (member_of_either xs ((name, x) ∷ []) z n) e
  where
    by : (y z : Name × A) → Member y xs ⊎ Member y ((name, x) ∷ []) → Member z xs ⊎ Member z ((name, x) ∷ []) → y.0 ≡ z.0 → y ≡ z
    by y z (inl a) (inl b) e = once y a z b e
    by y z (inl a) (inr (inl b)) e = absurd (free y a (e ∙ ap (λ (t : Name × A). t.0) b))
    by y z (inl a) (inr (inr n)) e = absurd n
    by y z (inr (inl a)) (inl b) e = absurd (free z b (sym e ∙ ap (λ (t : Name × A). t.0) a))
    by y z (inr (inl a)) (inr (inl b)) e = a ∙ sym b
    by y z (inr (inl a)) (inr (inr n)) e = absurd n
    by y z (inr (inr n)) b e = absurd n

-- ---- worlds

module _ (w : World) (is : IsOrderlyWorld w) where
  pub here : AreOrderly w w.replicas
  here = record { names = is.names; replicas = is.replicas }

  -- a world of the same identifiers, by its parts
  pub of_parts : (v : World) → v.given ≡ w.given → AreOrderly w v.replicas → Each (λ (r : Name × Reply). IsSpelledReply r.1) v.replies → Each (λ (i : Name × Store). IsOrderlyStore i.1) v.images → Each (λ (s : Name × Snapshot). IsOrderlySnapshot w s.1) v.snapshots
      → AreBoundOnce v.requests → AreBoundOnce v.replies → AreBoundOnce v.images → AreBoundOnce v.snapshots → IsOrderlyWorld v
  of_parts v given are replies images snapshots bound_requests bound_replies bound_images bound_snapshots = record {
    names = are.names;
    replicas = λ r m. replica_in w v as_given r (are.replicas r m);
    replies = replies;
    images = images;
    snapshots = λ s m. record { state = as_given s.1.state (snapshots s m).state; log = (snapshots s m).log };
    bound_requests = bound_requests;
    bound_replies = bound_replies;
    bound_images = bound_images;
    bound_snapshots = bound_snapshots;
  }
    where
      as_given : (s : State) → IsOrderlyState w s → IsOrderlyState v s
      as_given s o = record { dsa = subst (λ (g : Given). Member s.dsa g.dsas) (sym given) o.dsa; inv = subst (λ (g : Given). Member s.inv g.invs) (sym given) o.inv; formed = o.formed; store = o.store }

  -- with other controllers
  pub moved_on : (book : Book) (rs : List Replica) → AreOrderly w rs → IsOrderlyWorld (record w { book = book; replicas = rs })
  moved_on book rs are = of_parts (record w { book = book; replicas = rs }) refl are is.replies is.images is.snapshots is.bound_requests is.bound_replies is.bound_images is.bound_snapshots

  pub at_time : (now : ℕ) → IsOrderlyWorld (record w { time = now })
  at_time now = of_parts (record w { time = now }) refl here is.replies is.images is.snapshots is.bound_requests is.bound_replies is.bound_images is.bound_snapshots

  pub behind_call : (v : World) → IsBehindCall w v → IsOrderlyWorld v
  behind_call v b =
      subst IsOrderlyWorld (sym b.is) (of_parts (record w { book = b.book; replicas = b.replicas; last_replies = b.told }) refl b.orderly is.replies is.images is.snapshots is.bound_requests is.bound_replies is.bound_images is.bound_snapshots)

  -- moves of one controller
  behind_moves : (r : Replica) (ms : List Move) (standing : Standing) (device : Device) → IsOrderlyReplica w (record (fold moved (w.book, r) ms).1 { standing = standing; device = device })
      → IsBehindCall w (after_moves w r ms standing device outcomes.Ok).0
  behind_moves r ms standing device left = record {
    book = (fold moved (w.book, r) ms).0;
    replicas = with_replica w.replicas (record (fold moved (w.book, r) ms).1 { standing = standing; device = device });
    told = w.last_replies;
    is = refl;
    orderly = placed w w.replicas here (record (fold moved (w.book, r) ms).1 { standing = standing; device = device }) left;
  }

  -- a start, of whose failing it is known how the controller stands then
  pub behind_start : (r : Replica) → Member r w.replicas → (standing : Standing) → ((place : ℕ) → start_goes r ≡ Met place Fails → standing ≢ Up)
      → IsBehindCall w (after_moves w r (moves_of_start (start_goes r)) standing (device_after_start r) outcomes.Ok).0
  behind_start r there standing stands = behind_moves r (moves_of_start (start_goes r)) standing (device_after_start r)
      (start_orderly w w.book r (is.replicas r there) (start_goes r) standing stands)

  -- what calls keep
  calls_keep : IsKeptBehind (IsBehindCall w) IsGivenCall w
  calls_keep = record {
    same = record { book = w.book; replicas = w.replicas; told = w.last_replies; is = refl; orderly = here };
    notes = λ reply. record { book = w.book; replicas = w.replicas; told = (noted w reply).last_replies; is = refl; orderly = here };
    commits = λ r there up p given made fits. let o = is.replicas r there in behind_moves r (moves_of_commit p (commit_goes r p)) (standing_after Failed (commit_goes r p)) (device_after_commit r p)
        (commit_orderly w w.book r o (o.up up) p (call_orderly w r.safe p.call p.change o.safe given made) fits);
    starts = λ r there not_up. behind_start r there (standing_after r.standing (start_goes r)) (λ place e. subst (λ (g : Went). standing_after r.standing g ≢ Up) (sym e) not_up);
    stops = λ r there. behind_moves r (Settle ∷ []) Down (device_settled r) (stop_orderly w w.book r (is.replicas r there));
    plans = λ r there plan. behind_moves r [] r.standing (record r.device { plan = Some plan }) (plan_orderly w w.book r (is.replicas r there) (Some plan));
  }

  -- lines give more identifiers
  pub gives_more : (dsas invs : List Identifier) → IsOrderlyWorld (gives w dsas invs)
  gives_more dsas invs = record {
    names = is.names;
    replicas = λ r m. replica_in w (gives w dsas invs) (given_orderly w dsas invs) r (is.replicas r m);
    replies = is.replies;
    images = is.images;
    snapshots = λ s m. record { state = given_orderly w dsas invs s.1.state (is.snapshots s m).state; log = (is.snapshots s m).log };
    bound_requests = is.bound_requests;
    bound_replies = is.bound_replies;
    bound_images = is.bound_images;
    bound_snapshots = is.bound_snapshots;
  }

  -- ---- what is bound

  pub requested : (name : Name) (o : Option Request) → IsUnbound w.requests name → IsOrderlyWorld (record w { requests = bound w.requests name o })
  requested name o free = of_parts (record w { requests = bound w.requests name o }) refl here is.replies is.images is.snapshots (bound_once w.requests name o free is.bound_requests) is.bound_replies is.bound_images is.bound_snapshots

  pub replied : (name : Name) (o : Option Reply) → IsUnbound w.replies name → ((r : Reply) → o ≡ Some r → IsSpelledReply r) → IsOrderlyWorld (record w { replies = bound w.replies name o })
  replied name o free spelled = of_parts (record w { replies = bound w.replies name o }) refl here (each_bound IsSpelledReply w.replies name o is.replies spelled) is.images is.snapshots
      is.bound_requests (bound_once w.replies name o free is.bound_replies) is.bound_images is.bound_snapshots

  pub imaged : (name : Name) (o : Option Store) → IsUnbound w.images name → ((s : Store) → o ≡ Some s → IsOrderlyStore s) → IsOrderlyWorld (record w { images = bound w.images name o })
  imaged name o free orderly = of_parts (record w { images = bound w.images name o }) refl here is.replies (each_bound IsOrderlyStore w.images name o is.images orderly) is.snapshots
      is.bound_requests is.bound_replies (bound_once w.images name o free is.bound_images) is.bound_snapshots

  pub copied : (name : Name) (o : Option Snapshot) → IsUnbound w.snapshots name → ((s : Snapshot) → o ≡ Some s → IsOrderlySnapshot w s) → IsOrderlyWorld (record w { snapshots = bound w.snapshots name o })
  copied name o free orderly = of_parts (record w { snapshots = bound w.snapshots name o }) refl here is.replies is.images (each_bound (IsOrderlySnapshot w) w.snapshots name o is.snapshots orderly)
      is.bound_requests is.bound_replies is.bound_images (bound_once w.snapshots name o free is.bound_snapshots)

  -- ---- controllers that begin on a new disk

  abbrev Orderly : Gone → Type 0
  Orderly g = IsOrderlyWorld g.0

  adopted : (place : Replica → List Replica) (name : Name) (image : Store) (dsa inv : Identifier) → IsOrderlyStore image → Member dsa w.given.dsas → Member inv w.given.invs
      → ((r : Replica) → r.name ≡ name → IsOrderlyReplica w r → AreOrderly w (place r)) → Orderly (adopts w place name (adopt image dsa inv))
  adopted place name image dsa inv of d i places = by (adopt image dsa inv) refl
    where
      by : (t : Result State AdoptRefusal) → adopt image dsa inv ≡ t → Orderly (adopts w place name t)
      by (Err x) e = is
      by (Ok s) e = fits_case Orderly w (area_fits (new_log s) s.store) (record w { book = begun w.book s; replicas = place (on_new_disk name s) }, outcomes.Ok) is
          (λ fits. moved_on (begun w.book s) (place (on_new_disk name s)) (places (on_new_disk name s) refl (on_disk_orderly w name s (new_log s) (woken_orderly w image dsa inv s of d i e) (new_log_orderly s fits))))

  -- a snapshot that is put back
  pub rolled_back : (name : Name) (o : Option Snapshot) → ((s : Snapshot) → o ≡ Some s → IsOrderlySnapshot w s) → Orderly (put_back w name o)
  rolled_back name None all = is
  rolled_back name (Some s) all =
      of_parts (record w { clean = false; replicas = with_replica w.replicas (on_disk name s.state s.log) }) refl
      (placed w w.replicas here (on_disk name s.state s.log) (on_disk_orderly w name s.state s.log (all s refl).state (all s refl).log))
      is.replies is.images is.snapshots is.bound_requests is.bound_replies is.bound_images is.bound_snapshots

  -- a new, empty controller, with identifiers that lines gave
  begins : (name : Name) (dsa inv : Identifier) → Member dsa w.given.dsas → Member inv w.given.invs → IsNewName w name
      → IsOrderlyWorld (record w { book = begun w.book (empty_state dsa inv); replicas = w.replicas ++ on_new_disk name (empty_state dsa inv) ∷ [] })
  begins name dsa inv d i new = moved_on (begun w.book (empty_state dsa inv)) (w.replicas ++ on_new_disk name (empty_state dsa inv) ∷ [])
      (joined w w.replicas here (on_new_disk name (empty_state dsa inv)) (on_disk_orderly w name (empty_state dsa inv) (new_log (empty_state dsa inv)) empty (record { version = refl; within = omega arith })) new)
    where
      empty : IsOrderlyState w (empty_state dsa inv)
      empty = let t = new_is_formed dsa inv in record { dsa = d; inv = i; formed = t.0; store = record { formed = t.0.store; classes = t.1; says = λ u m. absurd m } }

-- ---- messages

module _ (w : World) (is : IsOrderlyWorld w) where
  asks_orderly : (name partner : Name) (max version : ℕ) → IsBehindCall w (asks w name partner max version).0
  asks_orderly = asks_so (IsBehindCall w) IsGivenCall w (calls_keep w is)

  serves_orderly : (name : Name) (o : Option Request) → IsBehindCall w (serves_request w name o).0
  serves_orderly name o = serves_so (IsBehindCall w) IsGivenCall w (calls_keep w is) name o tt

  delivers_orderly : (name : Name) (o : Option Reply) → ((r : Reply) → o ≡ Some r → IsSpelledReply r) → IsBehindCall w (delivers w name o).0
  delivers_orderly name o spelled = delivers_so (IsBehindCall w) IsGivenCall w (calls_keep w is) name o tt spelled

  abbrev Sends_spelled : Sent Reply → Type 0
  Sends_spelled t = (r : Reply) → t.2 ≡ Some r → IsSpelledReply r

  -- what is answered is spelled
  serves_spelled : (name : Name) (o : Option Request) → Sends_spelled (serves_request w name o)
  serves_spelled name o = reached_case Sends_spelled w name (nothing w) (λ x r e. absurd (cc)) (λ r. served w r o) (λ r called up. by r (is.replicas r called.there).safe o)
    where
      answered : (r : Replica) (q : Request) → IsOrderlyState w r.safe → (t : Result Reply ServeRefusal) → serve r.safe q w.time ≡ t → Sends_spelled (after_serve w r t)
      answered r q of (Ok reply) e = only_made IsSpelledReply reply (served_is_spelled r.safe q reply w.time of.formed of.store.says e)
      answered r q of (Err (serves.RolledBack inv mine shown)) e = λ x n. absurd (cc)
      answered r q of (Err _) e = λ x n. absurd (cc)

      by : (r : Replica) → IsOrderlyState w r.safe → (o : Option Request) → Sends_spelled (served w r o)
      by r of None = λ x n. absurd (cc)
      by r of (Some q) = answered r q of (serve r.safe q w.time) refl

abbrev SpelledIn : World → Reply → Type 0
SpelledIn v r = IsSpelledReply r

calls_orderly : IsKeptByCalls IsOrderlyWorld (λ v q. Unit {0}) SpelledIn (λ o. Unit {0})
calls_orderly = record {
  asks = λ v name partner max is. (behind_call v is _ (asks_orderly v is name partner max pull_version), (tt, λ x e. tt));
  serves = λ v name q is of. (behind_call v is _ (serves_orderly v is name (Some q)), (tt, serves_spelled v is name (Some q)));
  delivers = λ v name r is of. (behind_call v is _ (delivers_orderly v is name (Some r) (only_made IsSpelledReply r of)), tt);
  more = tt;
}

pub pulls_orderly : (w : World) → IsOrderlyWorld w → (name source : Name) (max n : ℕ) → IsOrderlyWorld (pulls n w name source max).0
pulls_orderly w is name source max n = (pulls_so IsOrderlyWorld (λ v q. Unit {0}) SpelledIn (λ o. Unit {0}) calls_orderly name source max n w is).0

-- ---- lines

module _ (w : World) (is : IsOrderlyWorld w) where
  abbrev Q : World → Type 0
  Q = IsBehindCall w

  keeps : IsKeptBehind Q IsGivenCall w
  keeps = calls_keep w is

  abbrev Sends_image : Sent Store → Type 0
  Sends_image t = (t.0 ≡ w) × ((s : Store) → t.2 ≡ Some s → IsOrderlyStore s)

  abbrev Sends_snapshot : Sent Snapshot → Type 0
  Sends_snapshot t = (t.0 ≡ w) × ((s : Snapshot) → t.2 ≡ Some s → IsOrderlySnapshot w s)

  does_orderly : (name : Name) (call : Call) → IsGivenCall call → IsOrderlyWorld (does w name call).0
  does_orderly name call given = behind_call w is _ (calls_so Q IsGivenCall w keeps name call given)

  -- an image is of a state of a controller
  backs_up : (name : Name) → Sends_image (of_controller w name (nothing w) (λ r. backed_up w (backup r.safe)))
  backs_up name = reached_case Sends_image w name (nothing w) (λ x. (refl, λ s e. absurd (cc))) (λ r. backed_up w (backup r.safe)) (λ r called up. by (is_quarantined r.safe.mode) r called.there)
    where
      by : (b : Bool) (r : Replica) → Member r w.replicas → Sends_image (backed_up w (if b then None else Some r.safe.store))
      by true r there = (refl, λ s e. absurd (cc))
      by false r there = (refl, only_made IsOrderlyStore r.safe.store (is.replicas r there).safe.store)

  copies : (name : Name) → Sends_snapshot (of_made (nothing w) (replica_at w name) (λ r. (w, outcomes.Ok, Some (record { state = r.read; log = r.device.read_log }))))
  copies name = made_case Sends_snapshot w name (nothing w) (λ x. (refl, λ s e. absurd (cc))) (λ r. (w, outcomes.Ok, Some (record { state = r.read; log = r.device.read_log })))
      (λ r called. (refl, only_made (IsOrderlySnapshot w) (record { state = r.read; log = r.device.read_log }) (record { state = (is.replicas r called.there).read; log = (is.replicas r called.there).read_log })))

  comes_orderly : (name : Name) (inv : Identifier) (how : Coming) → MayCome w name inv how → IsOrderlyWorld (comes w name inv how).0
  comes_orderly name inv (comings.Fresh dsa) may = begins (gives w (dsa ∷ []) (inv ∷ [])) (gives_more w is (dsa ∷ []) (inv ∷ [])) name dsa inv (member_right w.given.dsas (dsa ∷ []) dsa (inl refl)) (member_right w.given.invs (inv ∷ []) inv (inl refl)) may.0
  comes_orderly name inv (comings.Installed dsa image) may =
      let more = gives_more w is (dsa ∷ []) (inv ∷ []) in
      installs_case (Orderly w is) w name inv image dsa more (λ i e. adopted (gives w (dsa ∷ []) (inv ∷ [])) more (λ r. w.replicas ++ r ∷ []) name i dsa inv (bound_member IsOrderlyStore w.images image i is.images e)
      (member_right w.given.dsas (dsa ∷ []) dsa (inl refl)) (member_right w.given.invs (inv ∷ []) inv (inl refl)) (λ r named orderly. joined (gives w (dsa ∷ []) (inv ∷ [])) w.replicas (here (gives w (dsa ∷ []) (inv ∷ [])) more) r orderly (λ q m same. may.0 q m (same ∙ named))))
  comes_orderly name inv (comings.Restored image) may =
      let more = gives_more w is [] (inv ∷ []) in
      restores_case (Orderly w is) w name inv image (λ o plain. more) (λ r called i e. adopted (gives w [] (inv ∷ [])) more (with_replica w.replicas) name i r.safe.dsa inv (bound_member IsOrderlyStore w.images image i is.images e)
      (more.replicas r called.there).safe.dsa (member_right w.given.invs (inv ∷ []) inv (inl refl)) (λ new named orderly. placed (gives w [] (inv ∷ [])) w.replicas (here (gives w [] (inv ∷ [])) more) new orderly))

  uses_orderly : (name bind : Name) (what : Use) → IsOrderlyWorld (uses w name what bind).0
  uses_orderly name bind used.Deliver = behind_call w is _ (delivers_orderly w is name (bound_at w.replies bind) (λ r e. bound_member IsSpelledReply w.replies bind r is.replies e))
  uses_orderly name bind (used.Revive guid parent text) =
      image_case (Orderly w is) w (bound_at w.images bind) (λ i. does w name (ToWrite (Revive i guid parent text) w.time)) is
      (λ i e. does_orderly name (ToWrite (Revive i guid parent text) w.time) (bound_member IsOrderlyStore w.images bind i is.images e).formed)
  uses_orderly name bind used.Rollback = made_case (Orderly w is) w name (stays w) (λ x. is) (λ r. put_back w name (bound_at w.snapshots bind))
      (λ r called. rolled_back w is name (bound_at w.snapshots bind) (λ s e. bound_member (IsOrderlySnapshot w) w.snapshots bind s is.snapshots e))

  makes_orderly : (name bind : Name) (what : Made) → MayBind w what bind → IsOrderlyWorld (makes w name what bind).0
  makes_orderly name bind (mades.Ask partner max version) may = bound_behind (asks w name partner max version).0 (asks_orderly w is name partner max version)
    where
      bound_behind : (v : World) → IsBehindCall w v → IsOrderlyWorld (record v { requests = bound v.requests bind (asks w name partner max version).2 })
      bound_behind v b = requested v (behind_call w is v b) bind (asks w name partner max version).2 (subst (λ (x : World). IsUnbound x.requests bind) (sym b.is) may)
  makes_orderly name bind (mades.Serve request) may = bound_behind (serves_request w name (bound_at w.requests request)).0 (serves_orderly w is name (bound_at w.requests request))
    where
      bound_behind : (v : World) → IsBehindCall w v → IsOrderlyWorld (record v { replies = bound v.replies bind (serves_request w name (bound_at w.requests request)).2 })
      bound_behind v b = replied v (behind_call w is v b) bind (serves_request w name (bound_at w.requests request)).2 (subst (λ (x : World). IsUnbound x.replies bind) (sym b.is) may) (serves_spelled w is name (bound_at w.requests request))
  makes_orderly name bind mades.Backup may =
      subst (λ (v : World). IsOrderlyWorld (record v { images = bound v.images bind (of_controller w name (nothing w) (λ r. backed_up w (backup r.safe))).2 })) (sym (backs_up name).0)
      (imaged w is bind (of_controller w name (nothing w) (λ r. backed_up w (backup r.safe))).2 may (backs_up name).1)
  makes_orderly name bind mades.Snapshot may =
      subst (λ (v : World). IsOrderlyWorld (record v { snapshots = bound v.snapshots bind (of_made (nothing w) (replica_at w name) (λ r. (w, outcomes.Ok, Some (record { state = r.read; log = r.device.read_log })))).2 })) (sym (copies name).0)
      (copied w is bind (of_made (nothing w) (replica_at w name) (λ r. (w, outcomes.Ok, Some (record { state = r.read; log = r.device.read_log })))).2 may (copies name).1)

  pub step_orderly : (e : Event) → MayHappen w e → IsOrderlyWorld (step w e).0
  step_orderly (events.Time now) may = at_time w is now
  step_orderly (events.Comes name inv how) may = comes_orderly name inv how may
  step_orderly (events.Calls name what) may = does_orderly name (call_meant what w.time) (asked_given what w.time may)
  step_orderly (events.Uses name what bind) may = uses_orderly name bind what
  step_orderly (events.Binds name what bind) may = makes_orderly name bind what may
  step_orderly (events.Asks name what) may = behind_call w is _ (reports_so Q IsGivenCall w keeps name (λ r. reported w r.safe what))
  step_orderly (events.Goes name what) may = (goes_so IsOrderlyWorld (λ v q. Unit {0}) SpelledIn (λ o. Unit {0}) calls_orderly (λ n d e. tt) name what w is).0
  step_orderly (events.Meets name what) may = behind_call w is _ (meets_so Q IsGivenCall w keeps name what)
