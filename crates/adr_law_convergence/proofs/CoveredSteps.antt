-- What was collected stays covered by each event.
use Rattle.std.proofs.Common.{◌≡◌, ◌⊎◌, inl, inr, ℕ, List, [], ◌∷◌, ◌++◌, Bool, true, false, Option, Some, None, Result, Ok, Err, refl, sym, ap, ◌∙◌, subst, fold, length, if◌then◌else◌}
use Rattle.adr_call.specs.declared.outcome.Outcome.{Outcome}
use Rattle.adr_call.specs.declared.outcome.Outcome.TheVariants as outcomes
use Rattle.adr_call.specs.declared.event.Event.TheVariants as events
use Rattle.adr_call.specs.declared.event.Coming.{Coming}
use Rattle.adr_call.specs.declared.event.Coming.TheVariants as comings
use Rattle.adr_call.specs.declared.event.Use.{Use}
use Rattle.adr_call.specs.declared.event.Use.TheVariants as used
use Rattle.adr_call.specs.declared.event.Made.{Made}
use Rattle.adr_call.specs.declared.event.Made.TheVariants as mades
use Rattle.adr_call.specs.declared.event.Meeting.{Meeting}
use Rattle.adr_call.specs.declared.call.Call.{Call as Asked}
use Rattle.adr_call.specs.declared.call.Call.TheVariants as calls
use Rattle.adr_call.specs.declared.refusal.ServeRefusal.{ServeRefusal}
use Rattle.adr_call.specs.declared.refusal.ServeRefusal.TheVariants as serves
use Rattle.adr_call.specs.declared.refusal.TakeRefusal.{TakeRefusal}
use Rattle.adr_call.specs.declared.refusal.TakeRefusal.TheVariants as takes
use Rattle.adr_call.specs.declared.refusal.AdoptRefusal.{AdoptRefusal}
use Rattle.adr_model.specs.Member.{Member}
use Rattle.adr_model.specs.Update.{Identifier}
use Rattle.adr_model.specs.Store.{Store, State, empty_state}
use Rattle.adr_model.specs.Change.{Change, after}
use Rattle.adr_model.specs.Serve.{Request, Reply, is_quarantined, ask, serve}
use Rattle.adr_model.specs.Client.{Done, call_meant, done}
use Rattle.adr_model.specs.Write.{Write, Revive, items_written, own_change, write, write_meant, write_refusal}
use Rattle.adr_model.specs.Take.{take_items, taken_change, take_refusal, take}
use Rattle.adr_model.specs.Collect.{collection, deaths_to_collect, collect_refusal, collect, backup, adopt, quarantine}
use Rattle.adr_model.specs.Lengths.{new_log, area_fits, change_fits}
use Rattle.adr_model.specs.Refused.{serve_refused, take_refused, quarantined}
use Rattle.adr_model.specs.Replica.{Call, Pending, ToWrite, ToTake, ToCollect, ToUpgrade, ToQuarantine, Standing, Up, Down, Failed, Replica, on_new_disk, Book, begun, Settle, moved, moves_of_commit, moves_of_start, standing_after, Device, commit_goes, start_goes, device_after_commit, device_after_start, device_settled}
use Rattle.adr_model.specs.World.{Name, World, Snapshot, Gone, Sent, stays, nothing, bound, bound_at, replica_at, with_replica, of_made, of_controller, committed, commit, quarantines, after_call, does, asks, after_serve, served, serves_request, after_take, delivered, delivers, backed_up, adopts, put_back, shown}
use Rattle.adr_model.specs.Step.{gives, comes, uses, made_bound, makes, meets}
use Rattle.adr_model.specs.Convergence.{IsStoreOf, IsPurgedCovered, KeepsCovered}
use Rattle.adr_model.proofs.Members.{member_of_either}
use Rattle.adr_law_knowledge.proofs.Refusing.{answered}
use Rattle.adr_law_calls.proofs.Woken.{adopted_is_woken}
use Rattle.adr_law_convergence.proofs.Found.{bound_member}
use Rattle.adr_law_convergence.proofs.Calls.{in_change}
use Rattle.adr_model.proofs.Calling.{done_changes}
use Rattle.adr_law_convergence.proofs.Reached.{IsCalled, made_case, up_case, reached_case, within_case, image_case, installs_case, restores_case, meets_case}
use Rattle.adr_law_convergence.proofs.Binding.{MakesHere, made_none, only_made}
use Rattle.adr_law_convergence.proofs.Covered.{IsGrown, IsCovered, MayCome, nothing_collected, nothing_covered, deaths_covered, raised_grows, as_it_was, purged_covered, comes_itself, changed_comes, both_come, placed, joining, requested, imaged}
use Rattle.adr_law_convergence.proofs.Moves.{settling, starting, committing}
use Rattle.adr_model.specs.Upgrade.{upgraded, upgrade_refusal, upgrade}

-- ---- calls

module _ (w : World) (covered : IsPurgedCovered w) where
  abbrev OfWorld : Gone → Type 0
  OfWorld g = IsPurgedCovered g.0

  unpurged : (c d : Change) → c ≡ d → c.purged ≡ [] → IsCovered w d.purged
  unpurged c d e none = subst (λ (f : Change). IsCovered w f.purged) e (subst (IsCovered w) (sym none) (nothing_covered w))

  module _ (r : Replica) (there : Member r w.replicas) where
    moved_world : (m : Book × Replica) (standing : Standing) (plan : Device) → MayCome w m.1.safe.store × MayCome w m.1.read.store
        → IsPurgedCovered (record w { book = m.0; replicas = with_replica w.replicas (record m.1 { standing = standing; device = plan }) })
    moved_world m standing plan comes = placed w covered m.0 (record m.1 { standing = standing; device = plan }) comes

    commits : (p : Pending) (outcome : Outcome) → IsCovered w p.change.purged → IsPurgedCovered (commit w r p outcome).0
    commits p outcome purged = within_case OfWorld w (change_fits r.device.safe_log r.safe.store p.change) (committed w r p outcome) covered (moved_world (fold moved (w.book, r) (moves_of_commit p (commit_goes r p))) (standing_after Failed (commit_goes r p)) (device_after_commit r p)
        (committing (λ (s : State). MayCome w s.store) w.book r (both_come w covered r there) p (changed_comes w covered r.safe p.change (inl (r, there, inl refl)) purged) (commit_goes r p)))

    quarantining : (outcome : Outcome) → IsPurgedCovered (quarantines w r outcome).0
    quarantining outcome = commits (record { call = ToQuarantine; change = quarantine r.safe }) outcome (nothing_covered w)

    called : (call : Call) → ((c : Change) → (done r.safe call).1 ≡ Some c → IsCovered w c.purged) → (d : Done) → done r.safe call ≡ d → IsPurgedCovered (after_call w r call d).0
    called call purged (told, None) e = covered
    called call purged (told, Some c) e = commits (record { call = call; change = c }) told (purged c (ap (λ (d : Done). d.1) e))

    wrote : (what : Write) (now : ℕ) (c : Change) → (done r.safe (ToWrite what now)).1 ≡ Some c → IsCovered w c.purged
    wrote what now c e =
        unpurged (own_change r.safe (items_written r.safe what now)) c (answered (write_refusal r.safe what) (own_change r.safe (items_written r.safe what now)) c (in_change (write r.safe what now) c (done_changes r.safe (ToWrite what now) c e))).1 refl

    changed_over : (c : Change) → (done r.safe ToUpgrade).1 ≡ Some c → IsCovered w c.purged
    changed_over c e = unpurged (upgraded r.safe) c (answered (upgrade_refusal r.safe) (upgraded r.safe) c (in_change (upgrade r.safe) c (done_changes r.safe ToUpgrade c e))).1 refl

    took : (reply : Reply) (t : Result Change TakeRefusal) → take r.safe reply ≡ t → IsPurgedCovered (after_take w r reply t).0
    took reply (Ok c) e = commits (record { call = ToTake reply; change = c }) (outcomes.Took (length reply.items) (length c.writes) c.usn)
        (unpurged (taken_change r.safe reply (take_items r.safe reply.items)) c (answered (take_refusal r.safe reply (take_items r.safe reply.items) (after r.safe (taken_change r.safe reply (take_items r.safe reply.items)))) (taken_change r.safe reply (take_items r.safe reply.items)) c e).1 refl)
    took reply (Err (takes.RolledBack inv mine shown)) e = quarantining (take_refused (takes.RolledBack inv mine shown))
    took reply (Err _) e = covered

    took_bound : (o : Option Reply) → IsPurgedCovered (delivered w r o).0
    took_bound None = covered
    took_bound (Some reply) = took reply (take r.safe reply) refl

    answered_with : (t : Result Reply ServeRefusal) → IsPurgedCovered (after_serve w r t).0
    answered_with (Ok reply) = record { stores = covered.stores; requests = covered.requests }
    answered_with (Err (serves.RolledBack inv mine shown)) = quarantining (serve_refused (serves.RolledBack inv mine shown))
    answered_with (Err _) = covered

    served_bound : (o : Option Request) → IsPurgedCovered (served w r o).0
    served_bound None = covered
    served_bound (Some q) = answered_with (serve r.safe q w.time)

    collected : (now lifetime : ℕ) → ((c : Change) → collect r.safe now lifetime ≡ Ok c → IsCovered w (collection r.safe (deaths_to_collect r.safe now lifetime)).purged) → (c : Change) → (done r.safe (ToCollect now lifetime)).1 ≡ Some c → IsCovered w c.purged
    collected now lifetime purged c e = let is = in_change (collect r.safe now lifetime) c (done_changes r.safe (ToCollect now lifetime) c e) in
        subst (λ (d : Change). IsCovered w d.purged)
        (answered (collect_refusal r.safe (collection r.safe (deaths_to_collect r.safe now lifetime))) (collection r.safe (deaths_to_collect r.safe now lifetime)) c is).1 (purged c is)

    imaged_from : (b : Bool) → MakesHere w (MayCome w) (backed_up w (if b then None else Some r.safe.store))
    imaged_from true = made_none w (MayCome w) quarantined
    imaged_from false = (refl, only_made (MayCome w) r.safe.store (comes_itself w covered r.safe.store (inl (r, there, inl refl))))

  -- a state that is made of an image
  woken_comes : (image : Store) (dsa inv : Identifier) (s : State) → IsStoreOf w image → adopt image dsa inv ≡ Ok s → MayCome w s.store
  woken_comes image dsa inv s of e = subst (λ (t : State). MayCome w t.store)
      (adopted_is_woken image dsa inv s e)
      (record { grown = raised_grows w image inv image.usn of; covered = purged_covered w covered image of })

  restored : (name : Name) (dsa inv : Identifier) (image : Store) → IsStoreOf w image → (t : Result State AdoptRefusal) → adopt image dsa inv ≡ t → IsPurgedCovered (adopts w (with_replica w.replicas) name t).0
  restored name dsa inv image of (Err x) e = covered
  restored name dsa inv image of (Ok s) e = let new = woken_comes image dsa inv s of e in
      within_case OfWorld w (area_fits (new_log s) s.store) (record w { book = begun w.book s; replicas = with_replica w.replicas (on_new_disk name s) }, outcomes.Ok) covered (placed w covered (begun w.book s) (on_new_disk name s) (new, new))

  installed : (name : Name) (dsa inv : Identifier) (image : Store) → IsStoreOf w image → (t : Result State AdoptRefusal) → adopt image dsa inv ≡ t → IsPurgedCovered (adopts w (λ r. w.replicas ++ r ∷ []) name t).0
  installed name dsa inv image of (Err x) e = covered
  installed name dsa inv image of (Ok s) e = let new = woken_comes image dsa inv s of e in
      within_case OfWorld w (area_fits (new_log s) s.store) (record w { book = begun w.book s; replicas = w.replicas ++ on_new_disk name s ∷ [] }, outcomes.Ok) covered (joining w covered (begun w.book s) (on_new_disk name s) (new, new))

  is_image : (name : Name) (image : Store) → bound_at w.images name ≡ Some image → IsStoreOf w image
  is_image name image = bound_member (IsStoreOf w) w.images name image (λ x m. inr (x, m, refl))

  pub asked : (name partner : Name) (max version : ℕ) → MakesHere w (λ (q : Request). IsGrown w q.vector) (asks w name partner max version)
  asked name partner max version =
      made_case (MakesHere w (λ (q : Request). IsGrown w q.vector)) w name (nothing w) none _ (λ r is. made_case (MakesHere w (λ (q : Request). IsGrown w q.vector)) w partner (nothing w) none _ (λ p at. up_case (MakesHere w (λ (q : Request). IsGrown w q.vector)) w name (nothing w) none r.standing _ (λ up.
      (refl, only_made (λ (q : Request). IsGrown w q.vector) (ask r.safe p.safe.dsa max version) (as_it_was w r.safe.store (inl (r, is.there, inl refl)))))))
    where
      none : (x : Outcome) → MakesHere w (λ (q : Request). IsGrown w q.vector) (nothing w x)
      none x = made_none w (λ (q : Request). IsGrown w q.vector) x

  given_more : (dsas invs : List Identifier) → IsPurgedCovered (gives w dsas invs)
  given_more dsas invs = record { stores = covered.stores; requests = covered.requests }

  -- calls by name

  call_covered : (name : Name) (call : Call) → ((r : Replica) → IsCalled w name r → r.standing ≡ Up → (c : Change) → (done r.safe call).1 ≡ Some c → IsCovered w c.purged) → IsPurgedCovered (does w name call).0
  call_covered name call purged = reached_case OfWorld w name (stays w) (λ x. covered) (λ r. after_call w r call (done r.safe call)) (λ r is up. called r is.there call (purged r is up) (done r.safe call) refl)

  pub writes_covered : (name : Name) (what : Write) → IsPurgedCovered (does w name (ToWrite what w.time)).0
  writes_covered name what = call_covered name (ToWrite what w.time) (λ r is up. wrote r is.there what w.time)

  pub asked_covered : (name : Name) (what : Asked) → KeepsCovered w (events.Calls name what) → IsPurgedCovered (does w name (call_meant what w.time)).0
  asked_covered name (calls.Write what) keeps = writes_covered name (write_meant what)
  asked_covered name (calls.Collect lifetime) keeps = call_covered name (ToCollect w.time lifetime) (λ r is up. collected r is.there w.time lifetime (λ c e.
      let deaths = keeps r is.there is.name up c e in deaths_covered w (deaths_to_collect r.safe w.time lifetime) deaths.stores deaths.requests))
  asked_covered name calls.Upgrade keeps = call_covered name ToUpgrade (λ r is up. changed_over r is.there)

  pub serves_covered : (name : Name) (o : Option Request) → IsPurgedCovered (serves_request w name o).0
  serves_covered name o = reached_case (λ (t : Sent Reply). IsPurgedCovered t.0) w name (nothing w) (λ x. covered) (λ r. served w r o) (λ r is up. served_bound r is.there o)

  pub delivers_covered : (name : Name) (o : Option Reply) → IsPurgedCovered (delivers w name o).0
  delivers_covered name o = reached_case OfWorld w name (stays w) (λ x. covered) (λ r. delivered w r o) (λ r is up. took_bound r is.there o)

  backups_covered : (name : Name) → MakesHere w (MayCome w) (of_controller w name (nothing w) (λ r. backed_up w (backup r.safe)))
  backups_covered name = reached_case (MakesHere w (MayCome w)) w name (nothing w) (made_none w (MayCome w)) (λ r. backed_up w (backup r.safe)) (λ r is up. imaged_from r is.there (is_quarantined r.safe.mode))

  pub meets_covered : (name : Name) (what : Meeting) → IsPurgedCovered (of_made (stays w) (replica_at w name) (λ r. meets w r what)).0
  meets_covered name = meets_case OfWorld w name (λ o plain. covered)
      (λ r is. moved_world r is.there (moved (w.book, r) Settle) Down (device_settled r) (settling (λ (s : State). MayCome w s.store) w.book r (both_come w covered r is.there)))
      (λ r is not_up. moved_world r is.there (fold moved (w.book, r) (moves_of_start (start_goes r))) (standing_after r.standing (start_goes r)) (device_after_start r) (starting (λ (s : State). MayCome w s.store) w.book r (both_come w covered r is.there) (start_goes r)))
      (λ r is plan. placed w covered w.book (record r { device = record r.device { plan = Some plan } }) (both_come w covered r is.there))

  pub reports_covered : (name : Name) (what : Replica → Outcome) → IsPurgedCovered (of_controller w name (stays w) (λ r. (w, what r))).0
  reports_covered name what = reached_case OfWorld w name (stays w) (λ x. covered) (λ r. (w, what r)) (λ r is up. covered)

  -- a new controller, while nothing was collected
  begins_covered : (name : Name) (dsa inv : Identifier) → ((s : Store) → IsStoreOf w s → s.purged ≡ []) → IsPurgedCovered (comes w name inv (comings.Fresh dsa)).0
  begins_covered name dsa inv none = nothing_collected (comes w name inv (comings.Fresh dsa)).0 each
    where
      of : (q : Replica) → Member q (w.replicas ++ on_new_disk name (empty_state dsa inv) ∷ []) → (q.safe.store.purged ≡ []) × (q.read.store.purged ≡ [])
      of q m = by (member_of_either w.replicas (on_new_disk name (empty_state dsa inv) ∷ []) q m)
        where
          by : Member q w.replicas ⊎ Member q (on_new_disk name (empty_state dsa inv) ∷ []) → (q.safe.store.purged ≡ []) × (q.read.store.purged ≡ [])
          by (inl n) = (none q.safe.store (inl (q, n, inl refl)), none q.read.store (inl (q, n, inr refl)))
          by (inr (inl e)) = (ap (λ (p : Replica). p.safe.store.purged) e, ap (λ (p : Replica). p.read.store.purged) e)
          by (inr (inr n)) = absurd n

      each : (s : Store) → IsStoreOf (comes w name inv (comings.Fresh dsa)).0 s → s.purged ≡ []
      each s (inl (q, m, inl e)) = ap (λ (t : Store). t.purged) e ∙ (of q m).0
      each s (inl (q, m, inr e)) = ap (λ (t : Store). t.purged) e ∙ (of q m).1
      each s (inr (i, m, e)) = none s (inr (i, m, e))

  -- what is made is bound in the world in which it was made
  bound_covered : {A : Type 0} (P : A → Type 0) (t : Sent A) (binds : World → Option A → World) → MakesHere w P t → (((x : A) → t.2 ≡ Some x → P x) → IsPurgedCovered (binds w t.2)) → OfWorld (made_bound t binds)
  bound_covered P t binds m binding = subst (λ (v : World). IsPurgedCovered (binds v t.2)) (sym m.0) (binding m.1)

  pub makes_covered : (name bind : Name) (what : Made) → IsPurgedCovered (makes w name what bind).0
  makes_covered name bind (mades.Ask partner max version) = bound_covered (λ (q : Request). IsGrown w q.vector) (asks w name partner max version) (λ v q. record v { requests = bound v.requests bind q }) (asked name partner max version)
      (requested w covered bind (asks w name partner max version).2)
  makes_covered name bind (mades.Serve request) = let c = serves_covered name (bound_at w.requests request) in record { stores = c.stores; requests = c.requests }
  makes_covered name bind mades.Backup = bound_covered (MayCome w) (of_controller w name (nothing w) (λ r. backed_up w (backup r.safe))) (λ v i. record v { images = bound v.images bind i }) (backups_covered name)
      (imaged w covered bind (of_controller w name (nothing w) (λ r. backed_up w (backup r.safe))).2)
  makes_covered name bind mades.Snapshot =
      let c = made_case (λ (t : Sent Snapshot). IsPurgedCovered t.0) w name (nothing w) (λ x. covered) (λ r. (w, outcomes.Ok, Some (record { state = r.read; log = r.device.read_log }))) (λ r is. covered) in record { stores = c.stores; requests = c.requests }

  -- a world into which a snapshot was put back isn't clean
  put_back_covered : (name : Name) (o : Option Snapshot) → (of_made (stays w) (replica_at w name) (λ r. put_back w name o)).0.clean ≡ true → IsPurgedCovered (of_made (stays w) (replica_at w name) (λ r. put_back w name o)).0
  put_back_covered name o clean = made_case (λ (g : Gone). g.0.clean ≡ true → OfWorld g) w name (stays w) (λ x is. covered) (λ r. put_back w name o) (λ r called is. by o is) clean
    where
      by : (o : Option Snapshot) → (put_back w name o).0.clean ≡ true → OfWorld (put_back w name o)
      by None is = covered
      by (Some s) is = absurd (cc)

  -- a revival, whether or not its image was made
  revived_covered : (name bind : Name) (guid parent : Identifier) (text : List ℕ) → OfWorld (uses w name (used.Revive guid parent text) bind)
  revived_covered name bind guid parent text = image_case OfWorld w (bound_at w.images bind) (λ i. does w name (ToWrite (Revive i guid parent text) w.time)) covered (λ i is. writes_covered name (Revive i guid parent text))

  pub uses_covered : (name bind : Name) (what : Use) → (uses w name what bind).0.clean ≡ true → IsPurgedCovered (uses w name what bind).0
  uses_covered name bind used.Deliver clean = delivers_covered name (bound_at w.replies bind)
  uses_covered name bind (used.Revive guid parent text) clean = revived_covered name bind guid parent text
  uses_covered name bind used.Rollback clean = put_back_covered name (bound_at w.snapshots bind) clean

pub comes_covered : (w : World) → IsPurgedCovered w → (name : Name) (inv : Identifier) (how : Coming) → KeepsCovered w (events.Comes name inv how) → IsPurgedCovered (comes w name inv how).0
comes_covered w covered name inv (comings.Fresh dsa) keeps = begins_covered w covered name dsa inv keeps
comes_covered w covered name inv (comings.Installed dsa image) keeps = installs_case (λ (g : Gone). IsPurgedCovered g.0) w name inv image dsa (given_more w covered (dsa ∷ []) (inv ∷ []))
    (λ i e. installed (gives w (dsa ∷ []) (inv ∷ [])) (given_more w covered (dsa ∷ []) (inv ∷ [])) name dsa inv i (is_image w covered image i e) (adopt i dsa inv) refl)
comes_covered w covered name inv (comings.Restored image) keeps = restores_case (λ (g : Gone). IsPurgedCovered g.0) w name inv image (λ o plain. given_more w covered [] (inv ∷ []))
    (λ r called i e. restored (gives w [] (inv ∷ [])) (given_more w covered [] (inv ∷ [])) name r.safe.dsa inv i (is_image w covered image i e) (adopt i r.safe.dsa inv) refl)
