-- Each call of a controller leaves every state in form.
use Rattle.std.proofs.Common.{◌≡◌, ◌⊎◌, inl, inr, ⊎_elim, ℕ, List, [], ◌∷◌, ◌++◌, Bool, true, false, Option, Some, None, Result, Ok, Err, refl, sym, ap, subst, fold, length, if◌then◌else◌}
use Rattle.adr_call.specs.declared.event.Meeting.{Meeting}
use Rattle.adr_call.specs.declared.outcome.Outcome.{Outcome}
use Rattle.adr_call.specs.declared.outcome.Outcome.TheVariants as outcomes
use Rattle.adr_call.specs.declared.refusal.ServeRefusal.{ServeRefusal}
use Rattle.adr_call.specs.declared.refusal.ServeRefusal.TheVariants as serves
use Rattle.adr_call.specs.declared.refusal.TakeRefusal.{TakeRefusal}
use Rattle.adr_call.specs.declared.refusal.TakeRefusal.TheVariants as takes
use Rattle.adr_call.specs.declared.refusal.AdoptRefusal.{AdoptRefusal}
use Rattle.adr_wire.specs.Headed.{is_version}
use Rattle.adr_wire.specs.Ranges.{IsId, IsU32, IsU64}
use Rattle.adr_model.specs.Member.{Member, Each}
use Rattle.adr_model.specs.Update.{Identifier, Update}
use Rattle.adr_model.specs.Store.{Store, State, empty_state}
use Rattle.adr_model.specs.Change.{Change, after}
use Rattle.adr_model.specs.Serve.{Request, Reply, is_quarantined, ask, serve}
use Rattle.adr_model.specs.Client.{Done, done}
use Rattle.adr_model.specs.Write.{Write, write}
use Rattle.adr_model.specs.Given.{IsWellGiven}
use Rattle.adr_model.specs.Take.{take}
use Rattle.adr_model.specs.Collect.{collect, backup, adopt, quarantine}
use Rattle.adr_model.specs.Upgrade.{upgrade}
use Rattle.adr_model.specs.Lengths.{new_log, area_fits, change_fits}
use Rattle.adr_model.specs.Refused.{serve_refused, take_refused, quarantined}
use Rattle.adr_disk.specs.declared.memory.Plan.{Plan}
use Rattle.adr_model.specs.Replica.{Call, Pending, ToWrite, ToTake, ToCollect, ToUpgrade, ToQuarantine, Standing, Down, Failed, Device, Replica, on_disk, on_new_disk, Book, begun, Settle, moved, moves_of_commit, moves_of_start, standing_after, commit_goes, start_goes, device_after_commit, device_after_start, device_settled}
use Rattle.adr_model.specs.World.{Name, World, Snapshot, Gone, Sent, stays, nothing, bound_at, replica_at, with_replica, of_made, of_controller, committed, commit, quarantines, after_call, does, noted, asks, after_serve, served, serves_request, after_take, delivered, delivers, backed_up, adopts, of_image, put_back, with_plan, stops, started}
use Rattle.adr_model.specs.Step.{meets}
use Rattle.adr_model.proofs.Members.{member_of_either}
use Rattle.adr_law_convergence.proofs.Found.{bound_member, in_place}
use Rattle.adr_law_convergence.proofs.Calls.{in_change}
use Rattle.adr_model.proofs.Calling.{done_changes}
use Rattle.adr_law_convergence.proofs.Binding.{only_made}
use Rattle.adr_law_convergence.proofs.Reached.{made_case, up_case, reached_case, within_case, image_case, meets_case}
use Rattle.adr_law_convergence.proofs.Moves.{settling, starting, committing}
use Rattle.adr_law_recorded.specs.Typed.{IsTypedWrite}
use Rattle.adr_law_recorded.specs.Ranged.{IsRangedRequest}
use Rattle.adr_law_recorded.proofs.Asked.{asked_in_range}
use Rattle.adr_law_headline.proofs.StayingFormed.{IsInForm, IsImageInForm, IsReplyInForm, written_by, written_in_form, taken_in_form, collected_in_form, upgraded_in_form, quarantined_in_form, served_in_form, new_in_form, image_in_form, adopted_in_form}

abbrev pub BothInForm : (Update → Type 0) → Replica → Type 0
BothInForm P r = IsInForm P r.safe × IsInForm P r.read

-- every state that there is, or that may come back, is in form, and every message is
pub record IsWorldInForm (P : Update → Type 0) (w : World) : Type 0 where
  pub time : IsU64 w.time
  pub replicas : Each (BothInForm P) w.replicas
  pub requests : Each (λ (q : Name × Request). IsRangedRequest q.1) w.requests
  pub replies : Each (λ (r : Name × Reply). IsReplyInForm P r.1) w.replies
  pub images : Each (λ (i : Name × Store). IsImageInForm P i.1) w.images
  pub snapshots : Each (λ (s : Name × Snapshot). IsInForm P s.1.state) w.snapshots

-- the world behind a call is in form, and what it makes is so
abbrev pub MakesInForm : {A : Type 0} → (Update → Type 0) → (A → Type 0) → Sent A → Type 0
MakesInForm P Q t = IsWorldInForm P t.0 × ((x : _) → t.2 ≡ Some x → Q x)

module _ (P : Update → Type 0) (w : World) (is : IsWorldInForm P w) where
  abbrev InForm : Gone → Type 0
  InForm g = IsWorldInForm P g.0

  each_placed : (new : Replica) → BothInForm P new → Each (BothInForm P) (with_replica w.replicas new)
  each_placed new both q m = ⊎_elim (λ e. subst (BothInForm P) (sym e) both) (λ t. is.replicas q t.0) (in_place w.replicas new q m)

  each_joined : (new : Replica) → BothInForm P new → Each (BothInForm P) (w.replicas ++ new ∷ [])
  each_joined new both q m = by (member_of_either w.replicas (new ∷ []) q m)
    where
      by : Member q w.replicas ⊎ Member q (new ∷ []) → BothInForm P q
      by (inl n) = is.replicas q n
      by (inr (inl e)) = subst (BothInForm P) (sym e) both
      by (inr (inr n)) = absurd n

  moved_on : (book : Book) (rs : List Replica) → Each (BothInForm P) rs → IsWorldInForm P (record w { book = book; replicas = rs })
  moved_on book rs each = record { time = is.time; replicas = each; requests = is.requests; replies = is.replies; images = is.images; snapshots = is.snapshots }

  nothing_made : {A : Type 0} (Q : A → Type 0) (x : Outcome) → MakesInForm P Q (nothing w x)
  nothing_made Q x = (is, λ y e. absurd (cc))

  -- ---- calls of a controller that is there

  module _ (r : Replica) (there : Member r w.replicas) where
    moved_world : (m : Book × Replica) (standing : Standing) (device : Device) → IsInForm P m.1.safe × IsInForm P m.1.read
        → IsWorldInForm P (record w { book = m.0; replicas = with_replica w.replicas (record m.1 { standing = standing; device = device }) })
    moved_world m standing device both = moved_on m.0 (with_replica w.replicas (record m.1 { standing = standing; device = device })) (each_placed (record m.1 { standing = standing; device = device }) both)

    commits : (p : Pending) (outcome : Outcome) → IsInForm P (after r.safe p.change) → InForm (commit w r p outcome)
    commits p outcome new = within_case InForm w (change_fits r.device.safe_log r.safe.store p.change) (committed w r p outcome) is
        (moved_world (fold moved (w.book, r) (moves_of_commit p (commit_goes r p))) (standing_after Failed (commit_goes r p)) (device_after_commit r p)
        (committing (IsInForm P) w.book r (is.replicas r there) p new (commit_goes r p)))

    quarantining : (outcome : Outcome) → InForm (quarantines w r outcome)
    quarantining outcome = commits (record { call = ToQuarantine; change = quarantine r.safe }) outcome (quarantined_in_form P r.safe (is.replicas r there).0)

    called : (call : Call) → ((c : Change) → (done r.safe call).1 ≡ Some c → IsInForm P (after r.safe c)) → (d : Done) → done r.safe call ≡ d → InForm (after_call w r call d)
    called call new (told, None) e = is
    called call new (told, Some c) e = commits (record { call = call; change = c }) told (new c (ap (λ (d : Done). d.1) e))

    took : (reply : Reply) → IsReplyInForm P reply → (t : Result Change TakeRefusal) → take r.safe reply ≡ t → InForm (after_take w r reply t)
    took reply form (Ok c) e = commits (record { call = ToTake reply; change = c }) (outcomes.Took (length reply.items) (length c.writes) c.usn) (taken_in_form P r.safe reply c (is.replicas r there).0 form e)
    took reply form (Err (takes.RolledBack inv mine shown)) e = quarantining (take_refused (takes.RolledBack inv mine shown))
    took reply form (Err _) e = is

    took_bound : (o : Option Reply) → ((reply : Reply) → o ≡ Some reply → IsReplyInForm P reply) → InForm (delivered w r o)
    took_bound None all = is
    took_bound (Some reply) all = took reply (all reply refl) (take r.safe reply) refl

    -- the last reply that is noted is none of what is kept here
    noting : (reply : Reply) → IsWorldInForm P (noted w reply)
    noting reply = record { time = is.time; replicas = is.replicas; requests = is.requests; replies = is.replies; images = is.images; snapshots = is.snapshots }

    answered_with : (q : Request) → IsRangedRequest q → (t : Result Reply ServeRefusal) → serve r.safe q w.time ≡ t → MakesInForm P (IsReplyInForm P) (after_serve w r t)
    answered_with q ranged (Ok reply) e = (noting reply, only_made (IsReplyInForm P) reply (served_in_form P r.safe q w.time reply (is.replicas r there).0 ranged is.time e))
    answered_with q ranged (Err (serves.RolledBack inv mine shown)) e = (quarantining (serve_refused (serves.RolledBack inv mine shown)), λ y n. absurd (cc))
    answered_with q ranged (Err _) e = (is, λ y n. absurd (cc))

    served_bound : (o : Option Request) → ((q : Request) → o ≡ Some q → IsRangedRequest q) → MakesInForm P (IsReplyInForm P) (served w r o)
    served_bound None all = nothing_made (IsReplyInForm P) outcomes.Absent
    served_bound (Some q) all = answered_with q (all q refl) (serve r.safe q w.time) refl

    planned : (plan : Plan) → InForm (with_plan w r plan)
    planned plan = let new : Replica = record r { device = record r.device { plan = Some plan } } in moved_on w.book (with_replica w.replicas new) (each_placed new (is.replicas r there))

    restarted : InForm (started w r)
    restarted = moved_world (fold moved (w.book, r) (moves_of_start (start_goes r))) (standing_after r.standing (start_goes r)) (device_after_start r) (starting (IsInForm P) w.book r (is.replicas r there) (start_goes r))

    stopped : InForm (stops w r)
    stopped = moved_world (moved (w.book, r) Settle) Down (device_settled r) (settling (IsInForm P) w.book r (is.replicas r there))

    imaged_from : (b : Bool) → MakesInForm P (IsImageInForm P) (backed_up w (if b then None else Some r.safe.store))
    imaged_from true = nothing_made (IsImageInForm P) quarantined
    imaged_from false = (is, only_made (IsImageInForm P) r.safe.store (image_in_form P r.safe (is.replicas r there).0))

  -- ---- calls by name

  call_in_form : (name : Name) (call : Call) → ((r : Replica) → Member r w.replicas → (c : Change) → (done r.safe call).1 ≡ Some c → IsInForm P (after r.safe c)) → InForm (does w name call)
  call_in_form name call new = reached_case InForm w name (stays w) (λ x. is) (λ r. after_call w r call (done r.safe call)) (λ r reached up. called r reached.there call (new r reached.there) (done r.safe call) refl)

  pub writes_in_form : (name : Name) (what : Write) → IsWellGiven what → IsTypedWrite what → Each (λ r. Each P (written_by r.safe what w.time)) w.replicas → InForm (does w name (ToWrite what w.time))
  writes_in_form name what given typed new = call_in_form name (ToWrite what w.time) (λ r there c e.
      written_in_form P r.safe what w.time c (is.replicas r there).0 given typed is.time (new r there) (in_change (write r.safe what w.time) c (done_changes r.safe (ToWrite what w.time) c e)))

  pub collects_in_form : (name : Name) (lifetime : ℕ) → InForm (does w name (ToCollect w.time lifetime))
  collects_in_form name lifetime = call_in_form name (ToCollect w.time lifetime) (λ r there c e.
      collected_in_form P r.safe w.time lifetime c (is.replicas r there).0 (in_change (collect r.safe w.time lifetime) c (done_changes r.safe (ToCollect w.time lifetime) c e)))

  pub upgrades_in_form : (name : Name) → InForm (does w name ToUpgrade)
  upgrades_in_form name = call_in_form name ToUpgrade (λ r there c e.
      upgraded_in_form P r.safe c (is.replicas r there).0 (in_change (upgrade r.safe) c (done_changes r.safe ToUpgrade c e)))

  pub asks_in_form : (name partner : Name) (max version : ℕ) → IsU32 max → is_version version ≡ true → MakesInForm P IsRangedRequest (asks w name partner max version)
  asks_in_form name partner max version few known =
      made_case (MakesInForm P IsRangedRequest) w name (nothing w) none _ (λ r called. made_case (MakesInForm P IsRangedRequest) w partner (nothing w) none _ (λ p at. up_case (MakesInForm P IsRangedRequest) w name (nothing w) none r.standing _ (λ up.
      (is, only_made IsRangedRequest (ask r.safe p.safe.dsa max version) (asked_in_range r.safe p.safe.dsa max version (is.replicas r called.there).0.logged few known)))))
    where
      none : (x : Outcome) → MakesInForm P IsRangedRequest (nothing w x)
      none x = nothing_made IsRangedRequest x

  pub serves_in_form : (name : Name) (o : Option Request) → ((q : Request) → o ≡ Some q → IsRangedRequest q) → MakesInForm P (IsReplyInForm P) (serves_request w name o)
  serves_in_form name o all = reached_case (MakesInForm P (IsReplyInForm P)) w name (nothing w) (nothing_made (IsReplyInForm P)) (λ r. served w r o) (λ r called up. served_bound r called.there o all)

  pub delivers_in_form : (name : Name) (o : Option Reply) → ((reply : Reply) → o ≡ Some reply → IsReplyInForm P reply) → InForm (delivers w name o)
  delivers_in_form name o all = reached_case InForm w name (stays w) (λ x. is) (λ r. delivered w r o) (λ r called up. took_bound r called.there o all)

  pub backups_in_form : (name : Name) → MakesInForm P (IsImageInForm P) (of_controller w name (nothing w) (λ r. backed_up w (backup r.safe)))
  backups_in_form name = reached_case (MakesInForm P (IsImageInForm P)) w name (nothing w) (nothing_made (IsImageInForm P)) (λ r. backed_up w (backup r.safe)) (λ r called up. imaged_from r called.there (is_quarantined r.safe.mode))

  pub copies_in_form : (name : Name) → MakesInForm P (λ (s : Snapshot). IsInForm P s.state) (of_made (nothing w) (replica_at w name) (λ r. (w, outcomes.Ok, Some (record { state = r.read; log = r.device.read_log }))))
  copies_in_form name = made_case (MakesInForm P (λ (s : Snapshot). IsInForm P s.state)) w name (nothing w) (nothing_made (λ (s : Snapshot). IsInForm P s.state)) (λ r. (w, outcomes.Ok, Some (record { state = r.read; log = r.device.read_log })))
      (λ r called. (is, only_made (λ (s : Snapshot). IsInForm P s.state) (record { state = r.read; log = r.device.read_log }) (is.replicas r called.there).1))

  pub meets_in_form : (name : Name) (what : Meeting) → InForm (of_made (stays w) (replica_at w name) (λ r. meets w r what))
  meets_in_form name = meets_case InForm w name (λ o plain. is) (λ r called. stopped r called.there) (λ r called down. restarted r called.there) (λ r called plan. planned r called.there plan)

  pub reports_in_form : (name : Name) (what : Replica → Outcome) → InForm (of_controller w name (stays w) (λ r. (w, what r)))
  reports_in_form name what = reached_case InForm w name (stays w) (λ x. is) (λ r. (w, what r)) (λ r called up. is)

  -- ---- controllers that begin on a new disk, and disks that are put back

  adopted : (place : Replica → List Replica) (name : Name) (image : Store) (dsa inv : Identifier) → IsImageInForm P image → IsId dsa → IsId inv
      → ((s : State) → IsInForm P s → Each (BothInForm P) (place (on_new_disk name s))) → InForm (adopts w place name (adopt image dsa inv))
  adopted place name image dsa inv of right_dsa right_inv places = by (adopt image dsa inv) refl
    where
      by : (t : Result State AdoptRefusal) → adopt image dsa inv ≡ t → InForm (adopts w place name t)
      by (Err x) e = is
      by (Ok s) e = within_case InForm w (area_fits (new_log s) s.store) (record w { book = begun w.book s; replicas = place (on_new_disk name s) }, outcomes.Ok) is
          (moved_on (begun w.book s) (place (on_new_disk name s)) (places s (adopted_in_form P image dsa inv s of right_dsa right_inv e)))

  of_bound : (image : Name) (act : Store → Gone) → ((i : Store) → IsImageInForm P i → InForm (act i)) → InForm (of_image w (bound_at w.images image) act)
  of_bound image act acts = image_case InForm w (bound_at w.images image) act is (λ i e. acts i (bound_member (IsImageInForm P) w.images image i is.images e))

  pub restores_in_form : (name image : Name) (inv : Identifier) → IsId inv → InForm (of_made (stays w) (replica_at w name) (λ r. of_image w (bound_at w.images image) (λ i. adopts w (with_replica w.replicas) name (adopt i r.safe.dsa inv))))
  restores_in_form name image inv right = made_case InForm w name (stays w) (λ x. is) (λ r. of_image w (bound_at w.images image) (λ i. adopts w (with_replica w.replicas) name (adopt i r.safe.dsa inv)))
      (λ r called. of_bound image (λ i. adopts w (with_replica w.replicas) name (adopt i r.safe.dsa inv)) (λ i of. adopted (with_replica w.replicas) name i r.safe.dsa inv of (is.replicas r called.there).0.logged.dsa right (λ s new. each_placed (on_new_disk name s) (new, new))))

  pub installs_in_form : (name image : Name) (dsa inv : Identifier) → IsId dsa → IsId inv → InForm (of_image w (bound_at w.images image) (λ i. adopts w (λ r. w.replicas ++ r ∷ []) name (adopt i dsa inv)))
  installs_in_form name image dsa inv right_dsa right_inv = of_bound image (λ i. adopts w (λ r. w.replicas ++ r ∷ []) name (adopt i dsa inv)) (λ i of. adopted (λ r. w.replicas ++ r ∷ []) name i dsa inv of right_dsa right_inv (λ s new. each_joined (on_new_disk name s) (new, new)))

  -- a snapshot that is put back
  pub puts_back_in_form : (name snapshot : Name) → InForm (of_made (stays w) (replica_at w name) (λ r. put_back w name (bound_at w.snapshots snapshot)))
  puts_back_in_form name snapshot = made_case InForm w name (stays w) (λ x. is) (λ r. put_back w name (bound_at w.snapshots snapshot)) (λ r called. by (bound_at w.snapshots snapshot) refl)
    where
      by : (o : Option Snapshot) → bound_at w.snapshots snapshot ≡ o → InForm (put_back w name o)
      by None e = is
      by (Some s) e =
          let of : IsInForm P s.state = bound_member (λ (t : Snapshot). IsInForm P t.state) w.snapshots snapshot s is.snapshots e in
          record { time = is.time; replicas = each_placed (on_disk name s.state s.log) (of, of); requests = is.requests; replies = is.replies; images = is.images; snapshots = is.snapshots }

  -- a new, empty controller
  pub begins_in_form : (name : Name) (dsa inv : Identifier) → IsId dsa → IsId inv → IsWorldInForm P (record w { book = begun w.book (empty_state dsa inv); replicas = w.replicas ++ on_new_disk name (empty_state dsa inv) ∷ [] })
  begins_in_form name dsa inv right_dsa right_inv = let new = new_in_form P dsa inv right_dsa right_inv in
      moved_on (begun w.book (empty_state dsa inv)) (w.replicas ++ on_new_disk name (empty_state dsa inv) ∷ []) (each_joined (on_new_disk name (empty_state dsa inv)) (new, new))
