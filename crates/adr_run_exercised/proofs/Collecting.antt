-- A collection keeps controllers level: it issues nothing, and loses nothing that was taken.
use Rattle.std.proofs.Common.{◌≡◌, ◌⊎◌, inl, inr, ⊎_elim, ℕ, List, [], ◌∷◌, ◌++◌, Bool, true, false, Result, Ok, Err, refl, sym, ap, ◌∙◌, subst, fold, map, nat_le, ◌==◌, length, append-nil, if◌then◌else◌, arith}
use Rattle.adr_call.specs.declared.outcome.Outcome.{Outcome}
use Rattle.adr_call.specs.declared.outcome.Outcome.TheVariants as outcomes
use Rattle.adr_call.specs.declared.refusal.Table.TheVariants.{Log}
use Rattle.adr_call.specs.declared.refusal.CollectRefusal.{CollectRefusal}
use Rattle.adr_disk.specs.declared.memory.Crash.TheVariants.{Kept, Lost, Torn}
use Rattle.adr_call.specs.declared.call.Call.TheVariants as calls
use Rattle.adr_call.specs.declared.event.Event.{Event}
use Rattle.adr_call.specs.declared.event.Event.TheVariants as events
use Rattle.adr_values.specs.declared.stamp.Oid.{Oid}
use Rattle.adr_values.specs.Vector.{at}
use Rattle.adr_values.proofs.Joining.{raised_elsewhere}
use Rattle.adr_model.specs.Member.{Member, Each}
use Rattle.adr_model.specs.Update.{Update, inv_of}
use Rattle.adr_model.specs.Reflects.{Covers, knowledge_of}
use Rattle.adr_model.specs.Store.{Store, State, updates_of}
use Rattle.adr_model.specs.Change.{Change, after}
use Rattle.adr_model.specs.Lengths.{change_fits, log_limit}
use Rattle.adr_model.specs.Collect.{deaths_to_collect, collection, collect}
use Rattle.adr_model.specs.Refused.{full, collect_refused}
use Rattle.adr_disk.specs.declared.memory.Mishap.TheVariants.{Fails, Stops}
use Rattle.adr_model.specs.Client.{collected, done}
use Rattle.adr_model.specs.Replica.{Pending, ToCollect, issued_by, Up, Failed, Replica, Book, Move, Begin, Settle, Forget, moved, Went, Passed, Met, moves_of_commit, standing_after, commit_goes, device_after_commit}
use Rattle.adr_model.specs.World.{Name, World, Gone, stays, with_replica, committed, after_call, does}
use Rattle.adr_model.specs.Step.{step, after_lines}
use Rattle.adr_model.specs.Sound.{IsSoundState, IsSoundWorld}
use Rattle.adr_law_knowledge.specs.Grows.{Keeps}
use Rattle.adr_law_knowledge.specs.Known.{IsSoundKnowledge}
use Rattle.adr_law_knowledge.proofs.Comparing.{supersedes_self}
use Rattle.adr_law_knowledge.proofs.Knows.{covers_up}
use Rattle.adr_law_calls.proofs.CollectionFollows.{collect_is_collection}
use Rattle.adr_law_calls.proofs.CollectionLeaves.{collection_leaves}
use Rattle.adr_law_calls.proofs.Removing.{update_stood}
use Rattle.adr_law_convergence.proofs.Acting.{up_is_settled}
use Rattle.adr_law_convergence.proofs.Controllers.{replica_is_sound}
use Rattle.adr_law_convergence.proofs.Found.{in_place}
use Rattle.adr_law_convergence.proofs.Issuing.{step_keeps}
use Rattle.adr_law_convergence.proofs.Moves.{committing}
use Rattle.adr_law_convergence.proofs.Reached.{reached_case, within_case}
use Rattle.adr_law_convergence.proofs.Stepping.{step_sound}
use Rattle.adr_law_convergence.proofs.Knowing.{knows_too}
use Rattle.adr_run_exercised.proofs.Level.{IsLevel, AreLevel, own_or_other, own_covered}

-- ---- stores

-- a store that holds nothing more than another one, covers no more of what was issued, and has lost nothing that was taken
record ComesOf (issued : List Update) (s t : Store) : Type 0 where
  held : Each (λ u. Member u (updates_of s.rows)) (updates_of t.rows)
  covered : Each (λ u. Covers (at t.vector) u → Covers (at s.vector) u) issued
  keeps : Keeps issued (knowledge_of s) (knowledge_of t)

of_itself : (issued : List Update) (s : Store) → ComesOf issued s s
of_itself issued s = record { held = λ u m. m; covered = λ u m c. c; keeps = λ u h. h }

-- such a store is as level as the other one
level_too : (issued all : List Update) (s t : Store) → IsSoundKnowledge issued (knowledge_of s) → ComesOf issued s t → IsLevel issued all s → IsLevel issued all t
level_too issued all s t sound comes is = record {
  held = λ u m. is.held u (comes.held u m);
  covered = λ u m c. is.covered u m (comes.covered u m c);
  known = λ u m. knows_too issued (knowledge_of s) (knowledge_of t) (λ x k. comes.keeps x (inl (x, k, supersedes_self x)))
      (λ x k purged. comes.keeps x (sound.covered x k (covers_up (at s.purged) (at s.vector) x sound.purged purged))) u (is.known u m);
}

module _ (w : World) (sound : IsSoundWorld w) where
  module _ (r : Replica) (there : Member r w.replicas) (lifetime : ℕ) where
    abbrev s : State
    s = r.safe

    abbrev dead : List (Oid × Update)
    dead = deaths_to_collect s w.time lifetime

    state : IsSoundState w.book s
    state = (sound.replicas r there).safe

    -- the own cursor rises, and all that was issued under it was covered before
    covered_before : Each (λ u. Covers (at (after s (collection s dead)).store.vector) u → Covers (at s.store.vector) u) w.book.issued
    covered_before u m le = ⊎_elim
        (λ own. own_covered w.book s u sound.book state m own)
        (λ other. omega (arith, le, raised_elsewhere s.store.vector s.inv (collection s dead).usn (inv_of u) other))
        (own_or_other s.inv (inv_of u))

    collection_comes : (c : Change) → collect s w.time lifetime ≡ Ok c → ComesOf w.book.issued s.store (after s c).store
    collection_comes c e = record {
      held = subst (λ (x : Change). Each (λ u. Member u (updates_of s.store.rows)) (updates_of (after s x).store.rows)) is (λ u m. update_stood (map (λ (d : Oid × Update). d.0) dead) s.store.rows u m);
      covered = subst (λ (x : Change). Each (λ u. Covers (at (after s x).store.vector) u → Covers (at s.store.vector) u) w.book.issued) is covered_before;
      keeps = (collection_leaves w.book s w.time lifetime c sound.book state e).1.keeps;
    }
      where
        is : collection s dead ≡ c
        is = collect_is_collection s w.time lifetime c e

-- ---- worlds

-- a change that issues nothing leaves what was issued
issues_nothing : (book : Book) (r : Replica) (p : Pending) → issued_by p.call p.change ≡ [] → (g : Went) → (fold moved (book, r) (moves_of_commit p g)).0.issued ≡ book.issued
issues_nothing book r p none = by
  where
    settles : book.issued ++ issued_by p.call p.change ≡ book.issued
    settles = ap (λ us. book.issued ++ us) none ∙ append-nil book.issued

    tested : (b : Bool) (ms : List Move) → (fold moved (book, r) ms).0.issued ≡ book.issued → (fold moved (book, r) (if b then ms else [])).0.issued ≡ book.issued
    tested true ms h = h
    tested false ms h = refl

    by : (g : Went) → (fold moved (book, r) (moves_of_commit p g)).0.issued ≡ book.issued
    by (Passed left) = settles
    by (Met place Fails) = tested (place == 3) (Begin p ∷ []) refl
    by (Met place (Stops Lost)) = tested (place == 3) (Begin p ∷ Forget ∷ []) refl
    by (Met place (Stops Kept)) = tested (nat_le 2 place) (Begin p ∷ Settle ∷ []) settles
    by (Met place (Stops Torn)) = tested (nat_le 2 place) (Begin p ∷ Settle ∷ []) settles

-- moves change no name
same_named : (ms : List Move) (t : Book × Replica) → (fold moved t ms).1.name ≡ t.1.name
same_named [] t = refl
same_named (Begin p ∷ ms) t = same_named ms (moved t (Begin p))
same_named (Settle ∷ ms) t = same_named ms (moved t Settle)
same_named (Forget ∷ ms) t = same_named ms (moved t Forget)

-- who stands behind a collection: one that stood before, or the one that collected, with a state of which something holds
abbrev pub IsLeft : World → Name → (Replica → State → Type 0) → Replica → Type 0
IsLeft w name P q = Member q w.replicas ⊎ ((r : Replica) × Member r w.replicas × (r.name ≡ name) × (q.name ≡ r.name) × P r q.safe)

-- what holds of a state, and of what a collection makes of it
module _ (w : World) (sound : IsSoundWorld w) (name : Name) (lifetime : ℕ) (P : Replica → State → Type 0) (old : (r : Replica) → Member r w.replicas → P r r.safe)
    (new : (r : Replica) → Member r w.replicas → (c : Change) → collect r.safe w.time lifetime ≡ Ok c → P r (after r.safe c)) where
  abbrev Leaves : Gone → Type 0
  Leaves g = (g.0.book.issued ≡ w.book.issued) × Each (IsLeft w name P) g.0.replicas

  stays_still : (o : Outcome) → Leaves (w, o)
  stays_still o = (refl, λ q m. inl m)

  commits : (r : Replica) → Member r w.replicas → r.name ≡ name → r.standing ≡ Up → (c : Change) → collect r.safe w.time lifetime ≡ Ok c
      → Leaves (committed w r (record { call = ToCollect w.time lifetime; change = c }) (outcomes.Removed (length c.removed)))
  commits r there called up c e = (issues_nothing w.book r p refl g, each)
    where
      p : Pending
      p = record { call = ToCollect w.time lifetime; change = c }

      g : Went
      g = commit_goes r p

      m : Book × Replica
      m = fold moved (w.book, r) (moves_of_commit p g)

      next : Replica
      next = record m.1 { standing = standing_after Failed g; device = device_after_commit r p }

      before : P r r.safe × P r r.read
      before = (old r there, subst (P r) (sym (up_is_settled w sound r there up).1) (old r there))

      behind : P r m.1.safe
      behind = (committing (P r) w.book r before p (new r there c e) g).0

      each : Each (IsLeft w name P) (with_replica w.replicas next)
      each q k = ⊎_elim
          (λ is. inr (r, there, called, ap (λ (x : Replica). x.name) is ∙ same_named (moves_of_commit p g) (w.book, r), subst (λ (x : Replica). P r x.safe) (sym is) behind))
          (λ t. inl t.0)
          (in_place w.replicas next q k)

  gathered : (r : Replica) → Member r w.replicas → r.name ≡ name → r.standing ≡ Up → (t : Result Change CollectRefusal) → collect r.safe w.time lifetime ≡ t → Leaves (after_call w r (ToCollect w.time lifetime) (collected t))
  gathered r there called up (Err x) e = stays_still (collect_refused x)
  gathered r there called up (Ok c) e = let p : Pending = record { call = ToCollect w.time lifetime; change = c } in
      within_case Leaves w (change_fits r.device.safe_log r.safe.store c) (committed w r p (outcomes.Removed (length c.removed))) (stays_still (full Log log_limit)) (commits r there called up c e)

  pub collecting_case : Leaves (does w name (ToCollect w.time lifetime))
  collecting_case = reached_case Leaves w name (stays w) stays_still (λ r. after_call w r (ToCollect w.time lifetime) (done r.safe (ToCollect w.time lifetime))) (λ r is up. gathered r is.there is.name up (collect r.safe w.time lifetime) refl)

-- nothing was issued, and each controller comes of the one of its name
record Follows (w v : World) : Type 0 where
  issued : v.book.issued ≡ w.book.issued
  each : Each (λ q. (r : Replica) × Member r w.replicas × (r.name ≡ q.name) × ComesOf w.book.issued r.safe.store q.safe.store) v.replicas

collects : (w : World) → IsSoundWorld w → (name : Name) (lifetime : ℕ) → Follows w (step w (events.Calls name (calls.Collect lifetime))).0
collects w sound name lifetime = record { issued = t.0; each = λ q m. by q (t.1 q m) }
  where
    t : ((step w (events.Calls name (calls.Collect lifetime))).0.book.issued ≡ w.book.issued) × Each (IsLeft w name (λ r s. ComesOf w.book.issued r.safe.store s.store)) (step w (events.Calls name (calls.Collect lifetime))).0.replicas
    t = collecting_case w sound name lifetime (λ r s. ComesOf w.book.issued r.safe.store s.store) (λ r there. of_itself w.book.issued r.safe.store) (λ r there c e. collection_comes w sound r there lifetime c e)

    by : (q : Replica) → IsLeft w name (λ r s. ComesOf w.book.issued r.safe.store s.store) q → (r : Replica) × Member r w.replicas × (r.name ≡ q.name) × ComesOf w.book.issued r.safe.store q.safe.store
    by q (inl m) = (q, m, refl, of_itself w.book.issued q.safe.store)
    by q (inr (r, m, called, same, comes)) = (r, m, sym same, comes)

-- ---- lines

abbrev pub IsCollecting : Event → Type 0
IsCollecting (events.Time now) = Unit {0}
IsCollecting (events.Calls name (calls.Collect lifetime)) = Unit {0}
IsCollecting e = ⊥

-- the time is told, or a controller collects
abbrev pub AreCollecting : List Event → Type 0
AreCollecting [] = Unit {0}
AreCollecting (e ∷ es) = IsCollecting e × AreCollecting es

collecting_follows : (w : World) → IsSoundWorld w → (e : Event) → IsCollecting e → Follows w (step w e).0 × IsSoundWorld (step w e).0
collecting_follows w sound (events.Time now) is = (record { issued = refl; each = λ q m. (q, m, refl, of_itself w.book.issued q.safe.store) }, step_sound w sound (events.Time now) tt sound.clean)
collecting_follows w sound (events.Calls name (calls.Collect lifetime)) is = (collects w sound name lifetime, step_sound w sound (events.Calls name (calls.Collect lifetime)) tt ((step_keeps w (events.Calls name (calls.Collect lifetime))).alike refl ∙ sound.clean))
collecting_follows w sound e is = absurd is

pub collecting_sound : (w : World) → IsSoundWorld w → (e : Event) → IsCollecting e → IsSoundWorld (step w e).0
collecting_sound w sound e is = (collecting_follows w sound e is).1

-- behind collections
pub record AreLevelBehind (all : List Update) (names : List Name) (w v : World) : Type 0 where
  pub sound : IsSoundWorld v
  pub issued : v.book.issued ≡ w.book.issued
  pub level : AreLevel v.book.issued all names v

follows_level : (all : List Update) (names : List Name) (w v : World) → IsSoundWorld w → Follows w v → AreLevel w.book.issued all names w → AreLevel v.book.issued all names v
follows_level all names w v sound follows were = subst (λ is. AreLevel is all names v) (sym follows.issued) each
  where
    each : AreLevel w.book.issued all names v
    each q m is = let t = follows.each q m in
        level_too w.book.issued all t.0.safe.store q.safe.store (replica_is_sound w t.0 sound t.1) t.3 (were t.0 t.1 (subst (λ n. Member n names) (sym t.2) is))

pub collections_keep_level : (all : List Update) (names : List Name) (es : List Event) (w : World) → IsSoundWorld w → AreCollecting es → AreLevel w.book.issued all names w → AreLevelBehind all names w (after_lines w es)
collections_keep_level all names [] w sound are were = record { sound = sound; issued = refl; level = were }
collections_keep_level all names (e ∷ es) w sound are were =
    let first = collecting_follows w sound e are.0 in
    let rest = collections_keep_level all names es (step w e).0 first.1 are.1 (follows_level all names w (step w e).0 sound first.0 were) in
    record { sound = rest.sound; issued = rest.issued ∙ first.0.issued; level = rest.level }
