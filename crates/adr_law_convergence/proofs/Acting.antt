-- Calls that change a controller keep a world sound.
use Rattle.std.proofs.Common.{◌≡◌, ◌≢◌, inl, inr, ⊎_elim, ℕ, Option, Some, Result, Ok, Err, refl, sym, ap, ◌∙◌, subst, fold, length, [], None, unwrap_or}
use Rattle.std.specs.Option.{IfSome}
use Rattle.adr_call.specs.declared.outcome.Outcome.TheVariants as outcomes
use Rattle.adr_call.specs.declared.outcome.Outcome.{Outcome}
use Rattle.adr_call.specs.declared.refusal.TakeRefusal.{TakeRefusal}
use Rattle.adr_call.specs.declared.refusal.TakeRefusal.TheVariants as takes
use Rattle.adr_model.specs.Member.{Member}
use Rattle.adr_model.specs.Update.{Identifier}
use Rattle.adr_model.specs.Change.{Change, after}
use Rattle.adr_model.specs.Lengths.{change_fits}
use Rattle.adr_model.specs.Serve.{Reply}
use Rattle.adr_model.specs.Client.{Done, done}
use Rattle.adr_model.specs.Write.{items_written, own_change, write_refusal, write}
use Rattle.adr_model.specs.Take.{take}
use Rattle.adr_model.specs.Collect.{collection, deaths_to_collect, collect_refusal, collect}
use Rattle.adr_disk.specs.declared.memory.Plan.{Plan}
use Rattle.adr_model.specs.Replica.{Call, Pending, ToWrite, ToTake, ToCollect, ToQuarantine, change_of, change_in, Standing, Up, Replica, Book, Settle, moved, moves_of_commit, moves_of_start, standing_after, Failed, ToUpgrade, Device, commit_goes, start_goes, device_after_commit, device_after_start}
use Rattle.adr_model.specs.World.{World, Gone, with_replica, committed, commit, after_call, after_take, after_moves}
use Rattle.adr_model.specs.Sound.{IsSoundCall, IsSettled, IsSoundReplica, IsSoundReply, IsGiven, IsSoundWorld, WereTold, IsTraced, IsTracedReply, IsSoundLast}
use Rattle.adr_law_calls.proofs.Refused.{no_rollback as reply_shows_no_rollback}
use Rattle.adr_law_knowledge.proofs.Refusing.{answered}
use Rattle.adr_law_convergence.proofs.Calls.{in_change}
use Rattle.adr_model.proofs.Calling.{done_changes}
use Rattle.adr_law_convergence.proofs.Reached.{within_case}
use Rattle.adr_law_convergence.proofs.Replacing.{MayStand, replaced}
use Rattle.adr_law_convergence.proofs.Moving.{HasMoved, stays_so, settles_so, start_moves, commit_moves}
use Rattle.adr_values.specs.Vector.{Cursors, IsVector}
use Rattle.adr_model.specs.Upgrade.{upgraded, upgrade_refusal, upgrade}
use Rattle.adr_law_convergence.proofs.Traced.{changed_traced, brought_told}
use Rattle.adr_law_calls.specs.OnTheWay.{change_taken}
use Rattle.adr_law_calls.proofs.Passed.{passed}
use Rattle.adr_law_calls.proofs.Empty.{empty_is_formed}

-- a device changes nothing of what is sound
on_device_sound : (book : Book) (r : Replica) (device : Device) → IsSoundReplica book r → IsSoundReplica book (record r { device = device })
on_device_sound book r device is = record { safe = is.safe; read = ⊎_elim (λ settled. inl settled) (λ p. inr (p.0, record { kept = p.1.kept; call = p.1.call; made = p.1.made; read = p.1.read; not_up = p.1.not_up })) is.read }

module _ (w : World) (sound : IsSoundWorld w) (r : Replica) (there : Member r w.replicas) where
  pub moved_world : (m : Book × Replica) (standing : Standing) (device : Device) → HasMoved (IsTraced w) w.book r m standing
      → IsSoundWorld (record w { book = m.0; replicas = with_replica w.replicas (record m.1 { standing = standing; device = device }) })
  moved_world m standing device h = replaced w m.0 r (record m.1 { standing = standing; device = device }) sound there may h.name h.dsa (inl h.inv) (λ i other. h.only i (λ e. other (e ∙ sym h.inv)))
    where
      may : MayStand w m.0 (record m.1 { standing = standing; device = device })
      may = record {
        later = h.later;
        book = h.book;
        given = subst (λ (i : Identifier). Member i w.given.invs) (sym h.inv) (sound.identifiers.invs_given r there);
        dsa_given = subst (λ (i : Identifier). Member i w.given.dsas) (sym h.dsa) (sound.identifiers.dsas_given r there);
        sound = on_device_sound m.0 (record m.1 { standing = standing }) device h.sound;
        stores = h.stores;
        normal = h.normal;
      }

  -- a controller that is up has nothing to settle
  pub up_is_settled : r.standing ≡ Up → IsSettled r
  up_is_settled up = ⊎_elim (λ settled. settled) (λ p. absurd (p.1.not_up up)) (sound.replicas r there).read

  pub planned : (plan : Plan) → IsSoundWorld (record w { replicas = with_replica w.replicas (record r { device = record r.device { plan = Some plan } }) })
  planned plan = moved_world (w.book, r) r.standing (record r.device { plan = Some plan })
      (stays_so (IsTraced w) w.book r sound.book (sound.replicas r there) (sound.identifiers.stores r there) (sound.normal r there) r.standing
      (⊎_elim (λ settled. inl settled) (λ p. inr p.1.not_up) (sound.replicas r there).read))

  pub stopped : (standing : Standing) (device : Device) → IsSoundWorld (record w { book = (moved (w.book, r) Settle).0; replicas = with_replica w.replicas (record (moved (w.book, r) Settle).1 { standing = standing; device = device }) })
  stopped standing device = moved_world (moved (w.book, r) Settle) standing device
      (settles_so (IsTraced w) w.book r sound.book (sound.replicas r there) (sound.identifiers.stores r there) (sound.normal r there) standing)

  pub started_sound : r.standing ≢ Up → (outcome : Outcome)
      → IsSoundWorld (after_moves w r (moves_of_start (start_goes r)) (standing_after r.standing (start_goes r)) (device_after_start r) outcome).0
  started_sound not_up outcome = moved_world (fold moved (w.book, r) (moves_of_start (start_goes r))) (standing_after r.standing (start_goes r)) (device_after_start r)
      (start_moves (IsTraced w) w.book r sound.book (sound.replicas r there) (sound.identifiers.stores r there) (sound.normal r there) not_up (start_goes r))

  module _ (up : r.standing ≡ Up) where
    pub commit_sound : (p : Pending) (outcome : Outcome) → IsSoundCall w.book p.call → change_of r.safe p.call ≡ Some p.change → IsTraced w (after r.safe p.change).store → IsSoundWorld (commit w r p outcome).0
    commit_sound p outcome call made new = within_case (λ (g : Gone). IsSoundWorld g.0) w (change_fits r.device.safe_log r.safe.store p.change) (committed w r p outcome) sound (moved_world (fold moved (w.book, r) (moves_of_commit p (commit_goes r p))) (standing_after Failed (commit_goes r p)) (device_after_commit r p)
        (commit_moves (IsTraced w) w.book r sound.book (sound.replicas r there) (sound.identifiers.stores r there) (sound.normal r there) (up_is_settled up) p call made new (commit_goes r p)))

    -- a change that brings no mark and no times
    brings_none : (c : Change) → IsVector c.joined → c.mark ≡ None → c.times ≡ [] → IsTraced w (after r.safe c).store
    brings_none c vector mark times = changed_traced w r.safe c vector (sound.identifiers.stores r there).0 (subst (λ o. IfSome o (λ m. IsGiven w m.1.inv)) (sym mark) tt) (subst (WereTold w c.joined) (sym times) (λ t m. absurd m))

    -- the change of a client's call brings none
    call_traced : (call : Call) (c : Change) → (done r.safe call).1 ≡ Some c → IsTraced w (after r.safe c).store
    call_traced (ToWrite what now) c e =
        subst (λ (d : Change). IsTraced w (after r.safe d).store) (answered (write_refusal r.safe what) (own_change r.safe (items_written r.safe what now)) c (in_change (write r.safe what now) c (done_changes r.safe (ToWrite what now) c e))).1
        (brings_none (own_change r.safe (items_written r.safe what now)) empty_is_formed.vector refl refl)
    call_traced (ToCollect now lifetime) c e =
        subst (λ (d : Change). IsTraced w (after r.safe d).store) (answered (collect_refusal r.safe (collection r.safe (deaths_to_collect r.safe now lifetime))) (collection r.safe (deaths_to_collect r.safe now lifetime)) c (in_change (collect r.safe now lifetime) c (done_changes r.safe (ToCollect now lifetime) c e))).1
        (brings_none (collection r.safe (deaths_to_collect r.safe now lifetime)) empty_is_formed.vector refl refl)
    call_traced ToUpgrade c e =
        subst (λ (d : Change). IsTraced w (after r.safe d).store) (answered (upgrade_refusal r.safe) (upgraded r.safe) c (in_change (upgrade r.safe) c (done_changes r.safe ToUpgrade c e))).1
        (brings_none (upgraded r.safe) empty_is_formed.vector refl refl)
    call_traced (ToTake reply) c e = absurd (cc e)
    call_traced ToQuarantine c e = absurd (cc e)

    pub call_sound : (call : Call) → IsSoundCall w.book call → IsSoundWorld (after_call w r call (done r.safe call)).0
    call_sound call is = by (done r.safe call) refl
      where
        by : (d : Done) → done r.safe call ≡ d → IsSoundWorld (after_call w r call d).0
        by (told, None) e = sound
        by (told, Some c) e = let made = ap (λ (d : Done). d.1) e in commit_sound (record { call = call; change = c }) told is (done_changes r.safe call c made) (call_traced call c made)

    other_refusal : (reply : Reply) (x : TakeRefusal) → ((inv : Identifier) (mine shown : ℕ) → x ≢ takes.RolledBack inv mine shown) → (after_take w r reply (Err x)).0 ≡ w
    other_refusal reply (takes.RolledBack inv mine shown) other = absurd (other inv mine shown refl)
    other_refusal reply _ other = refl

    pub take_sound : (reply : Reply) → IsSoundReply w.book reply → IsTracedReply w reply → IsSoundWorld (after_take w r reply (take r.safe reply)).0
    take_sound reply is given = by (take r.safe reply) refl
      where
        told_vector : (o : Option Cursors) → IfSome o (IsSoundLast w.book reply) → IsVector (unwrap_or o [])
        told_vector None h = empty_is_formed.vector
        told_vector (Some v) h = h.vector

        by : (t : Result Change TakeRefusal) → take r.safe reply ≡ t → IsSoundWorld (after_take w r reply t).0
        by (Err x) e = subst IsSoundWorld (sym (other_refusal reply x (λ inv mine shown s. reply_shows_no_rollback w.book r.safe reply inv mine shown sound.book (sound.replicas r there).safe is (e ∙ ap Err s)))) sound
        by (Ok c) e = commit_sound (record { call = ToTake reply; change = c }) (outcomes.Took (length reply.items) (length c.writes) c.usn) is (ap change_in e)
            (subst (λ (d : Change). IsTraced w (after r.safe d).store) (passed r.safe reply c e).1 (changed_traced w r.safe (change_taken r.safe reply) (told_vector reply.last is.last) (sound.identifiers.stores r there).0 (inl given.0) (brought_told w reply given.1)))
