-- One pull of a cycle: what it answers, what it leaves, and that the cycle may go on.
use Rattle.std.proofs.Common.{◌≡◌, ◌⊎◌, inl, inr, ⊎_elim, ℕ, ◌≤◌, ◌+◌, List, [], ◌∷◌, Bool, true, false, cond, Option, Some, None, is_none, is_some, unwrap_or, Ok, Err, refl, sym, ap, ◌∙◌, subst, arith, fold, length, ◌==◌, append-nil, if◌then◌else◌}
use Rattle.std.specs.List.{find}
use Rattle.std.specs.Option.{option_map}
use Rattle.std.specs.Prelude.{codes}
use Rattle.std.specs.Str.{bytes_eq}
use Rattle.adr_values.specs.Vector.{Cursors, at, at_most, joined}
use Rattle.adr_values.proofs.Comparing.{everywhere_from_at_most, at_most_from_everywhere}
use Rattle.adr_values.proofs.Joining.{at-raised, at-joined}
use Rattle.adr_call.specs.declared.answer.Answer.{Answer}
use Rattle.adr_call.specs.declared.outcome.Outcome.{Outcome}
use Rattle.adr_call.specs.declared.outcome.Outcome.TheVariants as outcomes
use Rattle.adr_call.specs.declared.refusal.TakeRefusal.{TakeRefusal}
use Rattle.adr_model.specs.Member.{Member, Each}
use Rattle.adr_model.specs.Update.{Update}
use Rattle.adr_model.specs.Reflects.{AtMost, Covers, knowledge_of, Reflects}
use Rattle.adr_model.specs.Store.{Normal, State, updates_of, kept_of}
use Rattle.adr_model.specs.Change.{Item, Change, held_of, rows_after, after}
use Rattle.adr_model.specs.LocalLog.{Follows}
use Rattle.adr_model.specs.Serve.{Request, Reply, candidates, byte_limit, first_items, reply_of, begins_at, ask, reply_to}
use Rattle.adr_model.specs.Take.{take_items, taken_change, take}
use Rattle.adr_call.specs.declared.refusal.Table.TheVariants.{Log as log_table}
use Rattle.adr_model.specs.Lengths.{Log, log_limit, change_fits, is_due, log_before, next_log}
use Rattle.adr_model.specs.Refused.{usn_limited, full, full_fields}
use Rattle.adr_disk.specs.declared.memory.Mishap.{Mishap}
use Rattle.adr_disk.specs.declared.memory.Mishap.TheVariants.{Fails, Stops}
use Rattle.adr_disk.specs.declared.memory.Plan.{Plan}
use Rattle.adr_model.specs.Replica.{Pending, ToTake, Up, Replica, recorded, moved, Went, Passed, Met, went, moves_of_commit, standing_after, outcome_after, Failed, calls_before, recorded_on, checkpointed_on, behind as behind_calls, commit_goes, device_after_commit}
use Rattle.adr_model.specs.World.{Name, World, Gone, answer, replica_at, with_replica, of_made, where_up, nothing, stays, asks, rows_in, after_serve, served, serves_request, committed, commit, after_take, delivered, delivers, noted}
use Rattle.adr_model.specs.Cycles.{Pulled, first_told, pull_delivered, pull_served, pull_asked, pull, pull_version}
use Rattle.adr_model.specs.Sound.{last_of, IsSoundState, IsSoundReply, IsSent, IsSoundWorld}
use Rattle.adr_model.specs.Convergence.{units_beyond, IsRefused}
use Rattle.adr_law_calls.specs.Settling.{Leaves}
use Rattle.adr_law_calls.proofs.TakenLeaves.{taken_leaves}
use Rattle.adr_law_calls.proofs.TakenLacked.{taken_idle, taken_lacked}
use Rattle.adr_law_convergence.proofs.Found.{same_name, same_name_tests, replica_found}
use Rattle.adr_law_convergence.proofs.Pulling.{IsLimit, serves_it, reply_sound, taken_or_limited, sent_is_held, sent_is_new, kept_so, kept_there, nearer}
use Rattle.adr_law_knowledge.proofs.Comparing.{supersedes_self}
use Rattle.adr_law_convergence.proofs.Stepping.{pull_sound}

-- ---- who is found after a controller was put in place

abbrev put_in : Replica → Replica → Replica
put_in new x = cond (bytes_eq x.name new.name) new x

found_in_place : (rs : List Replica) (new : Replica) (name : Name) → find (λ (x : Replica). bytes_eq x.name name) (with_replica rs new) ≡ option_map (put_in new) (find (λ (x : Replica). bytes_eq x.name name) rs)
found_in_place [] new name = refl
found_in_place (x ∷ xs) new name = by (bytes_eq x.name new.name) refl (found_in_place xs new name)
  where
    by : (b : Bool) → bytes_eq x.name new.name ≡ b → find (λ (y : Replica). bytes_eq y.name name) (with_replica xs new) ≡ option_map (put_in new) (find (λ (y : Replica). bytes_eq y.name name) xs)
        → cond (bytes_eq (cond b new x).name name) (Some (cond b new x)) (find (λ (y : Replica). bytes_eq y.name name) (with_replica xs new))
        ≡ option_map (put_in new) (cond (bytes_eq x.name name) (Some x) (find (λ (y : Replica). bytes_eq y.name name) xs))
    by true is rest = ap (λ n. cond (bytes_eq n name) (Some new) (find (λ (y : Replica). bytes_eq y.name name) (with_replica xs new))) (sym (same_name x.name new.name is)) ∙ on (bytes_eq x.name name)
      where
        on : (t : Bool) → cond t (Some new) (find (λ (y : Replica). bytes_eq y.name name) (with_replica xs new)) ≡ option_map (put_in new) (cond t (Some x) (find (λ (y : Replica). bytes_eq y.name name) xs))
        on true = sym (ap (λ b. Some (cond b new x)) is)
        on false = rest
    by false is rest = on (bytes_eq x.name name)
      where
        on : (t : Bool) → cond t (Some x) (find (λ (y : Replica). bytes_eq y.name name) (with_replica xs new)) ≡ option_map (put_in new) (cond t (Some x) (find (λ (y : Replica). bytes_eq y.name name) xs))
        on true = sym (ap (λ b. Some (cond b new x)) is)
        on false = rest

-- ---- a commit without a plan leaves none

pub no_plan_left : (r : Replica) (p : Pending) → r.device.plan ≡ None → (device_after_commit r p).plan ≡ None
no_plan_left r p none =
    let l = r.device.safe_log in
    let next = next_log l r.safe.store p.change in
    ap (λ (o : Option Plan). (if is_due l p.change then checkpointed_on l (log_before l r.safe.store p.change) next (went o 5) else recorded_on l next o).plan) none ∙ by (is_due l p.change) l (log_before l r.safe.store p.change) next
  where
    by : (b : Bool) (l mid next : Log) → (if b then checkpointed_on l mid next (went None 5) else recorded_on l next None).plan ≡ None
    by true l mid next = refl
    by false l mid next = refl

-- ---- where a cycle stands

pub record Goes (w v : World) (dest source : Name) (d s : Replica) : Type 0 where
  pub sound : IsSoundWorld v
  pub issued : v.book.issued ≡ w.book.issued
  pub d_found : replica_at v dest ≡ Some d
  pub s_found : replica_at v source ≡ Some s
  pub d_up : d.standing ≡ Up
  pub s_up : s.standing ≡ Up
  pub schema : d.safe.store.schema ≡ s.safe.store.schema
  pub purged : at_most s.safe.store.purged d.safe.store.vector ≡ true

-- the same controller, but for its vector and its marks
pub record IsLike (s t : State) : Type 0 where
  pub dsa : t.dsa ≡ s.dsa
  pub inv : t.inv ≡ s.inv
  pub schema : t.store.schema ≡ s.store.schema
  pub usn : t.store.usn ≡ s.store.usn
  pub rows : t.store.rows ≡ s.store.rows
  pub purged : t.store.purged ≡ s.store.purged

module _ (w v : World) (dest source : Name) (d s : Replica) (goes : Goes w v dest source d s) (most : ℕ) where
  d_there : Member d v.replicas × (d.name ≡ dest)
  d_there = replica_found v dest d goes.d_found

  s_there : Member s v.replicas × (s.name ≡ source)
  s_there = replica_found v source s goes.s_found

  d_safe : IsSoundState v.book d.safe
  d_safe = (goes.sound.replicas d d_there.0).safe

  s_safe : IsSoundState v.book s.safe
  s_safe = (goes.sound.replicas s s_there.0).safe

  d_normal : d.safe.mode ≡ Normal
  d_normal = goes.sound.normal d d_there.0

  s_normal : s.safe.mode ≡ Normal
  s_normal = goes.sound.normal s s_there.0

  abbrev pub request : Request
  request = ask d.safe s.safe.dsa most pull_version

  abbrev pub reply : Reply
  reply = reply_to s.safe request v.time

  abbrev pub change : Change
  change = taken_change d.safe reply (take_items d.safe reply.items)

  -- the world in which the reply was made
  abbrev pub serving : World
  serving = noted v reply

  abbrev pending : Pending
  pending = record { call = ToTake reply; change = change }

  -- the controller and the world behind the delivery
  abbrev pub next : Replica
  next = record d {
    read = after d.safe change;
    safe = after d.safe change;
    kept = None;
    standing = Up;
    device = device_after_commit d pending;
  }

  -- the device calls of the commit go well
  abbrev pub Passes : Type 0
  Passes = (left : Option Plan) × (commit_goes d pending ≡ Passed left)

  pub unplanned_passes : d.device.plan ≡ None → Passes
  unplanned_passes none = (None, ap (λ (p : Option Plan). behind_calls (calls_before d pending) (went p (calls_before d pending + 4))) none)

  pub still_unplanned : d.device.plan ≡ None → next.device.plan ≡ None
  still_unplanned none = no_plan_left d pending none

  abbrev pub behind : World
  behind = record serving { book = recorded v.book d.safe.inv pending; replicas = with_replica v.replicas next }

  asks_is : asks v dest source most pull_version ≡ (v, outcomes.Ok, Some request)
  asks_is =
      ap (λ o. of_made (nothing v) o (λ x. of_made (nothing v) (replica_at v source) (λ p. where_up (nothing v) x.standing (v, outcomes.Ok, Some (ask x.safe p.safe.dsa most pull_version))))) goes.d_found
      ∙ (ap (λ o. of_made (nothing v) o (λ p. where_up (nothing v) d.standing (v, outcomes.Ok, Some (ask d.safe p.safe.dsa most pull_version)))) goes.s_found
      ∙ ap (λ st. where_up (nothing v) st (v, outcomes.Ok, Some (ask d.safe s.safe.dsa most pull_version))) goes.d_up)

  serves_is : serves_request v source (Some request) ≡ (serving, outcomes.Served reply.from reply.to (length reply.items) (rows_in reply) (is_some reply.last), Some reply)
  serves_is =
      ap (λ o. of_made (nothing v) o (λ x. where_up (nothing v) x.standing (served v x (Some request)))) goes.s_found
      ∙ (ap (λ st. where_up (nothing v) st (served v s (Some request))) goes.s_up
      ∙ ap (after_serve v s) (serves_it v.book d.safe s.safe most v.time goes.sound.book d_safe s_safe d_normal s_normal goes.schema goes.purged))

  -- whether the change fits into the log
  abbrev has_room : Bool
  has_room = change_fits d.device.safe_log d.safe.store change

  -- what comes of the commit, by how its device calls go
  abbrev comes : Outcome → Went → Gone
  comes o g = let m = fold moved (serving.book, d) (moves_of_commit pending g) in (
    record serving { book = m.0; replicas = with_replica serving.replicas (record m.1 { standing = standing_after Failed g; device = device_after_commit d pending }) },
    outcome_after g o,
  )

  committed_is : Passes → (o : Outcome) → committed serving d pending o ≡ (behind, o)
  committed_is passes o = ap (comes o) passes.1

  -- the commit, where it is known whether the log has room for the change
  commit_by : (b : Bool) → has_room ≡ b → (o : Outcome) → commit serving d pending o ≡ (if b then committed serving d pending o else (serving, full log_table log_limit))
  commit_by b is o = ap (λ (t : Bool). if t then committed serving d pending o else (serving, full log_table log_limit)) is

  reaches : delivers serving dest (Some reply) ≡ after_take serving d reply (take d.safe reply)
  reaches =
      ap (λ o. of_made (stays serving) o (λ x. where_up (stays serving) x.standing (delivered serving x (Some reply)))) goes.d_found
      ∙ ap (λ st. where_up (stays serving) st (delivered serving d (Some reply))) goes.d_up

  -- what a pull comes to, by its delivery
  pull_is : (g : Gone) → delivers serving dest (Some reply) ≡ g
      → pull v dest source most ≡ first_told (answer (codes "ask") dest outcomes.Ok) (first_told (answer (codes "serve") source (outcomes.Served reply.from reply.to (length reply.items) (rows_in reply) (is_some reply.last))) (pull_delivered dest reply g))
  pull_is g e =
      ap (λ t. first_told (answer (codes "ask") dest t.1) (pull_asked dest source t.0 t.2)) asks_is
      ∙ ap (first_told (answer (codes "ask") dest outcomes.Ok))
      (ap (λ t. first_told (answer (codes "serve") source t.1) (pull_served dest t.0 t.2)) serves_is
      ∙ ap (λ h. first_told (answer (codes "serve") source (outcomes.Served reply.from reply.to (length reply.items) (rows_in reply) (is_some reply.last))) (pull_delivered dest reply h)) e)

  abbrev pub taking : Outcome
  taking = outcomes.Took (length reply.items) (length change.writes) change.usn

  abbrev pub told : Outcome → List Answer
  told o =
      answer (codes "ask") dest outcomes.Ok
      ∷ answer (codes "serve") source (outcomes.Served reply.from reply.to (length reply.items) (rows_in reply) (is_some reply.last))
      ∷ answer (codes "deliver") dest o
      ∷ []

  -- the reply is taken, the log has room for its change, and the device calls go well
  abbrev pub Takes : Type 0
  Takes = (take d.safe reply ≡ Ok change) × (has_room ≡ true) × Passes

  pub took : Takes → pull v dest source most ≡ (behind, told taking, is_none reply.last)
  took t = pull_is (behind, taking) (reaches ∙ (ap (after_take serving d reply) t.0 ∙ (commit_by true t.1 taking ∙ committed_is t.2 taking)))

  -- the pull changes no controller, and says that a limit is met
  abbrev pub MeetsLimit : Type 0
  MeetsLimit = (o : Outcome) × (pull v dest source most ≡ (serving, told o, false)) × (IsRefused 21 o ⊎ IsRefused 22 o)

  refused : (x : TakeRefusal) → take d.safe reply ≡ Err x → IsLimit x → MeetsLimit
  refused x e (inl is) = (usn_limited, pull_is (serving, usn_limited) (reaches ∙ ap (after_take serving d reply) (e ∙ ap Err is)), inl (codes "UsnLimit", [], refl))
  refused x e (inr (table, limit, is)) = (full table limit, pull_is (serving, full table limit) (reaches ∙ ap (after_take serving d reply) (e ∙ ap Err is)), inr (codes "Full", full_fields table limit, refl))

  -- a device call of the commit meets a fault, and the pull says so
  abbrev pub MeetsFault : Type 0
  MeetsFault = (u : World) × (o : Outcome) × (pull v dest source most ≡ (u, told o, false)) × ((o ≡ outcomes.Stopped) ⊎ (o ≡ outcomes.Disk)) × (Passes → ⊥)

  pub taken_or_met : Takes ⊎ (MeetsLimit ⊎ MeetsFault)
  taken_or_met = ⊎_elim (λ ok. by has_room refl ok) (λ t. inr (inl (refused t.0 t.1 t.2))) (taken_or_limited v.book d.safe s.safe most v.time goes.sound.book d_safe s_safe d_normal s_normal goes.schema goes.purged)
    where
      meets : {place : ℕ} {mishap : Mishap} → Passes → commit_goes d pending ≡ Met place mishap → ⊥
      meets p e = let both = sym p.1 ∙ e in absurd (cc)

      on : (g : Went) → commit_goes d pending ≡ g → take d.safe reply ≡ Ok change → has_room ≡ true → Takes ⊎ (MeetsLimit ⊎ MeetsFault)
      on (Passed left) e ok room = inl (ok, room, (left, e))
      on (Met place (Stops how)) e ok room = let g = comes taking (Met place (Stops how)) in
          inr (inr (g.0, outcomes.Stopped, pull_is g (reaches ∙ (ap (after_take serving d reply) ok ∙ (commit_by true room taking ∙ ap (comes taking) e))), inl refl, λ p. meets p e))
      on (Met place Fails) e ok room = let g = comes taking (Met place Fails) in
          inr (inr (g.0, outcomes.Disk, pull_is g (reaches ∙ (ap (after_take serving d reply) ok ∙ (commit_by true room taking ∙ ap (comes taking) e))), inr refl, λ p. meets p e))

      by : (b : Bool) → has_room ≡ b → take d.safe reply ≡ Ok change → Takes ⊎ (MeetsLimit ⊎ MeetsFault)
      by false is ok = inr (inl (full log_table log_limit, pull_is (serving, full log_table log_limit) (reaches ∙ (ap (after_take serving d reply) ok ∙ commit_by false is taking)), inr (codes "Full", full_fields log_table log_limit, refl)))
      by true is ok = on (commit_goes d pending) refl ok is

  -- no plan, no fault
  pub taken_or_not : d.device.plan ≡ None → Takes ⊎ MeetsLimit
  taken_or_not none = by taken_or_met
    where
      by : Takes ⊎ (MeetsLimit ⊎ MeetsFault) → Takes ⊎ MeetsLimit
      by (inl ok) = inl ok
      by (inr (inl limit)) = inr limit
      by (inr (inr fault)) = absurd (fault.4 (unplanned_passes none))

  sound_reply : IsSoundReply v.book reply
  sound_reply = reply_sound v.book d.safe s.safe most v.time goes.sound.book d_safe s_safe d_normal s_normal goes.schema goes.purged

  sent_held : (u : Update) → IsSent reply u → Member u (updates_of s.safe.store.rows)
  sent_held = sent_is_held v.book d.safe s.safe most v.time goes.sound.book d_safe s_safe d_normal s_normal goes.schema goes.purged

  -- who asks and who serves behind the pull
  pub next_found : replica_at behind dest ≡ Some next
  next_found = found_in_place v.replicas next dest ∙ (ap (option_map (put_in next)) goes.d_found ∙ ap (λ b. Some (cond b next d)) (same_name_tests d.name d.name refl))

  abbrev pub server : Replica
  server = cond (bytes_eq s.name d.name) next s

  pub server_found : replica_at behind source ≡ Some server
  server_found = found_in_place v.replicas next source ∙ ap (option_map (put_in next)) goes.s_found

  -- of one name there is one controller
  pub one_of : bytes_eq s.name d.name ≡ true → s ≡ d
  one_of is = goes.sound.identifiers.names s s_there.0 d d_there.0 (same_name s.name d.name is)

  server_up : server.standing ≡ Up
  server_up = by (bytes_eq s.name d.name)
    where
      by : (b : Bool) → (cond b next s).standing ≡ Up
      by true = refl
      by false = goes.s_up

  pub kept : Member (s.safe.dsa, record { inv = s.safe.inv; mark = reply.to }) next.safe.store.marks
  kept = kept_there v.book d.safe s.safe most v.time goes.sound.book d_safe s_safe d_normal s_normal goes.schema goes.purged

  -- a reply that isn't the last brings nearer to the end
  pub nearer_end : 1 ≤ most → reply.last ≡ None → (units_beyond next.safe s.safe + 1 ≤ units_beyond d.safe s.safe) × (1 ≤ units_beyond next.safe s.safe)
  nearer_end = nearer v.book d.safe s.safe most v.time goes.sound.book d_safe s_safe d_normal s_normal goes.schema goes.purged

  -- the last reply ends behind all that the source has, and carries its vector
  pub ended : (W : Cursors) → reply.last ≡ Some W → (reply.to ≡ record { obj = s.safe.store.usn; prop = s.safe.store.usn; seen = s.safe.store.usn }) × (W ≡ s.safe.store.vector)
  ended W = by (length sent == length all)
    where
      all : List (ℕ × Item)
      all = candidates s.safe.store.rows (begins_at s.safe request) request.vector

      sent : List (ℕ × Item)
      sent = first_items request.max byte_limit all

      by : (b : Bool) → (reply_of s.safe request v.time (begins_at s.safe request) sent b).last ≡ Some W
          → ((reply_of s.safe request v.time (begins_at s.safe request) sent b).to ≡ record { obj = s.safe.store.usn; prop = s.safe.store.usn; seen = s.safe.store.usn }) × (W ≡ s.safe.store.vector)
      by true e = (refl, cc)
      by false e = absurd (cc)

  -- what is kept of the source then
  pub kept_as : kept_of next.safe.store s.safe.dsa ≡ record { inv = s.safe.inv; mark = reply.to }
  kept_as = kept_so v.book d.safe s.safe most v.time goes.sound.book d_safe s_safe d_normal s_normal goes.schema goes.purged

  module _ (takes : Takes) where
    ok : take d.safe reply ≡ Ok change
    ok = takes.0

    pub behind_sound : IsSoundWorld behind
    behind_sound = subst (λ (p : Pulled). IsSoundWorld p.0) (took takes) (pull_sound v goes.sound dest source most)

    pub left : Follows (last_of v.book d.safe.inv) change × Leaves v.book d.safe pending
    left = let t = taken_leaves v.book d.safe reply change goes.sound.book d_safe sound_reply ok in (t.0, t.1.1)

    new_to_it : (u : Update) → IsSent reply u → Covers (at d.safe.store.vector) u → ⊥
    new_to_it = sent_is_new v.book d.safe s.safe most v.time goes.sound.book d_safe s_safe d_normal s_normal goes.schema goes.purged

    -- where all that the source holds was taken, nothing is written
    pub idle : Each (λ u. Reflects v.book.issued (knowledge_of d.safe.store) u) (updates_of s.safe.store.rows) → (next.safe.store.usn ≡ d.safe.store.usn) × (next.safe.store.rows ≡ d.safe.store.rows)
    idle all = (usn, ap (λ ws. rows_after [] (held_of ws) d.safe.store.rows) (left.0.idle (omega (arith, usn, d_safe.last))).0)
      where
        usn : change.usn ≡ d.safe.store.usn
        usn = taken_idle v.book d.safe reply change goes.sound.book d_safe sound_reply ok new_to_it (λ u m. all u (sent_held u m))

    -- a row that comes is the source's, and was not reflected before
    pub gained : Each (λ u. Member u (updates_of d.safe.store.rows) ⊎ (Member u (updates_of s.safe.store.rows) × (Reflects w.book.issued (knowledge_of d.safe.store) u → ⊥))) (updates_of next.safe.store.rows)
    gained u m = ⊎_elim (λ old. inl old) (λ sent. inr (sent_held u sent.0, λ h. sent.1 (subst (λ is. Reflects is (knowledge_of d.safe.store) u) (sym goes.issued) h)))
        (taken_lacked v.book d.safe reply change goes.sound.book d_safe sound_reply ok new_to_it u m)

    -- a controller that pulls from itself writes nothing
    self_like : s ≡ d → IsLike s.safe next.safe
    self_like e = subst (λ (x : Replica). IsLike x.safe next.safe) (sym e) (record { dsa = refl; inv = refl; schema = refl; usn = still.0; rows = still.1; purged = refl })
      where
        still : (next.safe.store.usn ≡ d.safe.store.usn) × (next.safe.store.rows ≡ d.safe.store.rows)
        still = idle (subst (λ (x : Replica). Each (λ u. Reflects v.book.issued (knowledge_of d.safe.store) u) (updates_of x.safe.store.rows)) (sym e) (λ u m. inl (u, m, supersedes_self u)))

    pub server_like : IsLike s.safe server.safe
    server_like = by (bytes_eq s.name d.name) refl
      where
        by : (b : Bool) → bytes_eq s.name d.name ≡ b → IsLike s.safe (cond b next s).safe
        by true is = self_like (one_of is)
        by false is = record { dsa = refl; inv = refl; schema = refl; usn = refl; rows = refl; purged = refl }

    further : AtMost (at d.safe.store.vector) (at next.safe.store.vector)
    further i = omega (arith, at-raised (joined d.safe.store.vector (unwrap_or reply.last [])) d.safe.inv change.usn i, at-joined (unwrap_or reply.last []) d.safe.store.vector i left.1.joined.rising)

    pub goes_on : Goes w behind dest source next server
    goes_on = record {
      sound = behind_sound;
      issued = append-nil v.book.issued ∙ goes.issued;
      d_found = next_found;
      s_found = server_found;
      d_up = refl;
      s_up = server_up;
      schema = goes.schema ∙ sym server_like.schema;
      purged = subst (λ p. at_most p next.safe.store.vector ≡ true) (sym server_like.purged)
          (at_most_from_everywhere s.safe.store.purged next.safe.store.vector s_safe.store.formed.purged.rising (λ i. omega (arith, everywhere_from_at_most s.safe.store.purged d.safe.store.vector goes.purged i, further i)));
    }

    -- what was taken stays so
    pub keeps : (u : Update) → Reflects w.book.issued (knowledge_of d.safe.store) u → Reflects w.book.issued (knowledge_of next.safe.store) u
    keeps u h = subst (λ is. Reflects is (knowledge_of next.safe.store) u) goes.issued (left.1.keeps u (subst (λ is. Reflects is (knowledge_of d.safe.store) u) (sym goes.issued) h))
