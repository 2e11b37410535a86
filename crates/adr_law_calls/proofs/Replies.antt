-- A reply, and a controller's kept call, stay sound when the book grows.
use Rattle.std.proofs.Common.{◌≡◌, inl, inr, ⊎_elim, ◌≤◌, List, sym, subst, arith}
use Rattle.std.proofs.lemmas.Option.{IfSome_then}
use Rattle.adr_values.specs.Numbered.{numbered}
use Rattle.adr_values.specs.Vector.{Cursors, at}
use Rattle.adr_model.specs.Member.{Member}
use Rattle.adr_model.specs.Reflects.{Knowledge, Reflects}
use Rattle.adr_model.specs.Store.{Held, updates_of}
use Rattle.adr_model.specs.Formed.{AreRising, AreFormedRows}
use Rattle.adr_model.specs.LocalLog.{rows_at, IsBelow}
use Rattle.adr_model.specs.Serve.{Reply}
use Rattle.adr_model.specs.Replica.{Call, ToWrite, ToTake, ToCollect, ToUpgrade, ToQuarantine, Pending, Replica, Book, log_of}
use Rattle.adr_model.specs.Sound.{last_of, CoversItsGround, IsSoundLast, IsExact, IsSoundReply, AreClassesKnown, IsSoundCall, IsPending, IsSoundReplica}
use Rattle.adr_law_calls.specs.Later.{IsLater}
use Rattle.adr_law_calls.proofs.Frames.{more_issued, covered_before, bounded_later, state_later}

ground_later : (s t : Book) → IsLater s t → (r : Reply) → r.to.seen ≤ last_of s r.inv → CoversItsGround r (log_of s r.inv) → CoversItsGround r (log_of t r.inv)
ground_later s t l r seen g x m below =
    ⊎_elim (λ c. inl c) (λ y. ⊎_elim (λ sent. inr (inl sent)) (λ b. inr (inr (subst (λ (rows : List Held). IsBelow rows r.from x) (sym same) b))) y)
    (g x (subst (λ (rows : List Held). Member x rows) same m) (subst (λ (rows : List Held). IsBelow rows r.to x) same below))
  where
    same : rows_at (log_of t r.inv) r.to.seen ≡ rows_at (log_of s r.inv) r.to.seen
    same = l.stable r.inv r.to.seen seen

last_later : (s t : Book) → IsLater s t → (r : Reply) → r.to.seen ≤ last_of s r.inv → (carried : Cursors) → IsSoundLast s r carried → IsSoundLast t r carried
last_later s t l r seen carried is = record {
  obj = is.obj;
  prop = is.prop;
  vector = is.vector;
  times = is.times;
  bounded = bounded_later s t l (at carried) is.bounded;
  carries = λ u m c. subst (λ (rows : List Held). Reflects t.issued (source rows) u) (sym (l.stable r.inv r.to.seen seen))
      (more_issued s t l (source (rows_at (log_of s r.inv) r.to.seen)) u (is.carries u (covered_before s t l (at carried) is.bounded u m c) c));
}
  where
    source : List Held → Knowledge
    source rows = record { rows = updates_of rows; vector = at carried; purged = at r.asked }

pub reply_later : (s t : Book) → IsLater s t → (r : Reply) → IsSoundReply s r → IsSoundReply t r
reply_later s t l r is = record {
  to_ordered = is.to_ordered;
  to_seen = omega (arith, is.to_seen, l.rising r.inv);
  to_boundary = l.boundaries r.inv r.to.seen is.to_seen is.to_boundary;
  from_ordered = is.from_ordered;
  forward = is.forward;
  asked = bounded_later s t l (at r.asked) is.asked;
  known = λ u m. l.kept u (is.known u m);
  ground = ground_later s t l r is.to_seen is.ground;
  last = IfSome_then r.last is.last (last_later s t l r is.to_seen);
  exact = λ i m. subst (λ (rows : List Held). IsExact rows r i) same (is.exact i m);
  once = is.once;
  rising = subst AreRising same is.rising;
  formed = subst (λ (rows : List Held). AreFormedRows (numbered r.schema) (updates_of rows)) same is.formed;
  classes = subst (λ (rows : List Held). AreClassesKnown (numbered r.schema) (updates_of rows)) same is.classes;
}
  where
    same : rows_at (log_of s r.inv) r.to.seen ≡ rows_at (log_of t r.inv) r.to.seen
    same = sym (l.stable r.inv r.to.seen is.to_seen)

call_later : (s t : Book) → IsLater s t → (c : Call) → IsSoundCall s c → IsSoundCall t c
call_later s t l (ToWrite w now) is = is
call_later s t l (ToTake r) is = reply_later s t l r is
call_later s t l (ToCollect now lifetime) is = tt
call_later s t l ToUpgrade is = tt
call_later s t l ToQuarantine is = is

-- a controller whose own log is the same
pub replica_later : (s t : Book) → IsLater s t → (r : Replica) → log_of t r.safe.inv ≡ log_of s r.safe.inv → IsSoundReplica s r → IsSoundReplica t r
replica_later s t l r same is = record { safe = state_later s t l r.safe same is.safe; read = ⊎_elim (λ settled. inl settled) (λ p. inr (p.0, on p.0 p.1)) is.read }
  where
    on : (p : Pending) → IsPending s r p → IsPending t r p
    on p k = record { kept = k.kept; call = call_later s t l p.call k.call; made = k.made; read = k.read; not_up = k.not_up }
