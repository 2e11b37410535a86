-- A cycle with nothing in the way ends with the last reply, and carries everything, or says that there are more.
use Rattle.std.proofs.Common.{◌≡◌, ◌≢◌, ◌⊎◌, inl, inr, ⊎_elim, ℕ, zero, suc, ◌+◌, ◌<◌, ◌≤◌, List, [], ◌++◌, Bool, true, false, cond, Option, Some, None, is_none, unwrap_or, refl, sym, ap, ◌∙◌, subst, arith, max, filter, length}
use Rattle.std.specs.Prelude.{codes, nat_lt}
use Rattle.std.specs.Str.{bytes_eq}
use Rattle.adr_values.specs.Vector.{Cursors, at, joined}
use Rattle.adr_values.proofs.Joining.{at-joined, raised_elsewhere}
use Rattle.adr_call.specs.declared.answer.Answer.{Answer}
use Rattle.adr_call.specs.declared.outcome.Outcome.{Outcome}
use Rattle.adr_call.specs.declared.outcome.Outcome.TheVariants as outcomes
use Rattle.adr_values.specs.declared.mark.Mark.{Mark}
use Rattle.adr_model.specs.Member.{Member, Each}
use Rattle.adr_model.specs.Update.{Identifier, Update}
use Rattle.adr_model.specs.Reflects.{knowledge_of, Reflects}
use Rattle.adr_model.specs.Store.{Held, PartnerMark, State, updates_of, kept_of, mark_of}
use Rattle.adr_model.specs.LocalLog.{rows_at}
use Rattle.adr_model.specs.Serve.{Reply, last_local, units_of}
use Rattle.adr_model.specs.Replica.{Replica, log_of}
use Rattle.adr_model.specs.World.{Name, World, answer, replica_at}
use Rattle.adr_model.specs.Cycles.{Pulled, and_then, pulls, reply_limit}
use Rattle.adr_model.specs.Sound.{IsSoundState, IsSoundWorld}
use Rattle.adr_model.specs.Convergence.{units_beyond, replies_taken, IsRefused, IsReadWhole, HasTakenAll, AreUnlimited, CycleEnds}
use Rattle.adr_model.proofs.Members.{found, member_right}
use Rattle.adr_law_calls.proofs.Rows.{held_as}
use Rattle.adr_law_convergence.proofs.Found.{replica_found, in_place, still_there, same_name, same_name_tests}
use Rattle.adr_law_convergence.proofs.Cycling.{Goes, IsLike, reply, change, next, behind, taking, told, Takes, MeetsLimit, took, taken_or_not, still_unplanned, next_found, server, server_found, behind_sound, left, idle, gained, server_like, goes_on, keeps, kept, kept_as, nearer_end, ended, one_of}

-- the units beyond a mark, by what the source is and has
abbrev units_of_source : State → Identifier → Identifier → List Held → ℕ
units_of_source d dsa inv rows = length (filter (λ unit. nat_lt (mark_of (kept_of d.store dsa) inv).obj (last_local rows unit)) (units_of rows))

-- all of a source was read, by what it is and its USN
abbrev WasRead : State → Identifier → Identifier → ℕ → Type 0
WasRead after dsa inv usn = kept_of after.store dsa ≡ record { inv = inv; mark = record { obj = usn; prop = usn; seen = usn } }

-- how many replies bring all that is beyond a mark
abbrev AreEnough : ℕ → State → State → Type 0
AreEnough count d s = (1 ≤ count) × (count ≤ max 1 (units_beyond d s))

-- a controller in place of the one of its name, and all others as they were
pub record IsBeside (w v : World) (dest : Name) (n : Replica) : Type 0 where
  pub name : n.name ≡ dest
  pub there : Member n v.replicas
  pub others : Each (λ r. (r.name ≡ dest → ⊥) → Member r v.replicas) w.replicas
  pub only : Each (λ r. (r ≡ n) ⊎ ((r.name ≡ dest → ⊥) × Member r w.replicas)) v.replicas

pub beside_on : (w u v : World) (dest : Name) (n m : Replica) → IsBeside w u dest n → IsBeside u v dest m → IsBeside w v dest m
beside_on w u v dest n m a b = record { name = b.name; there = b.there; others = λ r k other. b.others r (a.others r k other) other; only = only }
  where
    only : Each (λ r. (r ≡ m) ⊎ ((r.name ≡ dest → ⊥) × Member r w.replicas)) v.replicas
    only r k = by (b.only r k)
      where
        by : (r ≡ m) ⊎ ((r.name ≡ dest → ⊥) × Member r u.replicas) → (r ≡ m) ⊎ ((r.name ≡ dest → ⊥) × Member r w.replicas)
        by (inl e) = inl e
        by (inr (other, i)) = ⊎_elim (λ e. absurd (other (ap (λ (q : Replica). q.name) e ∙ a.name))) (λ t. inr t) (a.only r i)

module _ (w v : World) (dest source : Name) (d s : Replica) (goes : Goes w v dest source d s) (most : ℕ) where
  abbrev r : Reply
  r = reply w v dest source d s goes most

  abbrev n : Replica
  n = next w v dest source d s goes most

  abbrev u : World
  u = behind w v dest source d s goes most

  abbrev answers : Outcome → List Answer
  answers o = told w v dest source d s goes most o

  module _ (ok : Takes w v dest source d s goes most) where
    abbrev z : Replica
    z = server w v dest source d s goes most

    like : IsLike s.safe z.safe
    like = server_like w v dest source d s goes most ok

    world : IsSoundWorld u
    world = behind_sound w v dest source d s goes most ok

    there : Member n u.replicas × (n.name ≡ dest)
    there = replica_found u dest n (next_found w v dest source d s goes most)

    pub beside : IsBeside v u dest n
    beside = record { name = there.1; there = there.0; others = others; only = only }
      where
        others : Each (λ x. (x.name ≡ dest → ⊥) → Member x u.replicas) v.replicas
        others x m other = by (bytes_eq x.name n.name) refl (still_there v.replicas n x m)
          where
            by : (b : Bool) → bytes_eq x.name n.name ≡ b → Member (cond b n x) u.replicas → Member x u.replicas
            by true is k = absurd (other (same_name x.name n.name is ∙ there.1))
            by false is k = k

        only : Each (λ x. (x ≡ n) ⊎ ((x.name ≡ dest → ⊥) × Member x v.replicas)) u.replicas
        only x m = ⊎_elim (λ e. inl e) (λ t. inr (λ e. t.1 (e ∙ sym there.1), t.0)) (in_place v.replicas n x m)

    serves : Member z u.replicas × (z.name ≡ source)
    serves = replica_found u source z (server_found w v dest source d s goes most)

    -- a mark that leaves out all that the source has
    all_read : r.to ≡ record { obj = s.safe.store.usn; prop = s.safe.store.usn; seen = s.safe.store.usn } → Each (λ x. Reflects w.book.issued (knowledge_of n.safe.store) x) (updates_of s.safe.store.rows)
    all_read to x m = subst (λ is. Reflects is (knowledge_of n.safe.store) x) (goes_on w v dest source d s goes most ok).issued (subst (λ (y : Update). Reflects u.book.issued (knowledge_of n.safe.store) y) (sym h.2) reflected)
      where
        prop : r.to.prop ≡ s.safe.store.usn
        prop = ap (λ (m : Mark). m.prop) to

        seen : r.to.seen ≡ s.safe.store.usn
        seen = ap (λ (m : Mark). m.seen) to

        h : (y : Held) × Member y s.safe.store.rows × (x ≡ y.update)
        h = held_as s.safe.store.rows x m

        z_safe : IsSoundState u.book z.safe
        z_safe = (world.replicas z serves.0).safe

        in_z : Member h.0 z.safe.store.rows
        in_z = subst (λ (rs : List Held). Member h.0 rs) (sym like.rows) h.1

        rows : z.safe.store.rows ≡ rows_at (log_of u.book s.safe.inv) r.to.seen
        rows = z_safe.rows ∙ (ap (λ i. rows_at (log_of u.book i) z.safe.store.usn) like.inv ∙ ap (rows_at (log_of u.book s.safe.inv)) (like.usn ∙ sym seen))

        reflected : Reflects u.book.issued (knowledge_of n.safe.store) h.0.update
        reflected = ((world.replicas n there.0).safe.store.marks (s.safe.dsa, record { inv = s.safe.inv; mark = r.to }) (kept w v dest source d s goes most)).watermark h.0
            (subst (λ (rs : List Held). Member h.0 rs) rows in_z) (inl (omega (arith, (z_safe.store.formed.locals h.0 in_z).1, like.usn, prop)))

    -- what is taken is written out of the issued updates of the first world
    pub nothing_new : Each (λ x. Reflects w.book.issued (knowledge_of d.safe.store) x) (updates_of s.safe.store.rows) → (n.safe.store.usn ≡ d.safe.store.usn) × (n.safe.store.rows ≡ d.safe.store.rows)
    nothing_new all = idle w v dest source d s goes most ok (λ x m. subst (λ is. Reflects is (knowledge_of d.safe.store) x) (sym goes.issued) (all x m))

    joined_is : (i : Identifier) → i ≢ d.safe.inv → at n.safe.store.vector i ≡ max (at d.safe.store.vector i) (at (unwrap_or r.last []) i)
    joined_is i other = raised_elsewhere (joined d.safe.store.vector (unwrap_or r.last [])) d.safe.inv (change w v dest source d s goes most).usn i other
        ∙ at-joined (unwrap_or r.last []) d.safe.store.vector i (left w v dest source d s goes most ok).1.joined.rising

    -- the last reply
    pub done : (W : Cursors) → r.last ≡ Some W → HasTakenAll w.book.issued d.safe s.safe n.safe
    done W last = record {
      mark = kept_as w v dest source d s goes most ∙ ap (λ (m : Mark). let k : PartnerMark = record { inv = s.safe.inv; mark = m } in k) t.0;
      took = all_read t.0;
      keeps = keeps w v dest source d s goes most ok;
      gained = gained w v dest source d s goes most ok;
      vector = λ i other. joined_is i other ∙ ap (λ (o : Option Cursors). max (at d.safe.store.vector i) (at (unwrap_or o []) i)) last ∙ ap (λ x. max (at d.safe.store.vector i) (at x i)) t.1;
      own = (world.replicas n there.0).safe.formed.own;
      idle = nothing_new;
      purged = refl;
    }
      where
        t : (r.to ≡ record { obj = s.safe.store.usn; prop = s.safe.store.usn; seen = s.safe.store.usn }) × (W ≡ s.safe.store.vector)
        t = ended w v dest source d s goes most W last

    units_are : units_beyond n.safe z.safe ≡ units_beyond n.safe s.safe
    units_are =
        ap (λ x. units_of_source n.safe x z.safe.inv z.safe.store.rows) like.dsa
        ∙ (ap (λ x. units_of_source n.safe s.safe.dsa x z.safe.store.rows) like.inv ∙ ap (units_of_source n.safe s.safe.dsa s.safe.inv) like.rows)

    -- a reply that isn't the last, and what comes after it
    module _ (more : r.last ≡ None) (after : State) (same : after.inv ≡ d.safe.inv) (c : HasTakenAll w.book.issued n.safe z.safe after) where
      of_server : (x : Update) → Member x (updates_of z.safe.store.rows) → Member x (updates_of s.safe.store.rows)
      of_server x m = subst (λ (rs : List Held). Member x (updates_of rs)) like.rows m

      to_server : (x : Update) → Member x (updates_of s.safe.store.rows) → Member x (updates_of z.safe.store.rows)
      to_server x m = subst (λ (rs : List Held). Member x (updates_of rs)) (sym like.rows) m

      unchanged : (i : Identifier) → i ≢ d.safe.inv → at n.safe.store.vector i ≡ at d.safe.store.vector i
      unchanged i other = joined_is i other ∙ ap (λ (o : Option Cursors). max (at d.safe.store.vector i) (at (unwrap_or o []) i)) more ∙ omega arith

      served_vector : (i : Identifier) → i ≢ d.safe.inv → max (at n.safe.store.vector i) (at z.safe.store.vector i) ≡ max (at d.safe.store.vector i) (at s.safe.store.vector i)
      served_vector i other = by (bytes_eq s.name d.name) refl
        where
          by : (b : Bool) → bytes_eq s.name d.name ≡ b → max (at n.safe.store.vector i) (at (cond b n s).safe.store.vector i) ≡ max (at d.safe.store.vector i) (at s.safe.store.vector i)
          by true is = ap (λ k. max k k) (unchanged i other) ∙ ap (λ (x : Replica). max (at d.safe.store.vector i) (at x.safe.store.vector i)) (sym (one_of w v dest source d s goes most is))
          by false is = ap (λ k. max k (at s.safe.store.vector i)) (unchanged i other)

      read : IsReadWhole s.safe after
      read = subst (λ k. WasRead after k s.safe.inv s.safe.store.usn) like.dsa (subst (λ k. WasRead after z.safe.dsa k s.safe.store.usn) like.inv (subst (WasRead after z.safe.dsa z.safe.inv) like.usn c.mark))

      gains : Each (λ x. Member x (updates_of d.safe.store.rows) ⊎ (Member x (updates_of s.safe.store.rows) × (Reflects w.book.issued (knowledge_of d.safe.store) x → ⊥))) (updates_of after.store.rows)
      gains x m = ⊎_elim (λ old. gained w v dest source d s goes most ok x old) (λ new. inr (of_server x new.0, λ h. new.1 (keeps w v dest source d s goes most ok x h))) (c.gained x m)

      pub onward : HasTakenAll w.book.issued d.safe s.safe after
      onward = record {
        mark = read;
        took = λ x m. c.took x (to_server x m);
        keeps = λ x h. c.keeps x (keeps w v dest source d s goes most ok x h);
        gained = gains;
        vector = λ i other. c.vector i other ∙ served_vector i (λ e. other (e ∙ sym same));
        own = c.own;
        idle = λ all. let t = c.idle (λ x m. keeps w v dest source d s goes most ok x (all x (of_server x m))) in let u = nothing_new all in (t.0 ∙ u.0, t.1 ∙ u.1);
        purged = c.purged;
      }

    -- with this reply there are enough where there are after it
    one_more : 1 ≤ most → r.last ≡ None → (count : ℕ) → AreEnough count n.safe z.safe → AreEnough (suc count) d.safe s.safe
    one_more le more count enough = let near = nearer_end w v dest source d s goes most le more in (omega arith, omega (arith, enough.1, units_are, near.0, near.1))

-- with one more reply there is still more than was taken
further : (n : ℕ) (before after served : ℕ) → after + 1 ≤ before → 1 ≤ after → served ≡ after → (1 ≤ n → n < served) → suc n < before
further zero before after served near some same more = omega (arith, near, some)
further (suc n) before after served near some same more = let t = more (omega arith) in omega (arith, near, same, t)

-- so many replies were taken, and there are more: each of them brought nearer to the end, and wasn't the last
record TookAll (n : ℕ) (dest : Name) (d s : State) (told : List Answer) : Type 0 where
  replies : replies_taken told ≡ n
  units : 1 ≤ n → n < units_beyond d s
  more : Member (answer (codes "cycle") dest outcomes.More) told

-- the last reply was taken
record Ended (w v : World) (dest : Name) (d s : State) (t : World × List Answer) : Type 0 where
  after : Replica
  inv : after.safe.inv ≡ d.inv
  replies : AreEnough (replies_taken t.1) d s
  all : HasTakenAll w.book.issued d s after.safe
  issued : t.0.book.issued ≡ w.book.issued
  beside : IsBeside v t.0 dest after

-- what so many pulls come to, where no limit is met
abbrev Goal : ℕ → World → World → Name → State → State → World × List Answer → Type 0
Goal n w v dest d s t = AreUnlimited t.1 → TookAll n dest d s t.1 ⊎ Ended w v dest d s t

unlimited_rest : (first rest : List Answer) → AreUnlimited (first ++ rest) → AreUnlimited rest
unlimited_rest first rest none = (λ a m. none.0 a (member_right first rest a m), λ a m. none.1 a (member_right first rest a m))

completes : (w : World) (dest source : Name) (most : ℕ) → 1 ≤ most → (fuel : ℕ) (v : World) (d s : Replica) → Goes w v dest source d s → d.device.plan ≡ None → Goal fuel w v dest d.safe s.safe (pulls fuel v dest source most)
completes w dest source most le zero v d s goes unplanned = λ none. inl (record { replies = refl; units = λ one. omega (arith, one); more = inl refl })
completes w dest source most le (suc fuel) v d s goes unplanned = by (λ x e f is none. completes w dest source most le fuel x e f is none) (taken_or_not w v dest source d s goes most unplanned)
  where
    r : Reply
    r = reply w v dest source d s goes most

    n : Replica
    n = next w v dest source d s goes most

    z : Replica
    z = server w v dest source d s goes most

    u : World
    u = behind w v dest source d s goes most

    answers : List Answer
    answers = told w v dest source d s goes most (taking w v dest source d s goes most)

    go : World → World × List Answer
    go x = pulls fuel x dest source most

    Rest : Type 0
    Rest = (x : World) (e f : Replica) → Goes w x dest source e f → e.device.plan ≡ None → Goal fuel w x dest e.safe f.safe (pulls fuel x dest source most)

    was : Rest → (ok : Takes w v dest source d s goes most) → (o : Option Cursors) → r.last ≡ o → Goal (suc fuel) w v dest d.safe s.safe (and_then (u, answers, is_none o) go)
    was rest ok (Some W) last none = inr (record {
      after = n;
      inv = refl;
      replies = let e : replies_taken answers ≡ 1 = refl in (omega (arith, e), omega (arith, e));
      all = done w v dest source d s goes most ok W last;
      issued = (goes_on w v dest source d s goes most ok).issued;
      beside = beside w v dest source d s goes most ok;
    })
    was rest ok None more none = ⊎_elim
        (λ all. inl (record {
          replies = let e : replies_taken (answers ++ (go u).1) ≡ suc (replies_taken (go u).1) = refl in e ∙ ap suc all.replies;
          units = λ one. let near = nearer_end w v dest source d s goes most le more in
              further fuel (units_beyond d.safe s.safe) (units_beyond n.safe s.safe) (units_beyond n.safe z.safe) near.0 near.1 (units_are w v dest source d s goes most ok) all.units;
          more = member_right answers (go u).1 (answer (codes "cycle") dest outcomes.More) all.more;
        }))
        (λ t. inr (record {
          after = t.after;
          inv = t.inv;
          replies = let e : replies_taken (answers ++ (go u).1) ≡ suc (replies_taken (go u).1) = refl in
              subst (λ k. AreEnough k d.safe s.safe) (sym e) (one_more w v dest source d s goes most ok le more (replies_taken (go u).1) t.replies);
          all = onward w v dest source d s goes most ok more t.after.safe t.inv t.all;
          issued = t.issued;
          beside = beside_on v u (go u).0 dest n t.after (beside w v dest source d s goes most ok) t.beside;
        }))
        (rest u n z (goes_on w v dest source d s goes most ok) (still_unplanned w v dest source d s goes most unplanned) (unlimited_rest answers (go u).1 none))

    -- an answer that says that a limit is met
    met : (o : Outcome) → IsRefused 21 o ⊎ IsRefused 22 o → AreUnlimited (told w v dest source d s goes most o) → ⊥
    met o limit none = ⊎_elim (none.0 (answer (codes "deliver") dest o) (inr (inr (inl refl)))) (none.1 (answer (codes "deliver") dest o) (inr (inr (inl refl)))) limit

    by : Rest → Takes w v dest source d s goes most ⊎ MeetsLimit w v dest source d s goes most → Goal (suc fuel) w v dest d.safe s.safe (pulls (suc fuel) v dest source most)
    by rest (inl ok) = subst (λ (p : Pulled). Goal (suc fuel) w v dest d.safe s.safe (and_then p go)) (sym (took w v dest source d s goes most ok)) (was rest ok r.last refl)
    by rest (inr (o, e, limit)) = subst (λ (p : Pulled). Goal (suc fuel) w v dest d.safe s.safe (and_then p go)) (sym e) (λ none. absurd (met o limit none))

pub found_by_name : (w : World) (r : Replica) → IsSoundWorld w → Member r w.replicas → replica_at w r.name ≡ Some r
found_by_name w r sound m = found (λ (x : Replica). bytes_eq x.name r.name) w.replicas r m (same_name_tests r.name r.name refl) (λ x n is. sound.identifiers.names x n r m (same_name x.name r.name is))

pub cycle_ends : CycleEnds
cycle_ends w dest source most sound may le unlimited = ⊎_elim
    (λ all. inl (record { replies = all.replies; units = all.units (omega arith); more = all.more }))
    (λ t. inr (t.after, record { replies = t.replies; all = t.all; there = t.beside.there; name = t.beside.name; issued = t.issued; others = t.beside.others }))
    (completes w dest.name source.name most le reply_limit w dest source goes may.dest_unplanned unlimited)
  where
    goes : Goes w w dest.name source.name dest source
    goes = record {
      sound = sound;
      issued = refl;
      d_found = found_by_name w dest sound may.dest_there;
      s_found = found_by_name w source sound may.source_there;
      d_up = may.dest_up;
      s_up = may.source_up;
      schema = may.schema;
      purged = may.purged;
    }
