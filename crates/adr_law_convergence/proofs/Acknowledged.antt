-- A write that was answered by its USN was issued, under the identifier of its controller.
use Rattle.std.proofs.Common.{◌≡◌, ◌≢◌, inl, ℕ, List, [], ◌∷◌, ◌++◌, ◌+◌, arith, Bool, cond, Option, Some, Result, Ok, Err, refl, sym, ap, subst, fold, map}
use Rattle.adr_values.specs.Assignments.{Given}
use Rattle.adr_values.specs.declared.content.Content.TheVariants.{Values}
use Rattle.adr_call.specs.declared.answer.Answer.{Answer}
use Rattle.adr_call.specs.declared.event.Event.{Event}
use Rattle.adr_call.specs.declared.event.Event.TheVariants as events
use Rattle.adr_call.specs.declared.outcome.Outcome.{Outcome}
use Rattle.adr_call.specs.declared.outcome.Outcome.TheVariants as outcomes
use Rattle.adr_call.specs.declared.refusal.WriteRefusal.{WriteRefusal}
use Rattle.adr_call.specs.declared.refusal.ServeRefusal.{ServeRefusal}
use Rattle.adr_call.specs.declared.refusal.ServeRefusal.TheVariants as serves
use Rattle.adr_call.specs.declared.refusal.TakeRefusal.{TakeRefusal}
use Rattle.adr_call.specs.declared.refusal.TakeRefusal.TheVariants as takes
use Rattle.adr_model.specs.Member.{Member, Each}
use Rattle.adr_model.specs.Update.{Update}
use Rattle.adr_model.specs.Store.{State, updates_of}
use Rattle.adr_model.specs.Change.{Written, Change, updates_written}
use Rattle.adr_call.specs.declared.refusal.Table.TheVariants.{Log}
use Rattle.adr_model.specs.Lengths.{log_limit, change_fits}
use Rattle.adr_model.specs.Serve.{Request, Reply}
use Rattle.adr_model.specs.Write.{Write, AddObject, Modify, Rename, Delete, AddLink, RemoveLink, next_row, object_of, nodes_held, rows_written, items_written, own_change, write_refusal, write, Revive}
use Rattle.adr_model.specs.Given.{IsWellGiven}
use Rattle.adr_model.specs.Refused.{write_refused, serve_refused, take_refused, full}
use Rattle.adr_disk.specs.declared.memory.Mishap.TheVariants.{Fails, Stops}
use Rattle.adr_model.specs.Client.{done, written}
use Rattle.adr_model.specs.Replica.{Pending, ToWrite, Up, Failed, Replica, moved, Went, Passed, Met, moves_of_commit, standing_after, outcome_after, commit_goes, device_after_commit}
use Rattle.adr_model.specs.World.{Name, World, Gone, stays, bound_at, with_replica, committed, commit, after_call, does, asks, serves_request, delivers}
use Rattle.adr_model.specs.Cycles.{pull_version}
use Rattle.adr_model.specs.Step.{ClientWrite, client_write, write_of, goes}
use Rattle.adr_model.specs.Convergence.{IsIssuedItem, IsAcknowledged, AcknowledgedIsIssued}
use Rattle.adr_model.proofs.Members.{member_right, member_flat}
use Rattle.adr_law_calls.proofs.Written.{items_are_own, items_take_usns}
use Rattle.adr_law_knowledge.proofs.Refusing.{answered}
use Rattle.adr_law_convergence.proofs.Found.{same_name_tests, still_there}
use Rattle.adr_law_convergence.proofs.Refusals.{is_plain, IsPlain, write_refused_plainly}
use Rattle.adr_law_convergence.proofs.RefusalsPlain.{asked, line_case}
use Rattle.adr_law_convergence.proofs.Reached.{plain_reached, within_case}
use Rattle.adr_law_convergence.proofs.RefusalsSpared.{serves_so, takes_so}
use Rattle.adr_law_convergence.proofs.Exchanges.{IsKeptByCalls, goes_so}

abbrev IsTrueOf : World → Event → Gone → Type 0
IsTrueOf w e g = (usn : ℕ) → g.1 ≡ outcomes.Usn usn → IsAcknowledged w e usn g.0

plain_is_not : (o : Outcome) → IsPlain o → (usn : ℕ) → o ≢ outcomes.Usn usn
plain_is_not o plain usn e = let same : is_plain o ≡ is_plain (outcomes.Usn usn) = ap is_plain e in absurd (cc)

-- a write that can be sent writes a row
a_row : (s : State) (what : Write) (now : ℕ) → IsWellGiven what → (u : Update) × Member u (rows_written s what now).rows
a_row s (AddObject guid class parent text values) now is = (_, inl refl)
a_row s (Modify guid values) now is = by values is.1
  where
    by : (gs : List Given) → gs ≢ [] → (u : Update) × Member u (map (λ (g : Given). next_row s now (object_of (nodes_held (updates_of s.store.rows)) guid) g.0 (Values g.1)) gs)
    by [] none = absurd (none refl)
    by (g ∷ gs) some = (_, inl refl)
a_row s (Rename guid parent text) now is = (_, inl refl)
a_row s (Delete guid) now is = (_, inl refl)
a_row s (AddLink from attr to) now is = (_, inl refl)
a_row s (RemoveLink from attr to) now is = (_, inl refl)
a_row s (Revive image guid parent text) now is = (_, inl refl)

module _ (w : World) (e : Event) (r : Replica) (there : Member r w.replicas) where
  -- what a controller is in whose place comes one of its name
  in_its_place : (new : Replica) → new.name ≡ r.name → Member new (with_replica w.replicas new)
  in_its_place new same = subst (λ (b : Bool). Member (cond b new r) (with_replica w.replicas new)) (same_name_tests r.name new.name (sym same)) (still_there w.replicas new r there)

  module _ (write_it : ClientWrite) (is : IsWellGiven write_it.what) (writes : write_of w e ≡ Some write_it) (name : r.name ≡ write_it.name) where
    abbrev what : Write
    what = write_it.what

    abbrev change : Change
    change = own_change r.safe (items_written r.safe what w.time)

    abbrev pending : Pending
    pending = record { call = ToWrite what w.time; change = change }

    -- the world after the device calls of the write
    abbrev gone : Went → Gone
    gone g = (
      record w {
        book = (fold moved (w.book, r) (moves_of_commit pending g)).0;
        replicas = with_replica w.replicas (record (fold moved (w.book, r) (moves_of_commit pending g)).1 { standing = standing_after Failed g; device = device_after_commit r pending });
      },
      outcome_after g (outcomes.Usn change.usn),
    )

    items_issued : (usn : ℕ) → change.usn ≡ usn → Each (IsIssuedItem (w.book.issued ++ updates_written change) r.safe usn) (items_written r.safe what w.time)
    items_issued usn same x m = record {
      above = (items_take_usns r.safe what w.time x m).0;
      within = omega (arith, (items_take_usns r.safe what w.time x m).1, same);
      rows = λ u n. (member_right w.book.issued (updates_written change) u (member_flat (λ (y : Written). y.item.rows) (items_written r.safe what w.time) x u m n), items_are_own r.safe what w.time x m u n);
    }

    was_issued : (g : Went) → IsTrueOf w e (gone g)
    was_issued (Passed left) usn h = record {
      write = write_it;
      is_write = writes;
      writer = r;
      there = there;
      name = name;
      row = let u = a_row r.safe what w.time is in (record { local = r.safe.store.usn + 1; item = rows_written r.safe what w.time }, u.0, inl refl, u.1);
      issued = items_issued usn same;
      stays = (
        record (fold moved (w.book, r) (moves_of_commit pending (Passed left))).1 { standing = Up; device = device_after_commit r pending },
        in_its_place (record (fold moved (w.book, r) (moves_of_commit pending (Passed left))).1 { standing = Up; device = device_after_commit r pending }) refl,
        refl,
        refl,
      );
    }
      where
        same : change.usn ≡ usn
        same = cc
    was_issued (Met place (Stops how)) usn h = absurd (cc)
    was_issued (Met place Fails) usn h = absurd (cc)

    wrote : (t : Result Change WriteRefusal) → write r.safe what w.time ≡ t → IsTrueOf w e (after_call w r (ToWrite what w.time) (written t))
    wrote (Err x) h = λ usn same. absurd (plain_is_not (write_refused x) (write_refused_plainly x) usn same)
    wrote (Ok c) h = subst (λ (d : Change). IsTrueOf w e (commit w r (record { call = ToWrite what w.time; change = d }) (outcomes.Usn d.usn)))
        (answered (write_refusal r.safe what) change c h).1
        (within_case (IsTrueOf w e) w (change_fits r.device.safe_log r.safe.store change) (committed w r pending (outcomes.Usn change.usn)) (λ usn same. absurd (plain_is_not (full Log log_limit) refl usn same)) (was_issued (commit_goes r pending)))

-- ---- other refusals are plain

served_otherwise : (x : ServeRefusal) (usn : ℕ) → serve_refused x ≢ outcomes.Usn usn
served_otherwise serves.Quarantined usn e = absurd (cc)
served_otherwise _ usn e = absurd (cc)

taken_otherwise : (x : TakeRefusal) (usn : ℕ) → take_refused x ≢ outcomes.Usn usn
taken_otherwise takes.Quarantined usn e = absurd (cc)
taken_otherwise _ usn e = absurd (cc)

wrote_by_name : (w : World) (e : Event) (name : Name) (what : Write) → IsWellGiven what → write_of w e ≡ client_write name what → IsTrueOf w e (does w name (ToWrite what w.time))
wrote_by_name w e name what is wrote_it = plain_reached (IsTrueOf w e) w name (stays w) (λ o plain usn same. absurd (plain_is_not o plain usn same)) (λ r. after_call w r (ToWrite what w.time) (done r.safe (ToWrite what w.time))) (λ r called up.
    wrote w e r called.there (record { name = name; what = what }) is wrote_it called.name (write r.safe what w.time) refl)

-- no answer of a message that comes, nor of a pull, is a USN
abbrev IsNoUsn : Outcome → Type 0
IsNoUsn o = (usn : ℕ) → o ≢ outcomes.Usn usn

served_no_usn : (w : World) (name : Name) (o : Option Request) → IsNoUsn (serves_request w name o).1
served_no_usn w name o = serves_so IsNoUsn plain_is_not w name o (λ r there q is x refused. served_otherwise x)

taken_no_usn : (w : World) (name : Name) (o : Option Reply) → IsNoUsn (delivers w name o).1
taken_no_usn w name o = takes_so IsNoUsn plain_is_not w name o (λ r there p is x refused. taken_otherwise x)

calls_no_usn : IsKeptByCalls (λ v. Unit {0}) (λ v q. Unit {0}) (λ v r. Unit {0}) IsNoUsn
calls_no_usn = record {
  asks = λ w name partner max is. (tt, (plain_is_not (asks w name partner max pull_version).1 (asked w name partner max pull_version), λ q e. tt));
  serves = λ w name q is m. (tt, (served_no_usn w name (Some q), λ r e. tt));
  delivers = λ w name r is m. (tt, taken_no_usn w name (Some r));
  more = plain_is_not outcomes.More refl;
}

-- an answer that is no USN says nothing
abbrev IsTrue : World → Event → World → Answer → Type 0
IsTrue w e v a = (usn : ℕ) → a.outcome ≡ outcomes.Usn usn → IsAcknowledged w e usn v

says_nothing : (w : World) (e : Event) (t : World × List Answer) → Each (λ (a : Answer). IsNoUsn a.outcome) t.1 → Each (λ (a : Answer). IsTrue w e t.0 a) t.1
says_nothing w e t none a m usn is = absurd (none a m usn is)

pub acknowledged_is_issued : AcknowledgedIsIssued
acknowledged_is_issued w e sound may usn a m is = line_case (IsTrue w) w (λ f v b plain n h. absurd (plain_is_not b.outcome plain n h)) (λ f verb name what given wrote_it. wrote_by_name w f name what given wrote_it)
    (λ name request bind n h. absurd (served_no_usn w name (bound_at w.requests request) n h))
    (λ name reply n h. absurd (taken_no_usn w name (bound_at w.replies reply) n h))
    (λ name what. says_nothing w (events.Goes name what) (goes w name what) (goes_so (λ v. Unit {0}) (λ v q. Unit {0}) (λ v r. Unit {0}) IsNoUsn calls_no_usn (λ n d f. plain_is_not (outcomes.Compared n d f) refl) name what w tt).1)
    (λ i n. (sound.images i n).formed) e may a m usn is
