-- A line that writes issues updates of one unit, and no other line issues any: a controller holds no more units than there were writes.
use Rattle.std.proofs.Common.{◌≡◌, ◌⊎◌, inl, inr, ⊎_elim, ℕ, ◌+◌, ◌≤◌, List, [], ◌∷◌, ◌++◌, Bool, true, false, cond, Option, Some, None, Result, Ok, Err, refl, sym, ap, ◌∙◌, subst, fold, map, filter, flat_map, length, nat_le, ◌==◌, append-nil, if◌then◌else◌, arith}
use Rattle.std.specs.Prelude.{nat_lt}
use Rattle.adr_call.specs.declared.outcome.Outcome.TheVariants as outcomes
use Rattle.adr_call.specs.declared.refusal.AdoptRefusal.{AdoptRefusal}
use Rattle.adr_call.specs.declared.write.Write.{Write as Asked}
use Rattle.adr_call.specs.declared.write.Write.TheVariants as asked
use Rattle.adr_disk.specs.declared.memory.Crash.TheVariants.{Kept, Lost, Torn}
use Rattle.adr_call.specs.declared.call.Call.{Call as Said}
use Rattle.adr_call.specs.declared.call.Call.TheVariants as calls
use Rattle.adr_call.specs.declared.event.Event.{Event}
use Rattle.adr_call.specs.declared.event.Event.TheVariants as events
use Rattle.adr_call.specs.declared.event.Coming.TheVariants as comings
use Rattle.adr_call.specs.declared.event.Made.TheVariants as mades
use Rattle.adr_values.specs.Assignments.{Given}
use Rattle.adr_values.specs.declared.content.Content.TheVariants.{Values}
use Rattle.adr_values.specs.declared.stamp.LinkStamp.{LinkStamp}
use Rattle.adr_values.specs.declared.stamp.Oid.{Oid}
use Rattle.adr_values.specs.declared.stamp.Unit.{Unit as Named}
use Rattle.adr_values.specs.declared.stamp.Unit.TheVariants.{Object}
use Rattle.adr_values.specs.Order.{unit_order}
use Rattle.adr_values.proofs.Units.{units_total, exact_units}
use Rattle.adr_model.specs.Member.{Member, Each}
use Rattle.adr_model.specs.Update.{Identifier, Update, unit_of}
use Rattle.adr_model.specs.Store.{Held, Store, State, updates_of, kept_of, mark_of}
use Rattle.adr_model.specs.Change.{Change, Written, updates_written}
use Rattle.adr_model.specs.Lengths.{new_log, area_fits, change_fits}
use Rattle.adr_model.specs.Serve.{units_of, last_local}
use Rattle.adr_model.specs.Write.{Write, AddObject, Modify, Rename, Delete, AddLink, RemoveLink, Revive, write_meant, row, next_row, new_rows, new_object, first_stamp, entry_in, nodes_held, object_of, rows_written, more_written, items_written, own_change, write_refusal, write}
use Rattle.adr_model.specs.Client.{call_meant}
use Rattle.adr_model.specs.Collect.{adopt}
use Rattle.adr_disk.specs.declared.memory.Mishap.TheVariants.{Fails, Stops}
use Rattle.adr_disk.specs.declared.memory.Plan.{Plan}
use Rattle.adr_model.specs.Replica.{Call, ToWrite, ToTake, ToCollect, ToUpgrade, ToQuarantine, change_of, issued_by, Pending, Up, Down, Failed, Replica, on_new_disk, Book, begun, Move, Begin, Settle, Forget, moved, Went, Passed, Met, moves_of_commit, standing_after, commit_goes, device_after_commit, device_settled}
use Rattle.adr_model.specs.World.{Name, World, Gone, stays, bound_at, replica_at, with_replica, of_made, of_image, after_moves, does, adopts}
use Rattle.adr_model.specs.Cycles.{pull_version}
use Rattle.adr_model.specs.Step.{gives, step, after_lines}
use Rattle.adr_model.specs.Convergence.{units_beyond}
use Rattle.adr_model.proofs.Members.{member_of_either, mapped_member, member_mapped, of_filter}
use Rattle.adr_law_knowledge.specs.Rises.{Rises}
use Rattle.adr_law_knowledge.proofs.Counting.{no_longer}
use Rattle.adr_law_knowledge.proofs.Lists.{filter_rises, sorted_rises}
use Rattle.adr_law_knowledge.proofs.Refusing.{answered}
use Rattle.adr_law_calls.proofs.Candidates.{unit_of_row}
use Rattle.adr_law_convergence.proofs.Called.{IsKeptBehind, calls_so, asks_so, serves_so, delivers_so, backs_up_so}
use Rattle.adr_law_convergence.proofs.Calls.{in_change}
use Rattle.adr_law_convergence.proofs.Exchanges.{IsKeptByCalls, worlds_alone, goes_so}
use Rattle.adr_law_convergence.proofs.Found.{same_name_tests, still_there}
use Rattle.adr_law_convergence.proofs.Reached.{made_case, within_case}
use Rattle.adr_run_exercised.proofs.Manned.{IsReady, AreManned, asking, serving, delivering, stays_manned}
use Rattle.adr_run_exercised.proofs.Mild.{IsMildCall, IsMild, AreMild}

-- updates of so many units at most
pub record AreOfFew (most : ℕ) (us : List Update) : Type 0 where
  pub units : List Named
  pub few : length units ≤ most
  pub each : Each (λ u. Member (unit_of u.key) units) us

pub of_none : AreOfFew 0 []
of_none = record { units = []; few = omega arith; each = λ u m. absurd m }

pub of_more : (k l : ℕ) (us : List Update) → k ≤ l → AreOfFew k us → AreOfFew l us
of_more k l us le is = record { units = is.units; few = omega (arith, le, is.few); each = is.each }

with_unit : (k : ℕ) (us vs : List Update) (unit : Named) → Each (λ u. unit_of u.key ≡ unit) vs → AreOfFew k us → AreOfFew (k + 1) (us ++ vs)
with_unit k us vs unit one is = record { units = unit ∷ is.units; few = omega (arith, is.few); each = each }
  where
    each : Each (λ u. Member (unit_of u.key) (unit ∷ is.units)) (us ++ vs)
    each u m = ⊎_elim (λ l. inr (is.each u l)) (λ r. inl (one u r)) (member_of_either us vs u m)

-- a controller has no more units beyond a mark
pub few_beyond : (k : ℕ) (issued : List Update) (d s : State) → AreOfFew k issued → Each (λ u. Member u issued) (updates_of s.store.rows) → units_beyond d s ≤ k
few_beyond k issued d s is known = omega (arith, no_longer unit_order units_total exact_units (filter test (units_of rows)) is.units (filter_rises unit_order test (units_of rows) rises) among, is.few)
  where
    rows : List Held
    rows = s.store.rows

    test : Named → Bool
    test unit = nat_lt (mark_of (kept_of d.store s.dsa) s.inv).obj (last_local rows unit)

    rises : Rises unit_order (units_of rows)
    rises = sorted_rises unit_order units_total exact_units (map (λ (h : Held). unit_of h.update.key) rows) [] tt

    among : Each (λ unit. Member unit is.units) (filter test (units_of rows))
    among unit m = let t = unit_of_row rows unit (of_filter test (units_of rows) unit m).0 in
        subst (λ x. Member x is.units) (sym t.2) (is.each t.0.update (known t.0.update (member_mapped (λ (h : Held). h.update) rows t.0 t.1)))

-- ---- what a write issues

same_unit_of : (u v : Update) → u ≡ v → unit_of u.key ≡ unit_of v.key
same_unit_of u v e = ap (λ (x : Update). unit_of x.key) e

new_rows_of_one : (o : Oid) (stamp : LinkStamp) (class : ℕ) (parent : Identifier) (text : List ℕ) (values : List Given) → Each (λ u. unit_of u.key ≡ Object o) (new_rows o stamp class parent text values)
new_rows_of_one o stamp class parent text values u (inl e) = same_unit_of u _ e
new_rows_of_one o stamp class parent text values u (inr (inl e)) = same_unit_of u _ e
new_rows_of_one o stamp class parent text values u (inr (inr m)) = let t = mapped_member (λ (g : Given). row o stamp g.0 (Values g.1)) values u m in same_unit_of u _ t.2

-- the rows of a write are of one unit
written_of_one : (s : State) (w : Write) (now : ℕ) → Each (λ u. unit_of u.key ≡ (rows_written s w now).unit) (rows_written s w now).rows
written_of_one s (AddObject guid class parent text values) now u m = new_rows_of_one (new_object s guid) (first_stamp s now) class parent text values u m
written_of_one s (Modify guid values) now u m = let o = object_of (nodes_held (updates_of s.store.rows)) guid in
    let t = mapped_member (λ (g : Given). next_row s now o g.0 (Values g.1)) values u m in same_unit_of u _ t.2
written_of_one s (Rename guid parent text) now u (inl e) = same_unit_of u _ e
written_of_one s (Rename guid parent text) now u (inr m) = absurd m
written_of_one s (Delete guid) now u (inl e) = same_unit_of u _ e
written_of_one s (Delete guid) now u (inr m) = absurd m
written_of_one s (AddLink from attr to) now u (inl e) = same_unit_of u _ e
written_of_one s (AddLink from attr to) now u (inr m) = absurd m
written_of_one s (RemoveLink from attr to) now u (inl e) = same_unit_of u _ e
written_of_one s (RemoveLink from attr to) now u (inr m) = absurd m
written_of_one s (Revive image guid parent text) now u m = let e = entry_in image guid in new_rows_of_one (new_object s guid) (first_stamp s now) e.class parent text e.values u m

-- a write that writes nothing beside, as each that a client may ask for but a revival
abbrev IsOfOneItem : Write → Type 0
IsOfOneItem w = (s : State) (now : ℕ) → more_written s w now ≡ []

meant_is_of_one_item : (what : Asked) → IsOfOneItem (write_meant what)
meant_is_of_one_item (asked.Add guid class parent text values) s now = refl
meant_is_of_one_item (asked.Modify guid values) s now = refl
meant_is_of_one_item (asked.Rename guid parent text) s now = refl
meant_is_of_one_item (asked.Delete guid) s now = refl
meant_is_of_one_item (asked.Link from attr to) s now = refl
meant_is_of_one_item (asked.Unlink from attr to) s now = refl

issues_one : (s : State) (w : Write) (now : ℕ) (c : Change) → IsOfOneItem w → write s w now ≡ Ok c → Each (λ u. unit_of u.key ≡ (rows_written s w now).unit) (updates_written c)
issues_one s w now c one made = subst (λ (x : Change). Each (λ u. unit_of u.key ≡ (rows_written s w now).unit) (updates_written x)) is of_items
  where
    is : own_change s (items_written s w now) ≡ c
    is = (answered (write_refusal s w) (own_change s (items_written s w now)) c made).1

    rows : List Update
    rows = (rows_written s w now).rows

    written : updates_written (own_change s (items_written s w now)) ≡ rows
    written = ap (λ (xs : List Written). rows ++ flat_map (λ (x : Written). x.item.rows) xs) (one s now) ∙ append-nil rows

    of_items : Each (λ u. unit_of u.key ≡ (rows_written s w now).unit) (updates_written (own_change s (items_written s w now)))
    of_items u m = written_of_one s w now u (subst (λ us. Member u us) written m)

-- ---- calls

-- a commit issues what its call does, or nothing
abbrev IssueOrNot : Book → Replica → Pending → List Move → Type 0
IssueOrNot book r p ms = ((fold moved (book, r) ms).0.issued ≡ book.issued) ⊎ ((fold moved (book, r) ms).0.issued ≡ book.issued ++ issued_by p.call p.change)

issued_or_not : (book : Book) (r : Replica) (p : Pending) (g : Went) → IssueOrNot book r p (moves_of_commit p g)
issued_or_not book r p = by
  where
    tested : (b : Bool) (ms : List Move) → IssueOrNot book r p ms → IssueOrNot book r p (if b then ms else [])
    tested true ms h = h
    tested false ms h = inl refl

    by : (g : Went) → IssueOrNot book r p (moves_of_commit p g)
    by (Passed left) = inr refl
    by (Met place Fails) = tested (place == 3) (Begin p ∷ []) (inl refl)
    by (Met place (Stops Lost)) = tested (place == 3) (Begin p ∷ Forget ∷ []) (inl refl)
    by (Met place (Stops Kept)) = tested (nat_le 2 place) (Begin p ∷ Settle ∷ []) (inr refl)
    by (Met place (Stops Torn)) = tested (nat_le 2 place) (Begin p ∷ Settle ∷ []) (inr refl)

-- who is put in place of the one of its name is there
stands_in : (rs : List Replica) (r q : Replica) → Member r rs → r.name ≡ q.name → Member q (with_replica rs q)
stands_in rs r q m e = subst (λ b. Member (cond b q r) (with_replica rs q)) (same_name_tests r.name q.name e) (still_there rs q r m)

-- of a world in which all are up, with nothing planned
abbrev Issues : ℕ → World → Type 0
Issues k v = Each IsReady v.replicas → AreOfFew k v.book.issued

module _ (k : ℕ) (May : Call → Type 0) (w : World) (ready : Each IsReady w.replicas) (old : AreOfFew k w.book.issued)
    (new : (r : Replica) → (p : Pending) → May p.call → change_of r.safe p.call ≡ Some p.change → AreOfFew k (w.book.issued ++ issued_by p.call p.change)) where
  keeps : IsKeptBehind (Issues k) May w
  keeps = record { same = λ is. old; notes = λ reply is. old; commits = commits; starts = λ r there not_up. absurd (not_up (ready r there).0); stops = stops; plans = plans }
    where
      commits : (r : Replica) → Member r w.replicas → r.standing ≡ Up → (p : Pending) → May p.call → change_of r.safe p.call ≡ Some p.change → change_fits r.device.safe_log r.safe.store p.change ≡ true
          → Issues k (after_moves w r (moves_of_commit p (commit_goes r p)) (standing_after Failed (commit_goes r p)) (device_after_commit r p) outcomes.Ok).0
      commits r there up p may made fits is = ⊎_elim
          (λ e. subst (AreOfFew k) (sym e) old)
          (λ e. subst (AreOfFew k) (sym e) (new r p may made))
          (issued_or_not w.book r p (commit_goes r p))

      stops : (r : Replica) → Member r w.replicas → Issues k (after_moves w r (Settle ∷ []) Down (device_settled r) outcomes.Ok).0
      stops r there is = let q : Replica = record (moved (w.book, r) Settle).1 { standing = Down; device = device_settled r } in
          let up : Down ≡ Up = (is q (stands_in w.replicas r q there refl)).0 in absurd (cc)

      plans : (r : Replica) → Member r w.replicas → (plan : Plan) → Issues k (after_moves w r [] r.standing (record r.device { plan = Some plan }) outcomes.Ok).0
      plans r there plan is = let q : Replica = record r { device = record r.device { plan = Some plan } } in
          let none : Some plan ≡ None = (is q (stands_in w.replicas r q there refl)).1 in absurd (cc)

-- calls that issue nothing
abbrev IsSilent : Call → Type 0
IsSilent (ToWrite what now) = ⊥
IsSilent call = Unit {0}

silent_issues_nothing : (call : Call) (c : Change) → IsSilent call → issued_by call c ≡ []
silent_issues_nothing (ToWrite what now) c is = absurd is
silent_issues_nothing (ToTake reply) c is = refl
silent_issues_nothing (ToCollect now lifetime) c is = refl
silent_issues_nothing ToUpgrade c is = refl
silent_issues_nothing ToQuarantine c is = refl

abbrev IsWriteOfOne : Call → Type 0
IsWriteOfOne (ToWrite what now) = IsOfOneItem what
IsWriteOfOne call = ⊥

write_issues_one : (k : ℕ) (us : List Update) (s : State) (call : Call) (c : Change) → AreOfFew k us → IsWriteOfOne call → change_of s call ≡ Some c → AreOfFew (k + 1) (us ++ issued_by call c)
write_issues_one k us s (ToWrite what now) c few one made = with_unit k us (updates_written c) (rows_written s what now).unit (issues_one s what now c one (in_change (write s what now) c made)) few
write_issues_one k us s call c few one made = absurd one

silent : (k : ℕ) (w : World) → Each IsReady w.replicas → AreOfFew k w.book.issued → IsKeptBehind (Issues k) IsSilent w
silent k w ready few = keeps k IsSilent w ready few nothing_more
  where
    nothing_more : (r : Replica) → (p : Pending) → IsSilent p.call → change_of r.safe p.call ≡ Some p.change → AreOfFew k (w.book.issued ++ issued_by p.call p.change)
    nothing_more r p may made = subst (AreOfFew k) (sym (ap (λ us. w.book.issued ++ us) (silent_issues_nothing p.call p.change may) ∙ append-nil w.book.issued)) few

writing_one : (k : ℕ) (w : World) → Each IsReady w.replicas → AreOfFew k w.book.issued → IsKeptBehind (Issues (k + 1)) IsWriteOfOne w
writing_one k w ready few = keeps (k + 1) IsWriteOfOne w ready (of_more k (k + 1) w.book.issued (omega arith) few) (λ r p may made. write_issues_one k w.book.issued r.safe p.call p.change few may made)

-- ---- lines

-- how many lines write
abbrev pub is_write : Event → ℕ
is_write (events.Calls name (calls.Write what)) = 1
is_write e = 0

abbrev pub writes_in : List Event → ℕ
writes_in [] = 0
writes_in (e ∷ es) = is_write e + writes_in es

module _ (names : List Name) (k : ℕ) where
  -- all are up, with nothing planned, and few units were issued
  abbrev MannedFew : World → Type 0
  MannedFew w = AreManned names w.replicas × AreOfFew k w.book.issued

  keeps_few : IsKeptByCalls MannedFew (λ v q. Unit {0}) (λ v r. Unit {0}) (λ o. Unit {0})
  keeps_few = worlds_alone MannedFew
      (λ w name partner max is. let v = asking names w is.0 name partner max pull_version in (v, asks_so (Issues k) IsSilent w (silent k w is.0.ready is.1) name partner max pull_version v.ready))
      (λ w name o is. let v = serving names w is.0 name o in (v, serves_so (Issues k) IsSilent w (silent k w is.0.ready is.1) name o tt v.ready))
      (λ w name o is. let v = delivering names w is.0 name o in (v, delivers_so (Issues k) IsSilent w (silent k w is.0.ready is.1) name o tt (λ p e. tt) v.ready))

  abbrev FewBehind : Gone → Type 0
  FewBehind g = AreOfFew k g.0.book.issued

  adopting_few : (w : World) → AreOfFew k w.book.issued → (name : Name) (o : Option Store) (inv : Identifier)
      → AreOfFew k (of_made (stays w) (replica_at w name) (λ r. of_image w o (λ i. adopts w (with_replica w.replicas) name (adopt i r.safe.dsa inv)))).0.book.issued
  adopting_few w few name o inv = made_case FewBehind w name (stays w) (λ x. few) (λ r. of_image w o (λ i. adopts w (with_replica w.replicas) name (adopt i r.safe.dsa inv))) (λ r called. by r o)
    where
      adopted : (t : Result State AdoptRefusal) → FewBehind (adopts w (with_replica w.replicas) name t)
      adopted (Err x) = few
      adopted (Ok s) = within_case FewBehind w (area_fits (new_log s) s.store) (record w { book = begun w.book s; replicas = with_replica w.replicas (on_new_disk name s) }, outcomes.Ok) few few

      by : (r : Replica) (o : Option Store) → FewBehind (of_image w o (λ i. adopts w (with_replica w.replicas) name (adopt i r.safe.dsa inv)))
      by r None = few
      by r (Some i) = adopted (adopt i r.safe.dsa inv)

  line_few : (w : World) → MannedFew w → (e : Event) → IsMild true e → AreOfFew (k + is_write e) (step w e).0.book.issued
  line_few w is e mild = by e mild (stays_manned names w is.0 e mild).ready
    where
      no_more : (us : List Update) → AreOfFew k us → AreOfFew (k + 0) us
      no_more us few = of_more k (k + 0) us (omega arith) few

      kept : IsKeptBehind (Issues k) IsSilent w
      kept = silent k w is.0.ready is.1

      called : (name : Name) (what : Said) → IsMildCall true what → Each IsReady (does w name (call_meant what w.time)).0.replicas → AreOfFew (k + is_write (events.Calls name what)) (does w name (call_meant what w.time)).0.book.issued
      called name (calls.Write what) mild ready = calls_so (Issues (k + 1)) IsWriteOfOne w (writing_one k w is.0.ready is.1) name (ToWrite (write_meant what) w.time) (meant_is_of_one_item what) ready
      called name (calls.Collect lifetime) mild ready = no_more _ (calls_so (Issues k) IsSilent w kept name (ToCollect w.time lifetime) tt ready)
      called name what mild ready = absurd mild

      by : (e : Event) → IsMild true e → Each IsReady (step w e).0.replicas → AreOfFew (k + is_write e) (step w e).0.book.issued
      by (events.Time now) mild ready = no_more w.book.issued is.1
      by (events.Comes name inv (comings.Fresh dsa)) mild ready = no_more w.book.issued is.1
      by (events.Comes name inv (comings.Restored image)) mild ready = no_more _ (adopting_few (gives w [] (inv ∷ [])) is.1 name (bound_at w.images image) inv)
      by (events.Calls name what) mild ready = called name what mild ready
      by (events.Binds name (mades.Ask partner max version) bind) mild ready = no_more _ (asks_so (Issues k) IsSilent w kept name partner max version ready)
      by (events.Binds name (mades.Serve request) bind) mild ready = no_more _ (serves_so (Issues k) IsSilent w kept name (bound_at w.requests request) tt ready)
      by (events.Binds name mades.Backup bind) mild ready = no_more _ (backs_up_so (Issues k) IsSilent w kept name ready)
      by (events.Goes name what) mild ready = no_more _ (goes_so MannedFew (λ v q. Unit {0}) (λ v r. Unit {0}) (λ o. Unit {0}) keeps_few (λ n d v. tt) name what w is).0.1
      by e mild ready = absurd mild

pub lines_few : (names : List Name) (es : List Event) (k : ℕ) (w : World) → AreManned names w.replicas → AreMild true es → AreOfFew k w.book.issued → AreOfFew (k + writes_in es) (after_lines w es).book.issued
lines_few names [] k w are mild few = of_more k (k + 0) w.book.issued (omega arith) few
lines_few names (e ∷ es) k w are mild few =
    of_more (k + is_write e + writes_in es) (k + (is_write e + writes_in es)) (after_lines (step w e).0 es).book.issued (omega arith)
    (lines_few names es (k + is_write e) (step w e).0 (stays_manned names w are e mild.0) mild.1 (line_few names k w (are, few) e mild.0))
