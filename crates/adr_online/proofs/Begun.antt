-- What a controller that was begun with, or none, is to the command.
use Rattle.std.proofs.Common.{◌≡◌, ◌⊎◌, ◌∙◌, inl, inr, ⊎_elim, refl, sym, ap, subst, ℕ, Option, Some, None, Result, Ok, Err, arith}
use Rattle.adr_io.specs.declared.Sink.{Ghosts as SinkGhosts}
use Rattle.adr_disk.proofs.Moments.{weakened}
use Rattle.adr_disk.specs.Disk.{Among, LeavesOnly}
use Rattle.adr_outside.specs.declared.net.Net.{Ghosts as NetGhosts}
use Rattle.adr_outside.specs.declared.clock.Clock.{Ghosts as ClockGhosts}
use Rattle.adr_model.specs.Store.{State}
use Rattle.adr_law_journal.specs.Areas.{Found, Started, found}
use Rattle.adr_law_journal.proofs.Told.{at_told, if_told}
use Rattle.adr_journal.specs.declared.keeper.Keeper.{Ghosts as KeeperGhosts}
use Rattle.adr_controller.specs.Running.{IsInOrder}
use Rattle.adr_node.proofs.Formatted.{always}
use Rattle.adr_node.specs.Begins.{Begun, IsUnbegun, StandsOn}
use Rattle.adr_node.specs.Seen.{Seen, of_keeper}
use Rattle.adr_node.specs.declared.ended.Unbegun.{Unbegun}
use Rattle.adr_node.specs.declared.ended.Unbegun.TheVariants as unbegun
use Rattle.adr_law_controller.specs.Keeping.{Stands}
use Rattle.adr_session.specs.Told.{FindsNear}
use Rattle.adr_law_controller.proofs.Crashes.{LeavesLaw, TellsLaw, crash_on, since, tells_here}
use Rattle.adr_online.specs.declared.ended.Stop.{Stop}
use Rattle.adr_online.specs.declared.ended.Stop.TheVariants as stops
use Rattle.adr_online.specs.declared.ended.Online.{Online}
use Rattle.adr_online.specs.declared.ended.Online.TheVariants as online
use Rattle.adr_online.specs.Posts.{FindsWithin}
use Rattle.adr_online.specs.Served.{HasFallen}
use Rattle.adr_online.specs.Goes.{Server, ServesSo, outside}
use Rattle.adr_online.specs.Serves.{Hands, FallsOn, LeavesSo, Serves, ServesFrom, online_of, unserved}
use Rattle.adr_online.proofs.Monotone.{ends_so, serves_so}

-- what might have been left before is left
pub leaves_as_before : {D N C S : Type 0} (d : Seen D) (n : NetGhosts N) (c : ClockGhosts C) (s : SinkGhosts S) (count : ℕ) (found : Started State) (old new : Hands D N C S)
    → LeavesOnly d.moment d.left_since old.disk new.disk (d.may_leave old.disk) → LeavesSo d n c s count found old new
leaves_as_before d n c s count (Ok f) old new leaves = λ p is at.
    weakened d.moment d.left_since old.disk new.disk (d.may_leave old.disk) (λ x. d.may_leave old.disk x ⊎ FindsWithin count p x) (λ x left. inl left) leaves
leaves_as_before d n c s count (Err place) old new leaves = leaves

-- ---- no controller was begun with

write_unserved : (why : Unbegun) → unserved why ≡ online.WriteFault → why ≡ unbegun.WriteFault
write_unserved unbegun.WriteFault is = refl
write_unserved why is = absurd (cc is)

disk_unserved : (why : Unbegun) → unserved why ≡ online.DiskFault → why ≡ unbegun.DiskFault
disk_unserved unbegun.DiskFault is = refl
disk_unserved why is = absurd (cc is)

-- it ends in no other way
only_unserved : (why : Unbegun) → (unserved why ≡ online.LinkFault) ⊎ (unserved why ≡ online.ClockFault) → ⊥
only_unserved unbegun.WriteFault is = ⊎_elim (λ (e : online.WriteFault ≡ online.LinkFault). cc) (λ (e : online.WriteFault ≡ online.ClockFault). cc) is
only_unserved why is = ⊎_elim (λ (e : unserved why ≡ online.LinkFault). cc) (λ (e : unserved why ≡ online.ClockFault). cc) is

pub none_served : {D N C S : Type 0} (d : Seen D) (n : NetGhosts N) (c : ClockGhosts C) (s : SinkGhosts S) (count : ℕ) (old new : Hands D N C S) (why : Unbegun)
    → IsUnbegun d s old.disk new.disk old.sink new.sink why → new.net ≡ old.net → new.clock ≡ old.clock → Serves d n c s count old new (unserved why)
none_served d n c s count old new why u net clock =
    let doors : n.doors new.net ≡ n.doors old.net = ap n.doors net in
    let lines : n.lines new.net ≡ n.lines old.net = ap n.lines net in
    let times : c.faults new.clock ≡ c.faults old.clock = ap c.faults clock in
    record {
      found = u.found;
      is_found = u.is_found;
      does = inl ((why, refl, u.ends), net, clock);
      any_moment = always (d.told old.disk) (leaves_as_before d n c s count u.found old new u.any_moment);
      still_told = u.still_told;
      write_fault = λ is. u.write_fault (write_unserved why is);
      disk_fault = λ is. u.disk_fault (disk_unserved why is);
      link_fault = λ is. absurd (only_unserved why (inl is));
      clock_fault = λ is. absurd (only_unserved why (inr is));
      sink_later = u.sink_later;
      disk_later = u.disk_later;
      doors_later = omega (arith, doors);
      lines_later = omega (arith, lines);
      clock_later = omega (arith, times);
      link_ends = λ rose. absurd (omega (arith, rose, doors));
      clock_ends = λ rose. absurd (omega (arith, rose, times));
      write_ends = λ rose. ap unserved (u.write_ends rose);
    }

-- ---- one was

-- how it stopped, by how the command ended
abbrev stop_of : Online → Option Stop
stop_of online.Done = None
stop_of online.WriteFault = Some stops.Write
stop_of online.DiskFault = Some stops.Disk
stop_of online.LinkFault = Some stops.Link
stop_of online.NoMemory = Some stops.NoMemory
stop_of (online.Damaged place) = None
stop_of online.ClockFault = Some stops.Clock

abbrev err_of : Result Unit Stop → Option Stop
err_of (Ok u) = None
err_of (Err stop) = Some stop

err_back : (r : Result Unit Stop) → stop_of (online_of r) ≡ err_of r
err_back (Ok u) = refl
err_back (Err stops.Write) = refl
err_back (Err stops.Disk) = refl
err_back (Err stops.Link) = refl
err_back (Err stops.Clock) = refl
err_back (Err stops.NoMemory) = refl

err_is : (r : Result Unit Stop) (stop : Stop) → err_of r ≡ Some stop → r ≡ Err stop
err_is (Ok u) stop is = absurd (cc is)
err_is (Err other) stop is = ap (λ (x : Stop). let r : Result Unit Stop = Err x in r) (let same : other ≡ stop = (cc is) in same)

stopped_so : (r : Result Unit Stop) (stop : Stop) (how : Online) → online_of r ≡ how → stop_of how ≡ Some stop → r ≡ Err stop
stopped_so r stop how is so = err_is r stop (sym (err_back r) ∙ ap stop_of is ∙ so)

module _ {K N C S : Type 0} (k : KeeperGhosts K) (n : NetGhosts N) (c : ClockGhosts C) (s : SinkGhosts S) (count : ℕ) (tells : TellsLaw k) (leaves : LeavesLaw k) where
  pub started_serves : (keeper : K) (v w : Server K N C S) (r : Result Unit Stop) (how : Online) → how ≡ online_of r → Begun k keeper v.controller → IsInOrder k w.controller
      → ServesSo k n c s count v w r
      → Serves (of_keeper k) n c s count (record { disk = keeper; net = v.net; clock = v.clock; sink = v.sink })
      (record { disk = w.controller.keeper; net = w.net; clock = w.clock; sink = w.sink }) how
  started_serves keeper v w r how is b order e =
      let started = b.started in
      let f : Found State = found started.state started.log in
      let there : Started State = Ok f in
      let mid = v.controller in
      let new = w.controller in
      let stands : Stands k f mid = (started.in_memory, started.at) in
      let before : Hands K N C S = record { disk = keeper; net = v.net; clock = v.clock; sink = v.sink } in
      let after : Hands K N C S = record { disk = new.keeper; net = w.net; clock = w.clock; sink = w.sink } in
      record {
        found = there;
        is_found = started.told;
        does = inr (λ p at_f at.
            subst (λ (x : Online). ServesFrom (StandsOn (of_keeper k) new.keeper) (FallsOn (of_keeper k) keeper new.keeper) count p x (outside n c s w)) (sym is)
            (ends_so (StandsOn (of_keeper k) new.keeper) (FallsOn (of_keeper k) keeper new.keeper) count p r (outside n c s w)
            (serves_so (λ f. Stands k f new) (StandsOn (of_keeper k) new.keeper) (λ x. HasFallen k mid.keeper x new) (FallsOn (of_keeper k) keeper new.keeper)
            (λ f stands. tells_here k leaves f new tells stands order) (λ x fell. since k keeper mid.keeper (Among (FindsNear x) (k.may_leave new.keeper)) b.told.1 fell.1) count p r (outside n c s w)
            (e.serves p (subst (λ (x : Found State). Stands k x mid) (sym at_f) stands) at))));
        any_moment = if_told (k.told keeper) (λ _. LeavesSo (of_keeper k) n c s count there before after) (λ t here. λ p at_f at.
            let left : Started State → Type 0 = λ x. k.may_leave keeper x ⊎ FindsWithin count p x in
            at_told (k.told keeper) (λ _. LeavesOnly k.moment k.left_since keeper new.keeper left) t here
            (crash_on k keeper mid.keeper new.keeper (k.may_leave keeper) (FindsWithin count p) left (λ x left. inl left) (λ x finds. inr finds)
            (always (k.told keeper) b.any_moment) b.told.1 (e.any_moment p (subst (λ (x : Found State). Stands k x mid) (sym at_f) stands) at)));
        still_told = λ was. e.told (b.told.1 was);
        write_fault = λ ends. e.write (stopped_so r stops.Write online.WriteFault (sym is ∙ ends) refl);
        disk_fault = λ ends. omega (arith, b.later, e.disk (stopped_so r stops.Disk online.DiskFault (sym is ∙ ends) refl));
        link_fault = λ ends. e.link (stopped_so r stops.Link online.LinkFault (sym is ∙ ends) refl);
        clock_fault = λ ends. e.clock (stopped_so r stops.Clock online.ClockFault (sym is ∙ ends) refl);
        sink_later = e.sink_later;
        disk_later = omega (arith, b.later, e.disk_later);
        doors_later = e.doors_later;
        lines_later = e.lines_later;
        clock_later = e.clock_later;
        link_ends = λ rose. is ∙ ap online_of (e.link_ends rose);
        clock_ends = λ rose. is ∙ ap online_of (e.clock_ends rose);
        write_ends = λ rose. is ∙ ap online_of (e.write_ends rose);
      }
