-- What a controller that was begun with, or none, and then a cycle make of what a pull has at hand.
use Rattle.std.proofs.Common.{◌≡◌, ◌⊎◌, inl, inr, ⊎_elim, ◌<◌, ◌≤◌, ◌↔◌, ℕ, List, IfSome, IsSome, Ok, Err, refl, sym, ap, subst, arith}
use Rattle.adr_disk.specs.Disk.{LeavesOnly}
use Rattle.adr_disk.proofs.Moments.{weakened}
use Rattle.adr_disk.proofs.Told.{at_told, if_told}
use Rattle.adr_io.specs.declared.Sink.{Ghosts as SinkGhosts}
use Rattle.adr_outside.specs.declared.net.Net.{Ghosts as NetGhosts}
use Rattle.adr_model.specs.Store.{State}
use Rattle.adr_law_journal.specs.Areas.{Found, Started, found}
use Rattle.adr_journal.specs.declared.keeper.Keeper.{Ghosts as KeeperGhosts}
use Rattle.adr_controller.specs.Running.{IsInOrder, Running}
use Rattle.adr_node.proofs.Formatted.{always}
use Rattle.adr_node.specs.Begins.{Begun, IsUnbegun, StandsOn}
use Rattle.adr_node.specs.Seen.{Seen, of_keeper}
use Rattle.adr_node.specs.declared.ended.Unbegun.{Unbegun}
use Rattle.adr_node.specs.declared.ended.Unbegun.TheVariants as unbegun
use Rattle.adr_law_controller.proofs.Crashes.{Crashes, LeavesLaw, TellsLaw, crash_on, tells_here}
use Rattle.adr_law_controller.specs.Keeping.{Stands}
use Rattle.adr_online.specs.Dialled.{IsAt, Post, outside_of}
use Rattle.adr_online.specs.Pulls.{Does, FallsOn, FindsPulled, Hands, LeavesSo, Pulls, PullsFrom, unpulled}
use Rattle.adr_online.specs.declared.ended.Pulled.{Pulled}
use Rattle.adr_online.specs.declared.ended.Pulled.TheVariants as pulls
use Rattle.adr_pull.specs.Told.{Fallen, Up}
use Rattle.adr_online.proofs.Cycled.{pulls_less}

write_unpulled : (why : Unbegun) → unpulled why ≡ pulls.WriteFault → why ≡ unbegun.WriteFault
write_unpulled unbegun.WriteFault is = refl
write_unpulled why is = absurd (cc is)

disk_unpulled : (why : Unbegun) → unpulled why ≡ pulls.DiskFault → why ≡ unbegun.DiskFault
disk_unpulled unbegun.DiskFault is = refl
disk_unpulled why is = absurd (cc is)

link_unpulled : (why : Unbegun) → unpulled why ≡ pulls.LinkFault → ⊥
link_unpulled unbegun.WriteFault is = cc
link_unpulled why is = cc

module _ {D N S : Type 0} (d : Seen D) (n : NetGhosts N) (k : SinkGhosts S) (name : List ℕ) (old new : Hands D N S) where
  pub leaves_as_before : (there : Started State) → LeavesOnly d.moment d.left_since old.disk new.disk (d.may_leave old.disk)
      → LeavesSo d n k name there old new
  leaves_as_before (Ok f) leaves = λ p at.
      weakened d.moment d.left_since old.disk new.disk (d.may_leave old.disk) (λ s. d.may_leave old.disk s ⊎ FindsPulled name f p s)
      (λ s left. inl left) leaves
  leaves_as_before (Err place) leaves = leaves

  -- no controller was begun with
  pub none_pulled : (why : Unbegun) → IsUnbegun d k old.disk new.disk old.sink new.sink why → new.net ≡ old.net → Pulls d n k name old new (unpulled why)
  none_pulled why u same =
      let doors : n.doors new.net ≡ n.doors old.net = ap n.doors same in
      let lines : n.lines new.net ≡ n.lines old.net = ap n.lines same in
      record {
        found = u.found;
        is_found = u.is_found;
        does = inl ((why, refl, u.ends), same);
        any_moment = always (d.told old.disk) (leaves_as_before u.found u.any_moment);
        still_told = u.still_told;
        write_fault = λ is. u.write_fault (write_unpulled why is);
        disk_fault = λ is. u.disk_fault (disk_unpulled why is);
        link_fault = λ is. absurd (link_unpulled why is);
        sink_later = u.sink_later;
        disk_later = u.disk_later;
        doors_later = omega (arith, doors);
        lines_later = omega (arith, lines);
        doors_only = λ not. doors;
        lines_only = λ not. lines;
      }

module _ {K N S : Type 0} (k : KeeperGhosts K) (n : NetGhosts N) (s : SinkGhosts S) (name : List ℕ) where
  -- a controller that was started, from where it then pulls
  module _ (tells : TellsLaw k) (leaves : LeavesLaw k) (old new : Hands K N S) (first last : Running K) (how : Pulled) (b : Begun k old.disk first)
      (is : new.disk ≡ last.keeper) (order : IsInOrder k last) where
    abbrev pub There : Found State
    There = found b.started.state b.started.log

    abbrev pub From : Type 0
    From =
        (f : Found State) (p : Post) → Stands k f first → IsAt p (outside_of n s old.net old.sink)
        → PullsFrom (Up k last) (Fallen k last) name f p how (outside_of n s new.net new.sink)

    abbrev pub Crash : Type 0
    Crash =
        (f : Found State) (p : Post) → Stands k f first → IsAt p (outside_of n s old.net old.sink)
        → Crashes k first.keeper last.keeper (λ x. k.may_leave first.keeper x ⊎ FindsPulled name f p x)

    from_there : From → Does (of_keeper k) n s name (Ok There) old new how
    from_there from = λ p at.
        subst (λ (x : K). PullsFrom (StandsOn (of_keeper k) x) (FallsOn (of_keeper k) x) name There p how (outside_of n s new.net new.sink)) (sym is)
        (pulls_less (Up k last) (StandsOn (of_keeper k) last.keeper) (Fallen k last) (FallsOn (of_keeper k) last.keeper)
        (λ f stands. tells_here k leaves f last tells stands order) (λ a b fell. fell.1) p (outside_of n s new.net new.sink) name There how
        (from There p (b.started.in_memory, b.started.at) at))

    crash_there : Crash → IfSome (k.told old.disk) (λ _. LeavesSo (of_keeper k) n s name (Ok There) old new)
    crash_there crash =
        if_told (k.told old.disk) (λ _. LeavesSo (of_keeper k) n s name (Ok There) old new) (λ t there. λ p at.
        let left : Started State → Type 0 = λ x. k.may_leave old.disk x ⊎ FindsPulled name There p x in
        subst (λ (x : K). LeavesOnly k.moment k.left_since old.disk x left) (sym is)
        (at_told (k.told old.disk) (λ _. LeavesOnly k.moment k.left_since old.disk last.keeper left) t there
        (crash_on k old.disk first.keeper last.keeper (k.may_leave old.disk) (λ x. k.may_leave first.keeper x ⊎ FindsPulled name There p x) left (λ x l. inl l)
        (λ x. ⊎_elim (λ l. inl (b.left x l)) (λ f. inr f)) (always (k.told old.disk) b.any_moment) b.told.1 (crash There p (b.started.in_memory, b.started.at) at))))

    -- what is told and what is counted
    pub record Counted : Type 0 where
      pub told : IsSome (k.told last.keeper) ↔ IsSome (k.told first.keeper)
      pub write : how ≡ pulls.WriteFault → s.faults old.sink < s.faults new.sink
      pub disk : how ≡ pulls.DiskFault → k.faults first.keeper < k.faults last.keeper
      pub link : how ≡ pulls.LinkFault → (n.doors old.net < n.doors new.net) ⊎ (n.lines old.net < n.lines new.net)
      pub sink_later : s.faults old.sink ≤ s.faults new.sink
      pub disk_later : k.faults first.keeper ≤ k.faults last.keeper
      pub doors_later : n.doors old.net ≤ n.doors new.net
      pub lines_later : n.lines old.net ≤ n.lines new.net
      pub doors_only : (how ≡ pulls.LinkFault → ⊥) → n.doors new.net ≡ n.doors old.net
      pub lines_only : (how ≡ pulls.LinkFault → ⊥) → n.lines new.net ≡ n.lines old.net

    pub started_pulls : From → Crash → Counted → Pulls (of_keeper k) n s name old new how
    started_pulls from crash counted =
        let there : Started State = Ok There in
        let e : k.faults new.disk ≡ k.faults last.keeper = ap k.faults is in
        record {
          found = there;
          is_found = b.started.told;
          does = inr (from_there from);
          any_moment = crash_there crash;
          still_told = λ was. subst (λ (x : K). IsSome (k.told x)) (sym is) (counted.told.1 (b.told.1 was));
          write_fault = counted.write;
          disk_fault = λ failed. omega (arith, e, counted.disk failed, b.later);
          link_fault = counted.link;
          sink_later = counted.sink_later;
          disk_later = omega (arith, e, counted.disk_later, b.later);
          doors_later = counted.doors_later;
          lines_later = counted.lines_later;
          doors_only = counted.doors_only;
          lines_only = counted.lines_only;
        }
