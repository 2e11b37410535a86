-- What the command is over one disk, it is over another that mirrors it.
use Rattle.std.proofs.Common.{◌≡◌, ◌⊎◌, ◌∙◌, inl, inr, ⊎_elim, ℕ, Ok, Err, arith}
use Rattle.adr_io.specs.declared.Sink.{Ghosts as SinkGhosts}
use Rattle.adr_disk.specs.Disk.{Among}
use Rattle.adr_outside.specs.declared.net.Net.{Ghosts as NetGhosts}
use Rattle.adr_outside.specs.declared.clock.Clock.{Ghosts as ClockGhosts}
use Rattle.adr_model.specs.Store.{State}
use Rattle.adr_law_journal.specs.Areas.{Started}
use Rattle.adr_law_journal.proofs.Told.{at_told, if_told}
use Rattle.adr_node.specs.Begins.{StandsOn}
use Rattle.adr_node.specs.Seen.{Seen, Mirrors}
use Rattle.adr_node.proofs.Mirrored.{ends_over, leaves_over, stands_over, still_over, told_over}
use Rattle.adr_session.specs.Talk.{Point}
use Rattle.adr_session.specs.Told.{FindsNear}
use Rattle.adr_online.specs.declared.ended.Online.{Online}
use Rattle.adr_online.specs.Posts.{FindsWithin}
use Rattle.adr_online.specs.Serves.{Hands, Does, FallsOn, IsUnserved, LeavesSo, Serves, outside_of}
use Rattle.adr_online.proofs.Monotone.{serves_from_so}

module _ {D E : Type 0} (d : Seen D) (e : Seen E) (old new : D) (from to : E) (first : Mirrors d old e from) (last : Mirrors e to d new) where
  falls_over : (x : Point) → FallsOn e from to x → FallsOn d old new x
  falls_over x falls =
      if_told (d.told old) (λ _. Among (FindsNear x) (d.may_leave new)) (λ t there s left.
      at_told (e.told from) (λ _. Among (FindsNear x) (e.may_leave to)) t (first.told ∙ there) falls s (last.left s left))

  module _ {N C S : Type 0} (n : NetGhosts N) (c : ClockGhosts C) (k : SinkGhosts S) (count : ℕ) (net net2 : N) (clock clock2 : C) (sink sink2 : S) where
    abbrev upper : Hands E N C S
    upper = record { disk = from; net = net; clock = clock; sink = sink }

    abbrev upper2 : Hands E N C S
    upper2 = record { disk = to; net = net2; clock = clock2; sink = sink2 }

    abbrev lower : Hands D N C S
    lower = record { disk = old; net = net; clock = clock; sink = sink }

    abbrev lower2 : Hands D N C S
    lower2 = record { disk = new; net = net2; clock = clock2; sink = sink2 }

    unserved_over : (there : Started State) (how : Online) → IsUnserved e k there upper upper2 how → IsUnserved d k there lower lower2 how
    unserved_over there how un = ((un.0.0, un.0.1, ends_over d e old new from to first last k sink sink2 un.0.0 there un.0.2), un.1, un.2)

    does_over : (there : Started State) (how : Online) → Does e n c k count there upper upper2 how → Does d n c k count there lower lower2 how
    does_over (Ok f) how does = λ p is at.
        serves_from_so (StandsOn e to) (StandsOn d new) (FallsOn e from to) (FallsOn d old new) (stands_over d e old new from to first last) falls_over count p how
        (outside_of n c k upper2) (does p is at)
    does_over (Err place) how does = absurd does

    leaves_so_over : (found : Started State) → LeavesSo e n c k count found upper upper2 → LeavesSo d n c k count found lower lower2
    leaves_so_over (Ok f) leaves = λ p is at.
        leaves_over d e old new from to first last (λ s. e.may_leave from s ⊎ FindsWithin count p s) (λ s. d.may_leave old s ⊎ FindsWithin count p s)
        (λ s either. ⊎_elim (λ was. inl (first.left s was)) (λ finds. inr finds) either) (leaves p is at)
    leaves_so_over (Err place) leaves = leaves_over d e old new from to first last (e.may_leave from) (d.may_leave old) first.left leaves

    pub serves_over : (how : Online) → Serves e n c k count upper upper2 how → Serves d n c k count lower lower2 how
    serves_over how s = record {
      found = s.found;
      is_found = told_over d e old new from to first last (λ t. t ≡ s.found) s.is_found;
      does = ⊎_elim (λ un. inl (unserved_over s.found how un)) (λ does. inr (does_over s.found how does)) s.does;
      any_moment = if_told (d.told old) (λ _. LeavesSo d n c k count s.found lower lower2) (λ t there.
          leaves_so_over s.found (at_told (e.told from) (λ _. LeavesSo e n c k count s.found upper upper2) t (first.told ∙ there) s.any_moment));
      still_told = still_over d e old new from to first last s.still_told;
      write_fault = s.write_fault;
      disk_fault = λ is. omega (arith, first.faults, last.faults, s.disk_fault is);
      link_fault = s.link_fault;
      clock_fault = s.clock_fault;
      sink_later = s.sink_later;
      disk_later = omega (arith, first.faults, last.faults, s.disk_later);
      doors_later = s.doors_later;
      lines_later = s.lines_later;
      clock_later = s.clock_later;
      link_ends = s.link_ends;
      clock_ends = s.clock_ends;
      write_ends = s.write_ends;
    }
