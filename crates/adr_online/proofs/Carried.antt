-- What a pull makes of one disk, it makes of another that mirrors it.
use Rattle.std.proofs.Common.{◌≡◌, ◌⊎◌, inl, inr, ⊎_elim, ℕ, List, Ok, Err, sym, ◌∙◌, arith}
use Rattle.adr_disk.specs.Disk.{Among}
use Rattle.adr_disk.proofs.Told.{at_told, if_told}
use Rattle.adr_io.specs.declared.Sink.{Ghosts as SinkGhosts}
use Rattle.adr_outside.specs.declared.net.Net.{Ghosts as NetGhosts}
use Rattle.adr_model.specs.Store.{State}
use Rattle.adr_law_journal.specs.Areas.{Started}
use Rattle.adr_node.specs.Begins.{StandsOn}
use Rattle.adr_node.specs.Seen.{Mirrors, Seen}
use Rattle.adr_node.proofs.Mirrored.{ends_over, leaves_over, stands_over, still_over, told_over}
use Rattle.adr_pull.specs.Fetch.{Point}
use Rattle.adr_pull.specs.Told.{FindsNear}
use Rattle.adr_online.specs.Pulls.{Does, FallsOn, FindsPulled, Hands, IsUnpulled, LeavesSo, Pulls}
use Rattle.adr_online.specs.Dialled.{outside_of}
use Rattle.adr_online.specs.declared.ended.Pulled.{Pulled}
use Rattle.adr_online.proofs.Cycled.{pulls_less}

module _ {D E N S : Type 0} (d : Seen D) (e : Seen E) (n : NetGhosts N) (k : SinkGhosts S) (name : List ℕ) (old new : D) (from to : E)
    (first : Mirrors d old e from) (last : Mirrors e to d new) (net net_after : N) (sink sink_after : S) where
  abbrev pub Before : Hands D N S
  Before = record { disk = old; net = net; sink = sink }

  abbrev pub Behind : Hands D N S
  Behind = record { disk = new; net = net_after; sink = sink_after }

  abbrev pub BeforeIn : Hands E N S
  BeforeIn = record { disk = from; net = net; sink = sink }

  abbrev pub BehindIn : Hands E N S
  BehindIn = record { disk = to; net = net_after; sink = sink_after }

  falls_over : (p q : Point) → FallsOn e to p q → FallsOn d new p q
  falls_over p q falls =
      if_told (d.told new) (λ _. Among (FindsNear p q) (d.may_leave new)) (λ t is.
      let there = at_told (e.told to) (λ _. Among (FindsNear p q) (e.may_leave to)) t (sym last.told ∙ is) falls in
      λ x left. there x (last.left x left))

  unpulled_over : (there : Started State) (how : Pulled) → IsUnpulled e k there BeforeIn BehindIn how → IsUnpulled d k there Before Behind how
  unpulled_over there how un = ((un.0.0, un.0.1, ends_over d e old new from to first last k sink sink_after un.0.0 there un.0.2), un.1)

  does_over : (there : Started State) (how : Pulled) → Does e n k name there BeforeIn BehindIn how → Does d n k name there Before Behind how
  does_over (Ok f) how does = λ p at.
      pulls_less (StandsOn e to) (StandsOn d new) (FallsOn e to) (FallsOn d new) (stands_over d e old new from to first last) falls_over p (outside_of n k net_after sink_after) name f how (does p at)
  does_over (Err place) how does = absurd does

  leaves_so_over : (found : Started State) → LeavesSo e n k name found BeforeIn BehindIn → LeavesSo d n k name found Before Behind
  leaves_so_over (Ok f) leaves = λ p at.
      leaves_over d e old new from to first last (λ x. e.may_leave from x ⊎ FindsPulled name f p x) (λ x. d.may_leave old x ⊎ FindsPulled name f p x)
      (λ x. ⊎_elim (λ l. inl (first.left x l)) (λ finds. inr finds)) (leaves p at)
  leaves_so_over (Err place) leaves = leaves_over d e old new from to first last (e.may_leave from) (d.may_leave old) first.left leaves

  pub pulls_over : (how : Pulled) → Pulls e n k name BeforeIn BehindIn how → Pulls d n k name Before Behind how
  pulls_over how p = record {
    found = p.found;
    is_found = told_over d e old new from to first last (λ t. t ≡ p.found) p.is_found;
    does = ⊎_elim (λ un. inl (unpulled_over p.found how un)) (λ does. inr (does_over p.found how does)) p.does;
    any_moment = if_told (d.told old) (λ _. LeavesSo d n k name p.found Before Behind) (λ t is.
        leaves_so_over p.found (at_told (e.told from) _ t (first.told ∙ is) p.any_moment));
    still_told = still_over d e old new from to first last p.still_told;
    write_fault = p.write_fault;
    disk_fault = λ is. omega (arith, first.faults, last.faults, p.disk_fault is);
    link_fault = p.link_fault;
    sink_later = p.sink_later;
    disk_later = omega (arith, first.faults, last.faults, p.disk_later);
    doors_later = p.doors_later;
    lines_later = p.lines_later;
    doors_only = p.doors_only;
    lines_only = p.lines_only;
  }
