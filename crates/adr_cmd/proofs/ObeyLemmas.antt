-- What the program has done where memory was wanting before anything was done.
use Rattle.std.proofs.Common.{inl, inr, refl, Option, Some, None, arith}
use Rattle.std.specs.Prelude.{◌+◌}
use Rattle.adr_io.specs.declared.Source.{Ghosts as SourceGhosts}
use Rattle.adr_io.specs.declared.Sink.{Ghosts as SinkGhosts}
use Rattle.adr_disk.specs.declared.disk.Disk.{Ghosts as DiskGhosts}
use Rattle.adr_outside.specs.declared.clock.Clock.{Ghosts as ClockGhosts}
use Rattle.adr_outside.specs.declared.fresh.Fresh.{Ghosts as FreshGhosts}
use Rattle.adr_outside.specs.declared.net.Net.{Ghosts as NetGhosts}
use Rattle.adr_answers.proofs.Due.{none_added}
use Rattle.adr_schedule.specs.Limits.{text_limit}
use Rattle.adr_run_replay.specs.Outcome.{exercised}
use Rattle.adr_run_replay.proofs.GivenLemmas.{nothing_told}
use Rattle.adr_words.specs.declared.kinds.Command.{Command}
use Rattle.adr_words.specs.declared.kinds.Command.TheVariants.{Exercise, OnDisk, Pull, Replay, Send, Serve}
use Rattle.adr_cmd.specs.Usage.{usage_line}
use Rattle.adr_cmd.specs.Obeys.{FaultsAreCaused, Hands, Obeys}
use Rattle.adr_cmd.proofs.DiskLemmas.{OnlyNow, none_read, nothing_done}
use Rattle.adr_cmd.proofs.OnlineLemmas.{nothing_pulled, nothing_sent, nothing_served}

module _ {S K D N C F : Type 0} (s : SourceGhosts S) (k : SinkGhosts K) (d : DiskGhosts D) (n : NetGhosts N) (c : ClockGhosts C) (f : FreshGhosts F) where
  pub nothing_obeyed : (only_now : OnlyNow d) (command : Option Command) (at : Hands S K D N C F) → Obeys s k d n c f command at at 8
  nothing_obeyed only_now None at = record {
    statuses = inr (inr refl);
    line = λ e. absurd (cc e);
    front = λ e. none_added (k.written at.sink) usage_line;
    alone = (refl, refl, refl, refl, refl);
  }
  nothing_obeyed only_now (Some Replay) at = record {
    statuses = inr (inr (inr (inr refl)));
    written = λ e. absurd (elim e [ inl e ↦ cc e | inr e ↦ cc e ]);
    printed = λ e. absurd (cc e);
    front = λ e. nothing_told (s.left at.source) (k.written at.sink);
    read = none_read (text_limit + 1) (s.left at.source);
    read_whole = λ e. absurd (elim e [ inl e ↦ cc e | inr e ↦ cc e ]);
    ended = λ e. absurd (cc e);
    alone = (refl, refl, refl, refl);
  }
  nothing_obeyed only_now (Some (Exercise number)) at = record {
    statuses = inr (inr refl);
    written = λ e. absurd (cc e);
    front = λ e. none_added (k.written at.sink) (exercised number);
    alone = (refl, refl, refl, refl, refl);
  }
  nothing_obeyed only_now (Some (OnDisk command)) at =
      (nothing_done s k d f only_now command (record { source = at.source; sink = at.sink; disk = at.disk; fresh = at.fresh }), refl, refl)
  nothing_obeyed only_now (Some (Serve name port count)) at =
      (nothing_served d n c k only_now count (record { disk = at.disk; net = at.net; clock = at.clock; sink = at.sink }), refl, refl)
  nothing_obeyed only_now (Some (Pull name port)) at =
      (nothing_pulled d n k only_now name (record { disk = at.disk; net = at.net; sink = at.sink }), refl, refl, refl)
  nothing_obeyed only_now (Some (Send port)) at = (nothing_sent s n k at.source at.net at.sink, refl, refl, refl)

  -- nor was there a fault
  pub nothing_caused : (at : Hands S K D N C F) → FaultsAreCaused s k d n c f at at 8
  nothing_caused at = record {
    read = λ e. absurd (cc e);
    unwritten = λ e. absurd (cc e);
    write = λ e. absurd (cc e);
    disk = λ e. absurd (cc e);
    link = λ e. absurd (cc e);
    clock = λ e. absurd (cc e);
    draw = λ e. absurd (cc e);
    source_later = omega arith;
    sink_later = omega arith;
    disk_later = omega arith;
    doors_later = omega arith;
    lines_later = omega arith;
    clock_later = omega arith;
    fresh_later = omega arith;
  }
