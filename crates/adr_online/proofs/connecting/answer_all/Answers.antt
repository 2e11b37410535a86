use Rattle.std.proofs.Common.{[], ◌≡◌, ◌≤◌, arith, ◌∙◌, ℕ, sym, subst}
use Rattle.std.specs.Prelude.{IfOk, IsSome, OnErr}
use Rattle.adr_outside.specs.Traffic.{open_line}
use Rattle.adr_session.specs.Told.{EndsByFault}
use Rattle.adr_online.specs.Posts.{Fails, done, opened}
use Rattle.adr_online.specs.Served.{stopped}
use Rattle.adr_online.proofs.Answering.{answered_so, begun, clock_stopped, lines_later, stopped_clock, stopped_disk, stopped_fails, stopped_ok, stopped_only, stopped_still}
use Rattle.adr_online.proofs.connecting.answer_all.Goals as goal

pub returns : goal.returns
returns g c =
    let k = g.K.Keeper in
    let s = c.serve_one-served in
    let e = s.ensures in
    let net = g.N.Net.traffic c.args.net.now in
    let clock = g.C.Clock.moments c.args.clock.now in
    let before : ℕ = g.N.Net.lines c.args.net.now in
    let after : ℕ = g.N.Net.lines s.new.net in
    let still : g.N.Net.lines c.hang_up.new.self ≡ g.N.Net.lines s.new.net = c.hang_up.ensures.lines in
    let later : g.N.Net.lines c.args.net.now ≤ g.N.Net.lines s.new.net = lines_later (EndsByFault s.result) (g.N.Net.lines c.args.net.now) (g.N.Net.lines s.new.net) e.fault e.no_fault in
    rw c.stopped.ensures
    (record {
      up = stopped_ok (IsSome s.new.controller.state) s.result e.up;
      answers = λ p came rest stands opens moments.
          let t = open_line rest (done p) came [] in
          let at = begun k p came rest c.args.controller.now net clock stands opens moments in
          answered_so k c.args.controller.now.keeper p came rest s.new.controller (g.N.Net.traffic s.new.net) (g.N.Net.traffic c.hang_up.new.self) (g.C.Clock.moments s.new.clock)
          c.hang_up.ensures.hung_up s.result (e.serves t (opened p came) at) (e.left t (opened p came) at);
      any_moment = λ p came rest stands opens moments.
          e.any_moment (open_line rest (done p) came []) (opened p came) (begun k p came rest c.args.controller.now net clock stands opens moments);
      only = stopped_only s.result;
      told = e.told;
      disk = λ is. e.disk (stopped_disk s.result is);
      disk_later = e.disk_never_falls;
      clock = λ is. e.clock (stopped_clock s.result is);
      clock_later = e.clock_never_falls;
      clock_ends = clock_stopped s.result (g.C.Clock.faults c.args.clock.now) (g.C.Clock.faults s.new.clock) e.no_clock_fault;
      fails = subst (λ (x : ℕ). IfOk (stopped s.result) (λ v. Fails v.end before x)) (sym still) (stopped_fails s.result before after e.fault e.no_fault);
      no_fault = subst (λ (x : ℕ). OnErr (stopped s.result) (x ≡ before)) (sym still) (stopped_still s.result before after e.no_fault);
      lines_later = omega arith;
      doors = c.hang_up.ensures.doors ∙ e.doors;
    })
