use Rattle.std.proofs.Common.{◌≡◌, set, true, Some, sym, subst, ◌∙◌}
use Rattle.std.proofs.lemmas.Result.{MatchResult-from_err}
use Rattle.adr_outside.specs.Traffic.{Traffic, Sends}
use Rattle.adr_test_outside.specs.Connections.{told_of}
use Rattle.adr_test_outside.proofs.ConnectionLemmas.{opened, sends, unsent}
use Rattle.adr_test_outside.proofs.connections.Connections.send.Goals as goal

pub returns-in_err-extend_from_slice-clause-no_memory : goal.returns-in_err-extend_from_slice-clause-no_memory
returns-in_err-extend_from_slice-clause-no_memory c =
    let s = c.self.inside in
    let is_open = subst (λ (t : Traffic). t.is_open ≡ true) (sym c.self.view_is) c.requires in
    let low = opened s.incoming.items s.sent.items s.hung_up s.received is_open in
    let items = c.in_err-extend_from_slice.ensures.items in
    let same = unsent s.incoming.items s.sent.items c.index_mut.result.now c.extend_from_slice.new.self s.hung_up s.received low c.index_mut.ensures.value items in
    MatchResult-from_err c.from_residual.result _ _ c.from_residual.ensures.0 (λ _. same ∙ c.self.view_is)

pub returns-clause-sent : goal.returns-clause-sent
returns-clause-sent c =
    let s = c.self.inside in
    let bytes = c.args.bytes.now in
    let w = c.extend_from_slice.new.self in
    let is_open = subst (λ (t : Traffic). t.is_open ≡ true) (sym c.self.view_is) c.requires in
    let low = opened s.incoming.items s.sent.items s.hung_up s.received is_open in
    let items = c.in_ok-extend_from_slice.ensures.items in
    let told = sends s.incoming.items s.sent.items c.index_mut.result.now w s.hung_up s.received bytes low c.index_mut.ensures.value items in
    subst (λ (t : Traffic). Sends t (Some (told_of s.incoming.items (set s.sent.items s.hung_up w) s.hung_up s.received)) bytes) c.self.view_is told
