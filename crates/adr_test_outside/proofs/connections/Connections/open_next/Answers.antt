use Rattle.std.proofs.Common.{◌≡◌, ℕ, [], length, Some, sym, subst, arith}
use Rattle.adr_outside.specs.Traffic.{Traffic, Opens}
use Rattle.adr_test_outside.specs.Connections.{Buffers, told_of}
use Rattle.adr_test_outside.proofs.ConnectionLemmas.{opens, one_more}
use Rattle.adr_test_outside.proofs.connections.Connections.open_next.Goals as goal

pub returns-clause-opens : goal.returns-clause-opens
returns-clause-opens c =
    let s = c.self.inside in
    let before = told_of s.incoming.items s.sent.items s.hung_up s.received in
    let some = subst (λ (t : Traffic). (t.waiting ≡ [] → ⊥)) (sym c.self.view_is) c.requires in
    let opened = opens s.incoming.items s.sent.items c.new.result s.hung_up s.received c.self.invariant (one_more s.incoming.items s.sent.items some) c.new.ensures.items in
    let all : length s.sent.items ≡ c.len-opened.result = omega arith in
    let pushed = sym {A = Buffers} c.in_ok-push.ensures.items in
    let stands = subst (λ (buffers : Buffers). Opens before (Some (told_of s.incoming.items buffers (length s.sent.items) 0))) pushed opened in
    let now = subst (λ (n : ℕ). Opens before (Some (told_of s.incoming.items c.push.new.self.items n 0))) all stands in
    subst (λ (t : Traffic). Opens t (Some (told_of s.incoming.items c.push.new.self.items c.len-opened.result 0))) c.self.view_is now
