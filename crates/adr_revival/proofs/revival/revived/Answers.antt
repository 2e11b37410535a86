use Rattle.std.proofs.Common.{◌≡◌, suc, ◌+◌, length, ap, ◌∙◌, arith}
use Rattle.adr_model.specs.Change.{Change}
use Rattle.adr_revival.proofs.Next.{length_links}
use Rattle.adr_revival.proofs.revival.revived.Goals as goal

pub change_of-requires : goal.change_of-requires
change_of-requires c =
    let n : length c.in_ok-writes.writes.items ≡ suc (length c.in_ok-found.found.links.items) = ap length c.in_ok-writes.ensures ∙ ap suc (length_links c.args.state.now c.args.now (c.args.state.now.store.usn + 2) c.in_ok-found.found.links.items) in
    let room = c.in_ok-found.ensures.room in omega (arith, n, room)

pub returns-clause-within : goal.returns-clause-within
returns-clause-within c =
    let n : length c.in_ok-writes.writes.items ≡ suc (length c.in_ok-found.found.links.items) = ap length c.in_ok-writes.ensures ∙ ap suc (length_links c.args.state.now c.args.now (c.args.state.now.store.usn + 2) c.in_ok-found.found.links.items) in
    let u : c.change_of.result.usn ≡ c.args.state.now.store.usn + length c.in_ok-writes.writes.items = ap (λ (x : Change). x.usn) c.change_of.ensures in
    let room = c.in_ok-found.ensures.room in omega (arith, n, u, room)
