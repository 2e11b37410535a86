use Rattle.std.proofs.Common.{◌<◌, ◌≤◌, Some, Option, ◌∷◌, length, sym, ap, ◌∙◌, subst, unwrap_or, [], arith}
use Rattle.std.specs.Option.{option_copied}
use Rattle.adr_values.specs.First.{first_of}
use Rattle.adr_values.specs.Vector.{cursor_limit, joined, raised}
use Rattle.adr_call.specs.declared.refusal.Table.TheVariants.{Objects, Links, Cursors as CursorTable, Marks}
use Rattle.adr_call.specs.declared.refusal.TakeRefusal.{TakeRefusal}
use Rattle.adr_model.specs.Change.{after, with_mark}
use Rattle.adr_model.specs.Take.{mark_limit, over_limit, taken_change}
use Rattle.adr_model.specs.Write.{link_limit, object_limit, usn_limit}
use Rattle.adr_cycle.proofs.Deciding.{behind, beyond, calls_of_four, later, tables, within_limit}
use Rattle.adr_cycle.proofs.taken_reply.refusal_after.Goals as goal

pub returns-in-Some : goal.returns-in-Some
returns-in-Some c =
    let t = c.args.taking.now in
    let taken = after c.args.state.now (taken_change c.args.state.now c.args.reply.now t) in
    ap (λ (o : Option TakeRefusal). first_of (o ∷ later t taken)) (sym c.in-Some.is ∙ c.refusal.ensures)
    ∙ behind c.args.state.now c.args.reply.now t taken c.requires

pub returns-then-usn-gt-USN_LIMIT : goal.returns-then-usn-gt-USN_LIMIT
returns-then-usn-gt-USN_LIMIT c =
    let s = c.args.state.now in
    let r = c.args.reply.now in
    let t = c.args.taking.now in
    let change = taken_change s r t in
    let taken = after s change in
    let more : usn_limit < t.usn = subst (λ usn. usn_limit < usn) c.usn.ensures c.if-usn-gt-USN_LIMIT.true in
    ap (λ (o : Option TakeRefusal). first_of (o ∷ tables t taken)) (beyond t.usn more)
    ∙ ap (λ (o : Option TakeRefusal). first_of (o ∷ later t taken)) (sym c.in_default.is ∙ c.refusal.ensures)
    ∙ behind s r t taken c.requires

pub returns : goal.returns
returns c =
    let s = c.args.state.now in
    let r = c.args.reply.now in
    let t = c.args.taking.now in
    let change = taken_change s r t in
    let taken = after s change in
    let cursors =
    c.len_after-cursors.ensures
    ∙ ap (λ v. length (raised (joined v (unwrap_or (option_copied c.last.result) [])) c.inv.result c.usn-2.result)) c.vector.ensures
    ∙ ap (λ v. length (raised (joined s.store.vector (unwrap_or v [])) c.inv.result c.usn-2.result)) c.last.ensures
    ∙ ap (λ inv. length (raised (joined s.store.vector change.joined) inv c.usn-2.result)) c.inv.ensures
    ∙ ap (λ usn. length (raised (joined s.store.vector change.joined) s.inv usn)) c.usn-2.ensures in
    let marks =
    c.len_with.ensures (record { inv = r.inv; mark = r.to })
    ∙ ap (λ source. length (with_mark (Some (source, record { inv = r.inv; mark = r.to })) c.marks.result.now)) c.source.ensures
    ∙ ap (λ marks. length (with_mark change.mark marks)) c.marks.ensures in
    let passing =
    calls_of_four
    (c.over_limit.ensures ∙ ap (over_limit Objects object_limit) c.objects.ensures)
    (c.over_limit-2.ensures ∙ ap (over_limit Links link_limit) c.links.ensures)
    (c.over_limit-3.ensures ∙ ap (over_limit CursorTable cursor_limit) cursors)
    (c.over_limit-4.ensures ∙ ap (over_limit Marks mark_limit) marks)
    c.or.ensures c.or-2.ensures c.or-3.ensures in
    let few : t.usn ≤ usn_limit = omega (arith, c.if-usn-gt-USN_LIMIT.false, c.usn.ensures) in
    passing
    ∙ ap (λ (o : Option TakeRefusal). first_of (o ∷ tables t taken)) (within_limit t.usn few)
    ∙ ap (λ (o : Option TakeRefusal). first_of (o ∷ later t taken)) (sym c.in_default.is ∙ c.refusal.ensures)
    ∙ behind s r t taken c.requires
