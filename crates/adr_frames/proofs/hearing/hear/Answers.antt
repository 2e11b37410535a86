use Rattle.std.proofs.Common.{◌≡◌, ℕ, zero, suc, ◌≤◌, Bool, true, false, eqb, arith, sym, ap, subst, ◌∙◌}
use Rattle.std.proofs.lemmas.Bool.{eqb-true}
use Rattle.std.proofs.lemmas.Result.{IfOk-weaker}
use Rattle.adr_outside.proofs.Counting.{counted_behind}
use Rattle.adr_wire.specs.Reading.{Rest}
use Rattle.adr_frames.specs.Frames.{IsFrameLength, from, length_at}
use Rattle.adr_frames.specs.Hearing.{Hears, HearsBody, IfFrame}
use Rattle.adr_frames.proofs.Framing.{Fails, heard_so, is_cut, is_over, length_of_ok, limit_so, told_fails}
use Rattle.adr_frames.proofs.ReceivedLemmas.{part_more}
use Rattle.adr_frames.proofs.hearing.hear.Goals as goal

is_none : (n : ℕ) (test : Bool) → test ≡ eqb n 0 → test ≡ true → n ≡ 0
is_none n test is holds = eqb-true n 0 (sym is ∙ holds)

is_some : (n : ℕ) (test : Bool) → test ≡ eqb n 0 → test ≡ false → 1 ≤ n
is_some zero test is holds = let both : true ≡ false = sym is ∙ holds in absurd (cc)
is_some (suc n) test is holds = omega arith

pub returns-then-is_empty-clause-heard : goal.returns-then-is_empty-clause-heard
returns-then-is_empty-clause-heard g c =
    is_over (g.N.Net.traffic c.args.net.now) c.in_ok-head.head.items c.in_ok-head.ensures.received
    (let none = is_none c.in_ok-head.head.len c.is_empty.result c.is_empty.ensures c.if-is_empty.true in omega (arith, none, c.in_ok-head.head.ok.0))

pub returns-in-Err-clause-heard : goal.returns-in-Err-clause-heard
returns-in-Err-clause-heard g c =
    let reader_is : c.new-reader.result ≡ from c.in_ok-head.head.items = c.new-reader.ensures ∙ ap from c.deref.ensures.value in
    is_cut (g.N.Net.traffic c.args.net.now) c.in_ok-head.head.items c.in_ok-head.ensures.received
    (let some = is_some c.in_ok-head.head.len c.is_empty.result c.is_empty.ensures c.if-is_empty.false in omega (arith, some, c.in_ok-head.head.ok.0))
    (subst (λ (r : Rest). Fails (length_at r)) reader_is (told_fails c.in-Err.field-0 (length_at c.new-reader.result) c.in-Err.ensures))

pub returns-clause-heard : goal.returns-clause-heard
returns-clause-heard g c =
    let first = g.N.Net.traffic c.args.net.now in
    let now = g.N.Net.traffic c.receive_at_most.new.net in
    let next = g.N.Net.traffic c.hear_body.new.net in
    let reader_is : c.new-reader.result ≡ from c.in_ok-head.head.items = c.new-reader.ensures ∙ ap from c.deref.ensures.value in
    let given = ap length_at (sym reader_is) ∙ c.in-Ok.ensures in
    IfOk-weaker c.hear_body.result (λ h. HearsBody c.in-Ok.length h now next) (λ h. Hears h first next)
    (λ h. heard_so first now next c.in_ok-head.head.items c.in-Ok.length c.in_ok-head.ensures.received c.in_ok-head.ensures.left
    (c.read_length.new.reader, given) h)
    c.hear_body.ensures.heard

pub returns-clause-limit : goal.returns-clause-limit
returns-clause-limit g c =
    IfOk-weaker c.hear_body.result (λ h. IfFrame h (λ n. n ≡ c.in-Ok.length)) (λ h. IfFrame h IsFrameLength)
    (limit_so c.in-Ok.length (length_of_ok c.new-reader.result c.in-Ok.length c.read_length.new.reader c.in-Ok.ensures)) c.hear_body.ensures.exactly

pub returns-clause-part : goal.returns-clause-part
returns-clause-part g c =
    part_more (g.N.Net.traffic c.args.net.now) (g.N.Net.traffic c.receive_at_most.new.net) (g.N.Net.traffic c.hear_body.new.net)
    c.receive_at_most.ensures.part c.hear_body.ensures.part

pub returns-clause-counts : goal.returns-clause-counts
returns-clause-counts g c =
    let n = g.N.Net in
    let head = c.receive_at_most.new.net in
    let all = c.hear_body.new.net in
    let so = c.in_ok-head.ensures.counts in
    counted_behind (n.lines c.args.net.now) (n.lines head) (n.lines all) (n.doors c.args.net.now) (n.doors head) (n.doors all) c.hear_body.result so.passed so.other
    c.hear_body.ensures.counts
