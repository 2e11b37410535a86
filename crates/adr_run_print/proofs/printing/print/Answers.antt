use Rattle.std.proofs.Common.{[], ◌++◌, ap, ◌∙◌, append_assoc}
use Rattle.std.specs.Prelude.{codes}
use Rattle.adr_call.specs.declared.event.Event.{Event}
use Rattle.adr_token.proofs.Lists.{added}
use Rattle.adr_run_print.specs.Printed.{line_of}
use Rattle.adr_run_print.proofs.printing.print.Goals as goal

pub loop-event-preserved : goal.loop-event-preserved
loop-event-preserved c =
    let event = c.event-item.result in
    added (λ (event : Event). line_of event ++ codes "\n") [] c.loop-event.out.items c.push.new.out.items c.args.events.now c.loop-event.event-index event event
    c.loop-event-test.true c.event-item.is c.loop-event.invariant
    (c.in_ok-push.ensures.items ∙ ap (λ out. out ++ codes "\n") c.in_ok-push_line.ensures ∙ append_assoc c.loop-event.out.items (line_of event) (codes "\n"))
