use Rattle.std.proofs.Common.{◌∙◌, sym, ap, List, [], ◌∷◌, ◌++◌}
use Rattle.adr_call.specs.declared.answer.Answer.{Answer}
use Rattle.adr_call.specs.Verbs.{name_of, verb_of, word_of}
use Rattle.adr_run_world.specs.Run.{world_of}
use Rattle.adr_run_world.proofs.Bindings.{headed}
use Rattle.adr_run_world.proofs.run.Run.step_alone.Goals as goal

pub returns-clause-stepped : goal.returns-clause-stepped
returns-clause-stepped c =
    let e = c.args.event.now in
    let o = c.in_ok-outcome.outcome in
    let v = world_of c.outcome.new.self in
    c.in_ok-outcome.ensures.stepped
    ∙ ap (λ m. (v, m ∷ []))
    (sym (headed c.of.result c.in_ok-heading.heading.verb c.in_ok-heading.heading.name (word_of (verb_of e)) (name_of e) o c.of.ensures
    (c.in_ok-heading.ensures.0 ∙ (c.word.ensures ∙ ap word_of c.verb.ensures), c.in_ok-heading.ensures.1 ∙ c.name_of.ensures)))
    ∙ ap (λ (list : List Answer). (v, list)) (sym (c.put.ensures.items ∙ ap (λ (list : List Answer). list ++ c.of.result ∷ []) (c.reserve.ensures.items ∙ c.new-answers.ensures.items)))
