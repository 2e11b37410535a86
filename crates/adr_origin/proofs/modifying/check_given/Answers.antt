use Rattle.std.proofs.Common.{rules, ◌≡◌, sym, ◌∙◌}
use Rattle.std.proofs.lemmas.Result.{err_from_is_err_and}
use Rattle.std.specs.Option.{option_map}
use Rattle.std.specs.Result.{result_err}
use Rattle.adr_values.specs.Numbered.{numbered}
use Rattle.adr_values.specs.Rules.{modify_refusal}
use Rattle.adr_call.specs.declared.refusal.WriteRefusal.TheVariants.{Schema as BreaksSchema}
use Rattle.adr_model.specs.Store.{updates_of}
use Rattle.adr_model.specs.Write.{class_of, live_refusals, nodes_held}
use Rattle.adr_origin.proofs.FirstOf.{in_front}
use Rattle.adr_origin.proofs.InLiveParts.{first_told, second_told}
use Rattle.adr_origin.proofs.modifying.check_given.Goals as goal

pub returns-in_err-check_live : goal.returns-in_err-check_live
returns-in_err-check_live c =
    let p = err_from_is_err_and c.from_residual.result c.from_residual.ensures.1 in
    rw (p.1, p.2) (first_told _ _ _ c.in_err-check_live.ensures.told ∙ sym (in_front (live_refusals c.args.state.now c.args.guid) _))

pub returns : goal.returns
returns c =
    let told : result_err c.check_schema.result ≡ option_map BreaksSchema (modify_refusal (numbered c.args.state.now.store.schema) (class_of (nodes_held (updates_of c.args.state.now.store.rows)) c.args.guid) c.args.values.now) = search rules in
    told ∙ (second_told _ _ c.in_ok-check_live.ensures.told ∙ sym (in_front (live_refusals c.args.state.now c.args.guid) _))
