use Rattle.std.proofs.Common.{ℕ, List, sym, ◌∙◌, ap, arith}
use Rattle.std.proofs.lemmas.Bool.{eqb-true}
use Rattle.std.specs.Option.{option_map}
use Rattle.adr_law_journal.specs.Areas.{start_of}
use Rattle.adr_gather.specs.Held.{once_written, with_held}
use Rattle.adr_gather.proofs.Viewing.{none_held, nothing_there}
use Rattle.adr_gather.proofs.gathering.Gathering.is_settled.Goals as goal

pub returns-clause-told : goal.returns-clause-told
returns-clause-told g c = λ yes.
    let form = g.F.Form in
    let k = c.args.self.now in
    let o = g.D.Disk.content k.disk in
    let none = nothing_there k.held.items (omega (arith, eqb-true _ 0 (sym c.is_empty.ensures ∙ yes), k.held.ok)) in
    ap (option_map (start_of form.head form.area form.following)) (ap (λ (h : List ℕ). once_written o k.gate h) none ∙ none_held o k.gate)

pub returns-clause-left : goal.returns-clause-left
returns-clause-left g c = λ yes t left.
    let k = c.args.self.now in
    let none = nothing_there k.held.items (omega (arith, eqb-true _ 0 (sym c.is_empty.ensures ∙ yes), k.held.ok)) in
    (left.0, (λ told. (left.0, left.1, ap (λ (h : List ℕ). with_held k.gate h left.0) none)), left.2)
