use Rattle.std.proofs.Common.{◌≡◌, ℕ, List, [], length, Some, None, refl}
use Rattle.std.proofs.lemmas.Bool.{ne_eqb}
use Rattle.std.proofs.lemmas.List.{nil_from_length}
use Rattle.adr_call.specs.declared.write.Write.TheVariants.{Modify}
use Rattle.adr_call.specs.declared.call.Call.TheVariants.{Write}
use Rattle.adr_call.specs.declared.event.Event.TheVariants.{Calls}
use Rattle.adr_values.specs.Assignments.{Given}
use Rattle.adr_token.specs.Identifiers.{identifier_at}
use Rattle.adr_token.specs.Words.{name_at}
use Rattle.adr_call.specs.declared.verb.Verb.TheVariants as verbs
use Rattle.adr_schedule.specs.Forms.{line_by}
use Rattle.adr_schedule.specs.Commands.{by_verb}
use Rattle.adr_schedule.specs.Sets.{sets_at}
use Rattle.adr_schedule.proofs.commands.modify.Goals as goal

-- no set stands there
without_sets : (bytes name guid behind rest : List ℕ) (values : List Given) → name_at bytes ≡ Some (name, behind) → identifier_at behind ≡ Some (guid, rest) → sets_at rest ≡ Some values
    → values ≡ [] → by_verb verbs.Modify bytes ≡ None
unfolding line_by
without_sets bytes name guid behind rest values n g v none = rw (n, g, v, none) refl

with_some : (bytes name guid behind rest : List ℕ) (values : List Given) → name_at bytes ≡ Some (name, behind) → identifier_at behind ≡ Some (guid, rest) → sets_at rest ≡ Some values
    → (values ≡ [] → ⊥) → by_verb verbs.Modify bytes ≡ Some (Calls name (Write (Modify guid values)))
unfolding line_by
with_some bytes name guid behind rest values n g v some = rw (n, g, v, ne_eqb (length values) 0 (λ none. some (nil_from_length values none))) refl

pub returns-then-is_empty : goal.returns-then-is_empty
returns-then-is_empty c =
    without_sets c.args.line.now c.in_ok-name.name c.in_ok-guid.guid c.name.new.self c.identifier.new.self c.in_ok-values.values c.in_ok-name.ensures.reading c.in_ok-guid.ensures c.in_ok-values.ensures
    (c.is_empty.ensures.0 c.if-is_empty.true)

pub returns : goal.returns
returns c =
    with_some c.args.line.now c.in_ok-name.name c.in_ok-guid.guid c.name.new.self c.identifier.new.self c.in_ok-values.values c.in_ok-name.ensures.reading c.in_ok-guid.ensures c.in_ok-values.ensures
    (λ none. let yes = c.is_empty.ensures.1 none in let no = c.if-is_empty.false in absurd (cc))
