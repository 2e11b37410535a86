use Rattle.std.proofs.Common.{List, Option, true, false, sym, ap, ◌∙◌}
use Rattle.adr_values.specs.declared.table.Kind.{Kind}
use Rattle.adr_model.specs.Store.{Held, updates_of}
use Rattle.adr_model.specs.Write.{link_at, nodes_held, other_end}
use Rattle.adr_revival.proofs.Relinked.{link_as}
use Rattle.adr_revival.proofs.links.link_revived.Goals as goal

pub returns-then-is_link_of : goal.returns-then-is_link_of
returns-then-is_link_of c =
    sym
    (link_as c.args.state.now c.args.object.now c.args.class c.args.attr c.args.guid c.in_ok-other.other c.in_ok-link.link true
    (sym (c.in_ok-other.ensures ∙ ap (λ (rows : List Held). other_end (nodes_held (updates_of rows)) c.args.object.now c.args.guid) c.rows.ensures))
    (sym (c.in_ok-link.ensures ∙ ap (λ (k : Option Kind). link_at k c.args.attr c.args.object.now c.in_ok-other.other) c.paired_kind.ensures))
    (sym c.is_link_of.ensures ∙ c.if-is_link_of.true))

pub returns-else-is_link_of : goal.returns-else-is_link_of
returns-else-is_link_of c =
    sym
    (link_as c.args.state.now c.args.object.now c.args.class c.args.attr c.args.guid c.in_ok-other.other c.in_ok-link.link false
    (sym (c.in_ok-other.ensures ∙ ap (λ (rows : List Held). other_end (nodes_held (updates_of rows)) c.args.object.now c.args.guid) c.rows.ensures))
    (sym (c.in_ok-link.ensures ∙ ap (λ (k : Option Kind). link_at k c.args.attr c.args.object.now c.in_ok-other.other) c.paired_kind.ensures))
    (sym c.is_link_of.ensures ∙ c.if-is_link_of.false))
