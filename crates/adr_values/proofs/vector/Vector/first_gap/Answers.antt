use Rattle.adr_values.specs.Order.{identifier_order}
use Rattle.std.proofs.Common.{◌≡◌, ◌≤◌, ◌<◌, ℕ, List, sym, ap, ◌∙◌}
use Rattle.std.specs.Prelude.{is_some, not}
use Rattle.std.specs.declared.cmp.Ordering.TheVariants.{Less}
use Rattle.adr_values.specs.Vector.{at, at_most}
use Rattle.adr_values.proofs.Comparing.{of_gap, gap-is-not_at_most, none_from_at_most}
use Rattle.adr_values.proofs.vector.Vector.first_gap.Goals as goal

pub returns-clause-none : goal.returns-clause-none
returns-clause-none c =
    let same = ap is_some c.search_gap.ensures.gap ∙ gap-is-not_at_most c.args.self.now c.args.other.now in
    (λ h. none_from_at_most (at_most c.args.self.now c.args.other.now) (sym same ∙ h), λ h. same ∙ ap not h)

pub returns-clause-theirs : goal.returns-clause-theirs
returns-clause-theirs c = of_gap (λ g. g.1 ≡ at c.args.other.now g.0) c.args.self.now c.args.other.now c.search_gap.result c.search_gap.ensures.gap c.search_gap.ensures.vector.rising (λ g h. h.theirs)

pub returns-clause-own : goal.returns-clause-own
returns-clause-own c = of_gap (λ g. g.2 ≡ at c.args.self.now g.0) c.args.self.now c.args.other.now c.search_gap.result c.search_gap.ensures.gap c.search_gap.ensures.vector.rising (λ g h. h.own)

pub returns-clause-above : goal.returns-clause-above
returns-clause-above c = of_gap (λ g. g.1 < g.2) c.args.self.now c.args.other.now c.search_gap.result c.search_gap.ensures.gap c.search_gap.ensures.vector.rising (λ g h. h.above)

pub returns-clause-least : goal.returns-clause-least
returns-clause-least c =
    of_gap (λ g. (inv : List ℕ) → identifier_order inv g.0 ≡ Less → at c.args.self.now inv ≤ at c.args.other.now inv)
    c.args.self.now c.args.other.now c.search_gap.result c.search_gap.ensures.gap c.search_gap.ensures.vector.rising (λ g h. h.least)
