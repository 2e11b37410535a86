use Rattle.std.proofs.Common.{◌≤◌, cond, None, sym, ap, ◌∙◌, subst, length}
use Rattle.adr_model.specs.Place.{is_fixed}
use Rattle.adr_tree.specs.Slots.{looks, flag_at}
use Rattle.adr_tree.specs.Tree.{nodes_in}
use Rattle.adr_tree.proofs.Seen.{found, length_seen}
use Rattle.adr_tree.proofs.Breaking.{climbs_is}
use Rattle.adr_tree.proofs.tree.Tree.is_met_above.Goals as goal

pub returns : goal.returns
returns c =
    c.climbs.ensures
    ∙ climbs_is (nodes_in c.args.self.now) (looks c.args.self.now.slots) (λ g. ap (λ o. cond (is_fixed g) None o) (found c.args.self.now.slots.entries g c.requires.tidy.ordered c.requires.tidy.home))
    (flag_at c.args.self.now.flags) c.requires.exact c.args.guid c.args.place c.len.result
    (subst (λ n. length (nodes_in c.args.self.now) ≤ n) (sym c.len.ensures.len) (length_seen c.args.self.now.slots.entries))
