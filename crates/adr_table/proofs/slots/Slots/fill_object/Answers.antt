use Rattle.std.proofs.Common.{◌≤◌, ◌∙◌, subst, sym}
use Rattle.adr_shelves.specs.Shelves.{front, is_life}
use Rattle.adr_table.proofs.Fills.{filled, filled_count, filled_keys, front_lives}
use Rattle.adr_table.proofs.slots.Slots.fill_object.Goals as goal

pub one_more-self-requires : goal.one_more-self-requires
one_more-self-requires c =
    let are = filled c.args.object.now (front (is_life c.args.object.now) c.args.rows.now.items) c.args.self.now.map c.fill_object-came.new.self c.requires.tidy.ordered c.requires.tidy.home
    (front_lives c.args.object.now c.args.rows.now.items) c.fill_object-came.ensures.entries in
    subst (λ n. n ≤ c.objects.result) (filled_count are c.fill_object-came.result c.fill_object-came.ensures.came c.args.self.now.objects c.requires.tidy.objects) c.objects.ensures

pub returns-clause-tidy : goal.returns-clause-tidy
returns-clause-tidy c =
    let are = filled c.args.object.now (front (is_life c.args.object.now) c.args.rows.now.items) c.args.self.now.map c.fill_object-came.new.self c.requires.tidy.ordered c.requires.tidy.home
    (front_lives c.args.object.now c.args.rows.now.items) c.fill_object-came.ensures.entries in
    record {
      ordered = c.are_in_order.ensures;
      home = are.home;
      objects = c.one_more-self.ensures ∙ sym (filled_count are c.fill_object-came.result c.fill_object-came.ensures.came c.args.self.now.objects c.requires.tidy.objects);
      links = c.requires.tidy.links ∙ sym are.links;
    }

pub returns-clause-seen : goal.returns-clause-seen
returns-clause-seen c =
    let are = filled c.args.object.now (front (is_life c.args.object.now) c.args.rows.now.items) c.args.self.now.map c.fill_object-came.new.self c.requires.tidy.ordered c.requires.tidy.home
    (front_lives c.args.object.now c.args.rows.now.items) c.fill_object-came.ensures.entries in
    are.rows

pub returns-clause-links : goal.returns-clause-links
returns-clause-links c =
    let are = filled c.args.object.now (front (is_life c.args.object.now) c.args.rows.now.items) c.args.self.now.map c.fill_object-came.new.self c.requires.tidy.ordered c.requires.tidy.home
    (front_lives c.args.object.now c.args.rows.now.items) c.fill_object-came.ensures.entries in
    are.same

pub returns-clause-places : goal.returns-clause-places
returns-clause-places c =
    filled_keys (front (is_life c.args.object.now) c.args.rows.now.items) c.args.self.now.map c.fill_object-came.new.self c.requires.tidy.ordered c.requires.room c.fill_object-came.ensures.entries
