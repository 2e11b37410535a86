use Rattle.std.proofs.Common.{◌∙◌, sym}
use Rattle.adr_table.proofs.Reserved.{lives_own, object_made, object_there}
use Rattle.adr_table.proofs.slots.Slots.reserve_object.Goals as goal

pub make_object-requires : goal.make_object-requires
make_object-requires c = lives_own c.args.object.now c.args.rows.now c.requires.own

pub returns-clause-seen : goal.returns-clause-seen
returns-clause-seen c =
    let made = object_made c.args.rows.now c.args.self.now.map c.make_object.new.self c.in_ok-made.made c.requires.tidy.ordered c.requires.tidy.home c.in_ok-made.ensures.made c.in_ok-made.ensures.same in
    made.rows

pub returns-clause-tidy : goal.returns-clause-tidy
returns-clause-tidy c =
    let made = object_made c.args.rows.now c.args.self.now.map c.make_object.new.self c.in_ok-made.made c.requires.tidy.ordered c.requires.tidy.home c.in_ok-made.ensures.made c.in_ok-made.ensures.same in
    record {
      ordered = made.ordered;
      home = made.home;
      objects = c.requires.tidy.objects ∙ sym made.objects;
      links = c.requires.tidy.links ∙ sym made.links;
    }

pub returns-clause-same : goal.returns-clause-same
returns-clause-same c =
    let made = object_made c.args.rows.now c.args.self.now.map c.make_object.new.self c.in_ok-made.made c.requires.tidy.ordered c.requires.tidy.home c.in_ok-made.ensures.made c.in_ok-made.ensures.same in
    made.same

pub returns-clause-more : goal.returns-clause-more
returns-clause-more c =
    let made = object_made c.args.rows.now c.args.self.now.map c.make_object.new.self c.in_ok-made.made c.requires.tidy.ordered c.requires.tidy.home c.in_ok-made.ensures.made c.in_ok-made.ensures.same in
    made.more

pub returns-clause-made : goal.returns-clause-made
returns-clause-made c so =
    object_there c.args.rows.now c.args.self.now.map c.make_object.new.self c.requires.tidy.ordered c.requires.tidy.home (c.in_ok-made.ensures.made so)
