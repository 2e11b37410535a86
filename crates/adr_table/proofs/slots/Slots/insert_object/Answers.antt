use Rattle.std.proofs.Common.{◌≤◌, ◌∙◌, subst, sym}
use Rattle.adr_table.proofs.Objects.{object_put, one_more}
use Rattle.adr_table.proofs.slots.Slots.insert_object.Goals as goal

pub one_more-self-requires : goal.one_more-self-requires
one_more-self-requires c =
    let put = object_put c.args.object.now c.args.local c.args.rows.now c.args.self.now c.put_object.new.self c.requires.tidy c.requires.own c.requires.unheld c.in_ok-put_object.ensures.entries in
    subst (λ n. n ≤ c.objects.result) (one_more put c.has_birth.result c.has_birth.ensures c.args.self.now.objects c.requires.tidy.objects) c.objects.ensures

pub returns-clause-tidy : goal.returns-clause-tidy
returns-clause-tidy c =
    let put = object_put c.args.object.now c.args.local c.args.rows.now c.args.self.now c.put_object.new.self c.requires.tidy c.requires.own c.requires.unheld c.in_ok-put_object.ensures.entries in
    record {
      ordered = c.are_in_order.ensures;
      home = put.home;
      objects = c.one_more-self.ensures ∙ sym (one_more put c.has_birth.result c.has_birth.ensures c.args.self.now.objects c.requires.tidy.objects);
      links = c.requires.tidy.links ∙ sym put.links;
    }

pub returns-clause-seen : goal.returns-clause-seen
returns-clause-seen c =
    let put = object_put c.args.object.now c.args.local c.args.rows.now c.args.self.now c.put_object.new.self c.requires.tidy c.requires.own c.requires.unheld c.in_ok-put_object.ensures.entries in
    put.rows

pub returns-clause-links : goal.returns-clause-links
returns-clause-links c =
    let put = object_put c.args.object.now c.args.local c.args.rows.now c.args.self.now c.put_object.new.self c.requires.tidy c.requires.own c.requires.unheld c.in_ok-put_object.ensures.entries in
    put.same
