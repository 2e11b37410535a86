use Rattle.std.proofs.Common.{◌∙◌, None, sym, subst}
use Rattle.std.specs.Prelude.{IsSome, unwrap_or}
use Rattle.std.specs.Map.{lookup}
use Rattle.std.specs.BTreeMap.{is_at}
use Rattle.adr_shelves.specs.Place.{place_order}
use Rattle.adr_table.proofs.Reserved.{one_made}
use Rattle.adr_table.proofs.Seen.{put_there}
use Rattle.adr_table.proofs.slots.Slots.reserve.Goals as goal

pub returns-clause-seen : goal.returns-clause-seen
returns-clause-seen c =
    let made = one_made c.args.self.now.map c.make.new.self c.args.place c.requires.tidy.ordered c.requires.tidy.home c.in_ok-local.ensures.entries in
    made.rows

pub returns-clause-tidy : goal.returns-clause-tidy
returns-clause-tidy c =
    let made = one_made c.args.self.now.map c.make.new.self c.args.place c.requires.tidy.ordered c.requires.tidy.home c.in_ok-local.ensures.entries in
    record {
      ordered = made.ordered;
      home = made.home;
      objects = c.requires.tidy.objects ∙ sym made.objects;
      links = c.requires.tidy.links ∙ sym made.links;
    }

pub returns-clause-same : goal.returns-clause-same
returns-clause-same c =
    let made = one_made c.args.self.now.map c.make.new.self c.args.place c.requires.tidy.ordered c.requires.tidy.home c.in_ok-local.ensures.entries in
    made.same

pub returns-clause-more : goal.returns-clause-more
returns-clause-more c =
    let made = one_made c.args.self.now.map c.make.new.self c.args.place c.requires.tidy.ordered c.requires.tidy.home c.in_ok-local.ensures.entries in
    made.more

pub returns-clause-ok : goal.returns-clause-ok
returns-clause-ok c =
    let es = c.args.self.now.map in
    subst (λ xs. IsSome (lookup (is_at (place_order c.args.place)) xs)) (sym c.in_ok-local.ensures.entries)
    (put_there es c.args.place (unwrap_or (lookup (is_at (place_order c.args.place)) es) None))
