use Rattle.std.proofs.Common.{inl, inr, refl, ap, Err}
use Rattle.adr_node.specs.Makes.{Adopts}
use Rattle.adr_node.specs.Seen.{of_disk}
use Rattle.adr_node.specs.declared.ended.Refusal.TheVariants.{NotEmpty}
use Rattle.adr_node.specs.declared.making.Unmade.TheVariants as unmade
use Rattle.adr_node.proofs.Formatted.{ends_at}
use Rattle.adr_node.proofs.Made.{found_full, made_on, refused_so, unmade_on}
use Rattle.adr_node.proofs.Reading.{none_read, unread_so, whole_as}
use Rattle.adr_node.proofs.imaging.image_on.Goals as goal

pub returns-in-Err-clause-made : goal.returns-in-Err-clause-made
returns-in-Err-clause-made g c =
    let ids = g.F.Fresh.identifiers c.args.fresh.now in
    let text = g.S.Source.left c.args.source.now in
    let e = c.in-Err.ensures in
    unmade_on g.D.Disk g.met.D.Disk.only_now (Adopts c.args.given text ids ids) _ c.args.disk c.find_empty.new.disk e.keeps e.later c.in-Err.unmade
    (λ why is. found_full g.D.Disk (Adopts c.args.given text ids ids) c.args.disk c.in-Err.unmade why is e.refused (λ full. e.not_empty (ap Err full))) (inr (refl, refl)) (λ is. e.fault (ap Err is))

pub returns-in-Ok-adopt_read-clause-made : goal.returns-in-Ok-adopt_read-clause-made
returns-in-Ok-adopt_read-clause-made g c =
    let e = c.in-Ok.ensures in
    made_on g.D.Disk g.met.D.Disk.only_now
    (Adopts c.args.given (g.S.Source.left c.args.source.now) (g.F.Fresh.identifiers c.args.fresh.now) (g.F.Fresh.identifiers c.adopt_read.new.fresh)) _ c.args.disk c.find_empty.new.disk e.keeps e.later
    c.format_empty.result.1 c.in-Ok-adopt_read.state e.empty c.in-Ok-adopt_read.ensures.ok c.format_empty.ensures.begins c.format_empty.result.0 c.format_empty.ensures.ends

pub returns-in-Err-adopt_read-clause-made : goal.returns-in-Err-adopt_read-clause-made
returns-in-Err-adopt_read-clause-made g c =
    let before = g.F.Fresh.identifiers c.args.fresh.now in
    let after = g.F.Fresh.identifiers c.adopt_read.new.fresh in
    let text = g.S.Source.left c.args.source.now in
    let e = c.in-Ok.ensures in
    let a = c.in-Err-adopt_read.ensures in
    unmade_on g.D.Disk g.met.D.Disk.only_now (Adopts c.args.given text before after) _ c.args.disk c.find_empty.new.disk e.keeps e.later c.in-Err-adopt_read.unmade
    (λ why is. refused_so g.D.Disk c.args.given text before after c.args.disk why e.empty (a.refused why (ap Err is)))
    (inl (e.empty, λ is. absurd (a.refused NotEmpty (ap Err is)))) (λ is. absurd (a.not_disk (ap Err is)))

pub returns-in-Err-clause-reads : goal.returns-in-Err-clause-reads
returns-in-Err-clause-reads g c = unread_so (g.S.Source.left c.args.source.now) c.in-Err.unmade c.in-Err.ensures.refused

pub returns-in-Err-clause-at_most : goal.returns-in-Err-clause-at_most
returns-in-Err-clause-at_most g c = none_read (g.S.Source.left c.args.source.now)

pub returns-in-Ok-adopt_read-clause-reads : goal.returns-in-Ok-adopt_read-clause-reads
returns-in-Ok-adopt_read-clause-reads g c =
    whole_as (g.S.Source.left c.args.source.now) (g.S.Source.left c.adopt_read.new.source) c.in-Ok-adopt_read.ensures.reads c.format_empty.result.0
    (λ is. ends_at (of_disk g.D.Disk) c.in-Ok-adopt_read.state c.find_empty.new.disk c.format_empty.result.1 c.format_empty.result.0 (unmade.Refused NotEmpty) is c.format_empty.ensures.ends)
