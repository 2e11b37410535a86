use Rattle.std.proofs.Common.{◌≡◌, refl, subst, codes, Result, IfErr}
use Rattle.adr_node.specs.Makes.{IsNew}
use Rattle.adr_node.specs.declared.making.Unmade.{Unmade}
use Rattle.adr_node.specs.declared.making.Unmade.TheVariants.{ReadFault}
use Rattle.adr_node.proofs.Made.{makes_told}
use Rattle.adr_node.proofs.Telling.{told_refusal}
use Rattle.adr_node.proofs.creating.create.Goals as goal

pub returns-clause-makes : goal.returns-clause-makes
returns-clause-makes g c =
    let m = c.new_on-made in
    let t = c.tell.ensures in
    makes_told g.D.Disk g.K.Sink (IsNew (g.F.Fresh.identifiers c.args.fresh.now) (g.F.Fresh.identifiers m.new.fresh)) _ (codes "create") c.args.name.now
    c.args.disk m.result.1 c.args.sink.now c.tell.new.sink m.result.0 c.tell.result m.ensures.made t.tells t.disk_fault t.faulty

pub returns-clause-unread : goal.returns-clause-unread
returns-clause-unread g c = λ is.
    let W : Result Unit Unmade → Type 0 = λ made. IfErr made (λ e. e ≡ ReadFault → ⊥) in
    let why : ReadFault ≡ ReadFault → ⊥ = subst W (c.tell.ensures.read_fault is) c.new_on-made.ensures.why in
    why refl

pub returns-clause-only : goal.returns-clause-only
returns-clause-only g c = λ why is.
    let m = c.new_on-made in
    m.ensures.only why (told_refusal g.K.Sink (codes "create") c.args.name.now m.ensures.made.state m.result.0 c.args.sink.now c.tell.new.sink c.tell.result why (c.tell.ensures.tells m.ensures.made.state) is)
