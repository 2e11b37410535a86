use Rattle.std.proofs.Common.{◌≡◌, ap, subst, ◌∙◌, arith, true}
use Rattle.adr_model.proofs.Members.{each_passes}
use Rattle.adr_shelves.specs.Shelves.{is_life}
use Rattle.adr_table.specs.Locals.{IsLocated, IsNamed}
use Rattle.adr_table.proofs.Fills.{life_parts}
use Rattle.adr_table.proofs.Objects.{named_located}
use Rattle.adr_table.proofs.Rooms.{before_each, each_before, next_before}
use Rattle.adr_table.proofs.locals.remember_all.Goals as goal

pub loop-row-preserved : goal.loop-row-preserved
loop-row-preserved c =
    let row = c.row-item.result in
    let o = c.args.object.now in
    let lives = before_each (λ h. is_life o h ≡ true) c.args.rows.now (each_passes (is_life o) c.args.rows.now c.requires) c.loop-row.row-index row c.loop-row-test.true in
    let life : is_life o row ≡ true = ap (is_life o) c.row-item.is ∙ lives in
    let named : IsNamed c.insert_behind.new.locals o row.local = subst (IsNamed c.insert_behind.new.locals o) c.local-usn.ensures c.in_ok-insert_behind.ensures.ok in (
      (λ h is. c.insert_behind.ensures.more h (c.loop-row.invariant.0 h is)),
      c.in_ok-insert_behind.ensures.ok,
      next_before (IsLocated c.loop-row.locals) (IsLocated c.insert_behind.new.locals) c.args.rows.now c.loop-row.row-index row c.loop-row-test.true c.row-item.is c.loop-row.invariant.2
          c.insert_behind.ensures.more (named_located c.insert_behind.new.locals o row (life_parts o row life).0 named),
    )

pub returns-clause-ok : goal.returns-clause-ok
returns-clause-ok c =
    each_before (IsLocated c.loop-row.locals) c.args.rows.now (λ i d lt. c.loop-row.invariant.2 i d (omega (arith, lt)))
