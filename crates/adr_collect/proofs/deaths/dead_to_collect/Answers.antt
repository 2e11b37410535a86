use Rattle.std.proofs.Common.{◌≡◌, ◌≤◌, ◌∙◌, [], ◌∷◌, ◌++◌, map, fold, sym, ap, subst, append-nil, arith}
use Rattle.std.specs.List.{cons_option}
use Rattle.std.proofs.lemmas.Grind.{common_steps}
use Rattle.adr_values.specs.declared.stamp.Oid.{Oid}
use Rattle.adr_values.specs.Vector.{Cursors, at, raised}
use Rattle.adr_model.specs.Update.{Update, inv_of, usn_of}
use Rattle.adr_model.specs.Collect.{collected_by}
use Rattle.adr_update.specs.Referents.{referents}
use Rattle.adr_collect.specs.Covering.{covering_with}
use Rattle.adr_collect.proofs.Gathering.{covering_more, deaths_among, objects_more}
use Rattle.adr_collect.proofs.deaths.dead_to_collect.Goals as goal

pub loop-row-preserved : goal.loop-row-preserved
loop-row-preserved c =
    let seen = c.args.state.now.store.vector in
    let death = c.in-Some.row.now.update in
    let before = c.loop-row.dead in
    let among = deaths_among seen c.args.now c.args.lifetime in
    let left = among (referents c.next.new.self.rest.items) in
    let more : c.loop-row.row-iterator.rest.items ≡ c.in-Some.row ∷ c.next.new.self.rest.items = grind (arith, common_steps) in
    let whole = sym (ap (λ rows. among (referents rows)) more) in
    let object = collected_by seen c.args.now c.args.lifetime death in
    let added = ap (λ v. collected_by v c.args.now c.args.lifetime c.update.result.now) c.vector.ensures ∙ ap (collected_by seen c.args.now c.args.lifetime) c.update.ensures in
    record {
      objects =
          ap (λ os. os ++ map (λ (d : Oid × Update). d.0) left) (c.in_ok-add.ensures.objects ∙ ap (λ o. before.objects.items ++ cons_option o []) added)
          ∙ objects_more death object before.objects.items left
          ∙ ap (λ ds. before.objects.items ++ map (λ (d : Oid × Update). d.0) ds) whole
          ∙ c.loop-row.invariant.objects;
      within = λ i. subst (λ v. at c.add.new.self.covering i ≤ at v i) c.vector.ensures (c.in_ok-add.ensures.within i);
      covers =
          ap (λ v. fold (λ (v : Cursors) (d : Oid × Update). raised (raised v d.0.birth.inv d.0.birth.usn) (inv_of d.1) (usn_of d.1)) v left)
          (c.in_ok-add.ensures.covering
          ∙ ap (λ u. covering_with before.covering u (collected_by c.vector.result.now c.args.now c.args.lifetime c.update.result.now)) c.update.ensures
          ∙ ap (covering_with before.covering death) added)
          ∙ covering_more death object before.covering left
          ∙ ap (fold (λ (v : Cursors) (d : Oid × Update). raised (raised v d.0.birth.inv d.0.birth.usn) (inv_of d.1) (usn_of d.1)) before.covering) whole
          ∙ c.loop-row.invariant.covers;
    }

pub returns-clause-objects : goal.returns-clause-objects
returns-clause-objects c =
    let none : c.loop-row.row-iterator.rest.items ≡ [] = grind (arith, common_steps) in
    let among = deaths_among c.args.state.now.store.vector c.args.now c.args.lifetime in
    sym (append-nil c.loop-row.dead.objects.items)
    ∙ sym (ap (λ rows. c.loop-row.dead.objects.items ++ map (λ (d : Oid × Update). d.0) (among (referents rows))) none)
    ∙ c.loop-row.invariant.objects

pub returns-clause-covering : goal.returns-clause-covering
returns-clause-covering c =
    let none : c.loop-row.row-iterator.rest.items ≡ [] = grind (arith, common_steps) in
    let among = deaths_among c.args.state.now.store.vector c.args.now c.args.lifetime in
    sym (ap (λ rows. fold (λ (v : Cursors) (d : Oid × Update). raised (raised v d.0.birth.inv d.0.birth.usn) (inv_of d.1) (usn_of d.1)) c.loop-row.dead.covering (among (referents rows))) none)
    ∙ c.loop-row.invariant.covers
