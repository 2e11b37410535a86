use Rattle.std.proofs.Common.{◌≡◌, ◌++◌, map, fold}
use Rattle.adr_values.specs.declared.stamp.Oid.{Oid}
use Rattle.adr_values.specs.Vector.{Cursors, at, raised}
use Rattle.adr_model.specs.Reflects.{AtMost}
use Rattle.adr_model.specs.Update.{Update, inv_of, usn_of}
use Rattle.adr_model.specs.Collect.{covering, deaths_to_collect}
use Rattle.adr_update.specs.Referents.{referents}
use Rattle.adr_collect.proofs.Gathering.{deaths_among}
use Rattle.adr_collect.proofs.deaths.dead_to_collect.Given as goal

-- what is there so far, and the deaths among the rows that are left, make the whole
abbrev pub invariant-loop-row : goal.invariant-loop-row
invariant-loop-row l =
    let left = deaths_among l.state.store.vector l.now l.lifetime (referents l.row-iterator.rest.items) in
    record {
      objects : l.dead.objects.items ++ map (λ (d : Oid × Update). d.0) left ≡ map (λ (d : Oid × Update). d.0) (deaths_to_collect l.state l.now l.lifetime);
      within : AtMost (at l.dead.covering) (at l.state.store.vector);
      covers : fold (λ (v : Cursors) (d : Oid × Update). raised (raised v d.0.birth.inv d.0.birth.usn) (inv_of d.1) (usn_of d.1)) l.dead.covering left ≡ covering (deaths_to_collect l.state l.now l.lifetime);
    }
