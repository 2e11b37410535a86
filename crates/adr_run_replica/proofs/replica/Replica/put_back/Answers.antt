use Rattle.std.proofs.Common.{◌∙◌, ap}
use Rattle.adr_model.specs.Replica.{on_disk}
use Rattle.adr_model.specs.World.{Snapshot}
use Rattle.adr_run_replica.specs.Put.{found_on}
use Rattle.adr_run_replica.proofs.PutBack.{put_held, put_seen}
use Rattle.adr_run_replica.proofs.replica.Replica.put_back.Goals as goal

pub invariant_of-result : goal.invariant_of-result
invariant_of-result c =
    let same = ap found_on (c.in_ok-to_vec.ensures.items_if_clones_equal (λ x y is. is) ∙ c.deref.ensures.value) in
    put_held _ _ _ _ _ _ c.args.name c.snapshot.inside.dsa c.in-Ok.controller c.none.result c.goes_as_planned.ensures.planned c.snapshot.inside.bytes.items c.snapshot.invariant.0 c.with_bytes-journal.result
    (c.with_bytes-journal.ensures.read ∙ same) (c.with_bytes-journal.ensures.safe ∙ same) (c.with_bytes-journal.ensures.torn ∙ same) c.with_bytes-journal.ensures.plan c.with_bytes-journal.ensures.running
    c.in-Ok.ensures.ok c.in-Ok.ensures.starts c.snapshot.invariant.1 c.none.ensures

pub returns : goal.returns
returns c =
    let same = ap found_on (c.in_ok-to_vec.ensures.items_if_clones_equal (λ x y is. is) ∙ c.deref.ensures.value) in
    put_seen _ _ _ _ _ _ c.args.name c.snapshot.inside.dsa c.in-Ok.controller c.none.result c.goes_as_planned.ensures.planned c.snapshot.inside.bytes.items c.snapshot.invariant.0 c.with_bytes-journal.result
    (c.with_bytes-journal.ensures.read ∙ same) (c.with_bytes-journal.ensures.safe ∙ same) (c.with_bytes-journal.ensures.torn ∙ same) c.with_bytes-journal.ensures.plan c.with_bytes-journal.ensures.running
    c.in-Ok.ensures.ok c.in-Ok.ensures.starts c.snapshot.invariant.1 c.none.ensures
    ∙ ap (λ (s : Snapshot). on_disk c.args.name s.state s.log) c.snapshot.view_is
