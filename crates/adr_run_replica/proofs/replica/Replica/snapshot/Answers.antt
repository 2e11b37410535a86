use Rattle.adr_run_replica.proofs.PutBack.{aside_dsa, aside_so, aside_whole}
use Rattle.adr_run_replica.proofs.replica.Replica.snapshot.Goals as goal

pub invariant_of-result : goal.invariant_of-result
invariant_of-result c = (
  aside_whole _ _ _ _ _ c.self.inside.name c.self.inside.dsa c.self.inside.controller c.self.inside.kept c.self.invariant c.in_ok-bytes.field-0.items c.in_ok-bytes.ensures,
  aside_dsa _ _ _ _ _ c.self.inside.name c.self.inside.dsa c.self.inside.controller c.self.inside.kept c.self.invariant c.in_ok-bytes.field-0.items c.in_ok-bytes.ensures,
)

pub returns : goal.returns
returns c =
    aside_so _ _ _ _ _ c.self.inside.name c.self.inside.dsa c.self.inside.controller c.self.inside.kept c.self.invariant c.in_ok-bytes.field-0.items c.in_ok-bytes.ensures
    c.args.self.now c.self.view_is
