use Rattle.adr_run_replica.proofs.Adopted.{adopts_so, made_up}
use Rattle.adr_run_replica.proofs.replica.Replica.adopted.Goals as goal

pub on_new_disk-requires : goal.on_new_disk-requires
on_new_disk-requires c = record { logged = c.in-Ok.ensures.logged.0; normal = c.in-Ok.ensures.logged.1 }

pub returns-in-Ok-on_new_disk-clause-made : goal.returns-in-Ok-on_new_disk-clause-made
returns-in-Ok-on_new_disk-clause-made c =
    adopts_so c.args.name c.args.image.now c.args.dsa c.args.inv c.in-Ok.state c.in-Ok.ensures.ok
    c.in-Ok-on_new_disk.made c.in-Ok-on_new_disk.ensures.fits c.in-Ok-on_new_disk.ensures.made

pub returns-in-Ok-on_new_disk-clause-up : goal.returns-in-Ok-on_new_disk-clause-up
returns-in-Ok-on_new_disk-clause-up c =
    made_up c.args.name c.args.image.now c.args.dsa c.args.inv c.in-Ok.state c.in-Ok.ensures.ok
    c.in-Ok-on_new_disk.made c.in-Ok-on_new_disk.ensures.made
