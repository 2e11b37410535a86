use Rattle.adr_file.proofs.calls.sync_file.Goals as goal

pub sync-requires : goal.sync-requires
sync-requires g c = c.requires.own c.if-is_open.true
