use Rattle.std.proofs.lemmas.Result.{on_ok_weaker}
use Rattle.adr_file.proofs.Behind.{synced_whole}
use Rattle.adr_file.proofs.calls.sync.Goals as goal

pub returns-clause-durable : goal.returns-clause-durable
returns-clause-durable g c = on_ok_weaker c.sync_name.result
    (λ named is. synced_whole g.F.Folder c.args.folder.now c.sync_file.new.folder c.sync_name.new.folder (c.requires.own is) c.in_ok-sync_file.ensures.same c.sync_name.ensures.same c.sync_name.ensures.changes.crash
    (c.in_ok-sync_file.ensures.durable is (c.requires.sure is)) named)
    c.sync_name.ensures.named
