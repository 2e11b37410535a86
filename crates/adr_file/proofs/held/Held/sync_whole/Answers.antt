use Rattle.std.proofs.lemmas.Result.{on_ok_weaker}
use Rattle.adr_file.proofs.Known.{by_open, given, known_kept, known_synced, named_kept}
use Rattle.adr_file.proofs.Behind.{only_free, only_kept, turns_kept}
use Rattle.adr_file.proofs.held.Held.sync_whole.Goals as goal

pub returns-clause-durable : goal.returns-clause-durable
returns-clause-durable g c =
    let synced = c.sync.new.folder in
    let k = c.check.ensures.keeps in
    on_ok_weaker c.check.result
    (λ free. by_open c.args.self.now.is_open _ (λ is. only_kept g.F.Folder synced c.check.new.folder k (c.in_ok-sync.ensures.durable is))
    (λ is. only_free g.F.Folder c.check.new.folder (free is) (named_kept g.F.Folder synced c.check.new.folder k.content_stays k.no_more c.in_ok-sync.ensures.named)))
    c.check.ensures.free

pub returns-clause-known : goal.returns-clause-known
returns-clause-known g c = given c.check.result _
    (known_kept g.F.Folder c.sync.new.folder c.check.new.folder _ _ _ c.check.ensures.keeps c.check.ensures.stays
    (known_synced g.F.Folder c.args.self.now.folder c.sync.new.folder _ _ _ c.in_ok-sync.ensures.same c.in_ok-sync.ensures.stays c.in_ok-sync.ensures.named c.requires))

pub returns-clause-turns : goal.returns-clause-turns
returns-clause-turns g c = turns_kept g.F.Folder c.args.self.now.folder c.sync.new.folder c.check.new.folder _ c.sync.ensures.turns c.check.ensures.keeps
