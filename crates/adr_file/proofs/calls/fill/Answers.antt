use Rattle.std.proofs.Common.{arith, ◌∙◌}
use Rattle.adr_file.proofs.Known.{own_kept, keeps_then, stays_then}
use Rattle.adr_file.proofs.Filled.{front_more, bound_more}
use Rattle.adr_file.proofs.calls.fill.Goals as goal

pub read-requires : goal.read-requires
read-requires g c = own_kept g.F.Folder c.args.folder.now c.parts.folder c.parts.invariant.keeps.content_stays c.parts.invariant.stays c.requires.own

pub parts-preserved : goal.parts-preserved
parts-preserved g c = record {
  bound = bound_more c.parts.into c.read.new.into _ c.parts.filled c.in_ok-n.n c.parts.invariant.bound c.in_ok-n.ensures.within;
  read = λ there is.
      front_more _ c.args.at c.in-Some.place c.parts.into c.read.new.into _ c.parts.filled c.in_ok-n.n (c.parts.invariant.read there is) c.parts.invariant.bound c.in_ok-n.ensures.within
      (omega (arith, c.in-Some.ensures)) (c.in_ok-n.ensures.read (c.parts.invariant.stays.sure_stays c.requires.sure) there (c.parts.invariant.keeps.content_stays ∙ is));
  keeps = keeps_then g.F.Folder c.args.folder.now c.parts.folder c.read.new.self c.parts.invariant.keeps c.read.ensures.keeps;
  stays = stays_then g.F.Folder c.args.folder.now c.parts.folder c.read.new.self c.parts.invariant.stays c.read.ensures.stays;
}
