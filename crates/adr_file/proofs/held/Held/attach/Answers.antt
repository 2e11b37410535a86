use Rattle.std.proofs.Common.{IsSome, refl, sym, ap, subst}
use Rattle.adr_file.specs.Device.{bytes_of}
use Rattle.adr_file.proofs.Known.{keeps_then, known_closed, named_kept}
use Rattle.adr_file.proofs.held.Held.attach.Goals as goal

pub returns-in-Ok-Some-clause-known : goal.returns-in-Ok-Some-clause-known
returns-in-Ok-Some-clause-known g c =
    let some : IsSome c.in-Ok-Some.field-0 = subst IsSome (sym c.in-Ok-Some.field-0-is) refl in
    record {
      own = λ is. c.in-Ok-Some.ensures.own some;
      sure = λ is. c.in-Ok-Some.ensures.sure some;
      none = λ attached closed. absurd (cc closed);
      named = λ safe. named_kept g.F.Folder c.let_go.new.self.folder c.open_file.new.folder c.open_file.ensures.keeps.content_stays c.open_file.ensures.keeps.no_more (c.let_go.ensures.known.named safe);
    }

pub returns-in-Ok-None-clause-known : goal.returns-in-Ok-None-clause-known
returns-in-Ok-None-clause-known g c =
    known_closed g.F.Folder c.let_go.new.self.folder c.open_file.new.folder _ _ _ c.let_go.ensures.closed c.open_file.ensures.keeps c.let_go.ensures.known.named
    (λ attached there is. ap bytes_of (c.in-Ok-None.ensures.none c.in-Ok-None.field-0-is there is))

pub returns-in-Err-clause-known : goal.returns-in-Err-clause-known
returns-in-Err-clause-known g c =
    known_closed g.F.Folder c.let_go.new.self.folder c.close.new.self _ _ _ c.let_go.ensures.closed
    (keeps_then g.F.Folder c.let_go.new.self.folder c.open_file.new.folder c.close.new.self c.open_file.ensures.keeps c.close.ensures.keeps) c.let_go.ensures.known.named
    (λ attached. absurd (cc (attached, c.let_go.ensures.detached)))
