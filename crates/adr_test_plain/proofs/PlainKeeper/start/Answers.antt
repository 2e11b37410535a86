use Rattle.std.proofs.Common.{ℕ, List, refl, ◌∙◌, ap, subst, arith, length}
use Rattle.adr_law_journal.specs.Kept.{Rests}
use Rattle.adr_law_journal.proofs.Reading.{area_long}
use Rattle.adr_law_journal.proofs.Settled.{stands}
use Rattle.adr_law_journal.proofs.Told.{some_is}
use Rattle.adr_journal.specs.Kept.{ids_of, layout_of}
use Rattle.adr_test_plain.proofs.PlainKeeper.start.Goals as goal

pub returns-in-Ok-clause-ok : goal.returns-in-Ok-clause-ok
returns-in-Ok-clause-ok g c =
    let f = g.F.Form in
    let s = c.in-Ok.state in
    let log = c.in-Ok.log in
    let bytes = c.args.self.now.bytes.items in
    let is = c.in-Ok.ensures.rests in
    let within = c.in-Ok.ensures.within in
    let l = layout_of f.head f.area f.following is.front (ids_of s) is.is_head in
    let rests : Rests l s log bytes = subst (λ (y : List ℕ). Rests l s log y) c.deref.ensures.value is.rests in
    let far = area_long (f.area (ids_of s)) f.following s log.place log.version log.first log.log_end bytes rests.ready.stands in (
      log,
      record {
        is_log = refl;
        version = c.in-Ok.ensures.version;
        front = is.front;
        is_head = is.is_head;
        settled = record {
          at_rest = λ there told. subst (λ (y : List ℕ). Rests l s log y) (some_is bytes there told) rests;
          synced = λ there told left same. same ∙ some_is bytes there told;
        };
        place = rests.ready.low;
        first = omega (arith, within.0, within.1, ap length c.deref.ensures.value, c.args.self.now.bytes.ok, c.args.self.now.bytes.small);
        begun = far.0;
        ends = omega (arith, within.1, ap length c.deref.ensures.value, c.args.self.now.bytes.ok, c.args.self.now.bytes.small);
      },
      stands l s log bytes rests,
    )
