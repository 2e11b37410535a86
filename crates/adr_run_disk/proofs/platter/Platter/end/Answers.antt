use Rattle.std.proofs.Common.{length, refl, ◌∙◌, ap, arith}
use Rattle.adr_disk.specs.Memory.{Held, left_by}
use Rattle.adr_run_disk.specs.Platter.{surface_of}
use Rattle.adr_run_disk.proofs.Steps.{length-left_by, surface-shown}
use Rattle.adr_run_disk.proofs.platter.Platter.end.Goals as goal

pub returns-clause-room : goal.returns-clause-room
returns-clause-room c =
    let a = c.self.inside in
    let left = c.settle.ensures.items ∙ ap (left_by c.args.how) (surface-shown a.bytes.items a.bytes.items _ a.log.items _ a.covered.items _ a.entries.items refl c.deref-6.ensures.value c.deref-7.ensures.value c.deref-5.ensures.value) in
    let shorter = length-left_by c.args.how (surface_of a) in
    let before = ap length c.self.invariant.bytes in (
      omega (arith, ap (λ (h : Held). h.room_calls) c.self.view_is),
      omega (arith, shorter, ap length left, before, ap (λ (h : Held). h.room_bytes) c.self.view_is),
    )
