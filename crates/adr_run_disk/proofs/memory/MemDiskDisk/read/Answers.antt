use Rattle.std.proofs.Common.{◌≡◌, ◌-◌, length, drop, ap, ◌∙◌, arith, length-take, length-drop}
use Rattle.adr_disk.specs.Memory.{DiskState, Held, read_of}
use Rattle.adr_run_disk.proofs.memory.MemDiskDisk.read.Goals as goal

pub returns-clause-filled : goal.returns-clause-filled
returns-clause-filled c =
    let bytes = c.bytes-bytes.result.now in
    let from = c.min.result in
    let all : bytes ≡ read_of c.args.self.now.held.surface =
    c.bytes-bytes.ensures ∙ ap (λ (d : DiskState). read_of d.held.surface) c.self.view_is ∙ ap (λ (h : Held). read_of h.surface) c.look.ensures.held in
    omega (arith, c.min-count.ensures, c.min.ensures, ap length all, length-take (length bytes - from) (drop from bytes), length-drop from bytes)
