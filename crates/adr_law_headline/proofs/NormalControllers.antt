-- No controller of a sound world is quarantined, nor any of a clean world on the way of a line.
use Rattle.std.proofs.Common.{◌≡◌, ◌⊎◌, inl, inr, ap, ◌∙◌}
use Rattle.adr_call.specs.declared.event.Event.{Event}
use Rattle.adr_model.specs.Store.{Normal, State}
use Rattle.adr_model.specs.Replica.{Pending}
use Rattle.adr_model.specs.World.{World}
use Rattle.adr_model.specs.Sound.{IsPending, IsSettled, IsSoundReplica, IsSoundWorld}
use Rattle.adr_model.specs.Convergence.{MayHappen}
use Rattle.adr_law_convergence.proofs.Calls.{call_settles}
use Rattle.adr_law_convergence.proofs.Lines.{way_sound}
use Rattle.adr_law_headline.specs.Modes.{AreNormal, LeavesAllNormal}

-- a start would find what is safe, or what the kept call leaves of it, which is none of quarantine
pub all_normal : (w : World) → IsSoundWorld w → AreNormal w
all_normal w sound r m = (safe, by is.read)
  where
    is : IsSoundReplica w.book r
    is = sound.replicas r m

    safe : r.safe.mode ≡ Normal
    safe = sound.normal r m

    by : IsSettled r ⊎ ((p : Pending) × IsPending w.book r p) → r.read.mode ≡ Normal
    by (inl settled) = ap (λ (s : State). s.mode) settled.1 ∙ safe
    by (inr (p, waits)) = ap (λ (s : State). s.mode) waits.read ∙ (call_settles w.book r.safe sound.book is.safe p waits.call waits.made).normal

pub leaves_all_normal : (w : World) (e : Event) → IsSoundWorld w → MayHappen w e → LeavesAllNormal w e
leaves_all_normal w e sound may v way clean = all_normal v (way_sound w e sound may v way clean)
