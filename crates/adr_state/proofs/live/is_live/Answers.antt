use Rattle.std.proofs.Common.{◌≡◌, ◌&&◌, Bool, true, false, arith, ap, not, sym, ◌∙◌}
use Rattle.adr_state.proofs.live.is_live.Goals as goal

both : (dead beaten other : Bool) → dead ≡ false → beaten ≡ other → not beaten ≡ (not dead && not other)
both false beaten other is same = ap not same
both true beaten other is same = cc

pub returns-then-not-is_dead : goal.returns-then-not-is_dead
returns-then-not-is_dead c =
    let alive : c.is_dead.result ≡ false = grind arith in
    both _ _ _ (sym c.is_dead.ensures ∙ alive) c.is_beaten.ensures
