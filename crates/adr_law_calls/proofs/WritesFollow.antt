-- Writes one after the other: one more follows, under a new local USN.
use Rattle.std.proofs.Common.{◌≡◌, ℕ, ◌≤◌, ◌<◌, List, [], ◌∷◌, ◌++◌, ap, ◌∙◌, subst, fold, arith}
use Rattle.std.proofs.lemmas.Grind.{fold-append}
use Rattle.adr_values.specs.Table.{Table}
use Rattle.adr_values.specs.Vector.{Cursors}
use Rattle.adr_model.specs.Store.{Held}
use Rattle.adr_model.specs.Change.{Written, held_of, put, rows_after}
use Rattle.adr_law_calls.proofs.ItemStep.{held_of_both}
use Rattle.adr_model.specs.Spelled.{AreLocalsRising}
use Rattle.adr_law_calls.specs.Follow.{MayFollow, AreWithinLimits, MayFollowInTurn, after_write}

-- the rows behind a write and the others are those of the others behind it
pub in_turn : (rows : List Held) (w : Written) (ws : List Written)
    → rows_after [] (held_of (w ∷ ws)) rows ≡ rows_after [] (held_of ws) (after_write rows w)
in_turn rows w ws =
    ap (λ hs. fold put rows hs) (held_of_both (w ∷ []) ws) ∙ fold-append put rows (held_of (w ∷ [])) (held_of ws)

pub one_more_follows : (table : Table) (vector : Cursors) (rows : List Held) (ws : List Written) (w : Written)
    → MayFollowInTurn table vector rows ws
    → MayFollow table vector (rows_after [] (held_of ws) rows) w.item
    → AreWithinLimits (after_write (rows_after [] (held_of ws) rows) w)
    → MayFollowInTurn table vector rows (ws ++ (w ∷ []))
one_more_follows table vector rows [] w all may few = (may, few, tt)
one_more_follows table vector rows (v ∷ vs) w all may few = (
  all.0,
  all.1,
  one_more_follows table vector (after_write rows v) vs w all.2
      (subst (λ hs. MayFollow table vector hs w.item) (in_turn rows v vs) may)
      (subst (λ hs. AreWithinLimits (after_write hs w)) (in_turn rows v vs) few),
)

pub one_more_local : (above last : ℕ) (ws : List Written) (w : Written) → above ≤ last → last < w.local
    → AreLocalsRising above last ws → AreLocalsRising above w.local (ws ++ (w ∷ []))
one_more_local above last [] w le less all = (omega (arith, le, less), omega arith, tt)
one_more_local above last (v ∷ vs) w le less all = (all.0, omega (arith, all.1, less), one_more_local v.local last vs w all.1 less all.2)
