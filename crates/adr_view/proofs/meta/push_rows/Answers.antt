use Rattle.std.proofs.Common.{◌≡◌, ◌<◌, ◌+◌, ℕ, suc, List, ◌∷◌, ◌++◌, Bor, get_or, drop, flat_map, length, sym, ap, ◌∙◌, append_assoc, arith}
use Rattle.adr_model.specs.Meta.{told}
use Rattle.adr_update.specs.Referents.{referents}
use Rattle.adr_update.proofs.Referred.{from_here}
use Rattle.adr_view.proofs.meta.push_rows.Goals as goal

next_told : {A B : Type 0} (f : A → List B) (xs : List (Bor A)) (i j : ℕ) (x : Bor A) → i < length xs → x ≡ get_or xs i x → j ≡ suc i → (ys zs whole : List B) → zs ≡ ys ++ f x.now
    → ys ++ flat_map f (referents (drop i xs)) ≡ whole → zs ++ flat_map f (referents (drop j xs)) ≡ whole
next_told f xs i j x within is next ys zs whole grown so_far =
    ap (λ ws. ws ++ flat_map f (referents (drop j xs))) grown
    ∙ (append_assoc ys (f x.now) (flat_map f (referents (drop j xs)))
    ∙ (ap (λ ws. ys ++ flat_map f (referents ws)) (sym (from_here xs i j x within is next)) ∙ so_far))

pub loop-row-preserved : goal.loop-row-preserved
loop-row-preserved c =
    next_told (told c.args.rows.now) c.args.held.now c.loop-row.row-index (c.loop-row.row-index + 1) c.row-item.result c.loop-row-test.true c.row-item.is (omega arith)
    c.loop-row.lines.items c.push_row.new.lines.items _ c.in_ok-push_row.ensures c.loop-row.invariant
