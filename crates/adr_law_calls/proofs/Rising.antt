-- Of rows in the order of their keys there is one of each key.
use Rattle.std.proofs.Common.{◌≡◌, List, sym, ap, ◌∙◌, map}
use Rattle.adr_model.specs.Member.{Each}
use Rattle.adr_model.specs.Update.{Update, key_order}
use Rattle.adr_model.specs.Store.{Held, updates_of}
use Rattle.adr_model.specs.Formed.{AreRising}
use Rattle.adr_model.proofs.Keys.{keys_total}
use Rattle.adr_law_knowledge.proofs.Counting.{rises_from, one_of_each}
use Rattle.adr_law_calls.proofs.Rows.{held_as}

pub one_of_key : (rows : List Held) → AreRising rows → Each (λ x. Each (λ y. x.update.key ≡ y.update.key → x ≡ y) rows) rows
one_of_key rows r = one_of_each key_order keys_total (λ (h : Held). h.update.key) rows (rises_from key_order (map (λ (h : Held). h.update.key) rows) r)

pub one_update : (rows : List Held) → AreRising rows → Each (λ u. Each (λ v. u.key ≡ v.key → u ≡ v) (updates_of rows)) (updates_of rows)
one_update rows rising u m v n e =
    let x = held_as rows u m in
    let y = held_as rows v n in
    x.2 ∙ ap (λ (h : Held). h.update) (one_of_key rows rising x.0 x.1 y.0 y.1 (ap (λ (w : Update). w.key) (sym x.2) ∙ e ∙ ap (λ (w : Update). w.key) y.2)) ∙ sym y.2
