use Rattle.std.proofs.Common.{◌≡◌, ◌∙◌, ℕ, ◌+◌, ◌<◌, Bool, cond, List, [], ◌∷◌, ◌++◌, filter, length, take, get_or, sym, ap, append_assoc, Bor}
use Rattle.std.proofs.lemmas.List.{append-nil, map-append, take_all, take_more}
use Rattle.std.proofs.lemmas.List.Elements.{filter-append}
use Rattle.adr_model.specs.Store.{Held}
use Rattle.adr_update.specs.Referents.{referents}
use Rattle.adr_table.specs.Table.{rows_in}
use Rattle.adr_overlay.specs.Overlay.{is_left}
use Rattle.adr_overlay.proofs.overlay.push_left.Goals.{then-is_left+in_ok-push, else-is_left}
use Rattle.adr_overlay.proofs.overlay.push_left.Goals as goal

-- one row more, which is added where it passes
one_more : (p : Held → Bool) (rows added old : List Held) (bs : List (Bor Held)) (i : ℕ) (d : Bor Held) → i < length bs → d ≡ get_or bs i d
    → rows ≡ old ++ filter p (referents (take i bs)) → added ≡ rows ++ filter p (d.now ∷ []) → added ≡ old ++ filter p (referents (take (i + 1) bs))
one_more p rows added old bs i d h is so more =
    let next : referents (take (i + 1) bs) ≡ referents (take i bs) ++ d.now ∷ [] =
    ap referents (take_more bs i d h ∙ ap (λ (x : Bor Held). take i bs ++ x ∷ []) (sym is)) ∙ map-append (λ (x : Bor Held). x.now) (take i bs) (d ∷ []) in
    more ∙ ap (λ (rs : List Held). rs ++ filter p (d.now ∷ [])) so ∙ append_assoc old (filter p (referents (take i bs))) (filter p (d.now ∷ []))
    ∙ ap (λ (rs : List Held). old ++ rs) (sym (ap (filter p) next ∙ filter-append p (referents (take i bs)) (d.now ∷ [])))

pub loop-row-preserved : goal.loop-row-preserved
loop-row-preserved c =
    let over = rows_in c.args.over.now in
    let rows = c.loop-row.rows.items in
    let row = c.row-item.result in
    let left = ap (is_left over) (sym c.key.ensures) ∙ sym c.is_left.ensures in
    one_more (λ h. is_left over h.update.key) (referents rows) (referents c.if-is_left.rows.items) (referents c.args.rows.now.items) c.args.below.now c.loop-row.row-index row c.loop-row-test.true c.row-item.is c.loop-row.invariant
    (elim c.if-is_left.branch [
      | then-is_left+in_ok-push w ↦
          ap (λ v. referents v.items) w.rows-is ∙ ap referents w.in_ok-push.ensures.items ∙ map-append (λ (x : Bor Held). x.now) rows (row ∷ [])
          ∙ ap (λ (b : Bool). referents rows ++ cond b (row.now ∷ []) []) (sym (left ∙ w.if-is_left.true))
      | else-is_left w ↦
          ap (λ v. referents v.items) w.rows-is ∙ sym (append-nil (referents rows))
          ∙ ap (λ (b : Bool). referents rows ++ cond b (row.now ∷ []) []) (sym (left ∙ w.if-is_left.false))
    ])

pub loop-row-init : goal.loop-row-init
loop-row-init c = sym (append-nil (referents c.args.rows.now.items))

pub is_left-requires : goal.is_left-requires
is_left-requires c = c.requires

pub returns : goal.returns
returns c =
    c.loop-row.invariant
    ∙ ap (λ (rows : List (Bor Held)). referents c.args.rows.now.items ++ filter (λ h. is_left (rows_in c.args.over.now) h.update.key) (referents rows)) (take_all c.loop-row.row-index c.args.below.now c.loop-row-test.false)
