-- How many links stand: no more than before where each is one that was there.
use Rattle.std.proofs.Common.{◌≡◌, ◌⊎◌, inl, inr, ⊎_elim, ◌≤◌, ◌+◌, List, [], ◌∷◌, Bool, true, false, cond, refl, sym, ap, ◌∙◌, subst, map, filter, length, arith}
use Rattle.adr_values.specs.declared.stamp.LinkKey.{LinkKey}
use Rattle.adr_model.specs.Member.{Member, Each}
use Rattle.adr_model.specs.Update.{Key, RowOf, LinkOf, Update, key_order}
use Rattle.adr_model.specs.Store.{Held, updates_of}
use Rattle.adr_model.specs.Write.{is_link_row, links_in}
use Rattle.adr_model.specs.Formed.{AreRising}
use Rattle.adr_model.proofs.Keys.{exact_keys, keys_total}
use Rattle.adr_model.proofs.Members.{member_mapped, mapped_member, of_filter, in_filter}
use Rattle.adr_law_knowledge.proofs.Lists.{filter_rises}
use Rattle.adr_law_knowledge.proofs.Counting.{rises_from, no_longer}
use Rattle.adr_law_calls.proofs.Rows.{held_as}

abbrev keys : List Held → List Key
keys rows = map (λ (h : Held). h.update.key) rows

abbrev link_keys : List Held → List Key
link_keys rows = filter is_link_row (keys rows)

same_count : (rows : List Held) → links_in rows ≡ length (link_keys rows)
same_count [] = refl
same_count (x ∷ xs) = by (is_link_row x.update.key) (same_count xs)
  where
    by : (b : Bool) → links_in xs ≡ length (link_keys xs)
        → length (cond b (x ∷ filter (λ (h : Held). is_link_row h.update.key) xs) (filter (λ (h : Held). is_link_row h.update.key) xs)) ≡ length (cond b (x.update.key ∷ link_keys xs) (link_keys xs))
    by true rest = omega (arith, rest)
    by false rest = rest

link_keys_within : (rows : List Held) (ks : List Key) → AreRising rows → Each (λ r. (l : LinkKey) → r.update.key ≡ LinkOf l → Member (LinkOf l) ks) rows → length (link_keys rows) ≤ length ks
link_keys_within rows ks rising each = no_longer key_order keys_total exact_keys (link_keys rows) ks
    (filter_rises key_order is_link_row (keys rows) (rises_from key_order (keys rows) rising))
    (λ k m. let t = of_filter is_link_row (keys rows) k m in let x = mapped_member (λ (h : Held). h.update.key) rows k t.0 in subst (λ j. Member j ks) (sym x.2) (by x.0 x.1 x.0.update.key refl (subst (λ j. is_link_row j ≡ true) x.2 t.1)))
  where
    by : (x : Held) → Member x rows → (k : Key) → x.update.key ≡ k → is_link_row k ≡ true → Member x.update.key ks
    by x m (LinkOf l) is link = subst (λ j. Member j ks) (sym is) (each x m l is)
    by x m (RowOf o attr) is link = cc

in_link_keys : (rows : List Held) (l : LinkKey) → ((u : Update) × Member u (updates_of rows) × (u.key ≡ LinkOf l)) → Member (LinkOf l) (link_keys rows)
in_link_keys rows l (r, m, is) = let x = held_as rows r m in
    let key : x.0.update.key ≡ LinkOf l = ap (λ (u : Update). u.key) (sym x.2) ∙ is in
    in_filter is_link_row (keys rows) (LinkOf l) (subst (λ k. Member k (keys rows)) key (member_mapped (λ (h : Held). h.update.key) rows x.0 x.1)) refl

-- there are no more links where each is one that was there
pub links_within : (before after : List Held) → AreRising after → Each (λ r. (l : LinkKey) → r.update.key ≡ LinkOf l → (u : Update) × Member u (updates_of before) × (u.key ≡ LinkOf l)) after → links_in after ≤ links_in before
links_within before after rising each = omega (arith, same_count after, same_count before, link_keys_within after (link_keys before) rising (λ x m l is. in_link_keys before l (each x m l is)))

-- and one more at most where each is one that was there, or this one
pub one_link_more : (before after : List Held) (k : LinkKey) → AreRising after → Each (λ r. (l : LinkKey) → r.update.key ≡ LinkOf l → (l ≡ k) ⊎ ((u : Update) × Member u (updates_of before) × (u.key ≡ LinkOf l))) after → links_in after ≤ links_in before + 1
one_link_more before after k rising each = omega (
  arith,
  same_count after,
  same_count before,
  link_keys_within after (LinkOf k ∷ link_keys before) rising (λ x m l is. ⊎_elim (λ e. inl (ap LinkOf e)) (λ h. inr (in_link_keys before l h)) (each x m l is)),
)
