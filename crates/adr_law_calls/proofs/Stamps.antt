-- A row that is written is above the one of its key that is held.
use Rattle.std.proofs.Common.{◌≡◌, inl, inr, ℕ, ◌<◌, ◌+◌, List, [], ◌∷◌, Option, Some, sym, ap, ◌∙◌, subst, arith}
use Rattle.std.specs.Option.{option_map_or}
use Rattle.adr_values.specs.declared.stamp.Oid.{Oid}
use Rattle.adr_values.specs.declared.stamp.Unit.TheVariants.{Object}
use Rattle.adr_model.specs.Member.{Member, Each}
use Rattle.adr_model.specs.Update.{Key, Said, Update, unit_of, same_key}
use Rattle.adr_model.specs.Reflects.{Numbers, Supersedes, HoldsObject}
use Rattle.adr_model.specs.Store.{Held, State, updates_of, row_held}
use Rattle.adr_model.specs.Take.{is_reserved_row}
use Rattle.adr_model.specs.Formed.{AreRising}
use Rattle.adr_model.specs.Write.{next_stamp, version_of, first_created}
use Rattle.adr_model.proofs.Members.{found}
use Rattle.adr_law_knowledge.proofs.Comparing.{keys_tell, same_where_equal, older_by_version, older_one_way}
use Rattle.adr_law_calls.specs.Puts.{MayPut}
use Rattle.adr_law_calls.proofs.Rows.{held_as}
use Rattle.adr_law_calls.proofs.Rising.{one_of_key}

pub row_held_is : (rows : List Held) → AreRising rows → (key : Key) (x : Held) → Member x rows → x.update.key ≡ key → row_held rows key ≡ Some x
row_held_is rows rising key x m e = found (λ (h : Held). same_key h.update.key key) rows x m (same_where_equal x.update.key key e)
    (λ y n p. one_of_key rows rising y n x m (keys_tell y.update.key key p ∙ sym e))

abbrev pub written : State → ℕ → Key → Said → Update
written s now key said = record { key = key; stamp = next_stamp s key now; said = said }

pub next_is_above : (s : State) → AreRising s.store.rows → (now : ℕ) (key : Key) (said : Said) → Each (λ r. r.key ≡ key → Supersedes (written s now key said) r) (updates_of s.store.rows)
next_is_above s rising now key said r m e = record { key = sym e; stamp = older_one_way r (written s now key said) (older_by_version r (written s now key said) created version) }
  where
    x : (h : Held) × Member h s.store.rows × (r ≡ h.update)
    x = held_as s.store.rows r m

    held : row_held s.store.rows key ≡ Some x.0
    held = row_held_is s.store.rows rising key x.0 x.1 (ap (λ (u : Update). u.key) (sym x.2) ∙ e)

    created : r.stamp.created ≡ option_map_or (λ (h : Held). h.update.stamp.created) (row_held s.store.rows key) (first_created key now)
    created = ap (λ (u : Update). u.stamp.created) x.2 ∙ sym (ap (λ (o : Option Held). option_map_or (λ (h : Held). h.update.stamp.created) o (first_created key now)) held)

    version : r.stamp.stamp.version < version_of (row_held s.store.rows key) + 1
    version = omega (arith, ap (λ (u : Update). u.stamp.stamp.version) x.2, ap version_of held)

-- one row may be put where its object is held
pub one_may_be_put : (s : State) → AreRising s.store.rows → (now : ℕ) (key : Key) (said : Said) (V : Numbers)
    → ((o : Oid) → unit_of key ≡ Object o → HoldsObject (updates_of s.store.rows) o) → MayPut (updates_of s.store.rows) V (unit_of key) (written s now key said ∷ [])
one_may_be_put s rising now key said V held = record {
  of_unit = λ u m. ap (λ (v : Update). unit_of v.key) (only u m);
  alone = λ u m v n e. only u m ∙ sym (only v n);
  above = λ u m. subst (λ (w : Update). Each (λ r. r.key ≡ w.key → Supersedes w r) (updates_of s.store.rows)) (sym (only u m)) (next_is_above s rising now key said);
  bare = λ d m dies u n. ap (λ (v : Update). is_reserved_row v.key) (only u n ∙ sym (only d m)) ∙ ap is_reserved_row dies.1;
  place = λ o e. inl (held o e);
}
  where
    only : (u : Update) → Member u (written s now key said ∷ []) → u ≡ written s now key said
    only u (inl e) = e
    only u (inr n) = absurd n
