-- What is found among rows after one was put.
use Rattle.std.proofs.Common.{◌≡◌, refl, sym, ap, ◌∙◌, subst, List, [], ◌∷◌, Bool, true, false, cond, not, Option, Some, None, filter}
use Rattle.std.specs.Ordering.{match_ordering}
use Rattle.std.specs.declared.cmp.Ordering.{Ordering}
use Rattle.std.specs.declared.cmp.Ordering.TheVariants.{Less, Equal, Greater}
use Rattle.adr_values.specs.declared.stamp.Oid.{Oid}
use Rattle.adr_model.proofs.Keys.{equal_order, exact_keys}
use Rattle.adr_model.specs.Update.{Key, key_order, same_key}
use Rattle.adr_model.specs.Store.{Held, row_held, with_row}
use Rattle.adr_model.specs.Change.{goes_with, killed_by, stripped, put}
use Rattle.adr_table.proofs.Linked.{held_filtered}

pub held_with_row : (rows : List Held) (h : Held) (k : Key) → row_held (with_row rows h) k ≡ cond (same_key h.update.key k) (Some h) (row_held rows k)
held_with_row [] h k = refl
held_with_row (x ∷ xs) h k = by (key_order h.update.key x.update.key) refl (held_with_row xs h k)
  where
    same : (b c : Bool) → b ≡ c → cond b (Some h) (row_held xs k) ≡ cond b (Some h) (cond c (Some x) (row_held xs k))
    same true c e = refl
    same false false e = refl
    same false true e = cc

    behind : (b c : Bool) → same_key x.update.key k ≡ b → same_key h.update.key k ≡ c → key_order h.update.key x.update.key ≡ Greater
        → cond b (Some x) (cond c (Some h) (row_held xs k)) ≡ cond c (Some h) (cond b (Some x) (row_held xs k))
    behind true true e f is =
        let there : x.update.key ≡ k = exact_keys x.update.key k (equal_order (key_order x.update.key k) e) in
        let no : Equal ≡ Greater = sym (subst (λ j. key_order h.update.key j ≡ Equal) (sym there) (equal_order (key_order h.update.key k) f)) ∙ is in cc
    behind true false e f is = refl
    behind false true e f is = refl
    behind false false e f is = refl

    by : (o : Ordering) → key_order h.update.key x.update.key ≡ o → row_held (with_row xs h) k ≡ cond (same_key h.update.key k) (Some h) (row_held xs k)
        → row_held (match_ordering o (h ∷ x ∷ xs) (h ∷ xs) (x ∷ with_row xs h)) k ≡ cond (same_key h.update.key k) (Some h) (cond (same_key x.update.key k) (Some x) (row_held xs k))
    by Less is later = refl
    by Equal is later = same (same_key h.update.key k) (same_key x.update.key k) (ap (λ j. same_key j k) (exact_keys h.update.key x.update.key is))
    by Greater is later = ap (λ o. cond (same_key x.update.key k) (Some x) o) later ∙ behind (same_key x.update.key k) (same_key h.update.key k) refl refl is

pub held_without : (gone : Key → Bool) (rows : List Held) (k : Key) → row_held (filter (λ h. not (gone h.update.key)) rows) k ≡ cond (gone k) None (row_held rows k)
held_without gone rows k = held_filtered (λ l. not (gone l)) rows k ∙ by (gone k)
  where
    by : (b : Bool) → cond (not b) (row_held rows k) None ≡ cond b None (row_held rows k)
    by true = refl
    by false = refl

-- what a death leaves at a key
abbrev pub left_at : Option Oid → Key → Option Held → Option Held
left_at None k o = o
left_at (Some dead) k o = cond (goes_with dead k) None o

-- put, by look-ups
pub held_put : (rows : List Held) (h : Held) (k : Key) → row_held (put rows h) k ≡ left_at (killed_by h.update.key) k (cond (same_key h.update.key k) (Some h) (row_held rows k))
held_put rows h k = by (killed_by h.update.key)
  where
    by : (o : Option Oid) → row_held (stripped o (with_row rows h)) k ≡ left_at o k (cond (same_key h.update.key k) (Some h) (row_held rows k))
    by None = held_with_row rows h k
    by (Some dead) = held_without (goes_with dead) (with_row rows h) k ∙ ap (λ o. cond (goes_with dead k) None o) (held_with_row rows h k)
