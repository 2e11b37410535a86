-- Rows of one link are put, and objects and links stay formed, and links closed.
use Rattle.std.proofs.Common.{◌≡◌, ◌⊎◌, inl, inr, ℕ, List, true, refl, sym, ap, ◌∙◌, subst}
use Rattle.adr_values.specs.declared.stamp.Oid.{Oid}
use Rattle.adr_values.specs.declared.stamp.LinkKey.{LinkKey}
use Rattle.adr_values.specs.declared.stamp.Unit.TheVariants.{Object, Link}
use Rattle.adr_values.specs.Table.{kind_at, is_forward}
use Rattle.adr_values.specs.Numbered.{numbered}
use Rattle.adr_model.specs.Member.{Member, Each}
use Rattle.adr_model.specs.Update.{Update, RowOf, LinkOf, ends}
use Rattle.adr_model.specs.Reflects.{Numbers, CoversBirth, HoldsObject, IsTombstoned}
use Rattle.adr_model.specs.Store.{Held, updates_of}
use Rattle.adr_model.specs.Formed.{AreFormedRows, IsLinkFormed}
use Rattle.adr_law_calls.specs.Puts.{MayPut, ArePut, AreClosed}
use Rattle.adr_law_calls.proofs.Rows.{same_link}
use Rattle.adr_law_calls.proofs.FormedRows.{stood}
use Rattle.adr_law_calls.proofs.FormedSame.{named_same, held_same, births_same, object_same}
use Rattle.adr_law_calls.proofs.FormedOther.{other_back, other_to, link_formed, closed_put}

module _ (schema usn : ℕ) (before after : List Held) (V : Numbers) (l : LinkKey) (us : List Update) (old : AreFormedRows (numbered schema) (updates_of before))
    (may : MayPut (updates_of before) V (Link l) us) (put : ArePut usn us before after)
    (forward : is_forward (kind_at (numbered schema) l.attr) ≡ true) (lives : Each (λ o. IsTombstoned (updates_of before) o → ⊥) (ends (LinkOf l))) where
  apart : (o : Oid) → Object o ≡ Link l → ⊥
  apart o e = cc

  to : (o : Oid) (r : Update) (attr : ℕ) → r.key ≡ RowOf o attr → Member r (updates_of before) → Member r (updates_of after)
  to o = other_to usn before after us put (Link l) may.of_unit o (apart o)

  back : (o : Oid) (r : Update) (attr : ℕ) → r.key ≡ RowOf o attr → Member r (updates_of after) → Member r (updates_of before)
  back o = other_back usn before after us put (Link l) may.of_unit o (apart o)

  linked_itself : (r : Update) → Member r (updates_of after) → r.key ≡ LinkOf l → IsLinkFormed (numbered schema) (updates_of after) l
  linked_itself r m is = link_formed usn before after us put (Link l) may.of_unit (numbered schema) r l m is forward (lives l.from (inl refl)) (lives l.to (inr (inl refl)))

  linked : (k : LinkKey) → Each (λ r. r.key ≡ LinkOf k → IsLinkFormed (numbered schema) (updates_of after) k) (updates_of after)
  linked k r m is = by (stood usn before after us put r m)
    where
      by : Member r us ⊎ Member r (updates_of before) → IsLinkFormed (numbered schema) (updates_of after) k
      by (inl n) = let same : k ≡ l = same_link r.key l k (may.of_unit r n) is in subst (IsLinkFormed (numbered schema) (updates_of after)) (sym same) (linked_itself r m (is ∙ ap LinkOf same))
      by (inr n) = let f : IsLinkFormed (numbered schema) (updates_of before) k = old.links k r n is in link_formed usn before after us put (Link l) may.of_unit (numbered schema) r k m is f.forward f.from f.to

  formed_links : AreFormedRows (numbered schema) (updates_of after)
  formed_links = record {
    none = λ o r m is. old.none o r (back o r 0 is m) is;
    named = λ o h. named_same (updates_of before) (updates_of after) o (to o) (old.named o (held_same (updates_of before) (updates_of after) o (to o) (back o) h));
    births = λ o. births_same (updates_of before) (updates_of after) o (to o) (back o) (old.births o);
    objects = λ o h. object_same (updates_of before) (updates_of after) o (to o) (back o) (numbered schema) (old.objects o (held_same (updates_of before) (updates_of after) o (to o) (back o) h));
    links = linked;
  }

pub links_stay_formed_by_puts : (schema usn : ℕ) (before after : List Held) (V : Numbers) (l : LinkKey) (us : List Update) → AreFormedRows (numbered schema) (updates_of before)
    → MayPut (updates_of before) V (Link l) us → ArePut usn us before after
    → is_forward (kind_at (numbered schema) l.attr) ≡ true → Each (λ o. IsTombstoned (updates_of before) o → ⊥) (ends (LinkOf l)) → AreFormedRows (numbered schema) (updates_of after)
links_stay_formed_by_puts schema usn before after V l us old may put forward lives = formed_links schema usn before after V l us old may put forward lives

pub links_stay_closed : (usn : ℕ) (before after : List Held) (V : Numbers) (l : LinkKey) (us : List Update) → AreClosed V (updates_of before)
    → MayPut (updates_of before) V (Link l) us → ArePut usn us before after
    → Each (λ o. HoldsObject (updates_of before) o ⊎ (CoversBirth V o → ⊥)) (ends (LinkOf l)) → AreClosed V (updates_of after)
links_stay_closed usn before after V l us old may put held = closed_put usn before after us put V old new
  where
    new : Each (λ r. (k : LinkKey) → r.key ≡ LinkOf k → Each (λ o. HoldsObject (updates_of before) o ⊎ (CoversBirth V o → ⊥)) (ends (LinkOf k))) us
    new r m k is o n = held o (subst (λ (z : LinkKey). Member o (ends (LinkOf z))) (same_link r.key l k (may.of_unit r m) is) n)
