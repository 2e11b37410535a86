-- What is formed stays so where objects are removed whole.
use Rattle.std.proofs.Common.{◌≡◌, ℕ, List, subst}
use Rattle.adr_values.specs.declared.stamp.Oid.{Oid}
use Rattle.adr_values.specs.declared.stamp.LinkKey.{LinkKey}
use Rattle.adr_values.specs.Table.{Table}
use Rattle.adr_model.specs.Member.{Member}
use Rattle.adr_model.specs.Update.{RowOf, Update}
use Rattle.adr_model.specs.Reflects.{HoldsObject, IsTombstoned}
use Rattle.adr_model.specs.Store.{Held, updates_of}
use Rattle.adr_model.specs.Formed.{IsLinkFormed, AreFormedRows}
use Rattle.adr_model.specs.Sound.{AreClassesKnown}
use Rattle.adr_law_calls.proofs.FormedSame.{named_same, object_same}
use Rattle.adr_law_calls.proofs.Removing.{without, row_of_tells, update_stood, update_stands, removed_is_absent}

module _ (os : List Oid) (rows : List Held) where
  abbrev before : List Update
  before = updates_of rows

  abbrev after : List Update
  after = updates_of (without os rows)

  stood : (u : Update) → Member u after → Member u before
  stood u m = update_stood os rows u m

  held_before : (o : Oid) → HoldsObject after o → HoldsObject before o
  held_before o (r, attr, m, is) = (r, attr, stood r m, is)

  tombstoned_before : (o : Oid) → IsTombstoned after o → IsTombstoned before o
  tombstoned_before o (r, m, is) = (r, stood r m, is)

  -- an object that is held keeps its rows
  row_stands : (o : Oid) → HoldsObject after o → (u : Update) (attr : ℕ) → u.key ≡ RowOf o attr → Member u before → Member u after
  row_stands o held u attr is m = update_stands os rows u m
      (λ p n row. removed_is_absent os rows p n (subst (HoldsObject after) (row_of_tells o p attr u.key is row) held))

  link : (table : Table) (l : LinkKey) → IsLinkFormed table before l → IsLinkFormed table after l
  link table l f = record { forward = f.forward; from = λ t. f.from (tombstoned_before l.from t); to = λ t. f.to (tombstoned_before l.to t) }

  pub stay_formed : (table : Table) → AreFormedRows table before → AreFormedRows table after
  stay_formed table f = record {
    none = λ o r m is. f.none o r (stood r m) is;
    named = λ o h. named_same before after o (row_stands o h) (f.named o (held_before o h));
    births = λ o r m is. f.births o r (stood r m) is;
    objects = λ o h. object_same before after o (row_stands o h) (λ u _ _ m. stood u m) table (f.objects o (held_before o h));
    links = λ l r m is. link table l (f.links l r (stood r m) is);
  }

  pub classes_stay_known : (table : Table) → AreClassesKnown table before → AreClassesKnown table after
  classes_stay_known table known u m = known u (stood u m)
