-- What a revival is of: what was held, the new object, the links and the rows that come, and the state behind it.
use Rattle.std.proofs.Common.{◌≡◌, ℕ, List, None}
use Rattle.adr_values.specs.declared.stamp.Oid.{Oid}
use Rattle.adr_values.specs.declared.stamp.LinkKey.{LinkKey}
use Rattle.adr_model.specs.Update.{Identifier, Update}
use Rattle.adr_model.specs.Store.{Store, State, updates_of}
use Rattle.adr_model.specs.Change.{after}
use Rattle.adr_model.specs.Formed.{IsFormedStore, IsFormed}
use Rattle.adr_model.specs.Write.{Revive, new_object, links_revived, revive_refusal, items_written, own_change}
use Rattle.adr_law_calls.proofs.Reviving.{first}

pub record Revival : Type 0 where
  pub held : List Update
  pub o : Oid
  pub come : List LinkKey
  pub new_rows : List Update
  pub behind : State

abbrev pub revival : (s : State) → IsFormed s → (image : Store) (guid parent : Identifier) (text : List ℕ) → IsFormedStore image → revive_refusal s image guid parent text ≡ None → ℕ → Revival
revival s formed image guid parent text given none now = record {
  held = updates_of s.store.rows;
  o = new_object s guid;
  come = links_revived s image guid;
  new_rows = (first s formed image guid parent text given none now).rows;
  behind = after s (own_change s (items_written s (Revive image guid parent text) now));
}
