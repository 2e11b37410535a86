-- Why a log in memory keeps the laws of keepers.
use Rattle.std.specs.Prelude.{◌≡◌, ℕ, List, Ok}
use Rattle.std.proofs.Common.{refl, ◌∙◌}
use Rattle.adr_wire.specs.Reading.{Reading}
use Rattle.adr_model.specs.Store.{State}
use Rattle.adr_model.specs.Lengths.{Log}
use Rattle.adr_law_journal.specs.Log.{Following}
use Rattle.adr_law_journal.specs.Areas.{Began, Found, Started, start_of}
use Rattle.adr_law_journal.proofs.Settled.{stands}
use Rattle.adr_journal.specs.Kept.{Ids, ids_of, layout_of}
use Rattle.adr_test_plain.specs.Kept.{IsAtBytes}

module _ (head : Reading Ids) (area : Ids → Reading (Began State)) (following : ℕ → Following State) (bytes : List ℕ) (log : Log) (f : Found State) (at : IsAtBytes head area following bytes log f) where
  -- a log in memory stands for what it is at
  pub log_tells : start_of head area following bytes ≡ Ok f
  log_tells = stands (layout_of head area following at.front (ids_of f.state) at.is_head) f.state f.log bytes (at.settled.at_rest bytes refl)

  pub log_leaves : (t : Started State) → t ≡ start_of head area following bytes → t ≡ Ok f
  log_leaves t is = is ∙ log_tells
