-- What a cycle or a client's lines come to, where it is told in other words where all then stands.
use Rattle.std.proofs.Common.{⊎_elim, inl, inr, ℕ, suc, Bool, List, Option, Some, None, Result, Ok, Err}
use Rattle.adr_law_journal.specs.Areas.{Found}
use Rattle.adr_model.specs.Store.{State}
use Rattle.adr_pull.specs.Fetch.{BadPeer, Course, Ends, Over, Point, Refused}
use Rattle.adr_pull.specs.Sending.{Place, Sends, IsSaying, Within as WithinLines, IsTelling as IsTellingLine}
use Rattle.adr_pull.specs.Told.{EndsSo, Goes, HasFailed, IsAsking, IsTelling, Within}
use Rattle.adr_pull.specs.declared.fault.PullFault.{PullFault}
use Rattle.adr_pull.specs.declared.fault.PullFault.TheVariants as faults
use Rattle.adr_pull.specs.declared.fault.SendFault.{SendFault}
use Rattle.adr_pull.specs.declared.fault.SendFault.TheVariants as sends

-- a cycle
module _ (at at_so : Found State → Type 0) (fallen fallen_so : Point → Point → Type 0) (done done_so : List ℕ → List ℕ → Type 0)
    (so : (f : Found State) → at f → at_so f) (so_fallen : (p q : Point) → fallen p q → fallen_so p q)
    (so_done : (sent told : List ℕ) → done sent told → done_so sent told) where
  asking_so : (p q : Point) → IsAsking at done p q → IsAsking at_so done_so p q
  asking_so p q asks = (so p.stands asks.0, (asks.1.0, asks.1.1, so_done asks.1.0 p.written asks.1.2))

  telling_so : (p q : Point) → IsTelling at done p q → IsTelling at_so done_so p q
  telling_so p q tells = (so q.stands tells.0, (tells.1.0, tells.1.1, so_done q.sent tells.1.0 tells.1.2))

  failed_so : (p q : Point) → HasFailed fallen done p q → HasFailed fallen_so done_so p q
  failed_so p q fails = (so_fallen p q fails.0, so_done q.sent p.written fails.1)

  ended_so : (course : Course) (ends : Option Ends) → EndsSo at done course ends → EndsSo at_so done_so course ends
  ended_so course ends e = (e.0, so course.0.stands e.1, so_done course.0.sent course.0.written e.2)

  module _ (go : ℕ → Course) (most : ℕ) where
    within_so : (P Q : Point → Point → Type 0) → ((p q : Point) → P p q → Q p q) → Within go most P → Within go most Q
    within_so P Q each w = (w.0, w.1, w.2, each (go w.0).0 (go (suc w.0)).0 w.3)

    pub goes_so : (result : Result Unit PullFault) → Goes at fallen done go most result → Goes at_so fallen_so done_so go most result
    goes_so (Ok unit) goes = ended_so (go most) (Some Over) goes
    goes_so (Err faults.Refused) goes = ended_so (go most) (Some Refused) goes
    goes_so (Err faults.BadPeer) goes = ended_so (go most) (Some BadPeer) goes
    goes_so (Err faults.MoreWaiting) goes = ended_so (go most) None goes
    goes_so (Err faults.Link) goes = within_so _ _ asking_so goes
    goes_so (Err faults.Write) goes = within_so _ _ telling_so goes
    goes_so (Err faults.NoMemory) goes =
        within_so _ _ (λ p q. ⊎_elim (λ asks. inl (asking_so p q asks)) (λ tells. inr (telling_so p q tells))) goes
    goes_so (Err faults.Disk) goes = within_so _ _ failed_so goes

-- a client's lines
module _ (at at_so : Place → Type 0) (done done_so : List ℕ → List ℕ → Type 0) (so : (p : Place) → at p → at_so p)
    (so_done : (sent told : List ℕ) → done sent told → done_so sent told) (p : Place) (lines : List (List ℕ)) where
  saying_so : (a b : Place) → IsSaying done a b → IsSaying done_so a b
  saying_so a b says = (says.0, says.1, so_done says.0 a.written says.2)

  answered_so : (a b : Place) → IsTellingLine done a b → IsTellingLine done_so a b
  answered_so a b tells = (tells.0, tells.1, so_done b.sent tells.0 tells.2)

  within_lines : (P Q : Place → Place → Type 0) → ((a b : Place) → P a b → Q a b) → WithinLines lines p P → WithinLines lines p Q
  within_lines P Q each w = (w.0, w.1, w.2, w.3, w.4, each _ _ w.5)

  pub sends_so : (result : Result Bool SendFault) → Sends at done p lines result → Sends at_so done_so p lines result
  sends_so (Ok all) sent = (sent.0, sent.1, so _ sent.2)
  sends_so (Err sends.BadPeer) sent = (sent.0, so_done _ _ sent.1)
  sends_so (Err sends.Link) sent = within_lines _ _ saying_so sent
  sends_so (Err sends.Write) sent = within_lines _ _ answered_so sent
  sends_so (Err sends.NoMemory) sent =
      within_lines _ _ (λ a b. ⊎_elim (λ says. inl (saying_so a b says)) (λ tells. inr (answered_so a b tells))) sent
