-- A cycle over a connection that is opened and hung up, and what it comes to where less is told of the node.
use Rattle.std.proofs.Common.{◌≡◌, ◌⊎◌, ◌<◌, ◌∙◌, inl, inr, ⊎_elim, ℕ, List, [], Option, IfSome, Result, Err, arith}
use Rattle.std.specs.Option.{option_map}
use Rattle.adr_disk.proofs.Moments.{started}
use Rattle.adr_model.specs.Store.{State}
use Rattle.adr_law_journal.specs.Areas.{Found, Started}
use Rattle.adr_journal.specs.declared.keeper.Keeper.{Ghosts}
use Rattle.adr_controller.specs.Running.{Running}
use Rattle.adr_outside.specs.Traffic.{Traffic, Opens, hung_up}
use Rattle.adr_outside.proofs.Hanging.{OpensNext, opens_next}
use Rattle.adr_pull.specs.declared.fault.PullFault.{PullFault}
use Rattle.adr_pull.specs.declared.fault.PullFault.TheVariants as faults
use Rattle.adr_pull.specs.Fetch.{Point, exchange_limit, pulled}
use Rattle.adr_law_controller.proofs.Crashes.{Crashes, OnlyNowLaw, crash_by}
use Rattle.adr_law_controller.specs.Keeping.{Stands}
use Rattle.adr_pull.specs.Told.{Fallen, FindsBehind, Goes, Up, HasDone as HasDoneOver, IsAt as AtPoint}
use Rattle.adr_pull.proofs.Retold.{goes_so}
use Rattle.adr_node.proofs.Formatted.{always}
use Rattle.adr_online.specs.Dialled.{HasDone, IsAt, Outside, Post}
use Rattle.adr_online.specs.Pulls.{FindsPulled, PullsFrom, as_pulled, goes, met_at}
use Rattle.adr_online.specs.declared.ended.Pulled.{Pulled}
use Rattle.adr_online.proofs.Opened.{done_so, opened}

-- from a post: a connection is opened, a cycle pulled over it, and it is hung up
module _ {K : Type 0} (k : Ghosts K) (name : List ℕ) (f : Found State) (p : Post) (before c : Running K) (stands : Stands k f before)
    (net_open after : Option Traffic) (from to : Outside) (result : Result Unit PullFault) (how : Pulled)
    (at : IsAt p from) (opens : IfSome from.net (λ t. Opens t net_open)) where
  pub pulled_up : ((t : Traffic) (q : Point) → AtPoint k t q before net_open from.lines
      → Goes (Up k c) (Fallen k c) (HasDoneOver t after to.lines) (λ n. pulled name n q) exchange_limit result)
      → to.net ≡ option_map hung_up after → to.doors ≡ from.doors → (result ≡ Err faults.Link → from.faults < to.faults)
      → how ≡ as_pulled result → PullsFrom (Up k c) (Fallen k c) name f p how to
  pulled_up pulls is doors failed ended =
      let o : OpensNext p.waiting p.done net_open = opens_next p.waiting p.done from.net net_open at.net opens in
      let t : Traffic = opened p o.rest o.came [] in
      let there : AtPoint k t (met_at f p o.came) before net_open from.lines = record { node = stands; net = o.net; lines = at.lines } in
      inr (
        o.came,
        o.rest,
        o.opens,
        (
          result,
          ended,
          λ link. omega (arith, at.faults, failed link),
          goes_so (Up k c) (Up k c) (Fallen k c) (Fallen k c) (HasDoneOver t after to.lines) (HasDone p o.rest to) (λ g stands. stands)
              (λ a b fell. fell) (λ sent told d. done_so p o.rest d.left sent told after to is (doors ∙ at.doors) d.net d.lines)
              (goes name f p o.came) exchange_limit result (pulls t (met_at f p o.came) there),
        ),
      )

  -- what a crash in it leaves
  pub crash_up : ((t : Traffic) (q : Point) → AtPoint k t q before net_open from.lines → Crashes k before.keeper c.keeper (FindsBehind (λ n. pulled name n q) exchange_limit))
      → Crashes k before.keeper c.keeper (λ s. k.may_leave before.keeper s ⊎ FindsPulled name f p s)
  crash_up leaves =
      let o : OpensNext p.waiting p.done net_open = opens_next p.waiting p.done from.net net_open at.net opens in
      let there : AtPoint k (opened p o.rest o.came []) (met_at f p o.came) before net_open from.lines = record { node = stands; net = o.net; lines = at.lines } in
      crash_by k before.keeper c.keeper (FindsBehind (goes name f p o.came) exchange_limit) (λ s. k.may_leave before.keeper s ⊎ FindsPulled name f p s)
      (λ s finds. inr (o.came, o.rest, o.opens, finds)) (leaves (opened p o.rest o.came []) (met_at f p o.came) there)

-- no connection was opened
pub crash_none : {K : Type 0} (k : Ghosts K) (only_now : OnlyNowLaw k) (keeper : K) (Q : Started State → Type 0)
    → Crashes k keeper keeper (λ s. k.may_leave keeper s ⊎ Q s)
crash_none k only_now keeper Q =
    always (k.told keeper) (started k.moment k.left_since keeper (λ s. k.may_leave keeper s ⊎ Q s) (λ s left. inl (only_now keeper s left)))

-- less is told of the node
pub pulls_less : (at at_less : Found State → Type 0) (fallen fallen_less : Point → Point → Type 0)
    (less : (f : Found State) → at f → at_less f) (less_fallen : (a b : Point) → fallen a b → fallen_less a b)
    (p : Post) (o : Outside) (name : List ℕ) (f : Found State) (how : Pulled) → PullsFrom at fallen name f p how o
    → PullsFrom at_less fallen_less name f p how o
pulls_less at at_less fallen fallen_less less less_fallen p o name f how from =
    ⊎_elim (λ un. inl (less f un.0, un.1))
    (λ so. inr (
      so.0,
      so.1,
      so.2,
      (
        so.3.0,
        so.3.1,
        so.3.2,
        goes_so at at_less fallen fallen_less (HasDone p so.1 o) (HasDone p so.1 o) less less_fallen (λ sent told d. d)
            (goes name f p so.0) exchange_limit so.3.0 so.3.3,
      ),
    )) from
