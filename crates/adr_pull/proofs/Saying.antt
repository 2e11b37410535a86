-- What a frame says, by its kind.
use Rattle.std.proofs.Common.{◌≡◌, ◌⊎◌, ⊎_elim, ℕ, List, ◌∷◌, Option, Some, None, Result, Ok, Err, refl, sym, ap, ◌∙◌, subst, inl}
use Rattle.std.specs.Prelude.{IfErr, IfOk, IfSome, IsErrOf}
use Rattle.std.specs.Option.{option_map}
use Rattle.adr_disk.specs.Disk.{LeavesOnly}
use Rattle.adr_law_journal.specs.Areas.{Found, Started}
use Rattle.adr_law_journal.specs.Kept.{FindsState}
use Rattle.adr_model.specs.Store.{State}
use Rattle.adr_packet.specs.Refusals.{decoded_refusal}
use Rattle.adr_journal.specs.declared.keeper.Keeper.{Ghosts}
use Rattle.adr_controller.specs.Running.{IsInOrder, Running}
use Rattle.adr_pull.specs.declared.came.Came.{Came}
use Rattle.adr_pull.specs.declared.fault.PullFault.{PullFault}
use Rattle.adr_pull.specs.declared.fault.PullFault.TheVariants as faults
use Rattle.adr_pull.specs.Fetch.{Made, Said, made, refused, said_in}
use Rattle.adr_law_controller.proofs.Crashes.{LeavesLaw, OnlyNowLaw, still_crashes}
use Rattle.adr_law_controller.specs.Keeping.{Stands}
use Rattle.adr_pull.specs.Told.{FindsDue, ReactsSo}

pub says_refusal : (bytes body : List ℕ) (kind : ℕ) → bytes ≡ kind ∷ body → kind ≡ 3 → said_in bytes ≡ refused
    (decoded_refusal body)
says_refusal bytes body kind is three = ap said_in is ∙ ap (λ (n : ℕ). said_in (n ∷ body)) three

-- a start that finds the state before finds what may be due
pub before_due : (f : Found State) (d : Option Made) (x : Started State) → FindsState f.state x → FindsDue f d x
before_due f None x here = here
before_due f (Some m) x here = inl here

-- so does a crash where nothing has changed
pub still_due : {K : Type 0} (k : Ghosts K) (leaves : LeavesLaw k) (only_now : OnlyNowLaw k) (f : Found State) (c : Running K) → Stands k f c → IsInOrder k c → (due : Option Made)
    → IfSome (k.told c.keeper) (λ _. LeavesOnly k.moment k.left_since c.keeper c.keeper (FindsDue f due))
still_due k leaves only_now f c stands order due = still_crashes k leaves only_now (FindsDue f due) f c stands order (before_due f due)

-- a refusal was told, or what came was strange
pub refusal_reacts : {K : Type 0} (k : Ghosts K) (f : Found State) (c : Running K) → Stands k f c →
    (said : Option Said) (result : Result Came PullFault)
    → IfOk result (λ came. (h : Found State) → option_map (made h) said ≡ Some (h, came)) →
    (IsErrOf result faults.BadPeer → said ≡ None)
    → IfErr result (λ fault. (fault ≡ faults.BadPeer) ⊎ (fault ≡ faults.NoMemory)) → ReactsSo k f (option_map
    (made f) said) result c
refusal_reacts k f c stands said (Ok came) ok strange only = ((f, came), ok f, refl, stands)
refusal_reacts k f c stands said (Err fault) ok strange only =
    let due = option_map (made f) said in
    ⊎_elim
    (λ is. subst (λ (x : PullFault). ReactsSo k f due (Err x) c) (sym is) (
      ap (option_map (made f)) (strange
          (ap Err is)),
      stands,
    ))
    (λ is. subst (λ (x : PullFault). ReactsSo k f due (Err x) c) (sym is) stands) only
