-- What was told has one thing more. Assumes `Logic`.
use Rattle.std.proofs.Common.{[], ◌∷◌, refl}
use Rattle.std.proofs.raw_atomic.Walks.{proved}
use mir.Syntax.{named}
use types.Kit.{‵, raw, ◌⊛◌, ◌$◌, ◌∵◌, !, qed, move, keep, drop, split, fjoin, suffices, done}
use types.Part.{agg}
use types.Run.{enter, returns, no_more}
use types.ByLocal.{alloc_all, pass_all, free_all, look_at, sets}
use denote.Builtin.{RefOf}
use denote.Exit.{yes}
use denote.Ref.{shr_vals, shr_Tells}
use denote.RattleType.{owns}
use denote.Signature.{plain, types_at, named_lft}
use denote.Steps.{nothing}
use denote.Triple.Entry.{alive}
use denote.Triple.Walked.{says, Stays, stay_dropped, walk_of, ends_at, Goes-dropped}
use Rattle.adr_call.specs.contracts.call.Call as Call
use Rattle.adr_cycle.specs.contracts.reply.Reply as Reply
use Rattle.adr_cycle.specs.contracts.request.Request as Request
use Rattle.adr_restore.specs.contracts.image.Image as Image
use Rattle.adr_state.specs.contracts.state.State as State
use Rattle.adr_values.specs.contracts.text.Text as Text
use Rattle.adr_run_replica.proofs.Walks.{none, none_made}
use Rattle.adr_run_replica.specs.Told.{told_of}
use Rattle.adr_run_replica.specs.contracts.replica.Replica as Replica
use Rattle.adr_run_replica.specs.contracts.told.Deed as Deed
use Rattle.adr_run_replica.specs.contracts.told.Told as Told
use Rattle.adr_run_replica.specs.contracts.told.Told.with as f
use Rattle.adr_run_replica.proofs.told.Told.with.Statement.{statement}
use Rattle.adr_run_replica.proofs.told.Told.with.Code as code

abbrev stayed : Stays f.ended.signature.params f.ended.kept
stayed = (stay_dropped _ yes, (stay_dropped _ yes, tt))

pub with_spec : {M : Type 1} → statement M
with_spec 𝓤 𝓛 𝓜 𝓡 wired =
    let c = f.clauses 𝓛 𝓜.mem 𝓡.returns in
    let told_goes = Goes-dropped 𝓛 3 (RefOf (0 ∷ []) tt (plain (λ _. Told.the_row)) (λ _. tt)) yes (λ κs x f. refl) in
    let deed_goes = Goes-dropped 𝓛 3 (RefOf (1 ∷ []) tt (plain (λ κs. Deed.the_row (named_lft 3 2 tt κs) State.the_row Replica.the_row Call.the_row Request.the_row Reply.the_row Image.the_row Text.the_row)) (λ _. tt)) yes (λ κs x f. refl) in
    proved 𝓛 f.ended stayed c 𝓜 𝓡 (told_goes, (deed_goes, tt)) f.Key.name code.function (code.unfolded 𝓤 𝓛.H 𝓜 𝓡 wired)
    (λ κs. (shr_vals, (shr_vals, tt)))
    (λ κs. (shr_Tells (named 0) κs.0 Told.the_row, (shr_Tells (named 1) κs.1.0 (Deed.the_row (named_lft 3 2 tt κs) State.the_row Replica.the_row Call.the_row Request.the_row Reply.the_row Image.the_row Text.the_row), tt))) (λ κs qs bounds a g are.
    let y : (walk_of 𝓛 f.ended stayed c).Ghost = ((κs, qs, bounds, a, (shr_vals a.0, (shr_vals a.1.0, tt))), g) in
    let told : (Told.the_row).Denot = record { ahead = told_of a.0.now.ahead.past a.1.0.now } in
    qed 𝓛 ((raw (alive 𝓛 f.ended.signature κs qs) ⊛ ‵ (owns (types_at f.ended.signature.params κs) a y.0.4)) ∷ raw ((c κs a).requires g) ∷ []) ∵
    keep ! (0 ∷ []) $ split ! $ move ! (1 ∷ []) $ drop ! $
    enter ! _ _ _ _ _ $ alloc_all ! (λ l. pass_all ! refl ((tt, tt), ((tt, tt), tt)) $
    sets ! (agg ! (no_more !)) refl (tt, tt) $
    nothing ! $ none_made ! $ fjoin ! $
    returns ! (look_at ! 0 refl) $ free_all ! refl $
    suffices ! _ (ends_at 𝓛 f.ended stayed c y none told (tt, (tt, tt)) (tt, (tt, tt))) $ says ! refl $
    nothing ! $ nothing ! $ fjoin ! $ nothing ! $ fjoin ! $ move ! (2 ∷ 0 ∷ 1 ∷ []) $ done !))
