use Rattle.std.proofs.Common.{inr, sym, subst, None, Some}
use Rattle.std.proofs.lemmas.Result.{err_from_is_err_and}
use Rattle.adr_controller.specs.declared.refusal.Hindrance.TheVariants.{NoMemory}
use Rattle.adr_controller.specs.Ended.{kept_as}
use Rattle.adr_controller.specs.Did.{KeepsChange, MadeReady, up_behind}
use Rattle.adr_controller.proofs.Keeps.{done, ended_so, failed, refused, wanted}
use Rattle.adr_controller.proofs.keeping.keep.Goals as goal
use Rattle.adr_controller.proofs.keeping.keep.Goals.{In_ok-prepare}

-- the keeper is ready for the change
made : (g : _) (c : In_ok-prepare g) → MadeReady g.K.Keeper c.args.keeper.now c.args.state.now c.args.change c.prepare.new.self
made g c = let ready = c.in_ok-prepare.ensures in record { prepared = ready.prepares; is_prepared = ready.prepared; running = ready.up; at = ready.at }

pub returns-in_err-prepare : goal.returns-in_err-prepare
returns-in_err-prepare g c =
    let law = g.met.K.Keeper in
    let e = c.in_err-prepare.field-0.0 in
    let ended = c.in_err-prepare.ensures in
    let p = err_from_is_err_and c.from_residual.result c.from_residual.ensures.1 in
    ended_so g.K.Keeper c.args.state.now c.args.change c.args.keeper.now c.prepare.new.self c.args.state.now (kept_as e) c.from_residual.result p.0 p.1 p.2
    (refused g.K.Keeper law.leaves law.only_now c.args.keeper.now c.args.state.now c.args.change c.requires.up c.requires.able c.prepare.new.self ended.keeps ended.later ended.at ended.within e ended.failed ended.full ended.fits_too ended.stays_full ended.fault ended.no_memory ended.prepares)

pub returns-in_err-apply : goal.returns-in_err-apply
returns-in_err-apply g c =
    let law = g.met.K.Keeper in
    let s = c.args.state.now in
    let ready = c.in_ok-prepare.ensures in
    let keeper = c.prepare.new.self in
    let p = err_from_is_err_and c.from_residual-in_err-apply.result c.from_residual-in_err-apply.ensures.1 in
    ended_so g.K.Keeper s c.args.change c.args.keeper.now keeper c.apply.new.state NoMemory c.from_residual-in_err-apply.result p.0 p.1 p.2
    (subst (λ t. KeepsChange g.K.Keeper s c.args.change (up_behind None c.args.keeper.now s) (up_behind (Some NoMemory) keeper t) (Some NoMemory)) (sym c.in_err-apply.ensures.err)
    (wanted g.K.Keeper law.leaves law.only_now c.args.keeper.now s c.args.change c.requires.up c.requires.able keeper ready.keeps ready.later ready.at ready.within ready.up (inr (inr ready.prepares))))

pub returns-in_err-commit : goal.returns-in_err-commit
returns-in_err-commit g c =
    let law = g.met.K.Keeper in
    let ready = c.in_ok-prepare.ensures in
    let e = c.in_err-commit.field-0.0 in
    let ended = c.in_err-commit.ensures in
    let new = c.commit.new.self in
    let p = err_from_is_err_and c.from_residual-in_err-commit.result c.from_residual-in_err-commit.ensures.1 in
    ended_so g.K.Keeper c.args.state.now c.args.change c.args.keeper.now new c.apply.new.state (kept_as e) c.from_residual-in_err-commit.result p.0 p.1 p.2
    (failed g.K.Keeper law.leaves law.only_now c.args.keeper.now c.args.state.now c.args.change c.requires.up c.requires.able c.prepare.new.self new (made g (goal.at.returns-in_err-commit g c).In_ok-prepare) ready.keeps ready.later ready.within ready.fits ended.told ended.later (λ f. ended.any_moment f c.args.change) (λ f. ended.left f c.args.change) (λ f. ended.within f c.args.change) c.apply.new.state e ended.fault (λ f. ended.commits f c.args.change))

pub returns : goal.returns
returns g c =
    let law = g.met.K.Keeper in
    let ready = c.in_ok-prepare.ensures in
    let ended = c.in_ok-commit.ensures in
    done g.K.Keeper law.leaves law.only_now c.args.keeper.now c.args.state.now c.args.change c.requires.up c.requires.able c.prepare.new.self c.commit.new.self (made g (goal.at.returns g c).In_ok-prepare) ready.keeps ready.later ready.within ready.fits ended.told ended.later (λ f. ended.any_moment f c.args.change) (λ f. ended.left f c.args.change) (λ f. ended.within f c.args.change) c.apply.new.state c.in_ok-apply.ensures.ok (λ f. ended.ok f c.args.change) ended.up (λ f. ended.commits f c.args.change)
