use Rattle.std.proofs.Common.{ap, ◌∙◌, Option}
use Rattle.std.specs.Option.{is_some}
use Rattle.adr_model.specs.Place.{row_at}
use Rattle.adr_model.specs.Store.{updates_of}
use Rattle.adr_model.specs.Update.{Key, Update, is_death_of}
use Rattle.adr_update.specs.Referents.{referents}
use Rattle.adr_state.proofs.Alive.{is_copied, is_found}
use Rattle.adr_state.proofs.live.is_dead.Goals as goal

pub returns : goal.returns
returns c =
    let us = updates_of (referents c.args.rows.now) in
    c.is_some.ensures ∙ is_copied c.row_at.result ∙ ap (λ (o : Option Update). is_some o) c.row_at.ensures
    ∙ ap (λ (k : Key). is_some (row_at us k)) c.deleted.ensures ∙ is_found (is_death_of c.args.object.now) us
