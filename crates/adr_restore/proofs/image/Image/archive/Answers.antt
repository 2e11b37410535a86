use Rattle.std.proofs.Common.{sym, ap, subst}
use Rattle.adr_model.specs.Formed.{IsFormedStore}
use Rattle.adr_model.specs.Store.{Store}
use Rattle.adr_restore.proofs.image.Image.archive.Goals as goal

pub rows_of-requires : goal.rows_of-requires
rows_of-requires c = subst IsFormedStore (sym c.into_contents-contents.ensures.all) c.into_contents-contents.ensures.formed

pub of-requires : goal.of-requires
of-requires c =
    (c.into_contents-contents.result, (ap (λ (s : Store). s.schema) (sym c.contents.view_is), sym c.in_ok-rows_of.ensures), subst IsFormedStore (sym c.into_contents-contents.ensures.all) c.into_contents-contents.ensures.formed)
