use Rattle.std.proofs.Common.{◌∙◌, subst}
use Rattle.std.specs.Prelude.{IsSome}
use Rattle.std.proofs.lemmas.Result.{on_ok_weaker}
use Rattle.adr_table.proofs.Objects.{lives_listed, lives_own, lives_put}
use Rattle.adr_table.specs.Table.{rows_in}
use Rattle.adr_table.proofs.table.Table.put_object.Goals as goal

pub insert_object-requires-clause-own : goal.insert_object-requires-clause-own
insert_object-requires-clause-own c = lives_own c.args.object.now c.args.rows.now c.requires.own

pub returns-clause-kept : goal.returns-clause-kept
returns-clause-kept c = record {
  tidy = c.insert_object.ensures.tidy;
  backed = λ l some. c.requires.kept.backed l (subst IsSome (c.insert_object.ensures.links l) some);
  listed = lives_listed c.args.local c.insert_object.result c.args.object.now c.args.rows.now c.args.self.now.slots c.insert_object.new.self c.args.self.now.dead c.requires.own
      c.requires.kept.listed c.insert_object.ensures.seen c.insert_object.ensures.err;
}

pub returns-clause-ok : goal.returns-clause-ok
returns-clause-ok c =
    on_ok_weaker c.insert_object.result (λ seen. seen ∙ lives_put c.args.local c.args.object.now c.args.rows.now (rows_in c.args.self.now) c.requires.own) c.insert_object.ensures.seen
