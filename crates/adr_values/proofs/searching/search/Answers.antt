use Rattle.std.proofs.Common.{rules}
use Rattle.std.proofs.lemmas.List.Sorted.{answers_always}
use Rattle.adr_values.proofs.Placing.{searched}
use Rattle.adr_values.proofs.searching.search.Goals as goal

-- the closure gives the identifier of a cursor
pub returns : goal.returns
returns c =
    let facts = c.binary_search_by_key.ensures in
    let by_key = facts.position (λ cursor. cursor.0) (answers_always _ _ _ (λ f a r g called. search rules)) in
    let found = searched c.args.cursors.now c.requires c.args.inv c.binary_search_by_key.result facts.bound by_key in
    record { found = found.0; gap = found.1 }
