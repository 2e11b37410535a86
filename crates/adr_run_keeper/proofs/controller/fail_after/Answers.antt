use Rattle.std.proofs.Common.{rules}
use Rattle.adr_run_keeper.proofs.Orders.{still_in_order}
use Rattle.adr_run_keeper.proofs.controller.fail_after.Goals as goal

pub attend-requires-clause-in_order : goal.attend-requires-clause-in_order
attend-requires-clause-in_order g c = λ keeper acted order.
    still_in_order g.K.Keeper c.args.controller.now.keeper keeper (λ f was. search rules) (search rules) c.args.controller.now order
