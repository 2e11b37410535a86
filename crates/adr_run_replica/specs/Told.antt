-- What the past of a run becomes by what it is told, and the call that a controller keeps then.
use Rattle.std.specs.Prelude.{ℕ, List, [], ◌∷◌, ◌++◌, None, Some}
use Rattle.adr_call.specs.declared.call.Call.{Call}
use Rattle.adr_model.specs.Replica.{ToWrite, Replica, Settle, begun, moves_of_start, start_goes}
use Rattle.adr_model.specs.Serve.{Request, Reply}
use Rattle.adr_model.specs.Store.{State, Store}
use Rattle.adr_model.specs.Write.{Revive}
use Rattle.adr_model.specs.Client.{call_meant}
use Rattle.adr_run_replica.specs.Past.{Past, Ahead, after_commit, after_moves, noting}
use Rattle.adr_run_replica.specs.Pending.{calling, serving, taking}
use Rattle.adr_run_replica.specs.declared.told.Deed.{Deed}
use Rattle.adr_run_replica.specs.declared.told.Deed.TheVariants.{Begun, Calls, Gave, GaveInv, Revives, Serves, Starts, Still, Stops, Takes, Noted}

abbrev pub keeping_none : Past → Ahead
keeping_none p = record { past = p; kept = None }

abbrev pub told_of : Past → Deed State Replica Call Request Reply Store (List ℕ) → Ahead
told_of p Still = keeping_none p
told_of p (Begun state) = keeping_none (record p { book = begun p.book state.now })
told_of p (Gave dsa inv) = keeping_none (record p { given = record { dsas = p.given.dsas ++ dsa ∷ []; invs = p.given.invs ++ inv ∷ [] } })
told_of p (GaveInv inv) = keeping_none (record p { given = record { dsas = p.given.dsas ++ []; invs = p.given.invs ++ inv ∷ [] } })
told_of p (Noted reply now) = keeping_none (noting p now (Some reply.now))
told_of p (Calls replica what now) = after_commit p replica.now (calling (call_meant what.now now) replica.now.safe)
told_of p (Revives replica image guid parent text now) = after_commit p replica.now (calling (ToWrite (Revive image.now guid parent text.now) now) replica.now.safe)
told_of p (Serves replica request) = after_commit p replica.now (serving request.now replica.now.safe)
told_of p (Takes replica reply) = after_commit p replica.now (taking reply.now replica.now.safe)
told_of p (Stops replica) = after_moves p replica.now (Settle ∷ [])
told_of p (Starts replica) = after_moves p replica.now (moves_of_start (start_goes replica.now))
