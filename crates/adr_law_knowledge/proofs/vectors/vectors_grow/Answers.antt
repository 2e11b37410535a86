use Rattle.std.proofs.Common.{arith}
use Rattle.adr_values.proofs.Joining.{raised_here, raised_elsewhere, at-raised, at-joined}
use Rattle.adr_law_knowledge.proofs.vectors.vectors_grow.Goals as goal

pub returns-clause-raised_here : goal.returns-clause-raised_here
returns-clause-raised_here c = λ v i usn. raised_here v i usn

pub returns-clause-raised_elsewhere : goal.returns-clause-raised_elsewhere
returns-clause-raised_elsewhere c = λ v i j usn differs. raised_elsewhere v i usn j differs

pub returns-clause-raised : goal.returns-clause-raised
returns-clause-raised c = λ v i usn j. omega (arith, at-raised v i usn j)

pub returns-clause-joined_at : goal.returns-clause-joined_at
returns-clause-joined_at c = λ v w i is. at-joined w v i is.rising

pub returns-clause-joined : goal.returns-clause-joined
returns-clause-joined c = λ v w is. (λ i. omega (arith, at-joined w v i is.rising), λ i. omega (arith, at-joined w v i is.rising))

pub returns-clause-least : goal.returns-clause-least
returns-clause-least c = λ v w x is p q i. omega (arith, at-joined w v i is.rising, p i, q i)
