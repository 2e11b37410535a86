-- The writes and the exchanges of the verbs whose lines have one form.
use Rattle.std.specs.Prelude.{ℕ, List}
use Rattle.adr_call.specs.declared.write.Write.{Write}
use Rattle.adr_call.specs.declared.write.Write.TheVariants.{Link, Unlink}
use Rattle.adr_call.specs.declared.event.Exchange.{Exchange}
use Rattle.adr_call.specs.declared.event.Exchange.TheVariants.{Pull, Cycle}
use Rattle.adr_schedule.specs.declared.verb.LinkVerb.{LinkVerb}
use Rattle.adr_schedule.specs.declared.verb.LinkVerb.TheVariants as link_verbs
use Rattle.adr_schedule.specs.declared.verb.PullVerb.{PullVerb}
use Rattle.adr_schedule.specs.declared.verb.PullVerb.TheVariants as pull_verbs

abbrev pub linked : LinkVerb → List ℕ → ℕ → List ℕ → Write
linked link_verbs.Link = Link
linked link_verbs.Unlink = Unlink

abbrev pub pulled : PullVerb → List ℕ → ℕ → Exchange
pulled pull_verbs.Pull = Pull
pulled pull_verbs.Cycle = Cycle
