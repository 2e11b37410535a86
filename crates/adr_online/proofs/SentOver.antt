-- A client's lines, sent from a post.
use Rattle.std.proofs.Common.{◌≡◌, ◌<◌, ◌∙◌, inr, ℕ, Bool, true, List, [], Option, IfSome, Result, Err, refl, arith}
use Rattle.std.specs.Option.{option_map}
use Rattle.adr_outside.specs.Traffic.{Opens, Traffic, hung_up}
use Rattle.adr_outside.proofs.Hanging.{OpensNext, opens_next}
use Rattle.adr_pull.specs.declared.fault.SendFault.{SendFault}
use Rattle.adr_pull.specs.declared.fault.SendFault.TheVariants as faults
use Rattle.adr_pull.specs.Sending.{Place, Sends, IsAt as IsAtPlace}
use Rattle.adr_pull.specs.Told.{HasDone as HasDoneOver}
use Rattle.adr_pull.proofs.Retold.{sends_so}
use Rattle.adr_online.specs.Dialled.{HasDone, IsAt, Outside, Post}
use Rattle.adr_online.specs.Sends.{SendsFrom, ended, place_at}
use Rattle.adr_online.specs.declared.ended.Sent.{Sent}
use Rattle.adr_online.proofs.Opened.{done_so, opened}

-- a connection was opened, lines were sent over it, and it was hung up
module _ (said : List (List ℕ)) (result : Result Bool SendFault) (how : Sent) (begun behind : Option Traffic) (from to : Outside)
    (opens : IfSome from.net (λ before. Opens before begun))
    (so : (t : Traffic) (a : Place) → a.accepted ≡ true → IsAtPlace t a begun from.lines
    → Sends (λ b. IsAtPlace t b behind to.lines) (HasDoneOver t behind to.lines) a said result)
    (closing : to.net ≡ option_map hung_up behind) (doors : to.doors ≡ from.doors)
    (failed : result ≡ Err faults.Link → from.faults < to.faults) (is : how ≡ ended result) where
  pub sent_over : (p : Post) → IsAt p from → SendsFrom p said how to
  sent_over p at =
      let m : OpensNext p.waiting p.done begun = opens_next p.waiting p.done from.net begun at.net opens in
      let t : Traffic = opened p m.rest m.came [] in
      let a : Place = place_at p m.came in
      inr (
        m.came,
        m.rest,
        m.opens,
        (
          result,
          is,
          λ link. omega (arith, at.faults, failed link),
          sends_so (λ b. IsAtPlace t b behind to.lines) (λ b. HasDone p m.rest to b.sent b.written) (HasDoneOver t behind to.lines) (HasDone p m.rest to)
              (λ b there. done_so p m.rest b.left b.sent b.written behind to closing (doors ∙ at.doors) there.net there.lines)
              (λ sent told d. done_so p m.rest d.left sent told behind to closing (doors ∙ at.doors) d.net d.lines)
              a said result (so t a refl (record { net = m.net; lines = at.lines })),
        ),
      )
