use Rattle.std.proofs.Common.{arith, drop}
use Rattle.std.proofs.lemmas.List.{length-drop, take_all}
use Rattle.std.proofs.lemmas.Result.{on_ok_weaker}
use Rattle.adr_overlay.proofs.Objects.{put_in_turn}
use Rattle.adr_overlay.proofs.overlay.Overlay.put_all.Goals as goal

pub returns-in_ok-put_object-in-Some : goal.returns-in_ok-put_object-in-Some
returns-in_ok-put_object-in-Some c =
    let n = c.lives_of-lives.result in
    on_ok_weaker c.put_each.result
    (λ then. put_in_turn c.args.local n c.args.rows.now _ c.args.self.now c.put_object.new.self c.put_each.new.self c.in_ok-put_object-in-Some.ensures
    (take_all _ (drop n c.args.rows.now) (omega (arith, length-drop n c.args.rows.now))) then)
    c.put_each.ensures
