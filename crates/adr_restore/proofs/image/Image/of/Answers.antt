use Rattle.std.proofs.Common.{◌≡◌, Bool, false, cond, Option, None, Some, ap, sym, ◌∙◌}
use Rattle.adr_model.specs.Serve.{is_quarantined}
use Rattle.adr_model.specs.Store.{Store}
use Rattle.adr_restore.proofs.Reading.{is_image, said_again}
use Rattle.adr_restore.proofs.image.Image.of.Goals as goal

pub invariant_of-result : goal.invariant_of-result
invariant_of-result c =
    is_image c.in_ok-bytes.bytes.items c.args.state.now.store c.in_ok-bytes.ensures.written c.requires.formed.store c.requires.spelled

pub returns : goal.returns
returns c =
    let open_mode : is_quarantined c.args.state.now.mode ≡ false = (let a = c.mode.ensures in let b = c.is_quarantined.ensures in let d = c.if-is_quarantined.false in cc) in
    ap Some (said_again c.in_ok-bytes.bytes.items c.args.state.now.store c.in_ok-bytes.ensures.written c.requires.formed.store c.requires.spelled)
    ∙ sym (ap (λ (b : Bool). let o : Option Store = cond b None (Some c.args.state.now.store) in o) open_mode)
