-- A cycle with one reply.
use Rattle.std.proofs.Common.{◌≡◌, ℕ, Bool, true, List, ◌∷◌, ◌++◌, length, Option, Some, Result, Ok, ap, ◌∙◌, arith}
use Rattle.std.specs.Bool.{then_some}
use Rattle.std.specs.Option.{option_map}
use Rattle.std.proofs.lemmas.Bool.{eq-eqb}
use Rattle.adr_call.specs.declared.refusal.TakeRefusal.{TakeRefusal}
use Rattle.adr_wire.specs.declared.refusal.DecodeRefusal.{DecodeRefusal}
use Rattle.adr_model.specs.Change.{Change}
use Rattle.adr_model.specs.Lengths.{change_fits}
use Rattle.adr_model.specs.Serve.{Reply}
use Rattle.adr_model.specs.Store.{State}
use Rattle.adr_model.specs.Take.{take}
use Rattle.adr_law_journal.specs.Areas.{Found}
use Rattle.adr_journal.specs.Ended.{found_after}
use Rattle.adr_packet.specs.Replies.{IsReply, decoded_reply, reply_bytes}
use Rattle.adr_frames.specs.Frames.{IsFrame, IsFrameLength, Next, frame, next_in}
use Rattle.adr_pull.specs.Exchange.{heard_in, heard_of}
use Rattle.adr_pull.specs.Fetch.{Course, Made, Point, greeting, hears, made, meets, met, partner_in, pulled, replied, request, said_in, sends, taken, tells, took, turn}
use Rattle.adr_pull.specs.Worked.{at_first, at_last}
use Rattle.adr_pull.proofs.Cycling.{further, none_yet}
use Rattle.adr_pull.proofs.Taking.{committed_so}

module _ (again : (bytes rest : List ℕ) → IsFrameLength (length bytes) → next_in (frame bytes ++ rest) ≡ IsFrame bytes rest)
    (reads : (r : Reply) → IsReply r → decoded_reply (reply_bytes r) ≡ Ok r) (name dsa more : List ℕ)
    (f : Found State) (r : Reply) (c : Change)
    (long : length dsa ≡ 16) (form : IsReply r) (fits : IsFrameLength (length (2 ∷ reply_bytes r)))
    (takes : take f.state r ≡ Ok c)
    (room : change_fits f.log f.state.store c ≡ true) where
  abbrev reply : List ℕ
  reply = 2 ∷ reply_bytes r

  abbrev first : Point
  first = at_first f dsa r more

  -- who is there
  named : partner_in (7 ∷ dsa) ≡ Some dsa
  named = ap (λ (b : Bool). then_some b dsa) (eq-eqb (length dsa) 16 long)

  met_so : met (heard_in first.left) ≡ Some (dsa, frame reply ++ more)
  met_so =
      ap (λ (n : Next). met (heard_of n)) (again (7 ∷ dsa) (frame reply ++ more) (omega (arith, long), omega (arith, long)))
      ∙ ap (λ (o : Option (List ℕ)). option_map (λ partner. let x : List ℕ × List ℕ =
      (partner, frame reply ++ more) in x) o) named

  abbrev greeted : Point
  greeted = record (sends first greeting) { left = frame reply ++ more }

  -- and then a reply
  heard : heard_in greeted.left ≡ Some (reply, more)
  heard = ap heard_of (again reply more fits)

  due : option_map (made f) (said_in reply) ≡ Some (found_after f c, took r c)
  due =
      ap (λ (d : Result Reply DecodeRefusal). option_map (made f) (replied d)) (reads r form)
      ∙ ap (λ (t : Result Change TakeRefusal). Some (taken f r t)) takes
      ∙ ap (λ (m : Made). Some m) (committed_so f c (took r c) room)

  turned : turn name dsa greeted ≡ at_last name f dsa r c more
  turned =
      ap (hears name (sends greeted (request f.state dsa))) heard ∙ ap (tells name (sends greeted
      (request f.state dsa)) more) due

  pub worked : pulled name 2 first ≡ at_last name f dsa r c more
  worked =
      ap (meets name 1 (sends first greeting)) met_so
      ∙ further name dsa 0 greeted (ap (λ (x : Course). x.1) (none_yet name dsa greeted))
      ∙ ap (λ (x : Course). turn name dsa x.0) (none_yet name dsa greeted) ∙ turned
