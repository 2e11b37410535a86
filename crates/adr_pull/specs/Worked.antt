-- A cycle worked out: a partner says who it is, and sends a reply that is taken.
use Rattle.std.specs.Prelude.{◌≡◌, ℕ, true, List, [], ◌∷◌, ◌++◌, length, is_some, Ok}
use Rattle.std.specs.Bool.{then_some}
use Rattle.adr_model.specs.Change.{Change}
use Rattle.adr_model.specs.Lengths.{change_fits}
use Rattle.adr_model.specs.Serve.{Reply}
use Rattle.adr_model.specs.Store.{State}
use Rattle.adr_model.specs.Take.{take}
use Rattle.adr_law_journal.specs.Areas.{Found}
use Rattle.adr_journal.specs.Ended.{found_after}
use Rattle.adr_packet.specs.Replies.{IsReply, reply_bytes}
use Rattle.adr_frames.specs.Frames.{IsFrameLength, frame}
use Rattle.adr_pull.specs.Fetch.{Course, Over, Point, greeting, line_of, pulled, request, took}

-- a node that stands so, where a partner's identity comes, a reply, and then more
abbrev pub at_first : Found State → List ℕ → Reply → List ℕ → Point
at_first f dsa r more =
    record { stands = f; left = frame (7 ∷ dsa) ++ (frame (2 ∷ reply_bytes r) ++ more); sent = []; written = [] }

-- it has asked who is there, and then for changes; the reply is kept, its line written, and what came behind it is left
abbrev pub at_last : List ℕ → Found State → List ℕ → Reply → Change → List ℕ → Course
at_last name f dsa r c more = (
  record {
    stands = found_after f c;
    left = more;
    sent = frame greeting ++ frame (request f.state dsa);
    written = line_of name (took r c);
  },
  then_some (is_some r.last) Over,
)

abbrev pub IsWorked : Type 0
IsWorked =
    (name dsa more : List ℕ) (f : Found State) (r : Reply) (c : Change) → length dsa ≡ 16 → IsReply r
    → IsFrameLength (length (2 ∷ reply_bytes r)) → take f.state r ≡ Ok c → change_fits f.log f.state.store c ≡ true
    → pulled name 2 (at_first f dsa r more) ≡ at_last name f dsa r c more
