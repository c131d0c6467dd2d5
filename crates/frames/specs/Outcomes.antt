-- What is made of a payload, and what a session sends for it (RFC 5730, 2.6; RFC 5734, 4).
use Rattle.std.specs.Prelude.{ℕ, ◌+◌, ◌^◌, nat_lt, Bool, if◌then◌else◌, List, length, Option, None, Some}
use Rattle.frames.specs.Texts.{failed_text, closing_text}
use Rattle.frames.specs.declared.peer.Answer.{Answer}
use Rattle.frames.specs.declared.peer.Answer.TheVariants as answers
use Rattle.frames.specs.declared.session.SessionEnd.{SessionEnd}
use Rattle.frames.specs.declared.session.SessionEnd.TheVariants.{Logout, Lost}

pub data Outcome : Type 0 where
  -- a reply, after which the session goes on
  replied : List ℕ → Outcome
  -- its last reply
  ended : List ℕ → Outcome
  -- the command could not be carried out
  failed : Outcome
  -- the reply found no memory
  lost : Outcome

abbrev pub outcome_of : Answer → Outcome
outcome_of (answers.Reply reply) = replied reply.items
outcome_of (answers.LastReply reply) = ended reply.items
outcome_of answers.Failed = failed
outcome_of answers.Lost = lost

-- the total length of a frame is a number of four bytes
abbrev pub has_frame : List ℕ → Bool
has_frame reply = nat_lt (length reply + 4) (2 ^ 32)

-- a reply, or the one in place of a reply that has no frame
abbrev pub framed : List ℕ → List ℕ
framed reply = if has_frame reply then reply else closing_text

-- what is sent
abbrev pub sent : Outcome → List ℕ
sent (replied reply) = framed reply
sent (ended reply) = framed reply
sent failed = failed_text
sent lost = closing_text

-- how the session ends with that, if it does
abbrev pub end_with : Outcome → Option SessionEnd
end_with (replied reply) = if has_frame reply then None else Some Lost
end_with (ended reply) = if has_frame reply then Some Logout else Some Lost
end_with failed = None
end_with lost = Some Lost
