-- What is read after the end of a connection, and thrown away, so that its client reads all that was written.
use Rattle.std.specs.Prelude.{◌≤◌, ℕ, Bool, true, false, List, length, Option, None, Some}
use Rattle.std.specs.Io.KnownBytes.{Consumes}
use Rattle.std.specs.declared.io.ErrorKind.{ErrorKind}
use Rattle.std.specs.declared.io.ErrorKind.TheVariants.{WouldBlock, Interrupted}
use Rattle.server.specs.declared.connection.ConnectionEnd.{ConnectionEnd}
use Rattle.server.specs.declared.connection.ConnectionEnd.TheVariants as ends
use Rattle.server.specs.declared.http.HttpEnd.{HttpEnd}
use Rattle.server.specs.declared.http.HttpEnd.TheVariants.{Answered, Unanswered, WriteFault}
use Rattle.frames.specs.declared.session.SessionEnd.{SessionEnd}
use Rattle.frames.specs.declared.session.SessionEnd.TheVariants as session_ends

-- After a logout, a length that no frame has, or a frame or a reply that there was no memory for, a client may
-- have sent more. Where its side ended, or a read or a write failed, nothing is left that could be read.
abbrev pub session_may_have_more : SessionEnd → Bool
session_may_have_more session_ends.Logout = true
session_may_have_more session_ends.Length = true
session_may_have_more session_ends.Lost = true
session_may_have_more session_ends.End = false
session_may_have_more session_ends.Cut = false
session_may_have_more session_ends.ReadFault = false
session_may_have_more session_ends.WriteFault = false

-- After a head that was answered too. Where nothing was, nothing can be lost.
abbrev pub request_may_have_more : HttpEnd → Bool
request_may_have_more Answered = true
request_may_have_more Unanswered = false
request_may_have_more WriteFault = false

-- After one that took longer than it may, too: its replies may not have been read yet.
abbrev pub may_have_more : Option ConnectionEnd → Bool
may_have_more None = true
may_have_more (Some (ends.Session end)) = session_may_have_more end
may_have_more (Some (ends.Http end)) = request_may_have_more end
may_have_more (Some ends.Unread) = false

-- a read that failed so may be made again: nothing came while it waited, or it was interrupted
abbrev pub is_passing : ErrorKind → Bool
is_passing WouldBlock = true
is_passing Interrupted = true
is_passing _ = false

-- how many bytes are read at once at most
abbrev pub most_piece : ℕ
most_piece = 65536

-- how many bytes are read after the end of a connection at most: a hundred pieces
abbrev pub most_behind : ℕ
most_behind = 6553600

-- so many bytes are taken from the front of an input at most, and no others
abbrev pub TakesUpTo : ℕ → (input rest : Option (List ℕ)) → Type 0
TakesUpTo most input rest = (taken : List ℕ) × Consumes input rest taken × (length taken ≤ most)
