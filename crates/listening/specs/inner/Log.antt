-- How the log names the end of a connection. One that took longer than it may has no end of its own.
use Rattle.std.specs.Prelude.{ℕ, List, Option, None, Some, codes}
use Rattle.frames.specs.declared.session.SessionEnd.{SessionEnd}
use Rattle.frames.specs.declared.session.SessionEnd.TheVariants as sessions
use Rattle.operator.specs.declared.serving.RequestEnd.{RequestEnd}
use Rattle.operator.specs.declared.serving.RequestEnd.TheVariants as requests
use Rattle.server.specs.declared.connection.ConnectionEnd.{ConnectionEnd}
use Rattle.server.specs.declared.connection.ConnectionEnd.TheVariants.{Session, Http, Unread}
use Rattle.server.specs.declared.http.HttpEnd.{HttpEnd}
use Rattle.server.specs.declared.http.HttpEnd.TheVariants.{Answered, Unanswered, WriteFault}

abbrev pub session_word : SessionEnd → List ℕ
session_word sessions.Logout = codes "logout"
session_word sessions.End = codes "closed"
session_word sessions.Cut = codes "cut"
session_word sessions.Length = codes "length"
session_word sessions.Lost = codes "memory"
session_word sessions.ReadFault = codes "broken"
session_word sessions.WriteFault = codes "broken"

abbrev pub http_word : HttpEnd → List ℕ
http_word Answered = codes "answered"
http_word Unanswered = codes "unanswered"
http_word WriteFault = codes "broken"

-- of the public port
abbrev pub end_word : Option ConnectionEnd → List ℕ
end_word None = codes "late"
end_word (Some (Session end)) = session_word end
end_word (Some (Http end)) = http_word end
end_word (Some Unread) = codes "broken"

-- of the operator's port
abbrev pub request_word : Option RequestEnd → List ℕ
request_word None = codes "late"
request_word (Some requests.Answered) = codes "answered"
request_word (Some requests.Cut) = codes "broken"
request_word (Some requests.Unanswered) = codes "unanswered"
