-- Answers on the operator's port (RFC 9112, 4 to 6).
use Rattle.std.specs.Prelude.{ℕ, List, [], ◌∷◌, ◌++◌, codes, decimal, length}
use Rattle.operator.specs.declared.answer.Outcome.{Outcome}
use Rattle.operator.specs.declared.answer.Outcome.TheVariants.{Done, Malformed, Unauthorized, NotFound, OnlyGet, OnlyPost, Conflict, LengthRequired, TooLarge, Failed}
use Rattle.operator.specs.declared.answer.Kind.{Kind}
use Rattle.operator.specs.declared.answer.Kind.TheVariants.{Json, Plain, Prometheus, Csv, Dns}
use Rattle.operator.specs.declared.request.Refusal.{Refusal}
use Rattle.operator.specs.declared.request.Refusal.TheVariants as refusals
use Rattle.registry.specs.declared.backlog.Backlog.{Backlog}

-- code and reason (RFC 9110, 15)
abbrev pub status_of : Outcome → List ℕ
status_of Done = codes "200 OK"
status_of Malformed = codes "400 Bad Request"
status_of Unauthorized = codes "401 Unauthorized"
status_of NotFound = codes "404 Not Found"
status_of OnlyGet = codes "405 Method Not Allowed"
status_of OnlyPost = codes "405 Method Not Allowed"
status_of Conflict = codes "409 Conflict"
status_of LengthRequired = codes "411 Length Required"
status_of TooLarge = codes "413 Content Too Large"
status_of Failed = codes "500 Internal Server Error"

-- the scheme that is asked for (RFC 9110, 11.6.1; RFC 6750, 3), and the method that there is (RFC 9110, 10.2.1)
abbrev pub field_of : Outcome → List ℕ
field_of Unauthorized = codes "WWW-Authenticate: Bearer\r\n"
field_of OnlyGet = codes "Allow: GET\r\n"
field_of OnlyPost = codes "Allow: POST\r\n"
field_of Done = []
field_of Malformed = []
field_of NotFound = []
field_of Conflict = []
field_of LengthRequired = []
field_of TooLarge = []
field_of Failed = []

abbrev pub type_of : Kind → List ℕ
type_of Json = codes "application/json"
type_of Plain = codes "text/plain"
type_of Prometheus = codes "text/plain; version=0.0.4"
-- RFC 4180, 3
type_of Csv = codes "text/csv"
-- RFC 4027, 2
type_of Dns = codes "text/dns"

-- the pieces, one after the other
abbrev pub joined : List (List ℕ) → List ℕ
joined [] = []
joined (piece ∷ pieces) = piece ++ joined pieces

-- the status line, the fields and an empty line, for a body of that length
abbrev pub head_of_kind : Outcome → Kind → ℕ → List ℕ
head_of_kind outcome kind len = joined (
    codes "HTTP/1.1 " ∷ status_of outcome
    ∷ codes "\r\nContent-Type: " ∷ type_of kind ∷ codes "\r\nContent-Length: " ∷ decimal len
    ∷ codes "\r\n" ∷ field_of outcome ∷ codes "Connection: close\r\n\r\n" ∷ []
    )

abbrev pub response_of_kind : Outcome → Kind → List ℕ → List ℕ
response_of_kind outcome kind body = head_of_kind outcome kind (length body) ++ body

-- ---- refusals

-- what is answered where nothing is done: the outcome, and the same words as the body
abbrev pub refusal : Outcome → List ℕ
refusal outcome = response_of_kind outcome Plain (status_of outcome)

abbrev pub refusal_outcome : Refusal → Outcome
refusal_outcome refusals.Token = Unauthorized
refusal_outcome refusals.Target = NotFound
refusal_outcome refusals.Query = Malformed
refusal_outcome refusals.OnlyGet = OnlyGet
refusal_outcome refusals.OnlyPost = OnlyPost
refusal_outcome refusals.Length = LengthRequired
refusal_outcome refusals.Size = TooLarge

-- ---- figures

-- the registry's clock, in seconds since 1970, in Prometheus' text format
unfoldable pub clock_figure : ℕ → List ℕ
clock_figure clock = joined (
    codes "# TYPE tldreg_registry_clock_seconds gauge\ntldreg_registry_clock_seconds " ∷ decimal clock
    ∷ codes "\n" ∷ []
    )

-- how many objects are due that haven't lapsed yet
unfoldable pub due_figure : ℕ → List ℕ
due_figure due = joined (
    codes "# TYPE tldreg_due_objects gauge\ntldreg_due_objects " ∷ decimal due ∷ codes "\n" ∷ []
    )

-- of a registry
abbrev pub registry_figures : Backlog → List ℕ
registry_figures backlog = clock_figure backlog.clock ++ due_figure backlog.due
