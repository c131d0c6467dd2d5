-- Answers on the wire (RFC 7480, 5).
use Rattle.std.specs.Prelude.{ℕ, List, [], ◌∷◌, ◌++◌, codes, decimal, length}
use Rattle.rdap.specs.declared.wire.Outcome.{Outcome}
use Rattle.rdap.specs.declared.wire.Outcome.TheVariants.{Found, BadRequest, NotFound, MethodNotAllowed}

-- the pieces, one after the other
abbrev pub joined : List (List ℕ) → List ℕ
joined [] = []
joined (piece ∷ pieces) = piece ++ joined pieces

-- codes (RFC 9110, 15)
abbrev pub status_code : Outcome → ℕ
status_code Found = 200
status_code BadRequest = 400
status_code NotFound = 404
status_code MethodNotAllowed = 405

-- code and reason (RFC 9110, 15)
abbrev pub code_and_reason : Outcome → List ℕ
code_and_reason Found = codes "200 OK"
code_and_reason BadRequest = codes "400 Bad Request"
code_and_reason NotFound = codes "404 Not Found"
code_and_reason MethodNotAllowed = codes "405 Method Not Allowed"

-- the methods that there are, where another was asked (RFC 9110, 15.5.6)
abbrev pub allow_field_of : Outcome → List ℕ
allow_field_of MethodNotAllowed = codes "Allow: GET\r\n"
allow_field_of Found = []
allow_field_of BadRequest = []
allow_field_of NotFound = []

-- the status line, the fields and an empty line, for a body of that length
abbrev pub head : Outcome → ℕ → List ℕ
head outcome len = joined (
    codes "HTTP/1.1 " ∷ code_and_reason outcome
    ∷ codes "\r\nContent-Type: application/rdap+json\r\nContent-Length: " ∷ decimal len
    ∷ codes "\r\n" ∷ allow_field_of outcome ∷ codes "Connection: close\r\n\r\n" ∷ []
    )

abbrev pub response : Outcome → List ℕ → List ℕ
response outcome body = head outcome (length body) ++ body

-- the body of an error (RFC 9083, 6), and the help (RFC 9083, 7)
abbrev pub fixed_body_of : Outcome → List ℕ
fixed_body_of Found = codes "{\"notices\":[{\"description\":[\"Domain, nameserver and entity look-ups.\"],\"title\":\"Help\"}],\"rdapConformance\":[\"rdap_level_0\"]}"
fixed_body_of BadRequest = codes "{\"errorCode\":400,\"rdapConformance\":[\"rdap_level_0\"],\"title\":\"Bad Request\"}"
fixed_body_of NotFound = codes "{\"errorCode\":404,\"rdapConformance\":[\"rdap_level_0\"],\"title\":\"Not Found\"}"
fixed_body_of MethodNotAllowed = codes "{\"errorCode\":405,\"rdapConformance\":[\"rdap_level_0\"],\"title\":\"Method Not Allowed\"}"
