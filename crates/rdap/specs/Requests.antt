-- What a request asks for (RFC 9082, 3.1), by its method and its target.
use Rattle.std.specs.Prelude.{ℕ, Bool, not, ◌&&◌, ◌||◌, ◌==◌, nat_lt, if◌then◌else◌, List, length, take, drop, Option, Some, None, codes}
use Rattle.std.specs.Char.{is_ascii_alphanumeric}
use Rattle.std.specs.List.{list_all, list_any, position}
use Rattle.std.specs.Str.{bytes_eq}
use Rattle.rdap.specs.declared.wire.Outcome.TheVariants.{BadRequest, NotFound, MethodNotAllowed}
use Rattle.rdap.specs.declared.request.Request.{Request}
use Rattle.rdap.specs.declared.request.Request.TheVariants.{Domain, Nameserver, Entity, Help, Refused}

-- the first question mark of a target, where its query begins (RFC 3986, 3.4)
abbrev pub query_start : List ℕ → Option ℕ
query_start target = position (λ b. b == 63) target

abbrev pub target_up_to : Option ℕ → List ℕ → List ℕ
target_up_to None target = target
target_up_to (Some end) target = take end target

-- the part before the query (RFC 3986, 3.3)
abbrev pub path_of : List ℕ → List ℕ
path_of target = target_up_to (query_start target) target

-- a byte of a path that is read as it is: none above 126, no number sign and no percent sign
abbrev pub is_plain_byte : ℕ → Bool
is_plain_byte b = nat_lt b 127 && not (b == 35) && not (b == 37)

-- no escapes and no other letters than those of ASCII
abbrev pub is_plain_path : List ℕ → Bool
is_plain_path path = list_all is_plain_byte path

-- what follows the front, of a text that begins with it
abbrev pub after : List ℕ → List ℕ → Option (List ℕ)
after front text = if bytes_eq (take (length front) text) front then Some (drop (length front) text) else None

abbrev pub has_slash : List ℕ → Bool
has_slash name = list_any (λ b. b == 47) name

-- one segment of a path (RFC 3986, 3.3) that isn't empty
abbrev pub is_segment : List ℕ → Bool
is_segment name = not (length name == 0) && not (has_slash name)

abbrev pub segment : Option (List ℕ) → Option (List ℕ)
segment None = None
segment (Some name) = if is_segment name then Some name else None

-- the last segment of a path below a folder
abbrev pub segment_below : List ℕ → List ℕ → Option (List ℕ)
segment_below folder path = segment (after folder path)

-- letters, digits and hyphens, as the names of contacts have
abbrev pub is_handle : List ℕ → Bool
is_handle handle = list_all (λ b. is_ascii_alphanumeric b || b == 45) handle

abbrev pub entity_at : Option (List ℕ) → Request
entity_at None = Refused NotFound
entity_at (Some handle) = if is_handle handle then Entity handle else Refused BadRequest

abbrev pub nameserver_at : Option (List ℕ) → Request → Request
nameserver_at None other = other
nameserver_at (Some name) other = Nameserver name

abbrev pub domain_or : Option (List ℕ) → Request → Request
domain_or None other = other
domain_or (Some name) other = Domain name

-- the paths that there are
abbrev pub request_at : List ℕ → Request
request_at path =
    if bytes_eq path (codes "/help") then Help
    else domain_or (segment_below (codes "/domain/") path)
    (nameserver_at (segment_below (codes "/nameserver/") path)
    (entity_at (segment_below (codes "/entity/") path)))

-- another method than GET is refused first, then a path that isn't plain
unfoldable pub request_of : List ℕ → List ℕ → Request
request_of method target =
    if not (bytes_eq method (codes "GET")) then Refused MethodNotAllowed
    else if not (is_plain_path (path_of target)) then Refused BadRequest
    else request_at (path_of target)
