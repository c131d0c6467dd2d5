-- The two replies that need no memory (RFC 5730, 3: 2400, 2500).
use Rattle.std.specs.Prelude.{ℕ, List, codes}

-- a command could not be carried out
abbrev pub failed_text : List ℕ
failed_text = codes "{\"code\":2400,\"msg\":\"Command failed\",\"svTRID\":\"ANON\"}"

-- the server closes the connection
abbrev pub closing_text : List ℕ
closing_text = codes "{\"code\":2500,\"msg\":\"Command failed; server closing connection\",\"svTRID\":\"ANON\"}"
