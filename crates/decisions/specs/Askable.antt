-- What holds of each command, since the types of its values keep it.
use Rattle.std.specs.Prelude.{◌≤◌}
use Rattle.std.specs.List.{slice_get}
use Rattle.std.specs.Option.{IfSome}
use Rattle.names.specs.Canonical.{IsCanonical}
use Rattle.protocol.specs.declared.command.Command.{Command}
use Rattle.protocol.specs.declared.command.Command.TheVariants.{Asked, Bad}
use Rattle.protocol.specs.declared.command.Request.{Request}
use Rattle.protocol.specs.Requests.{asks_of, domains_asked}
use Rattle.rules.specs.Conditions.{host_name_after}

-- a request asks for ten years at most at once (RFC 5731, 3.2.1 and 3.2.3), and its names were read
pub record IsAskable (q : Request) : Type 0 where
  pub years : (asks_of q).years ≤ 10
  pub domain : IfSome (slice_get (domains_asked q) 0) IsCanonical
  pub host : IfSome (host_name_after q) IsCanonical

abbrev pub CanBeAsked : Command → Type 0
CanBeAsked (Bad cl_trid fault) = Unit {0}
CanBeAsked (Asked cl_trid q) = IsAskable q
