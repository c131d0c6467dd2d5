-- What commands cost (RFC 5731, 3.2.1, 3.2.3 and 3.2.4: a domain is registered, renewed and transferred by
-- the year).
use Rattle.std.specs.Prelude.{ℕ, ◌*◌, Option, Some, option_and_then}
use Rattle.std.specs.List.{slice_get}
use Rattle.facts.specs.declared.facts.Facts.{Facts}
use Rattle.facts.specs.Facts.{domain_seen}
use Rattle.lifecycle.specs.Turns.{turns}
use Rattle.names.specs.RequestedName.{name_of}
use Rattle.objects.specs.declared.domain.DomainFace.{DomainFace}
use Rattle.objects.specs.declared.domain.FullDomain.{FullDomain}
use Rattle.objects.specs.declared.sight.Seen.{Seen}
use Rattle.objects.specs.declared.sight.Seen.TheVariants.{Full}
use Rattle.policy.specs.Rules.{PolicyRules}
use Rattle.protocol.specs.declared.command.Action.{Action}
use Rattle.protocol.specs.declared.command.Action.TheVariants.{Balance, Check, Info, Create, Delete, Update, Renew, RequestRestore, ReportRestore, RequestTransfer, QueryTransfer, ApproveTransfer, RejectTransfer, CancelTransfer, PollRequest, PollAck, Logout}
use Rattle.protocol.specs.declared.command.Request.{Request}
use Rattle.protocol.specs.Requests.{asks_of, domains_asked}

-- the price of a year in cents
abbrev pub price_of : PolicyRules → Action → ℕ
price_of p Logout = 0
price_of p Balance = 0
price_of p Check = 0
price_of p Info = 0
price_of p Create = p.prices.create
price_of p Delete = 0
price_of p Update = 0
price_of p Renew = p.prices.renew
price_of p RequestRestore = 0
price_of p ReportRestore = p.prices.renew
price_of p RequestTransfer = p.prices.transfer
price_of p QueryTransfer = 0
price_of p ApproveTransfer = 0
price_of p RejectTransfer = 0
price_of p CancelTransfer = 0
price_of p PollRequest = 0
price_of p PollAck = 0

-- the least number of years more with which a domain that is seen in full expires after a moment
abbrev pub years_needed : ℕ → Option (Seen FullDomain DomainFace) → ℕ
years_needed t (Some (Full known)) = turns known.domain t
years_needed t _ = 0

-- A request charges for the years that it names. The report on a restoration names none: it charges
-- for those that its domain needs (RFC 3915, 4.2.5).
abbrev pub years_for : Action → ℕ → ℕ → ℕ
years_for Logout named needed = named
years_for Balance named needed = named
years_for Check named needed = named
years_for Info named needed = named
years_for Create named needed = named
years_for Delete named needed = named
years_for Update named needed = named
years_for Renew named needed = named
years_for RequestRestore named needed = named
years_for ReportRestore named needed = needed
years_for RequestTransfer named needed = named
years_for QueryTransfer named needed = named
years_for ApproveTransfer named needed = named
years_for RejectTransfer named needed = named
years_for CancelTransfer named needed = named
years_for PollRequest named needed = named
years_for PollAck named needed = named

abbrev pub years_charged : ℕ → Request → Facts → ℕ
years_charged t q f =
    years_for (asks_of q).action (asks_of q).years
    (years_needed t (option_and_then (λ name. domain_seen f (name_of name)) (slice_get (domains_asked q) 0)))

-- each of the years has the price
abbrev pub charge_of : PolicyRules → ℕ → Request → Facts → ℕ
charge_of p t q f = price_of p (asks_of q).action * years_charged t q f
