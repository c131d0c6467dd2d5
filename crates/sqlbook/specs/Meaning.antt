-- What rows mean to a book, and when the sums that are stored with them are right.
use Rattle.std.specs.Prelude.{Bool, ◌&&◌}
use Rattle.model.specs.Registry.{Registry}
use Rattle.books.specs.Book.{Stored}
use Rattle.sqltables.specs.Content.{Content}
use Rattle.sqltables.specs.Readiness.{may_be_numbered}
use Rattle.sqlaccounts.specs.Accounts.{accounts_of, sums_are_right}
use Rattle.sqldomains.specs.Domains.{domains_of}
use Rattle.sqlderived.specs.Dues.{dues_are_right}
use Rattle.sqlderived.specs.Held.{helds_are_right}
use Rattle.sqlobjects.specs.Objects.{contacts_of, hosts_of}
use Rattle.sqlobjects.specs.Sponsors.{sponsors_are_right}
use Rattle.sqlterms.specs.Clock.{clock_of}
use Rattle.sqlterms.specs.Terms.{terms_of_rows}

abbrev pub registry_of : Content → Registry
registry_of xs = record { contacts = contacts_of xs; hosts = hosts_of xs; domains = domains_of xs; accounts = accounts_of xs; clock = clock_of xs }

abbrev pub stored_of : Content → Stored
stored_of xs = record { registry = registry_of xs; terms = terms_of_rows xs }

-- ---- all sums, and the number of the schema

abbrev pub are_right : Content → Bool
are_right xs =
    may_be_numbered xs.metas
    && (sums_are_right xs && (helds_are_right xs && (dues_are_right xs && sponsors_are_right xs)))
