-- What ordered maps hold.
use Rattle.model.specs.Registry.{Registry}
use Rattle.mapbook.specs.declared.content.Content.{Content}
use Rattle.books.specs.Book.{Stored}

abbrev pub registry_in : Content → Registry
registry_in c = record { contacts = c.contacts; hosts = c.hosts; domains = c.domains; accounts = c.accounts; clock = c.clock }

abbrev pub content_of : Content → Stored
content_of c = record { registry = registry_in c; terms = c.terms }
