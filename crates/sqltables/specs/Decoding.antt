-- What the trees of a database hold, as typed rows.
use Rattle.std.specs.Prelude.{map}
use Rattle.sqlite_value.specs.Order.{Row, column}
use Rattle.sqlite_trees.specs.Tree.{Trees}
use Rattle.sqlite_typed.specs.Columns.{bytes_of, int_of, unless_null}
use Rattle.sqltables.specs.Content.{Content}
use Rattle.sqltables.specs.Meta.{MetaRow}
use Rattle.sqltables.specs.Account.{AccountRow}
use Rattle.sqltables.specs.Contact.{ContactRow}
use Rattle.sqltables.specs.Domain.{DomainRow}
use Rattle.sqltables.specs.Host.{HostRow}
use Rattle.sqltables.specs.Address.{AddressRow}
use Rattle.sqltables.specs.Link.{LinkRow}
use Rattle.sqltables.specs.Line.{LineRow}
use Rattle.sqltables.specs.Message.{MessageRow}
use Rattle.sqltables.specs.Transfer.{TransferRow}
use Rattle.sqltables.specs.Day.{DayRow}

-- ---- a row as its record

abbrev pub meta_in : Row → MetaRow
meta_in r = record { id = int_of (column r 0); version = int_of (column r 2); clock = int_of (column r 3); zone = bytes_of (column r 4); reserved = bytes_of (column r 5); days_add = int_of (column r 6); days_auto_renew = int_of (column r 7); days_renew = int_of (column r 8); days_transfer = int_of (column r 9); days_redemption = int_of (column r 10); days_restore = int_of (column r 11); days_pending_delete = int_of (column r 12); days_answer = int_of (column r 13); days_lock = int_of (column r 14); price_create = int_of (column r 15); price_renew = int_of (column r 16); price_transfer = int_of (column r 17) }

abbrev pub account_in : Row → AccountRow
account_in r = record { id = int_of (column r 0); ident = bytes_of (column r 2); commands = int_of (column r 3); messages = int_of (column r 4); serial = int_of (column r 5); waiting = int_of (column r 6); balance = bytes_of (column r 7); held = int_of (column r 8) }

abbrev pub contact_in : Row → ContactRow
contact_in r = record { id = int_of (column r 0); name = bytes_of (column r 2); creator = int_of (column r 3); serial = int_of (column r 4); sponsor = int_of (column r 5); created = int_of (column r 6); transferred = unless_null int_of (column r 7); updated = unless_null int_of (column r 8); statuses = bytes_of (column r 9); secret = bytes_of (column r 10); voice = unless_null bytes_of (column r 18); due = unless_null int_of (column r 19); mail = bytes_of (column r 20); postal = record { name = bytes_of (column r 11); org = unless_null bytes_of (column r 12); street = bytes_of (column r 13); city = bytes_of (column r 14); state = unless_null bytes_of (column r 15); postal_code = unless_null bytes_of (column r 16); country = bytes_of (column r 17) } }

abbrev pub domain_in : Row → DomainRow
domain_in r = record { id = int_of (column r 0); name = bytes_of (column r 2); creator = int_of (column r 3); serial = int_of (column r 4); sponsor = int_of (column r 5); created = int_of (column r 6); years = int_of (column r 7); transferred = unless_null int_of (column r 8); updated = unless_null int_of (column r 9); statuses = bytes_of (column r 10); secret = bytes_of (column r 11); registrant = int_of (column r 12); deleted = unless_null int_of (column r 13); restore_requested = unless_null int_of (column r 14); due = int_of (column r 15) }

abbrev pub host_in : Row → HostRow
host_in r = record { id = int_of (column r 0); name = bytes_of (column r 2); creator = int_of (column r 3); serial = int_of (column r 4); above = bytes_of (column r 5); external_sponsor = unless_null int_of (column r 6); sponsor = unless_null int_of (column r 7); created = int_of (column r 8); updated = unless_null int_of (column r 9); statuses = bytes_of (column r 10) }

abbrev pub address_in : Row → AddressRow
address_in r =
    record { id = int_of (column r 0); host = int_of (column r 2); address = bytes_of (column r 3) }

abbrev pub link_in : Row → LinkRow
link_in r = record { id = int_of (column r 0); domain = int_of (column r 2); contact = unless_null int_of (column r 3); host = unless_null int_of (column r 4); role = int_of (column r 5); due = int_of (column r 6) }

abbrev pub line_in : Row → LineRow
line_in r = record { id = int_of (column r 0); account = int_of (column r 2); kind = int_of (column r 3); creator = unless_null int_of (column r 4); serial = unless_null int_of (column r 5); years = int_of (column r 6); cents = int_of (column r 7); refunded = unless_null int_of (column r 10); recorded = int_of (column r 11); grace = record { started = unless_null int_of (column r 8); ends = unless_null int_of (column r 9) } }

abbrev pub message_in : Row → MessageRow
message_in r = record { id = int_of (column r 0); account = int_of (column r 2); moment = int_of (column r 3); class = int_of (column r 4); number = int_of (column r 5); name = bytes_of (column r 6); subject = int_of (column r 7); notice = int_of (column r 8) }

abbrev pub transfer_in : Row → TransferRow
transfer_in r = record { id = int_of (column r 0); contact = unless_null int_of (column r 2); domain = unless_null int_of (column r 3); requester = int_of (column r 4); losing = int_of (column r 5); requested = int_of (column r 6); ac_date = int_of (column r 7); due = unless_null int_of (column r 8); state = int_of (column r 9) }

abbrev pub day_in : Row → DayRow
day_in r = record { id = int_of (column r 0); starts = int_of (column r 2); days_add = int_of (column r 3); days_auto_renew = int_of (column r 4); days_renew = int_of (column r 5); days_transfer = int_of (column r 6); days_redemption = int_of (column r 7); days_restore = int_of (column r 8); days_pending_delete = int_of (column r 9); days_answer = int_of (column r 10); days_lock = int_of (column r 11) }

-- ---- all rows

abbrev pub contents : Trees → Content
contents db = record {
  metas = map meta_in (db 0);
  accounts = map account_in (db 1);
  contacts = map contact_in (db 3);
  domains = map domain_in (db 5);
  hosts = map host_in (db 7);
  addresses = map address_in (db 9);
  links = map link_in (db 10);
  lines = map line_in (db 11);
  messages = map message_in (db 12);
  transfers = map transfer_in (db 13);
  days = map day_in (db 34);
}
