-- What the eleven tables hold.
use Rattle.std.specs.Prelude.{List, []}
use Rattle.sqltables.specs.Meta.{MetaRow}
use Rattle.sqltables.specs.Account.{AccountRow}
use Rattle.sqltables.specs.Contact.{ContactRow}
use Rattle.sqltables.specs.Domain.{DomainRow}
use Rattle.sqltables.specs.Host.{HostRow}
use Rattle.sqltables.specs.Address.{AddressRow}
use Rattle.sqltables.specs.Link.{LinkRow}
use Rattle.sqltables.specs.Line.{LineRow}
use Rattle.sqltables.specs.Message.{MessageRow}
use Rattle.sqltables.specs.Transfer.{TransferRow}
use Rattle.sqltables.specs.Day.{DayRow}

pub record Content : Type 0 where
  pub metas : List MetaRow
  pub accounts : List AccountRow
  pub contacts : List ContactRow
  pub domains : List DomainRow
  pub hosts : List HostRow
  pub addresses : List AddressRow
  pub links : List LinkRow
  pub lines : List LineRow
  pub messages : List MessageRow
  pub transfers : List TransferRow
  pub days : List DayRow

abbrev pub no_content : Content
no_content = record { metas = []; accounts = []; contacts = []; domains = []; hosts = []; addresses = []; links = []; lines = []; messages = []; transfers = []; days = [] }
