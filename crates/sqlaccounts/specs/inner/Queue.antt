-- The row of a message, what is found where it is looked for, and how many wait.
use Rattle.std.specs.Prelude.{◌≡◌, ℕ, ℤ, ◌+ℤ◌, Some, filter}
use Rattle.accounts.specs.declared.message.Message.{Message}
use Rattle.sqlcolumns.specs.Messages.{message_of_columns}
use Rattle.sqlcolumns.specs.Numbers.{registrar_column}
use Rattle.sqltables.specs.Content.{Content}
use Rattle.sqltables.specs.Message.{is_same_message}
use Rattle.sqltables.specs.declared.account.AccountRow.{AccountRow}
use Rattle.sqltables.specs.declared.message.MessageRow.{MessageRow}
use Rattle.sqlaccounts.specs.declared.queue.Found.{Found}

-- under the account's number it reads as the message
pub record IsWritten (id : ℤ) (m : Message) (row : MessageRow) : Type 0 where
  pub account : row.account ≡ id
  pub reads : message_of_columns row ≡ Some m

-- as many messages more wait
pub record IsWaitingMore (step : ℤ) (row changed : AccountRow) : Type 0 where
  pub rest : changed ≡ record row { waiting = row.waiting +ℤ step }

-- the row of the message, and all rows with its columns
pub record IsFound (xs : Content) (r : ℕ) (m : Message) (it : Found) : Type 0 where
  pub written : IsWritten (registrar_column r) m it.row
  pub same : it.same ≡ filter (is_same_message it.row) xs.messages
