-- How a message lies in its row.
use Rattle.std.specs.Prelude.{ℕ, ℤ, pos, ◌&&◌, List, [], ◌∷◌, Option, Some, None, if◌then◌else◌}
use Rattle.std.specs.Ordering.{int_eq}
use Rattle.accounts.specs.Messages.{command_rank, letter_rank}
use Rattle.accounts.specs.declared.message.CommandNotice.{CommandNotice}
use Rattle.accounts.specs.declared.message.LapseNotice.{LapseNotice}
use Rattle.accounts.specs.declared.message.LapseNotice.TheVariants.{RenewedAutomatically, Purged, TransferApproved}
use Rattle.accounts.specs.declared.message.Message.{Message}
use Rattle.accounts.specs.declared.message.Origin.{Origin}
use Rattle.accounts.specs.declared.message.Origin.TheVariants.{Lapse, Command}
use Rattle.accounts.specs.declared.message.Subject.{Subject}
use Rattle.accounts.specs.declared.message.CommandNotice.TheVariants as commands
use Rattle.sqltables.specs.declared.message.MessageRow.{MessageRow}
use Rattle.sqlcolumns.specs.declared.message.OriginColumns.{OriginColumns}
use Rattle.sqlcolumns.specs.Codes.{subject_column, subject_in, with_code}
use Rattle.sqlcolumns.specs.Numbers.{exact_column, exact_in, moment_column, moment_in_column}
use Rattle.sqlcolumns.specs.Steps.{◌>>=◌}

-- ---- written

abbrev pub all_lapse_notices : List LapseNotice
all_lapse_notices = RenewedAutomatically ∷ Purged ∷ TransferApproved ∷ []

-- the place of its letter
abbrev pub lapse_notice_column : LapseNotice → ℤ
lapse_notice_column notice = pos (letter_rank notice)

abbrev pub lapse_notice_in : ℤ → Option LapseNotice
lapse_notice_in column = with_code lapse_notice_column all_lapse_notices column

abbrev pub all_command_notices : List CommandNotice
all_command_notices = commands.TransferRequested ∷ commands.TransferApproved ∷ commands.TransferRejected ∷ commands.TransferCancelled ∷ []

abbrev pub command_notice_column : CommandNotice → ℤ
command_notice_column notice = pos (command_rank notice)

abbrev pub command_notice_in : ℤ → Option CommandNotice
command_notice_in column = with_code command_notice_column all_command_notices column

-- time's messages come before those of commands, by letter; a command's by its number
abbrev pub origin_columns : Origin → Option OriginColumns
origin_columns (Lapse notice) =
    Some (record { class = pos 0; number = lapse_notice_column notice; notice = pos 0 })
origin_columns (Command number notice) = do
  n ← exact_column number
  Some (record { class = pos 1; number = n; notice = command_notice_column notice })

-- the row of a message, under its number and its account's
abbrev pub row_of_message : ℤ → ℤ → Message → Option MessageRow
row_of_message id account m = do
  o ← origin_columns m.origin
  Some (record { id = id; account = account; moment = moment_column m.moment; class = o.class; number = o.number; name = m.name; subject = subject_column m.subject; notice = o.notice })

-- ---- read

abbrev pub lapse_made : Option LapseNotice → Option Origin
lapse_made letter = do
  l ← letter
  Some (Lapse l)

abbrev pub command_made : Option ℕ → Option CommandNotice → Option Origin
command_made number notice = do
  n ← number
  k ← notice
  Some (Command n k)

-- the origin of these columns, by what is read of them
abbrev pub origin_made : OriginColumns → Option LapseNotice → Option ℕ → Option CommandNotice
    → Option Origin
origin_made columns letter number notice =
    if int_eq columns.class (pos 0) && int_eq columns.notice (pos 0) then lapse_made letter
    else (if int_eq columns.class (pos 1) then command_made number notice else None)

-- the origin of these columns, if they are one's
abbrev pub origin_in : OriginColumns → Option Origin
origin_in columns = origin_made columns (lapse_notice_in columns.number) (exact_in columns.number) (command_notice_in columns.notice)

abbrev pub origin_of : MessageRow → OriginColumns
origin_of row = record { class = row.class; number = row.number; notice = row.notice }

-- the message of these parts, if all are there
abbrev pub message_made : Option ℕ → Option Origin → Option Subject → List ℕ → Option Message
message_made moment origin subject name = do
  m ← moment
  o ← origin
  s ← subject
  Some (record { moment = m; origin = o; name = name; subject = s })

-- the message of a row, if each column reads
abbrev pub message_of_columns : MessageRow → Option Message
message_of_columns row =
    message_made (moment_in_column row.moment) (origin_in (origin_of row)) (subject_in row.subject) row.name
