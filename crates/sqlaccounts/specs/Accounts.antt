-- The accounts that rows of the tables mean.
use Rattle.std.specs.Prelude.{◌&&◌, ℕ, ℤ, pos, Bool, true, List, [], ◌∷◌, ◌++◌, fold, length, codes, decimal, Option}
use Rattle.std.specs.FinMap.{FinMap, from_entries, get}
use Rattle.std.specs.Int.{cast_signed, from_be_bytes, w128}
use Rattle.std.specs.List.{filter, filter_map, list_all}
use Rattle.std.specs.Option.{option_map, option_map_or, unwrap_or}
use Rattle.std.specs.Ordering.{int_eq, nat_cmp}
use Rattle.sqlite_keyed.specs.Keyed.{get_by}
use Rattle.accounts.specs.declared.account.Account.{Account}
use Rattle.accounts.specs.declared.line.Line.{Line}
use Rattle.accounts.specs.declared.message.Message.{Message}
use Rattle.accounts.specs.Account.{empty_account}
use Rattle.accounts.specs.Lines.{balance, in_order}
use Rattle.accounts.specs.Queue.{put}
use Rattle.basis.specs.Bag.{bag_of}
use Rattle.sqlcolumns.specs.Lines.{line_of_columns}
use Rattle.sqlcolumns.specs.Messages.{message_of_columns}
use Rattle.sqlcolumns.specs.Numbers.{counter_in, registrar_in}
use Rattle.sqltables.specs.Account as account_table
use Rattle.sqltables.specs.declared.account.AccountRow.{AccountRow}
use Rattle.sqltables.specs.Content.{Content}
use Rattle.sqltables.specs.Line.{line_with_account}
use Rattle.sqltables.specs.Message.{message_with_account}

-- the lines under an account's number, of the rows that read
abbrev pub lines_under : Content → ℤ → List Line
lines_under xs id = bag_of in_order (filter_map line_of_columns (filter (line_with_account id) xs.lines))

-- the messages, each put where it belongs
abbrev pub put_all : List Message → List Message
put_all messages = fold (λ queue m. put m queue) [] messages

-- the messages under an account's number, of the rows that read
abbrev pub queue_under : Content → ℤ → List Message
queue_under xs id = put_all (filter_map message_of_columns (filter (message_with_account id) xs.messages))

-- the account of a row
abbrev pub account_of_row : Content → AccountRow → Account
account_of_row xs row = record {
  lines = lines_under xs row.id;
  queue = queue_under xs row.id;
  commands = counter_in row.commands;
  messages = counter_in row.messages;
  serial = counter_in row.serial;
}

-- the accounts of the rows whose number is a registrar's place
abbrev pub entries_of : Content → List AccountRow → List (ℕ × Account)
entries_of xs [] = []
entries_of xs (row ∷ rows) = option_map_or (λ place. (place, account_of_row xs row) ∷ entries_of xs rows) (registrar_in row.id) (entries_of xs rows)

abbrev pub accounts_of : Content → FinMap nat_cmp Account
accounts_of xs = from_entries (entries_of xs xs.accounts)

-- what a registrar's account has: nothing where it was never opened
abbrev pub account_of_rows : ℕ → Content → Account
account_of_rows r xs = unwrap_or (get (accounts_of xs) r) empty_account

-- the first row with a number
abbrev pub row_of : Content → ℤ → Option AccountRow
row_of xs id = get_by account_table.accounts.key xs.accounts id

-- ---- the sums that a row keeps

-- the cents of sixteen bytes, two's complement, the highest first
abbrev pub balance_in : List ℕ → ℤ
balance_in bytes = cast_signed w128 (from_be_bytes w128 bytes)

-- the columns are what the lines add up to, and how many messages wait
abbrev pub is_right : Content → AccountRow → Bool
is_right xs row =
    int_eq (balance_in row.balance) (balance (lines_under xs row.id))
    && int_eq row.waiting (pos (length (queue_under xs row.id)))

-- those of the row with a number, if there is one
abbrev pub has_right_sums : Content → ℤ → Bool
has_right_sums xs id = option_map_or (is_right xs) (row_of xs id) true

-- all accounts' sums are right
abbrev pub sums_are_right : Content → Bool
sums_are_right xs = list_all (λ (row : AccountRow). has_right_sums xs row.id) xs.accounts

-- ---- what a row keeps besides

-- who it is, and how many domains are its own
abbrev pub ident_and_held : AccountRow → List ℕ × ℤ
ident_and_held row = (row.ident, row.held)

abbrev pub ident_and_held_of : Content → ℤ → Option (List ℕ × ℤ)
ident_and_held_of xs id = option_map ident_and_held (row_of xs id)

-- the ident of an account that was opened and has no id yet: # and its place
abbrev pub place_ident : ℕ → List ℕ
place_ident place = codes "#" ++ decimal place
