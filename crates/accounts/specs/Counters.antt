-- What an account counts.
use Rattle.accounts.specs.Account.{saturating_next}
use Rattle.accounts.specs.declared.account.Account.{Account}
use Rattle.accounts.specs.declared.counters.Counters.{Counters}

abbrev pub counters_of : Account → Counters
counters_of a = record { commands = a.commands; messages = a.messages; serial = a.serial }

abbrev pub with_counters : Counters → Account → Account
with_counters x a = record a { commands = x.commands; messages = x.messages; serial = x.serial }

-- one command, one message and one object more
abbrev pub next_command : Counters → Counters
next_command x = record x { commands = saturating_next x.commands }

abbrev pub next_message : Counters → Counters
next_message x = record x { messages = saturating_next x.messages }

abbrev pub next_serial : Counters → Counters
next_serial x = record x { serial = saturating_next x.serial }
