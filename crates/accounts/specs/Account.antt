-- The account of a registrar.
use Rattle.std.specs.Prelude.{ℕ, ◌+◌, ◌==◌, [], if◌then◌else◌}
use Rattle.accounts.specs.declared.account.Account.{Account}

-- a counter's next value, which stays at its greatest
abbrev pub saturating_next : ℕ → ℕ
saturating_next n = if n == 0xFFFF_FFFF_FFFF_FFFF then n else n + 1

-- no lines, no messages, and nothing counted
abbrev pub empty_account : Account
empty_account = record { lines = []; queue = []; commands = 0; messages = 0; serial = 0 }

-- one command more was answered
abbrev pub with_command : Account → Account
with_command a = record a { commands = saturating_next a.commands }

-- one object more was created
abbrev pub with_serial : Account → Account
with_serial a = record a { serial = saturating_next a.serial }
