-- What time alone enters into an account.
use Rattle.std.specs.Prelude.{List, Some, None}
use Rattle.std.specs.FinMap.{FinMap}
use Rattle.std.specs.Ordering.{nat_cmp}
use Rattle.basis.specs.Bag.{add, remade}
use Rattle.basis.specs.Sweeps.{change_at}
use Rattle.accounts.specs.declared.account.Account.{Account}
use Rattle.accounts.specs.declared.entries.AutoRenewal.{AutoRenewal}
use Rattle.accounts.specs.declared.entries.LapseEntry.{LapseEntry}
use Rattle.accounts.specs.declared.entries.LapseEntry.TheVariants.{Renewal, Start, Notice}
use Rattle.accounts.specs.declared.entries.Posting.{Posting}
use Rattle.accounts.specs.declared.line.Line.{Line}
use Rattle.accounts.specs.declared.line.LineKind.TheVariants as kinds
use Rattle.accounts.specs.declared.message.Message.{Message}
use Rattle.accounts.specs.Account.{empty_account}
use Rattle.accounts.specs.Lines.{in_order, transfer_started}
use Rattle.accounts.specs.Queue.{put}

abbrev pub with_lines : (List Line → List Line) → Account → Account
with_lines f a = record a { lines = f a.lines }

abbrev pub with_queue : (List Message → List Message) → Account → Account
with_queue f a = record a { queue = f a.queue }

-- the charge of an automatic year, whose grace begins at once (RFC 3915, 3.1)
abbrev pub renewal_line : AutoRenewal → Line
renewal_line r = record { kind = kinds.AutoRenew; roid = Some r.roid; recorded = r.moment; years = 1; cents = r.cents; started = Some r.moment; refunded = None }

-- the account with an entry that time made
abbrev pub entered : LapseEntry → Account → Account
entered (Renewal r) a = with_lines (add in_order (renewal_line r)) a
entered (Start s) a = with_lines (remade in_order (transfer_started s)) a
entered (Notice m) a = with_queue (put m) a

-- the accounts with an entry in one registrar's
abbrev pub posted : FinMap nat_cmp Account → Posting → FinMap nat_cmp Account
posted accounts p = change_at empty_account p.registrar (entered p.what) accounts
