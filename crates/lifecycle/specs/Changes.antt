-- What commands, orders and time do to an account.
use Rattle.std.specs.Prelude.{ℕ, List, fold}
use Rattle.basis.specs.Bag.{add, remade}
use Rattle.accounts.specs.declared.account.Account.{Account}
use Rattle.accounts.specs.declared.line.Line.{Line}
use Rattle.accounts.specs.declared.message.Message.{Message}
use Rattle.accounts.specs.declared.message.Origin.TheVariants as origins
use Rattle.accounts.specs.Account.{saturating_next, with_command, with_serial}
use Rattle.accounts.specs.Entries.{entered, with_lines, with_queue}
use Rattle.accounts.specs.Lines.{in_order, transfer_refunded}
use Rattle.accounts.specs.Queue.{acked, put}
use Rattle.policy.specs.Rules.{PolicyRules}
use Rattle.lifecycle.specs.declared.change.AccountChange.{AccountChange}
use Rattle.lifecycle.specs.declared.change.AccountChange.TheVariants.{Charge, RefundRunning, RefundTransfer, Lapse, Notify, Ack, CountCommand, TakeSerial}
use Rattle.lifecycle.specs.declared.change.Notification.{Notification}
use Rattle.lifecycle.specs.declared.change.RefundUnder.{RefundUnder}
use Rattle.lifecycle.specs.declared.change.RunningRefund.{RunningRefund}
use Rattle.lifecycle.specs.Graces.{refunded_running}

-- a refund is of the whole line, and gives back each whose grace runs (RFC 3915, 3.1)
abbrev pub refunded_by : PolicyRules → RunningRefund → Line → Line
refunded_by p r = refunded_running p r.moment r.roid r.transferred

abbrev pub refunded_under : RefundUnder → Line → Line
refunded_under r = refunded_by r.policy.now r.refund

abbrev pub with_running_refunded : PolicyRules → RunningRefund → Account → Account
with_running_refunded p r a = with_lines (remade in_order (refunded_by p r)) a

-- the message that a command brings, with the recipient's next number
abbrev pub numbered : ℕ → Notification → Message
numbered number n = record { moment = n.moment; origin = origins.Command number n.notice; name = n.name; subject = n.subject }

abbrev pub notified : Notification → Account → Account
notified n a = record a { queue = put (numbered (saturating_next a.messages) n) a.queue; messages = saturating_next a.messages }

abbrev pub with_acked : List ℕ → Account → Account
with_acked id a = with_queue (acked id) a

-- the account after the change
abbrev pub changed : PolicyRules → AccountChange → Account → Account
changed p (Charge line) a = with_lines (add in_order line) a
changed p (RefundRunning r) a = with_running_refunded p r a
changed p (RefundTransfer r) a = with_lines (remade in_order (transfer_refunded r)) a
changed p (Lapse what) a = entered what a
changed p (Notify n) a = notified n a
changed p (Ack id) a = with_acked id a
changed p CountCommand a = with_command a
changed p TakeSerial a = with_serial a

-- the account after these changes, one after another
abbrev pub all_changed : PolicyRules → List AccountChange → Account → Account
all_changed p changes a = fold (λ a what. changed p what a) a changes
