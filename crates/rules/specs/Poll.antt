-- How a poll is answered (RFC 5730, 2.9.2.3).
use Rattle.std.specs.Prelude.{ℕ, ◌-◌, Option, Some, None}
use Rattle.accounts.specs.declared.message.CommandNotice.TheVariants as commands
use Rattle.accounts.specs.declared.message.LapseNotice.TheVariants as lapses
use Rattle.accounts.specs.declared.message.Origin.{Origin}
use Rattle.accounts.specs.declared.message.Origin.TheVariants.{Lapse, Command}
use Rattle.accounts.specs.declared.message.Subject.{Subject}
use Rattle.accounts.specs.declared.message.Subject.TheVariants as subjects
use Rattle.facts.specs.declared.facts.OldestMessage.{OldestMessage}
use Rattle.facts.specs.declared.facts.QueueFacts.{QueueFacts}
use Rattle.objects.specs.declared.roid.ObjectKind.{ObjectKind}
use Rattle.objects.specs.declared.roid.ObjectKind.TheVariants as kinds
use Rattle.protocol.specs.declared.code.Code.{Code}
use Rattle.protocol.specs.declared.code.Code.TheVariants.{CompletedNoMessages, CompletedAckToDequeue}
use Rattle.protocol.specs.declared.notice.Notice.{Notice}
use Rattle.protocol.specs.declared.notice.Notice.TheVariants as notices
use Rattle.protocol.specs.declared.reply.Polled.{Polled}

-- what a message says
abbrev pub notice_of : Origin → Notice
notice_of (Lapse lapses.RenewedAutomatically) = notices.DomainRenewed
notice_of (Lapse lapses.Purged) = notices.DomainPurged
notice_of (Lapse lapses.TransferApproved) = notices.TransferApprovedByServer
notice_of (Command number commands.TransferRequested) = notices.TransferRequested
notice_of (Command number commands.TransferApproved) = notices.TransferApproved
notice_of (Command number commands.TransferRejected) = notices.TransferRejected
notice_of (Command number commands.TransferCancelled) = notices.TransferCancelled

abbrev pub kind_of : Subject → ObjectKind
kind_of subjects.Contact = kinds.Contact
kind_of subjects.Domain = kinds.Domain

-- the oldest message is shown, and how many wait
abbrev pub polled : ℕ → OldestMessage → Polled
polled waiting oldest = record {
  id = oldest.id;
  notice = notice_of oldest.message.origin;
  kind = kind_of oldest.message.subject;
  name = oldest.message.name;
  queued = oldest.message.moment;
  count = waiting;
}

abbrev pub code_of_poll : Option OldestMessage → Code
code_of_poll None = CompletedNoMessages
code_of_poll (Some oldest) = CompletedAckToDequeue

-- how many wait once the oldest is taken out
abbrev pub left : QueueFacts → ℕ
left known = known.waiting - 1
