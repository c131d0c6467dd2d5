-- Messages to a registrar (RFC 5730, 2.9.2.3).
use Rattle.std.specs.Prelude.{ℕ, List, ◌++◌, codes, decimal}
use Rattle.std.specs.Cmp.Lexicographic.{slice_cmp}
use Rattle.std.specs.Ordering.{nat_cmp, on, then_cmp}
use Rattle.std.specs.declared.cmp.Ordering.{Ordering}
use Rattle.accounts.specs.declared.message.CommandNotice.{CommandNotice}
use Rattle.accounts.specs.declared.message.CommandNotice.TheVariants as commands
use Rattle.accounts.specs.declared.message.LapseNotice.{LapseNotice}
use Rattle.accounts.specs.declared.message.LapseNotice.TheVariants.{RenewedAutomatically, Purged, TransferApproved}
use Rattle.accounts.specs.declared.message.Message.{Message}
use Rattle.accounts.specs.declared.message.Origin.{Origin}
use Rattle.accounts.specs.declared.message.Origin.TheVariants.{Lapse, Command}
use Rattle.accounts.specs.declared.message.Subject.{Subject}
use Rattle.accounts.specs.declared.message.Subject.TheVariants.{Contact, Domain}

-- ---- identifiers

abbrev pub letter_of : LapseNotice → List ℕ
letter_of RenewedAutomatically = codes "A"
letter_of Purged = codes "P"
letter_of TransferApproved = codes "T"

-- a command's message is known by the recipient's number for it; a lapse's by its moment, what
-- happened, and the object
abbrev pub id_of : Origin → ℕ → List ℕ → List ℕ
id_of (Command number notice) moment name = codes "C" ++ decimal number
id_of (Lapse notice) moment name = codes "L" ++ decimal moment ++ codes "-" ++ letter_of notice ++ codes "-" ++ name

abbrev pub message_id : Message → List ℕ
message_id m = id_of m.origin m.moment m.name

-- ---- the order of a queue

abbrev pub letter_rank : LapseNotice → ℕ
letter_rank RenewedAutomatically = 0
letter_rank Purged = 1
letter_rank TransferApproved = 2

abbrev pub command_rank : CommandNotice → ℕ
command_rank commands.TransferRequested = 0
command_rank commands.TransferApproved = 1
command_rank commands.TransferRejected = 2
command_rank commands.TransferCancelled = 3

abbrev pub subject_rank : Subject → ℕ
subject_rank Contact = 0
subject_rank Domain = 1

-- a lapse's messages come before those of commands
abbrev pub class_of : Origin → ℕ
class_of (Lapse notice) = 0
class_of (Command number notice) = 1

-- by letter, and by number
abbrev pub number_of : Origin → ℕ
number_of (Lapse notice) = letter_rank notice
number_of (Command number notice) = number

-- what is left to tell two messages of commands apart, of which no queue has two with one number
abbrev pub tie_of : Origin → ℕ
tie_of (Lapse notice) = 0
tie_of (Command number notice) = command_rank notice

-- by moment; at one moment a lapse's by letter and then the object's name, then commands' by number
abbrev pub message_cmp : Message → Message → Ordering
message_cmp =
    then_cmp (then_cmp (then_cmp (then_cmp (then_cmp
    (on (λ (m : Message). m.moment) nat_cmp)
    (on (λ (m : Message). class_of m.origin) nat_cmp))
    (on (λ (m : Message). number_of m.origin) nat_cmp))
    (on (λ (m : Message). m.name) (slice_cmp nat_cmp)))
    (on (λ (m : Message). subject_rank m.subject) nat_cmp))
    (on (λ (m : Message). tie_of m.origin) nat_cmp)
