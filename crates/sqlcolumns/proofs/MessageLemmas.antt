-- A message is read from its row, and from no other.
use Rattle.std.proofs.Common.{arith, rules, ◌≡◌, ℤ, pos, Bool, true, cond, ◌&&◌, Option, Some, None, sym, ap, ◌∙◌}
use Rattle.std.proofs.lemmas.{Bool.{and_parts, Decides.{Decides-int_eq, nat_tests}}, Int.ints}
use Rattle.std.specs.Ordering.{int_eq}
use Rattle.calendar.specs.Moment.{IsMoment}
use Rattle.accounts.specs.declared.message.{CommandNotice.CommandNotice, LapseNotice.LapseNotice, Message.Message, Origin.Origin}
use Rattle.accounts.specs.declared.message.Origin.TheVariants.{Lapse, Command}
use Rattle.sqltables.specs.declared.message.MessageRow.{MessageRow}
use Rattle.sqlcolumns.specs.{declared.message.OriginColumns.OriginColumns, Codes.{subject_column, subject_in}}
use Rattle.sqlcolumns.specs.{Numbers.{exact_column, exact_in, moment_column, moment_in_column}}
use Rattle.sqlcolumns.specs.Messages.{all_command_notices, all_lapse_notices, command_made, command_notice_column, command_notice_in, lapse_made, lapse_notice_column, lapse_notice_in, message_of_columns, origin_columns, origin_in, origin_of, row_of_message}
use Rattle.sqlcolumns.proofs.CodeLemmas.{code_written, subject_back, subject_written}
use Rattle.sqlcolumns.proofs.{NumberLemmas.{exact_back, exact_written, moment_back}, ReadLemmas.{same_some, step}}

-- ---- codes

pub lapse_notice_back : (n : LapseNotice) → lapse_notice_in (lapse_notice_column n) ≡ Some n
lapse_notice_back n = search rules

pub lapse_notice_written : (c : ℤ) (n : LapseNotice) → lapse_notice_in c ≡ Some n → lapse_notice_column n ≡ c
lapse_notice_written c n e = code_written lapse_notice_column all_lapse_notices c n e

pub command_notice_back : (n : CommandNotice) → command_notice_in (command_notice_column n) ≡ Some n
command_notice_back n = search rules

pub command_notice_written : (c : ℤ) (n : CommandNotice) → command_notice_in c ≡ Some n → command_notice_column n ≡ c
command_notice_written c n e = code_written command_notice_column all_command_notices c n e

-- ---- origins

-- what was written is read back
pub origin_back : (origin : Origin) (c : OriginColumns) → origin_columns origin ≡ Some c → origin_in c ≡ Some origin
origin_back (Lapse notice) c e = grind (arith, lapse_notice_back notice, e)
origin_back (Command number notice) c e =
    let n = step (exact_column number) (λ z. Some (record { class = pos 1; number = z; notice = command_notice_column notice })) c e in
    let same : ◌≡◌ {A = OriginColumns} (record { class = pos 1; number = n.given; notice = command_notice_column notice }) c = same_some _ _ n.rest in
    sym (ap origin_in same) ∙ (λ i. command_made (exact_back number n.given n.is i) (command_notice_back notice i))

lapse_written : (c : OriginColumns) (origin : Origin) → c.class ≡ pos 0 → c.notice ≡ pos 0 → lapse_made (lapse_notice_in c.number) ≡ Some origin → origin_columns origin ≡ Some c
lapse_written c origin class notice e = grind (arith, lapse_notice_written c.number, class, notice, e)

command_written : (c : OriginColumns) (origin : Origin) → c.class ≡ pos 1 → command_made (exact_in c.number) (command_notice_in c.notice) ≡ Some origin → origin_columns origin ≡ Some c
command_written c origin class e = grind (arith, exact_written c.number, command_notice_written c.notice, class, e)

at_tests : (origin : Origin) (P : Type 0) (lapse command : Option Origin) (a b : Bool) → (a ≡ true → lapse ≡ Some origin → P) → (b ≡ true → command ≡ Some origin → P) → cond a lapse (cond b command None) ≡ Some origin → P
at_tests origin P lapse command a b l k e = grind (arith, l, k, e)

-- what is read was written so
pub origin_written : (c : OriginColumns) (origin : Origin) → origin_in c ≡ Some origin → origin_columns origin ≡ Some c
origin_written c origin e =
    at_tests origin (origin_columns origin ≡ Some c) (lapse_made (lapse_notice_in c.number)) (command_made (exact_in c.number) (command_notice_in c.notice))
    (int_eq c.class (pos 0) && int_eq c.notice (pos 0)) (int_eq c.class (pos 1))
    (λ t. let tests = and_parts (int_eq c.class (pos 0)) (int_eq c.notice (pos 0)) t in
    lapse_written c origin ((Decides-int_eq c.class (pos 0)).0 tests.0) ((Decides-int_eq c.notice (pos 0)).0 tests.1))
    (λ t. command_written c origin ((Decides-int_eq c.class (pos 1)).0 t))
    e

-- ---- messages

abbrev row_with : ℤ → ℤ → Message → OriginColumns → MessageRow
row_with id account m o = record { id = id; account = account; moment = moment_column m.moment; class = o.class; number = o.number; name = m.name; subject = subject_column m.subject; notice = o.notice }

-- what was written is read back
pub message_back : (id account : ℤ) (m : Message) (row : MessageRow) → IsMoment m.moment → row_of_message id account m ≡ Some row → message_of_columns row ≡ Some m
message_back id account m row is e =
    let o = step (origin_columns m.origin) (λ o. Some (row_with id account m o)) row e in
    let same = same_some (row_with id account m o.given) row o.rest in
    sym (ap message_of_columns same)
    ∙ grind (arith, moment_back m.moment is, origin_back m.origin o.given o.is, subject_back m.subject)

-- what is read was written so
pub message_written : (row : MessageRow) (m : Message) → message_of_columns row ≡ Some m → row_of_message row.id row.account m ≡ Some row
message_written row m e =
    let moment = step (moment_in_column row.moment) _ m e in
    let origin = step (origin_in (origin_of row)) _ m moment.rest in
    let subject = step (subject_in row.subject) _ m origin.rest in
    let same : ◌≡◌ {A = Message} (record { moment = moment.given; origin = origin.given; name = row.name; subject = subject.given }) m = same_some _ _ subject.rest in
    let subject_read = subject_written row.subject subject.given subject.is in
    sym (ap (row_of_message row.id row.account) same)
    ∙ grind (arith, ints, nat_tests, moment.is, origin_written (origin_of row) origin.given origin.is, subject_read)
