-- What a message is in the columns of its row, and the order of rows.
use Rattle.std.proofs.Common.{◌≡◌, ℕ, ℤ, pos, true, false, List, Some, sym, ap, ◌∙◌, int_cmp, arith}
use Rattle.std.specs.{Cmp.Lexicographic.{nat_list_cmp_total, slice_cmp}}
use Rattle.sqlaccounts.proofs.Words.{and_parts, by_then_key, Equal-is, exact_column, int_cmp_total, ints, is_exact, is_gt}
use Rattle.sqlaccounts.proofs.Words.{IsTotalOrder, kept, Message, message_cmp, message_of_columns, MessageRow, nat_cmp}
use Rattle.sqlaccounts.proofs.Words.{nat_cmp-IsAntisymmetric, nat_tests, on_total, Ordering, ordering_then, row_of_message, same_int, same_some}
use Rattle.sqlaccounts.proofs.{Words.{slice_cmp-IsAntisymmetric, step, then_total}}
use Rattle.sqlite_typed.specs.Tests.{bytes_eq}
use Rattle.calendar.specs.Moment.{IsMoment}
use Rattle.accounts.specs.declared.message.Origin.{Origin, TheVariants.{Lapse, Command}}
use Rattle.accounts.specs.Messages.{class_of, number_of, subject_rank, tie_of}
use Rattle.sqltables.specs.Message as table
use Rattle.sqltables.proofs.RowLemmas.{bytes_same}
use Rattle.sqlcolumns.{proofs.MessageLemmas.{message_back, message_written}, specs.Messages.origin_columns}
use Rattle.sqlaccounts.specs.inner.Queue.{IsWritten}

-- ---- columns

record IsOrigin (class number notice : ℤ) (o : Origin) : Type 0 where
  pub class_is : class ≡ pos (class_of o)
  pub number_is : number ≡ pos (number_of o)
  pub notice_is : notice ≡ pos (tie_of o)

origin_shown : (class number notice : ℤ) (o : Origin) → origin_columns o ≡ Some (record { class = class; number = number; notice = notice }) → IsOrigin class number notice o
origin_shown class number notice (Lapse letter) e =
    let same = same_some _ _ (sym e) in
    record { class_is = λ i. (same i).class; number_is = λ i. (same i).number; notice_is = λ i. (same i).notice }
origin_shown class number notice (Command n k) e =
    let exact = step (exact_column n) _ _ e in
    let same = same_some _ _ (sym exact.rest) in
    record { class_is = λ i. (same i).class; number_is = (λ i. (same i).number) ∙ sym (kept (pos n) exact.given (is_exact n) exact.is).1; notice_is = λ i. (same i).notice }

-- the columns of a message's row
pub record IsShown (row : MessageRow) (m : Message) : Type 0 where
  pub moment : row.moment ≡ pos m.moment
  pub class : row.class ≡ pos (class_of m.origin)
  pub number : row.number ≡ pos (number_of m.origin)
  pub name : row.name ≡ m.name
  pub subject : row.subject ≡ pos (subject_rank m.subject)
  pub notice : row.notice ≡ pos (tie_of m.origin)

pub shown : (row : MessageRow) (m : Message) → message_of_columns row ≡ Some m → IsShown row m
shown row m e =
    let o = step (origin_columns m.origin) _ row (message_written row m e) in
    let same = same_some _ row o.rest in
    let is = origin_shown o.given.class o.given.number o.given.notice m.origin o.is in
    record {
      moment = λ i. (sym same i).moment;
      class = (λ i. (sym same i).class) ∙ is.class_is;
      number = (λ i. (sym same i).number) ∙ is.number_is;
      name = λ i. (sym same i).name;
      subject = λ i. (sym same i).subject;
      notice = (λ i. (sym same i).notice) ∙ is.notice_is;
    }

-- a message is read from the row that is written of it
pub written_row : (id account : ℤ) (m : Message) (row : MessageRow) → IsMoment m.moment → row_of_message id account m ≡ Some row → IsWritten account m row
written_row id account m row is e =
    let o = step (origin_columns m.origin) _ row e in
    let same = same_some _ row o.rest in
    record { account = λ i. (sym same i).account; reads = message_back id account m row is e }

-- ---- rows with the same columns

same_name : (a b : List ℕ) → bytes_eq a b ≡ true → a ≡ b
same_name a b e = slice_cmp-IsAntisymmetric nat_cmp-IsAntisymmetric a b ((Equal-is (slice_cmp nat_cmp a b)).0 e)

-- rows with the same columns read as the same message
pub same_read : (r x : MessageRow) (m : Message) → message_of_columns r ≡ Some m → table.is_same_message r x ≡ true → (message_of_columns x ≡ Some m) × (x.account ≡ r.account)
same_read r x m reads e =
    let first = and_parts _ _ e in
    let second = and_parts _ _ first.1 in
    let third = and_parts _ _ second.1 in
    let fourth = and_parts _ _ third.1 in
    let fifth = and_parts _ _ fourth.1 in
    let sixth = and_parts _ _ fifth.1 in
    ((λ i. message_of_columns (record x { moment = same_int x.moment r.moment second.0 i; class = same_int x.class r.class third.0 i; number = same_int x.number r.number fourth.0 i; name = same_name x.name r.name fifth.0 i; subject = same_int x.subject r.subject sixth.0 i; notice = same_int x.notice r.notice sixth.1 i })) ∙ reads, same_int x.account r.account first.0)

-- and rows of one account that read as the same message have the same columns
pub same_columns : (r x : MessageRow) (m : Message) → x.account ≡ r.account → message_of_columns r ≡ Some m → message_of_columns x ≡ Some m → table.is_same_message r x ≡ true
same_columns r x m account reads also =
    let a = shown x m also in
    let b = shown r m reads in
    let name = bytes_same x.name r.name (a.name ∙ sym b.name) in
    grind (arith, ints, a, b, account, name)

-- ---- the order of rows

number_cmp : (a b : ℕ) → int_cmp (pos a) (pos b) ≡ nat_cmp a b
number_cmp a b = grind (arith, ints, nat_tests)

-- numbers are in the order of their columns
columns_cmp : {a b : ℤ} {m n : ℕ} → a ≡ pos m → b ≡ pos n → int_cmp a b ≡ nat_cmp m n
columns_cmp {a} {b} {m} {n} e f = (λ i. int_cmp (e i) (f i)) ∙ number_cmp m n

then_then : (a b c : Ordering) → ordering_then a (ordering_then b c) ≡ ordering_then (ordering_then a b) c
then_then a b c = grind arith

abbrev pub row_cmp : MessageRow → MessageRow → Ordering
row_cmp = by_then_key table.messages table.message_order

-- rows that read are in the order of their messages, and then of their numbers
pub row_order : (a b : MessageRow) (m n : Message) → message_of_columns a ≡ Some m → message_of_columns b ≡ Some n → row_cmp a b ≡ ordering_then (message_cmp m n) (int_cmp a.id b.id)
row_order a b m n e f =
    let x = shown a m e in
    let y = shown b n f in
    (λ i. ordering_then (columns_cmp x.moment y.moment i) (ordering_then (columns_cmp x.class y.class i) (ordering_then (columns_cmp x.number y.number i)
    (ordering_then (slice_cmp nat_cmp (x.name i) (y.name i)) (ordering_then (columns_cmp x.subject y.subject i) (ordering_then (columns_cmp x.notice y.notice i) (int_cmp a.id b.id)))))))
    ∙ simp then_then

pub row_cmp_total : IsTotalOrder row_cmp
row_cmp_total =
    then_total (on_total (λ (m : MessageRow). m.moment) int_cmp_total)
    (then_total (on_total (λ (m : MessageRow). m.class) int_cmp_total)
    (then_total (on_total (λ (m : MessageRow). m.number) int_cmp_total)
    (then_total (on_total (λ (m : MessageRow). m.name) nat_list_cmp_total)
    (then_total (on_total (λ (m : MessageRow). m.subject) int_cmp_total)
    (then_total (on_total (λ (m : MessageRow). m.notice) int_cmp_total)
    (on_total (λ (m : MessageRow). m.id) int_cmp_total))))))

not_past : (a b : Ordering) → is_gt (ordering_then a b) ≡ false → is_gt a ≡ false
not_past a b e = grind (arith, e)

-- the message of a row that stands before another's row isn't after the other's
pub message_first : (a b : MessageRow) (m n : Message) → message_of_columns a ≡ Some m → message_of_columns b ≡ Some n → is_gt (row_cmp a b) ≡ false → is_gt (message_cmp m n) ≡ false
message_first a b m n e f first = not_past (message_cmp m n) (int_cmp a.id b.id) (sym (ap is_gt (row_order a b m n e f)) ∙ first)
