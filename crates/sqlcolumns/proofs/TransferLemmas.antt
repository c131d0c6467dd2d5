-- A transfer is read from its row, and from no other.
use Rattle.std.proofs.Common.{arith, ◌≡◌, ℤ, true, cond, Option, Some, None, refl, sym, ap, ◌∙◌}
use Rattle.std.proofs.lemmas.{Bool.Decides.{Decides-int_eq, nat_tests}, Int.ints}
use Rattle.objects.specs.declared.transfer.Transfer.{Transfer}
use Rattle.sqltables.specs.declared.transfer.TransferRow.{TransferRow}
use Rattle.sqlcolumns.specs.{Codes.{all_transfer_states, state_column, state_in}, Numbers.{moment_in_column, registrar_in}}
use Rattle.sqlcolumns.specs.Transfers.{IsStorableTransfer, due_column, is_same, row_of_transfer, transfer_made, transfer_of_columns}
use Rattle.sqlcolumns.proofs.CodeLemmas.{code_written, state_back}
use Rattle.sqlcolumns.proofs.ReadLemmas.{kept, same_some, step}

-- ---- when it is due

pub same_is_equal : (a b : Option ℤ) → is_same a b ≡ true → a ≡ b
same_is_equal a b e = grind (arith, ints, e)

pub same_as_itself : (a : Option ℤ) → is_same a a ≡ true
same_as_itself None = refl
same_as_itself (Some a) = (Decides-int_eq a a).1 refl

-- ---- transfers

-- what was written is read back
pub transfer_back : (id : ℤ) (contact domain : Option ℤ) (t : Transfer) → IsStorableTransfer t → transfer_of_columns (row_of_transfer id contact domain t) ≡ Some t
transfer_back id contact domain t is =
    grind (arith, nat_tests, is, state_back t.state, same_as_itself (due_column t))

-- what is read was written so
pub transfer_written : (row : TransferRow) (t : Transfer) → transfer_of_columns row ≡ Some t → row_of_transfer row.id row.contact row.domain t ≡ row
transfer_written row t e =
    let made : Option Transfer = transfer_made (registrar_in row.requester) (registrar_in row.losing) (moment_in_column row.requested) (moment_in_column row.ac_date) (state_in row.state) in
    let dated = step made (λ x. cond (is_same (due_column x) row.due) (Some x) None) t e in
    let due = kept dated.given t (is_same (due_column dated.given) row.due) dated.rest in
    let requester = step (registrar_in row.requester) _ dated.given dated.is in
    let losing = step (registrar_in row.losing) _ dated.given requester.rest in
    let requested = step (moment_in_column row.requested) _ dated.given losing.rest in
    let ac_date = step (moment_in_column row.ac_date) _ dated.given requested.rest in
    let state = step (state_in row.state) _ dated.given ac_date.rest in
    let same : ◌≡◌ {A = Transfer} (record { requester = requester.given; losing_registrar = losing.given; requested = requested.given; ac_date = ac_date.given; state = state.given }) dated.given = same_some _ _ state.rest in
    let code = code_written state_column all_transfer_states row.state state.given state.is in
    let falls_due = ap due_column same ∙ same_is_equal (due_column dated.given) row.due due.0 in
    sym (ap (row_of_transfer row.id row.contact row.domain) (same ∙ due.1))
    ∙ grind (arith, ints, nat_tests, requester.is, losing.is, requested.is, ac_date.is, code, falls_due)
