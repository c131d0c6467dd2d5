-- Codes: a small number for each variant of an enum.
use Rattle.std.specs.Prelude.{ℤ, pos, List, [], ◌∷◌, Option, find}
use Rattle.std.specs.Ordering.{int_eq}
use Rattle.accounts.specs.declared.line.LineKind.{LineKind}
use Rattle.accounts.specs.declared.message.Subject.{Subject}
use Rattle.accounts.specs.Lines.{kind_rank}
use Rattle.accounts.specs.Messages.{subject_rank}
use Rattle.accounts.specs.declared.line.LineKind.TheVariants as kinds
use Rattle.accounts.specs.declared.message.Subject.TheVariants as subjects
use Rattle.objects.specs.declared.transfer.TransferState.{TransferState}
use Rattle.objects.specs.declared.transfer.TransferState.TheVariants.{Pending, ClientApproved, ClientRejected, ClientCancelled, ServerApproved}
use Rattle.sqlcolumns.specs.declared.code.Role.{Role}
use Rattle.sqlcolumns.specs.declared.code.Role.TheVariants as roles

-- the variant with a code
abbrev pub with_code : {K : Type 0} → (K → ℤ) → List K → ℤ → Option K
with_code code all column = find (λ k. int_eq (code k) column) all

abbrev pub all_kinds : List LineKind
all_kinds = kinds.Deposit ∷ kinds.Create ∷ kinds.Renew ∷ kinds.AutoRenew ∷ kinds.Transfer ∷ kinds.Restore ∷ []

abbrev pub kind_column : LineKind → ℤ
kind_column kind = pos (kind_rank kind)

abbrev pub kind_in : ℤ → Option LineKind
kind_in column = with_code kind_column all_kinds column

abbrev pub all_subjects : List Subject
all_subjects = subjects.Contact ∷ subjects.Domain ∷ []

abbrev pub subject_column : Subject → ℤ
subject_column subject = pos (subject_rank subject)

abbrev pub subject_in : ℤ → Option Subject
subject_in column = with_code subject_column all_subjects column

abbrev pub all_transfer_states : List TransferState
all_transfer_states = Pending ∷ ClientApproved ∷ ClientRejected ∷ ClientCancelled ∷ ServerApproved ∷ []

abbrev pub state_column : TransferState → ℤ
state_column Pending = pos 0
state_column ClientApproved = pos 1
state_column ClientRejected = pos 2
state_column ClientCancelled = pos 3
state_column ServerApproved = pos 4

abbrev pub state_in : ℤ → Option TransferState
state_in column = with_code state_column all_transfer_states column

abbrev pub all_roles : List Role
all_roles = roles.Admin ∷ roles.Tech ∷ roles.Host ∷ []

abbrev pub role_column : Role → ℤ
role_column roles.Admin = pos 0
role_column roles.Tech = pos 1
role_column roles.Host = pos 2

abbrev pub role_in : ℤ → Option Role
role_in column = with_code role_column all_roles column
