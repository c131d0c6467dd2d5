-- What calls on the store, one after another, leave.
use Rattle.std.proofs.Common.{◌≡◌, true, sym, subst, ◌∙◌}
use Rattle.sqlaccounts.proofs.Words.{AccountRow, accounts_to, Content, insert_by, Reads, StateOf, Stays, then-made, Writes}
use Rattle.states.proofs.LeavingLemmas.{leaves-on}
use Rattle.sqltables.specs.Account.{accounts}
use Rattle.sqlrows.specs.Meanings.{HasChanged}

-- a row of account is put
pub then-put : (row new : AccountRow) (way : Content → Content → Type 0) (a b c : StateOf Content)
    → Reads a b → row ≡ new → Writes (accounts_to (λ rows. insert_by accounts.key rows row) b.content) b c
    → (b.is_clean ≡ true → way a.content (accounts_to (λ rows. insert_by accounts.key rows new) a.content)) → HasChanged way a c
then-put row new way a b c reads same makes is =
    then-made (accounts_to (λ rows. insert_by accounts.key rows row)) way a b c reads makes
    (λ e. subst (λ r. way a.content (accounts_to (λ rows. insert_by accounts.key rows r) a.content)) (sym same) (is e))

-- nothing is changed
pub then-kept : {C : Type 0} (way : C → C → Type 0) (a b : StateOf C) → Reads a b → a.is_open ≡ true → (b.is_clean ≡ true → way a.content a.content) → HasChanged way a b
then-kept way a b reads begun is = record {
  clean = reads.clean;
  before = reads.before;
  opened = reads.opened ∙ begun;
  content = λ e. subst (way a.content) (sym (reads.content e)) (is e);
  answers = reads.answers;
  leaves = reads.leaves;
}

-- what is refused behind a change
pub stays-after : {C : Type 0} (way : C → C → Type 0) (a b c : StateOf C) → HasChanged way a b → Stays b c → Stays a c
stays-after way a b c made stays = record {
  clean = λ e. made.clean (stays.clean e);
  before = λ e. stays.before e ∙ made.before (stays.clean e);
  leaves = leaves-on a b c made.leaves stays.leaves;
}

-- what else a change is
pub changed-too : {C : Type 0} (first way : C → C → Type 0) (a b : StateOf C) → HasChanged first a b → (a.is_clean ≡ true → first a.content b.content → way a.content b.content) → HasChanged way a b
changed-too first way a b made is = record {
  clean = made.clean;
  before = made.before;
  opened = made.opened;
  content = λ e. is (made.clean e) (made.content e);
  answers = made.answers;
  leaves = made.leaves;
}
