-- How an account in ordered maps is changed, by edits of it.
use Rattle.std.specs.Prelude.{ℕ, if◌then◌else◌, List, [], ◌∷◌, Option, Some, None, fold}
use Rattle.std.specs.Str.{bytes_eq}
use Rattle.accounts.specs.declared.account.Account.{Account}
use Rattle.accounts.specs.declared.line.LineSwap.{LineSwap}
use Rattle.accounts.specs.declared.message.Message.{Message}
use Rattle.accounts.specs.Messages.{message_id}
use Rattle.decisions.specs.Changes.{itself}
use Rattle.books.specs.Book.{Stored}
use Rattle.books.specs.Ledgers.{changed_if_there}
use Rattle.books.specs.Tables.{posted_to, with_accounts}
use Rattle.mapbook.specs.declared.account_edit.AccountEdit.{AccountEdit}
use Rattle.mapbook.specs.declared.account_edit.AccountEdit.TheVariants.{AddLine, TakeLine, TakeMessage}

-- a registrar has an account
abbrev pub account_opened : ℕ → Stored → Stored
account_opened r s = posted_to r itself s

-- a registrar's account is changed if it is there
abbrev pub changed_there : ℕ → (Account → Account) → Stored → Stored
changed_there r f s = with_accounts (changed_if_there f s.registry.accounts r) s

-- the same for one thing after another
abbrev pub changed_each : {X : Type 0} → ℕ → (X → Account → Account) → List X → Stored → Stored
changed_each r made xs s = fold (λ s x. changed_there r (made x) s) s xs

-- one line for another, for each of these
abbrev pub swap_edits : List LineSwap → List AccountEdit
swap_edits [] = []
swap_edits (x ∷ xs) = TakeLine x.from ∷ AddLine x.to ∷ swap_edits xs

-- what takes a message out, where it has this identifier
abbrev pub ack_edits : List ℕ → Option Message → List AccountEdit
ack_edits id None = []
ack_edits id (Some oldest) = if bytes_eq (message_id oldest) id then TakeMessage oldest ∷ [] else []
