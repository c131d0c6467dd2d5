-- How records in ordered maps are changed, and a change is taken back: values at keys, and edits of an account.
use Rattle.std.specs.Prelude.{List, [], ◌∷◌, fold}
use Rattle.accounts.specs.declared.account.Account.{Account}
use Rattle.accounts.specs.Counters.{with_counters}
use Rattle.accounts.specs.Entries.{with_lines, with_queue}
use Rattle.accounts.specs.Lines.{in_order}
use Rattle.accounts.specs.Queue.{dropped, put}
use Rattle.basis.specs.Bag.{add, taken}
use Rattle.mapbook.specs.declared.account_edit.AccountEdit.{AccountEdit}
use Rattle.mapbook.specs.declared.account_edit.AccountEdit.TheVariants as within
use Rattle.mapbook.specs.declared.edit.Edit.{Edit}
use Rattle.mapbook.specs.declared.edit.Edit.TheVariants as edit
use Rattle.books.specs.Book.{Stored}
use Rattle.books.specs.Ledgers.{changed_if_there, entry_set}

abbrev pub account_edited : AccountEdit → Account → Account
account_edited (within.Count x) a = with_counters x a
account_edited (within.AddLine line) a = with_lines (add in_order line) a
account_edited (within.TakeLine line) a = with_lines (taken in_order line) a
account_edited (within.AddMessage m) a = with_queue (put m) a
account_edited (within.TakeMessage m) a = with_queue (dropped m) a

-- edits, one after another
abbrev pub all_edited : List AccountEdit → Account → Account
all_edited edits a = fold (λ a edit. account_edited edit a) a edits

abbrev pub edited : Edit → Stored → Stored
edited (edit.Clock t) s = record s { registry = record s.registry { clock = t } }
edited (edit.Account r value) s =
    record s { registry = record s.registry { accounts = entry_set s.registry.accounts r value } }
edited (edit.Within r what) s =
    record s { registry = record s.registry { accounts = changed_if_there (account_edited what) s.registry.accounts r } }
edited (edit.Contact name value) s =
    record s { registry = record s.registry { contacts = entry_set s.registry.contacts name value } }
edited (edit.Domain name value) s =
    record s { registry = record s.registry { domains = entry_set s.registry.domains name value } }
edited (edit.Host name value) s =
    record s { registry = record s.registry { hosts = entry_set s.registry.hosts name value } }
edited (edit.Terms value) s = record s { terms = value }

-- the latest first
abbrev pub undone_all : List Edit → Stored → Stored
undone_all [] s = s
undone_all (e ∷ es) s = edited e (undone_all es s)
