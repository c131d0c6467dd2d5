-- How records in ordered maps are changed, and a change is taken back: values at keys.
use Rattle.std.specs.FinMap.{get}
use Rattle.mapbook.specs.declared.edit.Edit.{Edit}
use Rattle.mapbook.specs.declared.edit.Edit.TheVariants as edit
use Rattle.books.specs.Book.{Stored}

-- what takes an edit back: the value at its key
abbrev pub inverse : Edit → Stored → Edit
inverse (edit.Clock t) s = edit.Clock s.registry.clock
inverse (edit.Account r value) s = edit.Account r (get s.registry.accounts r)
inverse (edit.Within r what) s = edit.Account r (get s.registry.accounts r)
inverse (edit.Contact name value) s = edit.Contact name (get s.registry.contacts name)
inverse (edit.Domain name value) s = edit.Domain name (get s.registry.domains name)
inverse (edit.Host name value) s = edit.Host name (get s.registry.hosts name)
inverse (edit.Terms value) s = edit.Terms s.terms
