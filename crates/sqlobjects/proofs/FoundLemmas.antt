-- What is found by name is what stands under the name.
use Rattle.std.proofs.Common.{◌≡◌, true, ℕ, ℤ, List, [], ◌∷◌, Option, Some, None, Result, Ok, Err, IfOk, sym, ap, ◌∙◌}
use Rattle.sqlobjects.proofs.Words.{Content, filter, get, Host, host_of_columns, host_read, HostRow, NamedTable, or_else, reads-on, rows_named, texts_of}
use Rattle.sqlobjects.proofs.PutLemmas.{map_of}
use Rattle.sqlrows.proofs.NameLemmas.{stands}
use Rattle.sqlrows.specs.Read.{first_read}
use Rattle.sqltables.specs.Address as address_table
use Rattle.sqltables.specs.declared.address.AddressRow.{AddressRow}
use Rattle.states.specs.{declared.fault.BookFault.BookFault, States.{Finds, FindsSome, Reads, StateOf}}

module _ {R X : Type 0} (table : NamedTable R) (read : Content → R → Option X) (name : List ℕ) (s m : StateOf Content) (asked : Reads s m) where
  abbrev under : Option X
  under = get (map_of table.name (read s.content) (table.rows s.content)) name

  under-first : (rows : List R) → rows_named table name s.content ≡ rows → first_read (read s.content) rows ≡ under
  under-first rows are = ap (first_read (read s.content)) (sym are) ∙ stands table.name (read s.content) name (table.rows s.content)

  -- nothing, where no row has the name
  pub none-stands : (m.is_clean ≡ true → rows_named table name s.content ≡ []) → Finds (Ok None) under s m
  none-stands none = (asked, λ e. under-first [] (none e))

  -- and else what its row reads as
  pub one-stands : (t : StateOf Content) (row : R) (x : X) → (m.is_clean ≡ true → rows_named table name s.content ≡ row ∷ []) → FindsSome (Ok x) (λ it. read m.content row ≡ Some it) m t → Finds (Ok (Some x)) under s t
  one-stands t row x one told = (
    reads-on s m t asked told.0,
    λ e.
        let there = told.0.clean e in
        ap (λ o. or_else o None) (sym (ap (λ xs. read xs row) (sym (asked.content there)) ∙ told.1 e)) ∙ under-first (row ∷ []) (one there),
  )

-- a host is read from its row and the addresses with its number
pub host-read : (s m : StateOf Content) (row : HostRow) (id : ℤ) (rows : List AddressRow) (texts : List (List ℕ)) (r : Result Host BookFault)
    → Finds {A = List AddressRow} (Ok rows) (filter (address_table.address_with_host id) s.content.addresses) s m → id ≡ row.id → texts ≡ texts_of rows
    → IfOk r (λ h. host_of_columns row texts ≡ Some h) → FindsSome r (λ h. host_read s.content row ≡ Some h) s m
host-read s m row id rows texts (Ok h) asked same all is = (
  asked.0,
  λ e. sym (ap (host_of_columns row) (all ∙ ap texts_of (asked.1 e ∙ ap (λ (n : ℤ). filter (address_table.address_with_host n) s.content.addresses) same))) ∙ is,
)
host-read s m row id rows texts (Err fault) asked same all is = record { clean = asked.0.clean; before = asked.0.before; leaves = asked.0.leaves }
