-- A host is read from its row.
use Rattle.std.proofs.{Common.{arith, ◌≡◌, ℤ, Option, Some, refl, sym, ap, ◌∙◌}, lemmas.{Bool.Decides.nat_tests, Slice.Eq.bytes_eq-Decides}}
use Rattle.objects.specs.declared.host.Host.{Host}
use Rattle.objects.specs.declared.roid.ObjectKind.TheVariants as kinds
use Rattle.sqltables.specs.declared.host.HostRow.{HostRow}
use Rattle.sqlcolumns.specs.{Above.above, inner.Hosts.{IsHost, host_row_with, row_of_host}, Hosts.{host_of_columns}}
use Rattle.sqlcolumns.specs.{Roids.roid_columns}
use Rattle.sqlcolumns.proofs.{ReadLemmas.{same_some, step}, RoidLemmas.roid_back, TextLemmas.statuses_back}

-- what was written is read back
pub host_back : (id : ℤ) (sponsor : Option ℤ) (h : Host) (row : HostRow) → IsHost h → row_of_host id sponsor h ≡ Some row → host_of_columns row h.addresses ≡ Some h
host_back id sponsor h row is e =
    let roid = step (roid_columns kinds.Host h.roid) (λ x. Some (host_row_with id sponsor h x)) row e in
    let written : HostRow = host_row_with id sponsor h roid.given in
    let itself = (bytes_eq-Decides (above h.name) (above h.name)).1 refl in
    let same : written ≡ row = same_some written row roid.rest in
    sym (ap (λ (x : HostRow). host_of_columns x h.addresses) same)
    ∙ grind (arith, nat_tests, is, roid_back kinds.Host h.roid roid.given is.roid roid.is, statuses_back h.statuses, itself)
