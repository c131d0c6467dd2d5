-- A host's new name, where there is such a host and no other has that name, and where there isn't.
use Rattle.std.proofs.Common.{◌≡◌, ℕ, Bool, true, false, cond, List, sym, ap}
use Rattle.objects.specs.declared.host.Host.{Host}
use Rattle.decisions.specs.Changes.{host_renamed as registry_renamed, may_rename}
use Rattle.books.specs.{Book.Stored, Tables.{host_moved, host_renamed_if_there}}

module _ (from : List ℕ) (h : Host) (s : Stored) where
  abbrev by : Bool → Stored
  by b = record s { registry = cond b (registry_renamed from h s.registry) s.registry }

  pub renamed-there : may_rename s.registry.hosts from h.name ≡ true → host_moved from h s ≡ host_renamed_if_there from h s
  renamed-there e = ap by (sym e)

  pub renamed-nowhere : may_rename s.registry.hosts from h.name ≡ false → s ≡ host_renamed_if_there from h s
  renamed-nowhere e = ap by (sym e)
