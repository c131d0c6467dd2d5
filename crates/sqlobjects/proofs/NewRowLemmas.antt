-- To a row of a new name nothing leads that was there before it.
use Rattle.std.proofs.Common.{◌≡◌, ℕ, ℤ, Bool, true, false, not, List, [], filter, Option, Some, None, is_some, refl, ap, ◌∙◌}
use Rattle.sqlobjects.proofs.Words.{address_with_host, addresses_of, bytes_eq, ContactRow, Content, false_from_ne_true, Has, HostRow, IsConsistent}
use Rattle.sqlobjects.proofs.Words.{IsPlaced, named_contacts, named_hosts, NamedTable, rows_named, rows_of, same_by_key, same_int, texts_of}
use Rattle.sqlobjects.proofs.PutLemmas.{bytes_is, in-new, nobody, none-pass}
use Rattle.sqlite_keyed.specs.Rules.{points_to}
use Rattle.sqltables.specs.Transfer.{transfer_with_contact}

pub points-so : (o : Option ℤ) (id : ℤ) → points_to o id ≡ true → o ≡ Some id
points-so None id e = cc
points-so (Some n) id e = ap Some (same_int n id e)

-- what wasn't found has no row
pub none-found : {R : Type 0} (found : Option R) (b : Bool) → is_some found ≡ not b → b ≡ true → rows_of found ≡ []
none-found None b is e = refl
none-found (Some row) b is e = cc

module _ {R : Type 0} (table : NamedTable R) (n : List ℕ) (row : R) (xs m : Content) (still : IsConsistent m) (placed : IsPlaced table.name n row (table.rows xs) (table.rows m)) (none : rows_named table n xs ≡ []) where
  -- no row had its number
  pub fresh : (r : R) → Has (table.rows xs) r → table.key r ≡ table.key row → ⊥
  fresh r there same =
      let other : bytes_eq (table.name r) n ≡ false = false_from_ne_true (bytes_eq (table.name r) n) (λ e. nobody table.name n (table.rows xs) none r there (bytes_is (table.name r) n e)) in
      let here = in-new table.name n (table.rows xs) (table.rows m) placed.others r other there in
      nobody table.name n (table.rows xs) none r there (ap table.name (same_by_key table.key (table.rows m) r row (table.keyed m still) here placed.there same) ∙ placed.named)

module _ (n : List ℕ) where
  -- a new contact has no transfer
  pub no-transfer : (row : ContactRow) (xs m : Content) → IsConsistent xs → IsConsistent m → IsPlaced (λ (r : ContactRow). r.name) n row xs.contacts m.contacts → m.transfers ≡ xs.transfers → rows_named named_contacts n xs ≡ []
      → filter (transfer_with_contact row.id) m.transfers ≡ []
  no-transfer row xs m consistent still placed same none = ap (filter (transfer_with_contact row.id)) same ∙ none-pass (transfer_with_contact row.id) xs.transfers (λ t there is.
      let led = consistent.linked.transfer_contact t there row.id (points-so t.contact row.id is) in
      fresh named_contacts n row xs m still placed none led.0 led.1 led.2)

  -- a new host has no address
  pub no-address : (row : HostRow) (xs m : Content) → IsConsistent xs → IsConsistent m → IsPlaced (λ (r : HostRow). r.name) n row xs.hosts m.hosts → m.addresses ≡ xs.addresses → rows_named named_hosts n xs ≡ []
      → addresses_of m row.id ≡ []
  no-address row xs m consistent still placed same none = ap texts_of (ap (filter (address_with_host row.id)) same ∙ none-pass (address_with_host row.id) xs.addresses (λ a there is.
      let led = consistent.linked.address_host a there a.host refl in
      fresh named_hosts n row xs m still placed none led.0 led.1 (led.2 ∙ same_int a.host row.id is)))
