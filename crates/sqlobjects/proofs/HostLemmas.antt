-- What rows of hosts mean after a change.
use Rattle.std.proofs.Common.{◌≡◌, ℕ, ℤ, pos, Bool, true, false, not, List, [], filter, Option, Some, None, is_some, refl, sym, ap, subst, ◌∙◌, int_eq}
use Rattle.sqlobjects.proofs.Words.{addresses_of, AreAddressesPut, AreOtherAddressesKept, contacts_of, Content, delete_where, Has, Host, host_of_columns}
use Rattle.sqlobjects.proofs.Words.{host_read, HostRow, hosts_to, is_sponsor_right, IsConsistent, IsHostFound, IsHostPut, IsHostRow}
use Rattle.sqlobjects.proofs.{Words.{IsPlaced, IsPlacedAt, IsRowPlaced, named_hosts, same_some, sponsor_of, step}, NamedRowLemmas.placed-as}
use Rattle.sqlobjects.proofs.NewRowLemmas.{no-address, none-found}
use Rattle.sqlobjects.proofs.PutLemmas.{changed-drop, changed-put, IsChanged, names_kept, nobody, none-removed, not-changed}
use Rattle.sqlobjects.proofs.SponsorLemmas.{found-right, same-from, sponsor-kept}
use Rattle.objects.specs.declared.roid.ObjectKind.TheVariants as kinds
use Rattle.sqlcolumns.specs.{inner.Hosts.{IsHost, host_row_with}, Roids.roid_columns, Steps.◌>>=◌}
use Rattle.sqlcolumns.proofs.HostLemmas.{host_back}
use Rattle.sqltables.specs.Host as host_table

abbrev name_of : HostRow → List ℕ
name_of row = row.name

abbrev key : HostRow → ℤ
key = host_table.hosts.key

-- a host whose row and addresses are as they were is read as before
pub reads-alike : (xs ys : Content) (id : ℤ) → AreOtherAddressesKept id xs (record ys { hosts = xs.hosts }) → (r : HostRow) → int_eq id r.id ≡ false → host_read ys r ≡ host_read xs r
reads-alike xs ys id kept r other = ap (host_of_columns r) (kept.hosts r.id other)

-- the sponsor of each row of a name is right
abbrev AreRight : List ℕ → Content → Type 0
AreRight name xs = (row : HostRow) → Has xs.hosts row → row.name ≡ name → is_sponsor_right xs row ≡ true

-- what else a change of hosts leaves
assembled : (xs ys : Content) (name : List ℕ) (value : Option Host) (id : ℤ) → IsChanged name_of (host_read xs) (host_read ys) name value xs.hosts ys.hosts
    → AreOtherAddressesKept id xs (record ys { hosts = xs.hosts }) → AreRight name xs → AreRight name ys → IsConsistent xs → IsConsistent ys → IsHostPut name value xs ys
assembled xs ys name value id it kept was is consistent after = record {
  hosts = it.stands;
  contacts = ap contacts_of kept.rest;
  metas = ap (λ (x : Content). x.metas) kept.rest;
  days = ap (λ (x : Content). x.days) kept.rest;
  accounts = ap (λ (x : Content). x.accounts) kept.rest;
  contact_rows = ap (λ (x : Content). x.contacts) kept.rest;
  domains = ap (λ (x : Content). x.domains) kept.rest;
  links = ap (λ (x : Content). x.links) kept.rest;
  lines = ap (λ (x : Content). x.lines) kept.rest;
  messages = ap (λ (x : Content). x.messages) kept.rest;
  transfers = ap (λ (x : Content). x.transfers) kept.rest;
  others = it.others;
  sponsor_was = was;
  sponsor_is = is;
  names = names_kept key name_of name xs.hosts ys.hosts consistent.keyed.hosts after.keyed.hosts it.others;
  consistent = (consistent, after);
}

-- ---- dropped

pub none-dropped : (xs : Content) (name : List ℕ) → IsConsistent xs → IsHostFound xs name None → IsHostPut name None xs xs
none-dropped xs name consistent it =
    let never : AreRight name xs = λ row there is. absurd (nobody name_of name xs.hosts it.rows row there is) in
    assembled xs xs name None (pos 0) (not-changed name_of (host_read xs) name xs.hosts it.rows) (record { hosts = λ other e. refl; rest = refl }) never never consistent consistent

module _ (xs m : Content) (name : List ℕ) (row : HostRow) (consistent : IsConsistent xs) (found : IsHostFound xs name (Some row)) (clear : AreAddressesPut row.id [] xs m) where
  abbrev left : Content
  left = hosts_to (delete_where (host_table.host_with_id row.id)) m

  kept_then : AreOtherAddressesKept row.id xs (record left { hosts = xs.hosts })
  kept_then = record { hosts = clear.others.hosts; rest = ap (λ (x : Content). record x { hosts = xs.hosts }) clear.others.rest }

  rows_then : left.hosts ≡ delete_where (host_table.host_with_id row.id) xs.hosts
  rows_then = ap (λ (x : Content). delete_where (host_table.host_with_id row.id) x.hosts) clear.others.rest

  pub one-dropped : (ys : Content) → ys ≡ left → IsConsistent ys → IsHostPut name None xs ys
  one-dropped ys gone = subst (λ z. IsConsistent z → IsHostPut name None xs z) (sym gone) (assembled xs left name None row.id
      (changed-drop key name_of (host_read xs) (host_read left) name row xs.hosts left.hosts (reads-alike xs left row.id kept_then) found.rows consistent.keyed.hosts consistent.named.hosts rows_then)
      kept_then
      (found-right xs name (Some row) found)
      (λ r there is. absurd (nobody name_of name left.hosts (ap (filter (host_table.host_with_name name)) rows_then ∙ none-removed key name_of name xs.hosts row found.rows consistent.keyed.hosts consistent.named.hosts) r there is))
      consistent)

-- ---- put

pub record IsWritten (xs : Content) (id : ℤ) (h : Host) (row : HostRow) : Type 0 where
  pub number : row.id ≡ id
  pub name : row.name ≡ h.name
  pub again : (k : ℤ) → IsHostRow xs k h (record row { id = k })

pub written : (xs : Content) (id : ℤ) (h : Host) (row : HostRow) → IsHostRow xs id h row → IsWritten xs id h row
written xs id h row e =
    let roid = step (roid_columns kinds.Host h.roid) (λ x. Some (host_row_with id row.sponsor h x)) row e.is in
    let same : host_row_with id row.sponsor h roid.given ≡ row = same_some (host_row_with id row.sponsor h roid.given) row roid.rest in
    record {
      number = sym (ap (λ (r : HostRow). r.id) same);
      name = sym (ap (λ (r : HostRow). r.name) same);
      again = λ k. record {
        is = (λ i. roid.is i >>= (λ x. Some (host_row_with k row.sponsor h x))) ∙ ap (λ (r : HostRow). Some (record r { id = k })) same;
        sponsor = e.sponsor;
      };
    }

-- a host in this row, but for its number and its addresses, which is placed, and then its addresses are put
module _ (xs m ys : Content) (h : Host) (found : Option HostRow) (bare row : HostRow) (is_new : Bool) (consistent : IsConsistent xs) (between : IsConsistent m) (after : IsConsistent ys) (is : IsHost h)
    (made : IsHostRow xs (pos 0) h bare) (was : IsHostFound xs h.name found) (new : is_some found ≡ not is_new) (put : IsPlacedAt named_hosts found bare row xs m)
    (all : (is_new ≡ true → addresses_of m row.id ≡ []) → AreAddressesPut row.id h.addresses m ys) where
  placed : IsRowPlaced named_hosts (λ (r : HostRow). IsHostRow xs r.id h r) h.name row xs m
  placed =
      let so = written xs (pos 0) h bare made in
      placed-as named_hosts (λ (r : HostRow). IsHostRow xs r.id h r) h.name found bare row xs m so.name so.again was.rows put consistent

  with : AreAddressesPut row.id h.addresses m ys
  with = all (λ e. no-address h.name row xs m consistent between placed.rows (ap (λ (x : Content). x.addresses) placed.rest) (was.rows ∙ none-found found is_new new e))

  rows_now : IsPlaced name_of h.name row xs.hosts ys.hosts
  rows_now = subst (IsPlaced name_of h.name row xs.hosts) (sym (ap (λ (x : Content). x.hosts) with.others.rest)) placed.rows

  kept_now : AreOtherAddressesKept row.id xs (record ys { hosts = xs.hosts })
  kept_now = record {
    hosts = λ other e. with.others.hosts other e ∙ ap (λ (x : Content). addresses_of x other) placed.rest;
    rest = ap (λ (x : Content). record x { hosts = xs.hosts }) with.others.rest ∙ ap (λ (x : Content). record x { hosts = xs.hosts; addresses = ys.addresses }) placed.rest;
  }

  right_now : AreRight h.name ys
  right_now r there same =
      subst (λ x. is_sponsor_right ys x ≡ true) (sym (after.named.hosts r row there rows_now.there (same ∙ sym rows_now.named)))
      (same-from row.sponsor (sponsor_of ys row) (placed.is.sponsor ∙ sym (sponsor-kept xs ys row (ap (λ (x : Content). x.domains) kept_now.rest))))

  pub host-put : IsHostPut h.name (Some h) xs ys
  host-put = assembled xs ys h.name (Some h) row.id
      (changed-put key name_of (host_read xs) (host_read ys) h.name row xs.hosts ys.hosts (reads-alike xs ys row.id kept_now) h rows_now after.keyed.hosts after.named.hosts
      (ap (host_of_columns row) with.here ∙ host_back row.id row.sponsor h row is placed.is.is))
      kept_now
      (found-right xs h.name found was)
      right_now
      consistent after
