-- The row of one host made another's, under its number.
use Rattle.std.proofs.Common.{◌≡◌, ℕ, ℤ, Bool, true, false, not, cond, int_eq, List, filter, Option, Some, None, option_map, refl, sym, ap, subst, ◌∙◌, true≢false}
use Rattle.std.proofs.lemmas.Slice.Eq.{bytes_eq-Decides}
use Rattle.std.specs.Str as str
use Rattle.sqlobjects.proofs.Words.{addresses_of, AreAddressesPut, AreOtherAddressesKept, bytes_eq, contacts_of, Content, Decides-int_eq, delete_where}
use Rattle.sqlobjects.proofs.Words.{false_from_ne_true, get_by, Has, Host, host_of_columns, host_read, HostRow, insert_by, is_same}
use Rattle.sqlobjects.proofs.Words.{is_sponsor_right, IsConsistent, IsPlaced, IsRowRenamed, IsRowTaken, key-get_by, new_name, same_int, sponsor_of}
use Rattle.sqlobjects.proofs.{Words.{sponsors_are_right, with_named}, HostLemmas.{IsWritten, reads-alike, written}}
use Rattle.sqlobjects.proofs.PutLemmas.{bytes_apart, changed-drop, changed-put, filter-put, get_by-has, has-filter, has-get_by, IsChanged, nobody, none-removed, row_there, row-named}
use Rattle.sqlobjects.proofs.{SponsorLemmas.{found-right, same-from, sponsor-kept}, VerdictLemmas.same-verdict}
use Rattle.sqlcolumns.specs.inner.Hosts.{IsHost, row_of_host}
use Rattle.sqlcolumns.proofs.HostLemmas.{host_back}
use Rattle.sqltables.specs.Host as host_table
use Rattle.sqlrows.proofs.RowLemmas.{get_by-insert_by, has-insert_by}
use Rattle.sqlobjects.specs.Changes.{host_name_by_number}

abbrev name_of : HostRow → List ℕ
name_of row = row.name

abbrev key : HostRow → ℤ
key = host_table.hosts.key

module _ (from : List ℕ) (h : Host) (row : HostRow) (xs m ys : Content) (consistent : IsConsistent xs) (after : IsConsistent ys) (is : IsHost h) (taken : IsRowTaken from h row xs m) (with : AreAddressesPut row.id h.addresses m ys) where
  abbrev found : HostRow
  found = taken.found

  made : IsWritten xs found.id h row
  made = written xs found.id h row taken.is

  was : Has xs.hosts found × (found.name ≡ from)
  was = row_there key name_of from xs.hosts found taken.was.rows

  free : (r : HostRow) → Has xs.hosts r → r.name ≡ h.name → ⊥
  free = nobody name_of h.name xs.hosts taken.free

  -- ---- the hosts: the one is dropped, and then the other is put

  abbrev others : HostRow → Bool
  others r = not (int_eq (key r) (key found))

  abbrev rest : List HostRow
  rest = filter others xs.hosts

  dropped : IsChanged name_of (host_read xs) (host_read xs) from None xs.hosts rest
  dropped = changed-drop key name_of (host_read xs) (host_read xs) from found xs.hosts rest (λ r e. refl) taken.was.rows consistent.keyed.hosts consistent.named.hosts refl

  rows-now : ys.hosts ≡ insert_by key xs.hosts row
  rows-now = ap (λ (x : Content). x.hosts) with.others.rest ∙ ap (λ (x : Content). x.hosts) taken.content

  placed : IsPlaced name_of h.name row rest ys.hosts
  placed = record {
    named = made.name;
    there = subst (λ l. Has l row) (sym rows-now) (has-insert_by key xs.hosts row);
    others = λ q other.
        ap (filter (λ (r : HostRow). bytes_eq r.name q)) rows-now
        ∙ filter-put key (λ (r : HostRow). bytes_eq r.name q) xs.hosts row consistent.keyed.hosts (bytes_apart row.name h.name q made.name other)
        ∙ ap (λ k. filter (λ (r : HostRow). bytes_eq r.name q) (delete_where (λ r. int_eq (key r) k) xs.hosts)) made.number;
  }

  kept-now : AreOtherAddressesKept row.id xs (record ys { hosts = xs.hosts })
  kept-now = record {
    hosts = λ other e. with.others.hosts other e ∙ ap (λ (x : Content). addresses_of x other) taken.content;
    rest = ap (λ (x : Content). record x { hosts = xs.hosts }) with.others.rest ∙ ap (λ (x : Content). record x { hosts = xs.hosts; addresses = ys.addresses }) taken.content;
  }

  put : IsChanged name_of (host_read xs) (host_read ys) h.name (Some h) rest ys.hosts
  put = changed-put key name_of (host_read xs) (host_read ys) h.name row rest ys.hosts (reads-alike xs ys row.id kept-now) h placed after.keyed.hosts after.named.hosts
      (ap (host_of_columns row) with.here ∙ host_back row.id row.sponsor h row is (ap (λ k. row_of_host k row.sponsor h) made.number ∙ taken.is.is))

  -- ---- where numbers lead

  names-now : (id : ℤ) → host_name_by_number ys id ≡ option_map (new_name from h.name) (host_name_by_number xs id)
  names-now id = ap (λ rows. option_map name_of (get_by key rows id)) rows-now ∙ ap (option_map name_of) (get_by-insert_by key xs.hosts row id) ∙ go (int_eq row.id id) refl
    where
      renamed : (r : HostRow) → get_by key xs.hosts id ≡ Some r → int_eq row.id id ≡ false → str.bytes_eq r.name from ≡ false
      renamed r f other = false_from_ne_true (str.bytes_eq r.name from) (λ e.
          let same = consistent.named.hosts r found (has-get_by key xs.hosts id r f) was.0 ((bytes_eq-Decides r.name from).0 e ∙ sym was.1) in
          true≢false (sym ((Decides-int_eq row.id id).1 (made.number ∙ ap key (sym same) ∙ key-get_by key xs.hosts id r f)) ∙ other))

      elsewhere : (o : Option HostRow) → get_by key xs.hosts id ≡ o → int_eq row.id id ≡ false → option_map name_of o ≡ option_map (new_name from h.name) (option_map name_of o)
      elsewhere None f other = refl
      elsewhere (Some r) f other = rw (renamed r f other) refl

      go : (b : Bool) → int_eq row.id id ≡ b → option_map name_of (cond b (Some row) (get_by key xs.hosts id)) ≡ option_map (new_name from h.name) (option_map name_of (get_by key xs.hosts id))
      go false e = elsewhere (get_by key xs.hosts id) refl e
      go true e =
          let there : get_by key xs.hosts id ≡ Some found = ap (get_by key xs.hosts) (sym (same_int row.id id e) ∙ made.number) ∙ get_by-has key xs.hosts found consistent.keyed.hosts was.0 in
          rw (there, (bytes_eq-Decides found.name from).1 was.1) (ap Some made.name)

  -- ---- who sponsors them

  domains-now : ys.domains ≡ xs.domains
  domains-now = ap (λ (x : Content). x.domains) kept-now.rest

  sponsors-now : sponsors_are_right ys ≡ sponsors_are_right xs
  sponsors-now =
      same-verdict name_of h.name rest ys.hosts (is_sponsor_right xs) (is_sponsor_right ys) placed.others
      (λ r before there other. ap (is_same r.sponsor) (sponsor-kept xs ys r domains-now))
      (λ r there same. absurd (free r (has-filter others xs.hosts r there).0 same))
      (λ r there same. subst (λ x. is_sponsor_right ys x ≡ true) (sym (after.named.hosts r row there placed.there (same ∙ sym made.name))) (same-from row.sponsor (sponsor_of ys row) (taken.is.sponsor ∙ sym (sponsor-kept xs ys row domains-now))))
      ∙ same-verdict name_of from xs.hosts rest (is_sponsor_right xs) (is_sponsor_right xs) dropped.others
      (λ r before there other. refl)
      (λ r there same. found-right xs from (Some found) taken.was r there same)
      (λ r there same. absurd (nobody name_of from rest (none-removed key name_of from xs.hosts found taken.was.rows consistent.keyed.hosts consistent.named.hosts) r there same))

  pub row-renamed : IsRowRenamed from h xs ys
  row-renamed = record {
    hosts = put.stands ∙ ap (λ m. with_named m h.name (Some h)) dropped.stands;
    contacts = ap contacts_of kept-now.rest;
    metas = ap (λ (x : Content). x.metas) kept-now.rest;
    days = ap (λ (x : Content). x.days) kept-now.rest;
    accounts = ap (λ (x : Content). x.accounts) kept-now.rest;
    contact_rows = ap (λ (x : Content). x.contacts) kept-now.rest;
    domains = domains-now;
    links = ap (λ (x : Content). x.links) kept-now.rest;
    lines = ap (λ (x : Content). x.lines) kept-now.rest;
    messages = ap (λ (x : Content). x.messages) kept-now.rest;
    transfers = ap (λ (x : Content). x.transfers) kept-now.rest;
    names = names-now;
    apart = λ e. free found was.0 (was.1 ∙ e);
    free = λ id e. let it = row-named key name_of xs.hosts id h.name e in free it.0 it.1 it.2;
    sponsors = sponsors-now;
    consistent = (consistent, after);
  }
