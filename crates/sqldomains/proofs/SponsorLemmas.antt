-- Whether stored sponsors of hosts are right is the same after a change as before.
use Rattle.std.proofs.Common.{◌≡◌, inl, ℕ, ℤ, Bool, true, false, cond, List, [], ◌∷◌, filter, Option, Some, None, refl, sym, ap, subst, ◌∙◌}
use Rattle.sqldomains.proofs.Words.{all-alike, all-changed, bytes_is, bytes_same, Content, Domain, domain_read, DomainRow, domains_of, first_read}
use Rattle.sqldomains.proofs.Words.{get, get-insert, Has, has-filter, Host, HostRow, IsContactPut, IsDomainPut, IsHostPut, list_all}
use Rattle.sqldomains.proofs.Words.{maybe_registrar_column, nat_list_cmp_total, or_else, registrar_column, same-verdict, sponsor_in, with_named}
use Rattle.sqldomains.proofs.FoundLemmas.{domain-named}
use Rattle.sqlite_typed.specs.Tests.{bytes_eq}
use Rattle.objects.specs.declared.contact.Contact.{Contact}
use Rattle.sqlcolumns.specs.Transfers.{is_same}
use Rattle.sqlcolumns.proofs.{NumberLemmas.registrar_written, TransferLemmas.same_is_equal}
use Rattle.sqltables.specs.Domain as table
use Rattle.sqlobjects.specs.Sponsors.{AreMoved, IsSponsorSetBelow, first_sponsor, is_sponsor_right, sponsor_by_name, sponsors_are_right, with_sponsor}
use Rattle.sqlobjects.proofs.SponsorLemmas.{same-from, sponsor-kept}
pub use Rattle.sqldomains.proofs.FoundLemmas.{parts}

-- ---- hosts and domains as they were

pub sponsors-kept : (old new : Content) → new.hosts ≡ old.hosts → new.domains ≡ old.domains → sponsors_are_right new ≡ sponsors_are_right old
sponsors-kept old new hosts domains = λ i. sponsors_are_right (record new { hosts = hosts i; domains = domains i })

pub contact-sponsors : (name : List ℕ) (value : Option Contact) (old new : Content) → IsContactPut name value old new → sponsors_are_right new ≡ sponsors_are_right old
contact-sponsors name value old new it = sponsors-kept old new it.host_rows it.domains

-- ---- a host

pub host-sponsors : (name : List ℕ) (value : Option Host) (old new : Content) → IsHostPut name value old new → sponsors_are_right new ≡ sponsors_are_right old
host-sponsors name value old new it =
    same-verdict (λ (r : HostRow). r.name) name old.hosts new.hosts (is_sponsor_right old) (is_sponsor_right new) it.others
    (λ row here now other. ap (is_same row.sponsor) (sponsor-kept old new row it.domains)) it.sponsor_was it.sponsor_is

-- ---- a domain

-- the row of a domain has its sponsor
pub sponsor-read : (xs : Content) (row : DomainRow) (d : Domain) → domain_read xs row ≡ Some d → row.sponsor ≡ registrar_column d.sponsor
sponsor-read xs row d e = sym (registrar_written row.sponsor d.sponsor (parts xs row d e).sponsor)

-- the domain that is put has its sponsor as that of its row
module _ (name : List ℕ) (value : Option Domain) (due : Option ℕ) (mid new : Content) (it : IsDomainPut name value due mid new) where
  stands-now : (d : Domain) → value ≡ Some d → get (domains_of new) name ≡ Some d
  stands-now d e =
      ap (λ m. get m name) (it.domains ∙ ap (with_named (domains_of mid) name) e) ∙ get-insert nat_list_cmp_total (domains_of mid) name d name
      ∙ ap (λ (b : Bool). cond b (Some d) (get (domains_of mid) name)) (bytes_same name name refl)

  pub sponsor-put : sponsor_by_name new name ≡ maybe_registrar_column (sponsor_in value)
  sponsor-put = go (filter (table.domain_with_name name) new.domains) value refl refl
    where
      go : (rows : List DomainRow) (o : Option Domain) → filter (table.domain_with_name name) new.domains ≡ rows → value ≡ o → first_sponsor rows ≡ maybe_registrar_column (sponsor_in value)
      go [] None e f = ap (λ v. maybe_registrar_column (sponsor_in v)) (sym f)
      go [] (Some d) e f =
          absurd (let never : ◌≡◌ {A = Option Domain} None (Some d) = ap (first_read (domain_read new)) (sym e) ∙ domain-named new name ∙ stands-now d f in cc)
      go (row ∷ rows) o e f =
          let there = has-filter (table.domain_with_name name) new.domains row (subst (λ l. Has l row) (sym e) (inl refl)) in
          it.sponsor_is row there.0 (bytes_is row.name name there.1)

-- Hosts take a sponsor, accounts are written, and then the domain is put or dropped.
module _ (name : List ℕ) (value : Option Domain) (due : Option ℕ) (old mid counted new : Content) (followed : IsSponsorSetBelow name (sponsor_in value) old mid) (accounts : counted ≡ record mid { accounts = counted.accounts })
    (it : IsDomainPut name value due counted new) where
  abbrev before : Option ℤ
  before = sponsor_by_name old name

  abbrev after : Option ℤ
  after = maybe_registrar_column (sponsor_in value)

  rows_now : new.hosts ≡ mid.hosts
  rows_now = it.host_rows ∙ ap (λ (xs : Content). xs.hosts) accounts

  domains_then : counted.domains ≡ old.domains
  domains_then = ap (λ (xs : Content). xs.domains) accounts ∙ ap (λ (xs : Content). xs.domains) followed.rest

  other-sponsor : (q : List ℕ) → bytes_eq q name ≡ false → sponsor_by_name new q ≡ sponsor_by_name old q
  other-sponsor q other = ap first_sponsor (it.others q other ∙ ap (filter (table.domain_with_name q)) domains_then)

  own-sponsor : (q : List ℕ) → bytes_eq q name ≡ true → sponsor_by_name new q ≡ after
  own-sponsor q e = ap (sponsor_by_name new) (bytes_is q name e) ∙ sponsor-put name value due counted new it

  -- a host below whose domain nothing is changed
  alike : (row : HostRow) → sponsor_by_name new row.above ≡ sponsor_by_name old row.above → is_sponsor_right new row ≡ is_sponsor_right old row
  alike row same = ap (λ s. is_same row.sponsor (or_else row.external_sponsor s)) same

  -- the sponsor stays
  stays : is_same before after ≡ true → sponsors_are_right new ≡ sponsors_are_right old
  stays e =
      ap (list_all (is_sponsor_right new)) (rows_now ∙ followed.stays e)
      ∙ all-alike (is_sponsor_right old) (is_sponsor_right new) old.hosts (λ row there. alike row (at row.above (bytes_eq row.above name) refl))
    where
      at : (q : List ℕ) (b : Bool) → bytes_eq q name ≡ b → sponsor_by_name new q ≡ sponsor_by_name old q
      at q true f = own-sponsor q f ∙ sym (ap (sponsor_by_name old) (bytes_is q name f) ∙ same_is_equal before after e)
      at q false f = other-sponsor q f

  -- a host that takes it had the one and has the other
  moves : AreMoved name before after old.hosts mid.hosts → sponsors_are_right new ≡ sponsors_are_right old
  moves moved =
      ap (list_all (is_sponsor_right new)) (rows_now ∙ moved.has)
      ∙ all-changed (is_sponsor_right old) (is_sponsor_right new) (with_sponsor name after) old.hosts (λ row there. each row there (bytes_eq row.above name) row.external_sponsor refl refl)
    where
      each : (row : HostRow) → Has old.hosts row → (a : Bool) (o : Option ℤ) → bytes_eq row.above name ≡ a → row.external_sponsor ≡ o
          → is_sponsor_right new (with_sponsor name after row) ≡ is_sponsor_right old row
      each row there false o e f = rw e (alike row (other-sponsor row.above e))
      each row there true (Some s) e f = rw (e, f) refl
      each row there true None e f =
          let had : is_same row.sponsor before ≡ true = moved.had row there (rw (e, f) refl) in
          rw (e, f) (same-from after (sponsor_by_name new row.above) (sym (own-sponsor row.above e)) ∙ sym (ap (λ q. is_same row.sponsor (sponsor_by_name old q)) (bytes_is row.above name e) ∙ had))

  pub domain-sponsors : sponsors_are_right new ≡ sponsors_are_right old
  domain-sponsors = go (is_same before after) refl
    where
      go : (b : Bool) → is_same before after ≡ b → sponsors_are_right new ≡ sponsors_are_right old
      go true e = stays e
      go false e = moves (followed.moves e)
