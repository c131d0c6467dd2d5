-- What is found by name is what stands under the name, what is found after a question, and what a domain
-- that reads has of its rows.
use Rattle.std.proofs.Common.{◌≡◌, ℕ, List, Some, Result, Ok, Err, true, sym, ap, ◌∙◌}
use Rattle.std.specs.Prelude.{filter}
use Rattle.sqldomains.proofs.Words.{Content, deletion_in, Domain, domain_read, domain_registration_columns, domain_with, DomainRow, domains_of}
use Rattle.sqldomains.proofs.Words.{FindsSome, first_read, get, last_transfer, links_of, maybe_moment_in, moment_in_column, Reads}
use Rattle.sqldomains.proofs.Words.{reads-on, registrar_in, registration_in, same_some, StateOf, statuses_in, stays-on, step, transfer_with_domain}
use Rattle.sqldomains.proofs.Words.{years_in_column}
use Rattle.objects.specs.declared.roid.ObjectKind.TheVariants as kinds
use Rattle.sqlcolumns.specs.Roids.{roid_in}
use Rattle.sqltables.specs.Domain as table
use Rattle.states.specs.declared.fault.BookFault.{BookFault}
use Rattle.sqlrows.proofs.NameLemmas.{stands}

pub domain-named : (xs : Content) (name : List ℕ) → first_read (domain_read xs) (filter (table.domain_with_name name) xs.domains) ≡ get (domains_of xs) name
domain-named xs name = stands (λ (r : DomainRow). r.name) (domain_read xs) name xs.domains

-- what is found after a question, of what it answered
pub asked-finds : {A C : Type 0} (r : Result A BookFault) (is was : A → Type 0) (a b c : StateOf C) → Reads a b → FindsSome r is b c → ((it : A) → b.is_clean ≡ true → is it → was it) → FindsSome r was a c
asked-finds (Ok it) is was a b c asked told so = (reads-on a b c asked told.0, λ e. so it (told.0.clean e) (told.1 e))
asked-finds (Err fault) is was a b c asked told so = stays-on a b c asked told

-- what a domain has of its row, its links and its transfer
pub record Parts (xs : Content) (row : DomainRow) (d : Domain) : Type 0 where
  pub name : d.name ≡ row.name
  pub roid : roid_in kinds.Domain row.creator row.serial ≡ Some d.roid
  pub sponsor : registrar_in row.sponsor ≡ Some d.sponsor
  pub links : links_of xs row ≡ Some d.links
  pub transfer : last_transfer (filter (transfer_with_domain row.id) xs.transfers) ≡ Some d.transfer

pub parts : (xs : Content) (row : DomainRow) (d : Domain) → domain_read xs row ≡ Some d → Parts xs row d
parts xs row d e =
    let links = step (links_of xs row) _ d e in
    let transfer = step (last_transfer (filter (transfer_with_domain row.id) xs.transfers)) _ d links.rest in
    let r = step (registration_in kinds.Domain (domain_registration_columns row)) _ d transfer.rest in
    let y = step (years_in_column row.years) _ d r.rest in
    let s = step (statuses_in row.statuses) _ d y.rest in
    let x = step (deletion_in row.deleted row.restore_requested) _ d s.rest in
    let roid = step (roid_in kinds.Domain row.creator row.serial) _ r.given r.is in
    let sponsor = step (registrar_in row.sponsor) _ r.given roid.rest in
    let created = step (moment_in_column row.created) _ r.given sponsor.rest in
    let transferred = step (maybe_moment_in row.transferred) _ r.given created.rest in
    let updated = step (maybe_moment_in row.updated) _ r.given transferred.rest in
    let made = same_some (domain_with row r.given y.given s.given x.given links.given transfer.given) d x.rest in
    record {
      name = sym (ap (λ (z : Domain). z.name) made);
      roid = roid.is ∙ (λ i. Some (same_some _ r.given updated.rest i).roid) ∙ ap (λ (z : Domain). Some z.roid) made;
      sponsor = sponsor.is ∙ (λ i. Some (same_some _ r.given updated.rest i).sponsor) ∙ ap (λ (z : Domain). Some z.sponsor) made;
      links = links.is ∙ ap (λ (z : Domain). Some z.links) made;
      transfer = transfer.is ∙ ap (λ (z : Domain). Some z.transfer) made;
    }
