use Rattle.std.proofs.Common.{◌≡◌, inl, inr, ℕ, true, List, Option, Some, None, refl, sym, ap, subst, ◌∙◌}
use Rattle.sqlderived.proofs.Words.{Content, Domain, domain_read, DomainRow, domains_of, filter-has, get, Has, is_due_right, reads-on}
use Rattle.policy.specs.declared.schedule.Schedule.{Schedule}
use Rattle.sqltables.specs.Domain.{domain_with_name}
use Rattle.sqltables.proofs.RowLemmas.{bytes_same}
use Rattle.sqlrows.specs.Read.{first_read, or_else, rows_of}
use Rattle.sqlobjects.specs.inner.Stages.{named_domains, rows_named}
use Rattle.sqldomains.proofs.FoundLemmas.{domain-named}
use Rattle.sqlderived.proofs.checking.checked_domain.Goals as goal

-- what is found by name stands under it, and its column is right
checked : (xs : Content) (name : List ℕ) (days : Schedule) (row : Option DomainRow) (domain : Option Domain) → rows_named named_domains name xs ≡ rows_of row
    → first_read (domain_read xs) (rows_of row) ≡ domain → ((r : DomainRow) → Has (rows_of row) r → is_due_right days xs r ≡ true)
    → (get (domains_of xs) name ≡ domain) × ((r : DomainRow) → Has xs.domains r → r.name ≡ name → is_due_right days xs r ≡ true)
checked xs name days row domain found reads right = (
  sym (domain-named xs name) ∙ ap (first_read (domain_read xs)) found ∙ reads,
  λ r there named. right r (subst (λ rows. Has rows r) found (filter-has (domain_with_name name) xs.domains r there (bytes_same r.name name named))),
)

pub returns-in-None : goal.returns-in-None
returns-in-None g c =
    let asked = c.in_ok-row_named.ensures {u = tt} in
    (asked.0, λ clean. checked c.args.store.now.content c.args.name.now c.args.policy.now.days None None (asked.1 clean ∙ ap rows_of c.in-None.is) refl (λ r none. absurd none))

pub returns-in_ok-right_domain-in-Some : goal.returns-in_ok-right_domain-in-Some
returns-in_ok-right_domain-in-Some g c =
    let xs = c.args.store.now.content in
    let days = c.args.policy.now.days in
    let row = c.in-Some.row in
    let asked = c.in_ok-row_named.ensures {u = tt} in
    let told = c.in_ok-right_domain-in-Some.ensures {u = tt} in (
      reads-on c.args.store.now c.row_named.new.store c.right_domain.new.store asked.0 told.0,
      λ clean.
          let before = told.0.clean clean in
          let it = subst (λ (ys : Content). (domain_read ys row ≡ Some c.in_ok-right_domain-in-Some.field-0) × (is_due_right days ys row ≡ true)) (asked.0.content before) (told.1 clean) in
          checked xs c.args.name.now days (Some row) (Some c.in_ok-right_domain-in-Some.field-0) (asked.1 before ∙ ap rows_of c.in-Some.is) (ap (λ o. or_else o None) it.0)
          (λ r. elim [ inl same ↦ subst (λ (x : DomainRow). is_due_right days xs x ≡ true) (sym same) it.1 | inr none ↦ absurd none ]),
    )
