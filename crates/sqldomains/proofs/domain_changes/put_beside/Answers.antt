use Rattle.std.proofs.Common.{◌≡◌, true, Some}
use Rattle.sqldomains.proofs.Words.{ArePartsPut, asked-became, contact_name_by_number, HasNoParts, IsDomainPut, IsPlacedAt, named_domains, reads-same}
use Rattle.sqldomains.proofs.{Words.{rows_named, rows_of}, DomainLemmas.domain-put}
use Rattle.sqldomains.proofs.domain_changes.put_beside.Goals as goal

pub returns : goal.returns
returns g c =
    let old = c.args.store.now in
    let middle = c.place_row.new.store in
    let new = c.put_parts.new.store in
    let d = c.args.domain.now in
    let beside = c.args.beside.now in
    let found = c.args.found in
    let bare = c.in_ok-bare.bare in
    let row = c.in_ok-row.row in
    let is_new = c.is_none-is_new.result in
    asked-became (IsPlacedAt named_domains found bare row) (λ m e. (is_new ≡ true → HasNoParts row.id m) → ArePartsPut row.id row.due d m e)
    (λ a e. rows_named named_domains d.name a ≡ rows_of found → contact_name_by_number a beside.registrant ≡ Some d.links.registrant → IsDomainPut d.name (Some d) (Some beside.due) a e) old old middle new
    (reads-same old) (c.in_ok-row.ensures {u = tt}) (c.in_ok-put_parts.ensures {u = tt})
    (λ begun there between clean placed parts rows registrant.
    domain-put old.content middle.content new.content beside d found bare row is_new (c.show_consistent.ensures begun) (c.show_consistent-2.ensures between) (c.show_consistent-3.ensures clean)
    (c.is_domain.ensures.0 c.if-not-is_domain.false) (c.in_ok-bare.ensures {u = tt}) rows registrant c.is_none-is_new.ensures placed parts)
