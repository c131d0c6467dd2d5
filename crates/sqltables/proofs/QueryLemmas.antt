-- What the queries of each table mean.
use Rattle.std.proofs.Common.{◌≡◌, take, drop, Equal, refl, List, [], ◌∷◌, ℕ, ℤ, pos, filter, false}
use Rattle.std.specs.Ordering.{ordering_then}
use Rattle.sqltables.proofs.Words.{account_shown, account_with_id, accounts, address_shown, address_with_host, addresses, Asks}
use Rattle.sqltables.proofs.Words.{at_ints, at_points_to, at_texts, by_then_key, col, contact_shown, contact_with_id, ContactRow, contacts}
use Rattle.sqltables.proofs.Words.{day_shown, domain_shown, domain_with_id, DomainRow, domains, Eq, Ge, Gt, host_shown, host_with_above}
use Rattle.sqltables.proofs.Words.{host_with_id, host_with_name, hosts, Int, is_same_message, IsSelect, last_key, last_term, Le, line_of_object}
use Rattle.sqltables.proofs.Words.{line_shown, line_with_account, lines, link_shown, link_with_domain, links, message_order, message_shown}
use Rattle.sqltables.proofs.Words.{MessageRow, messages, meta_shown, metas, or_null, queue_of, registry, select_query, Text, then_key}
use Rattle.sqltables.proofs.Words.{then_term, transfer_shown, transfer_with_contact, transfer_with_domain, transfers, value_cmp, value_cmp-Int}
use Rattle.sqltables.proofs.{Words.{value_cmp-maybe_int, value_cmp-Text}, DueLemmas.{at_within, at_ever}}
use Rattle.sqltables.proofs.StatementLemmas.{all_columns, asks_all, asks_where, asks_first, asks_first_of_all, asks_sorted, asks_first_sorted, after, at_least, at_most, equals, from_zero, given, one}
use Rattle.sqltables.proofs.TableLemmas.{meta_part, account_part, contact_part, domain_part, host_part, address_part, link_part, line_part, message_part, transfer_part, day_part}
use Rattle.sqlite.specs.Listing.{understood}
use Rattle.sqlite_tied.specs.Compute.{everything}
use Rattle.sqltables.specs.declared.account.TheConstants as account_texts
use Rattle.sqltables.specs.declared.address.TheConstants as address_texts
use Rattle.sqltables.specs.declared.contact.TheConstants as contact_texts
use Rattle.sqltables.specs.declared.day.TheConstants as day_texts
use Rattle.sqltables.specs.declared.domain.TheConstants as domain_texts
use Rattle.sqltables.specs.declared.host.TheConstants as host_texts
use Rattle.sqltables.specs.declared.line.TheConstants as line_texts
use Rattle.sqltables.specs.declared.link.TheConstants as link_texts
use Rattle.sqltables.specs.declared.message.TheConstants as message_texts
use Rattle.sqltables.specs.declared.meta.TheConstants as meta_texts
use Rattle.sqltables.specs.declared.transfer.TheConstants as transfer_texts
use Rattle.sqltables.specs.Contact.{contact_with_name, contact_within_due, contact_of_sponsor_within, by_due as contact_by_due, contacts_by_due}
use Rattle.sqltables.specs.Domain.{domain_with_name, domain_after_id, domain_with_registrant, domain_within_due, by_due as domain_by_due, domains_by_due, domain_of_sponsor_within, domain_of_registrant_within, domain_with_roid}
use Rattle.sqltables.specs.Link.{link_of_domains, link_with_contact, link_with_host, link_of_contact_within, link_of_host_within}
use Rattle.sqltables.specs.{Transfer.{transfer_of_domains, transfer_pending_by, transfer_pending_from}, Day.days}
pub use Rattle.sqltables.proofs.TableLemmas.{asks-by, bound-last, bound-then}

-- ---- meta

pub select_metas : IsSelect registry meta_texts.ALL.now (select_query metas.tree [] (all_columns 16))
unfolding understood everything
select_metas = record { names = _; command = refl; plain = (refl, refl); unlisted = refl }

pub all_metas : Asks metas.tree meta_shown meta_texts.ALL.now [] (λ c. c.metas)
all_metas = asks_all meta_part 16 select_metas (λ x. refl)

-- ---- account

pub all_accounts : Asks accounts.tree account_shown account_texts.ALL.now [] (λ c. c.accounts)
unfolding understood everything
all_accounts = asks_all account_part 7 (record { names = _; command = refl; plain = (refl, refl); unlisted = refl }) (λ x. refl)

pub select_account : IsSelect registry account_texts.BY_ID.now (select_query accounts.tree (equals 0 0 ∷ []) (all_columns 7))
unfolding understood everything
select_account = record { names = _; command = refl; plain = (refl, refl); unlisted = refl }

pub accounts_by_id : (v : ℤ) → Asks accounts.tree account_shown account_texts.BY_ID.now (Int v ∷ []) (λ c. filter (account_with_id v) c.accounts)
accounts_by_id v = asks_where account_part 7 (equals 0 0 ∷ []) select_account (λ x. last_term (at_ints false Eq x.id v)) (λ x. refl)

-- ---- contact

contact_due_order : (x y : ContactRow) → ordering_then (value_cmp (or_null Int x.due) (or_null Int y.due)) (ordering_then (value_cmp (Int x.id) (Int y.id)) Equal) ≡ by_then_key contacts contact_by_due x y
contact_due_order x y = then_key (value_cmp-maybe_int x.due y.due) (last_key (value_cmp-Int x.id y.id))

pub contacts_by_id : (v : ℤ) → Asks contacts.tree contact_shown contact_texts.BY_ID.now (Int v ∷ []) (λ c. filter (contact_with_id v) c.contacts)
unfolding understood everything
contacts_by_id v = asks_where contact_part 19 (equals 0 0 ∷ []) (record { names = _; command = refl; plain = (refl, refl); unlisted = refl })
    (λ x. last_term (at_ints false Eq x.id v)) (λ x. refl)

pub contacts_by_name : (v : List ℕ) → Asks contacts.tree contact_shown contact_texts.BY_NAME.now (Text v ∷ []) (λ c. filter (contact_with_name v) c.contacts)
unfolding understood everything
contacts_by_name v = asks_where contact_part 19 (equals 2 0 ∷ []) (record { names = _; command = refl; plain = (refl, refl); unlisted = refl })
    (λ x. last_term (at_texts false Eq x.name v)) (λ x. refl)

pub contacts_until_due : (due : ℤ) → Asks contacts.tree contact_shown contact_texts.UNTIL_DUE.now (Int due ∷ []) (λ c. contacts_by_due (filter (contact_within_due due) c.contacts))
unfolding understood everything
contacts_until_due due = asks_sorted contact_part 19 (from_zero 19 ∷ at_most 19 0 ∷ []) (col 1 19 ∷ []) contact_by_due (record { names = _; command = refl; plain = (refl, refl); unlisted = refl })
    (λ x. at_within x.due (pos 0) due) (λ x. refl) contact_due_order

pub first_contacts_until_due : (due : ℤ) (count : ℕ)
    → Asks contacts.tree contact_shown contact_texts.FIRST_UNTIL_DUE.now (Int due ∷ Int (pos count) ∷ []) (λ c. take count (contacts_by_due (filter (contact_within_due due) c.contacts)))
unfolding understood everything
first_contacts_until_due due count = asks_first_sorted contact_part 19 (from_zero 19 ∷ at_most 19 0 ∷ []) (col 1 19 ∷ []) contact_by_due (given 1) count refl (record { names = _; command = refl; plain = (refl, refl); unlisted = refl })
    (λ x. at_within x.due (pos 0) due) (λ x. refl) contact_due_order

pub contacts_by_sponsor_until_due : (sponsor due : ℤ) → Asks contacts.tree contact_shown contact_texts.BY_SPONSOR_UNTIL_DUE.now (Int sponsor ∷ Int due ∷ []) (λ c. filter (contact_of_sponsor_within sponsor due) c.contacts)
unfolding understood everything
contacts_by_sponsor_until_due sponsor due = asks_where contact_part 19 (equals 5 0 ∷ from_zero 19 ∷ at_most 19 1 ∷ []) (record { names = _; command = refl; plain = (refl, refl); unlisted = refl })
    (λ x. then_term (at_ints false Eq x.sponsor sponsor) (at_within x.due (pos 0) due)) (λ x. refl)

-- ---- domain

domain_due_order : (x y : DomainRow) → ordering_then (value_cmp (Int x.due) (Int y.due)) (ordering_then (value_cmp (Int x.id) (Int y.id)) Equal) ≡ by_then_key domains domain_by_due x y
domain_due_order x y = then_key (value_cmp-Int x.due y.due) (last_key (value_cmp-Int x.id y.id))

pub all_domains : Asks domains.tree domain_shown domain_texts.ALL.now [] (λ c. c.domains)
unfolding understood everything
all_domains = asks_all domain_part 14 (record { names = _; command = refl; plain = (refl, refl); unlisted = refl }) (λ x. refl)

pub first_domains : (count : ℕ) → Asks domains.tree domain_shown domain_texts.FIRST.now (Int (pos count) ∷ []) (λ c. take count c.domains)
unfolding understood everything
first_domains count = asks_first_of_all domain_part 14 (given 0) count refl (record { names = _; command = refl; plain = (refl, refl); unlisted = refl }) (λ x. refl)

pub domains_after : (v : ℤ) (count : ℕ) → Asks domains.tree domain_shown domain_texts.AFTER_ID.now (Int v ∷ Int (pos count) ∷ []) (λ c. take count (filter (domain_after_id v) c.domains))
unfolding understood everything
domains_after v count = asks_first domain_part 14 (after 0 0 ∷ []) (given 1) count refl (record { names = _; command = refl; plain = (refl, refl); unlisted = refl })
    (λ x. last_term (at_ints false Gt x.id v)) (λ x. refl)

pub domains_by_id : (v : ℤ) → Asks domains.tree domain_shown domain_texts.BY_ID.now (Int v ∷ []) (λ c. filter (domain_with_id v) c.domains)
unfolding understood everything
domains_by_id v = asks_where domain_part 14 (equals 0 0 ∷ []) (record { names = _; command = refl; plain = (refl, refl); unlisted = refl })
    (λ x. last_term (at_ints false Eq x.id v)) (λ x. refl)

pub domains_by_name : (v : List ℕ) → Asks domains.tree domain_shown domain_texts.BY_NAME.now (Text v ∷ []) (λ c. filter (domain_with_name v) c.domains)
unfolding understood everything
domains_by_name v = asks_where domain_part 14 (equals 2 0 ∷ []) (record { names = _; command = refl; plain = (refl, refl); unlisted = refl })
    (λ x. last_term (at_texts false Eq x.name v)) (λ x. refl)

pub first_domains_by_registrant : (v : ℤ) → Asks domains.tree domain_shown domain_texts.FIRST_BY_REGISTRANT.now (Int v ∷ []) (λ c. take 1 (filter (domain_with_registrant v) c.domains))
unfolding understood everything
first_domains_by_registrant v = asks_first domain_part 14 (equals 12 0 ∷ []) one 1 refl (record { names = _; command = refl; plain = (refl, refl); unlisted = refl })
    (λ x. last_term (at_ints false Eq x.registrant v)) (λ x. refl)

pub domains_until_due : (v : ℤ) → Asks domains.tree domain_shown domain_texts.UNTIL_DUE.now (Int v ∷ []) (λ c. domains_by_due (filter (domain_within_due v) c.domains))
unfolding understood everything
domains_until_due v = asks_sorted domain_part 14 (at_most 15 0 ∷ []) (col 1 15 ∷ []) domain_by_due (record { names = _; command = refl; plain = (refl, refl); unlisted = refl })
    (λ x. last_term (at_ints false Le x.due v)) (λ x. refl) domain_due_order

pub first_domains_until_due : (due : ℤ) (count : ℕ)
    → Asks domains.tree domain_shown domain_texts.FIRST_UNTIL_DUE.now (Int due ∷ Int (pos count) ∷ []) (λ c. take count (domains_by_due (filter (domain_within_due due) c.domains)))
unfolding understood everything
first_domains_until_due due count = asks_first_sorted domain_part 14 (at_most 15 0 ∷ []) (col 1 15 ∷ []) domain_by_due (given 1) count refl (record { names = _; command = refl; plain = (refl, refl); unlisted = refl })
    (λ x. last_term (at_ints false Le x.due due)) (λ x. refl) domain_due_order

pub domains_by_sponsor_until_due : (sponsor due : ℤ) → Asks domains.tree domain_shown domain_texts.BY_SPONSOR_UNTIL_DUE.now (Int sponsor ∷ Int due ∷ []) (λ c. filter (domain_of_sponsor_within sponsor due) c.domains)
unfolding understood everything
domains_by_sponsor_until_due sponsor due = asks_where domain_part 14 (equals 5 0 ∷ at_most 15 1 ∷ []) (record { names = _; command = refl; plain = (refl, refl); unlisted = refl })
    (λ x. then_term (at_ints false Eq x.sponsor sponsor) (last_term (at_ints false Le x.due due))) (λ x. refl)

pub domains_by_registrant_until_due : (registrant due : ℤ) → Asks domains.tree domain_shown domain_texts.BY_REGISTRANT_UNTIL_DUE.now (Int registrant ∷ Int due ∷ []) (λ c. filter (domain_of_registrant_within registrant due) c.domains)
unfolding understood everything
domains_by_registrant_until_due registrant due = asks_where domain_part 14 (equals 12 0 ∷ at_most 15 1 ∷ []) (record { names = _; command = refl; plain = (refl, refl); unlisted = refl })
    (λ x. then_term (at_ints false Eq x.registrant registrant) (last_term (at_ints false Le x.due due))) (λ x. refl)

pub domains_by_roid : (creator serial : ℤ) → Asks domains.tree domain_shown domain_texts.BY_ROID.now (Int creator ∷ Int serial ∷ []) (λ c. filter (domain_with_roid creator serial) c.domains)
unfolding understood everything
domains_by_roid creator serial = asks_where domain_part 14 (equals 3 0 ∷ equals 4 1 ∷ []) (record { names = _; command = refl; plain = (refl, refl); unlisted = refl })
    (λ x. then_term (at_ints false Eq x.creator creator) (last_term (at_ints false Eq x.serial serial))) (λ x. refl)

-- ---- host

pub all_hosts : Asks hosts.tree host_shown host_texts.ALL.now [] (λ c. c.hosts)
unfolding understood everything
all_hosts = asks_all host_part 9 (record { names = _; command = refl; plain = (refl, refl); unlisted = refl }) (λ x. refl)

pub hosts_by_id : (v : ℤ) → Asks hosts.tree host_shown host_texts.BY_ID.now (Int v ∷ []) (λ c. filter (host_with_id v) c.hosts)
unfolding understood everything
hosts_by_id v = asks_where host_part 9 (equals 0 0 ∷ []) (record { names = _; command = refl; plain = (refl, refl); unlisted = refl })
    (λ x. last_term (at_ints false Eq x.id v)) (λ x. refl)

pub hosts_by_name : (v : List ℕ) → Asks hosts.tree host_shown host_texts.BY_NAME.now (Text v ∷ []) (λ c. filter (host_with_name v) c.hosts)
unfolding understood everything
hosts_by_name v = asks_where host_part 9 (equals 2 0 ∷ []) (record { names = _; command = refl; plain = (refl, refl); unlisted = refl })
    (λ x. last_term (at_texts false Eq x.name v)) (λ x. refl)

pub hosts_by_above : (v : List ℕ) → Asks hosts.tree host_shown host_texts.BY_ABOVE.now (Text v ∷ []) (λ c. filter (host_with_above v) c.hosts)
unfolding understood everything
hosts_by_above v = asks_where host_part 9 (equals 5 0 ∷ []) (record { names = _; command = refl; plain = (refl, refl); unlisted = refl })
    (λ x. last_term (at_texts false Eq x.above v)) (λ x. refl)

-- ---- address

pub addresses_by_host : (v : ℤ) → Asks addresses.tree address_shown address_texts.BY_HOST.now (Int v ∷ []) (λ c. filter (address_with_host v) c.addresses)
unfolding understood everything
addresses_by_host v = asks_where address_part 2 (equals 2 0 ∷ []) (record { names = _; command = refl; plain = (refl, refl); unlisted = refl })
    (λ x. last_term (at_ints false Eq x.host v)) (λ x. refl)

-- ---- link

pub links_by_domain : (v : ℤ) → Asks links.tree link_shown link_texts.BY_DOMAIN.now (Int v ∷ []) (λ c. filter (link_with_domain v) c.links)
unfolding understood everything
links_by_domain v = asks_where link_part 5 (equals 2 0 ∷ []) (record { names = _; command = refl; plain = (refl, refl); unlisted = refl })
    (λ x. last_term (at_ints false Eq x.domain v)) (λ x. refl)

pub links_of_domains : (first last : ℤ) → Asks links.tree link_shown link_texts.OF_DOMAINS.now (Int first ∷ Int last ∷ []) (λ c. filter (link_of_domains first last) c.links)
unfolding understood everything
links_of_domains first last = asks_where link_part 5 (at_least 2 0 ∷ at_most 2 1 ∷ []) (record { names = _; command = refl; plain = (refl, refl); unlisted = refl })
    (λ x. then_term (at_ints false Ge x.domain first) (last_term (at_ints false Le x.domain last))) (λ x. refl)

pub first_links_by_contact : (v : ℤ) → Asks links.tree link_shown link_texts.FIRST_BY_CONTACT.now (Int v ∷ []) (λ c. take 1 (filter (link_with_contact v) c.links))
unfolding understood everything
first_links_by_contact v = asks_first link_part 5 (equals 3 0 ∷ []) one 1 refl (record { names = _; command = refl; plain = (refl, refl); unlisted = refl })
    (λ x. last_term (at_points_to x.contact v)) (λ x. refl)

pub first_links_by_host : (v : ℤ) → Asks links.tree link_shown link_texts.FIRST_BY_HOST.now (Int v ∷ []) (λ c. take 1 (filter (link_with_host v) c.links))
unfolding understood everything
first_links_by_host v = asks_first link_part 5 (equals 4 0 ∷ []) one 1 refl (record { names = _; command = refl; plain = (refl, refl); unlisted = refl })
    (λ x. last_term (at_points_to x.host v)) (λ x. refl)

pub links_by_contact_until_due : (contact due : ℤ) → Asks links.tree link_shown link_texts.BY_CONTACT_UNTIL_DUE.now (Int contact ∷ Int due ∷ []) (λ c. filter (link_of_contact_within contact due) c.links)
unfolding understood everything
links_by_contact_until_due contact due = asks_where link_part 5 (equals 3 0 ∷ at_most 6 1 ∷ []) (record { names = _; command = refl; plain = (refl, refl); unlisted = refl })
    (λ x. then_term (at_points_to x.contact contact) (last_term (at_ints false Le x.due due))) (λ x. refl)

pub links_by_host_until_due : (host due : ℤ) → Asks links.tree link_shown link_texts.BY_HOST_UNTIL_DUE.now (Int host ∷ Int due ∷ []) (λ c. filter (link_of_host_within host due) c.links)
unfolding understood everything
links_by_host_until_due host due = asks_where link_part 5 (equals 4 0 ∷ at_most 6 1 ∷ []) (record { names = _; command = refl; plain = (refl, refl); unlisted = refl })
    (λ x. then_term (at_points_to x.host host) (last_term (at_ints false Le x.due due))) (λ x. refl)

-- ---- line

pub lines_by_account : (v : ℤ) → Asks lines.tree line_shown line_texts.BY_ACCOUNT.now (Int v ∷ []) (λ c. filter (line_with_account v) c.lines)
unfolding understood everything
lines_by_account v = asks_where line_part 10 (equals 2 0 ∷ []) (record { names = _; command = refl; plain = (refl, refl); unlisted = refl })
    (λ x. last_term (at_ints false Eq x.account v)) (λ x. refl)

pub lines_by_object : (account creator serial : ℤ) → Asks lines.tree line_shown line_texts.BY_OBJECT.now (Int account ∷ Int creator ∷ Int serial ∷ []) (λ c. filter (line_of_object account creator serial) c.lines)
unfolding understood everything
lines_by_object account creator serial = asks_where line_part 10 (equals 2 0 ∷ equals 4 1 ∷ equals 5 2 ∷ []) (record { names = _; command = refl; plain = (refl, refl); unlisted = refl })
    (λ x. then_term (at_ints false Eq x.account account) (then_term (at_points_to x.creator creator) (last_term (at_points_to x.serial serial)))) (λ x. refl)

-- ---- message

queue_order : (x y : MessageRow)
    → ordering_then (value_cmp (Int x.moment) (Int y.moment)) (ordering_then (value_cmp (Int x.class) (Int y.class)) (ordering_then (value_cmp (Int x.number) (Int y.number)) (ordering_then (value_cmp (Text x.name) (Text y.name))
    (ordering_then (value_cmp (Int x.subject) (Int y.subject)) (ordering_then (value_cmp (Int x.notice) (Int y.notice)) (ordering_then (value_cmp (Int x.id) (Int y.id)) Equal))))))
    ≡ by_then_key messages message_order x y
queue_order x y =
    then_key (value_cmp-Int x.moment y.moment) (then_key (value_cmp-Int x.class y.class) (then_key (value_cmp-Int x.number y.number) (then_key (value_cmp-Text x.name y.name)
    (then_key (value_cmp-Int x.subject y.subject) (then_key (value_cmp-Int x.notice y.notice) (last_key (value_cmp-Int x.id y.id)))))))

pub first_messages_by_account : (v : ℤ) → Asks messages.tree message_shown message_texts.FIRST_BY_ACCOUNT.now (Int v ∷ []) (λ c. take 1 (queue_of v c.messages))
unfolding understood everything
first_messages_by_account v = asks_first_sorted message_part 7 (equals 2 0 ∷ []) (col 1 3 ∷ col 1 4 ∷ col 1 5 ∷ col 1 6 ∷ col 1 7 ∷ col 1 8 ∷ []) message_order one 1 refl (record { names = _; command = refl; plain = (refl, refl); unlisted = refl })
    (λ x. last_term (at_ints false Eq x.account v)) (λ x. refl) queue_order

pub same_messages : (m : MessageRow) → Asks messages.tree message_shown message_texts.SAME.now (drop 1 (message_shown m)) (λ c. filter (is_same_message m) c.messages)
unfolding understood everything
same_messages m = asks_where message_part 7 (equals 2 0 ∷ equals 3 1 ∷ equals 4 2 ∷ equals 5 3 ∷ equals 6 4 ∷ equals 7 5 ∷ equals 8 6 ∷ []) (record { names = _; command = refl; plain = (refl, refl); unlisted = refl })
    (λ x. then_term (at_ints false Eq x.account m.account) (then_term (at_ints false Eq x.moment m.moment) (then_term (at_ints false Eq x.class m.class) (then_term (at_ints false Eq x.number m.number) (then_term (at_texts false Eq x.name m.name) (then_term (at_ints false Eq x.subject m.subject) (last_term (at_ints false Eq x.notice m.notice)))))))) (λ x. refl)

-- ---- transfer

pub transfers_by_contact : (v : ℤ) → Asks transfers.tree transfer_shown transfer_texts.BY_CONTACT.now (Int v ∷ []) (λ c. filter (transfer_with_contact v) c.transfers)
unfolding understood everything
transfers_by_contact v = asks_where transfer_part 8 (equals 2 0 ∷ []) (record { names = _; command = refl; plain = (refl, refl); unlisted = refl })
    (λ x. last_term (at_points_to x.contact v)) (λ x. refl)

pub transfers_by_domain : (v : ℤ) → Asks transfers.tree transfer_shown transfer_texts.BY_DOMAIN.now (Int v ∷ []) (λ c. filter (transfer_with_domain v) c.transfers)
unfolding understood everything
transfers_by_domain v = asks_where transfer_part 8 (equals 3 0 ∷ []) (record { names = _; command = refl; plain = (refl, refl); unlisted = refl })
    (λ x. last_term (at_points_to x.domain v)) (λ x. refl)

pub transfers_of_domains : (first last : ℤ) → Asks transfers.tree transfer_shown transfer_texts.OF_DOMAINS.now (Int first ∷ Int last ∷ []) (λ c. filter (transfer_of_domains first last) c.transfers)
unfolding understood everything
transfers_of_domains first last = asks_where transfer_part 8 (at_least 3 0 ∷ at_most 3 1 ∷ []) (record { names = _; command = refl; plain = (refl, refl); unlisted = refl })
    (λ x. at_within x.domain first last) (λ x. refl)

pub pending_transfers_by_requester : (requester : ℤ) → Asks transfers.tree transfer_shown transfer_texts.PENDING_BY_REQUESTER.now (Int requester ∷ []) (λ c. filter (transfer_pending_by requester) c.transfers)
unfolding understood everything
pending_transfers_by_requester requester = asks_where transfer_part 8 (equals 4 0 ∷ from_zero 8 ∷ []) (record { names = _; command = refl; plain = (refl, refl); unlisted = refl })
    (λ x. then_term (at_ints false Eq x.requester requester) (at_ever x.due)) (λ x. refl)

pub pending_transfers_by_losing : (losing : ℤ) → Asks transfers.tree transfer_shown transfer_texts.PENDING_BY_LOSING.now (Int losing ∷ []) (λ c. filter (transfer_pending_from losing) c.transfers)
unfolding understood everything
pending_transfers_by_losing losing = asks_where transfer_part 8 (equals 5 0 ∷ from_zero 8 ∷ []) (record { names = _; command = refl; plain = (refl, refl); unlisted = refl })
    (λ x. then_term (at_ints false Eq x.losing losing) (at_ever x.due)) (λ x. refl)

-- ---- days

pub all_days : Asks days.tree day_shown day_texts.ALL.now [] (λ c. c.days)
unfolding understood everything
all_days = asks_all day_part 10 (record { names = _; command = refl; plain = (refl, refl); unlisted = refl }) (λ x. refl)
