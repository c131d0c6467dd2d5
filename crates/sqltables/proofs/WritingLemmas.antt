-- What the statements that write rows of a table mean.
use Rattle.std.proofs.Common.{◌≡◌, ◌∙◌, drop, refl, List, [], ◌∷◌, ℕ, ℤ, false, not, Option, Some, None, is_none, is_some}
use Rattle.sqltables.proofs.Words.{account_shown, account_with_id, AccountRow, accounts, accounts_to, address_shown, address_with_host, addresses}
use Rattle.sqltables.proofs.Words.{AddressRow, Alters, appended, Appends, at_ints, at_is_null, at_points_to, at_texts, Binary, col, contact_shown}
use Rattle.sqltables.proofs.Words.{contact_with_id, ContactRow, contacts, day_shown, DayRow, delete_where, domain_shown, domain_with_id, DomainRow}
use Rattle.sqltables.proofs.Words.{domains, Eq, host_shown, host_takes_sponsor, host_with_id, HostRow, hosts, insert_by, Int, Is}
use Rattle.sqltables.proofs.Words.{last_term, line_shown, line_with_id, LineRow, lines, link_shown, link_with_domain, LinkRow, links, lit}
use Rattle.sqltables.proofs.Words.{message_shown, message_with_id, MessageRow, messages, meta_shown, meta_with_id, MetaRow, metas, metas_to}
use Rattle.sqltables.proofs.Words.{next_key, Null, op2, or_null, Term, Text, then_term, transfer_shown, transfer_with_contact}
use Rattle.sqltables.proofs.Words.{transfer_with_domain, TransferRow, transfers, update_where, value_cmp-Null}
use Rattle.sqltables.proofs.StatementLemmas.{adds_by, append_by, equals, put_by, remove_by, replace_terms, update_by}
use Rattle.sqltables.proofs.TableLemmas.{meta_part, account_part, contact_part, domain_part, host_part, address_part, link_part, line_part, message_part, transfer_part, day_part}
use Rattle.sqlite.specs.Listing.{understood}
use Rattle.sqlite_tied.specs.Compute.{everything}
use Rattle.sqlrows.proofs.{CastLemmas.{cast_int, cast_null, cast_text, cast_maybe_int, cast_maybe_text}, UpdateLemmas.updates}
use Rattle.sqltables.specs.declared.account.TheConstants as account_texts
use Rattle.sqltables.specs.declared.address.TheConstants as address_texts
use Rattle.sqltables.specs.declared.contact.TheConstants as contact_texts
use Rattle.sqltables.specs.declared.day.TheConstants as day_texts
use Rattle.sqltables.specs.declared.domain.TheConstants as domain_texts
use Rattle.sqltables.specs.declared.host.TheConstants as host_texts
use Rattle.sqltables.specs.declared.line.TheConstants as line_texts
use Rattle.sqltables.specs.declared.link.TheConstants as link_texts
use Rattle.sqltables.specs.declared.message.TheConstants as message_texts
use Rattle.sqltables.specs.declared.meta.TheConstants as meta_texts
use Rattle.sqltables.specs.declared.transfer.TheConstants as transfer_texts
use Rattle.sqltables.specs.Day.{days}
use Rattle.sqltables.specs.inner.Content.{contacts_to, domains_to, hosts_to, addresses_to, links_to, lines_to, messages_to, transfers_to, days_to}
pub use Rattle.sqltables.proofs.TableLemmas.{alters-by, appends-by, bound-last, bound-then}

-- ---- meta

pub put_meta : (x : MetaRow) → Alters metas.tree meta_texts.PUT.now (meta_shown x) (metas_to (λ xs. insert_by metas.key xs x))
unfolding understood everything
put_meta = put_by meta_part meta_shown 16 (record { command = refl; plain = (refl, refl) }) (record { values = λ x. refl; place = λ x v. refl; updates = λ x v r. refl; unshared = λ new r. refl; headed = λ x. refl })

pub replace_meta : (x : MetaRow) → Alters metas.tree meta_texts.REPLACE.now (meta_shown x) (metas_to (λ xs. update_where (meta_with_id x.id) (λ y. record x { id = y.id }) xs))
unfolding understood everything
replace_meta x = update_by meta_part (meta_with_id x.id) (λ y. record x { id = y.id }) (equals 0 0 ∷ []) (replace_terms 16) (record { command = refl; plain = (refl, refl) }) (λ y. last_term (at_ints false Eq y.id x.id)) (record { row = λ y. refl; key = λ y. refl })

-- ---- account

pub put_account : (x : AccountRow) → Alters accounts.tree account_texts.PUT.now (account_shown x) (accounts_to (λ xs. insert_by accounts.key xs x))
unfolding understood everything
put_account = put_by account_part account_shown 7 (record { command = refl; plain = (refl, refl) }) (record { values = λ x. refl; place = λ x v. refl; updates = λ x v r. refl; unshared = λ new r. refl; headed = λ x. refl })

pub replace_account : (x : AccountRow) → Alters accounts.tree account_texts.REPLACE.now (account_shown x) (accounts_to (λ xs. update_where (account_with_id x.id) (λ y. record x { id = y.id }) xs))
unfolding understood everything
replace_account x = update_by account_part (account_with_id x.id) (λ y. record x { id = y.id }) (equals 0 0 ∷ []) (replace_terms 7) (record { command = refl; plain = (refl, refl) }) (λ y. last_term (at_ints false Eq y.id x.id)) (record { row = λ y. refl; key = λ y. refl })

-- ---- contact

pub put_contact : (x : ContactRow) → Alters contacts.tree contact_texts.PUT.now (contact_shown x) (contacts_to (λ xs. insert_by contacts.key xs x))
unfolding understood everything
put_contact = put_by contact_part contact_shown 19 (record { command = refl; plain = (refl, refl) }) (record { values = λ x. refl; place = λ x v. refl; updates = λ x v r. refl; unshared = λ new r. refl; headed = λ x. refl })

pub replace_contact : (x : ContactRow) → Alters contacts.tree contact_texts.REPLACE.now (contact_shown x) (contacts_to (λ xs. update_where (contact_with_id x.id) (λ y. record x { id = y.id }) xs))
unfolding understood everything
replace_contact x = update_by contact_part (contact_with_id x.id) (λ y. record x { id = y.id }) (equals 0 0 ∷ []) (replace_terms 19) (record { command = refl; plain = (refl, refl) }) (λ y. last_term (at_ints false Eq y.id x.id)) (record { row = λ y. refl; key = λ y. refl })

pub append_contact : (x : ContactRow) → Appends contacts.tree contact_texts.APPEND.now (drop 1 (contact_shown x)) (contacts_to (λ xs. appended contacts (λ id. record x { id = id }) xs)) (λ c. next_key contacts.key c.contacts)
unfolding understood everything
append_contact = adds_by contact_part contact_shown (λ x id. record x { id = id }) 19 (record { command = refl; plain = (refl, refl) }) (record { values = λ x. refl; casts = λ x. simp (cast_int, cast_null, cast_text, cast_maybe_int, cast_maybe_text); row = λ x id. refl })

pub remove_contacts_by_id : (v : ℤ) → Alters contacts.tree contact_texts.REMOVE_ID.now (Int v ∷ []) (contacts_to (λ xs. delete_where (contact_with_id v) xs))
unfolding understood everything
remove_contacts_by_id v = remove_by contact_part (contact_with_id v) (equals 0 0 ∷ []) (record { command = refl; plain = (refl, refl) }) (λ x. last_term (at_ints false Eq x.id v))

-- ---- domain

pub put_domain : (x : DomainRow) → Alters domains.tree domain_texts.PUT.now (domain_shown x) (domains_to (λ xs. insert_by domains.key xs x))
unfolding understood everything
put_domain = put_by domain_part domain_shown 14 (record { command = refl; plain = (refl, refl) }) (record { values = λ x. refl; place = λ x v. refl; updates = λ x v r. refl; unshared = λ new r. refl; headed = λ x. refl })

pub replace_domain : (x : DomainRow) → Alters domains.tree domain_texts.REPLACE.now (domain_shown x) (domains_to (λ xs. update_where (domain_with_id x.id) (λ y. record x { id = y.id }) xs))
unfolding understood everything
replace_domain x = update_by domain_part (domain_with_id x.id) (λ y. record x { id = y.id }) (equals 0 0 ∷ []) (replace_terms 14) (record { command = refl; plain = (refl, refl) }) (λ y. last_term (at_ints false Eq y.id x.id)) (record { row = λ y. refl; key = λ y. refl })

pub append_domain : (x : DomainRow) → Appends domains.tree domain_texts.APPEND.now (drop 1 (domain_shown x)) (domains_to (λ xs. appended domains (λ id. record x { id = id }) xs)) (λ c. next_key domains.key c.domains)
unfolding understood everything
append_domain = adds_by domain_part domain_shown (λ x id. record x { id = id }) 14 (record { command = refl; plain = (refl, refl) }) (record { values = λ x. refl; casts = λ x. simp (cast_int, cast_null, cast_text, cast_maybe_int, cast_maybe_text); row = λ x id. refl })

pub remove_domains_by_id : (v : ℤ) → Alters domains.tree domain_texts.REMOVE_ID.now (Int v ∷ []) (domains_to (λ xs. delete_where (domain_with_id v) xs))
unfolding understood everything
remove_domains_by_id v = remove_by domain_part (domain_with_id v) (equals 0 0 ∷ []) (record { command = refl; plain = (refl, refl) }) (λ x. last_term (at_ints false Eq x.id v))

-- ---- host

pub put_host : (x : HostRow) → Alters hosts.tree host_texts.PUT.now (host_shown x) (hosts_to (λ xs. insert_by hosts.key xs x))
unfolding understood everything
put_host = put_by host_part host_shown 9 (record { command = refl; plain = (refl, refl) }) (record { values = λ x. refl; place = λ x v. refl; updates = λ x v r. refl; unshared = λ new r. refl; headed = λ x. refl })

pub replace_host : (x : HostRow) → Alters hosts.tree host_texts.REPLACE.now (host_shown x) (hosts_to (λ xs. update_where (host_with_id x.id) (λ y. record x { id = y.id }) xs))
unfolding understood everything
replace_host x = update_by host_part (host_with_id x.id) (λ y. record x { id = y.id }) (equals 0 0 ∷ []) (replace_terms 9) (record { command = refl; plain = (refl, refl) }) (λ y. last_term (at_ints false Eq y.id x.id)) (record { row = λ y. refl; key = λ y. refl })

pub append_host : (x : HostRow) → Appends hosts.tree host_texts.APPEND.now (drop 1 (host_shown x)) (hosts_to (λ xs. appended hosts (λ id. record x { id = id }) xs)) (λ c. next_key hosts.key c.hosts)
unfolding understood everything
append_host = adds_by host_part host_shown (λ x id. record x { id = id }) 9 (record { command = refl; plain = (refl, refl) }) (record { values = λ x. refl; casts = λ x. simp (cast_int, cast_null, cast_text, cast_maybe_int, cast_maybe_text); row = λ x id. refl })

abbrev updated_sponsor : List Term
updated_sponsor = col 1 0 ∷ lit Null ∷ col 1 2 ∷ col 1 3 ∷ col 1 4 ∷ col 1 5 ∷ col 1 6 ∷ col 0 1 ∷ col 1 8 ∷ col 1 9 ∷ col 1 10 ∷ []

-- it is sponsored by nobody outside the zone
no-sponsor : (v : Option ℤ) → is_none v ≡ not (is_some v)
no-sponsor None = refl
no-sponsor (Some v) = refl

pub update_hosts_sponsor : (above : List ℕ) (sponsor : Option ℤ)
    → Alters hosts.tree host_texts.UPDATE_SPONSOR.now (Text above ∷ or_null Int sponsor ∷ []) (hosts_to (λ xs. update_where (host_takes_sponsor above) (λ x. record x { sponsor = sponsor }) xs))
unfolding understood everything
update_hosts_sponsor above sponsor = update_by host_part (host_takes_sponsor above) (λ x. record x { sponsor = sponsor }) (equals 5 0 ∷ op2 (Is Binary) (col 1 6) (lit Null) ∷ []) updated_sponsor (record { command = refl; plain = (refl, refl) })
    (λ x. then_term (at_texts false Eq x.above above) (last_term (at_is_null Int false (λ a. value_cmp-Null (Int a)) x.external_sponsor ∙ no-sponsor x.external_sponsor))) (record { row = λ x. refl; key = λ x. refl })

pub remove_hosts_by_id : (v : ℤ) → Alters hosts.tree host_texts.REMOVE_ID.now (Int v ∷ []) (hosts_to (λ xs. delete_where (host_with_id v) xs))
unfolding understood everything
remove_hosts_by_id v = remove_by host_part (host_with_id v) (equals 0 0 ∷ []) (record { command = refl; plain = (refl, refl) }) (λ x. last_term (at_ints false Eq x.id v))

-- ---- address

pub put_address : (x : AddressRow) → Alters addresses.tree address_texts.PUT.now (address_shown x) (addresses_to (λ xs. insert_by addresses.key xs x))
unfolding understood everything
put_address = put_by address_part address_shown 2 (record { command = refl; plain = (refl, refl) }) (record { values = λ x. refl; place = λ x v. refl; updates = λ x v r. refl; unshared = λ new r. refl; headed = λ x. refl })

pub append_address : (x : AddressRow) → Alters addresses.tree address_texts.APPEND.now (drop 1 (address_shown x)) (addresses_to (λ xs. appended addresses (λ id. record x { id = id }) xs))
unfolding understood everything
append_address = append_by address_part address_shown (λ x id. record x { id = id }) 2 (record { command = refl; plain = (refl, refl) }) (record { values = λ x. refl; casts = λ x. simp (cast_int, cast_null, cast_text, cast_maybe_int, cast_maybe_text); row = λ x id. refl })

pub remove_addresses_by_host : (v : ℤ) → Alters addresses.tree address_texts.REMOVE_HOST.now (Int v ∷ []) (addresses_to (λ xs. delete_where (address_with_host v) xs))
unfolding understood everything
remove_addresses_by_host v = remove_by address_part (address_with_host v) (equals 2 0 ∷ []) (record { command = refl; plain = (refl, refl) }) (λ x. last_term (at_ints false Eq x.host v))

-- ---- link

pub put_link : (x : LinkRow) → Alters links.tree link_texts.PUT.now (link_shown x) (links_to (λ xs. insert_by links.key xs x))
unfolding understood everything
put_link = put_by link_part link_shown 5 (record { command = refl; plain = (refl, refl) }) (record { values = λ x. refl; place = λ x v. refl; updates = λ x v r. refl; unshared = λ new r. refl; headed = λ x. refl })

pub append_link : (x : LinkRow) → Alters links.tree link_texts.APPEND.now (drop 1 (link_shown x)) (links_to (λ xs. appended links (λ id. record x { id = id }) xs))
unfolding understood everything
append_link = append_by link_part link_shown (λ x id. record x { id = id }) 5 (record { command = refl; plain = (refl, refl) }) (record { values = λ x. refl; casts = λ x. simp (cast_int, cast_null, cast_text, cast_maybe_int, cast_maybe_text); row = λ x id. refl })

pub remove_links_by_domain : (v : ℤ) → Alters links.tree link_texts.REMOVE_DOMAIN.now (Int v ∷ []) (links_to (λ xs. delete_where (link_with_domain v) xs))
unfolding understood everything
remove_links_by_domain v = remove_by link_part (link_with_domain v) (equals 2 0 ∷ []) (record { command = refl; plain = (refl, refl) }) (λ x. last_term (at_ints false Eq x.domain v))

abbrev updated_due : List Term
updated_due = col 1 0 ∷ lit Null ∷ col 1 2 ∷ col 1 3 ∷ col 1 4 ∷ col 1 5 ∷ col 0 1 ∷ []

pub update_links_due : (v due : ℤ) → Alters links.tree link_texts.UPDATE_DUE.now (Int v ∷ Int due ∷ []) (links_to (λ xs. update_where (link_with_domain v) (λ x. record x { due = due }) xs))
unfolding understood everything
update_links_due v due = update_by link_part (link_with_domain v) (λ x. record x { due = due }) (equals 2 0 ∷ []) updated_due (record { command = refl; plain = (refl, refl) }) (λ x. last_term (at_ints false Eq x.domain v)) (record { row = λ x. refl; key = λ x. refl })

-- ---- line

pub put_line : (x : LineRow) → Alters lines.tree line_texts.PUT.now (line_shown x) (lines_to (λ xs. insert_by lines.key xs x))
unfolding understood everything
put_line = put_by line_part line_shown 10 (record { command = refl; plain = (refl, refl) }) (record { values = λ x. refl; place = λ x v. refl; updates = λ x v r. refl; unshared = λ new r. refl; headed = λ x. refl })

pub append_line : (x : LineRow) → Alters lines.tree line_texts.APPEND.now (drop 1 (line_shown x)) (lines_to (λ xs. appended lines (λ id. record x { id = id }) xs))
unfolding understood everything
append_line = append_by line_part line_shown (λ x id. record x { id = id }) 10 (record { command = refl; plain = (refl, refl) }) (record { values = λ x. refl; casts = λ x. simp (cast_int, cast_null, cast_text, cast_maybe_int, cast_maybe_text); row = λ x id. refl })

pub remove_lines_by_id : (v : ℤ) → Alters lines.tree line_texts.REMOVE_ID.now (Int v ∷ []) (lines_to (λ xs. delete_where (line_with_id v) xs))
unfolding understood everything
remove_lines_by_id v = remove_by line_part (line_with_id v) (equals 0 0 ∷ []) (record { command = refl; plain = (refl, refl) }) (λ x. last_term (at_ints false Eq x.id v))

-- ---- message

pub put_message : (x : MessageRow) → Alters messages.tree message_texts.PUT.now (message_shown x) (messages_to (λ xs. insert_by messages.key xs x))
unfolding understood everything
put_message = put_by message_part message_shown 7 (record { command = refl; plain = (refl, refl) }) (record { values = λ x. refl; place = λ x v. refl; updates = λ x v r. refl; unshared = λ new r. refl; headed = λ x. refl })

pub append_message : (x : MessageRow) → Alters messages.tree message_texts.APPEND.now (drop 1 (message_shown x)) (messages_to (λ xs. appended messages (λ id. record x { id = id }) xs))
unfolding understood everything
append_message = append_by message_part message_shown (λ x id. record x { id = id }) 7 (record { command = refl; plain = (refl, refl) }) (record { values = λ x. refl; casts = λ x. simp (cast_int, cast_null, cast_text, cast_maybe_int, cast_maybe_text); row = λ x id. refl })

pub remove_messages_by_id : (v : ℤ) → Alters messages.tree message_texts.REMOVE_ID.now (Int v ∷ []) (messages_to (λ xs. delete_where (message_with_id v) xs))
unfolding understood everything
remove_messages_by_id v = remove_by message_part (message_with_id v) (equals 0 0 ∷ []) (record { command = refl; plain = (refl, refl) }) (λ x. last_term (at_ints false Eq x.id v))

-- ---- transfer

pub put_transfer : (x : TransferRow) → Alters transfers.tree transfer_texts.PUT.now (transfer_shown x) (transfers_to (λ xs. insert_by transfers.key xs x))
unfolding understood everything
put_transfer = put_by transfer_part transfer_shown 8 (record { command = refl; plain = (refl, refl) }) (record { values = λ x. refl; place = λ x v. refl; updates = λ x v r. refl; unshared = λ new r. refl; headed = λ x. refl })

pub append_transfer : (x : TransferRow) → Alters transfers.tree transfer_texts.APPEND.now (drop 1 (transfer_shown x)) (transfers_to (λ xs. appended transfers (λ id. record x { id = id }) xs))
unfolding understood everything
append_transfer = append_by transfer_part transfer_shown (λ x id. record x { id = id }) 8 (record { command = refl; plain = (refl, refl) }) (record { values = λ x. refl; casts = λ x. simp (cast_int, cast_null, cast_text, cast_maybe_int, cast_maybe_text); row = λ x id. refl })

pub remove_transfers_by_contact : (v : ℤ) → Alters transfers.tree transfer_texts.REMOVE_CONTACT.now (Int v ∷ []) (transfers_to (λ xs. delete_where (transfer_with_contact v) xs))
unfolding understood everything
remove_transfers_by_contact v = remove_by transfer_part (transfer_with_contact v) (equals 2 0 ∷ []) (record { command = refl; plain = (refl, refl) }) (λ x. last_term (at_points_to x.contact v))

pub remove_transfers_by_domain : (v : ℤ) → Alters transfers.tree transfer_texts.REMOVE_DOMAIN.now (Int v ∷ []) (transfers_to (λ xs. delete_where (transfer_with_domain v) xs))
unfolding understood everything
remove_transfers_by_domain v = remove_by transfer_part (transfer_with_domain v) (equals 3 0 ∷ []) (record { command = refl; plain = (refl, refl) }) (λ x. last_term (at_points_to x.domain v))

-- ---- days

pub append_day : (x : DayRow) → Alters days.tree day_texts.APPEND.now (drop 1 (day_shown x)) (days_to (λ xs. appended days (λ id. record x { id = id }) xs))
unfolding understood everything
append_day = append_by day_part day_shown (λ x id. record x { id = id }) 10 (record { command = refl; plain = (refl, refl) }) (record { values = λ x. refl; casts = λ x. simp (cast_int, cast_null, cast_text, cast_maybe_int, cast_maybe_text); row = λ x id. refl })
