-- The words that many proofs name, from one place.
pub use Rattle.basis.proofs.MapLemmas.{entries-map_values, get-map_values, names_apart}
pub use Rattle.objects.specs.{Hosts.is_below, Links.{has_name, names_contact, names_host}, declared.domain.{Domain.Domain, Links.Links}}
pub use Rattle.objects.specs.declared.host.Host.{Host}
pub use Rattle.sqlcolumns.proofs.ReadLemmas.{passed, same_some, step}
pub use Rattle.sqlcolumns.specs.{Codes.role_in, Domains.{deletion_in, domain_of_columns, domain_registration_columns, domain_with}}
pub use Rattle.sqlcolumns.specs.Numbers.{maybe_moment_in, maybe_registrar_column, moment_column, moment_in_column, registrar_column, registrar_in, years_in_column}
pub use Rattle.sqlcolumns.specs.{Registrations.{columns_with, registration_columns, registration_in}, Steps.◌>>=◌, Texts.statuses_in}
pub use Rattle.sqlcolumns.specs.declared.code.Role.{Role}
pub use Rattle.sqldomains.specs.Domains.{alone, are_dated, dated, domain_by, domain_entry, domain_read, domains_of, in_places, linked_name, links_of, placed, registrant_alone, with_link_read, with_linked_name, with_links}
pub use Rattle.sqldomains.specs.inner.Changes.{IsDomainPut, sponsor_in}
pub use Rattle.sqldomains.specs.inner.Delegations.{IsAllOfRows, delegated, delegation_among, delegation_read, delegations_of_rows, ends_of, last_id, with_page, with_rows}
pub use Rattle.sqldomains.specs.inner.Links.{IsNoContact, PassesTest, name_at, some_domain_names_contact, some_domain_names_host}
pub use Rattle.sqldomains.specs.inner.Names.{Named, host_standing, hosts_below, is_dotted, rows_around, with_hosts, with_one, with_read}
pub use Rattle.sqldomains.specs.inner.Stages.{AreDuesSet, AreLinksCleared, AreLinksPut, AreLinksPutOver, AreNamesAdded, AreOtherLinksKept, AreOtherPartsKept, ArePartsPut, HasLinkRows, HasNoParts, IsLinkTo, row_beside, with_names}
pub use Rattle.sqlite_keyed.proofs.KeyedLemmas.{get_by-update_where, int_eq_apart, same_int}
pub use Rattle.sqlite_keyed.proofs.ListLemmas.{all_weaker, filter-filter, filter-map, filter_all, filter_same, list_all_push, map-map, none_from_any}
pub use Rattle.sqlite_keyed.specs.{Keyed.{IsKeyedBy, get_by, next_key}, Lists.{delete_where, update_where}}
pub use Rattle.sqlite_rules.specs.Lists.{Has}
pub use Rattle.sqlobjects.proofs.PutLemmas.{bytes_is, filter-append, filter-append_pass, filter-delete, filter-deleted, filter-has, get_by-has, has-filter, only_named, row_there}
pub use Rattle.sqlobjects.proofs.StepLemmas.{asked-became, asked-stood, asked-turns, made, stood}
pub use Rattle.sqlobjects.proofs.VerdictLemmas.{all-alike, all-changed, all-pass, each-passes, same-verdict}
pub use Rattle.sqlobjects.specs.Changes.{contact_name_by_number, host_name_by_number}
pub use Rattle.sqlobjects.specs.Objects.{addresses_of, contact_entry, contact_read, contacts_of, host_read, hosts_of, last_transfer}
pub use Rattle.sqlobjects.specs.inner.Changes.{IsContactPut, IsHostPut, IsRowRenamed, new_name, with_named}
pub use Rattle.sqlobjects.specs.inner.Stages.{IsPlaced, IsPlacedAt, IsRowPlaced, NamedTable, named_contacts, named_domains, named_hosts, rows_named}
pub use Rattle.sqlobjects.specs.inner.Transfers.{AreOtherTransfersKept, IsTransferCleared, IsTransferPut, is_transfer_of}
pub use Rattle.sqlrows.proofs.StateLemmas.{one-asked, reads-on, reads-same, stays-on, then-became, then-made}
pub use Rattle.sqlrows.specs.{Meanings.HasChanged, Read.{first_read, named, or_else, rows_of}}
pub use Rattle.sqltables.proofs.RowLemmas.{bytes_same}
pub use Rattle.sqlrows.proofs.ReplaceLemmas.{at-all}
pub use Rattle.sqltables.specs.{Content.Content, Domain.{domain_after_id, domain_with_id, domain_with_registrant}}
pub use Rattle.sqltables.specs.Link.{link_of_domains, link_with_contact, link_with_domain, link_with_host, links}
pub use Rattle.sqltables.specs.Transfer.{transfer_of_domains, transfer_with_contact, transfer_with_domain}
pub use Rattle.sqltables.specs.declared.{domain.DomainRow.DomainRow, host.HostRow.HostRow, link.LinkRow.LinkRow}
pub use Rattle.sqltables.specs.inner.{Consistent.{IsConsistent, LeadsTo}, Content.{domains_to, links_to}}
pub use Rattle.states.specs.States.{Finds, FindsSome, Reads, StateOf}
pub use Rattle.std.proofs.lemmas.Bool.{false_from_ne_true, ltb-true, or_cases}
pub use Rattle.std.proofs.lemmas.{List.{append-nil, append_assoc, take-append-drop, take_all, take_more}, Slice.Eq.bytes_eq-Decides}
pub use Rattle.std.specs.Cmp.Lexicographic.{nat_list_cmp_total, slice_cmp}
pub use Rattle.std.specs.FinMap.{empty, entries, from_entries, get, get-empty, get-insert, insert, keys, same_map, values}
pub use Rattle.std.specs.{List.{AllByRecursion, cons_option, filter_map, list_all, list_any}, Ordering.{eq_by_cmp, int_eq, nat_cmp}}
