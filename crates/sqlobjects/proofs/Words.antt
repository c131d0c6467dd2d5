-- The words that many proofs name, from one place.
pub use Rattle.objects.specs.declared.host.Host.{Host}
pub use Rattle.sqlcolumns.proofs.ReadLemmas.{same_some, step}
pub use Rattle.sqlcolumns.specs.{Hosts.host_of_columns, Transfers.{IsStorableTransfer, is_same}}
pub use Rattle.sqlcolumns.specs.inner.Contacts.{IsContact, contact_registration, contact_row_with, postal_row, row_of_contact}
pub use Rattle.sqlite_keyed.proofs.KeyedLemmas.{int_eq_apart, key-get_by, same_int}
pub use Rattle.sqlite_keyed.specs.{Keyed.{IsKeyedBy, get_by, insert_by, next_key}, Lists.{delete_where, update_where}}
pub use Rattle.sqlite_rules.specs.Lists.{Has}
pub use Rattle.sqlite_typed.specs.Tests.{bytes_eq}
pub use Rattle.sqlobjects.specs.Objects.{addresses_of, contact_read, contacts_of, host_entry, host_read, hosts_of, last_transfer, texts_of}
pub use Rattle.sqlobjects.specs.Sponsors.{IsSponsorSetBelow, first_sponsor, is_sponsor_right, sponsor_of, sponsors_are_right}
pub use Rattle.sqlobjects.specs.declared.transfers.Transferable.{Transferable}
pub use Rattle.sqlobjects.specs.inner.Changes.{IsContactPut, IsHostPut, IsRowRenamed, new_name, with_named}
pub use Rattle.sqlobjects.specs.inner.Stages.{AreAddressesAdded, AreAddressesPut, AreHostsMoved, AreOtherAddressesKept, AreOtherNamesKept, HasRightSponsor, IsHostFound, IsHostRow, IsPlaced, IsPlacedAt, IsRowPlaced, IsRowTaken, NamedTable, named_contacts, named_hosts, rows_named, with_last, with_replaced}
pub use Rattle.sqlobjects.specs.inner.Transfers.{AreOtherTransfersKept, IsTransferCleared, IsTransferPut, is_transfer_of, with_over}
pub use Rattle.sqlrows.proofs.StateLemmas.{reads-on, reads-same, stays-on, then-became, then-made}
pub use Rattle.sqlrows.specs.{Meanings.{Changes, HasChanged}, Read.{first_read, or_else, rows_of}}
pub use Rattle.sqltables.proofs.RowLemmas.{bytes_same, same_by_key}
pub use Rattle.sqltables.specs.{Address.{address_with_host, addresses}, Content.Content, Host.{host_takes_sponsor, host_with_id, hosts}}
pub use Rattle.sqltables.specs.{declared.{contact.ContactRow.ContactRow, host.HostRow.HostRow}, inner.Consistent.{IsConsistent, IsNamedBy}}
pub use Rattle.sqltables.specs.inner.Content.{addresses_to, contacts_to, hosts_to, transfers_to}
pub use Rattle.std.proofs.lemmas.Bool.{and_parts, eqb-true, false_from_ne_true, Decides.Decides-int_eq}
pub use Rattle.std.proofs.lemmas.List.{append-nil, map-append, nil_from_length, take_all, take_more}
pub use Rattle.std.specs.{FinMap.{from_entries, get}, List.{cons_option, filter_map, list_all}, Prelude.filter}
