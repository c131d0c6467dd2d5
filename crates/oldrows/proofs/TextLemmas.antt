-- What the texts ask for.
use Rattle.std.proofs.Common.{◌≡◌, ℕ, ap, map, sym, ◌∙◌, refl, List, [], ◌∷◌, true}
use Rattle.sqlite_value.specs.{declared.value.Value.TheVariants.Null, Order.Row}
use Rattle.sqlite_sql.specs.Term.{Term, col, eval_all, lit}
use Rattle.sqlite_trees.proofs.ListLemmas.{map-map}
use Rattle.sqlite_keyed.proofs.ListLemmas.{filter_all, all_of}
use Rattle.sqlite.specs.{Effect.Database, Listing.understood}
use Rattle.sqlite_tied.specs.Compute.{everything}
use Rattle.sqlrows.specs.{Layouts.Layout, inner.Layouts.{Holds, IsSelect, select_query}}
use Rattle.sqlrows.proofs.SelectLemmas.{selects}
use Rattle.sqltables.specs.{Content.Content, inner.FirstTables.first_registry, Meta.{meta_shown, metas}, Account.{account_shown, accounts}}
use Rattle.sqltables.specs.{Contact.{contact_shown, contacts}, Domain.{domain_shown, domains}, Host.{host_shown, hosts}}
use Rattle.sqltables.specs.{Address.{address_shown, addresses}, Link.{link_shown, links}, Line.line_shown, declared.line.LineRow.LineRow}
use Rattle.sqltables.specs.{Message.{message_shown, messages}, Transfer.{transfer_shown, transfers}}
use Rattle.sqltables.proofs.StatementLemmas.{all_columns}
use Rattle.oldrows.specs.inner.{Stored.{Asks, IsOld}, Lines.{first_lines, without_end}}
use Rattle.oldrows.specs.declared.{copied.TheConstants.{ACCOUNTS, CONTACTS, DOMAINS, HOSTS, ADDRESSES, LINKS, LINES, MESSAGES, TRANSFERS}, reading.TheConstants.METAS}

-- a text that selects these columns of all rows of a table asks for the records that they show
of-all : {R : Type 0} {shown : R → Row} {sql : List ℕ} {f : Content → List R} (L : Layout R) (columns : List Term) → ((x : R) → eval_all columns ([] ∷ L.to_row x ∷ []) ≡ shown x) → ((xs : Content) (db : Database) → IsOld xs db → Holds L db.trees (f xs))
    → IsSelect first_registry sql (select_query L.tree [] columns) → Asks shown sql f
of-all {R} {shown} {sql} {f} L columns shows held is = record {
  query = select_query L.tree [] columns;
  is = is;
  means = λ db xs rows h answer.
      selects L [] columns [] (λ _. true) shown (λ x. refl) shows db (f xs) rows (held xs (record { schema = first_registry; trees = db }) h) answer
      ∙ ap (map shown) (filter_all (λ _. true) (f xs) (all_of _ (λ x. refl) (f xs)));
}

pub meta_asks : Asks meta_shown METAS.now (λ c. c.metas)
unfolding understood everything
meta_asks = of-all metas (all_columns 16) (λ x. refl) (λ xs db h. h.metas) (record { names = _; command = refl; plain = (refl, refl); unlisted = refl })

pub account_asks : Asks account_shown ACCOUNTS.now (λ c. c.accounts)
unfolding understood everything
account_asks = of-all accounts (all_columns 7) (λ x. refl) (λ xs db h. h.accounts) (record { names = _; command = refl; plain = (refl, refl); unlisted = refl })

pub contact_asks : Asks contact_shown CONTACTS.now (λ c. c.contacts)
unfolding understood everything
contact_asks = of-all contacts (all_columns 19) (λ x. refl) (λ xs db h. h.contacts) (record { names = _; command = refl; plain = (refl, refl); unlisted = refl })

pub domain_asks : Asks domain_shown DOMAINS.now (λ c. c.domains)
unfolding understood everything
domain_asks = of-all domains (all_columns 14) (λ x. refl) (λ xs db h. h.domains) (record { names = _; command = refl; plain = (refl, refl); unlisted = refl })

pub host_asks : Asks host_shown HOSTS.now (λ c. c.hosts)
unfolding understood everything
host_asks = of-all hosts (all_columns 9) (λ x. refl) (λ xs db h. h.hosts) (record { names = _; command = refl; plain = (refl, refl); unlisted = refl })

pub address_asks : Asks address_shown ADDRESSES.now (λ c. c.addresses)
unfolding understood everything
address_asks = of-all addresses (all_columns 2) (λ x. refl) (λ xs db h. h.addresses) (record { names = _; command = refl; plain = (refl, refl); unlisted = refl })

pub link_asks : Asks link_shown LINKS.now (λ c. c.links)
unfolding understood everything
link_asks = of-all links (all_columns 5) (λ x. refl) (λ xs db h. h.links) (record { names = _; command = refl; plain = (refl, refl); unlisted = refl })

-- a line that shows no end of its grace
abbrev endless_shown : LineRow → Row
endless_shown x = line_shown (without_end x)

abbrev line_columns : List Term
line_columns = col 1 0 ∷ col 1 2 ∷ col 1 3 ∷ col 1 4 ∷ col 1 5 ∷ col 1 6 ∷ col 1 7 ∷ col 1 8 ∷ lit Null ∷ col 1 9 ∷ col 1 10 ∷ []

line_asked : Asks endless_shown LINES.now (λ c. c.lines)
unfolding understood everything
line_asked = of-all first_lines line_columns (λ x. refl) (λ xs db h. h.lines) (record { names = _; command = refl; plain = (refl, refl); unlisted = refl })

pub line_asks : Asks line_shown LINES.now (λ c. c.lines)
line_asks = record {
  query = line_asked.query;
  is = line_asked.is;
  means = λ db xs rows h answer. line_asked.means db xs rows h answer ∙ sym (map-map line_shown without_end xs.lines) ∙ ap (map line_shown) h.endless;
}

pub message_asks : Asks message_shown MESSAGES.now (λ c. c.messages)
unfolding understood everything
message_asks = of-all messages (all_columns 7) (λ x. refl) (λ xs db h. h.messages) (record { names = _; command = refl; plain = (refl, refl); unlisted = refl })

pub transfer_asks : Asks transfer_shown TRANSFERS.now (λ c. c.transfers)
unfolding understood everything
transfer_asks = of-all transfers (all_columns 8) (λ x. refl) (λ xs db h. h.transfers) (record { names = _; command = refl; plain = (refl, refl); unlisted = refl })
