-- The words that the calls on each table share.
pub use Rattle.states.specs.States.{Finds, Makes}
pub use Rattle.sqlite_value.specs.Value.{owned}
pub use Rattle.sqlite.specs.Values.{bound}
pub use Rattle.sqlite_keyed.specs.Keyed.{insert_by, next_key}
pub use Rattle.sqlite_keyed.specs.Lists.{update_where, delete_where}
pub use Rattle.sqlrows.specs.inner.Layouts.{appended}
pub use Rattle.sqltables.specs.inner.Content.{accounts_to, addresses_to, contacts_to, days_to, domains_to, hosts_to, lines_to, links_to, messages_to, metas_to, transfers_to}
