-- Statements on one of the eleven tables, as statements on all of them.
use Rattle.std.proofs.Common.{◌≡◌, ◌≢◌, ◌==◌, ◌||◌, Bool, true, false, ℕ, ℤ, List, [], ◌∷◌, map, Option, Some, slice_get, ◌∙◌, refl, ap, ap₂, subst, sym, true≢false}
use Rattle.sqltables.proofs.Words.{AccountRow, accounts, accounts_to, addresses, AddressRow, AllByRecursion, Alters, Appends, AreOthersSame, Asks}
use Rattle.sqltables.proofs.Words.{bound_value, command_of, ContactRow, contacts, Content, Database, DayRow, DomainRow, domains, end, eq-eqb}
use Rattle.sqltables.proofs.Words.{eqb-true, Holds, HostRow, hosts, inner, is_table, IsAnswer, IsContent, IsSelect, Layout, Leads, LineRow, lines}
use Rattle.sqltables.proofs.Words.{LinkRow, links, list_any, Listed, MessageRow, messages, MetaRow, metas, metas_to, overlay, Query, registry, Row}
use Rattle.sqltables.proofs.Words.{Sets, Table, TransferRow, transfers, Trees, understood, Value, writes_tables}
use Rattle.sqlite_rules.specs.Cast.{cast_row}
use Rattle.sqlite.specs.{Does.Tally, Given.IsPlain}
use Rattle.sqlrows.proofs.{CastLemmas.{cast_int, cast_null, cast_text, cast_maybe_int, cast_maybe_text}, QuietLemmas.quiet_if_idle}
use Rattle.sqltables.specs.inner.Content.{contacts_to, domains_to, hosts_to, addresses_to, links_to, lines_to, messages_to, transfers_to, days_to}
use Rattle.sqltables.specs.Day.{days}
use Rattle.sqltables.specs.Tables as schema

abbrev given : Trees → Database
given db = record { schema = registry; trees = db }

-- the table in a tree is as it was, of several of which each is whose tree isn't the one that is written
others_same : (written : ℕ) (old new : Trees) (tables : List Table) → AllByRecursion (λ t. t.tree ≢ written → new t.tree ≡ old t.tree) tables
    → (tree : ℕ) → list_any (λ t. t.tree == tree) tables ≡ true → tree ≢ written → new tree ≡ old tree
others_same written old new [] kept tree h apart = absurd (true≢false (sym h))
others_same written old new (t ∷ ts) kept tree h apart = go (t.tree == tree) refl h (λ more. others_same written old new ts kept.1 tree more apart)
  where
    go : (b : Bool) → (t.tree == tree) ≡ b → (b || list_any (λ x. x.tree == tree) ts) ≡ true → (list_any (λ x. x.tree == tree) ts ≡ true → new tree ≡ old tree) → new tree ≡ old tree
    go true e _ later = let same = eqb-true t.tree tree e in subst (λ n. new n ≡ old n) same (kept.0 (λ is. apart (sym same ∙ is)))
    go false e more later = later more

-- what a table holds after a write: these rows if it is the one that is written, and else what it held
abbrev Turns : {X : Type 0} → Bool → Layout X → Trees → List X → List X → Type 0
Turns true L new was xs = Holds L new xs
Turns false L new was xs = was ≡ xs

turns : {X : Type 0} (L : Layout X) (written : ℕ) (old new : Trees) (was xs : List X) → AreOthersSame written old new → is_table L.tree ≡ true
    → Holds L old was → Turns (L.tree == written) L new was xs → Holds L new xs
turns {X} L written old new was xs others is h it = go (L.tree == written) refl it
  where
    go : (here : Bool) → (L.tree == written) ≡ here → Turns here L new was xs → Holds L new xs
    go true e these = these
    go false e same = subst (Holds L new) same (record { rows = others L.tree is (λ one. true≢false (sym (eq-eqb L.tree written one) ∙ e)) ∙ h.rows; keyed = h.keyed })

-- the same of all tables
abbrev Turned : ℕ → Trees → Content → Content → Type 0
Turned written new was xs =
    Turns (metas.tree == written) metas new was.metas xs.metas
    × Turns (accounts.tree == written) accounts new was.accounts xs.accounts
    × Turns (contacts.tree == written) contacts new was.contacts xs.contacts
    × Turns (domains.tree == written) domains new was.domains xs.domains
    × Turns (hosts.tree == written) hosts new was.hosts xs.hosts
    × Turns (addresses.tree == written) addresses new was.addresses xs.addresses
    × Turns (links.tree == written) links new was.links xs.links
    × Turns (lines.tree == written) lines new was.lines xs.lines
    × Turns (messages.tree == written) messages new was.messages xs.messages
    × Turns (transfers.tree == written) transfers new was.transfers xs.transfers
    × Turns (days.tree == written) days new was.days xs.days

turned : (written : ℕ) (old : Trees) (after : Database) (was xs : Content) → after.schema ≡ registry → AreOthersSame written old after.trees
    → IsContent was (given old) → Turned written after.trees was xs → IsContent xs after
turned written old after was xs same others h it = record {
  schema = same;
  metas = turns metas written old after.trees was.metas xs.metas others refl h.metas it.0;
  accounts = turns accounts written old after.trees was.accounts xs.accounts others refl h.accounts it.1;
  contacts = turns contacts written old after.trees was.contacts xs.contacts others refl h.contacts it.2;
  domains = turns domains written old after.trees was.domains xs.domains others refl h.domains it.3;
  hosts = turns hosts written old after.trees was.hosts xs.hosts others refl h.hosts it.4;
  addresses = turns addresses written old after.trees was.addresses xs.addresses others refl h.addresses it.5;
  links = turns links written old after.trees was.links xs.links others refl h.links it.6;
  lines = turns lines written old after.trees was.lines xs.lines others refl h.lines it.7;
  messages = turns messages written old after.trees was.messages xs.messages others refl h.messages it.8;
  transfers = turns transfers written old after.trees was.transfers xs.transfers others refl h.transfers it.9;
  days = turns days written old after.trees was.days xs.days others refl h.days it.10;
}

-- one of the tables: how its rows lie and where, which they are of all that is held, and a change of them alone
pub record Part (X : Type 0) : Type 0 where
  pub layout : Layout X
  pub at : ℕ
  pub table : Table
  pub listed : Listed layout registry at table
  pub rows : Content → List X
  pub to : (List X → List X) → Content → Content
  pub is : is_table layout.tree ≡ true
  pub holds : (xs : Content) (db : Database) → IsContent xs db → Holds layout db.trees (rows xs)
  pub turned : (change : List X → List X) (new : Trees) (xs : Content) → Holds layout new (change (rows xs)) → Turned layout.tree new xs (to change xs)

pub listed : {X : Type 0} (L : Layout X) (at : ℕ) (table : Table) → slice_get registry.tables at ≡ Some table → table.tree ≡ L.tree → table.is_counted ≡ false
    → table.stamps ≡ record { places = []; terms = []; formats = [] } → ((x : X) → cast_row table (L.to_row x) ≡ L.to_row x) → Listed L registry at table
listed L at table is tree uncounted unstamped casts = record { is = is; tree = tree; quiet = quiet_if_idle registry refl; uncounted = uncounted; unstamped = unstamped; casts = casts }

abbrev pub meta_part : Part MetaRow
meta_part = record { layout = metas; at = 0; table = record schema.meta { tree = 0 }; listed = listed metas 0 (record schema.meta { tree = 0 }) refl refl refl refl (λ x. simp (cast_int, cast_null, cast_text, cast_maybe_int, cast_maybe_text)); rows = λ c. c.metas; to = metas_to; is = refl; holds = λ xs db h. h.metas; turned = λ f new xs h. (h, refl, refl, refl, refl, refl, refl, refl, refl, refl, refl) }

abbrev pub account_part : Part AccountRow
account_part = record { layout = accounts; at = 1; table = record schema.account { tree = 1 }; listed = listed accounts 1 (record schema.account { tree = 1 }) refl refl refl refl (λ x. simp (cast_int, cast_null, cast_text, cast_maybe_int, cast_maybe_text)); rows = λ c. c.accounts; to = accounts_to; is = refl; holds = λ xs db h. h.accounts; turned = λ f new xs h. (refl, h, refl, refl, refl, refl, refl, refl, refl, refl, refl) }

abbrev pub contact_part : Part ContactRow
contact_part = record { layout = contacts; at = 2; table = record schema.contact { tree = 3 }; listed = listed contacts 2 (record schema.contact { tree = 3 }) refl refl refl refl (λ x. simp (cast_int, cast_null, cast_text, cast_maybe_int, cast_maybe_text)); rows = λ c. c.contacts; to = contacts_to; is = refl; holds = λ xs db h. h.contacts; turned = λ f new xs h. (refl, refl, h, refl, refl, refl, refl, refl, refl, refl, refl) }

abbrev pub domain_part : Part DomainRow
domain_part = record { layout = domains; at = 3; table = record schema.domain { tree = 5 }; listed = listed domains 3 (record schema.domain { tree = 5 }) refl refl refl refl (λ x. simp (cast_int, cast_null, cast_text, cast_maybe_int, cast_maybe_text)); rows = λ c. c.domains; to = domains_to; is = refl; holds = λ xs db h. h.domains; turned = λ f new xs h. (refl, refl, refl, h, refl, refl, refl, refl, refl, refl, refl) }

abbrev pub host_part : Part HostRow
host_part = record { layout = hosts; at = 4; table = record schema.host { tree = 7 }; listed = listed hosts 4 (record schema.host { tree = 7 }) refl refl refl refl (λ x. simp (cast_int, cast_null, cast_text, cast_maybe_int, cast_maybe_text)); rows = λ c. c.hosts; to = hosts_to; is = refl; holds = λ xs db h. h.hosts; turned = λ f new xs h. (refl, refl, refl, refl, h, refl, refl, refl, refl, refl, refl) }

abbrev pub address_part : Part AddressRow
address_part = record { layout = addresses; at = 5; table = record schema.address { tree = 9 }; listed = listed addresses 5 (record schema.address { tree = 9 }) refl refl refl refl (λ x. simp (cast_int, cast_null, cast_text, cast_maybe_int, cast_maybe_text)); rows = λ c. c.addresses; to = addresses_to; is = refl; holds = λ xs db h. h.addresses; turned = λ f new xs h. (refl, refl, refl, refl, refl, h, refl, refl, refl, refl, refl) }

abbrev pub link_part : Part LinkRow
link_part = record { layout = links; at = 6; table = record schema.link { tree = 10 }; listed = listed links 6 (record schema.link { tree = 10 }) refl refl refl refl (λ x. simp (cast_int, cast_null, cast_text, cast_maybe_int, cast_maybe_text)); rows = λ c. c.links; to = links_to; is = refl; holds = λ xs db h. h.links; turned = λ f new xs h. (refl, refl, refl, refl, refl, refl, h, refl, refl, refl, refl) }

abbrev pub line_part : Part LineRow
line_part = record { layout = lines; at = 7; table = record schema.line { tree = 11 }; listed = listed lines 7 (record schema.line { tree = 11 }) refl refl refl refl (λ x. simp (cast_int, cast_null, cast_text, cast_maybe_int, cast_maybe_text)); rows = λ c. c.lines; to = lines_to; is = refl; holds = λ xs db h. h.lines; turned = λ f new xs h. (refl, refl, refl, refl, refl, refl, refl, h, refl, refl, refl) }

abbrev pub message_part : Part MessageRow
message_part = record { layout = messages; at = 8; table = record schema.message { tree = 12 }; listed = listed messages 8 (record schema.message { tree = 12 }) refl refl refl refl (λ x. simp (cast_int, cast_null, cast_text, cast_maybe_int, cast_maybe_text)); rows = λ c. c.messages; to = messages_to; is = refl; holds = λ xs db h. h.messages; turned = λ f new xs h. (refl, refl, refl, refl, refl, refl, refl, refl, h, refl, refl) }

abbrev pub transfer_part : Part TransferRow
transfer_part = record { layout = transfers; at = 9; table = record schema.transfer { tree = 13 }; listed = listed transfers 9 (record schema.transfer { tree = 13 }) refl refl refl refl (λ x. simp (cast_int, cast_null, cast_text, cast_maybe_int, cast_maybe_text)); rows = λ c. c.transfers; to = transfers_to; is = refl; holds = λ xs db h. h.transfers; turned = λ f new xs h. (refl, refl, refl, refl, refl, refl, refl, refl, refl, h, refl) }

abbrev pub day_part : Part DayRow
day_part = record { layout = days; at = 10; table = record schema.days { tree = 34 }; listed = listed days 10 (record schema.days { tree = 34 }) refl refl refl refl (λ x. simp (cast_int, cast_null, cast_text, cast_maybe_int, cast_maybe_text)); rows = λ c. c.days; to = days_to; is = refl; holds = λ xs db h. h.days; turned = λ f new xs h. (refl, refl, refl, refl, refl, refl, refl, refl, refl, refl, h) }

-- a query of one table
abbrev Answers : {X : Type 0} → Layout X → (X → Row) → Query → Row → (List X → List X) → Type 0
Answers {X} L shown q params f = (db : Trees) (xs : List X) (rows : List Row) → Holds L db xs → IsAnswer q (overlay db []) params rows → rows ≡ map shown (f xs)

-- a statement that writes one table
abbrev Changes : {X : Type 0} → Layout X → List ℕ → Row → (List X → List X) → Type 0
Changes {X} L sql params f = (limit : Option ℕ) (text : List ℕ) (db : Trees) (tally : Tally) (after : Database) (xs : List X) → Holds L db xs → Leads registry sql params limit text db tally after → Sets L registry (given db) after (f xs)

module _ {X : Type 0} (T : Part X) where
  pub asks : (shown : X → Row) (sql : List ℕ) (params : Row) (q : Query) (f : List X → List X) → IsSelect registry sql q → q.from ≡ inner T.layout.tree end → Answers T.layout shown q params f
      → Asks T.layout.tree shown sql params (λ c. f (T.rows c))
  asks shown sql params q f is from answers =
      record { query = q; is = is; of = record { from = from; table = T.is }; means = λ db xs rows h answer. answers db (T.rows xs) rows (T.holds xs (given db) h) answer }

  pub alters : (sql : List ℕ) (params : Row) (f : List X → List X) → IsPlain (understood registry sql) → writes_tables (command_of (understood registry sql)) ≡ true → Changes T.layout sql params f
      → Alters T.layout.tree sql params (T.to f)
  alters sql params f plain writes changes = record {
    plain = plain;
    writes = writes;
    means = λ limit text db tally after xs h ran.
        let it = changes limit text db tally after (T.rows xs) (T.holds xs (given db) h) ran in
        turned T.layout.tree db after xs (T.to f xs) it.same (others_same T.layout.tree db after.trees registry.tables it.others) h (T.turned f after.trees xs it.holds);
    others = λ limit text db tally after xs h ran. others_same T.layout.tree db after.trees registry.tables (changes limit text db tally after (T.rows xs) (T.holds xs (given db) h) ran).others;
  }

-- the same for parameters that are equal
pub asks-by : {R : Type 0} {tree : ℕ} {shown : R → Row} {sql : List ℕ} {row given : Row} {f : Content → List R} → given ≡ row → Asks tree shown sql row f → Asks tree shown sql given f
asks-by {R} {tree} {shown} {sql} {row} {given} {f} e a = subst (λ (r : Row). Asks tree shown sql r f) (sym e) a

pub alters-by : {tree : ℕ} {sql : List ℕ} {row given : Row} {f : Content → Content} → given ≡ row → Alters tree sql row f → Alters tree sql given f
alters-by {tree} {sql} {row} {given} {f} e a = subst (λ (r : Row). Alters tree sql r f) (sym e) a

pub appends-by : {tree : ℕ} {sql : List ℕ} {row given : Row} {f : Content → Content} {number : Content → ℤ} → given ≡ row → Appends tree sql row f number → Appends tree sql given f number
appends-by {tree} {sql} {row} {given} {f} {number} e a = subst (λ (r : Row). Appends tree sql r f number) (sym e) a

-- the last of some parameters, and one before others
pub bound-last : {v w : Value} → v ≡ w → bound_value v ∷ [] ≡ bound_value w ∷ []
bound-last e = ap (λ (v : Value). bound_value v ∷ []) e

pub bound-then : {v w : Value} {rest more : Row} → v ≡ w → rest ≡ more → bound_value v ∷ rest ≡ bound_value w ∷ more
bound-then e f = ap₂ (λ (v : Value) (row : Row). bound_value v ∷ row) e f
