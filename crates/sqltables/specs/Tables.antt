-- The tables of the registry.
use Rattle.std.specs.Prelude.{[], ◌∷◌, ◌++◌, codes, List, map, ℕ, ℤ, pos}
use Rattle.sqlite.specs.Table.{Table}
use Rattle.sqlite.specs.Schema.{Schema}
use Rattle.sqlite.specs.Kind.TheVariants.{Integer, Text, Blob}
use Rattle.sqlite_schema.specs.declared.schema.Column.{Column}
use Rattle.sqlite_schema.specs.declared.schema.Index.{Index}
use Rattle.sqlite_catalog.specs.Change.{created, indexed}
use Rattle.sqlrows.specs.Columns.{filled, nullable, keyed_table, index_on, reference_to, no_schema}
use Rattle.sqltables.specs.declared.schema.TheConstants.{LINE}

abbrev pub meta : Table
meta = keyed_table (codes "meta") (filled (codes "version") Integer ∷ filled (codes "clock") Integer ∷ filled (codes "zone") Text ∷ filled (codes "reserved") Text ∷ filled (codes "days_add") Integer ∷ filled (codes "days_auto_renew") Integer ∷ filled (codes "days_renew") Integer ∷ filled (codes "days_transfer") Integer ∷ filled (codes "days_redemption") Integer ∷ filled (codes "days_restore") Integer ∷ filled (codes "days_pending_delete") Integer ∷ filled (codes "days_answer") Integer ∷ filled (codes "days_lock") Integer ∷ filled (codes "price_create") Integer ∷ filled (codes "price_renew") Integer ∷ filled (codes "price_transfer") Integer ∷ []) ([]) ([])

abbrev pub account : Table
account = keyed_table (codes "account") (filled (codes "ident") Text ∷ filled (codes "commands") Integer ∷ filled (codes "messages") Integer ∷ filled (codes "serial") Integer ∷ filled (codes "waiting") Integer ∷ filled (codes "balance") Blob ∷ filled (codes "held") Integer ∷ []) ((2 ∷ []) ∷ []) ([])

abbrev pub contact : Table
contact = keyed_table (codes "contact") (filled (codes "name") Text ∷ filled (codes "creator") Integer ∷ filled (codes "serial") Integer ∷ filled (codes "sponsor") Integer ∷ filled (codes "created") Integer ∷ nullable (codes "transferred") Integer ∷ nullable (codes "updated") Integer ∷ filled (codes "statuses") Text ∷ filled (codes "secret") Text ∷ filled (codes "postal_name") Text ∷ nullable (codes "org") Text ∷ filled (codes "street") Text ∷ filled (codes "city") Text ∷ nullable (codes "state") Text ∷ nullable (codes "postal_code") Text ∷ filled (codes "country") Text ∷ nullable (codes "voice") Text ∷ nullable (codes "due") Integer ∷ filled (codes "mail") Text ∷ []) ((2 ∷ []) ∷ []) (reference_to (codes "account") 5 ∷ [])

abbrev pub domain : Table
domain = keyed_table (codes "domain") (filled (codes "name") Text ∷ filled (codes "creator") Integer ∷ filled (codes "serial") Integer ∷ filled (codes "sponsor") Integer ∷ filled (codes "created") Integer ∷ filled (codes "years") Integer ∷ nullable (codes "transferred") Integer ∷ nullable (codes "updated") Integer ∷ filled (codes "statuses") Text ∷ filled (codes "secret") Text ∷ filled (codes "registrant") Integer ∷ nullable (codes "deleted") Integer ∷ nullable (codes "restore_requested") Integer ∷ filled (codes "due") Integer ∷ []) ((2 ∷ []) ∷ []) (reference_to (codes "account") 5 ∷ reference_to (codes "contact") 12 ∷ [])

abbrev pub host : Table
host = keyed_table (codes "host") (filled (codes "name") Text ∷ filled (codes "creator") Integer ∷ filled (codes "serial") Integer ∷ filled (codes "above") Text ∷ nullable (codes "external_sponsor") Integer ∷ nullable (codes "sponsor") Integer ∷ filled (codes "created") Integer ∷ nullable (codes "updated") Integer ∷ filled (codes "statuses") Text ∷ []) ((2 ∷ []) ∷ []) (reference_to (codes "account") 6 ∷ reference_to (codes "account") 7 ∷ [])

abbrev pub address : Table
address = keyed_table (codes "address") (filled (codes "host") Integer ∷ filled (codes "address") Text ∷ []) ([]) (reference_to (codes "host") 2 ∷ [])

abbrev pub link : Table
link = keyed_table (codes "link") (filled (codes "domain") Integer ∷ nullable (codes "contact") Integer ∷ nullable (codes "host") Integer ∷ filled (codes "role") Integer ∷ filled (codes "due") Integer ∷ []) ([]) (reference_to (codes "domain") 2 ∷ reference_to (codes "contact") 3 ∷ reference_to (codes "host") 4 ∷ [])

-- the table of the lines, with these columns after the first seven
abbrev pub line_with : List Column → Table
line_with more = keyed_table (codes "line") (filled (codes "account") Integer ∷ filled (codes "kind") Integer ∷ nullable (codes "creator") Integer ∷ nullable (codes "serial") Integer ∷ filled (codes "years") Integer ∷ filled (codes "cents") Integer ∷ nullable (codes "started") Integer ∷ more) ([]) (reference_to (codes "account") 2 ∷ [])

abbrev pub line : Table
line = line_with (nullable (codes "ends") Integer ∷ nullable (codes "refunded") Integer ∷ filled (codes "recorded") Integer ∷ [])

abbrev pub message : Table
message = keyed_table (codes "message") (filled (codes "account") Integer ∷ filled (codes "moment") Integer ∷ filled (codes "class") Integer ∷ filled (codes "number") Integer ∷ filled (codes "name") Text ∷ filled (codes "subject") Integer ∷ filled (codes "notice") Integer ∷ []) ([]) (reference_to (codes "account") 2 ∷ [])

abbrev pub transfer : Table
transfer = keyed_table (codes "transfer") (nullable (codes "contact") Integer ∷ nullable (codes "domain") Integer ∷ filled (codes "requester") Integer ∷ filled (codes "losing") Integer ∷ filled (codes "requested") Integer ∷ filled (codes "ac_date") Integer ∷ nullable (codes "due") Integer ∷ filled (codes "state") Integer ∷ []) ([]) (reference_to (codes "contact") 2 ∷ reference_to (codes "domain") 3 ∷ reference_to (codes "account") 4 ∷ reference_to (codes "account") 5 ∷ [])

abbrev pub days : Table
days = keyed_table (codes "days") (filled (codes "starts") Integer ∷ filled (codes "days_add") Integer ∷ filled (codes "days_auto_renew") Integer ∷ filled (codes "days_renew") Integer ∷ filled (codes "days_transfer") Integer ∷ filled (codes "days_redemption") Integer ∷ filled (codes "days_restore") Integer ∷ filled (codes "days_pending_delete") Integer ∷ filled (codes "days_answer") Integer ∷ filled (codes "days_lock") Integer ∷ []) ([]) ([])

-- ---- what is made, in this schema and in the one before it, which differ in the table of the lines

-- a table, and the text that makes it
pub record Making : Type 0 where
  pub text : List ℕ
  pub table : Table

abbrev pub making : List ℕ → Table → Making
making text table = record { text = text; table = table }

abbrev pub created_all : Schema → List Making → Schema
created_all schema [] = schema
created_all schema (it ∷ more) = created_all (created schema it.table) more

abbrev pub before_lines : List Making
before_lines =
    making (codes "CREATE TABLE meta (id INTEGER PRIMARY KEY, version INTEGER NOT NULL, clock INTEGER NOT NULL, zone TEXT NOT NULL, reserved TEXT NOT NULL, days_add INTEGER NOT NULL, days_auto_renew INTEGER NOT NULL, days_renew INTEGER NOT NULL, days_transfer INTEGER NOT NULL, days_redemption INTEGER NOT NULL, days_restore INTEGER NOT NULL, days_pending_delete INTEGER NOT NULL, days_answer INTEGER NOT NULL, days_lock INTEGER NOT NULL, price_create INTEGER NOT NULL, price_renew INTEGER NOT NULL, price_transfer INTEGER NOT NULL) STRICT") meta ∷
    making (codes "CREATE TABLE account (id INTEGER PRIMARY KEY, ident TEXT NOT NULL UNIQUE, commands INTEGER NOT NULL, messages INTEGER NOT NULL, serial INTEGER NOT NULL, waiting INTEGER NOT NULL, balance BLOB NOT NULL, held INTEGER NOT NULL) STRICT") account ∷
    making (codes "CREATE TABLE contact (id INTEGER PRIMARY KEY, name TEXT NOT NULL UNIQUE, creator INTEGER NOT NULL, serial INTEGER NOT NULL, sponsor INTEGER NOT NULL REFERENCES account (id), created INTEGER NOT NULL, transferred INTEGER, updated INTEGER, statuses TEXT NOT NULL, secret TEXT NOT NULL, postal_name TEXT NOT NULL, org TEXT, street TEXT NOT NULL, city TEXT NOT NULL, state TEXT, postal_code TEXT, country TEXT NOT NULL, voice TEXT, due INTEGER, mail TEXT NOT NULL) STRICT") contact ∷
    making (codes "CREATE TABLE domain (id INTEGER PRIMARY KEY, name TEXT NOT NULL UNIQUE, creator INTEGER NOT NULL, serial INTEGER NOT NULL, sponsor INTEGER NOT NULL REFERENCES account (id), created INTEGER NOT NULL, years INTEGER NOT NULL, transferred INTEGER, updated INTEGER, statuses TEXT NOT NULL, secret TEXT NOT NULL, registrant INTEGER NOT NULL REFERENCES contact (id), deleted INTEGER, restore_requested INTEGER, due INTEGER NOT NULL) STRICT") domain ∷
    making (codes "CREATE TABLE host (id INTEGER PRIMARY KEY, name TEXT NOT NULL UNIQUE, creator INTEGER NOT NULL, serial INTEGER NOT NULL, above TEXT NOT NULL, external_sponsor INTEGER REFERENCES account (id), sponsor INTEGER REFERENCES account (id), created INTEGER NOT NULL, updated INTEGER, statuses TEXT NOT NULL) STRICT") host ∷
    making (codes "CREATE TABLE address (id INTEGER PRIMARY KEY, host INTEGER NOT NULL REFERENCES host (id), address TEXT NOT NULL) STRICT") address ∷
    making (codes "CREATE TABLE link (id INTEGER PRIMARY KEY, domain INTEGER NOT NULL REFERENCES domain (id), contact INTEGER REFERENCES contact (id), host INTEGER REFERENCES host (id), role INTEGER NOT NULL, due INTEGER NOT NULL) STRICT") link ∷ []

abbrev pub makings : List ℕ → Table → List Making
makings text line =
    before_lines ++
    making text line ∷
    making (codes "CREATE TABLE message (id INTEGER PRIMARY KEY, account INTEGER NOT NULL REFERENCES account (id), moment INTEGER NOT NULL, class INTEGER NOT NULL, number INTEGER NOT NULL, name TEXT NOT NULL, subject INTEGER NOT NULL, notice INTEGER NOT NULL) STRICT") message ∷
    making (codes "CREATE TABLE transfer (id INTEGER PRIMARY KEY, contact INTEGER REFERENCES contact (id), domain INTEGER REFERENCES domain (id), requester INTEGER NOT NULL REFERENCES account (id), losing INTEGER NOT NULL REFERENCES account (id), requested INTEGER NOT NULL, ac_date INTEGER NOT NULL, due INTEGER, state INTEGER NOT NULL) STRICT") transfer ∷ []

-- an index: its text, the place of its table, and the table
pub record Indexing : Type 0 where
  pub text : List ℕ
  pub at : ℕ
  pub table : Table
  pub index : Index

abbrev pub indexing : List ℕ → ℕ → Table → ℕ → List ℕ → List ℕ → Indexing
indexing text at table tree name columns = record { text = text; at = at; table = record table { tree = tree }; index = index_on tree name columns }

abbrev pub indexed_by : Schema → List Indexing → Schema
indexed_by schema [] = schema
indexed_by schema (it ∷ more) = indexed_by (indexed schema it.table it.index) more

-- each keeps its entries in the order of the columns and then of the rows' numbers
abbrev pub indexings : Table → List Indexing
indexings line =
    indexing (codes "CREATE INDEX contact_due ON contact (due)") 2 contact 3 (codes "contact_due") (19 ∷ []) ∷
    indexing (codes "CREATE INDEX domain_registrant ON domain (registrant)") 3 domain 5 (codes "domain_registrant") (12 ∷ []) ∷
    indexing (codes "CREATE INDEX domain_due ON domain (due)") 3 domain 5 (codes "domain_due") (15 ∷ []) ∷
    indexing (codes "CREATE INDEX domain_sponsor ON domain (sponsor, due)") 3 domain 5 (codes "domain_sponsor") (5 ∷ 15 ∷ []) ∷
    indexing (codes "CREATE INDEX host_above ON host (above)") 4 host 7 (codes "host_above") (5 ∷ []) ∷
    indexing (codes "CREATE INDEX address_host ON address (host)") 5 address 9 (codes "address_host") (2 ∷ []) ∷
    indexing (codes "CREATE INDEX link_domain ON link (domain)") 6 link 10 (codes "link_domain") (2 ∷ []) ∷
    indexing (codes "CREATE INDEX link_contact ON link (contact)") 6 link 10 (codes "link_contact") (3 ∷ []) ∷
    indexing (codes "CREATE INDEX link_host ON link (host)") 6 link 10 (codes "link_host") (4 ∷ []) ∷
    indexing (codes "CREATE INDEX line_object ON line (account, creator, serial)") 7 line 11 (codes "line_object") (2 ∷ 4 ∷ 5 ∷ []) ∷
    indexing (codes "CREATE INDEX message_queue ON message (account, moment, class, number, name, subject, notice)") 8 message 12 (codes "message_queue") (2 ∷ 3 ∷ 4 ∷ 5 ∷ 6 ∷ 7 ∷ 8 ∷ []) ∷
    indexing (codes "CREATE INDEX transfer_contact ON transfer (contact)") 9 transfer 13 (codes "transfer_contact") (2 ∷ []) ∷
    indexing (codes "CREATE INDEX transfer_domain ON transfer (domain)") 9 transfer 13 (codes "transfer_domain") (3 ∷ []) ∷
    indexing (codes "CREATE INDEX transfer_requester ON transfer (requester, due)") 9 transfer 13 (codes "transfer_requester") (4 ∷ 8 ∷ []) ∷
    indexing (codes "CREATE INDEX contact_sponsor ON contact (sponsor, due)") 2 contact 3 (codes "contact_sponsor") (5 ∷ 19 ∷ []) ∷
    indexing (codes "CREATE INDEX domain_roid ON domain (creator, serial)") 3 domain 5 (codes "domain_roid") (3 ∷ 4 ∷ []) ∷
    indexing (codes "CREATE INDEX domain_registrant_due ON domain (registrant, due)") 3 domain 5 (codes "domain_registrant_due") (12 ∷ 15 ∷ []) ∷
    indexing (codes "CREATE INDEX link_contact_due ON link (contact, due)") 6 link 10 (codes "link_contact_due") (3 ∷ 6 ∷ []) ∷
    indexing (codes "CREATE INDEX link_host_due ON link (host, due)") 6 link 10 (codes "link_host_due") (4 ∷ 6 ∷ []) ∷
    indexing (codes "CREATE INDEX transfer_losing ON transfer (losing, due)") 9 transfer 13 (codes "transfer_losing") (5 ∷ 8 ∷ []) ∷ []

abbrev pub made_with : List ℕ → Table → Schema
made_with text line = indexed_by (created_all no_schema (makings text line)) (indexings line)

-- the texts, in their order
abbrev pub texts_with : List ℕ → Table → List (List ℕ)
texts_with text line = map (λ it. it.text) (makings text line) ++ map (λ it. it.text) (indexings line)

-- ---- the schema

abbrev pub registry : Schema
registry = created (made_with LINE.now line) days

-- the number of this schema, which the table `meta` keeps
abbrev pub schema_number : ℤ
schema_number = pos 2
