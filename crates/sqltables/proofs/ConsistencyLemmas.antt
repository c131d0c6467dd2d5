-- What the soundness of a database makes always true of its rows.
use Rattle.std.proofs.Common.{◌≡◌, ℕ, ℤ, ◌&&◌, ◌||◌, Bool, true, false, not, List, [], ◌∷◌, Option, Some, sym, ◌∙◌, subst, arith}
use Rattle.sqltables.proofs.Words.{accounts, address, addresses, AddressRow, all_from_test, all_unmap, all_weaker, AllByRecursion, and_parts}
use Rattle.sqltables.proofs.Words.{AreKeyed, AreLinked, AreNamed, at_texts, Bears, Binary, bytes_eq, column, contact, ContactRow, contacts, Content}
use Rattle.sqltables.proofs.Words.{Database, domain, DomainRow, domains, Eq, Form, Holds, host, HostRow, hosts, Int, is_null, IsConsistent}
use Rattle.sqltables.proofs.Words.{IsContent, IsDatabase, IsNamedBy, IsSound, last_term, Layout, LeadsTo, line, LineRow, lines, link, LinkRow, links}
use Rattle.sqltables.proofs.Words.{list_all, list_any, Made, Making, message, MessageRow, messages, no_content, or_null, registry, Row, rows_in}
use Rattle.sqltables.proofs.{Words.{transfer, TransferRow, transfers, Trees, Unused}, RowLemmas.{leads_if_held, named_if_apart}}
use Rattle.sqlite_value.specs.Keys.{first_key, joined, plain}
use Rattle.sqlite_schema.specs.{declared.schema.{Constraint.TheVariants.{Unique, ForeignKey}, Schema.Schema}, Names.same_name}
use Rattle.sqlite_schema.specs.{declared.schema.Reference.Reference, Rules.{agree, clashes, equal, Keeps, has_parent as refers}}
use Rattle.sqlite_keyed.specs.Rules.{has_parent, is_apart}
use Rattle.sqlite_tied.proofs.RuleLemmas.{clash_is, parent_is}
use Rattle.sqltables.specs.declared.form.Form.TheVariants.{Other}

pub keyed : (xs : Content) (db : Database) → IsContent xs db → AreKeyed xs
keyed xs db h = record {
  metas = h.metas.keyed;
  accounts = h.accounts.keyed;
  contacts = h.contacts.keyed;
  domains = h.domains.keyed;
  hosts = h.hosts.keyed;
  addresses = h.addresses.keyed;
  links = h.links.keyed;
  lines = h.lines.keyed;
  messages = h.messages.keyed;
  transfers = h.transfers.keyed;
  days = h.days.keyed;
}

-- ---- what is true of each stored row, as of each row of the type

typed : {X : Type 0} (L : Layout X) (db : Trees) (xs : List X) → Holds L db xs → (P : Row → Type 0) → AllByRecursion P (db L.tree) → AllByRecursion (λ x. P (L.to_row x)) xs
typed L db xs h P each = all_unmap P L.to_row xs (subst (AllByRecursion P) h.rows each)

-- ---- names

-- the test of UNIQUE on the first column after the key
named_by : {X : Type 0} (L : Layout X) (name : X → List ℕ) (db : Trees) (xs : List X) → Holds L db xs → ((a b : X) → agree plain (2 ∷ []) (L.to_row a) (2 ∷ []) (L.to_row b) ≡ bytes_eq (name a) (name b))
    → AllByRecursion (λ x. (not (clashes plain (2 ∷ []) (db L.tree) (L.to_row x)) && true) ≡ true) xs → IsNamedBy name xs
named_by {X} L name db xs h same each =
    let clash : X → X → Bool = λ a b. bytes_eq (name a) (name b) in
    named_if_apart L.key name xs h.keyed
    (all_weaker _ (λ x. is_apart L.key clash xs x ≡ true) (λ x t. sym (clash_is db L.tree L.to_row L.key xs h.rows L.keyed (2 ∷ []) clash same x) ∙ (and_parts (not (clashes plain (2 ∷ []) (db L.tree) (L.to_row x))) true t).0) xs each)

pub named : (xs : Content) (db : Database) → IsContent xs db → Keeps Unique registry db.trees → AreNamed xs
unfolding first_key
named xs db h keeps = record {
  accounts = named_by accounts (λ x. x.ident) db.trees xs.accounts h.accounts (λ a b. last_term (at_texts false Eq a.ident b.ident)) (typed accounts db.trees xs.accounts h.accounts _ keeps.1.0);
  contacts = named_by contacts (λ x. x.name) db.trees xs.contacts h.contacts (λ a b. last_term (at_texts false Eq a.name b.name)) (typed contacts db.trees xs.contacts h.contacts _ keeps.1.1.0);
  domains = named_by domains (λ x. x.name) db.trees xs.domains h.domains (λ a b. last_term (at_texts false Eq a.name b.name)) (typed domains db.trees xs.domains h.domains _ keeps.1.1.1.0);
  hosts = named_by hosts (λ x. x.name) db.trees xs.hosts h.hosts (λ a b. last_term (at_texts false Eq a.name b.name)) (typed hosts db.trees xs.hosts h.hosts _ keeps.1.1.1.1.0);
}

-- ---- references

-- the column is NULL, or some row of the tree has it as its number
abbrev IsHeld : Trees → ℕ → Option ℤ → Type 0
IsHeld db tree o = ((is_null (or_null Int o) || false) || list_any (λ parent. equal Binary (column parent 0) (or_null Int o) && true) (db tree)) ≡ true

led : {X Y : Type 0} (L : Layout Y) (db : Trees) (ys : List Y) → Holds L db ys → (xs : List X) (at : X → Option ℤ) → AllByRecursion (λ x. IsHeld db L.tree (at x)) xs → LeadsTo xs at ys L.key
led L db ys h xs at each =
    leads_if_held xs at ys L.key (all_weaker _ (λ x. has_parent L.key ys (at x) ≡ true) (λ x t. sym (parent_is db L.tree L.to_row L.key ys h.rows L.keyed (at x)) ∙ t) xs each)

-- each reference of a row has its parent
abbrev Refers : Trees → List Reference → Row → Type 0
Refers db references row = AllByRecursion (λ ref. refers registry.tables db row ref ≡ true) references

each_refers : {X : Type 0} (L : Layout X) (db : Trees) (xs : List X) → Holds L db xs → (references : List Reference) → AllByRecursion (λ row. list_all (refers registry.tables db row) references ≡ true) (db L.tree)
    → AllByRecursion (λ x. Refers db references (L.to_row x)) xs
each_refers L db xs h references each =
    all_weaker _ (λ x. Refers db references (L.to_row x)) (λ x t. all_from_test (refers registry.tables db (L.to_row x)) references t) xs
    (typed L db xs h (λ row. list_all (refers registry.tables db row) references ≡ true) each)

pub linked : (xs : Content) (db : Database) → IsContent xs db → Keeps ForeignKey registry db.trees → AreLinked xs
unfolding same_name first_key joined
linked xs db h keeps =
    let d = db.trees in
    let of_contacts = each_refers contacts d xs.contacts h.contacts contact.references keeps.1.1.0 in
    let of_domains = each_refers domains d xs.domains h.domains domain.references keeps.1.1.1.0 in
    let of_hosts = each_refers hosts d xs.hosts h.hosts host.references keeps.1.1.1.1.0 in
    let of_addresses = each_refers addresses d xs.addresses h.addresses address.references keeps.1.1.1.1.1.0 in
    let of_links = each_refers links d xs.links h.links link.references keeps.1.1.1.1.1.1.0 in
    let of_lines = each_refers lines d xs.lines h.lines line.references keeps.1.1.1.1.1.1.1.0 in
    let of_messages = each_refers messages d xs.messages h.messages message.references keeps.1.1.1.1.1.1.1.1.0 in
    let of_transfers = each_refers transfers d xs.transfers h.transfers transfer.references keeps.1.1.1.1.1.1.1.1.1.0 in
    record {
      contact_sponsor = led accounts d xs.accounts h.accounts xs.contacts (λ (x : ContactRow). Some x.sponsor) (all_weaker _ (λ (x : ContactRow). IsHeld d 1 (Some x.sponsor)) (λ x r. r.0) xs.contacts of_contacts);
      domain_sponsor = led accounts d xs.accounts h.accounts xs.domains (λ (x : DomainRow). Some x.sponsor) (all_weaker _ (λ (x : DomainRow). IsHeld d 1 (Some x.sponsor)) (λ x r. r.0) xs.domains of_domains);
      domain_registrant = led contacts d xs.contacts h.contacts xs.domains (λ (x : DomainRow). Some x.registrant) (all_weaker _ (λ (x : DomainRow). IsHeld d 3 (Some x.registrant)) (λ x r. r.1.0) xs.domains of_domains);
      host_external_sponsor = led accounts d xs.accounts h.accounts xs.hosts (λ (x : HostRow). x.external_sponsor) (all_weaker _ (λ (x : HostRow). IsHeld d 1 x.external_sponsor) (λ x r. r.0) xs.hosts of_hosts);
      host_sponsor = led accounts d xs.accounts h.accounts xs.hosts (λ (x : HostRow). x.sponsor) (all_weaker _ (λ (x : HostRow). IsHeld d 1 x.sponsor) (λ x r. r.1.0) xs.hosts of_hosts);
      address_host = led hosts d xs.hosts h.hosts xs.addresses (λ (x : AddressRow). Some x.host) (all_weaker _ (λ (x : AddressRow). IsHeld d 7 (Some x.host)) (λ x r. r.0) xs.addresses of_addresses);
      link_domain = led domains d xs.domains h.domains xs.links (λ (x : LinkRow). Some x.domain) (all_weaker _ (λ (x : LinkRow). IsHeld d 5 (Some x.domain)) (λ x r. r.0) xs.links of_links);
      link_contact = led contacts d xs.contacts h.contacts xs.links (λ (x : LinkRow). x.contact) (all_weaker _ (λ (x : LinkRow). IsHeld d 3 x.contact) (λ x r. r.1.0) xs.links of_links);
      link_host = led hosts d xs.hosts h.hosts xs.links (λ (x : LinkRow). x.host) (all_weaker _ (λ (x : LinkRow). IsHeld d 7 x.host) (λ x r. r.1.1.0) xs.links of_links);
      line_account = led accounts d xs.accounts h.accounts xs.lines (λ (x : LineRow). Some x.account) (all_weaker _ (λ (x : LineRow). IsHeld d 1 (Some x.account)) (λ x r. r.0) xs.lines of_lines);
      message_account = led accounts d xs.accounts h.accounts xs.messages (λ (x : MessageRow). Some x.account) (all_weaker _ (λ (x : MessageRow). IsHeld d 1 (Some x.account)) (λ x r. r.0) xs.messages of_messages);
      transfer_contact = led contacts d xs.contacts h.contacts xs.transfers (λ (x : TransferRow). x.contact) (all_weaker _ (λ (x : TransferRow). IsHeld d 3 x.contact) (λ x r. r.0) xs.transfers of_transfers);
      transfer_domain = led domains d xs.domains h.domains xs.transfers (λ (x : TransferRow). x.domain) (all_weaker _ (λ (x : TransferRow). IsHeld d 5 x.domain) (λ x r. r.1.0) xs.transfers of_transfers);
      transfer_requester = led accounts d xs.accounts h.accounts xs.transfers (λ (x : TransferRow). Some x.requester) (all_weaker _ (λ (x : TransferRow). IsHeld d 1 (Some x.requester)) (λ x r. r.1.1.0) xs.transfers of_transfers);
      transfer_losing = led accounts d xs.accounts h.accounts xs.transfers (λ (x : TransferRow). Some x.losing) (all_weaker _ (λ (x : TransferRow). IsHeld d 1 (Some x.losing)) (λ x r. r.1.1.1.0) xs.transfers of_transfers);
    }

-- ---- the whole

consistent_of : (xs : Content) (db : Database) → IsContent xs db → IsDatabase db → IsConsistent xs
consistent_of xs db h sound =
    let it = subst (λ (s : Schema). IsSound s db.trees) h.schema sound in
    record { keyed = keyed xs db h; named = named xs db h (it.obeys.rules Unique); linked = linked xs db h (it.obeys.rules ForeignKey) }

-- of no row all of it is true
none_consistent : IsConsistent no_content
none_consistent = record {
  keyed = record { metas = tt; accounts = tt; contacts = tt; domains = tt; hosts = tt; addresses = tt; links = tt; lines = tt; messages = tt; transfers = tt; days = tt };
  named = record { accounts = λ a b h. absurd h; contacts = λ a b h. absurd h; domains = λ a b h. absurd h; hosts = λ a b h. absurd h };
  linked = grind arith;
}

pub consistent : (form : Form) (now committed : Database) → Bears form now committed → IsDatabase now → IsConsistent (rows_in form now.trees)
consistent Unused now committed it sound = none_consistent
consistent Making now committed it sound = consistent_of _ now it.0 sound
consistent Made now committed it sound = consistent_of _ now it.0 sound
consistent Other now committed it sound = none_consistent
