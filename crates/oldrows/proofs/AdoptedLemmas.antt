-- What the rows are over a database that was read anew.
use Rattle.std.proofs.Common.{◌≡◌, ◌≢◌, ◌&&◌, inl, Bool, true, false, List, [], ◌∷◌, ◌++◌, IsTrue, refl, sym, ap, subst, ◌∙◌}
use Rattle.std.proofs.lemmas.Bool.{and_parts}
use Rattle.std.specs.List.{AllByRecursion}
use Rattle.sqlite_trees.specs.declared.store.Shape.TheVariants as shape
use Rattle.sqlite_trees.proofs.ListLemmas.{map-map}
use Rattle.sqlite_trees.specs.{Tree.Trees, View.IsShaped}
use Rattle.sqlite_schema.specs.declared.schema.{Constraint.TheVariants.{Datatype, NotNull}, Schema.Schema, Table.Table}
use Rattle.sqlite_catalog.specs.Listing.{IsSound}
use Rattle.sqlite.specs.{Effect.{Database, IsDatabase}, State.{State, HasCleanDisk}}
use Rattle.sqltables.specs.Tables.{meta, account, contact, domain, host, address, link, message, transfer}
use Rattle.sqltables.specs.{inner.FirstTables.{first_line, first_registry}, Meta.metas, Account.accounts, Contact.contacts, Domain.domains}
use Rattle.sqltables.specs.{Host.hosts, Address.addresses, Link.links, Message.messages, Transfer.transfers}
use Rattle.sqltables.specs.Decoding.{meta_in, account_in, contact_in, domain_in, host_in, address_in, link_in, message_in, transfer_in}
use Rattle.sqltables.specs.{Adoption.{IsFound, IsInOrder}, Content.Content}
use Rattle.sqltables.proofs.{AdoptedLemmas.schema_once, SoundLemmas.{after_key, holds}, StandingLemmas.honest}
use Rattle.oldrows.specs.inner.{Adoption.IsSeen, Lines.{first_line_in, first_lines, without_end}}
use Rattle.oldrows.specs.inner.Stored.{CoversOld, FitsOld, GuardsOld, IsLeftAsOld, IsOld, IsOldContent, IsSameOld, IsSeenAs, IsShapedAsOld, old_leaves, old_remains, old_contents, old_readiness, old_rows, as_found}
use Rattle.oldrows.specs.Stored.{IsRead, OldState}
use Rattle.states.specs.States.{Has, Remains}
use Rattle.states.proofs.LeavingLemmas.{has-alone}

-- a sound database that lies in order holds the rows that it decodes to
old_of_sound : (db : Database) → IsDatabase db → db.schema ≡ first_registry → IsInOrder db → IsOld (old_contents db.trees) db
old_of_sound db sound is in_order =
    let d = db.trees in
    let obeys = (subst (λ (s : Schema). IsSound s d) is sound).obeys in
    let t = obeys.rules Datatype in
    let p = obeys.rules NotNull in
    let o = subst (λ (s : Schema). AllByRecursion (λ (t : Table). IsShaped shape.Table (d t.tree)) s.tables) is in_order in
    record {
      schema = is;
      metas = holds metas meta_in (after_key meta) d (λ r. refl) refl refl t.0 p.0 o.0;
      accounts = holds accounts account_in (after_key account) d (λ r. refl) refl refl t.1.0 p.1.0 o.1.0;
      contacts = holds contacts contact_in (after_key contact) d (λ r. refl) refl refl t.1.1.0 p.1.1.0 o.1.1.0;
      domains = holds domains domain_in (after_key domain) d (λ r. refl) refl refl t.1.1.1.0 p.1.1.1.0 o.1.1.1.0;
      hosts = holds hosts host_in (after_key host) d (λ r. refl) refl refl t.1.1.1.1.0 p.1.1.1.1.0 o.1.1.1.1.0;
      addresses = holds addresses address_in (after_key address) d (λ r. refl) refl refl t.1.1.1.1.1.0 p.1.1.1.1.1.0 o.1.1.1.1.1.0;
      links = holds links link_in (after_key link) d (λ r. refl) refl refl t.1.1.1.1.1.1.0 p.1.1.1.1.1.1.0 o.1.1.1.1.1.1.0;
      lines = holds first_lines first_line_in (after_key first_line) d (λ r. refl) refl refl t.1.1.1.1.1.1.1.0 p.1.1.1.1.1.1.1.0 o.1.1.1.1.1.1.1.0;
      messages = holds messages message_in (after_key message) d (λ r. refl) refl refl t.1.1.1.1.1.1.1.1.0 p.1.1.1.1.1.1.1.1.0 o.1.1.1.1.1.1.1.1.0;
      transfers = holds transfers transfer_in (after_key transfer) d (λ r. refl) refl refl t.1.1.1.1.1.1.1.1.1.0 p.1.1.1.1.1.1.1.1.1.0 o.1.1.1.1.1.1.1.1.1.0;
      endless = map-map without_end first_line_in (d 11);
      days = refl;
    }

left-by : (is_there : Bool) (db : Database) (trees : Trees) → db.trees ≡ trees → IsSound db.schema db.trees → (is_there ≡ true → db.schema ≡ first_registry) → (is_there ≡ false → db.schema ≢ first_registry)
    → IsShapedAsOld (old_readiness is_there) trees × IsSeenAs (old_readiness is_there) trees (old_rows is_there db.trees)
left-by true db trees e sound is not = (subst (IsSound first_registry) e (subst (λ (s : Schema). IsSound s db.trees) (is refl) sound), ap old_contents e)
left-by false db trees e sound is not = ((λ ours. not refl (schema_once trees db.schema first_registry (subst (IsSound db.schema) e sound) ours)), refl)

module _ (s : State) (found : IsFound s) (is_there : Bool) (is : is_there ≡ true → s.now.schema ≡ first_registry) where
  pub fits_found : FitsOld is_there s
  fits_found clean opened there =
      let it = found clean in
      record { mode = it.0.autocommit; holds = old_of_sound s.now it.1 (is there) it.2; settled = it.0.clean }

  module _ (not : is_there ≡ false → s.now.schema ≢ first_registry) where
    left-as : (trees : Trees) → HasCleanDisk s → s.now.trees ≡ trees → IsLeftAsOld (old_remains is_there s) trees
    left-as trees clean e = left-by is_there s.now trees e (found clean).1 is not

    -- what is found may be left, and nothing else
    pub guards_found : ((db : Trees) → IsTrue s.is_open → s.may_leave db → db ≡ s.committed.trees) → GuardsOld s (old_remains is_there s ∷ [])
    guards_found settled clean db may =
        let it = (found clean).0 in
        let same : s.now.trees ≡ db = ap (λ (d : Database). d.trees) it.clean ∙ sym (settled db it.is_open may) in
        (old_remains is_there s, inl refl, left-as db clean same)

    pub shown : (trees : Trees) → (HasCleanDisk s → s.now.trees ≡ trees) → IsSeen trees (as_found is_there s (old_remains is_there s ∷ []))
    shown trees same =
        let left : ((s.is_clean && s.is_open) ≡ true → IsLeftAsOld (old_remains is_there s) trees) =
        λ e. let clean = honest s (and_parts s.is_clean s.is_open e).0 in left-as trees clean (same clean) in
        record {
          content = λ e. (left e).1;
          shaped = λ e. (left e).0;
          answers = λ e. ap (λ (b : Bool). b && s.is_open) e ∙ (found (honest s e)).0.is_open;
          leaves = λ e it h. subst (λ (l : Remains Content). IsLeftAsOld l trees) (sym (has-alone (old_remains is_there s) it h)) (left e);
        }

pub seen-alone : {C : Type 0} (state-of : C → State) (none notes : List (C × Bool)) (conn : C) (is_there : Bool) → none ≡ [] → notes ≡ none ++ (conn, is_there) ∷ [] → old_leaves state-of notes ≡ old_remains is_there (state-of conn) ∷ []
seen-alone state-of none notes conn is_there empty is = ap (old_leaves state-of) (is ∙ ap (λ l. l ++ (conn, is_there) ∷ []) empty)

-- what was given back after a fault
pub left-alone : (trees : Trees) (was now : OldState) → IsSeen trees was → IsRead was now → now.is_honest ≡ true → (may_leave : Trees → Type 0) → CoversOld now.crash_leaves may_leave
    → (db : Trees) → may_leave db → IsSameOld trees db
left-alone trees was now seen-as reads honest-now may_leave covers db may =
    let it = covers db may in
    (it.0, seen-as.leaves (seen-as.answers (reads.honest honest-now)) it.0 (subst (λ (l : List (Remains Content)). Has l it.0) reads.leaves it.1), it.2)

-- what always holds of the rows
pub consistent_of : (s : State) (is_there : Bool) → FitsOld is_there s → (s.is_clean && s.is_open) ≡ true → IsOldContent (old_rows is_there s.now.trees)
consistent_of s true fits e =
    let p = and_parts s.is_clean s.is_open e in
    let it = fits (honest s p.0) p.1 refl in
    record { keyed = record { metas = it.holds.metas.keyed; accounts = it.holds.accounts.keyed; contacts = it.holds.contacts.keyed; domains = it.holds.domains.keyed; hosts = it.holds.hosts.keyed; addresses = it.holds.addresses.keyed; links = it.holds.links.keyed; lines = it.holds.lines.keyed; messages = it.holds.messages.keyed; transfers = it.holds.transfers.keyed; days = tt }; days = refl }
consistent_of s false fits e = record { keyed = record { metas = tt; accounts = tt; contacts = tt; domains = tt; hosts = tt; addresses = tt; links = tt; lines = tt; messages = tt; transfers = tt; days = tt }; days = refl }
