-- What rows mean to a book, by its parts.
use Rattle.std.proofs.Common.{◌≡◌, ◌==◌, ◌&&◌, cond, length, Option, Some, None, Result, Ok, Err, refl, ap, ◌∙◌}
use Rattle.sqlbook.proofs.Words.{accounts_of, are_right, BookFault, Changes, clock_of, contacts_of, Content, days_of_rows, Domain, domains_of}
use Rattle.sqlbook.proofs.Words.{dues_are_right, FinMap, helds_are_right, hosts_of, ids_in, MakesAs, may_be_numbered, MetaRow, nat_cmp, slice_cmp}
use Rattle.sqlbook.proofs.Words.{sponsors_are_right, StateOf, Stored, stored_of, sums_are_right, terms_of_rows}
use Rattle.objects.specs.declared.{contact.Contact.Contact, host.Host.Host}
use Rattle.sqlterms.specs.{Meta.meta_of, Terms.{prices_in, reserved_in, schedule_in, terms_in, terms_made}}

pub stored-by : (xs : Content) (s : Stored) → contacts_of xs ≡ s.registry.contacts → hosts_of xs ≡ s.registry.hosts → domains_of xs ≡ s.registry.domains
    → accounts_of xs ≡ s.registry.accounts → clock_of xs ≡ s.registry.clock → terms_of_rows xs ≡ s.terms → stored_of xs ≡ s
stored-by xs s contacts hosts domains accounts clock terms = λ i. record {
  registry = record { contacts = contacts i; hosts = hosts i; domains = domains i; accounts = accounts i; clock = clock i };
  terms = terms i;
}

module _ (old new : Content) (metas : new.metas ≡ old.metas) (days : new.days ≡ old.days) where
  pub same-days : days_of_rows new ≡ days_of_rows old
  same-days = λ i. days_of_rows (record new { metas = metas i; days = days i })

  -- the terms hang on the accounts' ids alone
  pub same-terms : ids_in new.accounts ≡ ids_in old.accounts → terms_of_rows new ≡ terms_of_rows old
  same-terms ids = (λ i. terms_of_rows (record new { metas = metas i; days = days i })) ∙ go (meta_of old)
    where
      go : (m : Option MetaRow) → terms_in m old.days new.accounts ≡ terms_in m old.days old.accounts
      go None = refl
      go (Some row) = λ i. cond (length row.zone == 0) None (terms_made row.zone (reserved_in row.reserved) (schedule_in row old.days) (prices_in row) (ids i))

  -- contacts, hosts and domains may be others
  module _ (contacts : FinMap (slice_cmp nat_cmp) Contact) (hosts : FinMap (slice_cmp nat_cmp) Host) (domains : FinMap (slice_cmp nat_cmp) Domain)
      (contacts-are : contacts_of new ≡ contacts) (hosts-are : hosts_of new ≡ hosts) (domains-are : domains_of new ≡ domains) where
    abbrev pub with_objects : Stored
    with_objects = record { registry = record { contacts = contacts; hosts = hosts; domains = domains; accounts = accounts_of old; clock = clock_of old }; terms = terms_of_rows old }

    pub objects-changed : accounts_of new ≡ accounts_of old → ids_in new.accounts ≡ ids_in old.accounts → stored_of new ≡ with_objects
    objects-changed accounts ids = stored-by new with_objects contacts-are hosts-are domains-are accounts (λ i. clock_of (record new { metas = metas i })) (same-terms ids)

    -- and no row of an account is another
    pub objects-put : new.accounts ≡ old.accounts → new.lines ≡ old.lines → new.messages ≡ old.messages
        → helds_are_right new ≡ helds_are_right old → dues_are_right new ≡ dues_are_right old → sponsors_are_right new ≡ sponsors_are_right old
        → (stored_of new ≡ with_objects) × (are_right new ≡ are_right old)
    objects-put accounts lines messages helds dues sponsors = (
      objects-changed (λ i. accounts_of (record new { accounts = accounts i; lines = lines i; messages = messages i })) (ap ids_in accounts),
      λ i. may_be_numbered (metas i)
          && (sums_are_right (record new { accounts = accounts i; lines = lines i; messages = messages i }) && (helds i && (dues i && sponsors i))),
    )

-- ---- a change of rows is one of the book's

-- where each change in a way makes this of what is held, and leaves the sums as right
pub alters : {A : Type 0} (r : Result A BookFault) (way : Content → Content → Type 0) (held : Stored) (old new : StateOf Content) → Changes r way old new
    → (way old.content new.content → (stored_of new.content ≡ held) × (are_right new.content ≡ are_right old.content)) → MakesAs r stored_of are_right held old new
alters (Ok done) way held old new made is = record {
  clean = made.clean;
  before = made.before;
  opened = made.opened;
  content = λ e. (is (made.content e)).0;
  sums = λ e. (is (made.content e)).1;
  answers = made.answers;
  leaves = made.leaves;
}
alters (Err fault) way held old new stays is = stays
