-- What it is to take a registry of the schema before this one over.
use Rattle.std.proofs.Common.{◌≡◌, ◌&&◌, inl, inr, ℤ, pos, Bool, true, false, cond, List, [], ◌∷◌, length, map, filter, Option, Some, None, Result, Ok, Err, refl, sym, ap, subst, ◌∙◌, int_eq}
use Rattle.std.specs.{FinMap.from_entries, List.{cons_option, filter_map, list_all}, Option.option_map_or, Prelude.slice_get}
use Rattle.sqlite_keyed.specs.Keyed.{IsKeyedBy}
use Rattle.sqlite_keyed.proofs.ListLemmas.{ascending-map}
use Rattle.accounts.specs.Lines.{balance, in_order}
use Rattle.basis.specs.Bag.{bag_of}
use Rattle.sqlcolumns.specs.{Lines.line_of_columns, Numbers.registrar_in}
use Rattle.policy.specs.{Rules.PolicyRules, declared.schedule.Schedule.Schedule}
use Rattle.sqltables.specs.{Account.accounts, declared.account.AccountRow.AccountRow, Address.addresses, Contact.contacts}
use Rattle.sqltables.specs.{Content.{Content, no_content}, declared.day.DayRow.DayRow, Domain.domains, Host.hosts}
use Rattle.sqltables.specs.{Line.{line_with_account, lines}, declared.line.LineRow.LineRow, Link.links, Message.messages, Meta.metas}
use Rattle.sqltables.specs.{declared.meta.MetaRow.MetaRow, Readiness.may_be_numbered, Transfer.transfers}
use Rattle.states.specs.declared.{fault.BookFault.BookFault, readiness.Ready.TheVariants.Used}
use Rattle.states.specs.States.{Closes, Has, Keeps, LeavesSame, Reads, Remains, Starts, StateOf, Stays, holding}
use Rattle.states.specs.declared.fault.BookFault.TheVariants as faults
use Rattle.states.proofs.LeavingLemmas.{leaves-on}
use Rattle.oldrows.specs.{inner.{Copies.{Copies, IsCopied, IsCopyLeft, put_of_all}, Stored.IsOldContent}, Copies.renumbered}
use Rattle.oldrows.specs.Stored.{IsRead, OldState}
use Rattle.oldrows.proofs.CopyLemmas.{asked-on, put-keyed, read-on}
use Rattle.sqlaccounts.specs.Accounts.{account_of_row, accounts_of, balance_in, entries_of, has_right_sums, is_right, lines_under, queue_under, row_of, sums_are_right}
use Rattle.sqldomains.specs.Domains.{domains_of}
use Rattle.sqlderived.specs.{Dues.dues_are_right, Held.helds_are_right}
use Rattle.sqlobjects.specs.{Objects.{contacts_of, hosts_of}, Sponsors.sponsors_are_right}
use Rattle.sqlterms.specs.{Clock.clock_in, Terms.terms_in}
use Rattle.takeover.specs.declared.migrating.MigrateFault.{MigrateFault, TheVariants.{Policy, Schema, Memory, Store}}
use Rattle.takeover.specs.Graces.{with_grace_end}
use Rattle.takeover.specs.inner.Migrating.{AreAsked, EndsAs, IsRefused, IsTakenOver, IsUnkept, TakesOver, heads, migrated_rows, others, put_lines}
use Rattle.takeover.specs.Migrating.{AreThere, IsAll, IsMigrated, IsTried, IsUnsuited, MayBeTaken, Migrates, fault_of, lines_with_ends, numbered_anew, redated, suits, suits_in}
use Rattle.sqlbook.specs.{Meaning.{are_right, stored_of}, AsBook.HasMade}

-- ---- the number of the schema says nothing of the registry

clock-taken : (rows : List MetaRow) → clock_in (slice_get (map renumbered rows) 0) ≡ clock_in (slice_get rows 0)
clock-taken [] = refl
clock-taken (row ∷ rows) = refl

terms-taken : (rows : List MetaRow) (tables : List DayRow) (holders : List AccountRow) → terms_in (slice_get (map renumbered rows) 0) tables holders ≡ terms_in (slice_get rows 0) tables holders
terms-taken [] tables holders = refl
terms-taken (row ∷ rows) tables holders = refl

-- ---- the ends of graces say nothing of the lines

module _ (days : Schedule) (xs : Content) where
  abbrev ys : Content
  ys = record xs { lines = lines_with_ends days xs.lines }

  read-same : (id : ℤ) (rows : List LineRow) → filter_map line_of_columns (filter (line_with_account id) (lines_with_ends days rows)) ≡ filter_map line_of_columns (filter (line_with_account id) rows)
  read-same id [] = refl
  read-same id (row ∷ rows) = go (line_with_account id row) (read-same id rows)
    where
      go : (b : Bool) → filter_map line_of_columns (filter (line_with_account id) (lines_with_ends days rows)) ≡ filter_map line_of_columns (filter (line_with_account id) rows)
          → filter_map line_of_columns (cond b (with_grace_end days row ∷ filter (line_with_account id) (lines_with_ends days rows)) (filter (line_with_account id) (lines_with_ends days rows)))
          ≡ filter_map line_of_columns (cond b (row ∷ filter (line_with_account id) rows) (filter (line_with_account id) rows))
      go true rest = ap (cons_option (line_of_columns row)) rest
      go false rest = rest

  lines-same : (id : ℤ) → lines_under ys id ≡ lines_under xs id
  lines-same id = ap (bag_of in_order) (read-same id xs.lines)

  account-same : (row : AccountRow) → account_of_row ys row ≡ account_of_row xs row
  account-same row = ap (λ l. record (account_of_row xs row) { lines = l }) (lines-same row.id)

  entries-same : (rows : List AccountRow) → entries_of ys rows ≡ entries_of xs rows
  entries-same [] = refl
  entries-same (row ∷ rows) =
      (λ i. option_map_or (λ place. (place, account-same row i) ∷ entries-same rows i) (registrar_in row.id) (entries-same rows i))

  pub accounts-same : accounts_of ys ≡ accounts_of xs
  accounts-same = ap from_entries (entries-same xs.accounts)

  right-same : (row : AccountRow) → is_right ys row ≡ is_right xs row
  right-same row = ap (λ l. int_eq (balance_in row.balance) (balance l) && int_eq row.waiting (pos (length (queue_under xs row.id)))) (lines-same row.id)

  right-if-there : (o : Option AccountRow) → option_map_or (is_right ys) o true ≡ option_map_or (is_right xs) o true
  right-if-there None = refl
  right-if-there (Some row) = right-same row

  all-same : (rows : List AccountRow) → list_all (λ (row : AccountRow). has_right_sums ys row.id) rows ≡ list_all (λ (row : AccountRow). has_right_sums xs row.id) rows
  all-same [] = refl
  all-same (row ∷ rows) = λ i. right-if-there (row_of xs row.id) i && all-same rows i

  pub sums-same : sums_are_right ys ≡ sums_are_right xs
  sums-same = all-same xs.accounts

pub stored-taken : (days : Schedule) (xs : Content) → stored_of (migrated_rows days xs) ≡ stored_of xs
stored-taken days xs = λ i. record {
  registry = record { contacts = contacts_of xs; hosts = hosts_of xs; domains = domains_of xs; accounts = accounts-same days xs i; clock = clock-taken xs.metas i };
  terms = terms-taken xs.metas xs.days xs.accounts i;
}

pub right-taken : (days : Schedule) (xs : Content) → are_right (migrated_rows days xs) ≡ are_right (numbered_anew xs)
right-taken days xs = ap (λ sums. may_be_numbered (map renumbered xs.metas) && (sums && (helds_are_right xs && (dues_are_right (numbered_anew xs) && sponsors_are_right xs)))) (sums-same days xs)

-- ---- what is put is what was there

renumbered-keyed : (rows : List MetaRow) → IsKeyedBy metas.key rows → IsKeyedBy metas.key (map renumbered rows)
renumbered-keyed rows up = ascending-map _ renumbered rows up

module _ (xs : Content) (is : IsOldContent xs) where
  put-heads : put_of_all heads xs no_content ≡ record no_content { metas = map renumbered xs.metas; accounts = xs.accounts }
  put-heads = λ i. record no_content {
    metas = put-keyed metas.key (map renumbered xs.metas) (renumbered-keyed xs.metas is.keyed.metas) i;
    accounts = put-keyed accounts.key xs.accounts is.keyed.accounts i;
  }

  ended-keyed : (days : Schedule) → IsKeyedBy lines.key (lines_with_ends days xs.lines)
  ended-keyed days = ascending-map _ (with_grace_end days) xs.lines is.keyed.lines

  put-rest : (days : Schedule) → put_lines days xs (put_of_all others xs (record no_content { metas = map renumbered xs.metas; accounts = xs.accounts })) ≡ migrated_rows days xs
  put-rest days = λ i. record {
    metas = map renumbered xs.metas;
    accounts = xs.accounts;
    contacts = put-keyed contacts.key xs.contacts is.keyed.contacts i;
    domains = put-keyed domains.key xs.domains is.keyed.domains i;
    hosts = put-keyed hosts.key xs.hosts is.keyed.hosts i;
    addresses = put-keyed addresses.key xs.addresses is.keyed.addresses i;
    links = put-keyed links.key xs.links is.keyed.links i;
    lines = put-keyed lines.key (lines_with_ends days xs.lines) (ended-keyed days) i;
    messages = put-keyed messages.key xs.messages is.keyed.messages i;
    transfers = put-keyed transfers.key xs.transfers is.keyed.transfers i;
    days = sym is.days i;
  }

  pub suits-heads : (p : PolicyRules) → suits p (stored_of (put_of_all heads xs no_content)) ≡ suits p (stored_of xs)
  suits-heads p =
      ap (λ (c : Content). suits p (stored_of c)) put-heads
      ∙ (λ i. suits_in p (clock-taken xs.metas i) ((terms-taken xs.metas [] xs.accounts ∙ ap (λ (tables : List DayRow). terms_in (slice_get xs.metas 0) tables xs.accounts) (sym is.days)) i))

  pub put-all : (days : Schedule) → put_lines days xs (put_of_all others xs (put_of_all heads xs no_content)) ≡ migrated_rows days xs
  put-all days = ap (λ (c : Content). put_lines days xs (put_of_all others xs c)) put-heads ∙ put-rest days

-- ---- one call after another

stays-then : (s m t : StateOf Content) → Stays s m → Stays m t → Stays s t
stays-then s m t a b = record { clean = λ e. a.clean (b.clean e); before = λ e. b.before e ∙ a.before (b.clean e); leaves = leaves-on s m t a.leaves b.leaves }

stays-read : (s t : StateOf Content) → Reads s t → Stays s t
stays-read s t r = record { clean = r.clean; before = r.before; leaves = r.leaves }

stays-copied : (put : Content → Content → Content) (from read : OldState) (to mid : StateOf Content) → IsCopied put from read to mid → Stays to mid
stays-copied put from read to mid c = record { clean = c.clean; before = c.before; leaves = c.leaves }

copied-then : (one two : Content → Content → Content) (from read more : OldState) (to mid wrote : StateOf Content)
    → IsCopied one from read to mid → IsCopied two read more mid wrote → IsCopied (λ c d. two c (one c d)) from more to wrote
copied-then one two from read more to mid wrote a b = record {
  asked = asked-on from read more a.asked b.asked;
  clean = λ e. a.clean (b.clean e);
  before = λ e. b.before e ∙ a.before (b.clean e);
  opened = b.opened;
  leaves = leaves-on to mid wrote a.leaves b.leaves;
  content = λ c e.
      let r = b.asked.reads.clean c in
      b.content c e ∙ (λ i. two (a.asked.reads.content r i) (a.content r (b.clean e) i));
}

-- after a copy that failed behind one that didn't
left-then : (one : Content → Content → Content) (from read more : OldState) (to mid wrote : StateOf Content)
    → IsCopied one from read to mid → IsCopyLeft read more mid wrote → IsCopyLeft from more to wrote
left-then one from read more to mid wrote a b = record {
  source = read-on from read more a.asked.reads b.source;
  target = stays-then to mid wrote (stays-copied one from read to mid a) b.target;
}

pub copied-after : {A : Type 0} (r : Result A BookFault) (one two : Content → Content → Content) (from read more : OldState) (to mid wrote : StateOf Content)
    → IsCopied one from read to mid → Copies r two read more mid wrote → Copies r (λ c d. two c (one c d)) from more to wrote
copied-after (Ok done) one two from read more to mid wrote a b = copied-then one two from read more to mid wrote a b
copied-after (Err fault) one two from read more to mid wrote a b = left-then one from read more to mid wrote a b

module _ (p : PolicyRules) (from read : OldState) (to written looked : StateOf Content) (old : from.is_clean ≡ true → IsOldContent from.content) (blank : to.is_clean ≡ true → to.content ≡ no_content)
    (copied : IsCopied (put_of_all heads) from read to written) (said : Bool) (found : Reads written looked × (looked.is_clean ≡ true → said ≡ suits p (stored_of written.content))) where
  suits-there : read.is_clean ≡ true → looked.is_clean ≡ true → said ≡ suits p (stored_of from.content)
  suits-there c e =
      let w = found.0.clean e in
      found.1 e
      ∙ ap (λ (c : Content). suits p (stored_of c)) (copied.content c w ∙ ap (put_of_all heads from.content) (blank (copied.clean w)))
      ∙ suits-heads from.content (old (copied.asked.reads.clean c)) p

  stays-looked : Stays to looked
  stays-looked = stays-then to written looked (stays-copied (put_of_all heads) from read to written copied) (stays-read written looked found.0)

  pub refused : said ≡ false → IsRefused p from read to looked
  refused unsaid = record {
    asked = copied.asked;
    stays = stays-looked;
    differs = λ c e. sym (suits-there c e) ∙ unsaid;
  }

  pub taken-over : (more : OldState) (wrote dated : StateOf Content) → said ≡ true → IsCopied (λ c d. put_lines p.days c (put_of_all others c d)) read more looked wrote
      → HasMade stored_of are_right (redated p (stored_of wrote.content)) wrote dated → (dated.is_clean ≡ true → dated.content.lines ≡ wrote.content.lines) → IsTakenOver p from more to dated
  taken-over more wrote dated so rest days kept = record {
    asked = asked-on from read more copied.asked rest.asked;
    stays = stays-then to wrote dated (stays-then to looked wrote stays-looked (stays-copied _ read more looked wrote rest)) (record { clean = days.clean; before = days.before; leaves = days.leaves });
    opened = days.opened;
    fits = λ c e. sym (suits-there (rest.asked.reads.clean c) (rest.clean (days.clean e))) ∙ so;
    stored = λ c e. days.content e ∙ ap (λ (xs : Content). redated p (stored_of xs)) (consistent c (days.clean e)) ∙ ap (redated p) (stored-taken p.days from.content);
    sums = λ c e. days.sums e ∙ ap are_right (consistent c (days.clean e)) ∙ right-taken p.days from.content;
    lines_are = λ c e. kept e ∙ ap (λ (xs : Content). xs.lines) (consistent c (days.clean e));
  }
    where
      consistent : more.is_clean ≡ true → wrote.is_clean ≡ true → wrote.content ≡ migrated_rows p.days from.content
      consistent c e =
          let l = rest.clean e in
          let w = found.0.clean l in
          let r = rest.asked.reads.clean c in
          let is = old (copied.asked.reads.clean r) in
          rest.content c e
          ∙ (λ i. put_lines p.days (copied.asked.reads.content r i) (put_of_all others (copied.asked.reads.content r i) ((found.0.content l ∙ copied.content r w ∙ ap (put_of_all heads from.content) (blank (copied.clean w))) i)))
          ∙ put-all from.content is p.days

-- ---- the whole

-- a call that failed, and what was begun undone
pub undone : (old failed new : StateOf Content) → Stays old failed → Closes failed.before failed new → Closes old.before old new
undone old failed new stays back = record {
  clean = λ e. stays.clean (back.clean e);
  closed = back.closed;
  content = λ e. back.content e ∙ stays.before (back.clean e);
  leaves = leaves-on old failed new stays.leaves back.leaves;
}

as-read : (s : OldState) → IsRead s s
as-read s = record { clean = λ e. e; honest = λ e. e; content = λ e. refl; ready = refl; leaves = refl }

-- nothing was begun, or all was undone
tried-nothing : (p : PolicyRules) (from read : OldState) (to written : StateOf Content) → from.readiness ≡ Used → IsRead from read → Closes to.content to written → IsTried p from read to written
tried-nothing p from read to written source reads back = record {
  reads = reads;
  source = source;
  clean = back.clean;
  honest = back.leaves.honest;
  closed = back.closed;
  content = back.content;
  ready = back.leaves.ready;
  leaves = λ was c e left h. inl (subst (λ (l : List (Remains Content)). Has l left) back.leaves.same h);
}

by-fault : (p : PolicyRules) (from read : OldState) (to written : StateOf Content) (why : BookFault) (fault : MigrateFault) → fault ≡ fault_of why → IsTried p from read to written → Migrates {A = Unit {0}} (Err fault) p from read to written
by-fault p from read to written faults.Memory fault is tried = subst (λ (f : MigrateFault). Migrates {A = Unit {0}} (Err f) p from read to written) (sym is) tried
by-fault p from read to written faults.Store fault is tried = subst (λ (f : MigrateFault). Migrates {A = Unit {0}} (Err f) p from read to written) (sym is) tried

-- where no transaction was open, going back leads to what was held
home : (a b : StateOf Content) → a.before ≡ a.content → Closes a.before a b → Closes a.content a b
home a b idle back = record { clean = back.clean; closed = back.closed; content = λ e. back.content e ∙ idle; leaves = back.leaves }

-- it wasn't told whether the place is empty
pub unasked : (p : PolicyRules) (from : OldState) (a b : StateOf Content) (why : BookFault) (fault : MigrateFault) → fault ≡ fault_of why → a.before ≡ a.content → (from.readiness ≡ Used) × Closes a.before a b
    → Migrates {A = Unit {0}} (Err fault) p from from a b
unasked p from a b why fault is idle left = by-fault p from from a b why fault is (tried-nothing p from from a b left.0 (as-read from) (home a b idle left.1))

-- there is no place to put it, or nothing to take
pub elsewhere : (p : PolicyRules) (from : OldState) (a b : StateOf Content) → AreAsked false from a b → Migrates {A = Unit {0}} (Err Schema) p from from a b
elsewhere p from a b it = record { same = refl; back = it.back; other = it.other refl }

-- no transaction was opened
pub unbegun : (p : PolicyRules) (from : OldState) (a b c : StateOf Content) (why : BookFault) (fault : MigrateFault) → fault ≡ fault_of why → a.before ≡ a.content → AreAsked true from a b → Closes b.before b c
    → Migrates {A = Unit {0}} (Err fault) p from from a c
unbegun p from a b c why fault is idle it back =
    unasked p from a c why fault is idle (it.source refl, undone a b c (stays-read a b it.back) back)

module _ (p : PolicyRules) (from read : OldState) (a b c d e : StateOf Content) (asked : AreAsked true from a b) (begun : Starts b c) where
  before-all : c.is_clean ≡ true → c.before ≡ a.content
  before-all t = begun.before t ∙ asked.back.content (begun.clean t)

  leaves-begun : LeavesSame a c
  leaves-begun = leaves-on a b c asked.back.leaves begun.leaves

  clean-begun : c.is_clean ≡ true → a.is_clean ≡ true
  clean-begun t = asked.back.clean (begun.clean t)

  closed-back : Stays c d → Closes d.before d e → Closes a.content a e
  closed-back stays back = record {
    clean = λ t. clean-begun (stays.clean (back.clean t));
    closed = back.closed;
    content = λ t. let w = back.clean t in back.content t ∙ stays.before w ∙ before-all (stays.clean w);
    leaves = leaves-on a d e (leaves-on a c d leaves-begun stays.leaves) back.leaves;
  }

  there-then : c.is_clean ≡ true → AreThere from a
  there-then t = asked.there refl (begun.clean t)

  may-be : (took : IsTakenOver p from read c d) → read.is_clean ≡ true → d.is_clean ≡ true → MayBeTaken p from a
  may-be took m t = (there-then (took.stays.clean t), took.fits m t)

  all-in : (took : IsTakenOver p from read c d) → read.is_clean ≡ true → d.is_clean ≡ true → (left : Remains Content) → left ≡ holding d.content → IsAll p from.content left
  all-in took m t left is = (
    ap (λ (l : Remains Content). l.readiness) is,
    (
      ap (λ (l : Remains Content). stored_of l.content) is ∙ took.stored m t,
      ap (λ (l : Remains Content). are_right l.content) is ∙ took.sums m t,
    ),
  )

  kept-all : IsTakenOver p from read c d → Keeps d e → IsMigrated p from read a e
  kept-all took kept = record {
    asked = took.asked;
    clean = λ t. clean-begun (took.stays.clean (kept.clean t));
    answers = kept.answers;
    closed = kept.closed;
    used = kept.ready;
    source = asked.source refl;
    may = λ m t. may-be took m (kept.clean t);
    stored = λ m t. ap stored_of (kept.content t) ∙ took.stored m (kept.clean t);
    sums = λ m t. ap are_right (kept.content t) ∙ took.sums m (kept.clean t);
    lines_are = λ m t. ap (λ (xs : Content). xs.lines) (kept.content t) ∙ took.lines_are m (kept.clean t);
    leaves = λ m honest left h. all-in took m (kept.answered honest) left (kept.leaves left h);
  }

  failed-all : IsTakenOver p from read c d → IsUnkept d e → IsTried p from read a e
  failed-all took failed = record {
    reads = took.asked.reads;
    source = asked.source refl;
    clean = λ t. clean-begun (took.stays.clean (failed.clean t));
    honest = λ t. leaves-begun.honest (took.stays.leaves.honest (failed.honest t));
    closed = failed.closed;
    content = λ t. let w = failed.clean t in failed.content t ∙ took.stays.before w ∙ before-all (took.stays.clean w);
    ready = failed.ready ∙ (leaves-on a c d leaves-begun took.stays.leaves).ready;
    leaves = λ was h honest left has. elim (failed.leaves left has) [
      | inl before ↦ inl (subst (λ (l : List (Remains Content)). Has l left) (leaves-on a c d leaves-begun took.stays.leaves).same before)
      | inr is ↦ let m : read.is_clean ≡ true = took.asked.answers was h in let t = failed.answered honest in inr (may-be took m t, all-in took m t left is)
    ];
  }

  undone-all : IsCopyLeft from read c d → Closes d.before d e → IsTried p from read a e
  undone-all left back = tried-nothing p from read a e (asked.source refl) left.source (closed-back left.target back)

  unsuited : IsRefused p from read c d → Closes d.before d e → IsUnsuited p from read a e
  unsuited refused back = record {
    asked = refused.asked;
    back = closed-back refused.stays back;
    source = asked.source refl;
    there = λ t. there-then (refused.stays.clean (back.clean t));
    differs = λ m t. refused.differs m (back.clean t);
  }

  pub migrated : (result : Result (Unit {0}) MigrateFault) (took : Result Bool BookFault) → TakesOver took p from read c d → EndsAs result took d e → Migrates result p from read a e
  migrated (Ok done) (Ok true) over ends = kept-all over ends
  migrated (Ok done) (Ok false) over ends = absurd ends
  migrated (Ok done) (Err why) over ends = absurd ends
  migrated (Err Memory) (Ok true) over ends = failed-all over ends
  migrated (Err Store) (Ok true) over ends = failed-all over ends
  migrated (Err Policy) (Ok true) over ends = absurd ends
  migrated (Err Schema) (Ok true) over ends = absurd ends
  migrated (Err fault) (Ok false) over ends = subst (λ (f : MigrateFault). Migrates {A = Unit {0}} (Err f) p from read a e) (sym ends.0) (unsuited over ends.1)
  migrated (Err fault) (Err why) over ends = by-fault p from read a e why fault ends.0 (undone-all over ends.1)
