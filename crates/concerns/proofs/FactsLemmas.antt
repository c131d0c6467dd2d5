-- What a command is judged by is the same whether all that is due has lapsed, or what it concerns.
use Rattle.std.proofs.Common.{◌≡◌, ⊎_elim, ℕ, Bool, true, false, not, ◌&&◌, ◌||◌, List, [], ◌∷◌, map, Option, Some, None, is_some, option_and_then, option_map, refl, sym, ap, subst, ◌∙◌, arith}
use Rattle.std.proofs.lemmas.Bool.{cases_Bool, false_from_ne_true, or_parts, or_right}
use Rattle.std.specs.{Cmp.Lexicographic.{slice_cmp, nat_list_cmp_total}, FinMap.{entries, get, values}, List.list_any, Str.bytes_eq}
use Rattle.std.specs.{Option.option_map_or, Ordering.nat_cmp}
use Rattle.accounts.specs.declared.{entries.{LapseEntry.TheVariants.{Notice, Renewal, Start}, Posting.Posting}, line.Line.Line}
use Rattle.accounts.specs.{declared.line.LineKind.LineKind, Entries.renewal_line, LineChanges.unasked}
use Rattle.accounts.specs.Lines.{in_order, is_kind, is_on, is_same_roid}
use Rattle.accounts.specs.declared.line.LineKind.TheVariants as lines
use Rattle.basis.specs.{Bag.add, Sweeps.kept_list}
use Rattle.basis.proofs.{ApartLaws.get-kept, BagLaws.any-add, EntryLaws.{Each, each_entry}, MapLemmas.names_apart, SweepLaws.entries-kept}
use Rattle.facts.specs.Facts.{Lookups, contact_facts, domain_facts, domain_facts_of, facts, facts_by, held, host_facts, is_linked_contact, is_linked_host, lookups, superordinate_of_domain}
use Rattle.facts.specs.declared.facts.HostFacts.{HostFacts}
use Rattle.lifecycle.specs.{declared.lapsed.Lapsed.Lapsed, Graces.{gives, graces, runs_from, period_of}}
use Rattle.lifecycle.specs.{Lapse.{contact_completed, due_by, lapse, lapse_contact, leaves}, Phases.phase, Refunds.{given_back, refund_at}}
use Rattle.lifecycle.proofs.DueLaws.{lapse-stays}
use Rattle.model.specs.{Lapse.{Choice, accounts_at, contacts_at, domains_at, now, postings}, Registry.{Registry, account_of}}
use Rattle.model.specs.{Standing.graces_of, View.domain_sight}
use Rattle.model.proofs.{LineLemmas.{count, count-cons, one_if}, SweepLemmas.left}
use Rattle.names.specs.Zone.{last_two_of}
use Rattle.objects.specs.declared.{contact.Contact.Contact, domain.{Domain.Domain, DomainFace.DomainFace, FullDomain.FullDomain}}
use Rattle.objects.specs.declared.{grace.Graces.Graces, roid.Roid.Roid, sight.Seen.Seen, transfer.Transfer.Transfer}
use Rattle.objects.specs.{Links.{has_name, names_contact, names_host}, Sight.{contact_as, domain_as, is_party}}
use Rattle.policy.specs.Rules.{PolicyRules}
use Rattle.protocol.specs.declared.command.{Command.{Command, TheVariants.{Asked, Bad}}, Request.Request}
use Rattle.protocol.specs.Requests.{asked, asks_of, contacts_asked, domains_asked, holds_of, hosts_asked, new_host_asked, presented, presented_contact, reads_associations}
use Rattle.concerns.specs.declared.given.Names.{Names}
use Rattle.concerns.specs.Concerns.{IsSettledIn, concerned, contact_name, domain_name, domain_roid, is_about, is_concerned, meant, read_at}
use Rattle.concerns.specs.Names.{contacts_in, hosts_in, listed, named_by}
use Rattle.concerns.proofs.PostedLemmas.{IsElsewhere, contact-elsewhere, domain-elsewhere, elsewhere-posted, not-party, requester-off}
use Rattle.concerns.proofs.ConcernLemmas.{any-in, any-read, in-filter_map, in-first, in-itself, in-second, is_in, meant-named}
use Rattle.decisions.proofs.{LapsedLemmas.domain-left, LineEntryLemmas.{AllOff, IsKeptOff, IsOff, keep-posted, off-keep}}
use Rattle.decisions.proofs.{LineTimeLemmas.{completed-off, domain-off}, PostingLemmas.{AllPosted, postings-posted}}
use Rattle.decisions.proofs.TransferLemmas.{graces-elsewhere}

-- ---- tests of what is left

-- of each value what is left passes a test as it does, and nothing is left only of what doesn't pass
abbrev Passes : {X : Type 0} → (X → Bool) → Option X → X → Type 0
Passes test o x = option_map_or test o false ≡ test x

abbrev values_of : {X : Type 0} → List (List ℕ × X) → List X
values_of es = map (λ (e : List ℕ × _). e.1) es

-- what counts those that pass, or asks for one
module _ {X A : Type 0} (test : X → Bool) (measure : List X → A) (step : Bool → A → A) (skips : (rest : A) → step false rest ≡ rest)
    (steps : (x : X) (xs : List X) → measure (x ∷ xs) ≡ step (test x) (measure xs)) (f : List ℕ → X → Option X) where
  one-left : (name : List ℕ) (x : X) (o : Option X) (ls : List (List ℕ × X)) (rest : A) → Passes test o x → measure (values_of ls) ≡ rest
      → measure (values_of (option_map_or (λ y. (name, y) ∷ ls) o ls)) ≡ step (test x) rest
  one-left name x None ls rest h e = e ∙ sym (skips rest) ∙ ap (λ (b : Bool). step b rest) h
  one-left name x (Some y) ls rest h e = steps y (values_of ls) ∙ (λ i. step (h i) (e i))

  measure-left : (es : List (List ℕ × X)) → Each (λ name x. Passes test (f name x) x) es → measure (values_of (kept_list f es)) ≡ measure (values_of es)
  measure-left [] each = refl
  measure-left (e ∷ es) each = one-left e.0 e.1 (f e.0 e.1) (kept_list f es) (measure (values_of es)) each.0 (measure-left es each.1) ∙ sym (steps e.1 (values_of es))

-- ---- graces, of which lines on another domain tell nothing

module _ (p : PolicyRules) (t : ℕ) (roid : Roid) (since : Option ℕ) where
  unadded : (kind : LineKind) (l : Line) (ls : List Line) → is_on roid l ≡ false → list_any (gives kind p t roid since) (add in_order l ls) ≡ list_any (gives kind p t roid since) ls
  unadded kind l ls off =
      any-add in_order (gives kind p t roid since) l ls
      ∙ ap (λ (b : Bool). b || list_any (gives kind p t roid since) ls) (unasked (is_kind l.kind kind) (is_on roid l) (not (is_some l.refunded) && runs_from p t since l.started (period_of l.kind)) off)

  graces-unadded : (l : Line) (ls : List Line) → is_on roid l ≡ false → graces p t roid since (add in_order l ls) ≡ graces p t roid since ls
  unfolding graces
  graces-unadded l ls off = λ i. record {
    add = unadded lines.Create l ls off i;
    auto_renew = unadded lines.AutoRenew l ls off i;
    renew = unadded lines.Renew l ls off i;
    transfer = unadded lines.Transfer l ls off i;
  }

  graces-kept-off : (g : Graces) → IsKeptOff roid (λ ls. graces p t roid since ls ≡ g)
  graces-kept-off g (Renewal r) off ls e = graces-unadded (renewal_line r) ls off ∙ e
  graces-kept-off g (Start x) off ls e = graces-elsewhere p t roid since x off ls ∙ e
  graces-kept-off g (Notice m) off ls e = e

-- ---- a registry in which nothing is due that a registrar's command concerns, and what it is now

object-stays : {X : Type 0} (f : X → Lapsed X) (o : Option X) → ((x : X) → o ≡ Some x → f x ≡ leaves x []) → option_map_or (λ x. (f x).object) o None ≡ o
object-stays f None stays = refl
object-stays f (Some x) stays = ap (λ (l : Lapsed _). l.object) (stays x refl)

fails-left : {X : Type 0} (test : X → Bool) (o : Option X) → ((x : X) → o ≡ Some x → test x ≡ false) → option_map_or test o false ≡ false
fails-left test None fails = refl
fails-left test (Some x) fails = fails x refl

module _ (p : PolicyRules) (r : Option ℕ) (g : Names) (u : Registry) (is : IsSettledIn p (concerned r g u) u) where
  abbrev t : ℕ
  t = u.clock

  abbrev chosen : Choice
  chosen = concerned r g u

  -- ---- what is concerned stays

  contact-left-so : (name : List ℕ) (x : Contact) → get u.contacts name ≡ Some x → chosen.contacts name ≡ true → lapse_contact t x ≡ leaves x []
  contact-left-so name x at chose = ap (λ (o : Option Transfer). contact_completed o x) (is.contacts name x at chose)

  domain-left-so : (name : List ℕ) (d : Domain) → get u.domains name ≡ Some d → chosen.domains name ≡ true → lapse p t d ≡ leaves d []
  domain-left-so name d at chose = lapse-stays p t d (is.domains name d at chose)

  pub contact-at : (name : List ℕ) → is_in name g.contacts ≡ true → get (now p u).contacts name ≡ get u.contacts name
  unfolding contacts_at
  contact-at name e = get-kept (slice_cmp nat_cmp) nat_list_cmp_total names_apart (left (λ name. lapse_contact t)) u.contacts name
      ∙ object-stays (lapse_contact t) (get u.contacts name) (λ x at. contact-left-so name x at (meant-named contact_name u.contacts g.contacts name _ e))

  pub domain-at : (name : List ℕ) → is_in name g.domains ≡ true → get (now p u).domains name ≡ get u.domains name
  unfolding domains_at
  domain-at name e = get-kept (slice_cmp nat_cmp) nat_list_cmp_total names_apart (left (λ name. lapse p t)) u.domains name
      ∙ object-stays (lapse p t) (get u.domains name) (λ d at. domain-left-so name d at (meant-named domain_name u.domains g.domains name _ e))

  -- ---- what isn't concerned is no concern in each way

  unconcerned : (name : List ℕ) (d : Domain) → get u.domains name ≡ Some d → chosen.domains name ≡ false → is_concerned r g u d ≡ false
  unconcerned name d at none = sym (ap (holds_of (is_concerned r g u)) at) ∙ (or_parts (has_name (meant domain_name u.domains g.domains) name) _ none).1

  pub contact-not-about : (name : List ℕ) (x : Contact) → get u.contacts name ≡ Some x → chosen.contacts name ≡ false → is_about r x.sponsor x.transfer ≡ false
  contact-not-about name x at none = sym (ap (holds_of (λ (x : Contact). is_about r x.sponsor x.transfer)) at) ∙ (or_parts (has_name (meant contact_name u.contacts g.contacts) name) _ none).1

  pub domain-not-about : (name : List ℕ) (d : Domain) → get u.domains name ≡ Some d → chosen.domains name ≡ false → is_about r d.sponsor d.transfer ≡ false
  domain-not-about name d at none = (or_parts (is_about r d.sponsor d.transfer) _ (unconcerned name d at none)).0

  none-in : (test : List ℕ → Bool) (name : List ℕ) (names : List (List ℕ)) → is_in name names ≡ true → list_any test names ≡ false → test name ≡ false
  none-in test name names e none = false_from_ne_true (test name) (λ yes. let never : true ≡ false = sym (any-in test name names e yes) ∙ none in cc)

  -- its ROID isn't that of a domain that is named
  pub roid-off : (name : List ℕ) (d : Domain) → get u.domains name ≡ Some d → chosen.domains name ≡ false → (n : List ℕ) (e : Domain) → is_in n g.domains ≡ true → get u.domains n ≡ Some e → is_same_roid d.roid e.roid ≡ false
  roid-off name d at none n e named found =
      let parts = or_parts (is_about r d.sponsor d.transfer) _ (unconcerned name d at none) in
      let off : list_any (is_same_roid d.roid) (read_at domain_roid u.domains g.domains) ≡ false = (or_parts (list_any (is_same_roid d.roid) (read_at domain_roid u.domains g.domains)) _ parts.1).0 in
      false_from_ne_true (is_same_roid d.roid e.roid) (λ yes. let never : true ≡ false = sym (any-read domain_roid (is_same_roid d.roid) u.domains n g.domains e named found yes) ∙ off in cc)

  links-off : (name : List ℕ) (d : Domain) → get u.domains name ≡ Some d → chosen.domains name ≡ false
      → (list_any (λ contact. names_contact contact d.links) g.contacts ≡ false) × (list_any (λ host. names_host host d.links) g.hosts ≡ false)
  links-off name d at none =
      let parts = or_parts (is_about r d.sponsor d.transfer) _ (unconcerned name d at none) in
      or_parts (list_any (λ contact. names_contact contact d.links) g.contacts) _ (or_parts (list_any (is_same_roid d.roid) (read_at domain_roid u.domains g.domains)) _ parts.1).1

  -- ---- what is posted

  abbrev all_postings : List Posting
  all_postings = postings (λ name. lapse_contact t) (λ name. lapse p t) u

  -- of all that is posted, what is so of all that contacts post and of what domains post that aren't concerned
  all-post : (P : Posting → Type 0) → ((name : List ℕ) (x : Contact) → get u.contacts name ≡ Some x → chosen.contacts name ≡ false → AllPosted P (lapse_contact t x).postings)
      → ((name : List ℕ) (d : Domain) → get u.domains name ≡ Some d → chosen.domains name ≡ false → AllPosted P (lapse p t d).postings) → AllPosted P all_postings
  all-post P of-contact of-domain = postings-posted p t P u (λ name x at. ⊎_elim
      (λ chose. subst (λ (l : Lapsed Contact). AllPosted P l.postings) (sym (contact-left-so name x at chose)) tt) (λ none. of-contact name x at none) (cases_Bool (chosen.contacts name)))
      (λ name d at. ⊎_elim
      (λ chose. subst (λ (l : Lapsed Domain). AllPosted P l.postings) (sym (domain-left-so name d at chose)) tt) (λ none. of-domain name d at none) (cases_Bool (chosen.domains name)))

  -- no line of them is on a domain that is named
  postings-off : (n : List ℕ) (e : Domain) → is_in n g.domains ≡ true → get u.domains n ≡ Some e → AllOff e.roid all_postings
  postings-off n e named found = all-post (λ (f : Posting). IsOff e.roid f.what)
      (λ name x at none. completed-off p e.roid (due_by t x.transfer) x) (λ name d at none. domain-off p e.roid t d (roid-off name d at none n e named found))

  -- so the graces of a domain that is named are the same
  pub graces-now : (n : List ℕ) (e : Domain) → is_in n g.domains ≡ true → get u.domains n ≡ Some e → graces_of p (now p u) e ≡ graces_of p u e
  unfolding accounts_at
  graces-now n e named found =
      let P : List Line → Type 0 = λ ls. graces p t e.roid e.transferred ls ≡ graces_of p u e in
      keep-posted P e.sponsor all_postings (off-keep e.roid P (graces-kept-off p t e.roid e.transferred (graces_of p u e)) e.sponsor all_postings (postings-off n e named found)) u refl

  -- ---- tests of domains

  -- it fails of what isn't concerned, as it is and as it is left
  abbrev Fails : (Domain → Bool) → Domain → Type 0
  Fails test d = (test d ≡ false) × ((e : Domain) → (lapse p t d).object ≡ Some e → test e ≡ false)

  module _ (test : Domain → Bool) (fails : (name : List ℕ) (d : Domain) → get u.domains name ≡ Some d → chosen.domains name ≡ false → Fails test d) where
    passes : (name : List ℕ) (d : Domain) → get u.domains name ≡ Some d → Passes test (lapse p t d).object d
    passes name d at = ⊎_elim (λ chose. ap (λ (l : Lapsed Domain). option_map_or test l.object false) (domain-left-so name d at chose))
        (λ none. let off = fails name d at none in fails-left test (lapse p t d).object off.1 ∙ sym off.0) (cases_Bool (chosen.domains name))

    measure-now : {A : Type 0} (measure : List Domain → A) (step : Bool → A → A) → ((rest : A) → step false rest ≡ rest)
        → ((d : Domain) (ds : List Domain) → measure (d ∷ ds) ≡ step (test d) (measure ds)) → measure (values (now p u).domains) ≡ measure (values u.domains)
    unfolding domains_at
    measure-now measure step skips steps = ap (λ (es : List (List ℕ × Domain)). measure (values_of es)) (entries-kept (slice_cmp nat_cmp) (left (λ name. lapse p t)) nat_list_cmp_total names_apart u.domains)
        ∙ measure-left test measure step skips steps (left (λ name. lapse p t)) (entries u.domains) (each_entry (slice_cmp nat_cmp) nat_list_cmp_total names_apart (λ name d. Passes test (lapse p t d).object d) u.domains passes)

  -- what domains name
  linked-now : (test : Domain → Bool) → ((d e : Domain) → e.links ≡ d.links → test e ≡ test d)
      → ((name : List ℕ) (d : Domain) → get u.domains name ≡ Some d → chosen.domains name ≡ false → test d ≡ false)
      → list_any test (values (now p u).domains) ≡ list_any test (values u.domains)
  linked-now test linked fails = measure-now test (λ name d at none.
      let off = fails name d at none in
      (off, domain-left p t d (λ (z : Domain). test z ≡ false) (λ x gone. off) (λ alive years. linked d _ refl ∙ off) (λ alive x due years. linked d _ refl ∙ off)))
      (list_any test) (λ b rest. b || rest) (λ rest. refl) (λ d ds. refl)

  pub contact-linked : (contact : List ℕ) → is_in contact g.contacts ≡ true → is_linked_contact (now p u) contact ≡ is_linked_contact u contact
  contact-linked contact named = linked-now (λ d. names_contact contact d.links) (λ d e same. ap (names_contact contact) same)
      (λ name d at none. none-in (λ n. names_contact n d.links) contact g.contacts named (links-off name d at none).0)

  pub host-linked : (host : List ℕ) → is_in host g.hosts ≡ true → is_linked_host (now p u) host ≡ is_linked_host u host
  host-linked host named = linked-now (λ d. names_host host d.links) (λ d e same. ap (names_host host) same)
      (λ name d at none. none-in (λ n. names_host n d.links) host g.hosts named (links-off name d at none).1)

  -- ---- contacts are there still

  pub contact-there : (name : List ℕ) → is_some (get (now p u).contacts name) ≡ is_some (get u.contacts name)
  unfolding contacts_at
  contact-there name = ap is_some (get-kept (slice_cmp nat_cmp) nat_list_cmp_total names_apart (left (λ name. lapse_contact t)) u.contacts name) ∙ by (get u.contacts name)
    where
      completed : (x : Contact) (o : Option Transfer) → is_some (contact_completed o x).object ≡ true
      completed x o = grind arith

      by : (o : Option Contact) → is_some (option_map_or (λ x. (lapse_contact t x).object) o None) ≡ is_some o
      by None = refl
      by (Some x) = completed x (due_by t x.transfer)

-- ---- the caller's account, and what it holds

module _ (p : PolicyRules) (r : ℕ) (c : Command) (u : Registry) (is : IsSettledIn p (concerned (Some r) (named_by c) u) u) where
  abbrev moment : ℕ
  moment = u.clock

  pub account-now : account_of r (now p u) ≡ account_of r u
  unfolding accounts_at
  account-now = elsewhere-posted r (all_postings p (Some r) (named_by c) u is) (all-post p (Some r) (named_by c) u is (IsElsewhere r)
      (λ name x at none. contact-elsewhere r moment p x (contact-not-about p (Some r) (named_by c) u is name x at none))
      (λ name d at none. domain-elsewhere r moment p d (domain-not-about p (Some r) (named_by c) u is name d at none))) u

  abbrev is_mine : Domain → Bool
  is_mine d = is_party r d.sponsor d.transfer

  pub held-now : held r (now p u) ≡ held r u
  held-now = measure-now p (Some r) (named_by c) u is is_mine (λ name d at none.
      let apart = domain-not-about p (Some r) (named_by c) u is name d at none in
      let party : is_mine d ≡ false = not-party r d.sponsor moment d.transfer apart in
      (party, domain-left p moment d (λ (z : Domain). is_mine z ≡ false) (λ x gone. party) (λ alive years. party) (λ alive x due years. ap (λ (b : Bool). b || false) (requester-off r d.sponsor moment d.transfer apart x due))))
      (count is_mine) one_if (λ rest. refl) (count-cons is_mine)

  -- ---- what is found at the names of the command

  contact-seen : (name : List ℕ) → is_in name (named_by c).contacts ≡ true → (lookups p r c (now p u)).contact name ≡ (lookups p r c u).contact name
  contact-seen name named = ap (option_map (contact_as r (presented_contact c name))) (contact-at p (Some r) (named_by c) u is name named)

  domain-seen : (name : List ℕ) → is_in name (named_by c).domains ≡ true → (lookups p r c (now p u)).domain name ≡ (lookups p r c u).domain name
  domain-seen name named = ap (option_map (domain_sight p r (now p u) (presented c name))) (domain-at p (Some r) (named_by c) u is name named) ∙ by (get u.domains name) refl
    where
      by : (o : Option Domain) → get u.domains name ≡ o → option_map (domain_sight p r (now p u) (presented c name)) o ≡ option_map (domain_sight p r u (presented c name)) o
      by None at = refl
      by (Some d) at = ap (λ (g : Graces). let seen : Seen FullDomain DomainFace = domain_as r (presented c name) (record { graces = g; phase = phase p moment d }) d in let o : Option (Seen FullDomain DomainFace) = Some seen in o) (graces-now p (Some r) (named_by c) u is name d named at)

  superordinate-seen : (name : List ℕ) → is_in name (named_by c).domains ≡ true → (lookups p r c (now p u)).superordinate name ≡ (lookups p r c u).superordinate name
  superordinate-seen name named = ap (option_map superordinate_of_domain) (domain-at p (Some r) (named_by c) u is name named)

  -- ---- the same, where it is the same whatever name is asked for

  -- what is found of the registry as it is, but at names what is found of it now
  abbrev mixed : Lookups
  mixed = record (lookups p r c u) {
    contact = (lookups p r c (now p u)).contact;
    domain = (lookups p r c (now p u)).domain;
    superordinate = (lookups p r c (now p u)).superordinate;
    contact_is_linked = (lookups p r c (now p u)).contact_is_linked;
    host_is_linked = (lookups p r c (now p u)).host_is_linked;
  }

  all-but-names : lookups p r c (now p u) ≡ mixed
  all-but-names = λ i. record mixed {
    account = account-now i;
    has_contact = λ name. contact-there p (Some r) (named_by c) u is name i;
    domains_held = held-now i;
    given_back = λ d. given_back p (refund_at moment d) (account-now i).lines;
  }

  abbrev plain : Lookups
  plain = lookups p r c u

  map-within : {B : Type 0} (f g : List ℕ → B) (names : List (List ℕ)) → ((name : List ℕ) → is_in name names ≡ true → f name ≡ g name) → map f names ≡ map g names
  map-within f g [] alike = refl
  map-within f g (x ∷ xs) alike = λ i. alike x (in-itself x xs) i ∷ map-within f g xs (λ name e. alike name (or_right (bytes_eq x name) (is_in name xs) e)) i

  contact-facts : (name : List ℕ) → is_in name (named_by c).contacts ≡ true → contact_facts mixed c name ≡ contact_facts plain c name
  contact-facts name named = λ i. record {
    name = name;
    seen = contact-seen name named i;
    linked = asked false reads_associations c && contact-linked p (Some r) (named_by c) u is name named i;
  }

  domain-facts : (name : List ℕ) → is_in name (named_by c).domains ≡ true → domain_facts mixed c name ≡ domain_facts plain c name
  domain-facts name named = ap (domain_facts_of plain c name) (domain-seen name named)

  host-facts : (name : List ℕ) → is_in name (named_by c).hosts ≡ true → ((above : List ℕ) → last_two_of name ≡ Some above → is_in above (named_by c).domains ≡ true) → host_facts mixed c name ≡ host_facts plain c name
  host-facts name named above = λ i. record {
    name = name;
    host = get u.hosts name;
    superordinate = by (last_two_of name) above i;
    linked = asked false reads_associations c && host-linked p (Some r) (named_by c) u is name named i;
  }
    where
      by : (o : Option (List ℕ)) → ((above : List ℕ) → o ≡ Some above → is_in above (named_by c).domains ≡ true) → option_and_then mixed.superordinate o ≡ option_and_then plain.superordinate o
      by None at = refl
      by (Some above) at = superordinate-seen above (at above refl)

-- ---- what a request acts on is named

pub contacts-acted : (q : Request) (name : List ℕ) → is_in name (contacts_asked q) ≡ true → is_in name (contacts_in (asks_of q)) ≡ true
contacts-acted q name e = in-first name _ (asks_of q).removes.tech (in-first name _ (asks_of q).removes.admin (in-first name _ (asks_of q).adds.tech (in-first name _ (asks_of q).adds.admin (in-first name (contacts_asked q) (listed (asks_of q).registrant) e))))

pub hosts-acted : (q : Request) (name : List ℕ) → is_in name (hosts_asked q) ≡ true → is_in name (hosts_in (asks_of q)) ≡ true
hosts-acted q name e = in-first name _ (asks_of q).removes.hosts (in-first name _ (asks_of q).adds.hosts (in-first name (hosts_asked q) (listed (new_host_asked q)) e))

new-host-acted : (q : Request) (name : List ℕ) → is_in name (listed (new_host_asked q)) ≡ true → is_in name (hosts_in (asks_of q)) ≡ true
new-host-acted q name e = in-first name _ (asks_of q).removes.hosts (in-first name _ (asks_of q).adds.hosts (in-second name (hosts_asked q) (listed (new_host_asked q)) e))

-- ---- the facts

module _ (p : PolicyRules) (r : ℕ) where
  facts-at-names : (c : Command) (u : Registry) (is : IsSettledIn p (concerned (Some r) (named_by c) u) u) → facts_by (mixed p r c u is) c ≡ facts_by (plain p r c u is) c
  facts-at-names (Bad cl_trid fault) u is = refl
  facts-at-names (Asked cl_trid q) u is =
      let c : Command = Asked cl_trid q in
      let host : (name : List ℕ) → is_in name (named_by c).hosts ≡ true → host_facts (mixed p r c u is) c name ≡ host_facts (plain p r c u is) c name =
      λ name e. host-facts p r c u is name e (λ above at. in-second above (domains_asked q) _ (in-filter_map last_two_of above name (named_by c).hosts e at)) in
      λ i. record (facts_by (plain p r c u is) c) {
        contacts = map-within p r c u is (contact_facts (mixed p r c u is) c) (contact_facts (plain p r c u is) c) (contacts_asked q) (λ name e. contact-facts p r c u is name (contacts-acted q name e)) i;
        domains = map-within p r c u is (domain_facts (mixed p r c u is) c) (domain_facts (plain p r c u is) c) (domains_asked q) (λ name e. domain-facts p r c u is name (in-first name (domains_asked q) _ e)) i;
        hosts = map-within p r c u is (host_facts (mixed p r c u is) c) (host_facts (plain p r c u is) c) (hosts_asked q) (λ name e. host name (hosts-acted q name e)) i;
        at_new_name = at-new (new_host_asked q) refl i;
      }
    where
      at-new : (o : Option (List ℕ)) → new_host_asked q ≡ o → option_map (host_facts (mixed p r (Asked cl_trid q) u is) (Asked cl_trid q)) o ≡ option_map (host_facts (plain p r (Asked cl_trid q) u is) (Asked cl_trid q)) o
      at-new None e = refl
      at-new (Some name) e =
          let c : Command = Asked cl_trid q in
          let named : is_in name (named_by c).hosts ≡ true = new-host-acted q name (ap (λ (o : Option (List ℕ)). is_in name (listed o)) e ∙ in-itself name []) in
          ap (λ (known : HostFacts). let o : Option HostFacts = Some known in o) (host-facts p r c u is name named (λ above at. in-second above (domains_asked q) _ (in-filter_map last_two_of above name (named_by c).hosts named at)))

  -- where nothing is due that a command concerns, it is judged by what it would be judged by now
  pub facts-now : (c : Command) (u : Registry) → IsSettledIn p (concerned (Some r) (named_by c) u) u → facts p r c (now p u) ≡ facts p r c u
  facts-now c u is = ap (λ (found : Lookups). facts_by found c) (all-but-names p r c u is) ∙ facts-at-names c u is
