-- Each command, each order and each change, and time alone, keep the shapes of objects, where what is put has one.
use Rattle.std.proofs.Common.{◌≡◌, ℕ, ◌-◌, ◌<◌, ◌≤◌, max, nat_lt, true, false, List, Option, Some, None, IsSome, is_some, refl, sym, subst, ◌∙◌, arith}
use Rattle.std.proofs.Common.{inl, inr, zero, suc, ◌+◌, ◌/◌, min}
use Rattle.std.specs.Option.{IfSome}
use Rattle.decisions.proofs.Words.{AreSetsWithin, Asked, Bad, CanBeAsked, cases_lt, Change, changed_all, changes_after, Status}
use Rattle.decisions.proofs.Words.{ClientApproved, Command, cond_both, decision, deleted_domain, Domain, domain_with_transfer, domains_at, DomainUpdate}
use Rattle.decisions.proofs.Words.{effect, ended, expiry, Facts, false_from_ne_true, final_name, gained, get, handed_over, has_name}
use Rattle.decisions.proofs.Words.{has_twice, HasObjects, Host, HostUpdate, IsAskable, IsRegistry, itself, keeps_host, lapse}
use Rattle.decisions.proofs.Words.{lapse_registry, last_clock, left-of, more_years, moved, name_of, nat_tests, new_domain, NewDomain}
use Rattle.decisions.proofs.Words.{NewHost, or_else, or_parts, Order, order_decision, order_effect, plus_years, PolicyRules}
use Rattle.decisions.proofs.Words.{raised, Registry, renewed_domain, requested, RequestedName, restored_domain, restoring_domain, Transfer}
use Rattle.decisions.proofs.Words.{Contact, turns, turns-are, updated_domain, with_account, with_command, with_host_renamed, years_later, ZoneRules}
use Rattle.decisions.proofs.CommandCases.{AreListsFit, CommandCases, IsHostUpdateOf, IsUpdateOf, host_with, request-cases}
use Rattle.decisions.proofs.Lemmas.{all-put, AllFit, Puts, domain-lapsed, due-is, known, order-cases, OrderCases, transferred_by}
use Rattle.decisions.proofs.LinkLemmas.{or-first, or-second}
use Rattle.decisions.proofs.OrderedSetLemmas.{set-amended, set-in_order, set-texts, within-amended, within-items}
use Rattle.model.specs.Shapes.{HasShapes, IsDomainName, IsHostName, IsSetWithin, IsShaped, IsShapedHost, end_of_expiries}
use Rattle.names.specs.Canonical.{IsCanonical}
use Rattle.objects.specs.Links.{in_order}
use Rattle.protocol.specs.declared.command.Request.TheVariants as requests
use Rattle.protocol.specs.declared.lists.TheConstants.{MOST_ADDRESSES, MOST_HOSTS}
use Rattle.decisions.proofs.{OrderedSetLemmas.within-texts, OrderedSetLemmas.set-renamed, OrderedSetLemmas.within-renamed, SettledLemmas.years-ahead}
use Rattle.calendar.specs.Calendar.{Date, date_of, day_number, days_of_years}
use Rattle.calendar.proofs.CalendarLemmas.{IsReal, IsReal-date_of}
use Rattle.calendar.proofs.YearLaws.{IsReal-years_later, day_number-year, days_of_years-mono, plus_years-zero}

-- ---- how far years go: what is registered, renewed, restored or handed over by the end of clocks expires before 2120

days_to_2100 : days_of_years 130 ≡ 47_482
unfolding days_of_years
days_to_2100 = refl

days_to_2110 : days_of_years 140 ≡ 51_134
unfolding days_of_years
days_to_2110 = refl

-- a year by whose beginning no clock has ended
before_2100 : (n k : ℕ) → days_of_years k ≤ n → n ≤ 47_481 → k < 130
before_2100 n k low high = elim (cases_lt k 130) [
  | inl lt ↦ lt
  | inr ge ↦
      let apart : (k - 130) + 130 ≡ k = omega arith in
      absurd (omega (arith, low, high, days_to_2100, rw apart at (days_of_years-mono 130 (k - 130))))
]

by_2110 : (k : ℕ) → k ≤ 140 → days_of_years k ≤ 51_134
by_2110 k le =
    let apart : (140 - k) + k ≡ 140 = omega arith in
    omega (arith, days_to_2110, rw apart at (days_of_years-mono k (140 - k)))

-- ten years more than by the end of clocks
pub years-end : (m n k : ℕ) → plus_years m n ≤ last_clock → k ≤ 10 → plus_years m (n + k) < end_of_expiries
unfolding plus_years
years-end m n k early few =
    let d : Date = date_of (m / 86_400) in
    let real : IsReal d = IsReal-date_of (m / 86_400) in
    let year = day_number-year (years_later d n) (IsReal-years_later d n real) in
    let first : d.year + n - 1970 < 130 = before_2100 (day_number (years_later d n)) (d.year + n - 1970) year.0 (omega (arith, early)) in
    let later = day_number-year (years_later d (n + k)) (IsReal-years_later d (n + k) real) in
    omega (arith, later.1, by_2110 (d.year + (n + k) - 1970 + 1) (omega (arith, first, few, real.year)))

-- ten years after a clock
pub ten-end : (t k : ℕ) → t ≤ last_clock → k ≤ 10 → plus_years t k < end_of_expiries
ten-end t k early few =
    let same : 0 + k ≡ k = omega arith in
    subst (λ (n : ℕ). plus_years t n < end_of_expiries) same (years-end t 0 k (omega (arith, early, plus_years-zero t)) few)

-- ---- the years of a domain

abbrev pub EndsInTime : ℕ → ℕ → Type 0
EndsInTime created years = plus_years created years < end_of_expiries

pub fewer-end : (created n k : ℕ) → n ≤ k → EndsInTime created k → EndsInTime created n
fewer-end created n k le h = omega (arith, years-ahead created n k le, h)

-- the years of a turn, and of a restoration
pub turns-end : (d : Domain) (t : ℕ) → t ≤ last_clock → EndsInTime d.created d.years → EndsInTime d.created (d.years + turns d t)
turns-end d t early h = by (turns d t) refl
  where
    by : (k : ℕ) → turns d t ≡ k → EndsInTime d.created (d.years + k)
    by zero e = let none : d.years + 0 ≡ d.years = omega arith in subst (EndsInTime d.created) (sym none) h
    by (suc j) e =
        let last : plus_years d.created (d.years + j) ≤ t = (turns-are d t).before j (omega (arith, e)) in
        let more : d.years + j + 1 ≡ d.years + suc j = omega arith in
        subst (EndsInTime d.created) more (years-end d.created (d.years + j) 1 (omega (arith, last, early)) (omega arith))

-- the year of a transfer
pub gained-end : (d : Domain) (u : ℕ) → u ≤ last_clock → EndsInTime d.created d.years → EndsInTime d.created (d.years + gained d u)
gained-end d u early h =
    cond_both (nat_lt (plus_years u 10) (plus_years d.created (d.years + 1))) 0 1
    (λ n. EndsInTime d.created (d.years + n))
    (λ e. let none : d.years + 0 ≡ d.years = omega arith in subst (EndsInTime d.created) (sym none) h) (λ e.
    let within : plus_years d.created (d.years + 1) ≤ plus_years u 10 = grind (arith, nat_tests, e) in
    omega (arith, within, ten-end u 10 early (omega arith)))

-- the years of a renewal, where it doesn't pass ten
pub renewed-end : (t created years more : ℕ) → t ≤ last_clock → nat_lt (plus_years t 10) (plus_years created (years + more)) ≡ false → EndsInTime created years → EndsInTime created (more_years years more)
renewed-end t created years more early fits h =
    let within : plus_years created (years + more) ≤ plus_years t 10 = grind (arith, nat_tests, fits) in
    let ends : EndsInTime created (years + more) = omega (arith, within, ten-end t 10 early (omega arith)) in
    fewer-end created (max years (min (years + more) 0xFFFF_FFFF)) (years + more) (omega arith) ends

-- ---- one change

-- a domain of the same name and links, which expires in time
pub same-shape : (zone : ZoneRules) (d e : Domain) → e.name ≡ d.name → e.links ≡ d.links → expiry e < end_of_expiries → IsShaped zone d → IsShaped zone e
same-shape zone d e name links expires h = record { name = subst (IsDomainName zone) (sym name) h.name; links = subst AreSetsWithin (sym links) h.links; expires = expires }

shape-renamed : (zone : ZoneRules) (old new : List ℕ) (d : Domain) → has_name d.links.hosts new ≡ false → IsShaped zone d → IsShaped zone (with_host_renamed old new d)
shape-renamed zone old new d absent h =
    search (set-renamed old new d.links.hosts absent h.links.hosts.0, within-renamed old new d.links.hosts MOST_HOSTS h.links.hosts.1)

-- what is put has its shape
abbrev pub AllFitShapes : PolicyRules → List Change → Registry → Type 0
AllFitShapes p changes s = AllFit p (Puts p (λ (c : Contact). Unit {0}) (IsShapedHost p.zone) (IsShaped p.zone)) changes s

pub shapes-changed_all : (p : PolicyRules) (changes : List Change) (s : Registry) → AllFitShapes p changes s → HasShapes p.zone s → HasShapes p.zone (changed_all p changes s)
shapes-changed_all p changes s fit is =
    let after = all-put p (λ (c : Contact). Unit {0}) (IsShapedHost p.zone) (IsShaped p.zone) changes s fit (record { contacts = λ n c at. tt; hosts = is.hosts; domains = is.domains }) in
    record { domains = after.domains; hosts = after.hosts }

-- ---- time

shape-raised : (zone : ZoneRules) (d : Domain) (t : ℕ) → t ≤ last_clock → IsShaped zone d → IsShaped zone (raised (turns d t) d)
shape-raised zone d t early h = same-shape zone d (raised (turns d t) d) refl refl (turns-end d t early h.expires) h

shape-moved : (zone : ZoneRules) (x : Transfer) (d : Domain) → x.ac_date ≤ last_clock → IsShaped zone d → IsShaped zone (moved x d)
shape-moved zone x d early h = same-shape zone d (moved x d) refl refl (gained-end d x.ac_date early h.expires) h

module _ (p : PolicyRules) (t : ℕ) (early : t ≤ last_clock) (d : Domain) (h : IsShaped p.zone d) where
  -- what is left of a domain
  shape-left : (e : Domain) → (lapse p t d).object ≡ Some e → IsShaped p.zone e
  shape-left = domain-lapsed p t d (IsShaped p.zone) (λ x gone. h) (λ alive. shape-raised p.zone d t early h) (λ alive x due.
      let come : x.ac_date ≤ t = (due-is t d.transfer x due).1 in
      let then_early : x.ac_date ≤ last_clock = omega (arith, come, early) in
      shape-raised p.zone (transferred_by x d) t early (shape-moved p.zone x (raised (turns d x.ac_date) d) then_early (shape-raised p.zone d x.ac_date then_early h)))

pub shapes-lapse : (p : PolicyRules) (t : ℕ) (s : Registry) → t ≤ last_clock → HasShapes p.zone s → HasShapes p.zone (lapse_registry p t s)
unfolding domains_at
shapes-lapse p t s early is = record {
  domains = λ name e found. let was = left-of (λ name. lapse p t) s.domains name e found in shape-left p t early was.0 (is.domains name was.0 was.1) e was.2;
  hosts = is.hosts;
}

-- ---- new objects

-- the lists of a new domain name nothing twice, and no more than may be
shape-new : (zone : ZoneRules) (r t : ℕ) (f : Facts) (new : NewDomain) → t ≤ last_clock → new.years ≤ 10 → IsDomainName zone (name_of new.name) → AreListsFit (requests.CreateDomain new) → IsShaped zone (new_domain r t f new)
shape-new zone r t f new early few named fit =
    let expires : EndsInTime t (max 1 new.years) = ten-end t (max 1 new.years) early (omega (arith, few)) in
    search (or-first, or-second, set-in_order, set-texts, within-items, within-texts)

addresses-new : (new : NewHost) → AreListsFit (requests.CreateHost new) → IsSetWithin MOST_ADDRESSES (in_order new.addresses)
addresses-new new fit = (set-in_order new.addresses (or_parts (has_twice itself new.addresses) false fit.once).0, within-items MOST_ADDRESSES new.addresses fit.short)

-- ---- objects after an update

-- the lists of an update name nothing twice, add what isn't there, and leave no more than may be
shape-updated : (zone : ZoneRules) (t : ℕ) (s : Registry) (u : DomainUpdate) (d : Domain) → IsUpdateOf s u d → IsShaped zone d → IsShaped zone (updated_domain t u d)
shape-updated zone t s u d it h =
    search (or-first, or-second, set-amended, within-amended)

-- the name that a host has after an update
named-after : (zone : ZoneRules) (u : HostUpdate) (given : Option RequestedName) → IfSome (or_else given (Some u.name)) IsCanonical → keeps_host zone (final_name u given) ≡ true → IsHostName zone (final_name u given)
named-after zone u None canonical kept = record { canonical = canonical; kept = kept }
named-after zone u (Some name) canonical kept = record { canonical = canonical; kept = kept }

shape-host : (p : PolicyRules) (r : ℕ) (s : Registry) (u : HostUpdate) (given : Option RequestedName) (h : Host) → IsAskable (requests.UpdateHost u) → IsHostUpdateOf p s u given h → IsShapedHost p.zone h
    → IsShapedHost p.zone (host_with p r s.clock u given h)
shape-host p r s u given h askable it is =
    let name = named-after p.zone u given (subst (λ (o : Option RequestedName). IfSome (or_else o (Some u.name)) IsCanonical) it.is askable.host) it.kept in
    search (or-first, it.few, set-amended, within-amended)

-- a name at which no host is, no domain names
unnamed : (p : PolicyRules) (s : Registry) → HasObjects p s → (name : List ℕ) → is_some (get s.hosts name) ≡ false → (n : List ℕ) (d : Domain) → get s.domains n ≡ Some d → has_name d.links.hosts name ≡ false
unnamed p s is name free n d at = false_from_ne_true (has_name d.links.hosts name) (λ e.
    let there : IsSome (get s.hosts name) = (is.domains n d at).is_at.hosts name e in
    let never : true ≡ false = sym there ∙ free in cc)

-- ---- commands

-- a domain that stands in for another has its name and links, and expires in time
again : (p : PolicyRules) (s : Registry) → HasShapes p.zone s → (name : List ℕ) (d e : Domain) → get s.domains name ≡ Some d → e.name ≡ d.name → e.links ≡ d.links
    → (expiry d < end_of_expiries → expiry e < end_of_expiries) → IsShaped p.zone e
again p s has name d e at called links expires = let h = has.domains name d at in same-shape p.zone d e called links (expires h.expires) h

commands-fit : (p : PolicyRules) (r : ℕ) (cl_trid : Option (List ℕ)) (s : Registry) → HasObjects p s → HasShapes p.zone s → s.clock ≤ last_clock
    → CommandCases p r cl_trid s (λ q changes. IsAskable q → AllFitShapes p changes (with_account r with_command s))
commands-fit p r cl_trid s is has early = record {
  contacts = search;
  hosts = record {
    created = λ new kept fit based askable. (record { name = record { canonical = askable.host; kept = kept }; addresses = addresses-new new fit }, (tt, tt));
    dropped = λ name free askable. (tt, tt);
    updated = λ u h it askable. (shape-host p r s u None h askable it (has.hosts (name_of u.name) h it.at), tt);
    renamed = λ u name h it free based askable. (
      (
        shape-host p r s u (Some name) h askable it (has.hosts (name_of u.name) h it.at),
        λ n d at. shape-renamed p.zone (name_of u.name) (name_of name) d (unnamed p s is (name_of name) free n d at),
      ),
      tt,
    );
  };
  none = λ q askable. tt;
  acknowledged = λ id askable. (tt, tt);
  domain_created = λ new kept fit linked paid askable. (shape-new p.zone r s.clock (known p r cl_trid s (requests.CreateDomain new)) new early askable.years (record { canonical = askable.domain; kept = kept }) fit, (tt, (tt, tt)));
  domain_dropped = λ name d it askable. (tt, (tt, tt));
  domain_deleted = λ name d years it askable. (again p s has (name_of name) d (deleted_domain s.clock years d) it.at refl refl (fewer-end d.created (d.years - years) d.years (omega arith)), (tt, tt));
  domain_updated = λ u d it linked askable. (shape-updated p.zone s.clock s u d it (has.domains (name_of u.name) d it.at), tt);
  renewed = λ name expires years d it fits askable. (again p s has (name_of name) d (renewed_domain s.clock years d) it.at refl refl (renewed-end s.clock d.created d.years years early fits), (tt, tt));
  restoring = λ name d at askable. (again p s has (name_of name) d (restoring_domain s.clock d) at refl refl (λ h. h), tt);
  restored = λ name del_time res_time d it askable. (again p s has (name_of name) d (restored_domain s.clock d) it.at refl refl (turns-end d s.clock early), (tt, tt));
  domain_asked = λ q n d at free paid askable. (again p s has n d (domain_with_transfer (requested p r d.sponsor s.clock) d) at refl refl (λ h. h), (tt, (tt, tt)));
  domain_approved = λ q n d at y last pending own askable. (tt, (again p s has n d (handed_over (ended ClientApproved s.clock y) (gained d s.clock) d) at refl refl (gained-end d s.clock early), (tt, tt)));
  domain_turned_down = λ q n d at y last pending state to notice over down side askable. (again p s has n d (domain_with_transfer (ended state s.clock y) d) at refl refl (λ h. h), (tt, (tt, tt)));
}

-- A registrar's command keeps the shapes of objects.
pub shapes-effect : (p : PolicyRules) (r : ℕ) (c : Command) (s : Registry) → IsRegistry p s → CanBeAsked c → HasShapes p.zone (effect p r c s)
unfolding changes_after
shapes-effect p r (Bad cl_trid fault) s is askable = shapes-changed_all p (decision p r (Bad cl_trid fault) s).changes s (tt, tt) is.shapes
shapes-effect p r (Asked cl_trid q) s is askable =
    shapes-changed_all p (decision p r (Asked cl_trid q) s).changes s (tt, request-cases p r cl_trid s _ (commands-fit p r cl_trid s is.objects is.shapes is.clock) q askable) is.shapes

-- ---- orders

orders-fit : (p : PolicyRules) (s : Registry) → HasShapes p.zone s → OrderCases p s (λ changes. AllFitShapes p changes s)
orders-fit p s has =
    let host : (h : Host) (statuses : List Status) → IsShapedHost p.zone h → IsShapedHost p.zone (record h { statuses = statuses }) = λ h statuses k. record { name = k.name; addresses = k.addresses } in
    search (again p s has, has.hosts, host)

-- An order of the operator keeps them.
pub shapes-order : (p : PolicyRules) (order : Order) (s : Registry) → HasShapes p.zone s → HasShapes p.zone (order_effect p order s)
shapes-order p order s has = shapes-changed_all p (order_decision p order s).changes s (order-cases p s _ (orders-fit p s has) order) has
