-- Sweeps of a registry: two are one, and those that agree on what is there are one.
use Rattle.std.proofs.Common.{◌≡◌, ℕ, List, [], ◌∷◌, ◌++◌, append-nil, Option, Some, None, refl, sym, ap, ◌∙◌}
use Rattle.std.specs.{Prelude.fold, Cmp.Lexicographic.{slice_cmp, nat_list_cmp_total}, FinMap.{FinMap, entries, get, same_map}}
use Rattle.std.specs.{Option.option_map_or, Ordering.nat_cmp}
use Rattle.accounts.specs.{declared.{account.Account.Account, entries.Posting.Posting}, Entries.posted}
use Rattle.accounts.proofs.EntryLaws.{postings_commute}
use Rattle.basis.specs.Sweeps.{given, given_list, kept}
use Rattle.basis.proofs.{ApartLaws.get-kept, EntryLaws.{given-alike, kept-alike}, MapLemmas.names_apart}
use Rattle.basis.proofs.SweepLaws.{fold_append, given_again, kept_again, two_kinds}
use Rattle.lifecycle.specs.{declared.lapsed.Lapsed.Lapsed, Lapse.{◌>>=◌, leaves, next}}
use Rattle.objects.specs.declared.{contact.Contact.Contact, domain.Domain.Domain, host.Host.Host}
use Rattle.model.specs.{Lapse.swept, Registry.Registry}

abbrev Accounts : Type 0
Accounts = FinMap nat_cmp Account

abbrev pub Named : Type 0 → Type 0
Named X = FinMap (slice_cmp nat_cmp) X

abbrev pub registry : Named Contact → Named Host → Named Domain → Accounts → ℕ → Registry
registry contacts hosts domains accounts clock = record { contacts = contacts; hosts = hosts; domains = domains; accounts = accounts; clock = clock }

-- what is left of an object, and what it posts
abbrev pub left : {X : Type 0} → (List ℕ → X → Lapsed X) → List ℕ → X → Option X
left f name x = (f name x).object

abbrev pub gives : {X : Type 0} → (List ℕ → X → Lapsed X) → List ℕ → X → List Posting
gives f name x = (f name x).postings

-- ---- one thing after another

next-left : {X : Type 0} (o : Option X) (es : List Posting) (g : X → Lapsed X) → (next o es g).object ≡ option_map_or (λ x. (g x).object) o None
next-left None es g = refl
next-left (Some x) es g = refl

next-gives : {X : Type 0} (o : Option X) (es : List Posting) (g : X → Lapsed X) → (next o es g).postings ≡ es ++ option_map_or (λ x. (g x).postings) o []
next-gives None es g = sym (append-nil es)
next-gives (Some x) es g = refl

module _ {X : Type 0} (f g h : List ℕ → X → Lapsed X) (then : (name : List ℕ) (x : X) → h name x ≡ (f name x >>= g name)) where
  left-then : (name : List ℕ) (x : X) → left h name x ≡ option_map_or (left g name) (left f name x) None
  left-then name x = ap (λ (l : Lapsed X). l.object) (then name x) ∙ next-left (f name x).object (f name x).postings (g name)

  gives-then : (name : List ℕ) (x : X) → gives h name x ≡ gives f name x ++ option_map_or (gives g name) (left f name x) []
  gives-then name x = ap (λ (l : Lapsed X). l.postings) (then name x) ∙ next-gives (f name x).object (f name x).postings (g name)

  left-again : (m : Named X) → kept (left g) (kept (left f) m) ≡ kept (left h) m
  left-again m = kept_again (left f) (left g) (left h) left-then posted postings_commute (gives f) (gives g) (gives h) gives-then (slice_cmp nat_cmp) nat_list_cmp_total names_apart m

  gives-again : (m : Named X) (a : Accounts) → fold posted (fold posted a (given (gives f) m)) (given (gives g) (kept (left f) m)) ≡ fold posted a (given (gives h) m)
  gives-again m a = given_again (left f) (left g) (left h) left-then posted postings_commute (gives f) (gives g) (gives h) gives-then (slice_cmp nat_cmp) nat_list_cmp_total names_apart m a

-- what contacts and domains post, and what they post then
all-again : (a : Accounts) (fc fd gc gd hc hd : List Posting)
    → ((b : Accounts) → fold posted (fold posted b fc) gc ≡ fold posted b hc) → ((b : Accounts) → fold posted (fold posted b fd) gd ≡ fold posted b hd)
    → fold posted (fold posted a (fc ++ fd)) (gc ++ gd) ≡ fold posted a (hc ++ hd)
all-again a fc fd gc gd hc hd contacts domains =
    ap (λ (b : Accounts). fold posted b (gc ++ gd)) (fold_append posted a fc fd)
    ∙ fold_append posted (fold posted (fold posted a fc) fd) gc gd
    ∙ two_kinds posted postings_commute fc fd gc gd hc hd contacts domains a
    ∙ sym (fold_append posted a hc hd)

-- ---- two sweeps are one

pub swept-again : (f g h : List ℕ → Contact → Lapsed Contact) (k l m : List ℕ → Domain → Lapsed Domain)
    → ((name : List ℕ) (c : Contact) → h name c ≡ (f name c >>= g name)) → ((name : List ℕ) (d : Domain) → m name d ≡ (k name d >>= l name))
    → (s : Registry) → swept g l (swept f k s) ≡ swept h m s
swept-again f g h k l m contact domain s = λ i. registry
    (left-again f g h contact s.contacts i)
    s.hosts
    (left-again k l m domain s.domains i)
    (all-again s.accounts (given (gives f) s.contacts) (given (gives k) s.domains)
    (given (gives g) (kept (left f) s.contacts)) (given (gives l) (kept (left k) s.domains))
    (given (gives h) s.contacts) (given (gives m) s.domains)
    (gives-again f g h contact s.contacts) (gives-again k l m domain s.domains) i)
    s.clock

-- ---- sweeps that agree on what is there are one

module _ {X : Type 0} (f g : List ℕ → X → Lapsed X) (m : Named X) (alike : (name : List ℕ) (x : X) → get m name ≡ Some x → f name x ≡ g name x) where
  left-alike : kept (left f) m ≡ kept (left g) m
  left-alike = kept-alike (slice_cmp nat_cmp) nat_list_cmp_total names_apart m (left f) (left g) (λ name x at. ap (λ (l : Lapsed X). l.object) (alike name x at))

  gives-alike : given (gives f) m ≡ given (gives g) m
  gives-alike = given-alike (slice_cmp nat_cmp) nat_list_cmp_total names_apart m (gives f) (gives g) (λ name x at. ap (λ (l : Lapsed X). l.postings) (alike name x at))

pub swept-alike : (f g : List ℕ → Contact → Lapsed Contact) (k l : List ℕ → Domain → Lapsed Domain) (s : Registry)
    → ((name : List ℕ) (c : Contact) → get s.contacts name ≡ Some c → f name c ≡ g name c) → ((name : List ℕ) (d : Domain) → get s.domains name ≡ Some d → k name d ≡ l name d)
    → swept f k s ≡ swept g l s
swept-alike f g k l s contact domain = λ i. registry
    (left-alike f g s.contacts contact i)
    s.hosts
    (left-alike k l s.domains domain i)
    (fold posted s.accounts (gives-alike f g s.contacts contact i ++ gives-alike k l s.domains domain i))
    s.clock

-- ---- a sweep that leaves all as it is

abbrev pub still : {X : Type 0} → List ℕ → X → Lapsed X
still name x = leaves x []

untouched : {X : Type 0} (x : Option X) → option_map_or (λ y. Some y) x None ≡ x
untouched None = refl
untouched (Some y) = refl

pub kept-still : {X : Type 0} (m : Named X) → kept (left still) m ≡ m
kept-still m = same_map nat_list_cmp_total names_apart (kept (left still) m) m (λ q. get-kept (slice_cmp nat_cmp) nat_list_cmp_total names_apart (left still) m q ∙ untouched (get m q))

silent : {X : Type 0} (es : List (List ℕ × X)) → given_list (gives still) es ≡ []
silent [] = refl
silent (e ∷ es) = silent es

pub given-still : {X : Type 0} (m : Named X) → given (gives still) m ≡ []
given-still m = silent (entries m)

pub swept-still : (s : Registry) → swept still still s ≡ s
swept-still s = λ i. registry (kept-still s.contacts i) s.hosts (kept-still s.domains i) (fold posted s.accounts (given-still s.contacts i ++ given-still s.domains i)) s.clock
