-- A transaction in which what is due lapses.
use Rattle.std.proofs.Common.{◌≡◌, ℕ, true, max, min, length, take, map, List, [], ◌∷◌, ◌++◌, Option, Some, None, refl, sym, ap, ◌∙◌, arith}
use Rattle.std.proofs.lemmas.List.{length-take, Sums.fold-append}
use Rattle.registry.proofs.Words.{at, BookReads, BookState, BookStays, BookWrites, changed_all, Contact, Domain, Due, due_by, dues_lapsed, fold, get}
use Rattle.registry.proofs.Words.{HasMoved, IsSettlement, IsWithin, lapse_contact, lapse_domain, now, object_lapsed, ObjectKind, option_map}
use Rattle.registry.proofs.Words.{PolicyRules, posting_change, Registry, Stored, with_changes, with_contact_lapsed, with_domain_lapsed}
use Rattle.registry.proofs.{Words.with_dues_lapsed, LapsingLemmas.some-lapsed, StepLemmas.{only-read, within-on, written}}
use Rattle.accounts.specs.{declared.entries.Posting.Posting, Entries.posted}
use Rattle.model.specs.{declared.object.Object.Object, Objects.object_at}
use Rattle.model.specs.declared.object.Object.TheVariants as objects
use Rattle.objects.specs.declared.host.Host.{Host}
use Rattle.objects.specs.declared.roid.ObjectKind.TheVariants as kinds
use Rattle.registry.specs.inner.Posting.{HasLapsed, lapse_changes, lapse_postings}

-- ---- postings change accounts alone

abbrev with_postings : List Posting → Registry → Registry
with_postings xs s = record s { accounts = fold posted s.accounts xs }

module _ (p : PolicyRules) where
  made : (xs : List Posting) (s : Registry) → changed_all p (map posting_change xs) s ≡ with_postings xs s
  made [] s = refl
  made (x ∷ xs) s = made xs (changed_all p (posting_change x ∷ []) s)

  module _ (t : ℕ) (name : List ℕ) (xs : List Posting) (s : Registry) where
    -- what an object posts can be made behind what others did
    abbrev IsBehind : Option Object → Registry → Type 0
    IsBehind o then = with_postings (xs ++ lapse_postings p t o) (changed_all p (lapse_changes p t name o) s) ≡ then

    joined : (more : List Posting) (u : Registry) → record u { accounts = fold posted s.accounts (xs ++ more) } ≡ record u { accounts = fold posted (fold posted s.accounts xs) more }
    joined more u = ap (λ accounts. record u { accounts = accounts }) (fold-append posted s.accounts xs more)

    contact-behind : (o : Option Contact) → IsBehind (option_map objects.Contact o) (with_contact_lapsed t name o (with_postings xs s))
    contact-behind None = joined [] s
    contact-behind (Some c) = joined (lapse_contact t c).postings (changed_all p (lapse_changes p t name (Some (objects.Contact c))) s)

    domain-behind : (o : Option Domain) → IsBehind (option_map objects.Domain o) (with_domain_lapsed p t name o (with_postings xs s))
    domain-behind None = joined [] s
    domain-behind (Some d) = joined (lapse_domain p t d).postings (changed_all p (lapse_changes p t name (Some (objects.Domain d))) s)

    host-behind : (o : Option Host) → IsBehind (option_map objects.Host o) (with_postings xs s)
    host-behind None = joined [] s
    host-behind (Some h) = joined [] s

    behind : (kind : ObjectKind) → IsBehind (object_at s kind name) (object_lapsed p t kind name (with_postings xs s))
    behind kinds.Contact = contact-behind (get s.contacts name)
    behind kinds.Domain = domain-behind (get s.domains name)
    behind kinds.Host = host-behind (get s.hosts name)

-- ---- one object after another

-- some of what is due has lapsed, but for its postings, and what is left leads to where all of it does
pub record IsUnderWay (p : PolicyRules) (t : ℕ) (postings : List Posting) (left all : List Due) (old new : BookState) : Type 0 where
  pub within : IsWithin old new
  pub content : new.is_clean ≡ true → with_dues_lapsed p t left (with_changes p (map posting_change postings) new.content) ≡ with_dues_lapsed p t all old.content

pub lapsed-more : (p : PolicyRules) (t : ℕ) (postings more : List Posting) (due : Due) (left all : List Due) (old mid new : BookState) → IsUnderWay p t postings (due ∷ left) all old mid → HasLapsed p t due postings more mid new → IsUnderWay p t more left all old new
lapsed-more p t postings more due left all old mid new was it = record {
  within = within-on old mid new was.within it.within;
  content = λ clean.
      (λ i. with_dues_lapsed p t left (with_changes p (map posting_change (it.posted clean i)) (it.content clean i)))
      ∙ ap (λ (r : Registry). with_dues_lapsed p t left (record mid.content { registry = r }))
      (made p (postings ++ lapse_postings p t o) (changed_all p (lapse_changes p t due.name o) s) ∙ behind p t due.name postings s due.kind
      ∙ ap (object_lapsed p t due.kind due.name) (sym (made p postings s)))
      ∙ was.content (it.within.stays.clean clean);
}
  where
    s : Registry
    s = mid.content.registry

    o : Option Object
    o = object_at s due.kind due.name

-- ---- a settlement

-- to count so many at most of the first so many is to count so many at most of all
first-counted : (n : ℕ) (ds : List Due) → min n (length (take n ds)) ≡ min n (length ds)
first-counted n ds = omega (arith, length-take n ds)

-- the clock has moved, and the first of what is due have lapsed
pub settled : (p : PolicyRules) (moment at_most clock count : ℕ) (due : List Due) (old moved listed new : BookState)
    → IsWithin old moved × (moved.is_clean ≡ true
    → HasMoved moment old.content.registry moved.content.registry clock) → BookReads moved listed
    × (BookStays moved listed
    × (listed.is_clean ≡ true → due ≡ take at_most (due_by p clock moved.content.registry)))
    → count ≡ min at_most (length due)
    → BookWrites listed new (with_dues_lapsed p clock due listed.content) × BookStays listed new
    → IsWithin old new × (new.is_clean ≡ true
    → IsSettlement p moment at_most old.content.registry new.content.registry count)
settled p moment at_most clock count due old moved listed new first found counted second = (
  within-on old moved new first.0
      (within-on moved listed new (only-read moved listed first.0.opened found.0 found.1.0)
      (written listed new (with_dues_lapsed p clock due listed.content) refl second.0 second.1)),
  λ clean. by clean (first.1 (found.1.0.clean (second.1.clean clean))),
)
  where
    s : Registry
    s = old.content.registry

    u : ℕ
    u = max moment s.clock

    by : new.is_clean ≡ true → HasMoved moment s moved.content.registry clock
        → IsSettlement p moment at_most s new.content.registry count
    by clean is =
        let due-is : due ≡ take at_most (due_by p u s) = found.1.1 (second.1.clean clean)
        ∙ (λ i. take at_most (due_by p (is.answer_is i) (is.left i))) in
        let left : new.content.registry ≡ dues_lapsed p u (take at_most (due_by p u s)) (at u s) =
        ap (λ (held : Stored). held.registry) (second.0.content clean)
        ∙ (λ i. dues_lapsed p (is.answer_is i) (due-is i)
        (found.0.content (second.1.clean clean) i).registry)
        ∙ ap (dues_lapsed p u (take at_most (due_by p u s))) is.left in
        record {
          counted = counted ∙ ap (λ (ds : List Due). min at_most (length ds)) due-is
              ∙ first-counted at_most (due_by p u s);
          left = left;
          unnoticed = ap (now p) left ∙ some-lapsed p u (take at_most (due_by p u s)) s;
        }
