-- What is looked up is the same whether all that is due has lapsed, or only what lapses before.
use Rattle.std.proofs.Common.{◌≡◌, ℕ, List, [], ◌∷◌, Option, Some, None, option_and_then, option_map, refl, ap, ◌∙◌}
use Rattle.std.specs.FinMap.{get}
use Rattle.accounts.specs.declared.account.Account.{Account}
use Rattle.facts.specs.Facts.{superordinate_of_domain}
use Rattle.lifecycle.specs.Phases.{phase}
use Rattle.model.specs.Lapse.{now}
use Rattle.model.specs.Registry.{Registry, account_of}
use Rattle.names.specs.Zone.{last_two_of}
use Rattle.objects.specs.declared.contact.Contact.{Contact}
use Rattle.objects.specs.declared.domain.Domain.{Domain}
use Rattle.objects.specs.declared.domain.DomainFace.{DomainFace}
use Rattle.objects.specs.declared.grace.Graces.{Graces}
use Rattle.objects.specs.declared.host.Host.{Host}
use Rattle.objects.specs.declared.roid.ObjectKind.TheVariants as kinds
use Rattle.objects.specs.Contacts.{contact_face_of}
use Rattle.objects.specs.Domains.{face_of}
use Rattle.policy.specs.Rules.{PolicyRules}
use Rattle.concerns.specs.Concerns.{IsSettledIn, concerned}
use Rattle.concerns.specs.Names.{named_by, named_of}
use Rattle.concerns.proofs.ConcernLemmas.{in-filter_map, in-itself}
use Rattle.concerns.proofs.FactsLemmas.{account-now, contact-at, contact-linked, domain-at, graces-now, host-linked}
use Rattle.registry.specs.Faces.{balance_command}
use Rattle.books.specs.Faces.{contact_face_at, domain_face, domain_face_at, host_face_at}
use Rattle.rules.specs.ResponseData.{host_info, with_shown_link}

module _ (p : PolicyRules) (name : List ℕ) (u : Registry) where
  pub domain-face-now : IsSettledIn p (concerned None (named_of kinds.Domain name) u) u → domain_face_at p (now p u) name ≡ domain_face_at p u name
  domain-face-now is = ap (option_map (domain_face p (now p u))) (domain-at p None (named_of kinds.Domain name) u is name (in-itself name [])) ∙ by (get u.domains name) refl
    where
      by : (o : Option Domain) → get u.domains name ≡ o → option_map (domain_face p (now p u)) o ≡ option_map (domain_face p u) o
      by None at = refl
      by (Some d) at = ap (λ (g : Graces). let face : DomainFace = face_of (record { graces = g; phase = phase p u.clock d }) d in let o : Option DomainFace = Some face in o) (graces-now p None (named_of kinds.Domain name) u is name d (in-itself name []) at)

  pub contact-face-now : IsSettledIn p (concerned None (named_of kinds.Contact name) u) u → contact_face_at (now p u) name ≡ contact_face_at u name
  contact-face-now is = λ i. option_map (λ (x : Contact). with_shown_link (contact-linked p None (named_of kinds.Contact name) u is name (in-itself name []) i) (contact_face_of x)) (contact-at p None (named_of kinds.Contact name) u is name (in-itself name []) i)

  pub host-face-now : IsSettledIn p (concerned None (named_of kinds.Host name) u) u → host_face_at p (now p u) name ≡ host_face_at p u name
  host-face-now is = λ i. option_map (λ (h : Host). (host_info p (record { name = name; host = get u.hosts name; superordinate = above (last_two_of name) refl i; linked = host-linked p None (named_of kinds.Host name) u is name (in-itself name []) i }) h).face) (get u.hosts name)
    where
      above : (o : Option (List ℕ)) → last_two_of name ≡ o → option_and_then (λ n. option_map superordinate_of_domain (get (now p u).domains n)) o ≡ option_and_then (λ n. option_map superordinate_of_domain (get u.domains n)) o
      above None e = refl
      above (Some n) e = ap (option_map superordinate_of_domain) (domain-at p None (named_of kinds.Host name) u is n (in-filter_map last_two_of n name (name ∷ []) (in-itself name []) e))

pub lines-now : (p : PolicyRules) (r : ℕ) (u : Registry)
    → IsSettledIn p (concerned (Some r) (named_by balance_command) u) u
    → (account_of r (now p u)).lines ≡ (account_of r u).lines
lines-now p r u is = ap (λ (a : Account). a.lines) (account-now p r balance_command u is)
