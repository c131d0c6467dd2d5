-- What a zone has of the domains, gathered row by row, is what it has of each.
use Rattle.std.proofs.Common.{◌≡◌, ℕ, true, List, map, Option, Some, None, option_map, refl, sym, ap, subst, ◌∙◌}
use Rattle.sqldomains.proofs.Words.{bytes_same, Content, delegated, delegation_read, delegations_of_rows, Domain, domain_read, DomainRow, domains_of}
use Rattle.sqldomains.proofs.Words.{entries, entries-map_values, get, get-map_values, Has, IsAllOfRows, IsConsistent, map-map, Named, names_apart}
use Rattle.sqldomains.proofs.Words.{nat_cmp, nat_list_cmp_total, same_map, same_some, slice_cmp, values}
use Rattle.sqldomains.proofs.NameOrderLemmas.{by-rows, gives, name-read, row-under, stands-there}
use Rattle.basis.specs.Maps.{map_values}
use Rattle.objects.specs.{declared.zone.Delegation.Delegation, Delegations.delegation_of}

module _ (xs : Content) (consistent : IsConsistent xs) where
  abbrev of : List ℕ → Option Delegation
  of n = option_map delegation_of (get (domains_of xs) n)

  sound : (row : DomainRow) → Has xs.domains row → (e : List ℕ × Delegation) → delegation_read xs row ≡ Some e → of e.0 ≡ Some e.1
  sound row there e reads = go (domain_read xs row) refl reads
    where
      go : (o : Option Domain) → domain_read xs row ≡ o → option_map delegated o ≡ Some e → of e.0 ≡ Some e.1
      go None is f = cc
      go (Some d) is f =
          subst (λ (p : List ℕ × Delegation). of p.0 ≡ Some p.1) (same_some (delegated d) e f)
          (ap (option_map delegation_of) (ap (get (domains_of xs)) (name-read xs row d is) ∙ stands-there xs row d consistent there is))

  complete : (n : List ℕ) (v : Delegation) → of n ≡ Some v → (row : DomainRow) × Has xs.domains row × (gives n (delegation_read xs row) ≡ true)
  complete n v e = go (get (domains_of xs) n) refl e
    where
      go : (o : Option Domain) → get (domains_of xs) n ≡ o → option_map delegation_of o ≡ Some v → (row : DomainRow) × Has xs.domains row × (gives n (delegation_read xs row) ≡ true)
      go None is f = cc
      go (Some d) is f =
          let it = row-under xs n d is in
          (it.0, it.1, ap (λ o. gives n (option_map delegated o)) it.2 ∙ bytes_same n d.name (sym (name-read xs it.0 d it.2 ∙ it.3)))

  -- what is gathered, in the order of the names, is what a zone has of each
  pub all-listed : (all : Named Delegation) → IsAllOfRows xs all → values all ≡ delegations_of_rows xs
  all-listed all e =
      ap values (same_map nat_list_cmp_total names_apart all (map_values (λ name. delegation_of) (domains_of xs)) (λ n.
      by-rows (delegation_read xs) of xs.domains all sound complete e n ∙ sym (get-map_values (slice_cmp nat_cmp) nat_list_cmp_total names_apart (λ name. delegation_of) (domains_of xs) n)))
      ∙ ap (map (λ (x : List ℕ × Delegation). x.1)) (entries-map_values (slice_cmp nat_cmp) (λ name. delegation_of) nat_list_cmp_total names_apart (domains_of xs))
      ∙ map-map (λ (x : List ℕ × Delegation). x.1) (λ (x : List ℕ × Domain). (x.0, delegation_of x.1)) (entries (domains_of xs))
      ∙ sym (map-map delegation_of (λ (x : List ℕ × Domain). x.1) (entries (domains_of xs)))
