-- What it is to a book that a host's row gets another name.
use Rattle.std.proofs.Common.{◌≡◌, ℕ, pos, Bool, true, false, length, List, map, filter, Option, Some, None, option_map, refl, sym, ap, ◌∙◌}
use Rattle.std.proofs.lemmas.List.{length-map}
use Rattle.sqlbook.proofs.Words.{AccountRow, are_right, capped, Content, Domain, domain_read, DomainRow, domains_of, due_at, due_of, dues_are_right}
use Rattle.sqlbook.proofs.Words.{entries, held_of, helds_are_right, host_moved, int_eq, IsRowRenamed, list_all, nat_cmp, nat_list_cmp_total}
use Rattle.sqlbook.proofs.Words.{option_map_or, registrar_in, row_of, rules_with, same_map, Schedule, slice_cmp, stored_of, values}
use Rattle.sqlbook.proofs.{MeaningLemmas.objects-put, ObjectLemmas.dues-alike}
use Rattle.sqlbook.proofs.PlacedLemmas.{IsInPlaces, none-placed, one-placed, renamed-placed}
use Rattle.sqlite_keyed.proofs.ListLemmas.{filter-map, map-map}
use Rattle.basis.specs.Maps.{map_values}
use Rattle.basis.proofs.MapLemmas.{entries-map_values, get-map_values, names_apart}
use Rattle.objects.specs.{declared.{domain.Deletion.Deletion, host.Host.Host}, Sight.is_party}
use Rattle.decisions.specs.Changes.{renamed, with_host_renamed}
use Rattle.sqldomains.proofs.RenamedLemmas.{domains-after, reading-after}

-- ---- the row of one host made another's

module _ (from : List ℕ) (h : Host) (xs ys : Content) (it : IsRowRenamed from h xs ys) where
  abbrev after : Domain → Domain
  after d = with_host_renamed from h.name d

  reading : (row : DomainRow) → domain_read ys row ≡ option_map after (domain_read xs row)
  reading = reading-after from h xs ys it (renamed from h.name) (IsInPlaces h.name) (none-placed h.name) refl (λ n l before other. one-placed h.name n l before other) (λ n l before other. renamed-placed from h.name l before n other)

  domains : domains_of ys ≡ map_values (λ name. after) (domains_of xs)
  domains = same_map nat_list_cmp_total names_apart _ _ (λ q.
      domains-after from h xs ys it (renamed from h.name) (IsInPlaces h.name) (none-placed h.name) refl (λ n l before other. one-placed h.name n l before other) (λ n l before other. renamed-placed from h.name l before n other) q
      ∙ sym (get-map_values (slice_cmp nat_cmp) nat_list_cmp_total names_apart (λ name. after) (domains_of xs) q))

  -- as many domains are a registrar's
  abbrev holds : ℕ → Domain → Bool
  holds r d = is_party r d.sponsor d.transfer

  held : (r : ℕ) → held_of ys r ≡ held_of xs r
  held r =
      ap (λ m. length (filter (holds r) (values m))) domains
      ∙ ap (λ es. length (filter (holds r) (map (λ (e : List ℕ × Domain). e.1) es))) (entries-map_values (slice_cmp nat_cmp) (λ name. after) nat_list_cmp_total names_apart (domains_of xs))
      ∙ ap (λ ds. length (filter (holds r) ds)) (map-map (λ (e : List ℕ × Domain). e.1) (λ (e : List ℕ × Domain). (e.0, after e.1)) (entries (domains_of xs)))
      ∙ counted (λ e. after e.1) ∙ sym (counted (λ e. e.1))
    where
      counted : (f : List ℕ × Domain → Domain) → length (filter (holds r) (map f (entries (domains_of xs)))) ≡ length (filter (λ e. holds r (f e)) (entries (domains_of xs)))
      counted f = ap length (filter-map (holds r) f (entries (domains_of xs))) ∙ length-map (filter (λ e. holds r (f e)) (entries (domains_of xs))) f

  helds : helds_are_right ys ≡ helds_are_right xs
  helds = λ i. list_all (λ (row : AccountRow).
      option_map_or (λ (at : AccountRow). option_map_or (λ place. int_eq at.held (pos (held place i))) (registrar_in at.id) true) (row_of (record ys { accounts = it.accounts i }) row.id) true)
      (it.accounts i)

  -- and each is due when it was
  dues : dues_are_right ys ≡ dues_are_right xs
  dues = dues-alike xs ys it.metas it.days it.domains (λ days row. ap (λ o. option_map_or (λ d. int_eq row.due (pos (capped (due_at (rules_with days) d)))) o false) (reading row) ∙ go days row (domain_read xs row))
    where
      same : (days : Schedule) (d : Domain) (o : Option Deletion) → due_of (rules_with days) o (after d) ≡ due_of (rules_with days) o d
      same days d None = refl
      same days d (Some x) = refl

      go : (days : Schedule) (row : DomainRow) (o : Option Domain) → option_map_or (λ d. int_eq row.due (pos (capped (due_at (rules_with days) d)))) (option_map after o) false ≡ option_map_or (λ d. int_eq row.due (pos (capped (due_at (rules_with days) d)))) o false
      go days row None = refl
      go days row (Some d) = ap (λ n. int_eq row.due (pos (capped n))) (same days d d.deletion)

  pub row-renamed : (stored_of ys ≡ host_moved from h (stored_of xs)) × (are_right ys ≡ are_right xs)
  row-renamed = objects-put xs ys it.metas it.days _ _ _ it.contacts it.hosts domains it.accounts it.lines it.messages helds dues it.sponsors
