-- Columns of deleted domains, and what no length bears on.
use Rattle.std.proofs.Common.{◌≡◌, ◌||◌, ◌==◌, ℕ, ℤ, pos, negsuc, Bool, true, false, cond, int_eq, is_some, List, filter, Option, Some, None, refl, sym, ap, ◌∙◌, true≢false, arith}
use Rattle.sqlderived.proofs.Words.{completes_at, Content, days_of_rows, domain_read, DomainRow, due_at, due_of, dues_are_right, earlier, ints}
use Rattle.sqlderived.proofs.Words.{is_due_right, is_end, is_timed, last_transfer, links_of, list_all, moment_in_column, nat_tests, option_map_or}
use Rattle.sqlderived.proofs.Words.{rules_with, step, transfer_with_domain}
use Rattle.calendar.specs.Moment.{capped, is_moment}
use Rattle.sqlcolumns.specs.Domains.{deletion_in}
use Rattle.sqlcolumns.proofs.DomainLemmas.{deletion_reads}
use Rattle.lifecycle.specs.Phases.{purge_at}
use Rattle.objects.specs.{Domains.expiry, declared.domain.Deletion.Deletion}
use Rattle.objects.specs.declared.domain.Domain as object
use Rattle.policy.specs.declared.schedule.Schedule.{Schedule}
use Rattle.sqlobjects.proofs.VerdictLemmas.{all-alike, all-pass, each-passes}
use Rattle.sqlderived.specs.Redates.{ends_are, is_live_right, lives_are_right, of_deletion}

-- a domain that reads is deleted as its row says
deletion-read : (xs : Content) (row : DomainRow) (d : object.Domain) → domain_read xs row ≡ Some d
    → deletion_in row.deleted row.restore_requested ≡ Some d.deletion
deletion-read xs row d e =
    let links = step (links_of xs row) _ d e in
    let transfer = step (last_transfer (filter (transfer_with_domain row.id) xs.transfers)) _ d links.rest in
    deletion_reads row links.given transfer.given d transfer.rest

-- ---- columns that are the ends of deletions

module _ (days : Schedule) (xs : Content) where
  abbrev ends : DomainRow → Deletion → Bool
  ends row x = int_eq row.due (pos (capped (purge_at (rules_with days) x)))

  -- when a domain is due that isn't deleted hangs on no length
  one-due : (row : DomainRow) (d : object.Domain) → is_end days row ≡ true → (c : Option Deletion) → deletion_in row.deleted row.restore_requested ≡ Some c
      → int_eq row.due (pos (capped (due_of (rules_with days) c d))) ≡ (is_some c || int_eq row.due (pos (capped (earlier (expiry d) (completes_at d.transfer)))))
  one-due row d is None reads = refl
  one-due row d is (Some x) reads = sym (ap (of_deletion (ends row)) reads) ∙ is

  one-live : (row : DomainRow) → is_end days row ≡ true → is_due_right days xs row ≡ is_live_right xs row
  one-live row is = go (domain_read xs row) refl
    where
      go : (o : Option object.Domain) → domain_read xs row ≡ o
          → option_map_or (λ d. int_eq row.due (pos (capped (due_at (rules_with days) d)))) o false
          ≡ option_map_or (λ (d : object.Domain). is_some d.deletion || int_eq row.due (pos (capped (earlier (expiry d) (completes_at d.transfer))))) o false
      go None reads = refl
      go (Some d) reads = one-due row d is d.deletion (deletion-read xs row d reads)

  -- where each deleted domain's column is the end of its deletion, columns are right if those of the others are
  pub dues-live : ends_are days xs ≡ true → days_of_rows xs ≡ Some days → dues_are_right xs ≡ lives_are_right xs
  dues-live are put_down = (λ i. list_all (λ row. option_map_or (λ ds. is_due_right ds xs row) (put_down i) true) xs.domains)
      ∙ all-alike (is_live_right xs) (is_due_right days xs) xs.domains (λ row there. one-live row (each-passes (is_end days) xs.domains are row there))

-- ---- what is checked of the columns

same-column : (n m : ℕ) → (n == m) ≡ true → int_eq (pos n) (pos m) ≡ true
same-column n m e = grind (arith, nat_tests, ints, e)

module _ (days : Schedule) where
  abbrev end : Deletion → ℕ
  end x = capped (purge_at (rules_with days) x)

  by-moment : (n : ℕ) (b : Bool) (c : Option (Option Deletion)) → option_map_or (λ due. of_deletion (λ x. due == end x) c) (cond b (Some n) None) false ≡ true → of_deletion (λ x. int_eq (pos n) (pos (end x))) c ≡ true
  by-moment n false c e = absurd (true≢false (sym e))
  by-moment n true None e = refl
  by-moment n true (Some None) e = refl
  by-moment n true (Some (Some x)) e = same-column n (end x) e

  by-column : (column : ℤ) (c : Option (Option Deletion)) → option_map_or (λ due. of_deletion (λ x. due == end x) c) (moment_in_column column) false ≡ true → of_deletion (λ x. int_eq column (pos (end x))) c ≡ true
  by-column (pos n) c e = by-moment n (is_moment n) c e
  by-column (negsuc n) c e = absurd (true≢false (sym e))

  pub all-timed : (rows : List DomainRow) → list_all (is_timed days) rows ≡ true → list_all (is_end days) rows ≡ true
  all-timed rows e = all-pass (is_end days) rows (λ row there. by-column row.due (deletion_in row.deleted row.restore_requested) (each-passes (is_timed days) rows e row there))
