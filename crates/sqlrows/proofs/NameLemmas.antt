-- What stands under a name is what the first row of that name that reads, reads as.
use Rattle.std.proofs.Common.{◌≡◌, ℕ, Bool, true, false, cond, List, [], ◌∷◌, Option, Some, None, refl, sym, ap, ◌∙◌}
use Rattle.std.specs.{Prelude.filter, Cmp.{eq_by_cmp_equiv, Lexicographic.{nat_list_cmp_total, slice_cmp}}}
use Rattle.std.specs.FinMap.{find, from_entries, get, get-from_entries}
use Rattle.sqlrows.proofs.Words.{cons_option, eq_by_cmp, filter_map, first_read, named, nat_cmp, or_else}
use Rattle.sqlite_typed.specs.Tests.{bytes_eq}

module _ {R X : Type 0} (name_of : R → List ℕ) (read : R → Option X) where
  abbrev pub entries_of : List R → List (List ℕ × X)
  entries_of rows = filter_map (λ r. named (name_of r) (read r)) rows

  split : (name other : List ℕ) (es : List (List ℕ × X)) (b : Bool) (o : Option X) → eq_by_cmp (slice_cmp nat_cmp) name other ≡ b
      → find (slice_cmp nat_cmp) name (cons_option (named other o) es) ≡ or_else (cond b o None) (find (slice_cmp nat_cmp) name es)
  split name other es true None e = refl
  split name other es false None e = refl
  split name other es true (Some x) e = ap (λ (t : Bool). cond t (Some x) (find (slice_cmp nat_cmp) name es)) e
  split name other es false (Some x) e = ap (λ (t : Bool). cond t (Some x) (find (slice_cmp nat_cmp) name es)) e

  kept : (b : Bool) (row : R) (rows : List R) → first_read read (cond b (row ∷ rows) rows) ≡ or_else (cond b (read row) None) (first_read read rows)
  kept true row rows = refl
  kept false row rows = refl

  found : (name : List ℕ) (rows : List R) → find (slice_cmp nat_cmp) name (entries_of rows) ≡ first_read read (filter (λ r. bytes_eq (name_of r) name) rows)
  found name [] = refl
  found name (row ∷ rows) =
      split name (name_of row) (entries_of rows) (eq_by_cmp (slice_cmp nat_cmp) name (name_of row)) (read row) refl
      ∙ (λ i. or_else (cond ((eq_by_cmp_equiv nat_list_cmp_total).symm name (name_of row) i) (read row) None) (found name rows i))
      ∙ sym (kept (bytes_eq (name_of row) name) row (filter (λ r. bytes_eq (name_of r) name) rows))

  pub stands : (name : List ℕ) (rows : List R) → first_read read (filter (λ r. bytes_eq (name_of r) name) rows) ≡ get (from_entries {R = slice_cmp nat_cmp} (entries_of rows)) name
  stands name rows = sym (get-from_entries nat_list_cmp_total (entries_of rows) name ∙ found name rows)
