-- Rows that are read a page at a time, each page after the last number of the one before, are all rows.
use Rattle.std.proofs.Common.{◌≡◌, ◌-◌, ◌<ℤ◌, ◌&&◌, ℤ, ℕ, suc, true, false, cond, length, List, [], ◌∷◌, ◌++◌, filter, take, drop, Option, Some, None, option_map, slice_get, int_eq, int_le, int_lt, arith, refl, sym, ap, subst, ◌∙◌}
use Rattle.std.proofs.lemmas.Int.{ints}
use Rattle.sqldomains.proofs.Words.{all_weaker, AllByRecursion, append_assoc, Content, delegated, delegation_among, delegation_read, domain_after_id}
use Rattle.sqldomains.proofs.Words.{domain_by, DomainRow, empty, ends_of, filter-filter, filter_all, IsAllOfRows, IsKeyedBy, last_id}
use Rattle.sqldomains.proofs.Words.{link_of_domains, link_with_domain, LinkRow, Named, same_some, step, take-append-drop, transfer_of_domains}
use Rattle.sqldomains.proofs.Words.{transfer_with_domain, with_one, with_page, with_read, ◌>>=◌}
use Rattle.sqlite_keyed.specs.Rules.{points_to}
use Rattle.objects.specs.declared.zone.Delegation.{Delegation}
use Rattle.sqltables.specs.{declared.transfer.TransferRow.TransferRow, inner.Due.lies_within}

-- ---- numbers that rise

abbrev Rise : List DomainRow → Type 0
Rise = IsKeyedBy (λ (row : DomainRow). row.id)

all-right : {X : Type 0} (P : X → Type 0) (xs ys : List X) → AllByRecursion P (xs ++ ys) → AllByRecursion P ys
all-right P [] ys all = all
all-right P (x ∷ xs) ys all = all-right P xs ys all.1

rise-right : (xs ys : List DomainRow) → Rise (xs ++ ys) → Rise ys
rise-right [] ys rise = rise
rise-right (x ∷ xs) ys rise = rise-right xs ys rise.1

-- what is below all of these is below the last
below-last : (a : ℤ) (row : DomainRow) (rows more : List DomainRow) → AllByRecursion (λ (y : DomainRow). a <ℤ y.id) (row ∷ (rows ++ more)) → a <ℤ last_id row rows
below-last a row [] more all = all.0
below-last a row (next ∷ rows) more all = below-last a next rows more all.1

module _ (last : ℤ) where
  is-past : (a : ℤ) → last <ℤ a → int_lt last a ≡ true
  is-past a h = grind (arith, ints, h)

  not-past : (a : ℤ) → a <ℤ last → int_lt last a ≡ false
  not-past a h = grind (arith, ints, h)

  skipped : (row : DomainRow) (rows : List DomainRow) → int_lt last row.id ≡ false → filter (domain_after_id last) (row ∷ rows) ≡ filter (domain_after_id last) rows
  skipped row rows e = ap (λ b. cond b (row ∷ filter (domain_after_id last) rows) (filter (domain_after_id last) rows)) e

-- those after the last of a page are the rows that follow it
after-page : (row : DomainRow) (rows more : List DomainRow) → Rise (row ∷ (rows ++ more)) → filter (domain_after_id (last_id row rows)) (row ∷ (rows ++ more)) ≡ more
after-page row [] more rise =
    skipped row.id row more (grind (arith, ints))
    ∙ filter_all (domain_after_id row.id) more (all_weaker (λ (y : DomainRow). row.id <ℤ y.id) (λ y. domain_after_id row.id y ≡ true) (λ y h. is-past row.id y.id h) more rise.0)
after-page row (next ∷ rows) more rise =
    skipped (last_id next rows) row (next ∷ (rows ++ more)) (not-past (last_id next rows) row.id (below-last row.id next rows more rise.0))
    ∙ after-page next rows more rise.1

after-all : (before : List DomainRow) (row : DomainRow) (rows more : List DomainRow) → Rise (before ++ (row ∷ (rows ++ more))) → filter (domain_after_id (last_id row rows)) (before ++ (row ∷ (rows ++ more))) ≡ more
after-all [] row rows more rise = after-page row rows more rise
after-all (x ∷ before) row rows more rise =
    skipped (last_id row rows) x (before ++ (row ∷ (rows ++ more)))
    (not-past (last_id row rows) x.id (below-last x.id row rows more (all-right (λ (y : DomainRow). x.id <ℤ y.id) before (row ∷ (rows ++ more)) rise.0)))
    ∙ after-all before row rows more rise.1

-- ---- the links and transfers of a page are those of each of its domains

abbrev LiesIn : ℤ → ℤ → DomainRow → Type 0
LiesIn first last row = (int_le first row.id && int_le row.id last) ≡ true

module _ (first last id : ℤ) (within : (int_le first id && int_le id last) ≡ true) where
  number-within : (v : ℤ) → int_eq v id ≡ true → (int_le first v && int_le v last) ≡ true
  number-within v e = grind (arith, ints, e, within)

  target-within : (v : Option ℤ) → points_to v id ≡ true → lies_within first last v ≡ true
  target-within None e = e
  target-within (Some v) e = number-within v e

module _ (xs : Content) where
  same-in-page : (first last : ℤ) (row : DomainRow) → LiesIn first last row → delegation_among xs (filter (link_of_domains first last) xs.links) (filter (transfer_of_domains first last) xs.transfers) row ≡ delegation_read xs row
  same-in-page first last row within =
      λ i. option_map delegated (domain_by xs row
      (filter-filter (link_with_domain row.id) (link_of_domains first last) (λ (x : LinkRow) e. number-within first last row.id within x.domain e) xs.links i)
      (filter-filter (transfer_with_domain row.id) (transfer_of_domains first last) (λ (x : TransferRow) e. target-within first last row.id within x.domain e) xs.transfers i))

up-to-last : (row : DomainRow) (rows more : List DomainRow) (first : ℤ) → int_le first row.id ≡ true → Rise (row ∷ (rows ++ more)) → AllByRecursion (LiesIn first (last_id row rows)) (row ∷ rows)
up-to-last row [] more first from rise = (grind (arith, ints, from), tt)
up-to-last row (next ∷ rows) more first from rise =
    let above : row.id <ℤ last_id next rows = below-last row.id next rows more rise.0 in
    let later : row.id <ℤ next.id = rise.0.0 in
    (grind (arith, ints, from, above), up-to-last next rows more first (grind (arith, ints, from, later)) rise.1)

-- ---- gathered from rows

module _ {R V : Type 0} (read : R → Option (List ℕ × V)) where
  same-rows : (other : R → Option (List ℕ × V)) (rows : List R) (all : Named V) → AllByRecursion (λ row. read row ≡ other row) rows → with_read read all rows ≡ with_read other all rows
  same-rows other [] all same = refl
  same-rows other (row ∷ rows) all same = λ i. with_one all (same.0 i) >>= (λ m. same-rows other rows m same.1 i)

  rows-on : (rows more : List R) (a b : Named V) → with_read read a rows ≡ Some b → with_read read a (rows ++ more) ≡ with_read read b more
  rows-on [] more a b e = ap (λ m. with_read read m more) (same_some a b e)
  rows-on (row ∷ rows) more a b e =
      let first = step (with_one a (read row)) (λ m. with_read read m rows) b e in
      ap (λ o. o >>= (λ m. with_read read m (rows ++ more))) first.is ∙ rows-on rows more first.given b first.rest

-- ---- page after page

none-left : {X : Type 0} (n : ℕ) (xs : List X) → [] ≡ take (suc n) xs → xs ≡ []
none-left n [] e = refl
none-left n (x ∷ xs) e = cc

module _ (xs : Content) (n : ℕ) where
  -- a page is the first of the rows that are left, and with those what is gathered is what all rows give
  pub record WalksOn (all : Named Delegation) (page : List DomainRow) : Type 0 where
    pub before : List DomainRow
    pub left : List DomainRow
    pub are : before ++ left ≡ xs.domains
    pub first : page ≡ take (suc n) left
    pub gives : with_read (delegation_read xs) all left ≡ with_read (delegation_read xs) empty xs.domains

  pub walk-begins : (page : List DomainRow) → page ≡ take (suc n) xs.domains → WalksOn empty page
  walk-begins page is = record { before = []; left = xs.domains; are = refl; first = is; gives = refl }

  pub walk-ends : (all : Named Delegation) (page : List DomainRow) → ends_of page ≡ None → WalksOn all page → IsAllOfRows xs all
  walk-ends all [] e w = sym w.gives ∙ ap (with_read (delegation_read xs) all) (none-left n w.left w.first)
  walk-ends all (row ∷ rows) e w = cc

  module _ (rise : Rise xs.domains) (a b : Named Delegation) (next : List DomainRow) where
    walks-on : (row : DomainRow) (rows : List DomainRow) → WalksOn a (row ∷ rows) → with_page xs (row.id, last_id row rows) a (row ∷ rows) ≡ Some b
        → next ≡ take (suc n) (filter (domain_after_id (last_id row rows)) xs.domains) → WalksOn b next
    walks-on row rows w e is =
        let last = last_id row rows in
        let more = drop (suc n) w.left in
        let page : row ∷ (rows ++ more) ≡ w.left = ap (λ p. p ++ more) w.first ∙ take-append-drop (suc n) w.left in
        let are : w.before ++ (row ∷ (rows ++ more)) ≡ xs.domains = ap (λ l. w.before ++ l) page ∙ w.are in
        let up : Rise (w.before ++ (row ∷ (rows ++ more))) = subst Rise (sym are) rise in
        let after : filter (domain_after_id last) xs.domains ≡ more = ap (filter (domain_after_id last)) (sym are) ∙ after-all w.before row rows more up in
        let within = up-to-last row rows more row.id (grind (arith, ints)) (rise-right w.before (row ∷ (rows ++ more)) up) in
        let read = same-rows (delegation_among xs (filter (link_of_domains row.id last) xs.links) (filter (transfer_of_domains row.id last) xs.transfers)) (delegation_read xs) (row ∷ rows) a (all_weaker (LiesIn row.id last) _ (λ r h. same-in-page xs row.id last r h) (row ∷ rows) within) in
        record {
          before = w.before ++ row ∷ rows;
          left = more;
          are = append_assoc w.before (row ∷ rows) more ∙ are;
          first = is ∙ ap (take (suc n)) after;
          gives = sym (rows-on (delegation_read xs) (row ∷ rows) more a b (sym read ∙ e)) ∙ ap (with_read (delegation_read xs) a) page ∙ w.gives;
        }

    pub walk-goes-on : (page : List DomainRow) (ends : ℤ × ℤ) → ends_of page ≡ Some ends → WalksOn a page → with_page xs ends a page ≡ Some b
        → next ≡ take (suc n) (filter (domain_after_id ends.1) xs.domains) → WalksOn b next
    walk-goes-on [] ends e w reads is = cc
    walk-goes-on (row ∷ rows) ends e w reads is =
        let same : ◌≡◌ {A = ℤ × ℤ} (row.id, last_id row rows) ends = same_some (row.id, last_id row rows) ends e in
        walks-on row rows w (subst (λ (p : ℤ × ℤ). with_page xs p a (row ∷ rows) ≡ Some b) (sym same) reads) (subst (λ (p : ℤ × ℤ). next ≡ take (suc n) (filter (domain_after_id p.1) xs.domains)) (sym same) is)

-- ---- the ends of a page

last-place : (row : DomainRow) (rows : List DomainRow) → slice_get (row ∷ rows) (length (row ∷ rows) - 1) ≡ slice_get (row ∷ rows) (length rows)
last-place row rows = let less : suc (length rows) - 1 ≡ length rows = omega arith in ap (slice_get (row ∷ rows)) less

pub ends-are : (rows : List DomainRow) (first last : DomainRow) → slice_get rows 0 ≡ Some first → slice_get rows (length rows - 1) ≡ Some last → Some (first.id, last.id) ≡ ends_of rows
ends-are [] first last e f = cc
ends-are (row ∷ rows) first last e f =
    ap (λ (p : ℤ × ℤ). Some p) (ap (λ (r : DomainRow). (r.id, last.id)) (sym (same_some row first e)) ∙ ap (λ z. (row.id, z)) (last-is row rows last (sym (last-place row rows) ∙ f)))
  where
    last-is : (row : DomainRow) (rows : List DomainRow) (last : DomainRow) → slice_get (row ∷ rows) (length rows) ≡ Some last → last.id ≡ last_id row rows
    last-is row [] last e = ap (λ (r : DomainRow). r.id) (sym (same_some row last e))
    last-is row (next ∷ rows) last e = last-is next rows last e
