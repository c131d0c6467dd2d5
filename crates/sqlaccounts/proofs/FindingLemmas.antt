-- Which rows of lines are found, and what is left without one of them.
use Rattle.std.proofs.Common.{◌≡◌, inl, inr, ℕ, ℤ, ◌<ℤ◌, Bool, true, false, not, ◌&&◌, List, [], ◌∷◌, ◌++◌, filter, find, Option, Some, None, IfSome, refl, sym, ap, ◌∙◌, arith, int_eq}
use Rattle.sqlaccounts.proofs.Words.{all_has, all_weaker, and_from, and_parts, cons_option, counter_column, Decides-int_eq, delete_where}
use Rattle.sqlaccounts.proofs.Words.{false_from_ne_true, filter_all, filter_map, Has, has_filtered, has_found, has_kept, in_order}
use Rattle.sqlaccounts.proofs.Words.{ints, is_line, is_of, is_on, is_row_about, is_same_roid, IsDomainRoid, IsKeyedBy, itself-roid, Line, line-told}
use Rattle.sqlaccounts.proofs.Words.{line_of_columns, line_with_account, LineRow, list_any, maybe_domain_in, option_map_or, reads_as}
use Rattle.sqlaccounts.proofs.Words.{registrar_column, Roid, same, same-in_order, same-roids, same_from_decides, same_int, same_some, some_has}
use Rattle.sqlaccounts.proofs.Words.{some_read}
use Rattle.sqlite_keyed.specs.Rules.{points_to}
use Rattle.objects.specs.declared.roid.ObjectKind.TheVariants.{Domain}
use Rattle.sqlcolumns.specs.Roids.{roid_in}
use Rattle.sqlcolumns.proofs.{LineLemmas.is_read, NumberLemmas.{registrar_back, registrar_written, serial_back, serial_written}}
use Rattle.sqlcolumns.proofs.RoidLemmas.{roid_read}

pub equal : (a b : ℤ) → a ≡ b → int_eq a b ≡ true
equal a b e = (Decides-int_eq a b).1 e

-- ---- by the domain's columns

module _ (roid : Roid) (is : IsDomainRoid roid) where
  here : roid_in Domain (registrar_column roid.creator) (counter_column roid.serial) ≡ Some roid
  here = rw (registrar_back roid.creator is.parts.creator, serial_back roid.serial is.parts.serial) (λ i. Some (record roid { kind = sym is.kind i }))

  same_columns : (c s : ℤ) (x : Roid) → roid_in Domain c s ≡ Some x → is_same_roid x roid ≡ (int_eq c (registrar_column roid.creator) && int_eq s (counter_column roid.serial))
  same_columns c s x read =
      let parts = roid_read Domain c s x read in
      same_from_decides {P = x ≡ roid} _ _
      (λ e. same-roids x roid e, λ it. ap (λ r. is_same_roid r roid) it ∙ itself-roid roid) (
        λ e. let both = and_parts (int_eq c (registrar_column roid.creator)) (int_eq s (counter_column roid.serial)) e in
            same_some x roid (sym read ∙ (λ i. roid_in Domain (same_int c (registrar_column roid.creator) both.0 i) (same_int s (counter_column roid.serial) both.1 i)) ∙ here),
        λ it. and_from _ _ (equal c _ (sym (registrar_written c x.creator parts.creator_is) ∙ ap (λ (r : Roid). registrar_column r.creator) it))
            (equal s _ (sym (serial_written s x.serial parts.serial_is) ∙ ap (λ (r : Roid). counter_column r.serial) it)),
      )

  of_columns : (c s : Option ℤ) (o : Option Roid) → maybe_domain_in c s ≡ Some o → is_of roid o ≡ (points_to c (registrar_column roid.creator) && points_to s (counter_column roid.serial))
  of_columns None None o e = grind (arith, e)
  of_columns (Some c) (Some s) o e =
      some_read (roid_in Domain c s) o (λ m. is_of roid m ≡ (int_eq c (registrar_column roid.creator) && int_eq s (counter_column roid.serial))) (λ x read. same_columns c s x read) e
  of_columns c s o e = cc

-- a row that reads is on the domain by its columns
pub on-row : (roid : Roid) → IsDomainRoid roid → (row : LineRow) (line : Line) → line_of_columns row ≡ Some line
    → is_on roid line ≡ (points_to row.creator (registrar_column roid.creator) && points_to row.serial (counter_column roid.serial))
on-row roid is row line e = of_columns roid is row.creator row.serial line.roid ((is_read row line e).roid)

-- a line's row is among those that are looked at
about : (r : ℕ) (o : Option Roid) (row : LineRow) (line : Line) → line.roid ≡ o → IfSome o IsDomainRoid → line_with_account (registrar_column r) row ≡ true → line_of_columns row ≡ Some line
    → is_row_about r o row ≡ true
about r None row line at is own e = own
about r (Some roid) row line at is own e = and_from _ _ own (sym (on-row roid is row line e) ∙ ap (is_of roid) at ∙ itself-roid roid)

-- ---- what rows read as

module _ {X Y : Type 0} (read : X → Option Y) where
  -- a row that reads is there as what it reads as
  pub has_read : (xs : List X) (x : X) (y : Y) → Has xs x → read x ≡ Some y → Has (filter_map read xs) y
  has_read [] x y has e = absurd has
  has_read (z ∷ zs) x y (inl is) e = rw (← is, e) (inl refl)
  has_read (z ∷ zs) x y (inr has) e = elim (read z) as (λ o. Has (cons_option o (filter_map read zs)) y) [ None ↦ has_read zs x y has e | Some w ↦ inr (has_read zs x y has e) ]

  -- and what is there is read from a row
  pub read_from : (xs : List X) (y : Y) → Has (filter_map read xs) y → (x : X) × Has xs x × (read x ≡ Some y)
  read_from [] y has = absurd has
  read_from (x ∷ xs) y has = go (read x) refl has (read_from xs y)
    where
      go : (o : Option Y) → read x ≡ o → Has (cons_option o (filter_map read xs)) y → (Has (filter_map read xs) y → (z : X) × Has xs z × (read z ≡ Some y)) → (z : X) × Has (x ∷ xs) z × (read z ≡ Some y)
      go None e has rest = let it = rest has in (it.0, inr it.1, it.2)
      go (Some n) e (inl is) rest = (x, inl refl, e ∙ ap Some (sym is))
      go (Some n) e (inr has) rest = let it = rest has in (it.0, inr it.1, it.2)

-- ---- looked for

pub found : {A : Type 0} (p q : A → Bool) (row : A) (xs : List A) → find p (filter q xs) ≡ Some row → Has xs row × (p row ≡ true) × (q row ≡ true)
found p q row xs e = let passed = has_found p (filter q xs) row e in let there = has_filtered q xs row passed.0 in (there.0, passed.1, there.1)

-- what is there isn't missed
pub unmissed : {A : Type 0} (p : A → Bool) (xs : List A) (x : A) → Has xs x → p x ≡ true → find p xs ≡ None → ⊥
unmissed p [] x has is none = absurd has
unmissed p (y ∷ ys) x (inl e) is none = grind (arith, e, is, none)
unmissed p (y ∷ ys) x (inr later) is none = grind (arith, unmissed p ys x later is, none)

-- where no row is found, no line is there
pub none-there : (r : ℕ) (line : Line) (rows : List LineRow) → IfSome line.roid IsDomainRoid → find (reads_as line) (filter (is_row_about r line.roid) rows) ≡ None
    → list_any (same in_order line) (filter_map line_of_columns (filter (line_with_account (registrar_column r)) rows)) ≡ false
none-there r line rows is none = false_from_ne_true _ (λ any.
    let some = some_has (same in_order line) _ any in
    let row = read_from line_of_columns (filter (line_with_account (registrar_column r)) rows) some.0 some.1 in
    let own = has_filtered (line_with_account (registrar_column r)) rows row.0 row.1 in
    let it : line_of_columns row.0 ≡ Some line = row.2 ∙ ap Some (sym (same-in_order line some.0 some.2)) in
    unmissed (reads_as line) (filter (is_row_about r line.roid) rows) row.0 (has_kept (is_row_about r line.roid) rows row.0 own.0 (about r line.roid row.0 line refl is own.1 it))
    (ap (λ (o : Option Line). option_map_or (is_line line) o false) row.2 ∙ line-told line some.0 ∙ some.2) none)

-- what reads as a line
pub reads : (line : Line) (row : LineRow) (o : Option Line) → line_of_columns row ≡ o → option_map_or (is_line line) o false ≡ true → line_of_columns row ≡ Some line
reads line row None at e = cc
reads line row (Some l) at e = at ∙ ap Some (sym (same-in_order line l (sym (line-told line l) ∙ e)))

-- and is the registrar's
pub own-row : (r : ℕ) (o : Option Roid) (row : LineRow) → is_row_about r o row ≡ true → row.account ≡ registrar_column r
own-row r None row e = same_int _ _ e
own-row r (Some roid) row e = same_int _ _ (and_parts _ _ e).0

-- ---- without one row

pub record Parts {X : Type 0} (key : X → ℤ) (xs : List X) (x : X) : Type 0 where
  pub front : List X
  pub rest : List X
  pub consistent : xs ≡ front ++ x ∷ rest
  pub without : delete_where (λ y. int_eq (key y) (key x)) xs ≡ front ++ rest

-- a row by its number
pub parts : {X : Type 0} (key : X → ℤ) (xs : List X) (x : X) → IsKeyedBy key xs → Has xs x → Parts key xs x
parts key [] x up has = absurd has
parts key (y ∷ xs) x up (inl e) = record {
  front = [];
  rest = xs;
  consistent = ap (λ z. z ∷ xs) (sym e);
  without = grind (arith, ints, e, filter_all (λ z. not (int_eq (key z) (key x))) xs (all_weaker (λ z. key y <ℤ key z) _ (λ z below. grind (arith, ints, e, below)) xs up.0));
}
parts key (y ∷ xs) x up (inr has) =
    let it = parts key xs x up.1 has in
    let below : key y <ℤ key x = all_has (λ z. key y <ℤ key z) xs x up.0 has in
    record { front = y ∷ it.front; rest = it.rest; consistent = ap (λ zs. y ∷ zs) it.consistent; without = grind (arith, ints, below, it.without) }
