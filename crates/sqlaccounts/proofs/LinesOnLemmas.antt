-- The lines that rows of one domain read as.
use Rattle.std.proofs.Common.{arith, ◌≡◌, ℕ, pos, Bool, true, cond, ◌&&◌, List, [], ◌∷◌, ◌++◌, filter, Option, Some, None, refl, sym, ap, subst, ◌∙◌}
use Rattle.sqlaccounts.proofs.Words.{Account, account_of_row, account_of_rows, AccountRow, add, bag_of, bag_of-push, cons_option}
use Rattle.sqlaccounts.proofs.Words.{Content, empty_account, filter-bag_of, filter_map, filter_map-append, in_order, is_on, is_place, is_row_on}
use Rattle.sqlaccounts.proofs.Words.{IsConsistent, IsDomainRoid, Line, line_of_columns, line_with_account, LineRow, lines_in_order, option_map}
use Rattle.sqlaccounts.proofs.{Words.{registrar_column, Roid, row_of, unwrap_or}, AccountLemmas.get-accounts_of}
use Rattle.sqlaccounts.proofs.{BagLemmas.{bag-again, bag-nil}, ConsistencyLemmas.parts-there, FindingLemmas.on-row}

-- one row more
pub read-more : (rows : List LineRow) (row : LineRow) (line : Line) → line_of_columns row ≡ Some line
    → bag_of in_order (filter_map line_of_columns (rows ++ row ∷ [])) ≡ add in_order line (bag_of in_order (filter_map line_of_columns rows))
read-more rows row line e =
    ap (bag_of in_order) (filter_map-append line_of_columns rows (row ∷ []) ∙ ap (λ o. filter_map line_of_columns rows ++ cons_option o []) e)
    ∙ bag_of-push in_order lines_in_order (filter_map line_of_columns rows) line

-- ---- a part of the rows

part : {X Y : Type 0} (read : X → Option Y) (p : Y → Bool) (a b : X → Bool) → ((x : X) (y : Y) → read x ≡ Some y → b x ≡ (a x && p y)) → (xs : List X)
    → filter p (filter_map read (filter a xs)) ≡ filter_map read (filter b xs)
part read p a b agree [] = refl
part read p a b agree (x ∷ xs) = go (read x) refl (part read p a b agree xs)
  where
    go : (o : Option _) → read x ≡ o → filter p (filter_map read (filter a xs)) ≡ filter_map read (filter b xs)
        → filter p (filter_map read (filter a (x ∷ xs))) ≡ filter_map read (filter b (x ∷ xs))
    go None e ih = grind (arith, ih, e)
    go (Some y) e ih = grind (arith, ih, e, agree x y e)

-- ---- of an account, also where there is none

pub lines-read : (xs : Content) (r : ℕ) (roid : Roid) → IsConsistent xs → is_place r ≡ true → IsDomainRoid roid
    → bag_of in_order (filter_map line_of_columns (filter (is_row_on r roid) xs.lines)) ≡ filter (is_on roid) (account_of_rows r xs).lines
lines-read xs r roid consistent place is =
    ap (bag_of in_order) (sym (part line_of_columns (is_on roid) (line_with_account (registrar_column r)) (is_row_on r roid)
    (λ x l e. ap (λ c. line_with_account (registrar_column r) x && c) (sym (on-row roid is x l e))) xs.lines))
    ∙ sym (filter-bag_of in_order lines_in_order (is_on roid) (filter_map line_of_columns (filter (line_with_account (registrar_column r)) xs.lines)))
    ∙ ap (filter (is_on roid)) (sym (parts-there xs r consistent place).0)

-- an account's lines are a bag
bag-at : (xs : Content) (b : Bool) (o : Option AccountRow)
    → bag_of in_order (unwrap_or (cond b (option_map (account_of_row xs) o) None) empty_account).lines ≡ (unwrap_or (cond b (option_map (account_of_row xs) o) None) empty_account).lines
bag-at xs true (Some row) = bag-again in_order lines_in_order (filter_map line_of_columns (filter (line_with_account row.id) xs.lines))
bag-at xs b o = bag-nil in_order

pub lines-bag : (xs : Content) (r : ℕ) → bag_of in_order (account_of_rows r xs).lines ≡ (account_of_rows r xs).lines
lines-bag xs r =
    subst (λ (a : Option Account). bag_of in_order (unwrap_or a empty_account).lines ≡ (unwrap_or a empty_account).lines) (sym (get-accounts_of xs r)) (bag-at xs (is_place r) (row_of xs (pos r)))
