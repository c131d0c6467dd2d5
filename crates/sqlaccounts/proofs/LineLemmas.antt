-- What another balance means, and one line more or less.
use Rattle.std.proofs.Common.{◌≡◌, ◌⊎◌, inl, inr, ℕ, ℤ, pos, ◌+ℤ◌, ◌-ℤ◌, Bool, true, false, cond, ◌&&◌, length, List, [], ◌∷◌, ◌++◌, filter, find, Option, Some, None, IfSome, refl, sym, ap, subst, ◌∙◌, arith, int_eq, append-nil}
use Rattle.sqlaccounts.proofs.Words.{Account, account_of_row, account_of_rows, AccountRow, add, amount, any-bag_of, appended, bag_of, balance}
use Rattle.sqlaccounts.proofs.Words.{balance-add, balance_in, cons_option, Content, counter_in, delete_where, exact_column, filter-append}
use Rattle.sqlaccounts.proofs.Words.{filter_map, filter_map-append, Has, has_either, has_filtered, HasEnd, ident_and_held, in_order, ints}
use Rattle.sqlaccounts.proofs.Words.{is_row_about, IsBalanceChanged, IsDomainRoid, IsKeyedBy, IsPosted, IsRowOf, Line, line_of_columns}
use Rattle.sqlaccounts.proofs.Words.{line_with_account, line_with_id, LineRow, lines_in_order, lines_to, lines_under, LineSwap, list_any}
use Rattle.sqlaccounts.proofs.Words.{maybe_moment_column, next_key, option_map, queue_under, reads_as, remade, same, same_some, Schedule}
use Rattle.sqlaccounts.proofs.{Words.{step, swapped_all, taken, taken-absent, taken-add, with_lines}, BagLemmas.bag-middle}
use Rattle.sqlaccounts.proofs.FindingLemmas.{equal, found, none-there, own-row, parts, reads}
use Rattle.sqlaccounts.proofs.PostingLemmas.{own-lines, posted-as, posted-rows, posted-still}
use Rattle.sqlcolumns.{proofs.LineLemmas.line_back, specs.inner.Lines.{IsStorableLine, domain_columns, row_of_line}}
use Rattle.sqltables.specs.Line as table
use Rattle.sqlaccounts.specs.{Graces.maybe_grace_end, inner.Changes.IsWritten}

-- ---- swaps

abbrev pub with_swaps : List LineSwap → Account → Account
with_swaps swaps = with_lines (swapped_all swaps)

-- ---- written

-- a line is read from the row that is written of it
pub written_line : (id : ℤ) (r : ℕ) (line : Line) (ends : Option ℤ) (row : LineRow) → IsStorableLine line → row_of_line id (pos r) line ends ≡ Some row → IsWritten r line ends row
written_line id r line ends row is e =
    let domain = step (domain_columns line.roid) _ row e in
    let cents = step (exact_column line.cents) _ row domain.rest in
    let same = same_some _ row cents.rest in
    record { account = λ i. (sym same i).account; reads = line_back id (pos r) line ends row is e; grace_end = λ i. (sym same i).grace.ends }

-- ---- one row among others

pub filter-without : (p : LineRow → Bool) (front rest : List LineRow) (x : LineRow) → p x ≡ false → filter p (front ++ x ∷ rest) ≡ filter p (front ++ rest)
filter-without p front rest x e =
    filter-append p front (x ∷ rest) ∙ ap (λ b. filter p front ++ cond b (x ∷ filter p rest) (filter p rest)) e ∙ sym (filter-append p front rest)

pub lines-with : (p : LineRow → Bool) (front rest : List LineRow) (x : LineRow) (line : Line) → p x ≡ true → line_of_columns x ≡ Some line
    → bag_of in_order (filter_map line_of_columns (filter p (front ++ x ∷ rest))) ≡ add in_order line (bag_of in_order (filter_map line_of_columns (filter p (front ++ rest))))
lines-with p front rest x line e reads =
    ap (λ ls. bag_of in_order (filter_map line_of_columns ls)) (filter-append p front (x ∷ rest) ∙ ap (λ b. filter p front ++ cond b (x ∷ filter p rest) (filter p rest)) e)
    ∙ ap (bag_of in_order) (filter_map-append line_of_columns (filter p front) (x ∷ filter p rest) ∙ ap (λ o. filter_map line_of_columns (filter p front) ++ cons_option o (filter_map line_of_columns (filter p rest))) reads)
    ∙ bag-middle in_order lines_in_order (filter_map line_of_columns (filter p front)) line (filter_map line_of_columns (filter p rest))
    ∙ ap (λ ls. add in_order line (bag_of in_order ls)) (sym (filter_map-append line_of_columns (filter p front) (filter p rest)) ∙ ap (filter_map line_of_columns) (sym (filter-append p front rest)))

-- ---- sums

-- two sums to which the same is added
both-added : (x y a : ℤ) → int_eq (x +ℤ a) (a +ℤ y) ≡ int_eq x y
both-added x y a = grind (arith, ints)

-- and of which the same is taken off
both-less : (x y a : ℤ) → int_eq (x +ℤ (pos 0 -ℤ a)) y ≡ int_eq x (a +ℤ y)
both-less x y a = grind (arith, ints)

-- ---- what is found

mapped : {X Y : Type 0} (f : X → Y) (o : Option X) (y : Y) → Some y ≡ option_map f o → (x : X) × (o ≡ Some x) × (f x ≡ y)
mapped f None y e = cc
mapped f (Some x) y e = (x, refl, same_some (f x) y (sym e))

unmapped : {X Y : Type 0} (f : X → Y) (o : Option X) → None ≡ option_map f o → o ≡ None
unmapped f o e = grind (arith, e)

-- ---- an account's lines, of these rows

abbrev lines_in : List LineRow → ℤ → List Line
lines_in rows id = bag_of in_order (filter_map line_of_columns (filter (line_with_account id) rows))

module _ (days : Option Schedule) (r : ℕ) (row : AccountRow) (xs : Content) (is : IsRowOf r row xs) where
  -- another balance beside other lines
  repaid : (change : List Line → List Line) (cents : ℤ) (changed : AccountRow) (ls : List LineRow) → IsBalanceChanged cents row changed → ((id : ℤ) → int_eq (pos r) id ≡ false → lines_in ls id ≡ lines_in xs.lines id)
      → lines_in ls row.id ≡ change (lines_in xs.lines row.id) → int_eq (balance_in row.balance +ℤ cents) (balance (lines_in ls row.id)) ≡ int_eq (balance_in row.balance) (balance (lines_in xs.lines row.id))
      → ((line : LineRow) → Has ls line → Has xs.lines line ⊎ HasEnd days line) → IsPosted days r (with_lines change) row changed xs (lines_to (λ _. ls) xs)
  repaid change cents changed ls paid elsewhere here sums ends =
      let id : changed.id ≡ row.id = ap (λ (a : AccountRow). a.id) paid.rest in
      let lines : lines_in ls changed.id ≡ change (lines_in xs.lines row.id) = ap (lines_in ls) id ∙ here in
      posted-rows days r row xs is (with_lines change) changed ls xs.messages id (ap ident_and_held paid.rest) elsewhere (λ k e. refl)
      (λ i. record { lines = lines i; queue = queue_under xs (id i); commands = counter_in (paid.rest i).commands; messages = counter_in (paid.rest i).messages; serial = counter_in (paid.rest i).serial })
      ((λ i. int_eq (paid.sum i) (balance (lines_in ls (id i))) && int_eq (paid.rest i).waiting (pos (length (queue_under xs (id i))))) ∙ ap (λ b. b && int_eq row.waiting (pos (length (queue_under xs row.id)))) sums)
      ends

  -- a line more
  pub line-posted : (line : Line) (ends : Option ℤ) (changed : AccountRow) (it : LineRow) → IsBalanceChanged (amount line) row changed → IsWritten r line ends it → ends ≡ maybe_moment_column (maybe_grace_end days line)
      → IsPosted days r (with_lines (add in_order line)) row changed xs (lines_to (appended table.lines (λ id. record it { id = id })) xs)
  line-posted line ends changed it paid written ended =
      let x : LineRow = record it { id = next_key (λ (y : LineRow). y.id) xs.lines } in
      let lines : lines_in (xs.lines ++ x ∷ []) row.id ≡ add in_order line (lines_in xs.lines row.id) =
      lines-with (line_with_account row.id) xs.lines [] x line (equal _ _ (written.account ∙ sym is.id)) written.reads ∙ ap (λ rows. add in_order line (lines_in rows row.id)) (append-nil xs.lines) in
      repaid (add in_order line) (amount line) changed (xs.lines ++ x ∷ []) paid
      (λ k e. ap (λ rows. bag_of in_order (filter_map line_of_columns rows))
      (filter-without (line_with_account k) xs.lines [] x (ap (λ a. int_eq a k) written.account ∙ e) ∙ ap (filter (line_with_account k)) (append-nil xs.lines)))
      lines
      (ap (int_eq (balance_in row.balance +ℤ amount line)) (ap balance lines ∙ balance-add line (lines_in xs.lines row.id)) ∙ both-added (balance_in row.balance) (balance (lines_in xs.lines row.id)) (amount line))
      (λ y has. elim (has_either xs.lines (x ∷ []) y has) [
        | inl there ↦ inl there
        | inr (inl e) ↦ inr (subst (HasEnd days) (sym e) (record { line = line; reads = written.reads; ends = written.grace_end ∙ ended }))
        | inr (inr none) ↦ absurd none
      ])

  removed : (line : Line) (changed : AccountRow) (it : LineRow) → IsKeyedBy (λ (x : LineRow). x.id) xs.lines → IsBalanceChanged (pos 0 -ℤ amount line) row changed → find (reads_as line) (filter (is_row_about r line.roid) xs.lines) ≡ Some it
      → IsPosted days r (with_lines (taken in_order line)) row changed xs (lines_to (delete_where (line_with_id it.id)) xs)
  removed line changed it keyed paid finds =
      let ls : List LineRow = delete_where (line_with_id it.id) xs.lines in
      let seen = found (reads_as line) (is_row_about r line.roid) it xs.lines finds in
      let owner : it.account ≡ pos r = own-row r line.roid it seen.2 in
      let ps = parts (λ (x : LineRow). x.id) xs.lines it keyed seen.0 in
      let before : lines_in xs.lines row.id ≡ add in_order line (lines_in ls row.id) =
      ap (λ rows. lines_in rows row.id) ps.consistent
      ∙ lines-with (line_with_account row.id) ps.front ps.rest it line (equal _ _ (owner ∙ sym is.id)) (reads line it (line_of_columns it) refl seen.1)
      ∙ ap (λ rows. add in_order line (lines_in rows row.id)) (sym ps.without) in
      repaid (taken in_order line) (pos 0 -ℤ amount line) changed ls paid
      (λ k e. ap (λ rows. bag_of in_order (filter_map line_of_columns rows))
      (ap (filter (line_with_account k)) ps.without ∙ sym (filter-without (line_with_account k) ps.front ps.rest it (ap (λ a. int_eq a k) owner ∙ e)) ∙ ap (filter (line_with_account k)) (sym ps.consistent)))
      (sym (ap (taken in_order line) before ∙ taken-add in_order lines_in_order line (lines_in ls row.id)))
      (both-less (balance_in row.balance) (balance (lines_in ls row.id)) (amount line) ∙ ap (int_eq (balance_in row.balance)) (sym (ap balance before ∙ balance-add line (lines_in ls row.id))))
      (λ x has. inl (has_filtered _ xs.lines x has).0)

  -- a line less, by the number that was found
  pub line-taken : (line : Line) (changed : AccountRow) (rows : List LineRow) (id : ℤ) → IsKeyedBy (λ (x : LineRow). x.id) xs.lines → IsBalanceChanged (pos 0 -ℤ amount line) row changed
      → rows ≡ filter (is_row_about r line.roid) xs.lines → Some id ≡ option_map (λ (x : LineRow). x.id) (find (reads_as line) rows)
      → IsPosted days r (with_lines (taken in_order line)) row changed xs (lines_to (delete_where (line_with_id id)) xs)
  line-taken line changed rows id keyed paid are finds =
      let it = mapped (λ (x : LineRow). x.id) (find (reads_as line) rows) id finds in
      subst (λ k. IsPosted days r (with_lines (taken in_order line)) row changed xs (lines_to (delete_where (line_with_id k)) xs)) it.2 (removed line changed it.0 keyed paid (ap (find (reads_as line)) (sym are) ∙ it.1))

  -- and where none was
  pub line-left : (line : Line) (rows : List LineRow) → IfSome line.roid IsDomainRoid → rows ≡ filter (is_row_about r line.roid) xs.lines → None ≡ option_map (λ (x : LineRow). x.id) (find (reads_as line) rows)
      → IsPosted days r (with_lines (taken in_order line)) row row xs xs
  line-left line rows domain are finds =
      let none = none-there r line xs.lines domain (ap (find (reads_as line)) (sym are) ∙ unmapped (λ (x : LineRow). x.id) (find (reads_as line) rows) finds) in
      posted-still days r row xs is (with_lines (taken in_order line))
      (ap (λ ls. record (account_of_row xs row) { lines = ls })
      (taken-absent in_order line (lines_under xs row.id) (ap (λ k. list_any (same in_order line) (lines_under xs k)) is.id ∙ any-bag_of in_order (same in_order line) _ ∙ none)))

  -- lines that are swapped
  pub swaps-posted : (f : Line → Line) (swaps : List LineSwap) (changed : AccountRow) (ys : Content) → swapped_all swaps (account_of_rows r xs).lines ≡ remade in_order f (account_of_rows r xs).lines
      → IsPosted days r (with_lines (swapped_all swaps)) row changed xs ys → IsPosted days r (with_lines (remade in_order f)) row changed xs ys
  swaps-posted f swaps changed ys same it =
      let own = own-lines r row xs is in
      posted-as days r (with_lines (swapped_all swaps)) (with_lines (remade in_order f)) row changed xs ys is
      (ap (λ (ls : List Line). let a : Account = record (account_of_row xs row) { lines = ls } in a) (ap (swapped_all swaps) (sym own) ∙ same ∙ ap (remade in_order f) own)) it
