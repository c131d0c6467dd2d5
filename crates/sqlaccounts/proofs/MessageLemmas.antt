-- What rows of messages mean for an account, and what one row more or less does.
use Rattle.std.proofs.Common.{◌≡◌, ℕ, ◌+◌, ℤ, pos, negsuc, ◌+ℤ◌, Bool, true, false, cond, not, ◌&&◌, ◌==◌, length, List, [], ◌∷◌, ◌++◌, filter, Option, Some, None, inl, inr, refl, sym, ap, subst, ◌∙◌, int_eq, arith, append-nil}
use Rattle.std.proofs.lemmas.Map.Made.{length-remove_key}
use Rattle.std.specs.Cmp.{both_ways}
use Rattle.sqlaccounts.proofs.Words.{account_of_row, AccountRow, and_parts, appended, balance, balance_in, cons_option}
use Rattle.sqlaccounts.proofs.Words.{Content, counter_in, Decides-int_eq, delete_where, dropped, false_from_ne_true, filter-append, filter-filter}
use Rattle.sqlaccounts.proofs.Words.{filter_map, filter_map-append, Has, has, has_filtered, has_kept, ident_and_held, ints, IsKeyedBy}
use Rattle.sqlaccounts.proofs.Words.{IsPosted, IsRowOf, lines_under, list_any, Message, message_cmp, message_of_columns, MessageRow, messages_to, next_key}
use Rattle.sqlaccounts.proofs.Words.{none_counted, option_map_or, put, put_all, queue_under, same_from_decides, Schedule, slice_get, with_queue}
use Rattle.sqlaccounts.proofs.ColumnLemmas.{message_first, row_cmp, row_cmp_total, same_columns, same_read}
use Rattle.sqlaccounts.proofs.{FindingLemmas.{equal, has_read, read_from}, PostingLemmas.{posted-rows, posted-still}}
use Rattle.sqlaccounts.proofs.QueueLemmas.{among-all, first-all, into-there, length-into, one_from_tie, out-all, out-lacking, put_all-push, tie, tied}
use Rattle.sqlaccounts.proofs.SortLemmas.{IsLeast, least-sort_by}
use Rattle.accounts.{specs.MessageOrder.message_cmp_total, proofs.MessageLaws.message_cmp_only}
use Rattle.sqltables.specs.Message as table
use Rattle.sqltables.proofs.RowLemmas.{same_by_key}
use Rattle.sqlaccounts.specs.{declared.queue.Found.Found, inner.Queue.{IsFound, IsWaitingMore}}

abbrev messages_in : List MessageRow → List Message
messages_in rows = filter_map message_of_columns rows

abbrev of_account : ℤ → List MessageRow → List MessageRow
of_account id rows = filter (table.message_with_account id) rows

abbrev queue_in : List MessageRow → ℤ → List Message
queue_in rows id = put_all (messages_in (of_account id rows))

-- ---- the oldest message

pub first_found : (xs : Content) (id : ℤ) (row : MessageRow) (m : Message) → slice_get (table.queue_of id xs.messages) 0 ≡ Some row → message_of_columns row ≡ Some m → slice_get (queue_under xs id) 0 ≡ Some m
first_found xs id row m first reads =
    let rows : List MessageRow = of_account id xs.messages in
    let least : IsLeast row_cmp row_cmp_total (Some row) rows = subst (λ o. IsLeast row_cmp row_cmp_total o rows) first (least-sort_by row_cmp row_cmp_total rows) in
    first-all message_cmp message_cmp_total message_cmp_only m (messages_in rows) (has_read message_of_columns rows row m least.0 reads)
    (λ n has. let it = read_from message_of_columns rows n has in message_first row it.0 m n reads it.2 (least.1 it.0 it.1))

pub none_found : (xs : Content) (id : ℤ) → slice_get (table.queue_of id xs.messages) 0 ≡ None → slice_get (queue_under xs id) 0 ≡ None
none_found xs id none =
    let empty : of_account id xs.messages ≡ [] = subst (λ o. IsLeast row_cmp row_cmp_total o (of_account id xs.messages)) none (least-sort_by row_cmp row_cmp_total (of_account id xs.messages)) in
    ap (λ rows. slice_get (put_all (messages_in rows)) 0) empty

-- ---- whether a message waits

-- by the rows that are equal to this in all columns but the number
module _ (w : MessageRow) (m : Message) (reads : message_of_columns w ≡ Some m) where
  tied_read : (o : Option Message) → option_map_or (tie m) o false ≡ true → o ≡ Some m
  tied_read None e = cc
  tied_read (Some n) e = ap Some (sym (one_from_tie m n e))

  -- they are the account's that read as the message
  same_row : (x : MessageRow) → table.is_same_message w x ≡ (table.message_with_account w.account x && option_map_or (tie m) (message_of_columns x) false)
  same_row x = both_ways _ _ (λ e. let it = same_read w x m reads e in grind (arith, it.0, tied m, equal x.account w.account it.1))
      (λ e. let both = and_parts (table.message_with_account w.account x) (option_map_or (tie m) (message_of_columns x) false) e in same_columns w x m ((Decides-int_eq x.account w.account).0 both.0) reads (tied_read (message_of_columns x) both.1))

-- of rows that are told so
module _ {X Y : Type 0} (read : X → Option Y) (own is : X → Bool) (said_of : Y → Bool) (same : (x : X) → is x ≡ (own x && option_map_or said_of (read x) false)) where
  said : (rows : List X) → list_any said_of (filter_map read (filter own rows)) ≡ list_any is rows
  said [] = refl
  said (x ∷ xs) = grind (arith, same x, said xs)

  -- without them what is read is without it
  left : (rows : List X) → filter_map read (filter own (delete_where is rows)) ≡ filter (λ y. not (said_of y)) (filter_map read (filter own rows))
  left [] = refl
  left (x ∷ xs) = grind (arith, same x, left xs)

-- ---- an account's queue, of these rows

same_not : (a b : Bool) → not a ≡ not b → a ≡ b
same_not a b e = grind arith

shifted : (a b step : ℤ) → int_eq (a +ℤ step) (b +ℤ step) ≡ int_eq a b
shifted a b step = grind (arith, ints)

fewer : (q : ℕ) (n : ℕ) → q + 1 ≡ n → pos q ≡ pos n +ℤ negsuc 0
fewer q n e = omega (arith, ints, e)

filter_alike : {X : Type 0} (p q : X → Bool) (xs : List X) → ((x : X) → Has xs x → p x ≡ q x) → filter p xs ≡ filter q xs
filter_alike p q [] alike = refl
filter_alike p q (x ∷ xs) alike = rw (alike x (inl refl), filter_alike p q xs (λ y has. alike y (inr has)))

alone : {X : Type 0} (x y : X) → Has (y ∷ []) x → x ≡ y
alone x y has = grind (arith, has)

module _ (days : Option Schedule) (r : ℕ) (row : AccountRow) (xs : Content) (is : IsRowOf r row xs) where
  -- another queue, and as many more wait
  requeued : (f : List Message → List Message) (changed : AccountRow) (ms : List MessageRow) (step : ℤ) → IsWaitingMore step row changed → ((id : ℤ) → int_eq (pos r) id ≡ false → queue_in ms id ≡ queue_in xs.messages id)
      → queue_in ms row.id ≡ f (queue_in xs.messages row.id) → pos (length (f (queue_in xs.messages row.id))) ≡ pos (length (queue_in xs.messages row.id)) +ℤ step
      → IsPosted days r (with_queue f) row changed xs (messages_to (λ _. ms) xs)
  requeued f changed ms step more elsewhere here count =
      let id : changed.id ≡ row.id = ap (λ (a : AccountRow). a.id) more.rest in
      let queue : queue_in ms changed.id ≡ f (queue_in xs.messages row.id) = ap (queue_in ms) id ∙ here in
      posted-rows days r row xs is (with_queue f) changed xs.lines ms id (ap ident_and_held more.rest) (λ k e. refl) elsewhere
      (λ i. record { lines = lines_under xs (id i); queue = queue i; commands = counter_in (more.rest i).commands; messages = counter_in (more.rest i).messages; serial = counter_in (more.rest i).serial })
      ((λ i. int_eq (balance_in (more.rest i).balance) (balance (lines_under xs (id i))) && int_eq (more.rest i).waiting (pos (length (queue i))))
      ∙ ap (λ b. int_eq (balance_in row.balance) (balance (lines_under xs row.id)) && b) (ap (int_eq (row.waiting +ℤ step)) count ∙ shifted row.waiting (pos (length (queue_in xs.messages row.id))) step))
      (λ line has. inl has)

  module _ (m : Message) (it : Found) (found : IsFound xs r m it) where
    own : it.row.account ≡ row.id
    own = found.written.account ∙ sym is.id

    told : (b : Bool) → (length it.same == 0) ≡ not b → list_any (tie m) (messages_in (of_account row.id xs.messages)) ≡ b
    told b e =
        ap (λ id. list_any (tie m) (messages_in (of_account id xs.messages))) (sym own) ∙ said message_of_columns (table.message_with_account it.row.account) (table.is_same_message it.row) (tie m) (same_row it.row m found.written.reads) xs.messages
        ∙ same_not _ b (sym (none_counted (table.is_same_message it.row) xs.messages) ∙ ap (λ rows. length rows == 0) (sym found.same) ∙ e)

    waits : (b : Bool) → (length it.same == 0) ≡ not b → has m (queue_in xs.messages row.id) ≡ b
    waits b e = among-all message_cmp message_cmp_total message_cmp_only m [] (messages_in (of_account row.id xs.messages)) ∙ told b e

    -- a message more
    pub message-posted : (changed : AccountRow) → (length it.same == 0) ≡ true → IsWaitingMore (pos 1) row changed
        → IsPosted days r (with_queue (put m)) row changed xs (messages_to (appended table.messages (λ id. record it.row { id = id })) xs)
    message-posted changed none more =
        let x : MessageRow = record it.row { id = next_key table.messages.key xs.messages } in
        let before : List Message = messages_in (of_account row.id xs.messages) in
        requeued (put m) changed (xs.messages ++ x ∷ []) (pos 1) more
        (λ id e. ap (λ rows. put_all (messages_in rows)) (filter-append (table.message_with_account id) xs.messages (x ∷ []) ∙ ap (λ b. of_account id xs.messages ++ cond b (x ∷ []) []) (ap (λ a. int_eq a id) found.written.account ∙ e) ∙ append-nil (of_account id xs.messages)))
        (ap (λ rows. put_all (messages_in rows)) (filter-append (table.message_with_account row.id) xs.messages (x ∷ []) ∙ ap (λ b. of_account row.id xs.messages ++ cond b (x ∷ []) []) (equal _ _ own))
        ∙ ap put_all (filter_map-append message_of_columns (of_account row.id xs.messages) (x ∷ []) ∙ ap (λ o. before ++ cons_option o []) found.written.reads)
        ∙ put_all-push before m)
        (ap pos (length-into message_cmp message_cmp_total message_cmp_only m (queue_in xs.messages row.id) (waits false none)))

    pub message-there : (length it.same == 0) ≡ false → IsPosted days r (with_queue (put m)) row row xs xs
    message-there some = posted-still days r row xs is (with_queue (put m)) (λ i. record (account_of_row xs row) { queue = into-there message_cmp message_cmp_total message_cmp_only m [] (messages_in (of_account row.id xs.messages)) (told true some) i })

    -- and one less: the row with its number is the one with its columns
    pub message-taken : (gone : MessageRow) (changed : AccountRow) → IsKeyedBy table.messages.key xs.messages → it.same ≡ gone ∷ [] → IsWaitingMore (negsuc 0) row changed
        → IsPosted days r (with_queue (dropped m)) row changed xs (messages_to (delete_where (table.message_with_id gone.id)) xs)
    message-taken gone changed keyed one more =
        let is_it = table.is_same_message it.row in
        let all : filter is_it xs.messages ≡ gone ∷ [] = sym found.same ∙ one in
        let there = has_filtered is_it xs.messages gone (subst (λ rows. Has rows gone) (sym all) (inl refl)) in
        let before : List Message = messages_in (of_account row.id xs.messages) in
        let same : delete_where (table.message_with_id gone.id) xs.messages ≡ delete_where is_it xs.messages =
        filter_alike (λ y. not (table.message_with_id gone.id y)) (λ y. not (is_it y)) xs.messages (λ y has. ap not (same_from_decides {P = y ≡ gone} _ _
        (λ e. same_by_key table.messages.key xs.messages y gone keyed has there.0 ((Decides-int_eq y.id gone.id).0 e), λ e. equal y.id gone.id (ap (λ (z : MessageRow). z.id) e))
        (λ e. alone y gone (subst (λ rows. Has rows y) all (has_kept is_it xs.messages y has e)), λ e. ap is_it e ∙ there.1))) in
        requeued (dropped m) changed (delete_where (table.message_with_id gone.id) xs.messages) (negsuc 0) more
        (λ id e. ap (λ rows. put_all (messages_in (of_account id rows))) same
        ∙ ap (λ rows. put_all (messages_in rows)) (filter-filter (table.message_with_account id) (λ y. not (is_it y)) (λ y mine. ap not (false_from_ne_true (is_it y) (λ t.
        let apart : true ≡ false = sym (ap (λ a. int_eq a id) (sym ((same_read it.row y m found.written.reads t).1 ∙ found.written.account)) ∙ mine) ∙ e in cc))) xs.messages))
        (ap (λ rows. put_all (messages_in (of_account row.id rows))) same
        ∙ ap put_all (subst (λ id. messages_in (of_account id (delete_where is_it xs.messages)) ≡ filter (λ n. not (tie m n)) (messages_in (of_account id xs.messages))) own (left message_of_columns (table.message_with_account it.row.account) (table.is_same_message it.row) (tie m) (same_row it.row m found.written.reads) xs.messages)) ∙ out-all message_cmp message_cmp_total message_cmp_only m before (told true (ap (λ rows. length rows == 0) one)))
        (fewer (length (dropped m (queue_in xs.messages row.id))) (length (queue_in xs.messages row.id)) (length-remove_key (tie m) (queue_in xs.messages row.id) (waits true (ap (λ rows. length rows == 0) one))))

    pub message-left : it.same ≡ [] → IsPosted days r (with_queue (dropped m)) row row xs xs
    message-left none =
        posted-still days r row xs is (with_queue (dropped m)) (λ i. record (account_of_row xs row) { queue = out-lacking message_cmp message_cmp_total message_cmp_only m (queue_in xs.messages row.id) (waits false (ap (λ rows. length rows == 0) none)) i })
