-- What commands post of messages, where the account's row isn't written.
use Rattle.std.proofs.Common.{◌≡◌, ℕ, true, false, List, [], ◌∷◌, Option, Some, refl, sym, ap, ◌∙◌}
use Rattle.std.specs.Str.{bytes_eq}
use Rattle.sqlaccounts.proofs.Words.{account_of_row, account_of_rows, AccountRow, acked, Content, counted_in, dropped, HasNewCounters}
use Rattle.sqlaccounts.proofs.Words.{IsPosted, IsRowOf, Message, message_id, next_message, notified, numbered, put, Schedule, slice_get, with_acked}
use Rattle.sqlaccounts.proofs.Words.{with_counters, with_queue}
use Rattle.sqlaccounts.proofs.PostingLemmas.{counts-posted, own-queue, posted-as, posted-on, posted-still, row-posted}
use Rattle.accounts.specs.{declared.counters.Counters.Counters, MessageOrder.message_eq_equiv}
use Rattle.lifecycle.specs.declared.change.Notification.{Notification}

-- ---- a command's message

pub notice-posted : (days : Option Schedule) (r : ℕ) (row mid changed : AccountRow) (xs ys : Content) (is : IsRowOf r row xs) (n : Notification) (x : Counters) (m : Message)
    → x ≡ next_message (counted_in row) → m ≡ numbered x.messages n → IsPosted days r (with_queue (put m)) row mid xs ys → HasNewCounters x mid changed → IsPosted days r (notified n) row changed xs ys
notice-posted days r row mid changed xs ys is n x m counts named it counted =
    let told : m ≡ numbered (next_message (counted_in row)).messages n = named ∙ ap (λ (y : Counters). numbered y.messages n) counts in
    posted-as days r (λ a. with_counters x (with_queue (put m) a)) (notified n) row changed xs ys is
    (λ i. with_counters (counts i) (with_queue (put (told i)) (account_of_row xs row)))
    (posted-on days r (with_queue (put m)) (with_counters x) row mid changed xs ys ys it
    (counts-posted days r mid ys (row-posted days r (with_queue (put m)) row mid xs ys is it) (with_counters x) x changed refl counted))

-- ---- a message that is acknowledged

-- the queue is asked for its first message, and only that can have the identifier
kept-unnamed : (id : List ℕ) (queue : List Message) (o : Option Message) → slice_get queue 0 ≡ o → ((m : Message) → o ≡ Some m → bytes_eq (message_id m) id ≡ false) → acked id queue ≡ queue
kept-unnamed id [] o e other = refl
kept-unnamed id (n ∷ ns) o e other = rw (other n (sym e))

first-acked : (id : List ℕ) (m : Message) (queue : List Message) → slice_get queue 0 ≡ Some m → bytes_eq (message_id m) id ≡ true → dropped m queue ≡ acked id queue
first-acked id m [] e named = cc
first-acked id m (n ∷ ns) e named =
    let first : m ≡ n = cc in
    rw (first, message_eq_equiv.refl n, ← first, named)

module _ (days : Option Schedule) (r : ℕ) (row : AccountRow) (xs : Content) (is : IsRowOf r row xs) (id : List ℕ) (o : Option Message) (first : o ≡ slice_get (account_of_rows r xs).queue 0) where
  first_is : slice_get (account_of_row xs row).queue 0 ≡ o
  first_is = sym (first ∙ ap (λ ms. slice_get ms 0) (own-queue r row xs is))

  pub none-to-ack : ((m : Message) → o ≡ Some m → bytes_eq (message_id m) id ≡ false) → IsPosted days r (with_acked id) row row xs xs
  none-to-ack other = posted-still days r row xs is (with_acked id) (λ i. record (account_of_row xs row) { queue = kept-unnamed id (account_of_row xs row).queue o first_is other i })

  pub ack-posted : (m : Message) (changed : AccountRow) (ys : Content) → o ≡ Some m → bytes_eq (message_id m) id ≡ true → IsPosted days r (with_queue (dropped m)) row changed xs ys → IsPosted days r (with_acked id) row changed xs ys
  ack-posted m changed ys some named it =
      posted-as days r (with_queue (dropped m)) (with_acked id) row changed xs ys is
      (λ i. record (account_of_row xs row) { queue = first-acked id m (account_of_row xs row).queue (first_is ∙ some) named i }) it
