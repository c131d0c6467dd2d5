-- Messages that wait, how they lie in their table, and the order of a queue.
use Rattle.std.specs.Prelude.{◌&&◌, Bool, filter, ℤ, List, [], ◌∷◌, refl}
use Rattle.std.specs.declared.cmp.Ordering.{Ordering}
use Rattle.std.specs.Ordering.{int_cmp, int_eq, on}
use Rattle.sqlite_value.specs.declared.value.Value.TheVariants.{Int, Text}
use Rattle.sqlite_value.specs.Order.{Row}
use Rattle.sqlite_keyed.specs.Lists.{sort_by}
use Rattle.sqlite_typed.specs.Tests.{bytes_cmp, bytes_eq}
use Rattle.sqlrows.specs.Layouts.{Layout}
use Rattle.sqlrows.specs.inner.Layouts.{by_then_key}
use Rattle.sqltables.specs.inner.Rows.{stored}
pub use Rattle.sqltables.specs.declared.message.MessageRow.{MessageRow}

-- as a query shows it, and as parameters
abbrev pub message_shown : MessageRow → Row
message_shown x = Int x.id ∷ Int x.account ∷ Int x.moment ∷ Int x.class ∷ Int x.number ∷ Text x.name ∷ Int x.subject ∷ Int x.notice ∷ []

abbrev pub messages : Layout MessageRow
messages = record { tree = 12; key = λ x. x.id; to_row = λ x. stored (message_shown x); keyed = λ x. refl }

abbrev pub message_with_account : ℤ → MessageRow → Bool
message_with_account v x = int_eq x.account v

abbrev pub message_with_id : ℤ → MessageRow → Bool
message_with_id v x = int_eq x.id v

-- equal in all columns but the number
abbrev pub is_same_message : MessageRow → MessageRow → Bool
is_same_message m x =
    int_eq x.account m.account
    && (int_eq x.moment m.moment && (int_eq x.class m.class && (int_eq x.number m.number && (bytes_eq x.name m.name && (int_eq x.subject m.subject && int_eq x.notice m.notice)))))

-- by moment; at one moment what time brought by letter and then the object's name, then commands' by number
abbrev pub message_order : List (MessageRow → MessageRow → Ordering)
message_order =
    on (λ (m : MessageRow). m.moment) int_cmp
    ∷ on (λ (m : MessageRow). m.class) int_cmp
    ∷ on (λ (m : MessageRow). m.number) int_cmp
    ∷ on (λ (m : MessageRow). m.name) bytes_cmp
    ∷ on (λ (m : MessageRow). m.subject) int_cmp
    ∷ on (λ (m : MessageRow). m.notice) int_cmp
    ∷ []

-- an account's messages in their order
abbrev pub queue_of : ℤ → List MessageRow → List MessageRow
queue_of account xs =
    sort_by (by_then_key messages message_order) (filter (message_with_account account) xs)
