-- A registrar's queue of messages (RFC 5730, 2.9.2.3).
use Rattle.std.specs.Prelude.{ℕ, Bool, false, if◌then◌else◌, List, [], ◌∷◌}
use Rattle.std.specs.BTreeMap.{is_at}
use Rattle.std.specs.BTreeSet.{insert_key}
use Rattle.std.specs.List.{list_any}
use Rattle.std.specs.Set.{remove_key}
use Rattle.std.specs.Str.{bytes_eq}
use Rattle.accounts.specs.declared.message.Message.{Message}
use Rattle.accounts.specs.Messages.{message_cmp, message_id}

-- the queue with a message where it belongs in their order; one that is there stays as it is
abbrev pub put : Message → List Message → List Message
put m queue = insert_key message_cmp queue m

abbrev pub has : Message → List Message → Bool
has m queue = list_any (is_at (message_cmp m)) queue

-- the queue without a message
abbrev pub dropped : Message → List Message → List Message
dropped m queue = remove_key (is_at (message_cmp m)) queue

abbrev pub is_oldest : List ℕ → List Message → Bool
is_oldest id [] = false
is_oldest id (m ∷ ms) = bytes_eq (message_id m) id

-- the queue without its oldest message, where that has the identifier
abbrev pub acked : List ℕ → List Message → List Message
acked id [] = []
acked id (m ∷ ms) = if bytes_eq (message_id m) id then ms else m ∷ ms
