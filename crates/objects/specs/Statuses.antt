-- Statuses (RFC 5731, 2.3; RFC 5732, 2.3; RFC 5733, 2.2).
use Rattle.std.specs.Prelude.{ℕ, Bool, not, ◌&&◌, ◌||◌, ◌==◌, List, [], ◌∷◌, filter}
use Rattle.std.specs.List.{list_any}
use Rattle.objects.specs.declared.roid.ObjectKind.{ObjectKind}
use Rattle.objects.specs.declared.roid.ObjectKind.TheVariants as kinds
use Rattle.objects.specs.declared.status.Status.{Status}
use Rattle.objects.specs.declared.status.Status.TheVariants.{ClientDeleteProhibited, ClientHold, ClientRenewProhibited, ClientTransferProhibited, ClientUpdateProhibited, Inactive, Linked, Fine, PendingDelete, PendingTransfer, ServerDeleteProhibited, ServerHold, ServerRenewProhibited, ServerTransferProhibited, ServerUpdateProhibited}

-- the statuses in the order of their texts' bytes
abbrev pub all_statuses : List Status
all_statuses =
    ClientDeleteProhibited ∷ ClientHold ∷ ClientRenewProhibited ∷ ClientTransferProhibited ∷ ClientUpdateProhibited
    ∷ Inactive ∷ Linked ∷ Fine ∷ PendingDelete ∷ PendingTransfer
    ∷ ServerDeleteProhibited ∷ ServerHold ∷ ServerRenewProhibited ∷ ServerTransferProhibited ∷ ServerUpdateProhibited ∷ []

-- the place of a status in that order
abbrev pub rank_of : Status → ℕ
rank_of ClientDeleteProhibited = 0
rank_of ClientHold = 1
rank_of ClientRenewProhibited = 2
rank_of ClientTransferProhibited = 3
rank_of ClientUpdateProhibited = 4
rank_of Inactive = 5
rank_of Linked = 6
rank_of Fine = 7
rank_of PendingDelete = 8
rank_of PendingTransfer = 9
rank_of ServerDeleteProhibited = 10
rank_of ServerHold = 11
rank_of ServerRenewProhibited = 12
rank_of ServerTransferProhibited = 13
rank_of ServerUpdateProhibited = 14

abbrev pub is_status : Status → Status → Bool
is_status a b = rank_of a == rank_of b

-- the status is one of these
abbrev pub has_status : List Status → Status → Bool
has_status statuses status = list_any (λ s. is_status s status) statuses

-- the statuses that a sponsor sets on an object of a kind
abbrev pub client_statuses : ObjectKind → List Status
client_statuses kinds.Contact = ClientDeleteProhibited ∷ ClientTransferProhibited ∷ ClientUpdateProhibited ∷ []
client_statuses kinds.Domain = ClientDeleteProhibited ∷ ClientHold ∷ ClientRenewProhibited ∷ ClientTransferProhibited ∷ ClientUpdateProhibited ∷ []
client_statuses kinds.Host = ClientDeleteProhibited ∷ ClientUpdateProhibited ∷ []

-- the statuses that the operator sets on an object of a kind
abbrev pub server_statuses : ObjectKind → List Status
server_statuses kinds.Contact = ServerDeleteProhibited ∷ ServerTransferProhibited ∷ ServerUpdateProhibited ∷ []
server_statuses kinds.Domain = ServerDeleteProhibited ∷ ServerHold ∷ ServerRenewProhibited ∷ ServerTransferProhibited ∷ ServerUpdateProhibited ∷ []
server_statuses kinds.Host = ServerDeleteProhibited ∷ ServerUpdateProhibited ∷ []

-- The statuses that are shown of an object that shows these of itself: linked follows from what
-- domains name.
unfoldable pub with_linked : Bool → List Status → List Status
with_linked linked statuses = filter (λ status. (linked && is_status status Linked) || has_status statuses status) all_statuses

-- the statuses that are set after some are taken away and others added
unfoldable pub amended_statuses : List Status → List Status → List Status → List Status
amended_statuses old removed added = filter (λ status. has_status added status || (has_status old status && not (has_status removed status))) all_statuses
