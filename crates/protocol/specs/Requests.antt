-- What each command asks: the objects that it acts on, what they are to name, the secret that it
-- presents, and what of the registry it has to know.
use Rattle.std.specs.Prelude.{ℕ, Bool, true, false, not, ◌||◌, List, [], ◌∷◌, Option, Some, None, if◌then◌else◌}
use Rattle.std.specs.List.{list_any, slice_get}
use Rattle.std.specs.Str.{bytes_eq}
use Rattle.names.specs.RequestedName.{RequestedName, name_of}
use Rattle.objects.specs.declared.status.Status.{Status}
use Rattle.protocol.specs.declared.lists.Lists.{Lists}
use Rattle.protocol.specs.declared.command.Action.{Action}
use Rattle.protocol.specs.declared.command.Action.TheVariants as actions
use Rattle.protocol.specs.declared.command.Command.{Command}
use Rattle.protocol.specs.declared.command.Command.TheVariants.{Bad, Asked}
use Rattle.protocol.specs.declared.command.DomainLists.{DomainLists}
use Rattle.protocol.specs.declared.command.HostLists.{HostLists}
use Rattle.protocol.specs.declared.command.HostUpdate.{HostUpdate}
use Rattle.protocol.specs.declared.command.Request.{Request}
use Rattle.protocol.specs.declared.command.Request.TheVariants.{Balance, CheckContact, CheckDomain, CheckHost, InfoContact, InfoDomain, InfoHost, CreateContact, CreateDomain, CreateHost, DeleteContact, DeleteDomain, DeleteHost, UpdateContact, UpdateDomain, UpdateHost, RenewDomain, RequestRestore, ReportRestore, TransferContact, TransferDomain, PollRequest, PollAck, Logout}
use Rattle.protocol.specs.declared.transfer.TransferOp.{TransferOp}
use Rattle.protocol.specs.declared.transfer.TransferOp.TheVariants as transfer_ops

-- a test of what is there, if it is
abbrev pub holds_of : {A : Type 0} → (A → Bool) → Option A → Bool
holds_of test None = false
holds_of test (Some x) = test x

-- ---- the client's identifier

-- the client's own identifier of the command, which the reply repeats (RFC 5730, 2.5)
abbrev pub cl_trid_of : Command → Option (List ℕ)
cl_trid_of (Bad cl_trid code) = cl_trid
cl_trid_of (Asked cl_trid request) = cl_trid

-- what a well formed command asks, or nothing
abbrev pub asked : {A : Type 0} → A → (Request → A) → Command → A
asked none ask (Bad cl_trid code) = none
asked none ask (Asked cl_trid request) = ask request

-- ---- what each command asks

-- the lists that a command gives: what an object is to have, or to have no longer
pub record GivenLists : Type 0 where
  pub hosts : List RequestedName
  pub admin : List (List ℕ)
  pub tech : List (List ℕ)
  pub addresses : List (List ℕ)
  pub statuses : List Status

abbrev pub no_lists : GivenLists
no_lists = record { hosts = []; admin = []; tech = []; addresses = []; statuses = [] }

abbrev pub of_domain : DomainLists → GivenLists
of_domain lists = record no_lists { hosts = lists.hosts; admin = lists.admin; tech = lists.tech; statuses = lists.statuses }

abbrev pub of_host : HostLists → GivenLists
of_host lists = record no_lists { addresses = lists.addresses; statuses = lists.statuses }

-- What a command does, the contacts, domains and hosts that it acts on, the name that a host is to have, the
-- registrant that a domain is to have, what its object is to have and to have no longer, the secret
-- that is presented for it, whether the command has to know what domains name and which hosts lie
-- below one, whether it gives its registrar one domain more to hold, whether it has to know what its
-- registrar's account has, what of it is given back where its domain is deleted, and which message to
-- its registrar is the oldest and how many wait, which years it names, when it takes its domain to
-- expire, when it reports that its domain was deleted, and that the restoration was asked for, and which
-- message it says was read.
pub record Asks : Type 0 where
  pub action : Action
  pub contacts : List (List ℕ)
  pub domains : List RequestedName
  pub hosts : List RequestedName
  pub new_host : Option RequestedName
  pub registrant : Option (List ℕ)
  pub adds : GivenLists
  pub removes : GivenLists
  pub secret : Option (List ℕ)
  pub reads_associations : Bool
  pub adds_a_held_domain : Bool
  pub reads_balance : Bool
  pub reads_refund : Bool
  pub reads_oldest_message : Bool
  pub years : ℕ
  pub expires : Option (List ℕ)
  pub del_time : Option ℕ
  pub res_time : Option ℕ
  pub message : Option (List ℕ)

abbrev only : Action → Asks
only action = record {
  action = action;
  contacts = [];
  domains = [];
  hosts = [];
  new_host = None;
  registrant = None;
  adds = no_lists;
  removes = no_lists;
  secret = None;
  reads_associations = false;
  adds_a_held_domain = false;
  reads_balance = false;
  reads_refund = false;
  reads_oldest_message = false;
  years = 0;
  expires = None;
  del_time = None;
  res_time = None;
  message = None;
}

abbrev pub transfer_action : TransferOp → Action
transfer_action transfer_ops.Request = actions.RequestTransfer
transfer_action transfer_ops.Query = actions.QueryTransfer
transfer_action transfer_ops.Approve = actions.ApproveTransfer
transfer_action transfer_ops.Reject = actions.RejectTransfer
transfer_action transfer_ops.Cancel = actions.CancelTransfer

abbrev pub is_request : TransferOp → Bool
is_request transfer_ops.Request = true
is_request transfer_ops.Query = false
is_request transfer_ops.Approve = false
is_request transfer_ops.Reject = false
is_request transfer_ops.Cancel = false

-- the years that a domain's transfer is charged for, with the request (RFC 5731, 3.2.4)
abbrev pub transfer_years : TransferOp → ℕ
transfer_years transfer_ops.Request = 1
transfer_years transfer_ops.Query = 0
transfer_years transfer_ops.Approve = 0
transfer_years transfer_ops.Reject = 0
transfer_years transfer_ops.Cancel = 0

-- Info shows, and a delete is refused by, what depends on the object (RFC 5731 to 5733, 3.1.2, 3.2.2).
-- What is charged needs a balance (RFC 5730, 3: 2104). What a deletion gives back depends on the
-- graces that run (RFC 3915, 3.1).
abbrev pub asks_of : Request → Asks
asks_of Logout = only actions.Logout
asks_of Balance = record (only actions.Balance) { reads_balance = true }
asks_of (CheckContact names) = record (only actions.Check) { contacts = names }
asks_of (CheckDomain names) = record (only actions.Check) { domains = names }
asks_of (CheckHost names) = record (only actions.Check) { hosts = names }
asks_of (InfoContact name secret) = record (only actions.Info) { contacts = name ∷ []; secret = secret; reads_associations = true }
asks_of (InfoDomain name secret) = record (only actions.Info) { domains = name ∷ []; secret = secret; reads_associations = true }
asks_of (InfoHost name) = record (only actions.Info) { hosts = name ∷ []; reads_associations = true }
asks_of (CreateContact new) = record (only actions.Create) { contacts = new.name ∷ [] }
asks_of (CreateDomain new) = record (only actions.Create) {
  domains = new.name ∷ [];
  registrant = Some new.registrant;
  adds = record no_lists { hosts = new.hosts; admin = new.admin; tech = new.tech };
  adds_a_held_domain = true;
  reads_balance = true;
  years = new.years;
}
asks_of (CreateHost new) = record (only actions.Create) { hosts = new.name ∷ []; adds = record no_lists { addresses = new.addresses } }
asks_of (DeleteContact name) = record (only actions.Delete) { contacts = name ∷ []; reads_associations = true }
asks_of (DeleteDomain name) = record (only actions.Delete) { domains = name ∷ []; reads_associations = true; reads_refund = true }
asks_of (DeleteHost name) = record (only actions.Delete) { hosts = name ∷ []; reads_associations = true }
asks_of (UpdateContact update) = record (only actions.Update) {
  contacts = update.name ∷ [];
  adds = record no_lists { statuses = update.add };
  removes = record no_lists { statuses = update.rem };
}
asks_of (UpdateDomain update) = record (only actions.Update) {
  domains = update.name ∷ [];
  registrant = update.registrant;
  adds = of_domain update.add;
  removes = of_domain update.rem;
}
asks_of (UpdateHost update) = record (only actions.Update) {
  hosts = update.name ∷ [];
  new_host = update.new_name;
  adds = of_host update.add;
  removes = of_host update.rem;
}
asks_of (RenewDomain name expires years) = record (only actions.Renew) { domains = name ∷ []; reads_balance = true; years = years; expires = Some expires }
asks_of (RequestRestore name) = record (only actions.RequestRestore) { domains = name ∷ [] }
asks_of (ReportRestore name del_time res_time) = record (only actions.ReportRestore) {
  domains = name ∷ [];
  reads_balance = true;
  del_time = Some del_time;
  res_time = Some res_time;
}
asks_of (TransferContact name op secret) = record (only (transfer_action op)) { contacts = name ∷ []; secret = secret }
asks_of (TransferDomain name op secret) = record (only (transfer_action op)) {
  domains = name ∷ [];
  secret = secret;
  adds_a_held_domain = is_request op;
  reads_balance = is_request op;
  years = transfer_years op;
}
asks_of PollRequest = record (only actions.PollRequest) { reads_oldest_message = true }
asks_of (PollAck id) = record (only actions.PollAck) { reads_oldest_message = true; message = Some id }

abbrev pub contacts_asked : Request → List (List ℕ)
contacts_asked request = (asks_of request).contacts

abbrev pub domains_asked : Request → List RequestedName
domains_asked request = (asks_of request).domains

abbrev pub hosts_asked : Request → List RequestedName
hosts_asked request = (asks_of request).hosts

-- the name that a host is to have
abbrev pub new_host_asked : Request → Option RequestedName
new_host_asked request = (asks_of request).new_host

abbrev pub reads_associations : Request → Bool
reads_associations request = (asks_of request).reads_associations

abbrev pub adds_a_held_domain : Request → Bool
adds_a_held_domain request = (asks_of request).adds_a_held_domain

abbrev pub reads_balance : Request → Bool
reads_balance request = (asks_of request).reads_balance

abbrev pub reads_refund : Request → Bool
reads_refund request = (asks_of request).reads_refund

abbrev pub reads_oldest_message : Request → Bool
reads_oldest_message request = (asks_of request).reads_oldest_message

-- a contact or host that a domain is to name from now on fails its test
abbrev pub any_reference_fails : (List ℕ → Bool) → (List ℕ → Bool) → Asks → Bool
any_reference_fails contact host asks =
    holds_of (λ name. not (contact name)) asks.registrant
    || (list_any (λ name. not (contact name)) asks.adds.admin || (list_any (λ name. not (contact name)) asks.adds.tech
    || list_any (λ name. not (host (name_of name))) asks.adds.hosts))

abbrev pub references_fail : (List ℕ → Bool) → (List ℕ → Bool) → Request → Bool
references_fail contact host request = any_reference_fails contact host (asks_of request)

-- the lists, as a body has them
abbrev pub lists_of : Lists → GivenLists
lists_of lists = record {
  hosts = lists.hosts.now;
  admin = lists.admin.now;
  tech = lists.tech.now;
  addresses = lists.addresses.now;
  statuses = lists.statuses.now;
}

-- ---- the secret that is presented

-- the secret that is presented for the object of a name: there is one of that name
abbrev pub presented_at : {A : Type 0} → (A → List ℕ) → List A → Option (List ℕ) → List ℕ → Option (List ℕ)
presented_at text names None name = None
presented_at text names (Some secret) name = if holds_of (λ first. bytes_eq (text first) name) (slice_get names 0) then Some secret else None

abbrev itself : List ℕ → List ℕ
itself text = text

-- for a domain
abbrev pub domain_secret_asked : Request → List ℕ → Option (List ℕ)
domain_secret_asked request domain = presented_at name_of (domains_asked request) (asks_of request).secret domain

-- for a contact
abbrev pub contact_secret_asked : Request → List ℕ → Option (List ℕ)
contact_secret_asked request contact = presented_at itself (contacts_asked request) (asks_of request).secret contact

-- a command's, for a domain
abbrev pub presented : Command → List ℕ → Option (List ℕ)
presented (Bad cl_trid code) domain = None
presented (Asked cl_trid request) domain = domain_secret_asked request domain

-- a command's, for a contact
abbrev pub presented_contact : Command → List ℕ → Option (List ℕ)
presented_contact (Bad cl_trid code) contact = None
presented_contact (Asked cl_trid request) contact = contact_secret_asked request contact

-- ---- updates

-- the name that a host has after an update
abbrev pub final_name : HostUpdate → Option RequestedName → List ℕ
final_name update None = name_of update.name
final_name update (Some name) = name_of name
