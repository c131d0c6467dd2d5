-- How two lists of questions may differ when a registrar is answered alike.
use Rattle.std.specs.Prelude.{◌≡◌, ◌≢◌, ℕ, ℤ, Bool, true, false, ◌&&◌, ◌||◌, List, [], ◌∷◌, map, Option, Some, None, is_none}
use Rattle.std.specs.FinMap.{get}
use Rattle.std.specs.List.{list_any}
use Rattle.accounts.specs.Lines.{is_same_roid}
use Rattle.model.specs.Lapse.{lapsed}
use Rattle.model.specs.Registry.{Registry}
use Rattle.objects.specs.declared.contact.Contact.{Contact}
use Rattle.objects.specs.declared.contact.Postal.{Postal}
use Rattle.objects.specs.declared.domain.Domain.{Domain}
use Rattle.objects.specs.declared.roid.Roid.{Roid}
use Rattle.objects.specs.Sight.{authorizes}
use Rattle.policy.specs.Rules.{PolicyRules, place_of}
use Rattle.protocol.specs.declared.code.Code.{Code}
use Rattle.protocol.specs.declared.command.Command.{Command}
use Rattle.protocol.specs.declared.command.Command.TheVariants.{Asked}
use Rattle.protocol.specs.declared.command.Request.{Request}
use Rattle.protocol.specs.declared.command.Request.TheVariants.{Balance, CheckContact, CheckDomain, CheckHost, InfoContact, InfoDomain, InfoHost, CreateContact, CreateDomain, CreateHost, DeleteContact, DeleteDomain, DeleteHost, UpdateContact, UpdateDomain, UpdateHost, RenewDomain, RequestRestore, ReportRestore, TransferContact, TransferDomain, PollRequest, PollAck, Logout}
use Rattle.protocol.specs.declared.order.Order.TheVariants.{Deposit}
use Rattle.protocol.specs.Requests.{asks_of, presented, presented_contact}
use Rattle.decisions.specs.declared.change.Change.{Change}
use Rattle.decisions.specs.declared.change.Change.TheVariants.{MoveClock, OpenAccount, PutContact, DropContact, PutDomain, DropDomain, PutHost, DropHost, RenameHost, LapseContact, LapseDomain, Post}
use Rattle.decisions.specs.Decisions.{or_old}
use Rattle.decisions.specs.Steps.{decision}
use Rattle.isolation.specs.Redaction.{Objects}
use Rattle.isolation.specs.Runs.{Answer, Question, answer_to, code, command, is_asked_by, left_by_question, order, reply}

-- ---- hidden arguments

-- Secrets, set or presented, and a contact's data. The texts of a report on a restoration are checked
-- and not kept, and no request has them.
pub record Hidden : Type 0 where
  pub secret : Option (List ℕ)
  pub postal : Option Postal
  pub voice : Option (List ℕ)
  pub mail : Option (List ℕ)

-- a request with other hidden arguments; one that it has to have, and isn't given, stays
abbrev pub with_hidden : Hidden → Request → Request
with_hidden h Logout = Logout
with_hidden h Balance = Balance
with_hidden h (CheckContact names) = CheckContact names
with_hidden h (CheckDomain names) = CheckDomain names
with_hidden h (CheckHost names) = CheckHost names
with_hidden h (InfoContact name secret) = InfoContact name h.secret
with_hidden h (InfoDomain name secret) = InfoDomain name h.secret
with_hidden h (InfoHost name) = InfoHost name
with_hidden h (CreateContact new) = CreateContact (record new { secret = or_old h.secret new.secret; postal = or_old h.postal new.postal; voice = h.voice; mail = or_old h.mail new.mail })
with_hidden h (CreateDomain new) = CreateDomain (record new { secret = or_old h.secret new.secret })
with_hidden h (CreateHost new) = CreateHost new
with_hidden h (DeleteContact name) = DeleteContact name
with_hidden h (DeleteDomain name) = DeleteDomain name
with_hidden h (DeleteHost name) = DeleteHost name
with_hidden h (UpdateContact u) = UpdateContact (record u { secret = h.secret; postal = h.postal; voice = h.voice; mail = h.mail })
with_hidden h (UpdateDomain u) = UpdateDomain (record u { secret = h.secret })
with_hidden h (UpdateHost u) = UpdateHost u
with_hidden h (RenewDomain name expires years) = RenewDomain name expires years
with_hidden h (RequestRestore name) = RequestRestore name
with_hidden h (ReportRestore name del_time res_time) = ReportRestore name del_time res_time
with_hidden h (TransferContact name op secret) = TransferContact name op h.secret
with_hidden h (TransferDomain name op secret) = TransferDomain name op h.secret
with_hidden h PollRequest = PollRequest
with_hidden h (PollAck id) = PollAck id

-- ---- two lists, question by question

-- The same question in both lists; a command of a registrar, with its identifier, that has other hidden
-- arguments in the second; or a deposit to a registrar of other cents in the second.
pub data Pair : Type 0 where
  same : Question → Pair
  hidden : ℕ → Option (List ℕ) → Request → Hidden → Pair
  deposits : List ℕ → ℤ → ℤ → Pair

abbrev pub first : Pair → Question
first (same x) = x
first (hidden q cl_trid request h) = command q (Asked cl_trid request)
first (deposits registrar cents other) = order (Deposit registrar cents)

abbrev pub second : Pair → Question
second (same x) = x
second (hidden q cl_trid request h) = command q (Asked cl_trid (with_hidden h request))
second (deposits registrar cents other) = order (Deposit registrar other)

abbrev pub firsts : List (ℕ × Pair) → List (ℕ × Question)
firsts pairs = map (λ (pair : ℕ × Pair). (pair.0, first pair.1)) pairs

abbrev pub seconds : List (ℕ × Pair) → List (ℕ × Question)
seconds pairs = map (λ (pair : ℕ × Pair). (pair.0, second pair.1)) pairs

-- what differs is others': their hidden arguments, and deposits to them
abbrev pub DiffersElsewhere : PolicyRules → ℕ → Pair → Type 0
DiffersElsewhere p r (same x) = Unit {0}
DiffersElsewhere p r (hidden q cl_trid request h) = q ≢ r
DiffersElsewhere p r (deposits registrar cents other) = place_of registrar p ≢ Some r

-- ---- what is touched

-- the change puts an object
abbrev pub puts : Roid → Change → Bool
puts roid (MoveClock t) = false
puts roid (OpenAccount r) = false
puts roid (PutContact c) = is_same_roid c.roid roid
puts roid (DropContact name) = false
puts roid (PutDomain d) = is_same_roid d.roid roid
puts roid (DropDomain name) = false
puts roid (PutHost h) = false
puts roid (DropHost name) = false
puts roid (RenameHost old h) = false
puts roid (LapseContact name left) = false
puts roid (LapseDomain name left) = false
puts roid (Post r what) = false

-- A command that sets other hidden data, as creates and updates do, touches the objects that it puts. One
-- that presents a secret sets none; and two secrets of one object can both be right only where it is touched
-- already. What is touched stays so.
abbrev pub touched_by : PolicyRules → Pair → Registry → Objects → Objects
touched_by p (hidden q cl_trid request h) s touched = λ roid. touched roid || (is_none (asks_of request).secret && list_any (puts roid) (decision p q (Asked cl_trid request) s).changes)
touched_by p _ s touched = touched

-- ---- what is asked of the questions of a pair

abbrev pub code_given : Answer → Option Code
code_given (reply a) = Some a.code
code_given (code a) = Some a
code_given _ = None

-- it presents no right secret of an object that is touched
pub record PresentsNone (touched : Objects) (c : Command) (s : Registry) : Type 0 where
  pub contacts : (name : List ℕ) (o : Contact) → get s.contacts name ≡ Some o
      → authorizes (presented_contact c name) o.secret ≡ true → touched o.roid ≡ false
  pub domains : (name : List ℕ) (o : Domain) → get s.domains name ≡ Some o
      → authorizes (presented c name) o.secret ≡ true → touched o.roid ≡ false

abbrev pub PresentsNoneFor : ℕ → Objects → Question → Registry → Type 0
PresentsNoneFor r touched (command q c) s = q ≡ r → PresentsNone touched c s
PresentsNoneFor r touched _ s = Unit {0}

-- What differs is others'. What the registrar can't have asked is answered by one code in both. And in
-- neither does the registrar present a right secret of what is touched, as the registries are then.
pub record IsAlike (p : PolicyRules) (r : ℕ) (touched : Objects) (pair : Pair) (s t : Registry) : Type 0 where
  pub elsewhere : DiffersElsewhere p r pair
  pub codes : is_asked_by r (first pair) ≡ false
      → code_given (answer_to p (first pair) s) ≡ code_given (answer_to p (second pair) t)
  pub presents : PresentsNoneFor r touched (first pair) s
  pub presents_too : PresentsNoneFor r touched (second pair) t

-- so it is of all, one after another
abbrev pub AreAlikeInTurn : PolicyRules → ℕ → Objects → List (ℕ × Pair) → Registry → Registry → Type 0
AreAlikeInTurn p r touched [] s t = Unit {0}
AreAlikeInTurn p r touched (pair ∷ pairs) s t =
    IsAlike p r touched pair.1 (lapsed p pair.0 s) (lapsed p pair.0 t)
    × AreAlikeInTurn p r (touched_by p pair.1 (lapsed p pair.0 s) touched) pairs
    (left_by_question p (pair.0, first pair.1) s) (left_by_question p (pair.0, second pair.1) t)
