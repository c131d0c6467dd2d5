-- The conditions as the functions have them: of a case, and of what is referred to.
use Rattle.std.specs.Prelude.{ℕ, Bool, Option, option_and_then, find}
use Rattle.std.specs.Borrow.{Bor}
use Rattle.std.specs.List.{slice_get}
use Rattle.std.specs.Option.{option_copied}
use Rattle.facts.specs.declared.facts.ContactFacts.{ContactFacts}
use Rattle.facts.specs.declared.facts.Facts.{Facts}
use Rattle.facts.specs.Facts.{contact_at}
use Rattle.model.specs.declared.object.Object.{Object}
use Rattle.protocol.specs.declared.code.Code.{Code}
use Rattle.protocol.specs.declared.command.Request.{Request}
use Rattle.protocol.specs.declared.order.StatusOrder.{StatusOrder}
use Rattle.protocol.specs.Requests.{contacts_asked, holds_of}
use Rattle.rules.specs.declared.case.Case.{Case}
use Rattle.rules.specs.declared.order.OrderCondition.{OrderCondition}
use Rattle.rules.specs.declared.order.TheConstants.{STATUS_ORDER}
use Rattle.rules.specs.declared.rules.Condition.{Condition}
use Rattle.rules.specs.Conditions.{holds}
use Rattle.rules.specs.Orders.{order_holds}
use Rattle.rules.specs.Rules.{refusal_of}

-- a test of what is referred to, if anything is
abbrev pub is_met : {A : Type 0} → (A → Bool) → Option (Bor A) → Bool
is_met test it = holds_of test (option_copied it)

-- a word of a request and the facts, of those of a case; and one of the registrar too
abbrev pub in_case : {A : Type 0} → (Request → Facts → A) → Case → A
in_case word it = word it.request.now it.facts.now

abbrev pub of_caller : {A : Type 0} → (ℕ → Request → Facts → A) → Case → A
of_caller word it = word it.caller it.request.now it.facts.now

abbrev pub holds_in : Case → Condition → Bool
holds_in it condition = holds it.policy.now it.caller it.moment it.request.now it.facts.now condition

abbrev pub refusal_in : Case → Option Code
refusal_in it = refusal_of it.policy.now it.caller it.moment it.request.now it.facts.now

abbrev pub contact_known : Request → Facts → Option ContactFacts
contact_known q f = option_and_then (contact_at f) (slice_get (contacts_asked q) 0)

-- the first condition that an order meets
abbrev pub order_refusal : StatusOrder → Option Object → Option OrderCondition
order_refusal o object = find (order_holds o object) STATUS_ORDER.now
