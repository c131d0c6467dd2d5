-- A request that was heard (RFC 9112, 2.1 and 6.2).
use Rattle.std.specs.Prelude.{◌≡◌, ℕ, ◌<◌, ◌≤◌, List, [], ◌++◌, length, Option, IfSome, ⊤}
use Rattle.httparse.specs.Grammar.{HasNoRequest, MayBecomeRequest, ReadsRequest, RequestHead, print_request}
use Rattle.operator.specs.declared.request.Asked.{Asked}
use Rattle.operator.specs.declared.request.Asked.TheVariants.{Order, Zone, Metrics, Statement, Refused}
use Rattle.operator.specs.declared.hearing.TheConstants.{MOST_HEAD}
use Rattle.operator.specs.declared.hearing.Unheard.{Unheard}
use Rattle.operator.specs.declared.hearing.Unheard.TheVariants.{Headless, Lost}
use Rattle.operator.specs.Requests.{IsAskedBy, most_head_fields}
use Rattle.policy.specs.Rules.{PolicyRules}

-- the most bytes of a head, with the empty line at its end
abbrev pub most_head : ℕ
most_head = MOST_HEAD

-- as long as a head may be, and with as many fields
abbrev pub KeepsLimits : RequestHead → Type 0
KeepsLimits h = (length (print_request h) ≤ most_head) × (length h.fields ≤ most_head_fields)

-- an order has a body of the length that was given, and nothing else has one
abbrev pub IsBodyOf : Asked → List ℕ → Type 0
IsBodyOf (Order n) body = length body ≡ n
IsBodyOf Zone body = body ≡ []
IsBodyOf Metrics body = body ≡ []
IsBodyOf (Statement extract) body = body ≡ []
IsBodyOf (Refused why) body = body ≡ []

-- The input begins with a head by which this is asked, and with this body after it. Of an input that isn't
-- known, some head is heard.
pub record IsHeard (p : PolicyRules) (credentials : List ℕ) (input : Option (List ℕ)) (asked : Asked) (body : List ℕ) : Type 0 where
  pub head : RequestHead
  pub limits : KeepsLimits head
  pub by : IsAskedBy p credentials head asked
  pub begins : IfSome input (λ bytes. (rest : List ℕ) × ReadsRequest bytes head (body ++ rest))
  pub body_is : IsBodyOf asked body

-- the input begins with no head that keeps the limits
abbrev pub IsHeadless : List ℕ → Type 0
IsHeadless bytes = (h : RequestHead) (rest : List ℕ) → ReadsRequest bytes h rest → ¬ (KeepsLimits h)

-- Why none is heard. A read may fail at any byte, and memory may run out.
abbrev pub IsUnheard : Option (List ℕ) → Unheard → Type 0
IsUnheard input Headless = IfSome input IsHeadless
IsUnheard input Lost = ⊤

-- ---- how much is read

-- if the bytes begin with no such head, they never will, whatever follows
abbrev pub StaysHeadless : List ℕ → Type 0
StaysHeadless bytes = IsHeadless bytes → (more : List ℕ) → IsHeadless (bytes ++ more)

-- they begin with no whole head yet, and may become one
abbrev pub IsOpen : List ℕ → Type 0
IsOpen bytes = (length bytes < most_head) × HasNoRequest bytes × MayBecomeRequest bytes
