-- What the lines of a script are answered.
use Rattle.std.specs.Prelude.{◌≡◌, ◌≢◌, ◌⊎◌, ◌+◌, ◌≤◌, ◌==◌, ℕ, List, [], ◌∷◌, ◌++◌, length, if◌then◌else◌, Option, Some, None, IsSome, codes}
use Rattle.std.specs.List.{flat_map}
use Rattle.std.specs.Io.KnownBytes.{Appends}
use Rattle.eppcommands.specs.Session.{in_session}
use Rattle.eppcommands.specs.Order.{order_in}
use Rattle.eppreplies.specs.Answer.{answer_text}
use Rattle.eppreplies.specs.Greeting.{greeting_text}
use Rattle.eppreplies.specs.Reply.{reply_text}
use Rattle.frames.specs.Texts.{failed_text}
use Rattle.policy.specs.Rules.{PolicyRules}
use Rattle.registry.specs.Execution.{IsGreetingStep, IsOrderStep, IsSettlement, IsStep, last_call}
use Rattle.script.specs.declared.exit.Exit.{Exit}
use Rattle.script.specs.declared.exit.Exit.TheVariants as exits
use Rattle.script.specs.declared.line.Sender.{Sender}
use Rattle.script.specs.declared.line.Sender.TheVariants.{Registrar, Operator}
use Rattle.script.specs.Lines.{Asked, IsLine}
use Rattle.books.specs.Book.{BookState}
use Rattle.protocol.specs.declared.code.Code.{Code}
use Rattle.protocol.specs.declared.code.Code.TheVariants.{Completed}
use Rattle.protocol.specs.declared.command.Command.{Command}
use Rattle.protocol.specs.declared.order.OperatorRequest.{OperatorRequest}
use Rattle.protocol.specs.declared.order.OperatorRequest.TheVariants as requests
use Rattle.protocol.specs.declared.order.Order.{Order}
use Rattle.protocol.specs.declared.reply.Reply.{Reply}
use Rattle.protocol.specs.declared.session.InSession.{InSession}
use Rattle.protocol.specs.declared.session.InSession.TheVariants.{Hello, Ordinary}
use Rattle.model.specs.Registry.{Registry}

-- the registry that a book holds
abbrev pub kept : BookState → Registry
kept b = b.content.registry

-- ---- one line

-- A call gives up after the last moment, or for want of memory; then it changes nothing, and a fixed text is answered.
pub record GivesUp (before after : Registry) (text : List ℕ) : Type 0 where
  pub same : after ≡ before
  pub fixed : text ≡ failed_text

-- one step of the rules by a registrar's command, and the text of its reply
pub record IsCommandStep (p : PolicyRules) (r : ℕ) (c : Command) (moment : ℕ) (before after : Registry) (text : List ℕ) : Type 0 where
  pub reply : Reply
  pub early : moment ≤ last_call
  pub step : IsStep p r c moment before after reply
  pub written : text ≡ reply_text reply

-- hello is answered with the greeting
pub record IsHelloStep (p : PolicyRules) (moment : ℕ) (before after : Registry) (text : List ℕ) : Type 0 where
  pub date : ℕ
  pub early : moment ≤ last_call
  pub step : IsGreetingStep p moment before after date
  pub written : text ≡ greeting_text date

-- one step of the rules by an order of the operator, and the text of its answer
pub record IsOrderedStep (p : PolicyRules) (order : Order) (moment : ℕ) (before after : Registry) (text : List ℕ) : Type 0 where
  pub code : Code
  pub early : moment ≤ last_call
  pub step : IsOrderStep p order moment before after code
  pub written : text ≡ answer_text code None

-- some of what is due lapses, and the text says of how many objects
pub record IsSettledStep (p : PolicyRules) (at_most moment : ℕ) (before after : Registry) (text : List ℕ) : Type 0 where
  pub done : ℕ
  pub early : moment ≤ last_call
  pub step : IsSettlement p moment at_most before after done
  pub written : text ≡ answer_text Completed (Some done)

-- what the operator sends takes one registry to another
abbrev pub OperatorSteps : PolicyRules → OperatorRequest → ℕ → Registry → Registry → List ℕ → Type 0
OperatorSteps p (requests.Order order) moment before after text =
    IsOrderedStep p order moment before after text
OperatorSteps p (requests.Settle at_most) moment before after text =
    IsSettledStep p at_most moment before after text

-- what a registrar says takes one registry to another; it is taken as logged in
abbrev pub SaidSteps : PolicyRules → ℕ → InSession → ℕ → Registry → Registry → List ℕ → Type 0
SaidSteps p r Hello moment before after text = IsHelloStep p moment before after text
SaidSteps p r (Ordinary c) moment before after text = IsCommandStep p r c moment before after text

-- what somebody sends at a moment takes one registry to another, and is answered by a text
abbrev pub SenderSteps : PolicyRules → Sender → List ℕ → ℕ → Registry → Registry → List ℕ → Type 0
SenderSteps p (Registrar r) payload moment before after text =
    SaidSteps p r (in_session payload) moment before after text
SenderSteps p Operator payload moment before after text =
    (request : OperatorRequest) × (order_in payload ≡ Some request)
    × OperatorSteps p request moment before after text

abbrev pub IsPayloadAnswered : PolicyRules → Sender → List ℕ → ℕ → Registry → Registry → List ℕ → Type 0
IsPayloadAnswered p sender payload moment before after text =
    GivesUp before after text ⊎ SenderSteps p sender payload moment before after text

-- what a line asks is answered
pub record Answers (p : PolicyRules) (line : List ℕ) (before after : Registry) (text : List ℕ) : Type 0 where
  pub asked : Asked
  pub form : IsLine p line asked
  pub answered : IsPayloadAnswered p asked.sender asked.payload asked.moment before after text

-- what the operator sends has to be an order, or a settlement
abbrev pub Asks : Sender → List ℕ → Type 0
Asks (Registrar r) payload = Unit {0}
Asks Operator payload = IsSome (order_in payload)

-- the line isn't of the form
abbrev pub AsksNothing : PolicyRules → List ℕ → Type 0
AsksNothing p line = (asked : Asked) → IsLine p line asked → Asks asked.sender asked.payload → ⊥

-- ---- the lines of a script

-- a line ends with a line feed, or with the end of the input
abbrev pub begun_with : ℕ → List (List ℕ) → List (List ℕ)
begun_with byte [] = (byte ∷ []) ∷ []
begun_with byte (line ∷ lines) = (byte ∷ line) ∷ lines

abbrev pub lines_of : List ℕ → List (List ℕ)
lines_of [] = []
lines_of (byte ∷ bytes) = if byte == 10 then [] ∷ lines_of bytes else begun_with byte (lines_of bytes)

-- Each line that isn't empty is answered, and takes the registry to the next. An empty line is skipped.
abbrev pub Prints : PolicyRules → List (List ℕ) → Registry → Registry → List (List ℕ) → Type 0
Prints p [] before after replies = (after ≡ before) × (replies ≡ [])
Prints p ([] ∷ lines) before after replies = Prints p lines before after replies
Prints p ((byte ∷ bytes) ∷ lines) before after replies =
    (reply : List ℕ) × (others : List (List ℕ)) × (between : Registry)
    × (replies ≡ reply ∷ others) × Answers p (byte ∷ bytes) before between reply
    × Prints p lines between after others

-- replies as they are printed, each ended by a line feed
abbrev pub printed : List (List ℕ) → List ℕ
printed replies = flat_map (λ reply. reply ++ codes "\n") replies

-- ---- a run

-- all lines are answered
pub record Finishes (p : PolicyRules) (before after : Registry) (input written : List ℕ) : Type 0 where
  pub replies : List (List ℕ)
  pub prints : Prints p (lines_of input) before after replies
  pub text : written ≡ printed replies

-- the lines are answered up to line n, counted from 1 with empty ones, which isn't of the form
pub record Stops (p : PolicyRules) (before after : Registry) (input written : List ℕ) (n : ℕ) : Type 0 where
  pub lines : List (List ℕ)
  pub line : List ℕ
  pub others : List (List ℕ)
  pub split : lines_of input ≡ lines ++ line ∷ others
  pub number : n ≡ length lines + 1
  pub some : line ≢ []
  pub bad : AsksNothing p line
  pub replies : List (List ℕ)
  pub prints : Prints p lines before after replies
  pub text : written ≡ printed replies

-- The first lines of an input are answered, and the front of some bytes that were pending and of the replies
-- is written.
pub record BeginsBehind (pending : List ℕ) (p : PolicyRules) (before after : Registry) (input written : List ℕ) : Type 0 where
  pub lines : List (List ℕ)
  pub others : List (List ℕ)
  pub split : lines_of input ≡ lines ++ others
  pub replies : List (List ℕ)
  pub prints : Prints p lines before after replies
  pub rest : List ℕ
  pub text : pending ++ printed replies ≡ written ++ rest

-- the front of the replies to some first lines is written
abbrev pub BeginsReplies : PolicyRules → (before after : Registry) → (input written : List ℕ) → Type 0
BeginsReplies p before after input written = BeginsBehind [] p before after input written

-- the known bytes grew by some that P holds of
abbrev pub Writes : Option (List ℕ) → Option (List ℕ) → (List ℕ → Type 0) → Type 0
Writes old new P = (bytes : List ℕ) × Appends old new bytes × P bytes

-- How a run ends that answers an input in a registry, and what the lines leave that are answered. A fault of the
-- input, of the output or of memory leaves the front of the replies to some first lines: nothing is written
-- twice, and nothing left out.
abbrev pub EndsIn : PolicyRules → (before after : Registry) → List ℕ → Option (List ℕ)
    → Option (List ℕ) → Exit → Type 0
EndsIn p before after input old new exits.Done = Writes old new (Finishes p before after input)
EndsIn p before after input old new (exits.Script n) =
    Writes old new (λ written. Stops p before after input written n)
EndsIn p before after input old new exits.File = Writes old new (BeginsReplies p before after input)
EndsIn p before after input old new exits.Memory = Writes old new (BeginsReplies p before after input)
EndsIn p before after input old new _ = ⊥

-- the same, whatever it leaves
abbrev pub EndsRun : PolicyRules → Registry → List ℕ → Option (List ℕ) → Option (List ℕ) → Exit
    → Type 0
EndsRun p before input old new exit = (after : Registry) × EndsIn p before after input old new exit
