-- Which of the causes against a command is answered.
use Rattle.std.specs.Prelude.{◌≡◌, ℕ, ◌<◌, Bool, true, false, nat_le, ◌&&◌, List, [], ◌∷◌, Option, option_map, find}
use Rattle.protocol.specs.declared.code.Code.{Code}
use Rattle.protocol.specs.declared.code.Code.TheVariants as codes
use Rattle.protocol.specs.Codes.{is_accepted}
use Rattle.rules.specs.declared.refusal.Cause.{Cause}
use Rattle.rules.specs.declared.refusal.Cause.TheVariants.{NamesRefused, Exists, Missing, NotSponsor, WrongSecret, TransferPends, NoTransferPends, StatusProhibits, AssociationProhibits, NotRenewable, NotTransferable, ParametersRefused, LimitReached, BillingFailure}

abbrev pub code_of : Cause → Code
code_of NamesRefused = codes.ParameterPolicy
code_of Exists = codes.ObjectExists
code_of Missing = codes.ObjectMissing
code_of NotSponsor = codes.AuthorizationError
code_of WrongSecret = codes.InvalidAuthorization
code_of TransferPends = codes.PendingTransfer
code_of NoTransferPends = codes.NotPendingTransfer
code_of StatusProhibits = codes.StatusProhibits
code_of AssociationProhibits = codes.AssociationProhibits
code_of NotRenewable = codes.NotEligibleForRenewal
code_of NotTransferable = codes.NotEligibleForTransfer
code_of ParametersRefused = codes.ParameterPolicy
code_of LimitReached = codes.DataManagementPolicy
code_of BillingFailure = codes.BillingFailure

-- a cause's place in the order in which they answer; the session and the form of a command are
-- first and second
abbrev pub place_of : Cause → ℕ
place_of NamesRefused = 3
place_of Exists = 4
place_of Missing = 5
place_of NotSponsor = 6
place_of WrongSecret = 7
place_of TransferPends = 8
place_of NoTransferPends = 9
place_of StatusProhibits = 10
place_of AssociationProhibits = 11
place_of NotRenewable = 12
place_of NotTransferable = 13
place_of ParametersRefused = 14
place_of LimitReached = 15
place_of BillingFailure = 16

-- the conditions of a table are in the order of their causes, from one place on
abbrev pub in_order_from : {C : Type 0} → (C → Cause) → ℕ → List C → Bool
in_order_from cause place [] = true
in_order_from cause place (condition ∷ rest) =
    nat_le place (place_of (cause condition))
    && in_order_from cause (place_of (cause condition)) rest

abbrev pub in_order : {C : Type 0} → (C → Cause) → List C → Bool
in_order cause conditions = in_order_from cause 0 conditions

-- the first condition that holds answers, by its cause
unfoldable pub first_refusal : {C : Type 0} → (C → Cause) → (C → Bool) → List C → Option Code
first_refusal cause holds conditions =
    option_map (λ condition. code_of (cause condition)) (find holds conditions)

-- ---- what an answer keeps, where each cause has its law

-- It refuses with the code of the first cause whose law is broken.
pub record IsRefused (Keeps : Cause → Type 0) (code : Code) : Type 0 where
  pub cause : Cause
  pub answer_is : code ≡ code_of cause
  pub broken : Keeps cause → ⊥
  pub first : (other : Cause) → place_of other < place_of cause → Keeps other

-- What is carried out is lawful, what is lawful is carried out, and what is refused breaks the law that
-- its code names.
pub record AnswersByLaws (Keeps : Cause → Type 0) (code : Code) : Type 0 where
  pub carried_out : is_accepted code ≡ true → (cause : Cause) → Keeps cause
  pub accepted : ((cause : Cause) → Keeps cause) → is_accepted code ≡ true
  pub refused : is_accepted code ≡ false → IsRefused Keeps code
