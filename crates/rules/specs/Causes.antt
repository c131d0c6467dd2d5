-- The cause that each condition is, wherever it is (RFC 5730, 3).
use Rattle.rules.specs.declared.order.OrderCondition.{OrderCondition}
use Rattle.rules.specs.declared.order.OrderCondition.TheVariants as orders
use Rattle.rules.specs.declared.refusal.Cause.{Cause}
use Rattle.rules.specs.declared.refusal.Cause.TheVariants.{NamesRefused, Exists, Missing, NotSponsor, WrongSecret, TransferPends, NoTransferPends, StatusProhibits, AssociationProhibits, NotRenewable, NotTransferable, ParametersRefused, LimitReached, BillingFailure}
use Rattle.rules.specs.declared.rules.Condition.{Condition}
use Rattle.rules.specs.declared.rules.Condition.TheVariants.{NameIsRefused, ListRepeats, IsThere, IsMissing, ReferenceIsMissing, NewNameIsTaken, SuperordinateIsMissing, IsAnothers, SuperordinateIsAnothers, SecretIsWrong, Shows, StillShows, SuperordinateIsDeleted, IsLinked, HasSubordinates, AddsWhatIsThere, RemovesWhatIsNot, LeavesTooMany, LeavesAddressesOutside, IsAtHoldingLimit, PassesTenYears, ExpiresOtherwise, IsNotIn, ReportDiffers, IsNotOldest, LacksMoney, SecretIsNotRight, IsStranger, StrangersSecretIsWrong, IsNotRequester, HasNoTransfer, IsPending, IsNotPending, IsOwn, IsLocked}

-- of a registrar's command
abbrev pub cause_of : Condition → Cause
cause_of NameIsRefused = NamesRefused
cause_of ListRepeats = NamesRefused
cause_of IsThere = Exists
cause_of NewNameIsTaken = Exists
cause_of IsMissing = Missing
cause_of ReferenceIsMissing = Missing
cause_of SuperordinateIsMissing = Missing
cause_of IsNotOldest = Missing
cause_of IsAnothers = NotSponsor
cause_of SuperordinateIsAnothers = NotSponsor
cause_of IsStranger = NotSponsor
cause_of IsNotRequester = NotSponsor
cause_of SecretIsWrong = WrongSecret
cause_of SecretIsNotRight = WrongSecret
cause_of StrangersSecretIsWrong = WrongSecret
cause_of IsPending = TransferPends
cause_of HasNoTransfer = NoTransferPends
cause_of IsNotPending = NoTransferPends
cause_of (Shows status) = StatusProhibits
cause_of (StillShows status) = StatusProhibits
cause_of SuperordinateIsDeleted = StatusProhibits
cause_of (IsNotIn phase) = StatusProhibits
cause_of IsLinked = AssociationProhibits
cause_of HasSubordinates = AssociationProhibits
cause_of PassesTenYears = NotRenewable
cause_of IsOwn = NotTransferable
cause_of IsLocked = NotTransferable
cause_of AddsWhatIsThere = ParametersRefused
cause_of RemovesWhatIsNot = ParametersRefused
cause_of LeavesTooMany = ParametersRefused
cause_of LeavesAddressesOutside = ParametersRefused
cause_of ExpiresOtherwise = ParametersRefused
cause_of ReportDiffers = ParametersRefused
cause_of IsAtHoldingLimit = LimitReached
cause_of LacksMoney = BillingFailure

-- of an order of the operator's
abbrev pub cause_of_order : OrderCondition → Cause
cause_of_order orders.IsMissing = Missing
cause_of_order orders.ContradictsPendingState = StatusProhibits
cause_of_order _ = ParametersRefused
