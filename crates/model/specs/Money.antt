-- What becomes of the money of an account: no line vanishes, a line is given back once at most, whole and
-- lawfully, and automatic renewals alone take a balance below zero (RFC 3915, 3.1).
use Rattle.std.specs.Prelude.{◌≡◌, ◌⊎◌, ℕ, ◌≤◌, ◌<◌, true, List, ◌++◌, map, Some, None, pos, ◌≤ℤ◌}
use Rattle.std.specs.FinMap.{get}
use Rattle.std.specs.List.{AllByRecursion}
use Rattle.accounts.specs.declared.line.Line.{Line}
use Rattle.accounts.specs.declared.line.LineKind.TheVariants as kinds
use Rattle.accounts.specs.Lines.{balance, in_order, is_kind, is_on}
use Rattle.basis.specs.Bag.{bag_of}
use Rattle.lifecycle.specs.Graces.{period_of, runs_from}
use Rattle.objects.specs.declared.domain.Domain.{Domain}
use Rattle.objects.specs.declared.transfer.Transfer.{Transfer}
use Rattle.objects.specs.declared.transfer.TransferState.TheVariants.{ClientRejected, ClientCancelled}
use Rattle.policy.specs.Rules.{PolicyRules}
use Rattle.model.specs.Lapse.{lapsed}
use Rattle.model.specs.Registry.{Registry, account_of}

-- ---- a line

-- what a line says of its charge, from when it was recorded on
pub record IsSameCharge (l m : Line) : Type 0 where
  pub kind : m.kind ≡ l.kind
  pub roid : m.roid ≡ l.roid
  pub recorded : m.recorded ≡ l.recorded
  pub cents : m.cents ≡ l.cents

pub record HasSameGrace (l m : Line) : Type 0 where
  pub started : m.started ≡ l.started
  pub years : m.years ≡ l.years

-- a grace begins sooner than another; or at its very moment, and for fewer years
abbrev pub IsSooner : ℕ → ℕ → ℕ → ℕ → Type 0
IsSooner start years other most = (start < other) ⊎ ((start ≡ other) × (years < most))

-- The grace of a transfer, which began by a moment. Where it had begun, it is sooner now: none begins anew.
pub record HasBegun (u : ℕ) (l m : Line) : Type 0 where
  pub transfer : is_kind m.kind kinds.Transfer ≡ true
  pub start : ℕ
  pub started : m.started ≡ Some start
  pub come : start ≤ u
  pub sooner : (other : ℕ) → l.started ≡ Some other → IsSooner start m.years other l.years

-- What may become of a line by a moment. It stays a line of the same charge. The grace of a transfer's
-- may begin; no other grace changes. It may be given back, where that is lawful; then it stays as it is.
pub record LineFollows (IsLawful : ℕ → Line → Type 0) (u : ℕ) (l m : Line) : Type 0 where
  pub charge : IsSameCharge l m
  pub grace : HasSameGrace l m ⊎ HasBegun u l m
  pub lawful : (t : ℕ) → l.refunded ≡ None → m.refunded ≡ Some t → IsLawful t m
  pub once : (t : ℕ) → l.refunded ≡ Some t → m ≡ l

-- ---- the lines of an account

-- what became of a line that was recorded
abbrev pub IsRecorded : (ℕ → Line → Type 0) → ℕ → Line → Type 0
IsRecorded IsLawful u m = (l : Line) × (l.refunded ≡ None) × LineFollows IsLawful u l m

-- The lines afterwards are those of before, each as it has changed, and new ones: none vanishes.
pub record LinesFollow (IsLawful : ℕ → Line → Type 0) (u : ℕ) (before after : List Line) (change : Line → Line) (new : List Line) : Type 0 where
  pub lines : bag_of in_order after ≡ bag_of in_order (new ++ map change before)
  pub each : (l : Line) → LineFollows IsLawful u l (change l)
  pub recorded : AllByRecursion (IsRecorded IsLawful u) new

-- ---- when a line may be given back

-- the grace of the line runs on a domain that the registrar sponsors
pub record IsInGrace (p : PolicyRules) (r : ℕ) (s : Registry) (d : Domain) (l : Line) : Type 0 where
  pub sponsor : d.sponsor ≡ r
  pub roid : is_on d.roid l ≡ true
  pub runs : runs_from p s.clock d.transferred l.started (period_of l.kind) ≡ true

-- the line is of the registrar's transfer of the domain, which began no grace, and which was rejected or
-- withdrawn at the moment
pub record IsTurnedDown (r t : ℕ) (d : Domain) (x : Transfer) (l : Line) : Type 0 where
  pub kind : is_kind l.kind kinds.Transfer ≡ true
  pub roid : is_on d.roid l ≡ true
  pub started : l.started ≡ None
  pub transfer : d.transfer ≡ Some x
  pub requester : x.requester ≡ r
  pub state : (x.state ≡ ClientRejected) ⊎ (x.state ≡ ClientCancelled)
  pub at : x.ac_date ≡ t

-- It is given back at the moment of the call: in its grace, in the registry as the call finds it, or
-- with the end of its transfer, in the one that it leaves.
pub record IsRefundable (p : PolicyRules) (r : ℕ) (found after : Registry) (t : ℕ) (l : Line) : Type 0 where
  pub moment : t ≡ found.clock
  pub cause : ((name : List ℕ) × (d : Domain) × (get found.domains name ≡ Some d) × IsInGrace p r found d l)
      ⊎ ((name : List ℕ) × (d : Domain) × (get after.domains name ≡ Some d) × (x : Transfer) × IsTurnedDown r t d x l)

-- ---- a call

-- nothing is given back
abbrev pub NoRefund : ℕ → Line → Type 0
NoRefund t l = ⊥

-- the charge of a year for which a name renewed itself
pub record IsRenewal (l : Line) : Type 0 where
  pub kind : is_kind l.kind kinds.AutoRenew ≡ true
  pub refunded : l.refunded ≡ None

-- What time makes of an account until a call finds it: names renew themselves, and graces of transfers begin.
pub record AccountAges (u : ℕ) (before found : List Line) : Type 0 where
  pub change : Line → Line
  pub added : List Line
  pub lines : LinesFollow NoRefund u before found change added
  pub renewals : AllByRecursion IsRenewal added

-- a deposit, or a charge of no cents
abbrev pub IsFree : Line → Type 0
IsFree l = (is_kind l.kind kinds.Deposit ≡ true) ⊎ (l.cents ≡ 0)

-- The balance isn't below zero afterwards; or it is no lower than it was found, and nothing is charged.
abbrev pub IsCovered : List Line → List Line → List Line → Type 0
IsCovered found after added =
    (pos 0 ≤ℤ balance after) ⊎ ((balance found ≤ℤ balance after) × AllByRecursion IsFree added)

-- what a call makes of an account that it found
pub record AccountChanges (IsLawful : ℕ → Line → Type 0) (u : ℕ) (found after : List Line) : Type 0 where
  pub change : Line → Line
  pub added : List Line
  pub lines : LinesFollow IsLawful u found after change added
  pub covered : IsCovered found after added

-- First time passes, and then the call is carried out: so automatic renewals alone take a balance below zero.
pub record AccountFollows (p : PolicyRules) (r : ℕ) (found before after : Registry) : Type 0 where
  pub aged : AccountAges found.clock (account_of r before).lines (account_of r found).lines
  pub called : AccountChanges (IsRefundable p r found after) found.clock (account_of r found).lines (account_of r after).lines

-- what a call at a moment made of one registry, in every registrar's account
abbrev pub MoneyFollows : PolicyRules → ℕ → Registry → Registry → Type 0
MoneyFollows p moment before after =
    (r : ℕ) → AccountFollows p r (lapsed p moment before) before after
