-- Lines of an account.
use Rattle.std.specs.Prelude.{ℕ, suc, map, fold, ◌==◌, nat_le, nat_lt, Bool, true, false, not, ◌&&◌, ◌||◌, if◌then◌else◌, List, [], ◌∷◌, ◌++◌, Option, Some, None, is_some, ℤ, pos, ◌+ℤ◌, ◌-ℤ◌}
use Rattle.std.specs.Cmp.Lexicographic.{slice_cmp}
use Rattle.std.specs.Ordering.{nat_cmp}
use Rattle.std.specs.List.{filter}
use Rattle.basis.specs.Bag.{add, precedes, taken}
use Rattle.objects.specs.declared.roid.ObjectKind.{ObjectKind}
use Rattle.objects.specs.declared.roid.ObjectKind.TheVariants as objects
use Rattle.objects.specs.declared.roid.Roid.{Roid}
use Rattle.accounts.specs.declared.line.Line.{Line}
use Rattle.accounts.specs.declared.line.LineKind.{LineKind}
use Rattle.accounts.specs.declared.line.LineSwap.{LineSwap}
use Rattle.accounts.specs.declared.line.LineKind.TheVariants as kinds
use Rattle.accounts.specs.declared.line.TransferRefund.{TransferRefund}
use Rattle.accounts.specs.declared.line.TransferStart.{TransferStart}

-- ---- what a line is about

abbrev pub kind_rank : LineKind → ℕ
kind_rank kinds.Deposit = 0
kind_rank kinds.Create = 1
kind_rank kinds.Renew = 2
kind_rank kinds.AutoRenew = 3
kind_rank kinds.Transfer = 4
kind_rank kinds.Restore = 5

abbrev pub is_kind : LineKind → LineKind → Bool
is_kind a b = kind_rank a == kind_rank b

abbrev pub object_rank : ObjectKind → ℕ
object_rank objects.Contact = 0
object_rank objects.Domain = 1
object_rank objects.Host = 2

abbrev pub is_same_roid : Roid → Roid → Bool
is_same_roid a b = (object_rank a.kind == object_rank b.kind) && ((a.creator == b.creator) && (a.serial == b.serial))

abbrev pub is_same_domain : Option Roid → Option Roid → Bool
is_same_domain None None = true
is_same_domain (Some a) (Some b) = is_same_roid a b
is_same_domain None (Some b) = false
is_same_domain (Some a) None = false

abbrev pub is_same_number : Option ℕ → Option ℕ → Bool
is_same_number None None = true
is_same_number (Some a) (Some b) = a == b
is_same_number None (Some b) = false
is_same_number (Some a) None = false

-- two lines are for the same
unfoldable pub is_line_for : Line → Line → Bool
is_line_for a b = is_kind a.kind b.kind && (is_same_domain a.roid b.roid && ((a.recorded == b.recorded) && (a.years == b.years)))

-- and are the same in all that they say
unfoldable pub is_line : Line → Line → Bool
is_line a b = is_line_for a b && ((a.cents == b.cents) && (is_same_number a.started b.started && is_same_number a.refunded b.refunded))

abbrev pub is_of : Roid → Option Roid → Bool
is_of roid None = false
is_of roid (Some other) = is_same_roid other roid

-- the line was charged for the domain
abbrev pub is_on : Roid → Line → Bool
is_on roid l = is_of roid l.roid

-- the line was charged for a transfer of the domain, and not given back
abbrev pub is_for_transfer : Roid → Line → Bool
is_for_transfer roid l = is_kind l.kind kinds.Transfer && (is_on roid l && not (is_some l.refunded))

-- of a transfer that isn't completed
abbrev pub waits : Roid → Line → Bool
waits roid l = is_for_transfer roid l && not (is_some l.started)

-- ---- what is done to lines

-- a transfer that was refused or withdrawn gives its charge back in full
abbrev pub transfer_refunded : TransferRefund → Line → Line
transfer_refunded x l = if waits x.roid l then record l { refunded = Some x.moment } else l

-- the grace began before the moment, or then and with no more years
abbrev pub begins_by : Option ℕ → ℕ → ℕ → ℕ → Bool
begins_by None years moment most = false
begins_by (Some started) years moment most = nat_lt started moment || ((started == moment) && nat_le years most)

-- The grace of a completed transfer begins. One that began earlier stays as it is, and so it makes no
-- difference in which order the beginnings of several are given.
abbrev pub transfer_started : TransferStart → Line → Line
transfer_started x l =
    if is_for_transfer x.roid l && not (begins_by l.started l.years x.moment x.years)
    then record l { started = Some x.moment; years = x.years }
    else l

-- ---- money

-- a deposit's cents, and a charge's taken off unless it was given back
abbrev pub amount_of : Bool → Bool → ℕ → ℤ
amount_of deposit refunded cents = if deposit then pos cents else (if refunded then pos 0 else pos 0 -ℤ pos cents)

abbrev pub amount : Line → ℤ
amount l = amount_of (is_kind l.kind kinds.Deposit) (is_some l.refunded) l.cents

-- deposits less charges plus refunds
unfoldable pub balance : List Line → ℤ
balance [] = pos 0
balance (l ∷ ls) = amount l +ℤ balance ls

-- ---- bags of lines

abbrev pub maybe_number : Option ℕ → ℕ
maybe_number None = 0
maybe_number (Some n) = suc n

abbrev pub roid_numbers : Option Roid → List ℕ
roid_numbers None = 0 ∷ 0 ∷ 0 ∷ []
roid_numbers (Some roid) = suc (object_rank roid.kind) ∷ roid.creator ∷ roid.serial ∷ []

-- the numbers that tell a line from any other
unfoldable pub numbers : Line → List ℕ
numbers l = kind_rank l.kind ∷ roid_numbers l.roid ++ l.recorded ∷ l.years ∷ l.cents ∷ maybe_number l.started ∷ maybe_number l.refunded ∷ []

-- the order of lines in a bag
unfoldable pub in_order : Line → Line → Bool
in_order a b = precedes (slice_cmp nat_cmp) (numbers a) (numbers b)

-- ---- one line for another

-- the lines that a change makes others of, each with what it makes of it
abbrev pub swaps_of : (Line → Line) → List Line → List LineSwap
swaps_of f lines = map (λ l. record { from = l; to = f l }) (filter (λ l. not (is_line (f l) l)) lines)

-- the bag with one line for another
abbrev pub swapped : List Line → LineSwap → List Line
swapped bag x = add in_order x.to (taken in_order x.from bag)

-- the first swap first
abbrev pub swapped_all : List LineSwap → List Line → List Line
swapped_all swaps bag = fold swapped bag swaps
