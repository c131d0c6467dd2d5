-- The values of a policy, and what is asked of them.
use Rattle.std.specs.Prelude.{ℕ, zero, suc, ◌+◌, ◌≤◌, ◌<◌, nat_le, Bool, false, if◌then◌else◌, List, [], ◌∷◌, fold, length, position, slice_get, Option, Some, None, option_map}
use Rattle.std.specs.List.{AllByRecursion, IsDistinct}
use Rattle.std.specs.Str.{bytes_eq}
use Rattle.names.specs.Zone.{ZoneRules}
use Rattle.policy.specs.declared.days.Days.{Days}
use Rattle.policy.specs.declared.schedule.DatedDays.{DatedDays}
use Rattle.policy.specs.declared.schedule.Schedule.{Schedule}
use Rattle.policy.specs.declared.days.Period.{Period}
use Rattle.policy.specs.declared.days.Period.TheVariants.{Add, AutoRenew, Renew, Transfer, Redemption, Restore, PendingDelete, Answer, Lock}
use Rattle.policy.specs.declared.prices.Prices.{Prices}
use Rattle.policy.specs.declared.soa.Soa.{Soa}

-- what the registry is run by: no password is in it
pub record PolicyRules : Type 0 where
  pub zone : ZoneRules
  pub days : Schedule
  pub prices : Prices
  pub soa : Soa
  -- the ids of the registrars, in the order of the file
  pub ids : List (List ℕ)

-- ---- lengths of days, and prices

abbrev pub length_of : Period → Days → ℕ
length_of Add days = days.add
length_of AutoRenew days = days.auto_renew
length_of Renew days = days.renew
length_of Transfer days = days.transfer
length_of Redemption days = days.redemption
length_of Restore days = days.restore
length_of PendingDelete days = days.pending_delete
length_of Answer days = days.answer
length_of Lock days = days.lock

-- the lengths at a moment, by what they were before and a table that may have begun
abbrev pub then_by : ℕ → Days → DatedDays → Days
then_by m days table = if nat_le table.from m then table.days else days

-- the lengths in force at a moment: those of the last table that begins by then, or the first ones
abbrev pub in_force : ℕ → Schedule → Days
in_force m schedule = fold (then_by m) schedule.first schedule.later

-- the days of a period that begins at a moment: the length in force then, which it keeps
abbrev pub days_of : Period → ℕ → PolicyRules → ℕ
days_of period start p = length_of period (in_force start p.days)

abbrev pub IsDayCount : ℕ → Type 0
IsDayCount n = (1 ≤ n) × (n ≤ 3650)

abbrev pub IsPrice : ℕ → Type 0
IsPrice cents = cents ≤ 1_000_000_000

pub record AreDays (days : Days) : Type 0 where
  pub add : IsDayCount days.add
  pub auto_renew : IsDayCount days.auto_renew
  pub renew : IsDayCount days.renew
  pub transfer : IsDayCount days.transfer
  pub redemption : IsDayCount days.redemption
  pub restore : IsDayCount days.restore
  pub pending_delete : IsDayCount days.pending_delete
  pub answer : IsDayCount days.answer
  pub lock : IsDayCount days.lock

-- each table begins after the one before it, and the first after that moment
abbrev pub BeginAfter : ℕ → List DatedDays → Type 0
BeginAfter before [] = Unit {0}
BeginAfter before (table ∷ tables) = (before < table.from) × BeginAfter table.from tables

-- all lengths are within the range, and the tables begin one after another, after 2000-01-01T00:00:00Z
pub record IsSchedule (schedule : Schedule) : Type 0 where
  pub first : AreDays schedule.first
  pub later : AllByRecursion (λ (table : DatedDays). AreDays table.days) schedule.later
  pub rise : BeginAfter 946_684_800 schedule.later

pub record ArePrices (prices : Prices) : Type 0 where
  pub create : IsPrice prices.create
  pub renew : IsPrice prices.renew
  pub transfer : IsPrice prices.transfer

-- ---- the start of authority

-- seconds within the range of a TTL (RFC 2181, 8)
abbrev pub IsTime : ℕ → Type 0
IsTime seconds = seconds ≤ 2_147_483_647

pub record AreTimes (soa : Soa) : Type 0 where
  pub refresh : IsTime soa.refresh
  pub retry : IsTime soa.retry
  pub expire : IsTime soa.expire
  pub minimum : IsTime soa.minimum
  pub ttl : IsTime soa.ttl

-- ---- registrars

-- from 1 to 1,000
abbrev pub IsRegistrarCount : ℕ → Type 0
IsRegistrarCount n = (1 ≤ n) × (n ≤ 1000)

-- a registrar's place, counted from 1
abbrev pub IsRegistrar : PolicyRules → ℕ → Type 0
IsRegistrar p place = (1 ≤ place) × (place ≤ length p.ids)

abbrev pub has_id : List ℕ → List ℕ → Bool
has_id id own = bytes_eq own id

-- the place of the registrar with this id
abbrev pub place_of : List ℕ → PolicyRules → Option ℕ
place_of id p = option_map (λ index. index + 1) (position (has_id id) p.ids)

-- the id of the registrar at a place
abbrev pub id_at : PolicyRules → ℕ → Option (List ℕ)
id_at p zero = None
id_at p (suc index) = slice_get p.ids index

-- ---- passwords, in the order of the registrars' places

abbrev pub password_at : List (List ℕ) → ℕ → Option (List ℕ)
password_at passwords zero = None
password_at passwords (suc index) = slice_get passwords index

abbrev pub is_text : List ℕ → Option (List ℕ) → Bool
is_text text None = false
is_text text (Some own) = bytes_eq own text

-- who logs in with this password, of the registrar at this place, if there is one
abbrev pub login_at : List (List ℕ) → List ℕ → Option ℕ → Option ℕ
login_at passwords password None = None
login_at passwords password (Some place) =
    if is_text password (password_at passwords place) then Some place else None

abbrev pub place_of_login : List ℕ → List ℕ → PolicyRules → List (List ℕ) → Option ℕ
place_of_login id password p passwords = login_at passwords password (place_of id p)

-- ---- what is true of every policy

pub record AreSound (days : Schedule) (prices : Prices) (soa : Soa) (ids : List (List ℕ)) : Type 0 where
  pub days_in_range : IsSchedule days
  pub prices_in_range : ArePrices prices
  pub times_in_range : AreTimes soa
  pub count : IsRegistrarCount (length ids)
  -- no two registrars have one id
  pub distinct : IsDistinct bytes_eq ids

abbrev pub IsSound : PolicyRules → Type 0
IsSound p = AreSound p.days p.prices p.soa p.ids
