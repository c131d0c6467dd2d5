-- The part of a policy that the registry's book is used under.
use Rattle.std.specs.Prelude.{◌≡◌, ℕ, ◌<◌, nat_lt, Bool, ◌&&◌, ◌==◌, List, ◌++◌, drop, length}
use Rattle.std.specs.List.{AllByRecursion, list_all, starts_with}
use Rattle.std.specs.Str.{bytes_eq}
use Rattle.basis.specs.Sets.{is_same_set}
use Rattle.policy.specs.declared.days.Days.{Days}
use Rattle.policy.specs.declared.schedule.DatedDays.{DatedDays}
use Rattle.policy.specs.declared.schedule.Schedule.{Schedule}
use Rattle.policy.specs.declared.prices.Prices.{Prices}
use Rattle.policy.specs.declared.terms.Terms.{Terms}
use Rattle.policy.specs.Rules.{PolicyRules}

abbrev pub terms_of : PolicyRules → Terms
terms_of p = record { zone = p.zone.label; reserved = p.zone.reserved; days = p.days; prices = p.prices; ids = p.ids }

abbrev pub same_days : Days → Days → Bool
same_days a b =
    (a.add == b.add) && (a.auto_renew == b.auto_renew) && (a.renew == b.renew)
    && (a.transfer == b.transfer) && (a.redemption == b.redemption) && (a.restore == b.restore)
    && (a.pending_delete == b.pending_delete) && (a.answer == b.answer) && (a.lock == b.lock)

abbrev pub same_prices : Prices → Prices → Bool
same_prices a b = (a.create == b.create) && (a.renew == b.renew) && (a.transfer == b.transfer)

abbrev pub same_table : DatedDays → DatedDays → Bool
same_table a b = (a.from == b.from) && same_days a.days b.days

abbrev pub begins_after : ℕ → DatedDays → Bool
begins_after clock table = nat_lt clock table.from

-- the same tables, and after them others that begin later than the clock
unfoldable pub days_continue : ℕ → Schedule → Schedule → Bool
days_continue clock later earlier =
    same_days later.first earlier.first
    && starts_with same_table later.later earlier.later
    && list_all (begins_after clock) (drop (length earlier.later) later.later)

-- The same but for registrars that were added after the earlier ones, and for tables of days that were
-- added after the earlier ones and begin later than the clock.
unfoldable pub continues : ℕ → Terms → Terms → Bool
continues clock later earlier =
    bytes_eq later.zone earlier.zone
    && is_same_set later.reserved earlier.reserved
    && days_continue clock later.days earlier.days
    && same_prices later.prices earlier.prices
    && starts_with bytes_eq later.ids earlier.ids

-- which means that each period that begins by the clock keeps its length
pub record DaysContinue (clock : ℕ) (later earlier : Schedule) : Type 0 where
  pub first : later.first ≡ earlier.first
  pub added : List DatedDays
  pub tables : later.later ≡ earlier.later ++ added
  pub after : AllByRecursion (λ (table : DatedDays). clock < table.from) added

-- and that the earlier registrars keep their places, and nothing else differs
pub record Continues (clock : ℕ) (later earlier : Terms) : Type 0 where
  pub zone : later.zone ≡ earlier.zone
  pub reserved : later.reserved ≡ earlier.reserved
  pub days : DaysContinue clock later.days earlier.days
  pub prices : later.prices ≡ earlier.prices
  pub ids : (added : List (List ℕ)) × (later.ids ≡ earlier.ids ++ added)
