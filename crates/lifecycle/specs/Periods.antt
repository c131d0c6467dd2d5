-- The lengths of periods (RFC 3915, 3.1).
use Rattle.std.specs.Prelude.{ℕ, nat_lt, if◌then◌else◌, [], Option, Some, None}
use Rattle.std.specs.FinSet.{from_list}
use Rattle.calendar.specs.Moment.{plus_days, is_moment}
use Rattle.policy.specs.declared.days.Period.{Period}
use Rattle.policy.specs.declared.schedule.Schedule.{Schedule}
use Rattle.policy.specs.Rules.{PolicyRules, days_of}

-- the end of a period that begins at a moment, when the next state holds
abbrev pub end : Period → ℕ → PolicyRules → ℕ
end period start p = plus_days start (days_of period start p)

-- rules of which nothing but the lengths of periods is looked at
abbrev pub rules_with : Schedule → PolicyRules
rules_with days = record {
  zone = record { label = []; reserved = from_list [] };
  days = days;
  prices = record { create = 0; renew = 0; transfer = 0 };
  soa = record { mname = []; rname = []; refresh = 0; retry = 0; expire = 0; minimum = 0; ttl = 0 };
  ids = [];
}

-- the moment, unless it lies past the last one
abbrev pub in_time : ℕ → Option ℕ
in_time m = if is_moment m then Some m else None

-- the moment, if it has come
abbrev pub passed : ℕ → ℕ → Option ℕ
passed t m = if nat_lt t m then None else Some m
