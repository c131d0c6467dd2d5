-- How many domains each registrar holds, and the column that says so.
use Rattle.std.specs.Prelude.{ℕ, ℤ, pos, Bool, true, filter, length, cond, Option}
use Rattle.std.specs.FinMap.{values}
use Rattle.std.specs.List.{list_all}
use Rattle.std.specs.Option.{option_map_or}
use Rattle.std.specs.Ordering.{int_eq}
use Rattle.objects.specs.declared.domain.Domain.{Domain}
use Rattle.objects.specs.Sight.{is_party}
use Rattle.sqlcolumns.specs.Numbers.{registrar_in}
use Rattle.sqlaccounts.specs.Accounts.{row_of}
use Rattle.sqldomains.specs.Domains.{domains_of}
use Rattle.sqltables.specs.declared.account.AccountRow.{AccountRow}
use Rattle.sqltables.specs.Content.{Content}

-- how many domains a registrar sponsors, or gets by a pending transfer
abbrev pub held_of : Content → ℕ → ℕ
held_of xs r = length (filter (λ d. is_party r d.sponsor d.transfer) (values (domains_of xs)))

-- the column says how many; a row whose number is no registrar's place has nothing to say
abbrev pub is_held_right : Content → AccountRow → Bool
is_held_right xs row =
    option_map_or (λ place. int_eq row.held (pos (held_of xs place))) (registrar_in row.id) true

-- that of the row with a number, if there is one
abbrev pub has_right_held : Content → ℤ → Bool
has_right_held xs id = option_map_or (is_held_right xs) (row_of xs id) true

-- all accounts' columns say it
abbrev pub helds_are_right : Content → Bool
helds_are_right xs =
    list_all (λ (row : AccountRow). has_right_held xs row.id) xs.accounts

-- ---- one domain more, or less

abbrev pub is_held_by : ℕ → Domain → Bool
is_held_by r d = is_party r d.sponsor d.transfer

abbrev pub counts_one : Bool → ℕ
counts_one b = cond b 1 0

-- 1 where a domain is there and passes
abbrev pub counts_where : {X : Type 0} → (X → Bool) → Option X → ℕ
counts_where test it = option_map_or (λ x. counts_one (test x)) it 0
