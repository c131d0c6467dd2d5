-- Statuses that are shown are those that pass the test of being shown.
use Rattle.std.proofs.{Common.{◌≡◌, Bool, true, ◌&&◌, filter, rules, ap, ◌∙◌, arith}, lemmas.{Bool.Decides.nat_tests, Map.Views.any-filter_same}}
use Rattle.std.proofs.Math.Bool.{and-true}
use Rattle.objects.specs.declared.status.Status.{Status}
use Rattle.objects.specs.Statuses.{all_statuses, is_status, has_status}

-- statuses of one rank are one
pub same_status : (a b : Status) → is_status a b ≡ true → a ≡ b
same_status a b e = grind (arith, nat_tests, e)

is_any : (s : Status) → has_status all_statuses s ≡ true
is_any s = search rules

pub has_status-filter : (test : Status → Bool) (s : Status) → has_status (filter test all_statuses) s ≡ test s
has_status-filter test s =
    any-filter_same (λ other. is_status other s) test (test s) (λ other e. ap test (same_status other s e)) all_statuses
    ∙ ap (λ (b : Bool). test s && b) (is_any s) ∙ and-true (test s)
