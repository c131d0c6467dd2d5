-- A login depends on one password.
use Rattle.std.proofs.Common.{◌≡◌, ℕ, List, Option, Some, None, refl, ap}
use Rattle.std.specs.Prelude.{if◌then◌else◌, option_and_then}
use Rattle.policy.specs.Rules.{is_text, login_at, password_at, place_of}
use Rattle.protocol.specs.declared.code.Code.{Code, TheVariants.UnimplementedVersion}
use Rattle.eppwire.specs.{Answers.{code_by, is_our_version}, Isolation.LoginsAreIsolated}

same-login : (passwords others : List (List ℕ)) (password : List ℕ) (place : Option ℕ) → option_and_then (password_at passwords) place ≡ option_and_then (password_at others) place
    → login_at passwords password place ≡ login_at others password place
same-login passwords others password None same = refl
same-login passwords others password (Some place) same = ap (λ (own : Option (List ℕ)). let r : Option ℕ = if is_text password own then Some place else None in r) same

pub isolated_logins : LoginsAreIsolated
isolated_logins p passwords others c same =
    let logged-in = same-login passwords others c.password (place_of c.id p) same in (
      ap (λ (r : Option ℕ). let caller : Option ℕ = if is_our_version c.version then r else None in caller) logged-in,
      ap (λ (r : Option ℕ). let code : Code = if is_our_version c.version then code_by r else UnimplementedVersion in code) logged-in,
    )
