-- A superordinate domain is the last two labels of its host.
use Rattle.std.proofs.Common.{◌≡◌, ℕ, Bool, true, false, List, ◌∷◌, ◌++◌, cond, Option, Some, None, option_map, refl, ap, ◌∙◌}
use Rattle.std.specs.{Str.bytes_eq, Cmp.Lexicographic.bytes_decides}
use Rattle.names.specs.Zone.{◌>>=◌, ZoneRules, cut_last, domain_at, last_two_of, superordinate_label, superordinate_of}

last_two : (zone : ZoneRules) (upper lower : List ℕ × List ℕ) (domain : List ℕ) (v : Bool) → bytes_eq upper.1 zone.label ≡ v → option_map (domain_at zone) (cond v (Some lower.1) None) ≡ Some domain
    → Some (lower.1 ++ 46 ∷ upper.1) ≡ Some domain
last_two zone upper lower domain true eq e = ap (λ (l : List ℕ). Some (lower.1 ++ 46 ∷ l)) ((bytes_decides _ _).0 eq) ∙ e
last_two zone upper lower domain false eq e = absurd cc

pub last_two-superordinate : (zone : ZoneRules) (host domain : List ℕ) → superordinate_of zone host ≡ Some domain → last_two_of host ≡ Some domain
unfolding superordinate_of superordinate_label last_two_of
last_two-superordinate zone host domain e = by (cut_last host) e
  where
    at : (upper : List ℕ × List ℕ) (o : Option (List ℕ × List ℕ)) → option_map (domain_at zone) (o >>= (λ lower. cond (bytes_eq upper.1 zone.label) (Some lower.1) None)) ≡ Some domain
        → (o >>= (λ lower. Some (lower.1 ++ 46 ∷ upper.1))) ≡ Some domain
    at upper None some = absurd cc
    at upper (Some lower) some = last_two zone upper lower domain (bytes_eq upper.1 zone.label) refl some

    by : (o : Option (List ℕ × List ℕ)) → option_map (domain_at zone) (o >>= (λ upper. cut_last upper.0 >>= (λ lower. cond (bytes_eq upper.1 zone.label) (Some lower.1) None))) ≡ Some domain
        → (o >>= (λ upper. cut_last upper.0 >>= (λ lower. Some (lower.1 ++ 46 ∷ upper.1)))) ≡ Some domain
    by None some = absurd cc
    by (Some upper) some = at upper (cut_last upper.0) some
