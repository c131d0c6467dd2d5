-- What the comparison of terms means.
use Rattle.std.proofs.{Common.{◌≡◌, ℕ, List, ◌++◌, drop, length, refl, ap}, lemmas.Bool.Decides.{Decides-and, Decides-eqb, Decides-like}}
use Rattle.std.proofs.lemmas.Slice.Eq.{bytes_eq-Decides, starts_is}
use Rattle.std.specs.{Bool.Decides, Str.bytes_eq, List.starts_with}
use Rattle.basis.proofs.SetLemmas.{same_set-Decides}
use Rattle.policy.specs.{declared.{prices.Prices.Prices, terms.Terms.Terms}, Terms.{continues, Continues, same_prices}}
use Rattle.policy.proofs.ScheduleLemmas.{days-continue-Decides}

prices-same : (a b c a' b' c' : ℕ) → a ≡ a' → b ≡ b' → c ≡ c' → let x : Prices = record { create = a; renew = b; transfer = c } in let y : Prices = record { create = a'; renew = b'; transfer = c' } in x ≡ y
prices-same a b c a' b' c' e1 e2 e3 = rw (e1, e2, e3) refl

prices-Decides : (x y : Prices) → Decides (same_prices x y) (x ≡ y)
prices-Decides x y = Decides-like (same_prices x y)
    (λ h. prices-same _ _ _ _ _ _ h.0.0 h.0.1 h.1)
    (λ e. ((ap (λ (p : Prices). p.create) e, ap (λ (p : Prices). p.renew) e), ap (λ (p : Prices). p.transfer) e))
    (Decides-and _ _ (Decides-and _ _ (Decides-eqb x.create y.create) (Decides-eqb x.renew y.renew)) (Decides-eqb x.transfer y.transfer))

ids-Decides : (later earlier : List (List ℕ)) → Decides (starts_with bytes_eq later earlier) ((added : List (List ℕ)) × (later ≡ earlier ++ added))
ids-Decides later earlier =
    let starts = starts_is bytes_eq-Decides later earlier (starts_with bytes_eq later earlier) refl in
    (λ t. (drop (length earlier) later, starts.0 t), λ k. starts.1 k.0 k.1)

pub continues-Decides : (clock : ℕ) (later earlier : Terms) → Decides (continues clock later earlier) (Continues clock later earlier)
unfolding continues
continues-Decides clock later earlier = Decides-like (continues clock later earlier)
    (λ h. record { zone = h.0.0.0.0; reserved = h.0.0.0.1; days = h.0.0.1; prices = h.0.1; ids = h.1 })
    (λ k. ((((k.zone, k.reserved), k.days), k.prices), k.ids))
    (Decides-and _ _ (Decides-and _ _ (Decides-and _ _ (Decides-and _ _ (bytes_eq-Decides later.zone earlier.zone) (same_set-Decides later.reserved earlier.reserved)) (days-continue-Decides clock later.days earlier.days)) (prices-Decides later.prices earlier.prices)) (ids-Decides later.ids earlier.ids))
