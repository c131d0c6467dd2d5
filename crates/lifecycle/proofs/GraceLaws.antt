-- Graces hang on the lines of the domain alone, and not on their order.
use Rattle.std.proofs.Common.{◌≡◌, ℕ, Bool, false, List, [], ◌∷◌, Option, refl, sym, ap, ◌∙◌, arith}
use Rattle.std.specs.List.{filter, list_any}
use Rattle.accounts.specs.{declared.line.{Line.Line, LineKind.LineKind}, LineChanges.unasked, Lines.{in_order, is_kind, is_on}}
use Rattle.accounts.specs.declared.line.LineKind.TheVariants as kinds
use Rattle.basis.specs.Bag.{bag_of}
use Rattle.basis.proofs.BagLaws.{any-bag_of}
use Rattle.objects.specs.declared.roid.Roid.{Roid}
use Rattle.policy.specs.Rules.{PolicyRules}
use Rattle.lifecycle.specs.Graces.{graces, gives}

-- what no other item passes is asked of a part alone
any-filter : (test part : Line → Bool) → ((l : Line) → part l ≡ false → test l ≡ false) → (ls : List Line) → list_any test (filter part ls) ≡ list_any test ls
any-filter test part out [] = refl
any-filter test part out (l ∷ ls) = grind (arith, out l, any-filter test part out ls)

pub gives-part : (p : PolicyRules) (t : ℕ) (roid : Roid) (since : Option ℕ) (kind : LineKind) (lines : List Line) → list_any (gives kind p t roid since) (filter (is_on roid) lines) ≡ list_any (gives kind p t roid since) lines
gives-part p t roid since kind lines = any-filter (gives kind p t roid since) (is_on roid) (λ l out. unasked (is_kind l.kind kind) (is_on roid l) _ out) lines

on-domain : (p : PolicyRules) (t : ℕ) (roid : Roid) (since : Option ℕ) (kind : LineKind) (lines bag : List Line) → bag_of in_order lines ≡ filter (is_on roid) bag → list_any (gives kind p t roid since) lines ≡ list_any (gives kind p t roid since) bag
on-domain p t roid since kind lines bag e =
    sym (any-bag_of in_order (gives kind p t roid since) lines) ∙ ap (list_any (gives kind p t roid since)) e
    ∙ gives-part p t roid since kind bag

pub graces-on : (p : PolicyRules) (t : ℕ) (roid : Roid) (since : Option ℕ) (lines bag : List Line) → bag_of in_order lines ≡ filter (is_on roid) bag → graces p t roid since lines ≡ graces p t roid since bag
unfolding graces
graces-on p t roid since lines bag e = λ i. record {
  add = on-domain p t roid since kinds.Create lines bag e i;
  auto_renew = on-domain p t roid since kinds.AutoRenew lines bag e i;
  renew = on-domain p t roid since kinds.Renew lines bag e i;
  transfer = on-domain p t roid since kinds.Transfer lines bag e i;
}
