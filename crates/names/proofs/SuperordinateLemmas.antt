-- The last labels of a canonical name are a canonical name.
use Rattle.std.proofs.Common.{◌≡◌, ℕ, ◌<◌, Bool, true, false, not, ◌&&◌, ◌||◌, List, [], ◌∷◌, ◌++◌, cond, Option, Some, None, option_and_then, option_map, All, refl, sym, ap, subst, ◌∙◌, append_assoc, eqb-true, arith}
use Rattle.std.proofs.lemmas.{Option.{cond_some, same_Some}, List.{Elements.{All-tail, All-weaker}, Folds.{list_any-append, list_all-append}}}
use Rattle.std.specs.{Char.is_ascii_uppercase, List.{list_all, onto_first}, Str.bytes_eq, Cmp.Lexicographic.bytes_decides}
use Rattle.idna.specs.declared.{deny_list.TheConstants.AsciiDenyList.STD3, options.Hyphens.TheVariants.Allow}
use Rattle.idna.specs.{declared.options.DnsLength.TheVariants.Ignore, BidiRule.{is_bidi_domain, passes_bidi_rule}, Display.IsLowercaseAscii}
use Rattle.idna.specs.{Labels.{is_full_stop, labels_of}, Uts46.{if_passes, validate, each, process_utf8}, Validity.passes_bidi}
use Rattle.idna.proofs.{LabelsLemmas.labels_of_cons, Uts46Lemmas.{IsOutputByte, All-to_ascii, process_utf8-lowercase, to_ascii-lowercase}}
use Rattle.names.specs.{Canonical.IsStable, Labels.is_dot}
use Rattle.names.specs.Zone.{◌>>=◌, ZoneRules, cut_before, cut_last, domain_at, superordinate_label, superordinate_of}
use Rattle.names.proofs.UnicodeLemmas.{processed}

onto_first-append : (b : ℕ) (parts first : List (List ℕ)) (head : List ℕ) (rest : List (List ℕ)) → first ≡ head ∷ rest → onto_first b (first ++ parts) ≡ onto_first b first ++ parts
onto_first-append b parts first head rest e = rw e refl

labels_of-append : (before name : List ℕ) → labels_of (before ++ 46 ∷ name) ≡ labels_of before ++ labels_of name
labels_of-append [] name = refl
labels_of-append (b ∷ before) name = by (is_full_stop b) refl (labels_of-append before name)
  where
    by : (v : Bool) → is_full_stop b ≡ v → labels_of (before ++ 46 ∷ name) ≡ labels_of before ++ labels_of name → labels_of (b ∷ before ++ 46 ∷ name) ≡ labels_of (b ∷ before) ++ labels_of name
    by true e more = rw (e, more) refl
    by false e more = let parts = labels_of_cons before in rw (e, more) (onto_first-append b (labels_of name) (labels_of before) parts.0 parts.1 parts.2)

filtered : {A : Type 0} (test : A → Bool) (o : Option A) (y : A) → option_and_then (if_passes test) o ≡ Some y → (o ≡ Some y) × (test y ≡ true)
filtered test None y e = absurd cc
filtered test (Some x) y e = let parts = cond_some (test x) x y e in (ap Some parts.1, rw parts.1 at parts.0)

each-append : {A B : Type 0} (f : A → Option B) (xs ys : List A) (zs : List B) → each f (xs ++ ys) ≡ Some zs → (front : List B) × (back : List B) × (each f ys ≡ Some back) × (zs ≡ front ++ back)
unfolding each
each-append f [] ys zs e = ([], zs, e, refl)
each-append {A} {B} f (x ∷ xs) ys zs e = by (f x) (each f (xs ++ ys)) refl e (each-append f xs ys)
  where
    by : (o : Option B) (r : Option (List B)) → each f (xs ++ ys) ≡ r → option_and_then (λ y. option_map (λ l. y ∷ l) r) o ≡ Some zs → ((more : List B) → each f (xs ++ ys) ≡ Some more → (front : List B) × (back : List B) × (each f ys ≡ Some back) × (more ≡ front ++ back)) → (front : List B) × (back : List B) × (each f ys ≡ Some back) × (zs ≡ front ++ back)
    by (Some y) (Some more) p same rec = let it = rec more p in (y ∷ it.0, it.1, it.2, sym (same_Some _ _ same) ∙ ap (λ l. y ∷ l) it.3)
    by (Some y) None p same rec = absurd cc
    by None r p same rec = absurd cc

All-back : (P : ℕ → Type 0) (xs ys : List ℕ) → All P (xs ++ ys) → All P ys
All-back P [] ys h = h
All-back P (x ∷ xs) ys h = All-back P xs ys (All-tail P x (xs ++ ys) h)

bidi_by : (a b p q : Bool) → (not (a || b) || (p && q)) ≡ true → (not b || q) ≡ true
bidi_by a b p q e = grind (arith, e)

passes_bidi-back : (front back : List (List ℕ)) → passes_bidi (front ++ back) ≡ true → passes_bidi back ≡ true
unfolding is_bidi_domain
passes_bidi-back front back e = bidi_by (is_bidi_domain front) (is_bidi_domain back) (list_all passes_bidi_rule front) (list_all passes_bidi_rule back) (rw (list_any-append, list_all-append) at e)

abbrev IsLowercaseByte : ℕ → Type 0
IsLowercaseByte c = (c < 128) × (is_ascii_uppercase c ≡ false)

lowercase : (name : List ℕ) → IsStable name → IsLowercaseAscii name
lowercase name stable = All-weaker (IsOutputByte STD3) IsLowercaseByte (λ c byte. (byte.ascii, byte.lower)) name (All-to_ascii STD3 Allow Ignore name name stable)

-- what follows a dot of a canonical name
IsStable-after : (before name : List ℕ) → IsStable (before ++ 46 ∷ name) → IsStable name
IsStable-after before name stable =
    let whole = before ++ 46 ∷ name in
    let low = lowercase whole stable in
    let low_name = All-back IsLowercaseByte before (46 ∷ name) low in
    let lower : IsLowercaseAscii name = All-tail IsLowercaseByte 46 name low_name in
    let all = processed whole stable in
    let kept = filtered passes_bidi _ all.0 (sym (process_utf8-lowercase STD3 Allow whole low) ∙ all.1) in
    let parts = each-append (validate STD3 Allow) (labels_of before) (labels_of name) all.0 (rw labels_of-append at kept.0) in
    let bidi : passes_bidi parts.1 ≡ true = passes_bidi-back parts.0 parts.1 (rw parts.3 at kept.1) in
    let e : process_utf8 STD3 Allow name ≡ Some parts.1 = process_utf8-lowercase STD3 Allow name lower ∙ rw (parts.2, bidi) refl in
    to_ascii-lowercase STD3 Allow name parts.1 lower e

-- a name is what `cut_last` gives, with a dot between
cut_last-Some : (name before label : List ℕ) → cut_last name ≡ Some (before, label) → name ≡ before ++ 46 ∷ label
unfolding cut_last
cut_last-Some [] before label e = absurd cc
cut_last-Some (b ∷ rest) before label e = by (cut_last rest) refl e (λ x y. cut_last-Some rest x y)
  where
    none : (v : Bool) → is_dot b ≡ v → cut_before b rest None ≡ Some (before, label) → b ∷ rest ≡ before ++ 46 ∷ label
    none true dot some =
        let parts : ([], rest) ≡ (before, label) = same_Some _ _ (rw dot at some) in
        ap (λ n. n ∷ rest) (eqb-true b 46 dot) ∙ ap (λ (p : List ℕ × List ℕ). p.0 ++ 46 ∷ p.1) parts
    none false dot some = absurd (let never = rw dot at some in cc)

    by : (o : Option (List ℕ × List ℕ)) → cut_last rest ≡ o → cut_before b rest o ≡ Some (before, label) → ((x y : List ℕ) → cut_last rest ≡ Some (x, y) → rest ≡ x ++ 46 ∷ y) → b ∷ rest ≡ before ++ 46 ∷ label
    by (Some parts) cut some more = ap (λ l. b ∷ l) (more parts.0 parts.1 cut) ∙ ap (λ (p : List ℕ × List ℕ). p.0 ++ 46 ∷ p.1) (same_Some _ _ some)
    by None cut some more = none (is_dot b) refl some

-- the name of a host in the zone is some labels, a dot and its superordinate domain
abbrev Spells : List ℕ → List ℕ → Type 0
Spells host domain = (lower : List ℕ) × (host ≡ lower ++ 46 ∷ domain)

at_zone : (zone : ZoneRules) (host domain : List ℕ) (upper lower : List ℕ × List ℕ) (v : Bool) → bytes_eq upper.1 zone.label ≡ v → cut_last host ≡ Some upper → cut_last upper.0 ≡ Some lower → option_map (domain_at zone) (cond v (Some lower.1) None) ≡ Some domain → Spells host domain
at_zone zone host domain upper lower false eq cut cut_again e = absurd cc
at_zone zone host domain upper lower true eq cut cut_again e =
    let top : upper.1 ≡ zone.label = (bytes_decides _ _).0 eq in
    let below : upper.0 ≡ lower.0 ++ 46 ∷ lower.1 = cut_last-Some upper.0 lower.0 lower.1 cut_again in
    let whole : host ≡ upper.0 ++ 46 ∷ upper.1 = cut_last-Some host upper.0 upper.1 cut in
    let same : domain_at zone lower.1 ≡ domain = same_Some _ _ e in
    (lower.0, whole ∙ ap (λ l. l ++ 46 ∷ upper.1) below ∙ append_assoc lower.0 (46 ∷ lower.1) (46 ∷ upper.1) ∙ ap (λ l. lower.0 ++ 46 ∷ (lower.1 ++ 46 ∷ l)) top ∙ ap (λ l. lower.0 ++ 46 ∷ l) same)

below_zone : (zone : ZoneRules) (host domain : List ℕ) (upper : List ℕ × List ℕ) (o : Option (List ℕ × List ℕ)) → cut_last host ≡ Some upper → cut_last upper.0 ≡ o → option_map (domain_at zone) (o >>= (λ lower. cond (bytes_eq upper.1 zone.label) (Some lower.1) None)) ≡ Some domain → Spells host domain
below_zone zone host domain upper None cut cut_again e = absurd cc
below_zone zone host domain upper (Some lower) cut cut_again e = at_zone zone host domain upper lower (bytes_eq upper.1 zone.label) refl cut cut_again e

pub spells-superordinate_of : (zone : ZoneRules) (host domain : List ℕ) → superordinate_of zone host ≡ Some domain → (lower : List ℕ) × (host ≡ lower ++ 46 ∷ domain)
unfolding superordinate_of superordinate_label
spells-superordinate_of zone host domain e = by (cut_last host) refl e
  where
    by : (o : Option (List ℕ × List ℕ)) → cut_last host ≡ o → option_map (domain_at zone) (o >>= (λ upper. cut_last upper.0 >>= (λ lower. cond (bytes_eq upper.1 zone.label) (Some lower.1) None))) ≡ Some domain → Spells host domain
    by None cut some = absurd cc
    by (Some upper) cut some = below_zone zone host domain upper (cut_last upper.0) cut refl some

pub IsStable-superordinate_of : (zone : ZoneRules) (host domain : List ℕ) → IsStable host → superordinate_of zone host ≡ Some domain → IsStable domain
IsStable-superordinate_of zone host domain stable e =
    let spelled = spells-superordinate_of zone host domain e in
    IsStable-after spelled.0 domain (subst IsStable spelled.1 stable)
